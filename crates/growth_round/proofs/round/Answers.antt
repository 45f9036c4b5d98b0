use mathlib.Core.Path.{refl, sym, ◌∙◌}
use mathlib.Core.List.{[], ◌∷◌}
use Rattle.columns.proofs.Columns.{keep_more}
use Rattle.growth_round.proofs.Rows.{checking, stuck_named, held, settling, cooling, staying, rep_next, kept}
use Rattle.growth_round.proofs.round.Goals as goal

pub stuck-requires : goal.stuck-requires
stuck-requires c = let o = c.touch-m.ensures in checking c.args.g.now c.args.adj.now c.args.t.now c.requires.space c.requires.fit c.requires.rep c.touch-m.new.t o.touched o.others o.not_grown

pub returns-in-Some : goal.returns-in-Some
returns-in-Some c =
    let o = c.touch-m.ensures in
    record {
      stepped = record {
        stuck_is = c.in-Some.ensures ∙ stuck_named c.args.g.now c.args.adj.now c.args.t.now c.requires.space c.requires.fit c.requires.rep c.touch-m.new.t o.touched o.others o.not_grown;
        held = λ d z. held c.args.g.now c.args.adj.now c.args.t.now c.requires.space c.requires.fit c.requires.rep c.touch-m.new.t o.touched o.others o.not_grown;
        moved = λ z. cc;
      };
      others = (keep_more (0 ∷ 1 ∷ []) refl o.others.0, keep_more (1 ∷ 2 ∷ 3 ∷ 4 ∷ []) refl o.others.1, keep_more (1 ∷ 2 ∷ 3 ∷ []) refl o.others.2, keep_more (0 ∷ 1 ∷ 2 ∷ []) refl o.others.3);
      same = o.same;
    }

pub settle-k-requires : goal.settle-k-requires
settle-k-requires c =
    let o = c.touch-m.ensures in
    record { settling = settling c.args.g.now c.args.adj.now c.args.t.now c.requires.space c.requires.fit c.requires.rep c.touch-m.new.t o.touched o.others o.not_grown }

pub cool-requires : goal.cool-requires
cool-requires c =
    let o = c.touch-m.ensures in
    let w = c.settle-k.ensures in
    cooling c.args.g.now c.args.adj.now c.args.t.now c.requires.space c.requires.fit c.requires.rep c.touch-m.new.t o.touched o.others o.not_grown c.settle-k.new.t w.settled w.others w.same.growth_long

pub still-b-requires : goal.still-b-requires
still-b-requires c =
    let o = c.touch-m.ensures in
    let w = c.settle-k.ensures in
    record { staying = staying c.args.g.now c.args.adj.now c.args.t.now c.requires.space c.requires.fit c.requires.rep c.touch-m.new.t o.touched o.others o.not_grown c.settle-k.new.t w.settled w.others w.same.growth_long c.cool.ensures }

pub returns-clause-stepped : goal.returns-clause-stepped
returns-clause-stepped c =
    let o = c.touch-m.ensures in
    let w = c.settle-k.ensures in
    record {
      stuck_is = sym c.in_default.is ∙ c.stuck.ensures ∙ stuck_named c.args.g.now c.args.adj.now c.args.t.now c.requires.space c.requires.fit c.requires.rep c.touch-m.new.t o.touched o.others o.not_grown;
      held = λ d z. cc;
      moved = λ z. rep_next c.args.g.now c.args.adj.now c.args.t.now c.requires.space c.requires.fit c.requires.rep c.touch-m.new.t o.touched o.others o.not_grown c.settle-k.new.t w.settled w.others w.same.growth_long c.cool.ensures c.still-b.ensures;
    }

pub returns-clause-others : goal.returns-clause-others
returns-clause-others c =
    let o = c.touch-m.ensures in
    let w = c.settle-k.ensures in
    kept c.args.g.now c.args.adj.now c.args.t.now c.requires.space c.requires.fit c.requires.rep c.touch-m.new.t o.touched o.others o.not_grown c.settle-k.new.t w.settled w.others w.same.growth_long c.cool.ensures c.still-b.ensures
