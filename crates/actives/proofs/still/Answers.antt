use Prim.Native.Nat.{ℕ, ◌<◌}
use mathlib.Core.Path.{◌≡◌, refl, sym, ap, ap₂, ◌∙◌}
use mathlib.Core.List.{List, [], ◌∷◌, ◌++◌, map}
use mathlib.Core.Bool.{false, not, ◌&&◌, or-false, or-true}
use mathlib.Core.Logic.{⊎_elim}
use native.Mathlib.Omega.{arith}
use native.Mathlib.Nat.{not-suc-le-zero}
use lib.ListN.{length, get_or, take}
use lib.Seq.{get_or-set_other, set-get_or, take-set-le}
use Rattle.lists.specs.Lists.{member, filter, firsts}
use Rattle.lists.proofs.Slices.{at_set}
use Rattle.forest.specs.Forest.{labels}
use Rattle.columns.proofs.Columns.{column_at, column_length, keep_then, keep_none, keep_more, map_set}
use Rattle.cells.specs.declared.Stack.{Stack}
use Rattle.cells.specs.Tables.{flag_column, node_column, stack_column, parents, exits, odds, hots, active}
use Rattle.cells.proofs.Stores.{kept_hot, kept_active}
use Rattle.growth_state.proofs.Laws.{put_next}
use Rattle.actives.specs.Actives.{is_on}
use Rattle.actives.proofs.Laws.{out_keep, out_skip, hot_turn}
use Rattle.actives.proofs.Rows.{reads}
use Rattle.actives.proofs.still.Goals as goal
use Rattle.actives.proofs.still.Goals.{then-keep, else-keep}

pub loop-i-init : goal.loop-i-init
unfolding filter firsts member
loop-i-init c = (
  omega arith,
  c.requires.staying.down,
  refl,
  keep_more (0 ∷ []) refl (keep_none c.args.tree.now),
  keep_more (3 ∷ []) refl (keep_none c.args.flags.now),
  keep_more (2 ∷ []) refl (keep_none c.args.stacks.now),
  (λ j h. refl),
  refl,
  c.requires.staying.cold,
  (λ j h. absurd (not-suc-le-zero h)),
)

pub find-r-requires-clause-v_lt_d : goal.find-r-requires-clause-v_lt_d
find-r-requires-clause-v_lt_d c =
    rw (← column_at stack_column 2 c.loop-i.stacks c.loop-i.i _, c.loop-i.invariant.6 c.loop-i.i (omega arith)) (c.requires.staying.inside c.loop-i.i (omega arith))

pub loop-i-preserved : goal.loop-i-preserved
loop-i-preserved c =
    let z : Stack = record { defect = 0; seen = 0; active = 0; front = 0; order_edge = 0; order_parent = 0 } in
    let x = (get_or c.loop-i.stacks c.loop-i.i z).active in
    let r = c.find-r.result in
    let on = is_on (odds c.args.flags.now) (exits c.args.tree.now) in
    let root = λ (v : ℕ). get_or (labels c.args.d (parents c.args.tree.now)) v 0 in
    let past = active c.args.stacks.now in
    let root_is : r ≡ root (get_or past c.loop-i.i 0)
    = c.find-r.ensures.0.is ∙ ap (λ (m : List ℕ). get_or m x 0) c.loop-i.invariant.2 ∙ ap root (sym (column_at stack_column 2 c.loop-i.stacks c.loop-i.i z) ∙ c.loop-i.invariant.6 c.loop-i.i (omega arith)) in
    let kt = keep_then c.loop-i.invariant.3 c.find-r.ensures.1 in
    let ks = keep_then c.loop-i.invariant.5 (kept_active c.loop-i.stacks c.loop-i.k r z) in
    let room : c.loop-i.k < length (active c.loop-i.stacks) = omega (arith, column_length stack_column 2 c.loop-i.stacks, column_length stack_column 2 c.args.stacks.now) in
    let hot : r < length (hots c.loop-i.flags) = omega (arith, c.find-r.ensures.0.inside, column_length flag_column 3 c.loop-i.flags, column_length flag_column 3 c.args.flags.now) in
    -- it goes on if it is on, and not there yet
    let keep_is : c.goes_on-keep.result ≡ (not (member (root (get_or past c.loop-i.i 0)) (filter on (firsts (map root (take c.loop-i.i past))))) && on (root (get_or past c.loop-i.i 0)))
    = c.goes_on-keep.ensures
    ∙ reads kt c.loop-i.invariant.4 r (sym (column_at flag_column 3 c.loop-i.flags r _)) (sym (column_at flag_column 2 c.loop-i.flags r _)) (sym (column_at node_column 1 c.find-r.new.tree r _))
    ∙ ap (λ t. not t && on r) (c.loop-i.invariant.8 r c.find-r.ensures.0.inside ∙ ap (member r) c.loop-i.invariant.7)
    ∙ ap (λ v. not (member v (filter on (firsts (map root (take c.loop-i.i past))))) && on v) root_is in
    elim c.if-keep.branch [
      | then-keep w ↦ rw w.k-is (
        omega arith,
        c.find-r.ensures.0.down,
        c.find-r.ensures.0.kept ∙ c.loop-i.invariant.2,
        kt,
        keep_then c.loop-i.invariant.4 (kept_hot c.loop-i.flags r _ _),
        ks,
        (λ j h. rw (map_set _ c.loop-i.stacks c.loop-i.k _) (get_or-set_other (active c.loop-i.stacks) c.loop-i.k j r 0 (λ q. omega arith) ∙ c.loop-i.invariant.6 j (omega arith))),
        rw (map_set _ c.loop-i.stacks c.loop-i.k _) (put_next (active c.loop-i.stacks) c.loop-i.k r room ∙ ap₂ (λ (m : List ℕ) (v : ℕ). m ++ (v ∷ [])) c.loop-i.invariant.7 root_is ∙ sym (out_keep on root past c.loop-i.i (omega arith) (sym keep_is ∙ w.if-keep.true))),
        rw (map_set _ c.loop-i.flags r _, w.if-keep.true, or-true, map_set _ c.loop-i.stacks c.loop-i.k _) (hot_turn (hots c.loop-i.flags) (active c.loop-i.stacks) c.loop-i.k r c.args.d room hot c.loop-i.invariant.8),
        (λ j h. rw (map_set _ c.loop-i.stacks c.loop-i.k _) (⊎_elim (λ q. rw q.1 c.find-r.ensures.0.inside) (λ q. rw q.1 (c.loop-i.invariant.9 j (omega (arith, q.0)))) (at_set (active c.loop-i.stacks) c.loop-i.k r 0 j room))),
      )
      | else-keep w ↦ rw w.k-is (
        omega arith,
        c.find-r.ensures.0.down,
        c.find-r.ensures.0.kept ∙ c.loop-i.invariant.2,
        kt,
        keep_then c.loop-i.invariant.4 (kept_hot c.loop-i.flags r _ _),
        ks,
        (λ j h. rw (map_set _ c.loop-i.stacks c.loop-i.k _) (get_or-set_other (active c.loop-i.stacks) c.loop-i.k j r 0 (λ q. omega arith) ∙ c.loop-i.invariant.6 j (omega arith))),
        rw (map_set _ c.loop-i.stacks c.loop-i.k _) (take-set-le c.loop-i.k (active c.loop-i.stacks) c.loop-i.k r (omega arith) ∙ c.loop-i.invariant.7 ∙ sym (out_skip on root past c.loop-i.i (omega arith) (sym keep_is ∙ w.if-keep.false))),
        rw (map_set _ c.loop-i.flags r _, w.if-keep.false, or-false, ← column_at flag_column 3 c.loop-i.flags r _, set-get_or (hots c.loop-i.flags) r false, map_set _ c.loop-i.stacks c.loop-i.k _, take-set-le c.loop-i.k (active c.loop-i.stacks) c.loop-i.k r (omega arith)) c.loop-i.invariant.8,
        (λ j h. rw (map_set _ c.loop-i.stacks c.loop-i.k _, get_or-set_other (active c.loop-i.stacks) c.loop-i.k j r 0 (λ q. omega arith)) (c.loop-i.invariant.9 j h)),
      )
    ]
