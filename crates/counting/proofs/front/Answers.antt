use Prim.Native.Nat.{ℕ}
use native.Mathlib.Omega.{arith}
use mathlib.Core.Path.{◌≡◌, refl, sym, ap, ◌∙◌}
use mathlib.Core.List.{List, [], ◌∷◌}
use mathlib.Core.Bool.{false}
use lib.ListN.{get_or, get_or-map}
use borrow.Author.Count.{below_more}
use Rattle.lists.specs.Lists.{filter}
use Rattle.growth_state.proofs.Laws.{member_take, byte_low}
use Rattle.forest.specs.Forest.{Flat, labels}
use Rattle.columns.proofs.Columns.{map_set, column_length, keep_none, keep_then, keep_more}
use Rattle.cells.specs.declared.Stack.{Stack}
use Rattle.cells.specs.Tables.{parents, hots, seen, front, stack_column, SameStacks}
use Rattle.cells.proofs.Stores.{kept_front}
use Rattle.counting.specs.Counting.{warm}
use Rattle.counting.proofs.Laws.{front_turn}
use Rattle.counting.proofs.front.Goals as goal

abbrev empty : Stack
empty = record { defect = 0; seen = 0; active = 0; front = 0; order_edge = 0; order_parent = 0 }

seen_is : {stacks now : List Stack} → SameStacks (3 ∷ []) stacks now → (i : ℕ) → (get_or now i empty).seen ≡ get_or (seen stacks) i 0
seen_is {now = now} s i = sym (get_or-map (λ r. r.seen) now i empty) ∙ ap (λ (l : List ℕ). get_or l i 0) (s.rest 1 refl)

pub loop-i-init : goal.loop-i-init
unfolding filter
loop-i-init c = record {
  few = omega arith;
  down = c.requires.fronting.down;
  kept = refl;
  trees = keep_more (0 ∷ []) refl (keep_none c.args.tree.now);
  rest = keep_more (3 ∷ []) refl (keep_none c.args.stacks.now);
  still = λ x h f. f;
  flat = λ j h. absurd (omega arith);
  lists = refl;
}

pub compress-r-requires-clause-v_lt_d : goal.compress-r-requires-clause-v_lt_d
compress-r-requires-clause-v_lt_d c = (rw (seen_is c.loop-i.invariant.rest c.loop-i.i) (c.requires.fronting.inside c.loop-i.i c.loop-i-test.true), c.requires.fronting.small)

pub loop-i-preserved : goal.loop-i-preserved
loop-i-preserved c =
    let i = c.loop-i.i in
    let t = c.loop-i.invariant in
    let f = c.requires.fronting in
    let r = c.compress-r.ensures.0 in
    let x = seen_is t.rest i in
    let root : c.compress-r.result ≡ get_or (labels c.args.d (parents c.args.tree.now)) (get_or (seen c.args.stacks.now) i 0) 0 = rw (← x, ← t.kept) r.found.is in
    record {
      few = simp byte_low (omega arith);
      down = r.found.down;
      kept = r.found.kept ∙ t.kept;
      trees = keep_then t.trees c.compress-r.ensures.1;
      rest = keep_then t.rest (kept_front c.loop-i.stacks c.loop-i.m _ _);
      still = λ y h z. r.found.still y h (t.still y h z);
      flat = below_more (λ j. Flat c.args.d (parents c.compress-r.new.tree) (get_or (seen c.args.stacks.now) j 0)) i
          (λ j k. r.found.still (get_or (seen c.args.stacks.now) j 0) (f.inside j (omega (arith, k))) (t.flat j k))
          (rw (← x) r.flat);
      lists = rw (map_set, x) (front_turn (seen c.args.stacks.now) i (omega arith) (warm c.args.d (parents c.args.tree.now) (hots c.args.flags.now)) c.loop-i.m (front c.loop-i.stacks) t.lists
          (omega (arith, f.fronts, t.few, t.rest.long, column_length stack_column 3 c.args.stacks.now, column_length stack_column 3 c.loop-i.stacks)) _
          (sym (get_or-map (λ r. r.hot) c.args.flags.now c.compress-r.result _) ∙ ap (λ (q : ℕ). get_or (hots c.args.flags.now) q false) root));
    }

pub returns : goal.returns
returns c =
    let q : c.loop-i.i ≡ c.args.n = omega arith in
    let t = c.loop-i.invariant in (
      record {
        down = t.down;
        kept = t.kept;
        flat = λ x h. member_take (Flat c.args.d (parents c.loop-i.tree)) (seen c.args.stacks.now) c.args.n (rw q at t.flat) x;
        still = t.still;
        few = omega arith;
        front_is = rw q at t.lists;
      },
      t.trees,
      t.rest,
    )
