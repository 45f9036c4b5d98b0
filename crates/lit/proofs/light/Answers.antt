use Prim.Native.Nat.{ℕ, ◌<◌}
use mathlib.Core.Path.{◌≡◌, refl, sym, ap, ◌∙◌}
use mathlib.Core.List.{List, [], ◌∷◌, map}
use mathlib.Core.Bool.{false}
use native.Mathlib.Omega.{arith}
use lib.ListN.{length, get_or}
use Rattle.columns.proofs.Columns.{column_length, keep_none, keep_then, keep_more}
use Rattle.cells.specs.Tables.{flag_column, stack_column, lits, odds, knowns, hots, defects, active, seen}
use Rattle.cells.proofs.Stores.{no_stack, read_defect}
use Rattle.lit.proofs.Lights.{light_next, light_start, list_next}
use Rattle.lists.specs.Lists.{member}
use Rattle.lit.proofs.light.Goals as goal

pub loop-i-init : goal.loop-i-init
unfolding member
loop-i-init c = (
  keep_more (0 ∷ 1 ∷ 2 ∷ 3 ∷ []) refl (keep_none c.args.flags.now),
  keep_more (1 ∷ 2 ∷ []) refl (keep_none c.args.stacks.now),
  (λ x. light_start (get_or (lits c.args.flags.now) x false)),
  (λ x. light_start (get_or (odds c.args.flags.now) x false)),
  (λ x. light_start (get_or (knowns c.args.flags.now) x false)),
  (λ x. light_start (get_or (hots c.args.flags.now) x false)),
  refl,
  refl,
)

pub light_at-requires : goal.light_at-requires
light_at-requires c =
    let is : get_or (defects c.loop-i.stacks) c.loop-i.i 0 ≡ get_or (defects c.args.stacks.now) c.loop-i.i 0 = ap (λ (t : List ℕ). get_or t c.loop-i.i 0) (c.loop-i.invariant.1.rest 0 refl) in
    omega (arith, read_defect c.loop-i.stacks c.loop-i.i, c.requires.lighting.inside c.loop-i.i c.loop-i-test.true, column_length flag_column 0 c.args.flags.now, c.loop-i.invariant.0.long)

pub loop-i-preserved : goal.loop-i-preserved
loop-i-preserved c =
    let i = c.loop-i.i in
    let ds = defects c.args.stacks.now in
    let is : (get_or c.loop-i.stacks i no_stack).defect ≡ get_or ds i 0 = sym (read_defect c.loop-i.stacks i) ∙ ap (λ (t : List ℕ). get_or t i 0) (c.loop-i.invariant.1.rest 0 refl) in
    let h : i < length ds = omega (arith, c.requires.lighting.few) in
    let mark : (k : ℕ) → get_or ds i 0 < length (map (flag_column k) c.loop-i.flags) = (λ k.
    omega (arith, c.requires.lighting.inside i c.loop-i-test.true, column_length flag_column 0 c.args.flags.now, c.loop-i.invariant.0.long, column_length flag_column k c.loop-i.flags)) in
    let place : (k : ℕ) → i < length (map (stack_column k) c.loop-i.stacks) = (λ k. omega (arith, column_length stack_column 0 c.args.stacks.now, c.loop-i.invariant.1.long, column_length stack_column k c.loop-i.stacks)) in (
      keep_then c.loop-i.invariant.0 c.light_at.ensures.kept,
      keep_then c.loop-i.invariant.1 c.push.ensures.kept,
      rw (c.light_at.ensures.lit_is, is) (light_next ds i h (lits c.loop-i.flags) (lits c.args.flags.now) (mark 0) c.loop-i.invariant.2),
      rw (c.light_at.ensures.odd_is, is) (light_next ds i h (odds c.loop-i.flags) (odds c.args.flags.now) (mark 2) c.loop-i.invariant.3),
      rw (c.light_at.ensures.known_is, is) (light_next ds i h (knowns c.loop-i.flags) (knowns c.args.flags.now) (mark 1) c.loop-i.invariant.4),
      rw (c.light_at.ensures.hot_is, is) (light_next ds i h (hots c.loop-i.flags) (hots c.args.flags.now) (mark 3) c.loop-i.invariant.5),
      rw (c.push.ensures.active_is, is) (list_next ds i h (active c.loop-i.stacks) (place 2) c.loop-i.invariant.6),
      rw (c.push.ensures.seen_is, is) (list_next ds i h (seen c.loop-i.stacks) (place 1) c.loop-i.invariant.7),
    )
