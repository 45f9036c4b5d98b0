use Prim.Native.Nat.{ℕ, ◌+◌}
use mathlib.Core.Path.{◌≡◌, refl, ap, ◌∙◌}
use mathlib.Core.List.{append_assoc}
use native.Mathlib.Numerals.{add-one}
use native.Mathlib.Omega.{arith}
use lib.ListN.{length, take, drop, set, length-set}
use lib.Seq.{paste, paste-zero, paste-suc, take_all}
use Rattle.tables.proofs.copy_to.Goals as goal

pub loop-i-init : goal.loop-i-init
loop-i-init g c = (refl, paste-zero c.args.out.now c.args.at c.args.«from».now)

pub loop-i-preserved : goal.loop-i-preserved
loop-i-preserved g c =
    let z = c.index-from-i.result in (
      simp length-set c.loop-i.invariant.0,
      ap (set c.loop-i.out (c.args.at + c.loop-i.i)) c.index-from-i.is
          ∙ rw (add-one c.loop-i.i, c.loop-i.invariant.1) (paste-suc c.args.out.now c.args.at c.args.«from».now c.loop-i.i z (omega arith) (omega arith)),
    )

pub returns : goal.returns
returns g c = let e : c.loop-i.i ≡ length c.args.«from».now = omega arith in
    c.loop-i.invariant.1 ∙ ap (λ (k : ℕ). paste c.args.out.now c.args.at c.args.«from».now k) e
    ∙ rw (take_all (length c.args.«from».now) c.args.«from».now (omega arith))
    (append_assoc (take c.args.at c.args.out.now) c.args.«from».now (drop (c.args.at + length c.args.«from».now) c.args.out.now))
