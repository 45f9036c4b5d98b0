-- A line that is too long for any frame.
use Rattle.std.specs.Prelude.{Option, None}
use Prim.Native.Nat.{ℕ, zero, suc, ◌+◌, ◌-◌, ◌*◌, ◌%◌, ◌<◌, ◌≤◌}
use native.Mathlib.Omega.{arith}
use mathlib.Core.Path.{◌≡◌, refl, ap}
use mathlib.Core.Bool.{Bool, true, false, cond}
use mathlib.Core.List.{List, [], ◌∷◌}
use lib.ListN.{length, get_or, take, drop}
use lib.Dec.{eqb}
use borrow.Author.Tests.{eqb-true, ne_eqb}
use Rattle.lists.proofs.Truth.{case-of, and_left, cond_case}
use Rattle.codes.specs.declared.Refusal.TheVariants as refusal
use Rattle.bits.specs.Rows.{words}
use Rattle.hex_text.specs.Hex.{between, digit_value, is_hex, all_digits, bytes_of, number, numbers}
use Rattle.hex_text.proofs.Bytes.{between_facts, byte_count}
use Rattle.frames.specs.Frames.{Frame, header, mechanism, component, end, row, truth, frame_of, kind_of, symptom_long, symptom_of, when}
use Rattle.frames.specs.Input.{Input, Read, refused, over, in_order, read_frame, read_bytes, read_line}
use Rattle.frames.specs.Counts.{counts_of}
use Rattle.frames.proofs.FrameKinds.{held_of, long_not}
use Rattle.frames.specs.LineLaws.{longest}

-- ---- a byte

digit_small : (b : ℕ) → digit_value b < 16
digit_small b =
    cond_case (λ v. v < 16) (between 48 57 b) (b - 48) _ (λ t. omega (arith, between_facts 48 57 b t)) λ _.
    cond_case (λ v. v < 16) (between 97 102 b) (b - 87) 0 (λ t. omega (arith, between_facts 97 102 b t)) (λ _. omega arith)

byte_small : (l : List ℕ) (i : ℕ) → get_or (bytes_of l) i 0 < 256
unfolding bytes_of
byte_small [] i = omega arith
byte_small (a ∷ []) i = omega arith
byte_small (a ∷ b ∷ l) zero = omega (arith, digit_small a, digit_small b)
byte_small (a ∷ b ∷ l) (suc i) = byte_small l i

-- ---- no frame

when_not : (b : Bool) (f : Frame) → b ≡ false → when b f ≡ None
when_not b f h = rw h refl

abbrev Missing : Option Frame → Type 0
Missing o = o ≡ None

module _ (D O : ℕ) (l : List ℕ) (small : (i : ℕ) → get_or l i 0 < 256) (long : 1031 < length l) (fewD : D ≤ 256) (fewO : O ≤ 128) where
  too_big : (i : ℕ) → i ≤ 9 → symptom_long (drop i l) ≡ false
  too_big i h = long_not l i (λ e. omega (arith, e, long, h, small i, small (i + 1)))

  no_frame : frame_of D O l ≡ None
  unfolding frame_of words
  no_frame =
      let k = kind_of l in
      cond_case Missing (eqb k 1) _ _ (λ _. when_not _ (header (number (take 2 (drop 1 l))) (number (take 2 (drop 3 l)))) (ne_eqb (length l) 5 (λ e. omega (arith, e, long)))) λ _.
      cond_case Missing (eqb k 2) _ _ (λ _. when_not _ (mechanism (number (take 8 (drop 1 l))) (symptom_of (drop 9 l))) (too_big 9 (omega arith))) λ _.
      cond_case Missing (eqb k 3) _ _ (λ _. when_not _ (component (symptom_of (drop 1 l))) (too_big 1 (omega arith))) λ _.
      cond_case Missing (eqb k 4) _ _ (λ _. when_not _ end (ne_eqb (length l) 1 (λ e. omega (arith, e, long)))) λ _.
      cond_case Missing (eqb k 5) _ _ (λ _. when_not _ (row (numbers 8 (words D) (drop 1 l))) (ne_eqb (length l) (1 + 8 * words D) (λ e. omega (arith, e, long, fewD)))) λ _.
      cond_case Missing (eqb k 6) _ _ (λ _. when_not _ (truth (numbers 8 (words O) (drop 1 l))) (ne_eqb (length l) (1 + 8 * words O) (λ e. omega (arith, e, long, fewO)))) (λ _. refl)

either : (b : Bool) (x : Read) → x ≡ refused refusal.Frame → cond b x (refused refusal.Frame) ≡ refused refusal.Frame
either true x e = e
either false x e = refl

-- pairs of digits
pairs : (line : List ℕ) → is_hex line ≡ true → length line % 2 ≡ 0
unfolding is_hex
pairs line h = eqb-true (length line % 2) 0 (and_left (eqb (length line % 2) 0) (all_digits line) h)

pub too_long : (s : Input) (line : List ℕ) → over s ≡ false → longest < length line → read_line s line ≡ refused refusal.Frame
unfolding read_line
too_long s line w h = case-of (is_hex line) (λ (t : is_hex line ≡ true).
    let l = bytes_of line in
    let q = held_of (counts_of s) w in
    let long : 1031 < length l = omega (arith, byte_count line, pairs line t, h) in
    let none-at = no_frame s.detectors s.observables l (byte_small line) long q.detectors q.observables in
    either (is_hex line) (read_bytes s l) (either (in_order s.stage (length s.mechanisms) (kind_of l)) (read_frame s (frame_of s.detectors s.observables l)) (ap (read_frame s) none-at)))
    (λ (f : is_hex line ≡ false). rw f refl)
