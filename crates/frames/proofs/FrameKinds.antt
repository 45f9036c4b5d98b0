-- Frames by their kind, and the facts that tests on the numbers and on lengths give.
use Rattle.std.specs.Prelude.{None}
use Rattle.std.specs.Prelude.{Err}
use Prim.Native.Nat.{ℕ, ◌+◌, ◌*◌, ◌≤◌}
use native.Mathlib.Nat.{add-zero}
use native.Mathlib.Omega.{arith}
use mathlib.Core.Logic.{◌≢◌}
use mathlib.Core.Path.{◌≡◌, refl, sym, ap, ap₂, ◌∙◌}
use mathlib.Core.List.{List}
use mathlib.Core.Bool.{Bool, true, false, cond}
use lib.ListN.{length, get_or, take, drop, length-drop, get_or-eq_default}
use lib.Seq.{get_or-drop}
use lib.Dec.{eqb, ltb}
use borrow.Author.Tests.{ltb-false, eqb-true, eq-eqb, ne_eqb}
use Rattle.lists.proofs.Truth.{case-of, clash, or_left, or_right}
use Rattle.hex_text.specs.Hex.{number, numbers}
use Rattle.hex_text.proofs.Runs.{numbers_long}
use Rattle.bits.specs.Rows.{words}
use Rattle.frames.specs.declared.Stage.{Stage}
use Rattle.frames.specs.declared.Stage.TheVariants.{Nothing, InModel, BetweenShots, AfterRow}
use Rattle.frames.specs.declared.State.{State}
use Rattle.codes.specs.declared.Refusal.TheVariants as refusal
use Rattle.frames.specs.declared.Kind.{Kind}
use Rattle.frames.specs.declared.Kind.TheVariants as kind
use Rattle.frames.specs.Frames.{kind_byte, Frame, header, mechanism, component, end, row, truth, kind_of, symptom_long, symptom_of, when, frame_of}
use Rattle.frames.specs.Input.{in_order}
use Rattle.frames.specs.Counts.{size_of, over_counts, count_after, capped, frame_line}

-- ---- the frame of each kind

module _ (D O : ℕ) (l : List ℕ) where
  pub frame_1 : kind_of l ≡ 1 → frame_of D O l ≡ when (eqb (length l) 5) (header (number (take 2 (drop 1 l))) (number (take 2 (drop 3 l))))
  unfolding frame_of
  frame_1 h = rw h

  pub frame_2 : kind_of l ≡ 2 → frame_of D O l ≡ when (symptom_long (drop 9 l)) (mechanism (number (take 8 (drop 1 l))) (symptom_of (drop 9 l)))
  unfolding frame_of
  frame_2 h = rw h

  pub frame_3 : kind_of l ≡ 3 → frame_of D O l ≡ when (symptom_long (drop 1 l)) (component (symptom_of (drop 1 l)))
  unfolding frame_of
  frame_3 h = rw h

  pub frame_4 : kind_of l ≡ 4 → frame_of D O l ≡ when (eqb (length l) 1) end
  unfolding frame_of
  frame_4 h = rw h

  pub frame_5 : kind_of l ≡ 5 → frame_of D O l ≡ when (eqb (length l) (1 + 8 * words D)) (row (numbers 8 (words D) (drop 1 l)))
  unfolding frame_of
  frame_5 h = rw h

  pub frame_6 : kind_of l ≡ 6 → frame_of D O l ≡ when (eqb (length l) (1 + 8 * words O)) (truth (numbers 8 (words O) (drop 1 l)))
  unfolding frame_of
  frame_6 h = rw h

  pub frame_none : ((k : Kind) → kind_byte k ≢ kind_of l) → frame_of D O l ≡ None
  unfolding frame_of
  frame_none h =
      rw (not kind.Header, not kind.Mechanism, not kind.Component, not kind.End, not kind.Row, not kind.Truth)
    where
      not : (k : Kind) → eqb (kind_of l) (kind_byte k) ≡ false
      not k = ne_eqb (kind_of l) (kind_byte k) (λ e. h k (sym e))

-- ---- order

-- no frame comes whose first byte names no kind
pub order_none : (st : Stage) (n b : ℕ) → ((k : Kind) → kind_byte k ≢ b) → in_order st n b ≡ false
unfolding in_order
order_none Nothing n b h = ne_eqb b 1 (λ e. h kind.Header (sym e))
order_none InModel n b h = rw (ne_eqb b 2 (λ e. h kind.Mechanism (sym e)), ne_eqb b 3 (λ e. h kind.Component (sym e)), ne_eqb b 4 (λ e. h kind.End (sym e)))
order_none BetweenShots n b h = ne_eqb b 5 (λ e. h kind.Row (sym e))
order_none AfterRow n b h = ne_eqb b 6 (λ e. h kind.Truth (sym e))

-- an empty line has none
pub none_empty : (k : Kind) → kind_byte k ≢ 0
none_empty kind.Header e = absurd (omega arith)
none_empty kind.Mechanism e = absurd (omega arith)
none_empty kind.Component e = absurd (omega arith)
none_empty kind.End e = absurd (omega arith)
none_empty kind.Row e = absurd (omega arith)
none_empty kind.Truth e = absurd (omega arith)

pub kind_none : (l : List ℕ) → length l ≡ 0 → kind_of l ≡ 0
kind_none l h = get_or-eq_default l 0 {n = 0} (omega arith)

-- ---- what is held

pub record Held (n : State) : Type 0 where
  pub detectors : n.detectors ≤ 256
  pub observables : n.observables ≤ 128
  pub mechanisms : n.mechanisms ≤ 1024
  pub components : n.components ≤ 1024
  pub entries : n.entries ≤ 8192

pub held_of : (n : State) → over_counts n ≡ false → Held n
held_of n h =
    let a = or_right (ltb 256 n.detectors) _ h in
    let b = or_right (ltb 128 n.observables) _ a in
    let c = or_right (ltb 1024 n.mechanisms) _ b in
    record {
      detectors = ltb-false _ _ (or_left (ltb 256 n.detectors) _ h);
      observables = ltb-false _ _ (or_left (ltb 128 n.observables) _ a);
      mechanisms = ltb-false _ _ (or_left (ltb 1024 n.mechanisms) _ b);
      components = ltb-false _ _ (or_left (ltb 1024 n.components) _ c);
      entries = ltb-false _ _ (or_right (ltb 1024 n.components) _ c);
    }

-- ---- two lists at byte i

module _ (l : List ℕ) (i : ℕ) where
  pub first_count : get_or (drop i l) 0 0 ≡ get_or l i 0
  first_count = get_or-drop i l 0 0 ∙ ap (λ (k : ℕ). get_or l k 0) (add-zero i)

  pub second_count : get_or (drop i l) 1 0 ≡ get_or l (i + 1) 0
  second_count = get_or-drop i l 1 0

  pub long_is : symptom_long (drop i l) ≡ true → length l ≡ i + 2 + 2 * (get_or l i 0 + get_or l (i + 1) 0)
  long_is h = omega (arith, eqb-true (length (drop i l)) (2 + 2 * (get_or (drop i l) 0 0 + get_or (drop i l) 1 0)) h, length-drop i l, first_count, second_count)

  pub long_so : length l ≡ i + 2 + 2 * (get_or l i 0 + get_or l (i + 1) 0) → symptom_long (drop i l) ≡ true
  long_so h = eq-eqb (length (drop i l)) (2 + 2 * (get_or (drop i l) 0 0 + get_or (drop i l) 1 0)) (omega (arith, length-drop i l, first_count, second_count))

  pub long_not : (length l ≡ i + 2 + 2 * (get_or l i 0 + get_or l (i + 1) 0) → ⊥) → symptom_long (drop i l) ≡ false
  long_not h = ne_eqb (length (drop i l)) (2 + 2 * (get_or (drop i l) 0 0 + get_or (drop i l) 1 0)) (λ e. h (omega (arith, e, length-drop i l, first_count, second_count)))

  pub size_is : size_of (symptom_of (drop i l)) ≡ get_or l i 0 + get_or l (i + 1) 0
  size_is =
      ap₂ ◌+◌ (numbers_long 2 (get_or (drop i l) 0 0) (drop 2 (drop i l)) ∙ first_count)
      (numbers_long 2 (get_or (drop i l) 1 0) (drop (2 + 2 * get_or (drop i l) 0 0) (drop i l)) ∙ second_count)

  pub long_test : symptom_long (drop i l) ≡ eqb (length l) (i + 2 + 2 * (get_or l i 0 + get_or l (i + 1) 0))
  long_test = case-of (symptom_long (drop i l)) (λ t. t ∙ sym (eq-eqb _ _ (long_is t))) (λ f. f ∙ sym (ne_eqb _ _ (λ e. clash (long_so e) f)))

-- ---- others

pub line_when : (n : State) (f : Frame) (t : Bool) → frame_line n (when t f) ≡ cond t (capped (count_after n f)) (Err refusal.Frame)
line_when n f true = refl
line_when n f false = refl

-- ---- for the calls that read a line

pub ruleset by_kind = (frame_1, frame_2, frame_3, frame_4, frame_5, frame_6, line_when, held_of)

pub ruleset no_kind = (kind_none, none_empty, order_none)

pub ruleset by_symptom = (size_is, long_test)
