-- The numbers answer as the definition does.
use Rattle.std.specs.Prelude.{Option, None, Some}
use Rattle.std.specs.Prelude.{Result, Ok, Err}
use Rattle.codes.specs.declared.Refusal.{Refusal}
use Prim.Native.Nat.{ℕ, ◌+◌, ◌*◌, ◌<◌}
use native.Mathlib.Omega.{arith}
use mathlib.Core.Path.{◌≡◌, refl, sym, ap, ◌∙◌}
use mathlib.Core.List.{List, [], ◌∷◌, ◌++◌}
use mathlib.Core.Bool.{Bool, true, false, cond, ◌||◌}
use lib.ListN.{length, take, drop, length-append}
use lib.Dec.{eqb, ltb}
use borrow.Author.Tests.{ltb-true, eqb-true}
use Rattle.lists.proofs.Truth.{clash, cond_case}
use Rattle.codes.specs.declared.Refusal.TheVariants as refusal
use Rattle.hex_text.specs.Hex.{is_hex, bytes_of, number, numbers}
use Rattle.bits.specs.Rows.{words}
use Rattle.dem.specs.Model.{Symptom}
use Rattle.frames.specs.declared.Stage.{Stage}
use Rattle.frames.specs.declared.Stage.TheVariants.{Nothing, InModel, BetweenShots, AfterRow}
use Rattle.frames.specs.declared.State.{State}
use Rattle.frames.specs.Frames.{Frame, header, mechanism, component, end, row, truth, when, kind_of, symptom_long, symptom_of, frame_of}
use Rattle.frames.specs.Input.{Input, Read, next, refused, tables_read, in_order, after, over, held, read_frame, read_bytes, read_line}
use Rattle.frames.specs.Counts.{counts_of, answer_of, count_after, capped, frame_line, line_of}
use Rattle.frames.specs.Laws.{Laws}
use Rattle.frames.proofs.ReadTables.{fresh, theirs_fresh, entries_fresh, length_with, theirs_with, entries_with}

-- ---- the numbers with one frame more

numbers_eq : (st : Stage) (D O m m' c c' e e' : ℕ) → m ≡ m' → c ≡ c' → e ≡ e'
    → ◌≡◌ {A = State} (record { stage = st; detectors = D; observables = O; mechanisms = m; components = c; entries = e })
    (record { stage = st; detectors = D; observables = O; mechanisms = m'; components = c'; entries = e' })
numbers_eq st D O m m' c c' e e' p q r = rw (p, q, r)

-- a component comes after a mechanism
abbrev pub Follows : Input → Frame → Type 0
Follows s (header D O) = Unit
Follows s (mechanism p y) = Unit
Follows s (component y) = 0 < length s.mechanisms
Follows s end = Unit
Follows s (row ws) = Unit
Follows s (truth ws) = Unit

pub counts_after : (s : Input) (f : Frame) → Follows s f → counts_of (after s f) ≡ count_after (counts_of s) f
unfolding after count_after
counts_after s (header D O) h = refl
counts_after s (mechanism p y) h =
    let gs = s.mechanisms in
    numbers_eq InModel s.detectors s.observables _ _ _ _ _ _ (length-append gs (fresh p y ∷ [])) (ap length (theirs_fresh p y gs))
    (ap length (entries_fresh p y gs) ∙ length-append (tables_read gs).entries (y.detectors ++ y.observables)
    ∙ ap (λ (k : ℕ). length (tables_read gs).entries + k) (length-append y.detectors y.observables))
counts_after s (component y) h =
    let gs = s.mechanisms in
    numbers_eq InModel s.detectors s.observables _ _ _ _ _ _ (length_with y gs)
    (ap length (theirs_with y gs h) ∙ length-append (tables_read gs).component_detectors (length y.detectors ∷ []))
    (ap length (entries_with y gs h) ∙ length-append (tables_read gs).entries (y.detectors ++ y.observables)
    ∙ ap (λ (k : ℕ). length (tables_read gs).entries + k) (length-append y.detectors y.observables))
counts_after s end h = refl
counts_after s (row ws) h = refl
counts_after s (truth ws) h = refl

-- ---- the kind of a component

abbrev tag : Option Frame → ℕ
tag None = 0
tag (Some (header D O)) = 1
tag (Some (mechanism p y)) = 2
tag (Some (component y)) = 3
tag (Some end) = 4
tag (Some (row ws)) = 5
tag (Some (truth ws)) = 6

-- a component's kind is 3
abbrev Three : ℕ → Option Frame → Type 0
Three k o = tag o ≡ 3 → k ≡ 3

three_when : (k : ℕ) (b : Bool) (f : Frame) → (tag (Some f) ≡ 3 → k ≡ 3) → Three k (when b f)
three_when k true f h = h
three_when k false f h = λ e. absurd (omega arith)

three : (D O : ℕ) (l : List ℕ) → Three (kind_of l) (frame_of D O l)
unfolding frame_of
three D O l =
    let k = kind_of l in
    cond_case (Three k) (eqb k 1) _ _ (λ _. three_when k (eqb (length l) 5) (header (number (take 2 (drop 1 l))) (number (take 2 (drop 3 l)))) (λ e. absurd (omega arith))) λ _.
    cond_case (Three k) (eqb k 2) _ _ (λ _. three_when k (symptom_long (drop 9 l)) (mechanism (number (take 8 (drop 1 l))) (symptom_of (drop 9 l))) (λ e. absurd (omega arith))) λ _.
    cond_case (Three k) (eqb k 3) _ _ (λ t. three_when k (symptom_long (drop 1 l)) (component (symptom_of (drop 1 l))) (λ e. eqb-true k 3 t)) λ _.
    cond_case (Three k) (eqb k 4) _ _ (λ _. three_when k (eqb (length l) 1) end (λ e. absurd (omega arith))) λ _.
    cond_case (Three k) (eqb k 5) _ _ (λ _. three_when k (eqb (length l) (1 + 8 * words D)) (row (numbers 8 (words D) (drop 1 l))) (λ e. absurd (omega arith))) λ _.
    cond_case (Three k) (eqb k 6) _ _ (λ _. three_when k (eqb (length l) (1 + 8 * words O)) (truth (numbers 8 (words O) (drop 1 l))) (λ e. absurd (omega arith))) (λ _ e. absurd (omega arith))

kind_component : (D O : ℕ) (l : List ℕ) (y : Symptom) → frame_of D O l ≡ Some (component y) → kind_of l ≡ 3
kind_component D O l y e = three D O l (ap tag e)

pub order_component : (st : Stage) (n : ℕ) → in_order st n 3 ≡ true → 0 < n
unfolding in_order
order_component Nothing n h = clash h refl
order_component InModel n h = ltb-true 0 n (or_nothing (ltb 0 n) h)
  where
    or_nothing : (b : Bool) → (b || false) ≡ true → b ≡ true
    or_nothing true k = k
    or_nothing false k = k
order_component BetweenShots n h = clash h refl
order_component AfterRow n h = clash h refl

pub follows : (s : Input) (l : List ℕ) (f : Frame) → in_order s.stage (length s.mechanisms) (kind_of l) ≡ true → frame_of s.detectors s.observables l ≡ Some f → Follows s f
follows s l (header D O) h e = tt
follows s l (mechanism p y) h e = tt
follows s l (component y) h e =
    order_component s.stage (length s.mechanisms) (rw (kind_component s.detectors s.observables l y e) at h)
follows s l end h e = tt
follows s l (row ws) h e = tt
follows s l (truth ws) h e = tt

-- ---- the answer

held_answer : (t : Input) → capped (counts_of t) ≡ answer_of (held t)
held_answer t = go (over t)
  where
    go : (b : Bool) → cond b (Err refusal.Limit) (Ok (counts_of t)) ≡ answer_of (cond b (refused refusal.Limit) (next t))
    go true = refl
    go false = refl

frame_answer : (s : Input) (o : Option Frame) → ((f : Frame) → o ≡ Some f → Follows s f) → frame_line (counts_of s) o ≡ answer_of (read_frame s o)
frame_answer s None h = refl
frame_answer s (Some f) h = ap capped (sym (counts_after s f (h f refl))) ∙ held_answer (after s f)

answer_cond : (b : Bool) (l : Result State Refusal) (r : Read) → (b ≡ true → l ≡ answer_of r) → cond b l (Err refusal.Frame) ≡ answer_of (cond b r (refused refusal.Frame))
answer_cond true l r h = h refl
answer_cond false l r h = refl

pub answers : (s : Input) (line : List ℕ) → line_of (counts_of s) line ≡ answer_of (read_line s line)
unfolding line_of read_line
answers s line =
    let l = bytes_of line in
    let o = frame_of s.detectors s.observables l in
    let order = in_order s.stage (length s.mechanisms) (kind_of l) in
    answer_cond (is_hex line) (cond order (frame_line (counts_of s) o) (Err refusal.Frame)) (read_bytes s l)
    (λ hex. answer_cond order (frame_line (counts_of s) o) (read_frame s o) (λ h. frame_answer s o (λ f e. follows s l f h e)))

-- ---- what is read is held

held_within : (s t : Input) → held s ≡ next t → over t ≡ false
held_within s t = go (over s) refl
  where
    go : (b : Bool) → over s ≡ b → cond b (refused refusal.Limit) (next s) ≡ next t → over t ≡ false
    go true p e = let z : ◌≡◌ {A = ℕ} 0 1 = cc in absurd (omega arith)
    go false p e = let q : s ≡ t = cc in rw (← q) p

frame_within : (s t : Input) (o : Option Frame) → read_frame s o ≡ next t → over t ≡ false
frame_within s t None e = let z : ◌≡◌ {A = ℕ} 0 1 = cc in absurd (omega arith)
frame_within s t (Some f) e = held_within (after s f) t e

cond_next : (b : Bool) (r : Read) (t : Input) → cond b r (refused refusal.Frame) ≡ next t → r ≡ next t
cond_next true r t e = e
cond_next false r t e = let z : ◌≡◌ {A = ℕ} 0 1 = cc in absurd (omega arith)

pub read_held : (s t : Input) (line : List ℕ) → read_line s line ≡ next t → over t ≡ false
unfolding read_line
read_held s t line e =
    let l = bytes_of line in
    let o = frame_of s.detectors s.observables l in
    frame_within s t o (cond_next (in_order s.stage (length s.mechanisms) (kind_of l)) (read_frame s o) t (cond_next (is_hex line) (read_bytes s l) t e))

pub laws : Laws
laws = record { answers = answers; held = read_held }
