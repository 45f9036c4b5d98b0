-- The words of a row and of true observables.
use Rattle.std.specs.Prelude.{Option, None, Some}
use Prim.Native.Nat.{ℕ, ◌+◌, ◌*◌}
use native.Mathlib.Omega.{arith}
use mathlib.Core.Path.{◌≡◌, refl, sym, ◌∙◌}
use mathlib.Core.Bool.{Bool, true, false, cond}
use mathlib.Core.List.{List}
use lib.ListN.{length, take, drop}
use lib.Dec.{eqb}
use Rattle.lists.proofs.Truth.{clash, cond_case}
use Rattle.codes.specs.declared.Refusal.TheVariants as refusal
use Rattle.bits.specs.Rows.{words}
use Rattle.hex_text.specs.Hex.{is_hex, bytes_of, number, numbers}
use Rattle.hex_text.proofs.Runs.{numbers_long}
use Rattle.frames.specs.declared.Stage.{Stage}
use Rattle.frames.specs.declared.Stage.TheVariants.{Nothing, InModel, BetweenShots, AfterRow}
use Rattle.frames.specs.Frames.{Frame, header, mechanism, component, end, row, truth, frame_of, kind_of, symptom_long, symptom_of, when}
use Rattle.frames.specs.Input.{Input, Read, next, refused, over, in_order, after, held, read_frame, read_bytes, read_line}
use Rattle.frames.proofs.FrameKinds.{frame_6}
use Rattle.frames.specs.LineLaws.{RowRead, ShotRead}

-- ---- the words of a frame

abbrev Exact : ℕ → ℕ → Option Frame → Type 0
Exact D O None = Unit
Exact D O (Some (header d o)) = Unit
Exact D O (Some (mechanism p y)) = Unit
Exact D O (Some (component y)) = Unit
Exact D O (Some end) = Unit
Exact D O (Some (row ws)) = length ws ≡ words D
Exact D O (Some (truth ws)) = length ws ≡ words O

exact_when : (D O : ℕ) (b : Bool) (f : Frame) → Exact D O (Some f) → Exact D O (when b f)
exact_when D O true f h = h
exact_when D O false f h = tt

exact : (D O : ℕ) (l : List ℕ) → Exact D O (frame_of D O l)
unfolding frame_of
exact D O l =
    let k = kind_of l in
    let P = Exact D O in
    cond_case P (eqb k 1) _ _ (λ _. exact_when D O (eqb (length l) 5) (header (number (take 2 (drop 1 l))) (number (take 2 (drop 3 l)))) tt) λ _.
    cond_case P (eqb k 2) _ _ (λ _. exact_when D O (symptom_long (drop 9 l)) (mechanism (number (take 8 (drop 1 l))) (symptom_of (drop 9 l))) tt) λ _.
    cond_case P (eqb k 3) _ _ (λ _. exact_when D O (symptom_long (drop 1 l)) (component (symptom_of (drop 1 l))) tt) λ _.
    cond_case P (eqb k 4) _ _ (λ _. exact_when D O (eqb (length l) 1) end tt) λ _.
    cond_case P (eqb k 5) _ _ (λ _. exact_when D O (eqb (length l) (1 + 8 * words D)) (row (numbers 8 (words D) (drop 1 l))) (numbers_long 8 (words D) (drop 1 l))) λ _.
    cond_case P (eqb k 6) _ _ (λ _. exact_when D O (eqb (length l) (1 + 8 * words O)) (truth (numbers 8 (words O) (drop 1 l))) (numbers_long 8 (words O) (drop 1 l))) (λ _. tt)

-- ---- the frame of a line that was read

record Took (s t : Input) (l : List ℕ) : Type 0 where
  pub order : in_order s.stage (length s.mechanisms) (kind_of l) ≡ true
  pub frame : Frame
  pub reads : frame_of s.detectors s.observables l ≡ Some frame
  pub after : t ≡ after s frame

no_next : {A : Type 0} {t : Input} → refused refusal.Frame ≡ next t → A
no_next e = let z : ◌≡◌ {A = ℕ} 0 1 = cc in absurd (omega arith)

cond_next : (b : Bool) (r : Read) (t : Input) → cond b r (refused refusal.Frame) ≡ next t → (b ≡ true) × (r ≡ next t)
cond_next true r t e = (refl, e)
cond_next false r t e = no_next e

held_next : (s t : Input) → held s ≡ next t → t ≡ s
held_next s t = go (over s)
  where
    go : (b : Bool) → cond b (refused refusal.Limit) (next s) ≡ next t → t ≡ s
    go true e = let z : ◌≡◌ {A = ℕ} 0 1 = cc in absurd (omega arith)
    go false e = let q : s ≡ t = cc in sym q

took_frame : (s t : Input) (l : List ℕ) → in_order s.stage (length s.mechanisms) (kind_of l) ≡ true
    → (o : Option Frame) → frame_of s.detectors s.observables l ≡ o → read_frame s o ≡ next t → Took s t l
took_frame s t l h None p e = no_next e
took_frame s t l h (Some f) p e = record { order = h; frame = f; reads = p; after = held_next (after s f) t e }

took : (s t : Input) (line : List ℕ) → read_line s line ≡ next t → Took s t (bytes_of line)
unfolding read_line
took s t line e =
    let l = bytes_of line in
    let (x, p) = cond_next (is_hex line) (read_bytes s l) t e in
    let (h, q) = cond_next (in_order s.stage (length s.mechanisms) (kind_of l)) (read_frame s (frame_of s.detectors s.observables l)) t p in
    took_frame s t l h (frame_of s.detectors s.observables l) refl q

-- ---- what it leaves

no_stage : {A : Type 0} (st : Stage) → st ≡ AfterRow → st ≡ InModel → A
no_stage st a b = let z : ◌≡◌ {A = ℕ} 0 1 = cc in absurd (omega arith)

no_between : {A : Type 0} (st : Stage) → st ≡ AfterRow → st ≡ BetweenShots → A
no_between st a b = let z : ◌≡◌ {A = ℕ} 0 1 = cc in absurd (omega arith)

row_after_lem : (s : Input) (f : Frame) → Exact s.detectors s.observables (Some f) → RowRead (after s f)
unfolding after
row_after_lem s (header D O) x = λ e. no_stage InModel e refl
row_after_lem s (mechanism p y) x = λ e. no_stage InModel e refl
row_after_lem s (component y) x = λ e. no_stage InModel e refl
row_after_lem s end x = λ e. no_between BetweenShots e refl
row_after_lem s (row ws) x = λ e. x
row_after_lem s (truth ws) x = λ e. no_between BetweenShots e refl

pub row_read : (s t : Input) (line : List ℕ) → read_line s line ≡ next t → RowRead t
row_read s t line e =
    let k = took s t line e in
    rw k.after (row_after_lem s k.frame (rw k.reads at (exact s.detectors s.observables (bytes_of line))))

-- 06 comes after a 05
after_row : (st : Stage) (n : ℕ) → in_order st n 6 ≡ true → st ≡ AfterRow
unfolding in_order
after_row Nothing n h = clash h refl
after_row InModel n h = clash h refl
after_row BetweenShots n h = clash h refl
after_row AfterRow n h = refl

shot_after : (s : Input) (D O : ℕ) (l : List ℕ) (f : Frame) → length s.row ≡ words s.detectors → Exact s.detectors s.observables (Some f)
    → (b : Bool) (ws : List ℕ) → when b (truth ws) ≡ Some f → ShotRead s (after s f)
unfolding after
shot_after s D O l f r x false ws e = let z : ◌≡◌ {A = ℕ} 0 1 = cc in absurd (omega arith)
shot_after s D O l f r x true ws e = let q : truth ws ≡ f = cc in rw (← q) (record { row = r; truth = rw (← q) at x })

pub shot_read_lem : (s t : Input) (line : List ℕ) → read_line s line ≡ next t → RowRead s → kind_of (bytes_of line) ≡ 6 → ShotRead s t
shot_read_lem s t line e r six =
    let l = bytes_of line in
    let k = took s t line e in
    let D = s.detectors in
    let O = s.observables in
    rw k.after (shot_after s D O l k.frame (r (after_row s.stage (length s.mechanisms) (rw six at k.order))) (rw k.reads at (exact D O l))
    (eqb (length l) (1 + 8 * words O)) (numbers 8 (words O) (drop 1 l)) (sym (frame_6 D O l six) ∙ k.reads))
