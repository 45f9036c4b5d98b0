-- A line's answer and what it stores are those of the definition.
use Rattle.std.specs.Prelude.{Option, None, Some}
use Rattle.std.specs.Prelude.{Result, Ok, Err}
use Prim.Native.Nat.{ℕ, ◌+◌, ◌*◌, ◌≤◌}
use native.Mathlib.Omega.{arith}
use mathlib.Core.Path.{◌≡◌, refl, sym, ap, ap₂, ◌∙◌}
use mathlib.Core.List.{List, ◌++◌}
use mathlib.Core.Bool.{Bool, true, false, cond}
use lib.ListN.{length, get_or, take, drop}
use lib.Seq.{drop-drop}
use lib.Dec.{eqb}
use borrow.Author.Tests.{eqb-true}
use Rattle.lists.proofs.Truth.{clash, cond_case}
use Rattle.codes.specs.declared.Refusal.{Refusal}
use Rattle.codes.specs.declared.Refusal.TheVariants as refusal
use Rattle.hex_text.specs.Hex.{is_hex, bytes_of, number, numbers}
use Rattle.hex_text.proofs.Runs.{numbers_long, numbers_add}
use Rattle.bits.specs.Rows.{words}
use Rattle.frames.specs.declared.State.{State}
use Rattle.frames.specs.Frames.{Frame, header, mechanism, component, end, row, truth, kind_of, symptom_long, symptom_of, when, frame_of}
use Rattle.frames.specs.Input.{Input, Read, next, refused, in_order, after, over, read_line}
use Rattle.frames.specs.Counts.{counts_of, answer_of, count_after, over_counts, capped, frame_line, line_of}
use Rattle.frames.proofs.FrameKinds.{frame_1, frame_2, frame_3, frame_4, frame_5, frame_6, held_of, first_count, second_count}
use Rattle.frames.proofs.Answers.{answers, counts_after, follows, order_component}
use Rattle.reader.specs.Columns.{Columns, columns_at, roomy, listed, answer_to, stored_frame, stored, Storable, Holds, read_by, LineRead}
use Rattle.reader.proofs.Stored.{room_of_lem, WordsFit, store_frame}

-- ---- two lists at byte i

module _ (l : List ℕ) (i : ℕ) where
  pub first_long : length (symptom_of (drop i l)).detectors ≡ get_or l i 0
  first_long = numbers_long 2 (get_or (drop i l) 0 0) (drop 2 (drop i l)) ∙ first_count l i

  pub second_long : length (symptom_of (drop i l)).observables ≡ get_or l (i + 1) 0
  second_long = numbers_long 2 (get_or (drop i l) 1 0) (drop (2 + 2 * get_or (drop i l) 0 0) (drop i l)) ∙ second_count l i

  pub listed_is : (size : ℕ) → size ≡ get_or l i 0 + get_or l (i + 1) 0 → numbers 2 size (drop (i + 2) l) ≡ listed (symptom_of (drop i l))
  listed_is size h =
      let d = get_or (drop i l) 0 0 in
      let o = get_or (drop i l) 1 0 in
      let q : i + 2 + 2 * d ≡ i + (2 + 2 * d) = omega arith in
      ap (λ (k : ℕ). numbers 2 k (drop (i + 2) l)) (h ∙ sym (ap₂ ◌+◌ (first_count l i) (second_count l i)))
      ∙ numbers_add 2 d o (drop (i + 2) l)
      ∙ ap₂ (λ (a : List ℕ) (b : List ℕ). numbers 2 d a ++ numbers 2 o b) (sym (drop-drop 2 i l))
      (drop-drop (2 * d) (i + 2) l ∙ ap (λ (k : ℕ). drop k l) q ∙ sym (drop-drop (2 + 2 * d) i l))

-- ---- the words of a frame

abbrev Fit : Option Frame → Type 0
Fit None = Unit
Fit (Some f) = WordsFit f

fit_when : (b : Bool) (f : Frame) → WordsFit f → Fit (when b f)
fit_when true f h = h
fit_when false f h = tt

words_fit : (D O : ℕ) (l : List ℕ) → D ≤ 256 → O ≤ 128 → Fit (frame_of D O l)
unfolding frame_of words
words_fit D O l hD hO =
    let k = kind_of l in
    cond_case Fit (eqb k 1) _ _ (λ _. fit_when (eqb (length l) 5) (header (number (take 2 (drop 1 l))) (number (take 2 (drop 3 l)))) tt) λ _.
    cond_case Fit (eqb k 2) _ _ (λ _. fit_when (symptom_long (drop 9 l)) (mechanism (number (take 8 (drop 1 l))) (symptom_of (drop 9 l))) tt) λ _.
    cond_case Fit (eqb k 3) _ _ (λ _. fit_when (symptom_long (drop 1 l)) (component (symptom_of (drop 1 l))) tt) λ _.
    cond_case Fit (eqb k 4) _ _ (λ _. fit_when (eqb (length l) 1) end tt) λ _.
    cond_case Fit (eqb k 5) _ _ (λ _. fit_when (eqb (length l) (1 + 8 * words D)) (row (numbers 8 (words D) (drop 1 l))) (omega (arith, numbers_long 8 (words D) (drop 1 l)))) λ _.
    cond_case Fit (eqb k 6) _ _ (λ _. fit_when (eqb (length l) (1 + 8 * words O)) (truth (numbers 8 (words O) (drop 1 l))) (omega (arith, numbers_long 8 (words O) (drop 1 l)))) (λ _. tt)

-- ---- what a frame stores

pub stored_when : (n : State) (b : Bool) (f : Frame) (c : Columns) → stored n (when b f) c ≡ cond b (stored_frame n f c) c
stored_when n true f c = refl
stored_when n false f c = refl

-- 01 and 04: nothing
module _ (D O : ℕ) (n : State) (l : List ℕ) (c : Columns) where
  pub stored_header : kind_of l ≡ 1 → stored n (frame_of D O l) c ≡ c
  unfolding stored_frame
  stored_header h = rw (frame_1 D O l h, stored_when) (cond_case (λ r. r ≡ c) (eqb (length l) 5) c c (λ _. refl) (λ _. refl))

  pub stored_end : kind_of l ≡ 4 → stored n (frame_of D O l) c ≡ c
  unfolding stored_frame
  stored_end h = rw (frame_4 D O l h, stored_when) (cond_case (λ r. r ≡ c) (eqb (length l) 1) c c (λ _. refl) (λ _. refl))

-- ---- a line that is answered by numbers

never_next : {A : Type 0} (x : Refusal) (t : State) → Err x ≡ Ok t → A
never_next x t e = let z : ◌≡◌ {A = ℕ} 0 1 = cc in absurd (omega arith)

cond_next : (b : Bool) (r : Result State Refusal) (x : Refusal) (t : State) → cond b r (Err x) ≡ Ok t → (b ≡ true) × (r ≡ Ok t)
cond_next true r x t e = (refl, e)
cond_next false r x t e = never_next x t e

capped_next : (n t : State) → capped n ≡ Ok t → over_counts n ≡ false
capped_next n t = go (over_counts n)
  where
    go : (b : Bool) → cond b (Err refusal.Limit) (Ok n) ≡ Ok t → b ≡ false
    go true e = never_next refusal.Limit t e
    go false e = refl

when_next : (n t : State) (b : Bool) (f : Frame) → frame_line n (when b f) ≡ Ok t → (b ≡ true) × (over_counts (count_after n f) ≡ false)
when_next n t true f e = (refl, capped_next (count_after n f) t e)
when_next n t false f e = never_next refusal.Frame t e

-- its digits, its order and its frame
pub record Taken (n : State) (line : List ℕ) (t : State) : Type 0 where
  pub hex : is_hex line ≡ true
  pub order : in_order n.stage n.mechanisms (kind_of (bytes_of line)) ≡ true
  pub frame : frame_line n (frame_of n.detectors n.observables (bytes_of line)) ≡ Ok t

taken : (n : State) (line : List ℕ) (t : State) → line_of n line ≡ Ok t → Taken n line t
unfolding line_of
taken n line t e =
    let (h, p) = cond_next (is_hex line) _ refusal.Frame t e in
    let (o, q) = cond_next (in_order n.stage n.mechanisms (kind_of (bytes_of line))) _ refusal.Frame t p in
    record { hex = h; order = o; frame = q }

module _ (n : State) (line : List ℕ) (c : Columns) (t : State) (w : over_counts n ≡ false) (g : roomy c ≡ true) (e : line_of n line ≡ Ok t) where
  pub storable : Storable n (bytes_of line) c
  unfolding count_after words
  storable =
      let l = bytes_of line in
      let k = taken n line t e in
      let here = held_of n w in
      let D = n.detectors in
      let O = n.observables in
      record {
        mechanism = λ h.
            let (long, v) = when_next n t _ _ (rw (frame_2 D O l h) at k.frame) in
            let q = held_of (count_after n (mechanism (number (take 8 (drop 1 l))) (symptom_of (drop 9 l)))) v in
            (long, omega (arith, q.mechanisms), q.entries);
        component = λ h.
            let (long, v) = when_next n t _ _ (rw (frame_3 D O l h) at k.frame) in
            let q = held_of (count_after n (component (symptom_of (drop 1 l)))) v in
            (long, order_component n.stage n.mechanisms (rw h at k.order), here.mechanisms, omega (arith, q.components), q.entries);
        row = λ h.
            let (long, v) = when_next n t _ _ (rw (frame_5 D O l h) at k.frame) in
            (eqb-true _ _ long, omega (arith, here.detectors));
        truth = λ h.
            let (long, v) = when_next n t _ _ (rw (frame_6 D O l h) at k.frame) in
            (eqb-true _ _ long, omega (arith, here.observables));
        room = g;
      }

-- ---- what is read with the line

module _ (s : Input) (line : List ℕ) where
  -- the line's frame, in order and held
  read_next : (f : Frame) → is_hex line ≡ true → in_order s.stage (length s.mechanisms) (kind_of (bytes_of line)) ≡ true
      → frame_of s.detectors s.observables (bytes_of line) ≡ Some f → over (after s f) ≡ false → read_line s line ≡ next (after s f)
  unfolding read_line
  read_next f h o p v = rw (h, o, p, v)

  -- a refused line adds nothing
  read_refused : (x : Refusal) → answer_of (read_line s line) ≡ Err x → read_by s (read_line s line) ≡ s
  read_refused x = go (read_line s line)
    where
      go : (r : Read) → answer_of r ≡ Err x → read_by s r ≡ s
      go (next u) e = never_next x (counts_of u) (sym e)
      go (refused y) e = refl

frame_stored : (s : Input) (line : List ℕ) (c : Columns) (t : State) → c ≡ columns_at s c → roomy c ≡ true → over_counts (counts_of s) ≡ false → Taken (counts_of s) line t
    → stored (counts_of s) (frame_of s.detectors s.observables (bytes_of line)) c ≡ columns_at (read_by s (read_line s line)) c
frame_stored s line c t e g w k = go (frame_of s.detectors s.observables (bytes_of line)) refl
  where
    go : (o : Option Frame) → frame_of s.detectors s.observables (bytes_of line) ≡ o → stored (counts_of s) o c ≡ columns_at (read_by s (read_line s line)) c
    go None p = never_next refusal.Frame t (sym (ap (frame_line (counts_of s)) p) ∙ k.frame)
    go (Some f) p =
        let l = bytes_of line in
        let here = held_of (counts_of s) w in
        let v = capped_next (count_after (counts_of s) f) t (sym (ap (frame_line (counts_of s)) p) ∙ k.frame) in
        let fits = rw p at (words_fit s.detectors s.observables l here.detectors here.observables) in
        let behind = follows s l f k.order p in
        let u : over (after s f) ≡ false = ap over_counts (counts_after s f behind) ∙ v in
        store_frame s c e (room_of_lem c g) f behind fits (held_of (count_after (counts_of s) f) v)
        ∙ ap (λ (r : Read). columns_at (read_by s r) c) (sym (read_next s line f k.hex k.order p u))

-- ---- the contract

module _ (line : List ℕ) (n : State) (c : Columns) where
  by_line : over_counts n ≡ false → roomy c ≡ true → answer_to line n c ≡ line_of n line
  unfolding answer_to
  by_line w g = rw (w, g) refl

  pub over_read : over_counts n ≡ true → LineRead line n c (Err refusal.Limit) c
  unfolding answer_to
  over_read t = record {
    answers = rw t refl;
    leaves = refl;
    answer = λ s h _. clash t h.within;
    tables = λ s h _. clash t h.within;
  }

  pub short_read : over_counts n ≡ false → roomy c ≡ false → LineRead line n c (Err refusal.Short) c
  unfolding answer_to
  short_read w f = record {
    answers = rw (w, f) refl;
    leaves = refl;
    answer = λ s h g. clash g f;
    tables = λ s h g. clash g f;
  }

  answered : (r : Result State Refusal) → r ≡ line_of n line → (s : Input) → Holds s n c → r ≡ answer_of (read_line s line)
  answered r e s h = e ∙ ap (λ (m : State). line_of m line) h.counts ∙ answers s line

  pub refused_read : over_counts n ≡ false → roomy c ≡ true → (x : Refusal) → Err x ≡ line_of n line → LineRead line n c (Err x) c
  refused_read w g x e = record {
    answers = e ∙ sym (by_line w g);
    leaves = refl;
    answer = λ s h _. answered (Err x) e s h;
    tables = λ s h _. h.tables ∙ ap (λ (u : Input). columns_at u c) (sym (read_refused s line x (sym (answered (Err x) e s h))));
  }

  pub next_read : over_counts n ≡ false → roomy c ≡ true → (t : State) (left : Columns) → Ok t ≡ line_of n line
      → left ≡ stored n (frame_of n.detectors n.observables (bytes_of line)) c → LineRead line n c (Ok t) left
  next_read w g t left e q = record {
    answers = e ∙ sym (by_line w g);
    leaves = q;
    answer = λ s h _. answered (Ok t) e s h;
    tables = λ s h _.
        q ∙ ap (λ (m : State). stored m (frame_of m.detectors m.observables (bytes_of line)) c) h.counts
        ∙ frame_stored s line c t h.tables g (rw h.counts at h.within) (taken (counts_of s) line t (rw h.counts at (sym e)));
  }

-- ---- for the calls

pub ruleset by_store = (stored_header, frame_2, frame_3, stored_end, stored_when)
