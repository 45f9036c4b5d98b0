-- Parts of a block, of a line and of the output.
use Prim.Native.Nat.{ℕ, suc, ◌+◌, ◌-◌, ◌<◌, ◌≤◌}
use native.Mathlib.Omega.{arith}
use mathlib.Core.Path.{◌≡◌, refl, sym, ap, ◌∙◌}
use mathlib.Core.Bool.{Bool, true, false, not, ◌&&◌}
use mathlib.Core.List.{List, [], ◌∷◌, ◌++◌, append_assoc}
use lib.ListN.{length, get_or, take, drop, length-append, length-drop, take-append-drop}
use lib.Seq.{take-suc, get_or-drop, drop-drop, take-add, length-take-le, drop-append-le, sets, sets-eq, length-sets}
use lib.Dec.{eqb}
use borrow.Rule.Slice.PartMut.{mid_of, put_mid, post_of, mid_len, same_len_mid}
use borrow.Author.Tests.{ne_eqb}
use Rattle.std.proofs.lemmas.Slice.{take-put_mid}
use Rattle.dem.specs.Tables.{written}
use Rattle.lists.proofs.Slices.{sets_append}
use Rattle.frames.specs.LineLaws.{unended}
use Rattle.stream.specs.Fed.{between, Appended}

-- ---- parts of a block

module _ (l : List ℕ) where
  pub between_none : (a : ℕ) → between a a l ≡ []
  between_none a = let z : a - a ≡ 0 = omega arith in ap (λ (k : ℕ). take k (drop a l)) z

  pub between_next : (a e : ℕ) → a ≤ e → e < length l → between a (e + 1) l ≡ between a e l ++ (get_or l e 0 ∷ [])
  between_next a e h k =
      let z : e + 1 - a ≡ suc (e - a) = omega arith in
      let y : a + (e - a) ≡ e = omega arith in
      ap (λ (j : ℕ). take j (drop a l)) z ∙ take-suc (drop a l) (e - a) 0 (omega (arith, length-drop a l))
      ∙ ap (λ (x : ℕ). between a e l ++ (x ∷ [])) (get_or-drop a l (e - a) 0 ∙ ap (λ (j : ℕ). get_or l j 0) y)

  -- what comes after a part
  pub between_rest : (a e : ℕ) → a ≤ e → drop a l ≡ between a e l ++ drop e l
  between_rest a e h =
      let y : a + (e - a) ≡ e = omega arith in
      sym (take-append-drop (e - a) (drop a l)) ∙ ap (λ (x : List ℕ). between a e l ++ x) (drop-drop (e - a) a l ∙ ap (λ (j : ℕ). drop j l) y)

  pub between_split : (a b e : ℕ) → a ≤ b → b ≤ e → between a e l ≡ between a b l ++ between b e l
  between_split a b e h k =
      let z : e - a ≡ (b - a) + (e - b) = omega arith in
      let y : a + (b - a) ≡ b = omega arith in
      ap (λ (j : ℕ). take j (drop a l)) z ∙ take-add (b - a) (e - b) (drop a l)
      ∙ ap (λ (x : List ℕ). between a b l ++ take (e - b) x) (drop-drop (b - a) a l ∙ ap (λ (j : ℕ). drop j l) y)

  pub between_long : (a e : ℕ) → a ≤ e → e ≤ length l → length (between a e l) ≡ e - a
  between_long a e h k = length-take-le (e - a) (drop a l) (omega (arith, length-drop a l))

-- ---- no line feed

pub unended_append : (a b : List ℕ) → unended (a ++ b) ≡ (unended a && unended b)
unfolding unended
unended_append [] b = refl
unended_append (x ∷ a) b = ap (λ (t : Bool). not (eqb x 10) && t) (unended_append a b) ∙ assoc (not (eqb x 10)) (unended a) (unended b)
  where
    assoc : (p q r : Bool) → (p && (q && r)) ≡ ((p && q) && r)
    assoc true q r = refl
    assoc false q r = refl

pub unended_both : (a b : List ℕ) → unended a ≡ true → unended b ≡ true → unended (a ++ b) ≡ true
unended_both a b p q = unended_append a b ∙ rw (p, q) refl

pub unended_next : (l : List ℕ) (a e : ℕ) → a ≤ e → e < length l → unended (between a e l) ≡ true → (get_or l e 0 ≡ 10 → ⊥) → unended (between a (e + 1) l) ≡ true
unfolding unended
unended_next l a e h k p x = rw (between_next l a e h k) (unended_both (between a e l) (get_or l e 0 ∷ []) p (rw (ne_eqb (get_or l e 0) 10 x) refl))

pub unended_none : (l : List ℕ) (a : ℕ) → unended (between a a l) ≡ true
unfolding unended
unended_none l a = ap unended (between_none l a)

-- ---- bytes put behind others

-- a part of a block, copied behind the used part of a line
pub record Copied (line block : List ℕ) (used a e : ℕ) (line' : List ℕ) : Type 0 where
  pub long : length line' ≡ length line
  pub put : take (used + (e - a)) line' ≡ take used line ++ between a e block

pub copied : (line block part : List ℕ) (used a e : ℕ) → part ≡ between a e block → a ≤ e → e ≤ length block → used + (e - a) ≤ length line
    → Copied line block used a e (put_mid used (used + (e - a) - used) line part)
copied line block part used a e same h k l =
    let n : length part ≡ e - a = ap length same ∙ between_long block a e h k in
    record {
      long = same_len_mid used (used + (e - a) - used) line part (omega (arith, n, mid_len used (used + (e - a)) line l));
      put = take-put_mid used (used + (e - a) - used) line part (used + (e - a)) (omega (arith, n)) (omega (arith, l)) ∙ ap (λ (x : List ℕ). take used line ++ x) same;
    }

-- ---- the output

-- a text written to the front of the rest of a slice
pub appended : (filled : ℕ) (text out part : List ℕ) → filled ≤ length out → part ≡ written text (mid_of filled (length out - filled) out) → length part ≡ length (mid_of filled (length out - filled) out)
    → Appended filled text out (put_mid filled (length out - filled) out part)
appended filled text out part h p same =
    let k = length out - filled in
    let old = mid_of filled k out in
    let post = post_of filled k out in
    let mid : length old ≡ length out - filled = mid_len filled (length out) out (omega arith) in
    let long : length part ≡ length text + length (drop (length text) old) = ap length p ∙ length-append text (drop (length text) old) in
    let fits : filled + length text ≤ length out = omega (arith, long, same, mid, h) in
    let rest : drop (length text) old ++ post ≡ drop (filled + length text) out
    = sym (drop-append-le (length text) old post (omega (arith, fits, mid))) ∙ ap (drop (length text)) (take-append-drop k (drop filled out)) ∙ drop-drop (length text) filled out in
    record {
      fits = fits;
      output = ap (λ (x : List ℕ). take filled out ++ (x ++ post)) p ∙ ap (λ (x : List ℕ). take filled out ++ x) (append_assoc text (drop (length text) old) post ∙ ap (λ (x : List ℕ). text ++ x) rest)
          ∙ sym (append_assoc (take filled out) text (drop (filled + length text) out)) ∙ sym (sets-eq text out filled fits);
    }

-- no text
pub appended_none : (filled : ℕ) (out : List ℕ) → filled ≤ length out → Appended filled [] out out
appended_none filled out h = record { fits = omega (arith, h); output = refl }

-- one text behind another
pub appended_both : (filled next : ℕ) (a b out out' out'' : List ℕ) → next ≡ filled + length a → Appended filled a out out' → Appended next b out' out'' → Appended filled (a ++ b) out out''
appended_both filled next a b out out' out'' n p q = record {
  fits = omega (arith, n, q.fits, ap length p.output, length-sets out filled a, length-append a b);
  output = q.output ∙ ap (λ (k : ℕ). sets out' k b) n ∙ ap (λ (l : List ℕ). sets l (filled + length a) b) p.output ∙ sym (sets_append out filled a b);
}

-- the output keeps its length
pub appended_long : (filled : ℕ) (text out out' : List ℕ) → Appended filled text out out' → length out' ≡ length out
appended_long filled text out out' p = ap length p.output ∙ length-sets out filled text
