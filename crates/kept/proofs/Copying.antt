-- The copies, a mechanism at a time.
use Prim.Native.Nat.{ℕ, suc, ◌+◌, ◌-◌, ◌<◌, ◌≤◌}
use native.Mathlib.Numerals.{add-one}
use native.Mathlib.Omega.{arith}
use mathlib.Core.Path.{◌≡◌, refl, sym, ap, ◌∙◌}
use mathlib.Core.List.{List, [], ◌∷◌, ◌++◌, append-nil}
use mathlib.Core.Bool.{cond}
use lib.ListN.{length, get_or, set, take, drop, length-append, length-take, length-drop}
use borrow.Author.Tests.{le-leb, lt-leb}
use Rattle.dem.specs.Tables.{written}
use Rattle.kept.specs.Columns.{kept_by, kept_parts}
use Rattle.kept.proofs.Written.{written_set, written_paste}

module _ {A : Type 0} (ds : List ℕ) (f : ℕ → A) (was : List A) where
  -- the first i mechanisms are done
  pub record Copying (i at : ℕ) (out : List A) : Type 0 where
    pub few : at ≤ i
    pub counted : at ≡ length (kept_by i ds f)
    pub copied : out ≡ written (kept_by i ds f) was

  pub copy_none : Copying 0 0 was
  unfolding kept_by
  copy_none = record { few = omega arith; counted = refl; copied = refl }

  pub column_kept : (i : ℕ) → get_or ds i 0 ≤ 2 → kept_by (i + 1) ds f ≡ kept_by i ds f ++ (f i ∷ [])
  unfolding kept_by
  column_kept i d = ap (λ (k : ℕ). kept_by k ds f) (add-one i) ∙ ap (λ b. kept_by i ds f ++ cond b (f i ∷ []) []) (le-leb (get_or ds i 0) 2 d)

  pub column_left_lem : (i : ℕ) → 2 < get_or ds i 0 → kept_by (i + 1) ds f ≡ kept_by i ds f
  unfolding kept_by
  column_left_lem i d =
      ap (λ (k : ℕ). kept_by k ds f) (add-one i) ∙ ap (λ b. kept_by i ds f ++ cond b (f i ∷ []) []) (lt-leb (get_or ds i 0) 2 d)
      ∙ append-nil (kept_by i ds f)

  pub copy_kept : (i at : ℕ) (out : List A) → Copying i at out → i < length was → get_or ds i 0 ≤ 2 → Copying (i + 1) (at + 1) (set out at (f i))
  copy_kept i at out h l d =
      let e = column_kept i d in
      record {
        few = omega (arith, h.few);
        counted = omega (arith, h.counted, ap length e, length-append (kept_by i ds f) (f i ∷ []));
        copied = ap (λ (o : List A). set o at (f i)) h.copied
            ∙ written_set (kept_by i ds f) was at (f i) h.counted (omega (arith, h.few))
            ∙ ap (λ (l : List A). written l was) (sym e);
      }

  pub copy_left : (i at : ℕ) (out : List A) → Copying i at out → 2 < get_or ds i 0 → Copying (i + 1) at out
  copy_left i at out h d =
      let e = column_left_lem i d in
      record { few = omega (arith, h.few); counted = h.counted ∙ sym (ap length e); copied = h.copied ∙ ap (λ (l : List A). written l was) (sym e) }

module _ {A : Type 0} (ds : List ℕ) (start : ℕ → ℕ) (xs was : List A) where
  pub record Pasting (i at : ℕ) (out : List A) : Type 0 where
    pub few : at ≤ start i
    pub counted : at ≡ length (kept_parts i ds start xs)
    pub copied : out ≡ written (kept_parts i ds start xs) was

  pub paste_none : start 0 ≡ 0 → Pasting 0 0 was
  unfolding kept_parts
  paste_none e = record { few = omega arith; counted = refl; copied = refl }

  pub parts_kept : (i size : ℕ) → get_or ds i 0 ≤ 2 → start (i + 1) ≡ start i + size → kept_parts (i + 1) ds start xs ≡ kept_parts i ds start xs ++ take size (drop (start i) xs)
  unfolding kept_parts
  parts_kept i size d e =
      let next : start (suc i) ≡ start i + size = ap start (sym (add-one i)) ∙ e in
      let many : start (suc i) - start i ≡ size = omega arith in
      ap (λ (k : ℕ). kept_parts k ds start xs) (add-one i)
      ∙ ap (λ b. kept_parts i ds start xs ++ cond b (take (start (suc i) - start i) (drop (start i) xs)) []) (le-leb (get_or ds i 0) 2 d)
      ∙ ap (λ (k : ℕ). kept_parts i ds start xs ++ take k (drop (start i) xs)) many

  pub parts_left : (i : ℕ) → 2 < get_or ds i 0 → kept_parts (i + 1) ds start xs ≡ kept_parts i ds start xs
  unfolding kept_parts
  parts_left i d =
      ap (λ (k : ℕ). kept_parts k ds start xs) (add-one i)
      ∙ ap (λ b. kept_parts i ds start xs ++ cond b (take (start (suc i) - start i) (drop (start i) xs)) []) (lt-leb (get_or ds i 0) 2 d)
      ∙ append-nil (kept_parts i ds start xs)

  -- part i is copied, size entries from start i on
  pub paste_kept : (i at size : ℕ) (out part : List A) → Pasting i at out → get_or ds i 0 ≤ 2
      → start (i + 1) ≡ start i + size → start (i + 1) ≤ length xs → part ≡ take size (drop (start i) xs)
      → Pasting (i + 1) (at + size) (take at out ++ (part ++ drop (at + length part) out))
  paste_kept i at size out part h d e l q =
      let long : length part ≡ size = ap length q ∙ omega (arith, length-take size (drop (start i) xs), length-drop (start i) xs) in
      let g = parts_kept i size d e ∙ ap (λ (p : List A). kept_parts i ds start xs ++ p) (sym q) in
      record {
        few = omega (arith, h.few, e);
        counted = omega (arith, h.counted, long, ap length g, length-append (kept_parts i ds start xs) part);
        copied = ap (λ (o : List A). take at o ++ (part ++ drop (at + length part) o)) h.copied
            ∙ written_paste (kept_parts i ds start xs) was at part h.counted
            ∙ ap (λ (p : List A). written p was) (sym g);
      }

  pub paste_left : (i at : ℕ) (out : List A) → Pasting i at out → 2 < get_or ds i 0 → start i ≤ start (i + 1) → Pasting (i + 1) at out
  paste_left i at out h d l =
      let e = parts_left i d in
      record { few = omega (arith, h.few); counted = h.counted ∙ sym (ap length e); copied = h.copied ∙ ap (λ (p : List A). written p was) (sym e) }
