-- What is written in front of the old contents grows at its end.
use Prim.Native.Nat.{ℕ, suc, ◌+◌, ◌<◌}
use native.Mathlib.Numerals.{add-one}
use native.Mathlib.Omega.{arith}
use mathlib.Core.Path.{◌≡◌, sym, ap, ◌∙◌}
use mathlib.Core.List.{List, [], ◌∷◌, ◌++◌, append_assoc}
use lib.ListN.{length, set, take, drop, length-append}
use lib.Seq.{drop-cons, set-append_seam, append_snoc, take-append_seam, drop-append-add, drop-drop}
use Rattle.dem.specs.Tables.{written}

module _ {A : Type 0} (new was : List A) where
  pub written_set : (at : ℕ) (x : A) → at ≡ length new → at < length was → set (written new was) at x ≡ written (new ++ (x ∷ [])) was
  written_set at x e h =
      let n = length new in
      let l : n < length was = omega arith in
      let m : length (new ++ (x ∷ [])) ≡ suc n = length-append new (x ∷ []) ∙ add-one n in
      ap (λ (k : ℕ). set (written new was) k x) e
      ∙ ap (λ (r : List A). set (new ++ r) n x) (drop-cons was n x l)
      ∙ set-append_seam new _ (drop (suc n) was) x
      ∙ sym (append_snoc new x (drop (suc n) was))
      ∙ sym (ap (λ (k : ℕ). (new ++ (x ∷ [])) ++ drop k was) m)

  pub written_paste : (at : ℕ) (xs : List A) → at ≡ length new
      → take at (written new was) ++ (xs ++ drop (at + length xs) (written new was)) ≡ written (new ++ xs) was
  written_paste at xs e =
      let n = length new in
      let rest = drop n was in
      rw (e, take-append_seam new rest, drop-append-add new rest (length xs), drop-drop (length xs) n was, length-append new xs)
      (sym (append_assoc new xs (drop (n + length xs) was)))
