-- A column filled entry by entry.
use Prim.Native.Nat.{ℕ, suc, ◌+◌, ◌<◌}
use native.Mathlib.Omega.{arith}
use native.Mathlib.Numerals.{add-one}
use mathlib.Core.Path.{◌≡◌, refl, sym, ap, ◌∙◌}
use mathlib.Core.List.{List, [], ◌∷◌, ◌++◌, map}
use lib.ListN.{length, get_or, take, drop, set, length-map, length-take}
use lib.Seq.{take-suc, drop-cons, set_at, append_snoc}

module _ {A : Type 0} (f : ℕ → A) (z : A) where
  map_more : (l : List ℕ) (a : ℕ) → map f (l ++ (a ∷ [])) ≡ map f l ++ (f a ∷ [])
  map_more [] a = refl
  map_more (b ∷ l) a = ap {B = List A} (λ r. f b ∷ r) (map_more l a)

  -- entry i stored
  pub column_turn : (l : List ℕ) (was : List A) (i : ℕ) → i < length l → i < length was
      → set (map f (take i l) ++ drop i was) i (f (get_or l i 0)) ≡ map f (take (i + 1) l) ++ drop (i + 1) was
  column_turn l was i h k =
      let front = map f (take i l) in
      let rest = drop (suc i) was in
      let n : length front ≡ i = length-map (take i l) f ∙ length-take i l ∙ omega arith in
      ap (λ (r : List A). set (front ++ r) i (f (get_or l i 0))) (drop-cons was i z k)
      ∙ set_at front (get_or was i z) rest (f (get_or l i 0)) i n
      ∙ sym (append_snoc front (f (get_or l i 0)) rest)
      ∙ ap (λ (r : List A). r ++ rest) (sym (map_more (take i l) (get_or l i 0)) ∙ ap (map f) (sym (take-suc l i 0 h)))
      ∙ ap (λ (j : ℕ). map f (take j l) ++ drop j was) (sym (add-one i))
