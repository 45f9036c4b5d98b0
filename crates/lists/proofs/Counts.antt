-- How many of a list are true, and how many false.
use Prim.Native.Nat.{ℕ, zero, suc, ◌≤◌, ◌<◌}
use native.Mathlib.Nat.{not-suc-le-zero, le_of_suc-le-suc}
use native.Mathlib.Omega.{arith}
use mathlib.Core.Path.{◌≡◌, refl, ap}
use mathlib.Core.List.{List, [], ◌∷◌}
use mathlib.Core.Bool.{Bool, true, false}
use lib.Dec.{ltb}
use lib.ListN.{length, get_or, set, replicate, get_or-eq_default}
use borrow.Author.Tests.{ltb-true, ltb-false}
unfoldable pub use Rattle.lists.specs.Lists.{falses}
use Rattle.lists.proofs.Truth.{case-of, clash}

-- ---- how many are true

pub trues : List Bool → ℕ
trues [] = 0
trues (true ∷ l) = suc (trues l)
trues (false ∷ l) = trues l

pub trues_all : (l : List Bool) → trues l ≤ length l
unfolding trues
trues_all [] = omega arith
trues_all (true ∷ l) = let h = trues_all l in omega arith
trues_all (false ∷ l) = let h = trues_all l in omega arith

abbrev pub Below : List Bool → List Bool → Type 0
Below l m = (i : ℕ) → get_or l i false ≡ true → get_or m i false ≡ true

trues_le : (l m : List Bool) → length l ≡ length m → Below l m → trues l ≤ trues m
unfolding trues
trues_le [] m z h = omega arith
trues_le (a ∷ l) [] z h = absurd (omega arith)
trues_le (true ∷ l) (true ∷ m) z h = let k = trues_le l m (omega arith) (λ i. h (suc i)) in omega arith
trues_le (true ∷ l) (false ∷ m) z h = clash (h 0 refl) refl
trues_le (false ∷ l) (true ∷ m) z h = let k = trues_le l m (omega arith) (λ i. h (suc i)) in omega arith
trues_le (false ∷ l) (false ∷ m) z h = trues_le l m (omega arith) (λ i. h (suc i))

pub trues_lt : (l m : List Bool) → length l ≡ length m → Below l m → (e : ℕ) → get_or l e true ≡ false → get_or m e false ≡ true → trues l < trues m
unfolding trues
trues_lt [] m z h e p q = clash refl p
trues_lt (a ∷ l) [] z h e p q = absurd (omega arith)
trues_lt (true ∷ l) (b ∷ m) z h zero p q = clash refl p
trues_lt (false ∷ l) (true ∷ m) z h zero p q = let k = trues_le l m (omega arith) (λ i. h (suc i)) in omega arith
trues_lt (false ∷ l) (false ∷ m) z h zero p q = clash q refl
trues_lt (true ∷ l) (true ∷ m) z h (suc e) p q = let k = trues_lt l m (omega arith) (λ i. h (suc i)) e p q in omega arith
trues_lt (true ∷ l) (false ∷ m) z h (suc e) p q = clash (h 0 refl) refl
trues_lt (false ∷ l) (true ∷ m) z h (suc e) p q = let k = trues_lt l m (omega arith) (λ i. h (suc i)) e p q in omega arith
trues_lt (false ∷ l) (false ∷ m) z h (suc e) p q = trues_lt l m (omega arith) (λ i. h (suc i)) e p q

pub in_range : (l : List Bool) (i : ℕ) → get_or l i false ≡ true → i < length l
in_range l i t = case-of (ltb i (length l)) (λ u. ltb-true i (length l) u) (λ u. clash t (get_or-eq_default l false (ltb-false i (length l) u)))

-- ---- how many are false

pub falses_set : (l : List Bool) (i : ℕ) → i < length l → get_or l i false ≡ false → suc (falses (set l i true)) ≡ falses l
unfolding falses
falses_set [] i h f = absurd (not-suc-le-zero h)
falses_set (true ∷ l) zero h f = clash refl f
falses_set (false ∷ l) zero h f = refl
falses_set (true ∷ l) (suc i) h f = falses_set l i (le_of_suc-le-suc h) f
falses_set (false ∷ l) (suc i) h f = ap suc (falses_set l i (le_of_suc-le-suc h) f)

pub falses_replicate : (n : ℕ) → falses (replicate n false) ≡ n
unfolding falses
falses_replicate zero = refl
falses_replicate (suc n) = ap suc (falses_replicate n)

-- none is true yet
pub none_true : (n i : ℕ) → get_or (replicate n false) i false ≡ false
none_true zero i = refl
none_true (suc n) zero = refl
none_true (suc n) (suc i) = none_true n i
