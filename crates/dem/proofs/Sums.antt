-- Sums of lists, and of their parts.
use Prim.Native.Nat.{ℕ, zero, suc, ◌+◌, ◌≤◌}
use native.Mathlib.Omega.{arith}
use mathlib.Core.Path.{◌≡◌, refl, sym, ap, ◌∙◌}
use mathlib.Core.List.{List, [], ◌∷◌, ◌++◌}
use lib.ListN.{get_or, take, drop}
use lib.Seq.{take-nil, take-add}
use Rattle.dem.specs.Tables.{component_entries}
use Rattle.dem.specs.Positions.{total, Summed}
use Rattle.std.specs.Prelude.{sum}
use Rattle.std.proofs.Common.{Fits, w8}
use Rattle.std.proofs.lemmas.List.Sums.{sum_by-append, sum_by-le}
use Rattle.std.proofs.lemmas.List.Recursion.{is_sum_by}
use Rattle.std.proofs.lemmas.List.Elements.{All-from_get_or}

pub total_sum : (xs : List ℕ) → total xs ≡ sum xs
unfolding total
total_sum = is_sum_by total (λ x. x) refl (λ _ _. refl)

total_append : (xs ys : List ℕ) → total (xs ++ ys) ≡ total xs + total ys
total_append xs ys = rw (total_sum (xs ++ ys), total_sum xs, total_sum ys) (sum_by-append (λ x. x) xs ys)

-- what an iterator's sum of bytes is
pub summed_bytes : (xs : List ℕ) (s : ℕ) → s ≡ sum xs → ((i : ℕ) → Fits w8 (get_or xs i 0)) → Summed xs s
summed_bytes xs s e h = record {
  is = e ∙ sym (total_sum xs);
  small = omega (arith, e, sum_by-le (λ x. x) 255 xs (All-from_get_or (λ x. x ≤ 255) xs 0 (λ i _. omega (arith, h i))));
}

-- the first m, and the next n
pub total_add : (m n : ℕ) (xs : List ℕ) → total (take (m + n) xs) ≡ total (take m xs) + total (take n (drop m xs))
total_add m n xs = ap total (take-add m n xs) ∙ total_append (take m xs) (take n (drop m xs))

pub total_none : (xs : List ℕ) → total (take 0 xs) ≡ 0
unfolding total
total_none xs = refl

pub total_first : (n : ℕ) (xs : List ℕ) → total (take (suc n) xs) ≡ get_or xs 0 0 + total (take n (drop 1 xs))
unfolding total
total_first n [] = rw (take-nil {A = ℕ} n)
total_first n (x ∷ xs) = refl

-- the entries of n components
pub entries_total : (n : ℕ) (ds os : List ℕ) → component_entries n ds os ≡ total (take n ds) + total (take n os)
unfolding component_entries total
entries_total zero ds os = refl
entries_total (suc n) ds os =
    rw (entries_total n (drop 1 ds) (drop 1 os), total_first n ds, total_first n os) (omega arith)
