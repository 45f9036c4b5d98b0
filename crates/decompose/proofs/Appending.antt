-- The lists of the appended mechanisms, one after the other.
use Prim.Native.Nat.{ℕ, ◌+◌, ◌-◌, ◌<◌, ◌≤◌}
use native.Mathlib.Omega.{arith}
use mathlib.Core.Path.{◌≡◌, sym, ap, ap₂, ◌∙◌}
use mathlib.Core.List.{List, [], ◌∷◌, ◌++◌, map, map-append, append_assoc, append-nil}
use lib.ListN.{length, get_or, take, drop, take-append-drop, length-append, length-drop}
use lib.Seq.{take-add, drop-drop, length-take-le}
use Rattle.lists.specs.Lists.{from}
use Rattle.lists.proofs.Ranges.{from_append}
use Rattle.dem.specs.Model.{Symptom}
use Rattle.dem.specs.Tables.{symptom_entries, written}
use Rattle.cover.specs.Kept.{symptom_at}
use Rattle.kept.proofs.Written.{written_paste}
use Rattle.split_model.proofs.Grows.{entries_append}
use Rattle.decompose.specs.Appended.{lists_from, Appendable}

module _ (starts ds os es : List ℕ) where
  abbrev lists : ℕ → ℕ → List Symptom
  lists k n = lists_from starts ds os es k n

  pub lists_split : (k i n : ℕ) → k ≤ i → i ≤ n → lists k n ≡ lists k i ++ lists i n
  unfolding lists_from
  lists_split k i n h l =
      let e : n - k ≡ (i - k) + (n - i) = omega arith in
      let f : (i - k) + k ≡ i = omega arith in
      ap (λ (m : ℕ). map (symptom_at starts ds os es) (from m k)) e
      ∙ ap (map (symptom_at starts ds os es)) (from_append (i - k) (n - i) k ∙ ap (λ (m : ℕ). from (i - k) k ++ from (n - i) m) f)
      ∙ map-append (symptom_at starts ds os es) (from (i - k) k) (from (n - i) i)

  lists_none : (k : ℕ) → lists k k ≡ []
  unfolding lists_from from
  lists_none k = let e : k - k ≡ 0 = omega arith in ap (λ (m : ℕ). map (symptom_at starts ds os es) (from m k)) e

  lists_one : (i : ℕ) → lists i (i + 1) ≡ symptom_at starts ds os es i ∷ []
  unfolding lists_from from
  lists_one i = let e : i + 1 - i ≡ 1 = omega arith in ap (λ (m : ℕ). map (symptom_at starts ds os es) (from m i)) e

  -- the entries of mechanism i are one part of the entries given
  part_of : (i : ℕ) → symptom_entries (lists i (i + 1)) ≡ take (get_or ds i 0 + get_or os i 0) (drop (get_or starts i 0) es)
  unfolding symptom_entries
  part_of i =
      let a = take (get_or ds i 0) (drop (get_or starts i 0) es) in
      ap symptom_entries (lists_one i)
      ∙ ap (λ (l : List ℕ). a ++ l) (append-nil (take (get_or os i 0) (drop (get_or starts i 0 + get_or ds i 0) es)))
      ∙ ap (λ (l : List ℕ). a ++ take (get_or os i 0) l) (sym (drop-drop (get_or ds i 0) (get_or starts i 0) es))
      ∙ sym (take-add (get_or ds i 0) (get_or os i 0) (drop (get_or starts i 0) es))

  entries_next : (k i : ℕ) → k ≤ i → symptom_entries (lists k (i + 1)) ≡ symptom_entries (lists k i) ++ take (get_or ds i 0 + get_or os i 0) (drop (get_or starts i 0) es)
  entries_next k i h =
      ap symptom_entries (lists_split k i (i + 1) h (omega arith)) ∙ entries_append (lists k i) (lists i (i + 1))
      ∙ ap (λ (l : List ℕ). symptom_entries (lists k i) ++ l) (part_of i)

-- the lists of mechanisms k to i are written, after the first `at` entries
abbrev so_far : List ℕ → List ℕ → List ℕ → List ℕ → ℕ → ℕ → List ℕ → ℕ → List ℕ
so_far starts ds os es k at was i = take at was ++ symptom_entries (lists_from starts ds os es k i)

pub record Appending (starts ds os es : List ℕ) (k at : ℕ) (was : List ℕ) (i to : ℕ) (out : List ℕ) : Type 0 where
  pub counted : to ≡ length (so_far starts ds os es k at was i)
  pub copied : out ≡ written (so_far starts ds os es k at was i) was

module _ {starts ds os es : List ℕ} {k n at : ℕ} {was : List ℕ} (a : Appendable starts ds os es k n at was) where
  front : length (take at was) ≡ at
  front = length-take-le at was (omega (arith, a.room))

  pub appending_none : Appending starts ds os es k at was k at was
  unfolding symptom_entries
  appending_none =
      let e : so_far starts ds os es k at was k ≡ take at was = ap (λ (l : List Symptom). take at was ++ symptom_entries l) (lists_none starts ds os es k) ∙ append-nil (take at was) in
      record {
        counted = sym (ap length e ∙ front);
        copied = sym (ap (λ (l : List ℕ). written l was) e ∙ ap (λ (m : ℕ). take at was ++ drop m was) front ∙ take-append-drop at was);
      }

  module _ {i to : ℕ} {out : List ℕ} (g : Appending starts ds os es k at was i to out) (h : k ≤ i) (l : i < n) where
    abbrev part : List ℕ
    part = take (get_or ds i 0 + get_or os i 0) (drop (get_or starts i 0) es)

    part_long : length part ≡ get_or ds i 0 + get_or os i 0
    part_long = length-take-le _ (drop (get_or starts i 0) es) (omega (arith, a.listed i l, length-drop (get_or starts i 0) es))

    pub part_fits : to + (get_or ds i 0 + get_or os i 0) ≤ length was
    part_fits =
        let e = ap symptom_entries (lists_split starts ds os es k (i + 1) n (omega arith) (omega arith)) ∙ entries_append (lists starts ds os es k (i + 1)) (lists starts ds os es (i + 1) n) in
        let m : length (symptom_entries (lists starts ds os es k (i + 1))) + length (symptom_entries (lists starts ds os es (i + 1) n)) ≡ length (symptom_entries (lists starts ds os es k n)) =
        sym (ap length e ∙ length-append (symptom_entries (lists starts ds os es k (i + 1))) (symptom_entries (lists starts ds os es (i + 1) n))) in
        let q = ap length (entries_next starts ds os es k i h) ∙ length-append (symptom_entries (lists starts ds os es k i)) part in
        omega (arith, m, q, part_long, a.room, g.counted, length-append (take at was) (symptom_entries (lists starts ds os es k i)), front)

    pub appending_next : (out' xs : List ℕ) → xs ≡ part → out' ≡ take to out ++ (xs ++ drop (to + length xs) out) → Appending starts ds os es k at was (i + 1) (to + (get_or ds i 0 + get_or os i 0)) out'
    appending_next out' xs x e =
        let next : so_far starts ds os es k at was i ++ part ≡ so_far starts ds os es k at was (i + 1) =
        append_assoc (take at was) (symptom_entries (lists starts ds os es k i)) part ∙ ap (λ (r : List ℕ). take at was ++ r) (sym (entries_next starts ds os es k i h)) in
        record {
          counted = omega (arith, g.counted, ap length next, length-append (so_far starts ds os es k at was i) part, part_long);
          copied = e ∙ ap₂ (λ (o : List ℕ) (p : List ℕ). take to o ++ (p ++ drop (to + length p) o)) g.copied x
              ∙ written_paste (so_far starts ds os es k at was i) was to part g.counted ∙ ap (λ (r : List ℕ). written r was) next;
        }
