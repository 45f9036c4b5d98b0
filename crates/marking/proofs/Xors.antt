-- The XOR of rows of a table, from the last listed edge back.
use Prim.Native.Nat.{ℕ, ◌+◌, ◌-◌, ◌*◌, ◌≤◌}
use native.Mathlib.Omega.{arith}
use mathlib.Core.Path.{◌≡◌, refl, sym, ap, ◌∙◌}
use mathlib.Core.List.{List, [], ◌∷◌, ◌++◌, append_assoc, append-nil}
use mathlib.Core.Bool.{true}
use lib.Dec.{eqb}
use lib.ListN.{length, get_or, take, drop, replicate, length-replicate}
use Rattle.lists.specs.Lists.{member}
use Rattle.lists.proofs.Truth.{or_intro, same_eqb}
use Rattle.lists.proofs.Members.{member_append}
use Rattle.bits.specs.Rows.{words, xor_row}
use Rattle.bits.proofs.Rows.{length_xor}
use Rattle.packed.specs.Packed.{row_at}
use Rattle.steps.specs.Graph.{Graph}
use Rattle.steps.specs.Rows.{zeros, row_of}
use Rattle.marking.specs.Passes.{xor_rows, InTable}

pub length_xors : (w : ℕ) (obs es : List ℕ) → length (xor_rows w obs es) ≡ w
unfolding xor_rows
length_xors w obs [] = length-replicate w 0
length_xors w obs (e ∷ es) = length_xor (xor_rows w obs es) (row_at w obs e) ∙ length_xors w obs es

-- of the edges behind those that are left
pub record Summing (w : ℕ) (obs list row left : List ℕ) : Type 0 where
  pub done : List ℕ
  pub split : left ++ done ≡ list
  pub sum : row ≡ xor_rows w obs done

pub start : (w : ℕ) (obs list row : List ℕ) → row ≡ replicate w 0 → Summing w obs list row list
unfolding xor_rows
start w obs list row e = record { done = []; split = append-nil list; sum = e }

module _ (w : ℕ) (obs list row left rest : List ℕ) (e : ℕ) (s : Summing w obs list row left) (last : left ≡ rest ++ (e ∷ [])) where
  whole : rest ++ (e ∷ s.done) ≡ list
  whole = sym (append_assoc rest (e ∷ []) s.done) ∙ ap (λ (l : List ℕ). l ++ s.done) (sym last) ∙ s.split

  -- the row of the edge lies in the table
  pub in_table : (k : ℕ) → InTable k obs list → w ≡ k → e * w + w ≤ length obs
  unfolding member
  in_table k t p = rw p (t e (ap (member e) (sym whole) ∙ member_append e rest (e ∷ s.done) ∙ or_intro (member e rest) (member e (e ∷ s.done)) (rw (same_eqb e))))

  -- one edge more, its row as the code lends it
  pub turn : (row' : List ℕ) → row' ≡ xor_row row (take (e * w + w - e * w) (drop (e * w) obs)) → Summing w obs list row' rest
  unfolding xor_rows
  turn row' q =
      let m : e * w + w - e * w ≡ w = omega arith in
      record { done = e ∷ s.done; split = whole; sum = rw (q, m, s.sum) refl }

-- they are the rows of a graph
pub xors_row : (g : Graph) (obs es : List ℕ) → ((e : ℕ) → member e es ≡ true → get_or g.edge_obs e [] ≡ row_at (words g.observables) obs e)
    → xor_rows (words g.observables) obs es ≡ row_of g es
unfolding xor_rows row_of zeros member
xors_row g obs [] h = refl
xors_row g obs (e ∷ es) h = rw (h e (rw (same_eqb e)), xors_row g obs es (λ c m. h c (or_intro (eqb c e) (member c es) m)))
