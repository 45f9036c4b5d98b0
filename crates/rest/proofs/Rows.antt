-- Tables at rest, by rows. Assumes nothing.
use Prim.Native.Nat.{ℕ, zero, suc, ◌+◌, ◌<◌}
use native.Mathlib.Omega.{arith}
use native.Mathlib.Numerals.{add-one}
use mathlib.Core.Path.{◌≡◌, refl, sym, ap, ◌∙◌}
use mathlib.Core.List.{List, [], ◌∷◌, ◌++◌, map}
use mathlib.Core.Bool.{Bool, false}
use lib.ListN.{length, get_or, set, drop, replicate, length-map}
use lib.Seq.{drop-cons, set_at, append_snoc}
use Rattle.lists.specs.Lists.{from, below}
use Rattle.lists.proofs.Members.{length_below, map_snoc}
use Rattle.lists.proofs.Ranges.{from_append}
use Rattle.steps.specs.Graph.{boundary}
use Rattle.growth_state.specs.Rep.{zero64}
use Rattle.cells.specs.Tables.{parents, exits, flag_column}
use Rattle.rest.specs.Rows.{alone, quiet, Rested}

-- ---- one row more

push : {A : Type 0} (ps t : List A) (i : ℕ) (v : A) → length ps ≡ i → i < length t → set (ps ++ drop i t) i v ≡ (ps ++ (v ∷ [])) ++ drop (i + 1) t
push ps t i v q h = rw (add-one, drop-cons t i v h) (set_at ps (get_or t i v) (drop (suc i) t) v i q ∙ sym (append_snoc ps v (drop (suc i) t)))

below_snoc : (i : ℕ) → below (i + 1) ≡ below i ++ (i ∷ [])
unfolding below from
below_snoc i = from_append i 1 0 ∙ ap (λ k. from i 0 ++ from 1 k) (omega arith)

pub rows_next : {A : Type 0} (f : ℕ → A) (t : List A) (i : ℕ) → i < length t → set (map f (below i) ++ drop i t) i (f i) ≡ map f (below (i + 1)) ++ drop (i + 1) t
rows_next {A} f t i h =
    push (map f (below i)) t i (f i) (length-map (below i) f ∙ length_below i) h
    ∙ ap (λ (l : List A). l ++ drop (i + 1) t) (sym (ap (map f) (below_snoc i) ∙ map_snoc f (below i) i))

-- ---- the columns of equal rows, and of rows that are made of their numbers

quiet_same : (k n : ℕ) → map (flag_column k) (replicate n quiet) ≡ replicate n (flag_column k quiet)
quiet_same k zero = refl
quiet_same k (suc n) = ap (λ (l : List Bool). flag_column k quiet ∷ l) (quiet_same k n)

parents_alone : (l : List ℕ) → parents (map alone l) ≡ l
parents_alone [] = refl
parents_alone (x ∷ l) = ap (λ (m : List ℕ). x ∷ m) (parents_alone l)

exits_alone : (l : List ℕ) → exits (map alone l) ≡ replicate (length l) boundary
exits_alone [] = refl
exits_alone (x ∷ l) = ap (λ (m : List ℕ). boundary ∷ m) (exits_alone l)

pub rested : (d E : ℕ) → Rested d E (map alone (below d)) (replicate d quiet) (replicate E zero64) (replicate E false)
rested d E = record {
  clean = record {
    lits = quiet_same 0 d;
    growths = refl;
    sats = refl;
    knowns = quiet_same 1 d;
    parents = parents_alone (below d);
    odds = quiet_same 2 d;
    exits = exits_alone (below d) ∙ ap (λ n. replicate n boundary) (length_below d);
    hots = quiet_same 3 d;
    frees = quiet_same 4 d;
  };
}
