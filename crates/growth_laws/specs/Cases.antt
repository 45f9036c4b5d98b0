-- Cases of places and of reached weights, in one table that closes by computation.
use Rattle.std.specs.Prelude.{◌≡◌, refl, List, [], ◌∷◌, Bool, true, false, eqb}
use Rattle.std.specs.Float.Ieee as Ieee
use Rattle.steps.specs.Graph.{Graph}
use Rattle.steps.specs.Growth.{State, tolerance, after}
use Rattle.steps.specs.Cases.{pairs, w0, w1}
use Rattle.growth_laws.specs.Laws.{reached, place, place_of, earliest}

-- detectors 1 and 2 are lit; an edge of weight 0 joins 2 to the dark 0, and one of weight 1 joins 1 to the dark 3
abbrev two_edges : Graph
two_edges = pairs 4 (0 ∷ 1 ∷ []) (2 ∷ 3 ∷ []) (w0 ∷ w1 ∷ [])

abbrev lit : List Bool
lit = false ∷ true ∷ true ∷ false ∷ []

-- before the first round and after it
abbrev s : State
s = after two_edges lit 0

abbrev t : State
t = after two_edges lit 1

pub record Cases : Type 0 where
  pub old : s.active ≡ 1 ∷ 2 ∷ []
  -- the cluster of 0 and 2 is named 0, and has the place that 2 had
  pub new : t.active ≡ 1 ∷ 0 ∷ []
  pub stands : place_of t 0 ≡ 1
  pub stood : earliest two_edges lit s t 0 ≡ 1
  -- where none passes, the place is past the end
  pub none : place (λ c. eqb c 3) (1 ∷ 2 ∷ []) ≡ 2
  -- edge 0 has reached its weight, edge 1 has not
  pub full : reached two_edges t 0 ≡ true
  pub not_yet : reached two_edges t 1 ≡ false

pub cases : Cases
unfolding after place tolerance Ieee.add Ieee.le Ieee.lt Ieee.eq Ieee.div Ieee.sub Ieee.of_int Ieee.mul
cases = record { old = refl; new = refl; stands = refl; stood = refl; none = refl; full = refl; not_yet = refl }
