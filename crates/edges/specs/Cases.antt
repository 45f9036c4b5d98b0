-- Cases of compiling, by computation.
use Rattle.std.specs.Prelude.{ℕ, ◌≡◌, refl, List, [], ◌∷◌, true, false, pos, Float}
use Rattle.std.specs.Float.Ieee as Ieee
use Rattle.std.specs.Float.{binary64, fin, nan}
use Rattle.codes.specs.declared.Refusal.TheVariants.{Probability, Index, NotGraphlike}
use Rattle.weight.specs.Weight.{weight_at, logarithm, series, sum_at, steps, coefficient}
use Rattle.dem.specs.Cases.{plain}
use Rattle.steps.specs.Graph.{Graph, boundary}
use Rattle.steps.specs.Cases.{both_edges}
use Rattle.edges.specs.Compile.{Edge, Edges, into, refused, compile, graph_by}

abbrev pub quarter : Float
quarter = Ieee.of_bits binary64 0x3fd0000000000000

abbrev pub eighth : Float
eighth = Ieee.of_bits binary64 0x3fc0000000000000

-- edges as a graph; a refusal gives none
abbrev pub graphs : ℕ → ℕ → Edges → List Graph
graphs d o (into es) = graph_by d o es ∷ []
graphs d o (refused r) = []

abbrev pub edge : ℕ → ℕ → Float → List ℕ → Edge
edge a b p obs = record { u = a; v = b; probability = p; observables = obs }

pub record Cases : Type 0 where
  -- the example's model compiles to its two edges
  pub model : graphs 2 1 (compile 2 1 (plain quarter (0 ∷ []) (0 ∷ []) ∷ plain quarter (0 ∷ 1 ∷ []) [] ∷ [])) ≡ both_edges ∷ []
  -- equal probabilities keep the first observables
  pub equal : compile 2 1 (plain quarter (0 ∷ 1 ∷ []) [] ∷ plain quarter (0 ∷ 1 ∷ []) (0 ∷ []) ∷ []) ≡ into (edge 0 1 quarter [] ∷ [])
  -- a greater one replaces them, and the number stays
  pub replaced : compile 2 1 (plain eighth (0 ∷ 1 ∷ []) [] ∷ plain eighth (0 ∷ []) [] ∷ plain quarter (0 ∷ 1 ∷ []) (0 ∷ []) ∷ []) ≡ into (edge 0 1 quarter (0 ∷ []) ∷ edge 0 boundary eighth [] ∷ [])
  -- a smaller one does not
  pub smaller : compile 2 1 (plain quarter (0 ∷ 1 ∷ []) [] ∷ plain eighth (0 ∷ 1 ∷ []) (0 ∷ []) ∷ []) ≡ into (edge 0 1 quarter [] ∷ [])
  -- zero, minus zero and no detectors are skipped, a triple of probability 0 too
  pub minus_zero : compile 3 1 (plain (fin true 0 (pos 0)) (0 ∷ []) [] ∷ plain quarter [] (0 ∷ []) ∷ plain (fin false 0 (pos 0)) (0 ∷ 1 ∷ 2 ∷ []) [] ∷ []) ≡ into []
  -- 7: over two detectors
  pub triple : compile 3 1 (plain quarter (0 ∷ []) [] ∷ plain quarter (0 ∷ 1 ∷ 2 ∷ []) [] ∷ []) ≡ refused (NotGraphlike 1)
  -- mechanism by mechanism: lists, then probability, then 7
  pub lists_first : compile 3 1 (plain nan (1 ∷ 1 ∷ []) [] ∷ []) ≡ refused (Index 0)
  pub then_probability : compile 3 1 (plain nan (0 ∷ 1 ∷ 2 ∷ []) [] ∷ []) ≡ refused (Probability 0)
  pub seven_first : compile 3 1 (plain quarter (0 ∷ 1 ∷ 2 ∷ []) [] ∷ plain nan (0 ∷ []) [] ∷ []) ≡ refused (NotGraphlike 0)

pub cases : Cases
unfolding compile graph_by both_edges weight_at logarithm series sum_at steps coefficient Ieee.of_bits Ieee.le Ieee.lt Ieee.eq Ieee.add Ieee.sub Ieee.mul Ieee.div Ieee.to_bits Ieee.of_int Ieee.round
cases = record {
  model = refl;
  equal = refl;
  replaced = refl;
  smaller = refl;
  minus_zero = refl;
  triple = refl;
  lists_first = refl;
  then_probability = refl;
  seven_first = refl;
}
