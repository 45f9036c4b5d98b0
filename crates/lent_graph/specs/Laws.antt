-- What the check leaves true. Statements only: proofs/Laws.antt proves them.
use Rattle.std.specs.Prelude.{Ok, ℕ, ◌≡◌, List, Float}
use Rattle.steps.specs.Call.{graph_of, AcceptedGraph}
use Rattle.lent_graph.specs.Lent.{check_lent}

-- "A graph within the limits that passes is accepted"
abbrev pub LentAccepted : Type 0
LentAccepted =
    (d o edges : ℕ) (u v : List ℕ) (weight : List Float) (obs : List ℕ) → check_lent d o edges u v weight obs ≡ Ok tt → AcceptedGraph (graph_of d o edges u v weight obs)
