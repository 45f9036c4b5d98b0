-- `graph::from_model` meets its contract: a refusal leaves zero, edges leave their tables.
use mathlib.Core.Path.{ap, ◌∙◌}
use mathlib.Core.Bool.{false}
use lib.IntN.{pos}
use lib.Ieee.{fin}
use lib.ListN.{replicate}
use Rattle.graph.proofs.Answers.{zero_left, edges_left}
use Rattle.graph.proofs.from_model.Goals as goal

pub returns-in-Ok-clause-compiles : goal.returns-in-Ok-clause-compiles
returns-in-Ok-clause-compiles c = edges_left _ _ _ _ _ _ c.in-Ok.ensures.joined

pub returns-in-Err-clause-compiles : goal.returns-in-Err-clause-compiles
returns-in-Err-clause-compiles c =
    let zero = c.refuse.ensures.zeroed in
    let same = c.join_all.ensures.same_edges in
    rw c.refuse.ensures.refused (zero_left _ _ _ _ _ _ _ c.in-Err.ensures.joined (zero.edge_u ∙ ap (λ n. replicate n 0) same.edge_u_long) (zero.edge_v ∙ ap (λ n. replicate n 0) same.edge_v_long) (zero.edge_weight ∙ ap (λ n. replicate n (fin false 0 (pos 0))) same.edge_weight_long) (zero.edge_obs ∙ ap (λ n. replicate n 0) same.edge_obs_long))
