-- The laws of a compiled graph, proved. Assumes nothing.
use Rattle.codes.specs.Order.{Checked}
use Rattle.std.specs.Prelude.{Ok, Err}
use Prim.Native.Nat.{ℕ, zero, suc, ◌+◌, ◌*◌, ◌≤◌, ◌<◌}
use native.Mathlib.Omega.{arith}
use native.Mathlib.Nat.{suc-mul, zero-mul}
use mathlib.Core.Path.{◌≡◌, refl, sym, ◌∙◌}
use mathlib.Core.List.{List, [], ◌∷◌, ◌++◌, map, append_assoc}
use mathlib.Core.Bool.{true}
use lib.Ieee.{Float}
use lib.ListN.{length, get_or, take, drop, length-append}
use lib.Seq.{take_at, drop-append-add, ext_get_or}
use borrow.Author.Tests.{le-leb}
use Rattle.lists.specs.Lists.{below}
use Rattle.lists.proofs.Members.{length_below}
use Rattle.bits.specs.Rows.{words}
use Rattle.weight.specs.Weight.{weight_of}
use Rattle.codes.specs.Limits.{check_counts, max_mechanisms}
use Rattle.steps.specs.Call.{graph_of, check_edges, AcceptedGraph}
use Rattle.lent_graph.specs.Lent.{tables_long, check_lent}
use Rattle.lent_graph.proofs.Edges.{map_below}
use Rattle.std.proofs.lemmas.List.{length-map}
use Rattle.dem.specs.Model.{ErrorMechanism}
use Rattle.dem.specs.Tables.{Tables, model_of, written}
use Rattle.dem.proofs.Laws.{count}
use Rattle.edges.specs.Compile.{Edge, Edges, into, refused, compile, obs_row, graph_by}
use Rattle.edges.specs.Tables.{Slices, flat}
use Rattle.graph.specs.Outcome.{answer_of, table_left, check_slices, only_then, outcome, Compiles}
use Rattle.graph.specs.Laws.{left_u, left_v, left_weight, left_obs, Within, Laws}
use Rattle.edges.proofs.Slices.{row_long}
use Rattle.edges.proofs.Sharing.{blank}
use Rattle.graph.proofs.Going.{held}
use Rattle.graph.proofs.Accepted.{map_at, accepted}

-- ---- the tables read back

column_left_lem : {A : Type 0} (f : Edge → A) (es : List Edge) (was : List A) → take (length es) (written (map f es) was) ≡ map f es
column_left_lem f es was = take_at (map f es) (drop (length (map f es)) was) (length es) (length-map es f)

module _ (w : ℕ) (r : Edge → List ℕ) (long : (e : Edge) → length (r e) ≡ w) (rest : List ℕ) where
  row_left_lem : (es : List Edge) (e : ℕ) → e < length es → take w (drop (e * w) (flat (map r es) ++ rest)) ≡ r (get_or es e blank)
  unfolding flat
  row_left_lem [] e h = absurd (omega arith)
  row_left_lem (x ∷ es) zero h = rw (zero-mul w, append_assoc (r x) (flat (map r es)) rest) (take_at (r x) (flat (map r es) ++ rest) w (long x))
  row_left_lem (x ∷ es) (suc e) h =
      let n : suc e * w ≡ length (r x) + e * w = (let l = long x in let s = suc-mul e w in omega arith) in
      rw (n, append_assoc (r x) (flat (map r es)) rest, drop-append-add (r x) (flat (map r es) ++ rest) (e * w)) (row_left_lem es e (omega arith))

  rows_left : (es : List Edge) → map (λ e. take w (drop (e * w) (flat (map r es) ++ rest))) (below (length es)) ≡ map r es
  rows_left es =
      let f : ℕ → List ℕ = λ e. take w (drop (e * w) (flat (map r es) ++ rest)) in
      let n : length (map f (below (length es))) ≡ length es = length-map (below (length es)) f ∙ length_below (length es) in
      ext_get_or [] (map f (below (length es))) (map r es) (n ∙ sym (length-map es r))
      (λ i h. let k : i < length es = omega arith in map_below f (length es) i [] k ∙ row_left_lem es i k ∙ sym (map_at r es i [] k))

flat_long : (w : ℕ) (r : Edge → List ℕ) → ((e : Edge) → length (r e) ≡ w) → (es : List Edge) → length (flat (map r es)) ≡ length es * w
unfolding flat
flat_long w r long [] = sym (zero-mul w)
flat_long w r long (e ∷ es) = length-append (r e) (flat (map r es)) ∙ omega (arith, long e, flat_long w r long es, suc-mul (length es) w)

pub left : (d o : ℕ) (es : List Edge) (u v : List ℕ) (weight : List Float) (obs : List ℕ)
    → graph_of d o (length es) (left_u d o es u) (left_v d o es v) (left_weight d o es weight) (left_obs d o es obs) ≡ graph_by d o es
unfolding graph_of graph_by table_left
left d o es u v weight obs =
    rw (
      column_left_lem (λ e. e.u) es u,
      column_left_lem (λ e. e.v) es v,
      column_left_lem (λ e. weight_of e.probability) es weight,
      rows_left (words o) (λ e. obs_row o e.observables) (row_long o) (drop (length (flat (map (λ e. obs_row o e.observables) es))) obs) es,
    )

-- ---- the check

written_long : {A : Type 0} (n : ℕ) (new was : List A) → length new ≡ n → n ≤ length (written new was)
written_long n new was h = omega (arith, length-append new (drop (length new) was))

tables_long_lem : (d o : ℕ) (es : List Edge) (u v : List ℕ) (weight : List Float) (obs : List ℕ)
    → tables_long o (length es) (left_u d o es u) (left_v d o es v) (left_weight d o es weight) (left_obs d o es obs) ≡ true
unfolding tables_long table_left graph_by
tables_long_lem d o es u v weight obs =
    rw (
      le-leb _ _ (written_long (length es) (map (λ e. e.u) es) u (length-map es (λ e. e.u))),
      le-leb _ _ (written_long (length es) (map (λ e. e.v) es) v (length-map es (λ e. e.v))),
      le-leb _ _ (written_long (length es) (map (λ e. weight_of e.probability) es) weight (length-map es (λ e. weight_of e.probability))),
      le-leb _ _ (written_long (length es * words o) (flat (map (λ e. obs_row o e.observables) es)) obs (flat_long (words o) (λ e. obs_row o e.observables) (row_long o) es)),
    )

pub passes : (d o : ℕ) (ms : List ErrorMechanism) (es : List Edge) (u v : List ℕ) (weight : List Float) (obs : List ℕ) → Within d o ms es
    → check_lent d o (length es) (left_u d o es u) (left_v d o es v) (left_weight d o es weight) (left_obs d o es obs) ≡ Ok tt
unfolding check_lent graph_by
passes d o ms es u v weight obs w =
    let a = accepted d o ms es w in
    let n : length (map (λ (e : Edge). e.u) es) ≡ length es = length-map es (λ e. e.u) in
    let counts : check_counts d o (length es) ≡ Ok tt = rw n at a.limits in
    let edges : check_edges (graph_by d o es) (below (length es)) ≡ Ok tt = rw n at a.passes in
    rw (counts, tables_long_lem d o es u v weight obs, left d o es u v weight obs) edges

-- ---- the call

pub answered : (d o m : ℕ) (t : Tables) (entry : Slices) (first next : List ℕ) (n : ℕ) (exit : Slices) → Compiles d o (outcome d o m t entry first next) (Ok n) entry exit
    → AcceptedGraph (graph_of d o n exit.edge_u exit.edge_v exit.edge_weight exit.edge_obs)
unfolding outcome answer_of
answered d o m t entry first next n exit c = go (check_slices d o m t entry first next) refl (compile d o (model_of m t)) refl c
  where
    go : (k : Checked) → check_slices d o m t entry first next ≡ k → (e : Edges) → compile d o (model_of m t) ≡ e → Compiles d o (only_then k e) (Ok n) entry exit
        → AcceptedGraph (graph_of d o n exit.edge_u exit.edge_v exit.edge_weight exit.edge_obs)
    go (Err x) p e q c = let a : Ok n ≡ Err x = c.answer in cc
    go (Ok tt) p (refused x) q c = let a : Ok n ≡ Err x = c.answer in cc
    go (Ok tt) p (into es) q c =
        let h = held d o m t entry first next p in
        let a : Ok n ≡ Ok (length es) = c.answer in
        let i : n ≡ length es = cc in
        let few : length (model_of m t) ≤ max_mechanisms = omega (arith, count m t, h.mechanisms) in
        let within : Within d o (model_of m t) es = record { detectors = h.detectors; observables = h.observables; mechanisms = few; edges = q } in
        rw (i, c.ends, c.others, c.weights, c.rows, left d o es entry.edge_u entry.edge_v entry.edge_weight entry.edge_obs) (accepted d o (model_of m t) es within)

pub laws : Laws
laws = record { accepted = accepted; left = left; passes = passes; answered = answered }
