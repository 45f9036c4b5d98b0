-- 04: the graph of the model.
use Rattle.std.specs.Prelude.{Result, Ok, Err}
use Prim.Native.Nat.{ℕ, ◌*◌, ◌≤◌}
use native.Mathlib.Omega.{arith}
use mathlib.Core.Path.{◌≡◌, refl, sym, ap, ◌∙◌, subst}
use mathlib.Core.List.{List, map}
use lib.ListN.{length, take, drop, length-map}
use lib.Seq.{take_all}
use lib.Ieee.{Float}
use Rattle.codes.specs.declared.Refusal.{Refusal}
use Rattle.counts.specs.declared.Row.{Row}
use Rattle.counts.specs.Rows as counts
use Rattle.bits.specs.Rows.{words}
use Rattle.dem.specs.Tables.{written}
use Rattle.edges.specs.Compile.{Edges, into, refused, graph_by}
use Rattle.edges.specs.Tables.{Slices, slices, flat}
use Rattle.graph.specs.Outcome.{answer_of, table_left, Compiles}
use Rattle.frames.specs.declared.State.{State}
use Rattle.frames.specs.Input.{Input, model_read}
use Rattle.frames.specs.Counts.{counts_of}
use Rattle.frames.proofs.FrameKinds.{held_of}
use Rattle.reader.specs.Columns.{Columns, columns_of, Holds}
use Rattle.model_graph.specs.Graph.{graph_read}
use Rattle.model_graph.specs.Answers.{held, GraphRead, GraphBy}
use Rattle.model_graph.proofs.Answers.{graph_by_lem}
use Rattle.replies.specs.Last.{refusal_text}
use Rattle.session.specs.declared.Numbers.{Numbers}
use Rattle.std.specs.declared.ops.ControlFlow.TheVariants.{Continue, Break}
use Rattle.session.specs.Output.{Session, at_model, compiled as compiledBy}
use Rattle.session.specs.Kept.{Told, numbers_of, slices_by, graph_left, Tells, Reads, ReadSome, AnswersModel}
use Rattle.session.proofs.Fronts.{again, written_fits, flat_long, Left, kept_on}

abbrev edges_read : Input → Edges
edges_read t = graph_read t.detectors t.observables (model_read t.mechanisms)

slices_eq : (u u' v v' : List ℕ) (w w' : List Float) (o o' : List ℕ) (p p' : List Float) → u ≡ u' → v ≡ v' → w ≡ w' → o ≡ o' → p ≡ p' → slices u v w o p ≡ slices u' v' w' o' p'
slices_eq u u' v v' w w' o o' p p' e1 e2 e3 e4 e5 = rw (e1, e2, e3, e4, e5) refl

graph_left_lem : (t : Input) (g : Slices) → slices_by t.detectors t.observables (edges_read t) g ≡ graph_left 4 t g
unfolding graph_left
graph_left_lem t g = refl

no_edges : {A : Type 0} {k : ℕ} {x : Refusal} → ◌≡◌ {A = Result ℕ Refusal} (Ok k) (Err x) → A
no_edges e = cc

module _ (s : Session) (t : Input) (c : Columns) (g : Slices) (r : Reads s t 4 (numbers_of s) (counts_of t) c g) where
  holds : Holds t (counts_of t) c
  holds = record { counts = refl; within = r.within; tables = r.tables }

  module _ (a : Result ℕ Refusal) (left : Slices) (b : GraphRead (counts_of t) c g a left) where
    compiles : Compiles t.detectors t.observables (edges_read t) a g left
    compiles = subst (λ (e : Edges). Compiles t.detectors t.observables e a g left) (b.read t holds r.sizes.sized r.sizes.wide) b.compiles

    compiled_to : (x : Edges) → edges_read t ≡ x → Compiles t.detectors t.observables x a g left
    compiled_to x q = subst (λ (e : Edges). Compiles t.detectors t.observables e a g left) q compiles

    answer_is : a ≡ answer_of (edges_read t)
    answer_is = compiles.answer

    -- the tables, whether it is refused or not
    left_is : left.edge_p ≡ g.edge_p → left ≡ graph_left 4 t g
    left_is p = slices_eq _ _ _ _ _ _ _ _ _ _ compiles.ends compiles.others compiles.weights compiles.rows p ∙ graph_left_lem t g

    module _ (k : ℕ) (e : a ≡ Ok k) (same : length left.edge_u ≡ length g.edge_u) where
      few_by : (x : Edges) → edges_read t ≡ x → k ≤ 1024
      unfolding answer_of table_left graph_by
      few_by (refused y) q = no_edges (sym e ∙ answer_is ∙ ap answer_of q)
      few_by (into es) q =
          let n : k ≡ length es = let z : ◌≡◌ {A = Result ℕ Refusal} (Ok k) (Ok (length es)) = sym e ∙ answer_is ∙ ap answer_of q in cc in
          let fits = written_fits (map (λ e. e.u) es) g.edge_u left.edge_u (compiled_to (into es) q).ends same in
          omega (arith, n, fits, length-map es (λ e. e.u), r.sizes.few)

      pub few : k ≤ 1024
      few = few_by (edges_read t) refl

      abbrev numbers : ℕ → Numbers
      numbers w = record { state = counts_of t; edges = k; words = w; shots = s.shots; failures = s.failures }

      numbers_eq : (w j v : ℕ) → k ≡ j → w ≡ v → ◌≡◌ {A = Numbers} (numbers w) (record { state = counts_of t; edges = j; words = v; shots = s.shots; failures = s.failures })
      numbers_eq w j v p q = rw (p, q) refl

      on_by : (w : ℕ) (was : List ℕ) → w ≡ k * words t.observables → (x : Edges) → edges_read t ≡ x
          → Tells (compiledBy s t x) (Continue (record { numbers = numbers w; written = 0 })) was was × Left (compiledBy s t x) c left
      unfolding answer_of table_left graph_by
      on_by w was h (refused y) q = no_edges (sym e ∙ answer_is ∙ ap answer_of q)
      on_by w was h (into es) q =
          let n : k ≡ length es = let z : ◌≡◌ {A = Result ℕ Refusal} (Ok k) (Ok (length es)) = sym e ∙ answer_is ∙ ap answer_of q in cc in
          let tables = compiled_to (into es) q in
          let g' = graph_by t.detectors t.observables es in (
            record {
              told = ap (λ (m : Numbers). Continue (record { numbers = m; written = 0 })) (numbers_eq w _ _ (n ∙ sym (length-map es (λ e. e.u)))
                  (h ∙ ap (λ (j : ℕ). j * words t.observables) n ∙ sym (flat_long t.observables es)));
              text = refl;
            },
            record {
              within = r.within;
              tables = r.tables;
              row = r.row;
              graph = record {
                u = again g'.edge_u g.edge_u left.edge_u tables.ends;
                v = again g'.edge_v g.edge_v left.edge_v tables.others;
                weight = again g'.edge_weight g.edge_weight left.edge_weight tables.weights;
                obs = again (flat g'.edge_obs) g.edge_obs left.edge_obs tables.rows;
                others = length-map es _ ∙ sym (length-map es _);
                weights = length-map es _ ∙ sym (length-map es _);
              };
              shots = r.shots;
              failures = r.failures;
            },
          )

    refused_by : (y : Refusal) → a ≡ Err y → (x : Edges) → edges_read t ≡ x → (was : List ℕ) (z : Told) (out : List ℕ) → z ≡ Break (length (refusal_text y)) → out ≡ written (refusal_text y) was
        → Tells (compiledBy s t x) z was out × Left (compiledBy s t x) c left
    unfolding answer_of
    refused_by y e (into es) q was z out p o = no_edges (sym (ap answer_of q) ∙ sym answer_is ∙ e)
    refused_by y e (refused u) q was z out p o =
        let same : y ≡ u = let v : ◌≡◌ {A = Result ℕ Refusal} (Err y) (Err u) = sym e ∙ answer_is ∙ ap answer_of q in cc in
        (record { told = rw (← same) p; text = rw (← same) o }, tt)

-- ---- the contract

-- no row lies past those that are held
pub whole_rows : (n : Numbers) (state : State) (bs : List ℕ) (rows : List Row) (es ws : List ℕ) (g : Slices) (a : Result ℕ Refusal) (left : Slices)
    → ReadSome 4 n state (columns_of bs rows es ws) g
    → GraphBy state bs (held (counts.detectors rows)) (held (counts.observables rows)) (held (counts.components rows)) (held (counts.component_detectors rows)) (held (counts.component_observables rows)) es g a left
    → GraphRead state (columns_of bs rows es ws) g a left
whole_rows n state bs rows es ws g a left m b =
    let few : length rows ≤ 1024 = omega (arith, length-map rows (λ r. r.component_detectors), m.reads.sizes.sized.component_detectors) in
    graph_by_lem state bs _ _ _ _ _ _ _ _ _ _ es g a left (all few (λ r. r.detectors)) (all few (λ r. r.observables)) (all few (λ r. r.components)) (all few (λ r. r.component_detectors))
    (all few (λ r. r.component_observables)) b (take 4 ws) (drop 4 ws)
  where
    all : length rows ≤ 1024 → (f : Row → ℕ) → held (map f rows) ≡ map f rows
    all few f = take_all 1024 (map f rows) (omega (arith, few, length-map rows f))

module _ (n : Numbers) (state : State) (c : Columns) (g : Slices) (a : Result ℕ Refusal) (left : Slices) (b : GraphRead state c g a left) where
  -- the numbers of a session are those of its definition
  at : (s : Session) (t : Input) → Reads s t 4 n state c g → Reads s t 4 (numbers_of s) (counts_of t) c g
  at s t r = record {
    numbers = refl;
    counts = refl;
    within = r.within;
    tables = r.tables;
    row = r.row;
    shot = r.shot;
    graph = r.graph;
    shots = r.shots;
    failures = r.failures;
    sizes = r.sizes;
  }

  graph_at : (s : Session) (t : Input) → Reads s t 4 n state c g → GraphRead (counts_of t) c g a left
  graph_at s t r = rw r.counts at b

  pub model_few : ReadSome 4 n state c g → (k : ℕ) → a ≡ Ok k → length left.edge_u ≡ length g.edge_u → (k ≤ 1024) × (state.observables ≤ 128)
  model_few m k e same =
      let r = m.reads in
      let s = m.session in
      let t = m.input in
      (few s t c g (at s t r) a left (graph_at s t r) k e same, rw r.counts (held_of (counts_of t) r.within).observables)

  leaves : left.edge_p ≡ g.edge_p → (s : Session) (t : Input) → Reads s t 4 n state c g → left ≡ graph_left 4 t g
  leaves p s t r = left_is s t c g (at s t r) a left (graph_at s t r) p

  pub model_on : (k w : ℕ) (was : List ℕ) → left.edge_p ≡ g.edge_p → a ≡ Ok k → length left.edge_u ≡ length g.edge_u → w ≡ k * words state.observables
      → AnswersModel n state c g (Continue (record { numbers = record { state = state; edges = k; words = w; shots = n.shots; failures = n.failures }; written = 0 })) left was was
  unfolding at_model
  model_on k w was p e same h =
      let both : (s : Session) (t : Input) → Reads s t 4 n state c g
      → Tells (at_model s t) (Continue (record { numbers = record { state = state; edges = k; words = w; shots = n.shots; failures = n.failures }; written = 0 })) was was × Left (at_model s t) c left
      = λ s t r. rw (r.numbers, r.counts) (on_by s t c g (at s t r) a left (graph_at s t r) k e same w was (rw r.counts at h) (edges_read t) refl) in
      record {
        answer = λ s t r. (both s t r).0;
        leaves = leaves p;
        keeps = λ s t r. kept_on (compiledBy s t (edges_read t)) c left (both s t r).1;
      }

  pub model_refused : (y : Refusal) (was out : List ℕ) (z : Told) → left.edge_p ≡ g.edge_p → a ≡ Err y → (z ≡ Break (length (refusal_text y))) × (out ≡ written (refusal_text y) was)
      → AnswersModel n state c g z left was out
  unfolding at_model
  model_refused y was out z same e p =
      let both : (s : Session) (t : Input) → Reads s t 4 n state c g → Tells (at_model s t) z was out × Left (at_model s t) c left
      = λ s t r. refused_by s t c g (at s t r) a left (graph_at s t r) y e (edges_read t) refl was z out p.0 p.1 in
      record {
        answer = λ s t r. (both s t r).0;
        leaves = leaves same;
        keeps = λ s t r. kept_on (compiledBy s t (edges_read t)) c left (both s t r).1;
      }
