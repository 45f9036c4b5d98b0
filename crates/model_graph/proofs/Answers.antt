-- The answers of the calls on tables into which an input was read.
use Rattle.std.specs.Prelude.{Result, Ok, Err}
use Prim.Native.Nat.{ℕ, ◌-◌, ◌*◌, ◌≤◌, min}
use native.Mathlib.Omega.{arith}
use native.Mathlib.Nat.{mul-le-mul, sub-zero, min_comm}
use mathlib.Core.Path.{◌≡◌, refl, sym, ap, ◌∙◌, subst}
use mathlib.Core.List.{List, [], map}
use mathlib.Core.Bool.{true, false, not}
use lib.IntN.{pos}
use lib.ListN.{length, take, drop, replicate, length-append, length-map}
use lib.Seq.{take_all, take-length}
use lib.Dec.{leb}
use lib.Ieee.{Float, fin}
use borrow.Author.Tests.{leb-true, leb-false, le-leb, le-ltb}
use Rattle.lists.proofs.Truth.{case-of, and_left, and_right}
use Rattle.counts.specs.declared.Row.{Row}
use Rattle.codes.specs.declared.Refusal.{Refusal}
use Rattle.codes.specs.declared.Refusal.TheVariants.{Short}
use Rattle.codes.specs.Order.{Checked, refuse_if, and_then}
use Rattle.codes.specs.Limits.{check_counts}
use Rattle.bits.specs.Rows.{words}
use Rattle.dem.specs.Model.{ErrorMechanism, check_model}
use Rattle.dem.specs.Tables.{Tables, model_of, components_in, entries_in, columns_hold, lists_hold, tables_hold, tables_of, tables_written}
use Rattle.dem.specs.Positions.{tables}
use Rattle.dem.specs.Check.{check_all}
use Rattle.dem.specs.Decompose.{Split, into, refused}
use Rattle.codes.proofs.Checks.{then_accepted, unless_accepted}
use Rattle.dem.proofs.Laws.{laws}
use Rattle.suggested.proofs.Models.{lengths}
use Rattle.split_model.specs.declared.Counts.{Counts}
use Rattle.decompose.specs.declared.Lengths.{Lengths}
use Rattle.decompose.specs.Call as call
use Rattle.decompose.specs.Call.{room_of, scratch_long, long, checked, outcome_of, outcome, tables_left, Decomposes}
use Rattle.lent_graph.specs.Lent.{tables_long}
use Rattle.edges.specs.Compile as edges
use Rattle.edges.specs.Compile.{Edges, compile}
use Rattle.edges.specs.declared.EdgeTables.{EdgeTables}
use Rattle.edges.specs.Lent.{slices_of, Zeroed}
use Rattle.edges.specs.Tables.{Slices, slices}
use Rattle.graph.specs.Outcome as graph
use Rattle.graph.specs.Outcome.{slices_long, check_slices, table_left, Compiles}
use Rattle.frames.specs.declared.State.{State}
use Rattle.frames.specs.Input.{Input, model_read}
use Rattle.frames.proofs.FrameKinds.{held_of}
use Rattle.reader.specs.Columns.{Columns, columns, Holds}
use Rattle.model_check.specs.ModelCheck.{model_tables, from_bits, check_read, ModelChecked}
use Rattle.model_check.proofs.FromLines.{checked_refused, checked_accepted}
use Rattle.model_graph.specs.Graph.{places, split_read, compile_split, graph_read, zeros, held_tables, held_scratch, split_in, edges_in, graph_in}
use Rattle.model_graph.specs.Answers.{Sized, Wide, held, DecomposedRead, GraphRead, GraphBy}

-- ---- the model checked and decomposed

-- scratch for 256 detectors and 1,024 mechanisms
pub record Scratched (s : Lengths) : Type 0 where
  pub starts : 17408 ≤ s.starts
  pub before : 17408 ≤ s.before
  pub last : 256 ≤ s.last_of
  pub first : 256 ≤ s.first_of
  pub next : 1024 ≤ s.next_of
  pub numbers : 1024 ≤ s.numbers
  pub masks : 1024 ≤ s.masks
  pub words0 : 1024 ≤ s.words0
  pub words1 : 1024 ≤ s.words1
  pub earlier : 1024 ≤ s.earlier

scratch_long_lem : (D n : ℕ) (s : Lengths) → D ≤ 256 → n ≤ 1024 → Scratched s → scratch_long D n s ≡ true
unfolding scratch_long
scratch_long_lem D n s hd hn h =
    rw (
      le-leb (17 * n) s.starts (omega (arith, hn, h.starts)),
      le-leb (17 * n) s.before (omega (arith, hn, h.before)),
      le-leb D s.last_of (omega (arith, hd, h.last)),
      le-leb D s.first_of (omega (arith, hd, h.first)),
      le-leb n s.next_of (omega (arith, hn, h.next)),
      le-leb n s.numbers (omega (arith, hn, h.numbers)),
      le-leb n s.masks (omega (arith, hn, h.masks)),
      le-leb n s.words0 (omega (arith, hn, h.words0)),
      le-leb n s.words1 (omega (arith, hn, h.words1)),
      le-leb n s.earlier (omega (arith, hn, h.earlier)),
    ) refl

-- tables with a place for all that is held, and no more
pub record Held (was : Tables) : Type 0 where
  pub probability : length was.probability ≡ 1024
  pub detector_counts : length was.detector_counts ≡ 1024
  pub observable_counts : length was.observable_counts ≡ 1024
  pub component_counts : length was.component_counts ≡ 1024
  pub component_detectors : length was.component_detectors ≡ 1024
  pub component_observables : length was.component_observables ≡ 1024
  pub entries : length was.entries ≡ 8192

room_held : (was : Tables) → Held was → room_of was ≡ places
room_held was h = rw (h.probability, h.detector_counts, h.observable_counts, h.component_counts, h.entries) refl

columns_hold_lem : (n : ℕ) (was : Tables) → n ≤ 1024 → Held was → columns_hold n was ≡ true
unfolding columns_hold
columns_hold_lem n was hn h = rw (h.probability, h.detector_counts, h.observable_counts, h.component_counts, le-leb n 1024 hn) refl

-- lists that stand in tables of no more places find theirs
lists_hold_lem : (k e : ℕ) (t was : Tables) → length t.component_detectors ≤ 1024 → length t.component_observables ≤ 1024 → length t.entries ≤ 8192
    → lists_hold k e t ≡ true → Held was → lists_hold k e was ≡ true
unfolding lists_hold
lists_hold_lem k e t was hd ho he l h =
    let a = leb-true k (length t.component_detectors) (and_left (leb k (length t.component_detectors)) _ l) in
    let r = and_right (leb k (length t.component_detectors)) _ l in
    let z = leb-true e (length t.entries) (and_right (leb k (length t.component_observables)) _ r) in
    rw (h.component_detectors, h.component_observables, h.entries, le-leb k 1024 (omega (arith, a, hd)), le-leb e 8192 (omega (arith, z, he))) refl

-- the split of tables whose check is x
split_as : (n : State) (c : Columns) (x : Checked) → check_read n c zeros ≡ x
    → split_in n c ≡ outcome_of x (outcome n.detectors n.observables n.mechanisms (model_tables (from_bits n.mechanisms c.bits zeros) c) held_tables held_scratch)
unfolding split_in
split_as n c x e =
    ap (λ (y : Checked). outcome_of y (outcome n.detectors n.observables n.mechanisms (model_tables (from_bits n.mechanisms c.bits zeros) c) held_tables held_scratch)) e

outcome_at : (D O m : ℕ) (p q : List Float) (ds os cs cds cos es : List ℕ) (was held : Tables) (sc hs : Lengths) → p ≡ q → was ≡ held → sc ≡ hs
    → outcome D O m (tables p ds os cs cds cos es) was sc ≡ outcome D O m (tables q ds os cs cds cos es) held hs
outcome_at D O m p q ds os cs cds cos es was held sc hs a b c = cc

scratch_of_lem : (a b c d e f g h i j : ℕ) → a ≡ 17408 → b ≡ 17408 → c ≡ 256 → d ≡ 256 → e ≡ 1024 → f ≡ 1024 → g ≡ 1024 → h ≡ 1024 → i ≡ 1024 → j ≡ 1024
    → ◌≡◌ {A = Lengths} (record { starts = a; before = b; last_of = c; first_of = d; next_of = e; numbers = f; masks = g; words0 = h; words1 = i; earlier = j }) held_scratch
scratch_of_lem a b c d e f g h i j e1 e2 e3 e4 e5 e6 e7 e8 e9 e10 = rw (e1, e2, e3, e4, e5, e6, e7, e8, e9, e10) refl

pub scratch_is : (s : Lengths) → s.starts ≡ 17408 → s.before ≡ 17408 → s.last_of ≡ 256 → s.first_of ≡ 256 → s.next_of ≡ 1024 → s.numbers ≡ 1024 → s.masks ≡ 1024
    → s.words0 ≡ 1024 → s.words1 ≡ 1024 → s.earlier ≡ 1024 → s ≡ held_scratch
scratch_is s = scratch_of_lem s.starts s.before s.last_of s.first_of s.next_of s.numbers s.masks s.words0 s.words1 s.earlier

module _ (n : State) (bs ds os cs cds cos es ws ts : List ℕ) (ps : List Float) where
  -- a model that is refused
  pub refused_read : (x : Refusal) (left : Tables) → ModelChecked n bs ds os cs cds cos es zeros (Err x) ps
      → DecomposedRead n (columns bs ds os cs cds cos es ws ts) (Err x) left
  refused_read x left m =
      let is = split_as n (columns bs ds os cs cds cos es ws ts) (Err x) (sym (m.answers ws ts)) in
      record { answer = sym (ap call.answer_of is); tables = λ ms e. absurd (no (sym is ∙ e)) }
    where
      no : {ms : List ErrorMechanism} → refused x ≡ into ms → ⊥
      no e = cc

  -- a model that is accepted is decomposed
  pub accepted_read : (was : Tables) (sc : Lengths) (r : Result Counts Refusal) (left : Tables) → ModelChecked n bs ds os cs cds cos es zeros (Ok tt) ps
      → Decomposes (outcome n.detectors n.observables n.mechanisms (tables ps ds os cs cds cos es) was sc) r was left → was ≡ held_tables → sc ≡ held_scratch
      → DecomposedRead n (columns bs ds os cs cds cos es ws ts) r left
  accepted_read was sc r left m d w h =
      let same = outcome_at n.detectors n.observables n.mechanisms ps (from_bits n.mechanisms bs zeros) ds os cs cds cos es was held_tables sc held_scratch m.column w h
      ∙ sym (split_as n (columns bs ds os cs cds cos es ws ts) (Ok tt) (sym (m.answers ws ts))) in
      record {
        answer = d.answer ∙ ap call.answer_of same;
        tables = λ ms e. d.tables ∙ ap (λ (x : Split). tables_left x was) (same ∙ e) ∙ ap (λ (t : Tables). tables_written ms t) w;
      }

-- ---- tables into which an input was read

module _ (n : State) (bs ds os cs cds cos es ws ts : List ℕ) (zs : List Float) (z : length zs ≡ 1024)
    (s : Input) (k : Holds s n (columns bs ds os cs cds cos es ws ts)) (l : Sized (columns bs ds os cs cds cos es ws ts)) where
  fits : n.mechanisms ≤ length zs
  fits = omega (arith, z, (held_of n k.within).mechanisms)

  long_bits : n.mechanisms ≤ length bs
  long_bits = omega (arith, (held_of n k.within).mechanisms, l.bits)

  abbrev read : Tables
  read = tables (from_bits n.mechanisms bs zs) ds os cs cds cos es

  abbrev all : Checked
  all = check_all n.detectors n.observables n.mechanisms (tables (from_bits n.mechanisms bs zs) ds os cs cds cos es)

  check_is : check_read n (columns bs ds os cs cds cos es ws ts) zs ≡ all
  unfolding check_read
  check_is = rw (le-ltb (length bs) n.mechanisms long_bits, le-ltb (length zs) n.mechanisms fits) refl

  module _ (was : Tables) (sc : Lengths) (h : Held was) (long-scratch : Scratched sc) where
    accepted_held : ModelChecked n bs ds os cs cds cos es zs (Ok tt) (from_bits n.mechanisms bs zs) → (Ok tt) ≡ all
        → outcome n.detectors n.observables n.mechanisms read was sc ≡ split_read n.detectors n.observables (model_read s.mechanisms)
    unfolding outcome checked long tables_hold split_read
    accepted_held m e =
        let w = held_of n k.within in
        let (limits, p) = then_accepted (check_counts n.detectors n.observables n.mechanisms) (and_then (refuse_if (not (tables_hold n.mechanisms read)) Short) (check_model n.detectors n.observables 0 (model_of n.mechanisms read))) (sym e) in
        let (held, model) = then_accepted (refuse_if (not (tables_hold n.mechanisms read)) Short) (check_model n.detectors n.observables 0 (model_of n.mechanisms read)) p in
        let holds = unless_accepted (tables_hold n.mechanisms read) Short held in
        let columns-read = and_left (columns_hold n.mechanisms read) _ holds in
        let lists-read = and_right (columns_hold n.mechanisms read) _ holds in
        let model-read = m.model s ws ts k fits refl in
        rw (
          limits,
          columns-read,
          lists-read,
          columns_hold_lem n.mechanisms was w.mechanisms h,
          lists_hold_lem (components_in n.mechanisms read) (entries_in n.mechanisms read) read was l.component_detectors l.component_observables l.entries lists-read h,
          scratch_long_lem n.detectors n.mechanisms sc w.detectors w.mechanisms long-scratch,
          model,
          model-read,
          ← m.answer s ws ts k fits,
          room_held was h,
        ) refl

    split_held : (x : Checked) → x ≡ all
        → outcome_of x (outcome n.detectors n.observables n.mechanisms read was sc) ≡ split_read n.detectors n.observables (model_read s.mechanisms)
    unfolding split_read
    split_held (Err x) e =
        let m = checked_refused n bs ds os cs cds cos es zs long_bits fits (from_bits n.mechanisms bs zs) refl x (Err x) (replicate (length zs) (fin false 0 (pos 0))) e refl refl in
        rw (← m.answer s ws ts k fits) refl
    split_held (Ok tt) e = accepted_held (checked_accepted n bs ds os cs cds cos es zs long_bits fits (from_bits n.mechanisms bs zs) refl e) e

-- the split is that of the model that was read
split_same : (n : State) (c : Columns) (s : Input) → Holds s n c → Sized c → split_in n c ≡ split_read n.detectors n.observables (model_read s.mechanisms)
split_same n c s k l =
    split_as n c (check_read n c zeros) refl
    ∙ split_held n c.bits c.detector_counts c.observable_counts c.component_counts c.component_detectors c.component_observables c.entries c.row c.truth zeros refl s k l held_tables held_scratch
    (record { probability = refl; detector_counts = refl; observable_counts = refl; component_counts = refl; component_detectors = refl; component_observables = refl; entries = refl })
    (record { starts = omega arith; before = omega arith; last = omega arith; first = omega arith; next = omega arith; numbers = omega arith; masks = omega arith; words0 = omega arith; words1 = omega arith; earlier = omega arith })
    (check_read n c zeros)
    (check_is n c.bits c.detector_counts c.observable_counts c.component_counts c.component_detectors c.component_observables c.entries c.row c.truth zeros refl s k l)

-- ---- compiling

slices_long_lem : (D O m : ℕ) (t : Slices) (first next : List ℕ) → D ≤ 256 → O ≤ 128 → m ≤ 1024 → Wide t → 1024 ≤ length t.edge_p → 256 ≤ length first → 1024 ≤ length next
    → slices_long D O m t first next ≡ true
unfolding slices_long tables_long words
slices_long_lem D O m t first next hd ho hm h hp hf hn =
    let k : words O ≤ 2 = omega (arith, ho) in
    let w : m * words O ≤ 1024 * 2 = mul-le-mul hm k in
    rw (
      le-leb m (length t.edge_u) (omega (arith, hm, h.ends)),
      le-leb m (length t.edge_v) (omega (arith, hm, h.others)),
      le-leb m (length t.edge_weight) (omega (arith, hm, h.weights)),
      le-leb (m * words O) (length t.edge_obs) (omega (arith, w, h.rows)),
      le-leb m (length t.edge_p) (omega (arith, hm, hp)),
      le-leb D (length first) (omega (arith, hd, hf)),
      le-leb m (length next) (omega (arith, hm, hn)),
    ) refl

-- a model in tables of the places that are held, compiled within what is held
compile_same : (D O : ℕ) (ms : List ErrorMechanism) (was : Tables) (t : Slices) (first next : List ℕ) → D ≤ 256 → O ≤ 128 → length ms ≤ 1024 → Wide t
    → 1024 ≤ length t.edge_p → 256 ≤ length first → 1024 ≤ length next → graph.outcome D O (length ms) (tables_written ms was) t first next ≡ compile D O ms
unfolding graph.outcome check_slices check_counts
compile_same D O ms was t first next hd ho hm h hp hf hn =
    rw (
      le-ltb 4096 D (omega (arith, hd)),
      le-ltb 128 O ho,
      le-ltb 16384 (length ms) (omega (arith, hm)),
      laws.written_holds ms was,
      slices_long_lem D O (length ms) t first next hd ho hm h hp hf hn,
      laws.read_back ms was,
    ) refl

edges_same : (D O : ℕ) (entry : Slices) (y : Split) → ((ms : List ErrorMechanism) → y ≡ into ms → length ms ≤ 1024) → D ≤ 256 → O ≤ 128 → Wide entry → edges_in D O entry y ≡ compile_split D O y
edges_same D O entry (refused r) few hd ho h = refl
edges_same D O entry (into ms) few hd ho h =
    compile_same D O ms held_tables (slices entry.edge_u entry.edge_v entry.edge_weight entry.edge_obs zeros) (replicate 256 0) (replicate 1024 0) hd ho (few ms refl)
    (record { ends = h.ends; others = h.others; weights = h.weights; rows = h.rows }) (omega arith) (omega arith) (omega arith)

graph_same : (n : State) (c : Columns) (entry : Slices) → ((ms : List ErrorMechanism) → split_in n c ≡ into ms → length ms ≤ 1024) → (s : Input) → Holds s n c → Sized c → Wide entry
    → graph_in n c entry ≡ graph_read n.detectors n.observables (model_read s.mechanisms)
unfolding graph_in graph_read
graph_same n c entry few s k l w =
    let h = held_of n k.within in
    edges_same n.detectors n.observables entry (split_in n c) few h.detectors h.observables w
    ∙ ap (compile_split n.detectors n.observables) (split_same n c s k l)

-- the scratch that holds probabilities is not told of
pub bare : (D O : ℕ) (e : Edges) (r : Result ℕ Refusal) (entry exit : Slices) → Compiles D O e r entry exit
    → Compiles D O e r (slices entry.edge_u entry.edge_v entry.edge_weight entry.edge_obs []) (slices exit.edge_u exit.edge_v exit.edge_weight exit.edge_obs [])
bare D O e r entry exit c = record { sheet = c.sheet; answer = c.answer; ends = c.ends; others = c.others; weights = c.weights; rows = c.rows }

-- ---- both

-- tables that are zero, and a refusal
pub refused_zero : (D O : ℕ) (x : Refusal) (r : Result ℕ Refusal) (t t' : EdgeTables) → r ≡ Err x → Zeroed t t'
    → Compiles D O (edges.refused x) r (slices_of t []) (slices_of t' [])
unfolding graph.answer_of graph.call_row table_left
refused_zero D O x r t t' a z = record { sheet = ap graph.sheet_of a; answer = a; ends = z.edge_u; others = z.edge_v; weights = z.edge_weight; rows = z.edge_obs }

module _ (n : State) (c : Columns) (left : Tables) (entry exit : Slices) (r : Result ℕ Refusal) where
  -- a refusal of decomposition is the answer
  pub graph_refused : (x : Refusal) → DecomposedRead n c (Err x) left → Compiles n.detectors n.observables (edges.refused x) r entry exit → GraphRead n c entry r exit
  unfolding graph_in
  graph_refused x d z = record {
    compiles = by (split_in n c) d.answer;
    read = graph_same n c entry (λ ms e. absurd (no ms (d.answer ∙ ap call.answer_of e)));
  }
    where
      by : (y : Split) → Err x ≡ call.answer_of y → Compiles n.detectors n.observables (edges_in n.detectors n.observables entry y) r entry exit
      by (refused q) e = let same : x ≡ q = cc in subst (λ (y : Refusal). Compiles n.detectors n.observables (edges.refused y) r entry exit) same z
      by (into ms) e = cc

      no : (ms : List ErrorMechanism) → Err x ≡ call.answer_of (into ms) → ⊥
      no ms e = cc

  -- a decomposed model is compiled
  module _ (k : Counts) (long : length left.detector_counts ≡ 1024) (d : DecomposedRead n c (Ok k) left)
      (z : Compiles n.detectors n.observables
      (graph.outcome n.detectors n.observables k.mechanisms left (slices entry.edge_u entry.edge_v entry.edge_weight entry.edge_obs zeros) (replicate 256 0) (replicate 1024 0)) r entry exit) where
    many : Result Counts Refusal → ℕ
    many (Ok x) = x.mechanisms
    many (Err x) = 0

    few : (ms : List ErrorMechanism) → split_in n c ≡ into ms → length ms ≤ 1024
    unfolding tables_written
    few ms e =
        omega (arith, long, ap (λ (t : Tables). length t.detector_counts) (d.tables ms e), length-append (tables_of ms).detector_counts (drop (length (tables_of ms).detector_counts) held_tables.detector_counts), (lengths ms).detector_counts)

    outcome_of_lem : (m m' : ℕ) (t t' : Tables) (g : Slices) (first next : List ℕ) → m ≡ m' → t ≡ t'
        → graph.outcome n.detectors n.observables m t g first next ≡ graph.outcome n.detectors n.observables m' t' g first next
    outcome_of_lem m m' t t' g first next a b = cc

    by : (y : Split) → Ok k ≡ call.answer_of y → ((ms : List ErrorMechanism) → y ≡ into ms → left ≡ tables_written ms held_tables)
        → Compiles n.detectors n.observables (edges_in n.detectors n.observables entry y) r entry exit
    unfolding many
    by (refused x) e f = cc
    by (into ms) e f =
        subst (λ (y : Edges). Compiles n.detectors n.observables y r entry exit)
        (outcome_of_lem k.mechanisms (length ms) left (tables_written ms held_tables) (slices entry.edge_u entry.edge_v entry.edge_weight entry.edge_obs zeros) (replicate 256 0) (replicate 1024 0) (ap many e) (f ms refl))
        z

    pub graph_compiled : GraphRead n c entry r exit
    unfolding graph_in
    graph_compiled = record { compiles = by (split_in n c) d.answer d.tables; read = graph_same n c entry few }

-- ---- columns taken out of the table of counts

take_within : (m : ℕ) (l : List ℕ) → take (min m (length l)) l ≡ take m l
take_within m l =
    case-of (leb m (length l))
    (λ (t : leb m (length l) ≡ true). let h = leb-true m (length l) t in let e : min m (length l) ≡ m = omega arith in ap (λ (k : ℕ). take k l) e)
    (λ (f : leb m (length l) ≡ false).
    let h = leb-false m (length l) f in
    let e : min m (length l) ≡ length l = omega arith in
    ap (λ (k : ℕ). take k l) e ∙ take-length l ∙ sym (take_all m l (omega arith)))

pub held_is : (f : Row → ℕ) (m : ℕ) (counts : List Row) (out : List ℕ) → m ≡ min (length counts) 1024 → take m out ≡ take m (map f counts) → take (m - 0) out ≡ held (map f counts)
held_is f m counts out e q =
    ap (λ (j : ℕ). take j out) (sub-zero m) ∙ q
    ∙ ap (λ (j : ℕ). take j (map f counts)) (e ∙ ap (λ (j : ℕ). min j 1024) (sym (length-map counts f)) ∙ min_comm (length (map f counts)) 1024)
    ∙ take_within 1024 (map f counts)

pub graph_by_lem : (n : State) (bs ds os cs cds cos ds' os' cs' cds' cos' es : List ℕ) (entry : Slices) (r : Result ℕ Refusal) (exit : Slices) → ds ≡ ds' → os ≡ os' → cs ≡ cs' → cds ≡ cds' → cos ≡ cos'
    → GraphBy n bs ds os cs cds cos es entry r exit → GraphBy n bs ds' os' cs' cds' cos' es entry r exit
graph_by_lem n bs ds os cs cds cos ds' os' cs' cds' cos' es entry r exit e1 e2 e3 e4 e5 g = rw (← e1, ← e2, ← e3, ← e4, ← e5) g
