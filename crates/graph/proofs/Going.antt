-- The edges of the first mechanisms, and of one more.
use Rattle.std.specs.Prelude.{Result, Ok, Err}
use Prim.Native.Nat.{ℕ, suc, ◌+◌, ◌-◌, ◌*◌, ◌≤◌, ◌<◌}
use native.Mathlib.Omega.{arith}
use native.Mathlib.Nat.{zero-add, suc-mul, mul-le-mul_right}
use mathlib.Core.Path.{◌≡◌, refl, sym, ap, subst, ◌∙◌}
use mathlib.Core.List.{List, [], ◌∷◌, ◌++◌}
use mathlib.Core.Bool.{true, ◌&&◌, not}
use lib.Dec.{eqb, leb}
use lib.ListN.{length, replicate, get_or-replicate, length-replicate}
use borrow.Author.Tests.{leb-true}
use Rattle.lists.proofs.Truth.{cond_case, and_left, and_right}
use Rattle.bits.specs.Rows.{words}
use Rattle.lent_graph.specs.Lent.{tables_long}
use Rattle.lent_graph.proofs.Laws.{long}
use Rattle.codes.specs.Order.{Checked, refuse_if}
use Rattle.codes.specs.Limits.{check_counts, max_detectors, max_observables, max_mechanisms}
use Rattle.codes.specs.declared.Refusal.TheVariants.{Short}
use Rattle.codes.proofs.Checks.{then_accepted, unless_accepted, counts_within}
use Rattle.codes.specs.declared.Refusal.{Refusal}
use Rattle.dem.specs.declared.Mechanism.{Mechanism}
use Rattle.dem.specs.declared.Place.{Place}
use Rattle.dem.specs.Model.{ErrorMechanism, check_mechanism}
use Rattle.dem.specs.Tables.{Tables, model_of, tables_hold}
use Rattle.dem.specs.Positions.{head_of, mechanism_at, place_of, tables_from}
use Rattle.dem.proofs.Positions.{model_split, first_from}
use Rattle.dem.proofs.Laws.{count, split, place_first}
use Rattle.edges.specs.Compile.{Edge, Edges, into, refused, share, join_by, is_zero, join_next, next as next_edges, edges_from, compile}
use Rattle.edges.specs.Chains.{chain_end, last_with, Chained}
use Rattle.edges.specs.Tables.{Slices, filled, Room}
use Rattle.graph.specs.Outcome.{slices_long, check_slices, Joined, Joins}

abbrev pub edges_in : Edges → List Edge
edges_in (into es) = es
edges_in (refused r) = []

-- ---- how many

share_few : (new : Edge) (es : List Edge) → length (share new es) ≤ suc (length es)
unfolding share
share_few new [] = omega arith
share_few new (e ∷ es) = cond_case (λ (l : List Edge). length l ≤ suc (suc (length es))) (eqb e.u new.u && eqb e.v new.v) _ _
    (λ t. omega arith) (λ f. let k = share_few new es in omega arith)

by_few : (i : ℕ) (m : ErrorMechanism) (es : List Edge) (l : List ℕ) → length (edges_in (join_by i m es l)) ≤ suc (length es)
unfolding join_by
by_few i m es [] = omega arith
by_few i m es (a ∷ []) = share_few _ es
by_few i m es (a ∷ b ∷ []) = share_few _ es
by_few i m es (a ∷ b ∷ c ∷ l) = omega arith

next_few : (d o i : ℕ) (m : ErrorMechanism) (r : Edges) → length (edges_in (next_edges d o i m r)) ≤ suc (length (edges_in r))
unfolding join_next
next_few d o i m (refused x) = omega arith
next_few d o i m (into es) = go (check_mechanism d o i m)
  where
    go : (c : Checked) → length (edges_in (join_next i m es c)) ≤ suc (length es)
    go (Err x) = omega arith
    go (Ok tt) = cond_case (λ (r : Edges). length (edges_in r) ≤ suc (length es)) (is_zero m.probability) _ _ (λ t. omega arith) (λ f. by_few i m es m.symptom.detectors)

from_few : (d o i : ℕ) (ms : List ErrorMechanism) (r : Edges) → length (edges_in (edges_from d o i ms r)) ≤ length (edges_in r) + length ms
unfolding edges_from
from_few d o i [] r = omega arith
from_few d o i (m ∷ ms) r = omega (arith, from_few d o (suc i) ms (next_edges d o i m r), next_few d o i m r)

-- no more edges than mechanisms
pub edges_few : (d o : ℕ) (ms : List ErrorMechanism) → length (edges_in (compile d o ms)) ≤ length ms
unfolding compile
edges_few d o ms = omega (arith, from_few d o 0 ms (into []))

-- ---- one after the other

from_append : (d o i : ℕ) (xs ys : List ErrorMechanism) (r : Edges) → edges_from d o i (xs ++ ys) r ≡ edges_from d o (length xs + i) ys (edges_from d o i xs r)
unfolding edges_from
from_append d o i [] ys r = rw (zero-add i)
from_append d o i (x ∷ xs) ys r = let e : suc (length xs) + i ≡ length xs + suc i = omega arith in rw e (from_append d o (suc i) xs ys (next_edges d o i x r))

from_refused : (d o i : ℕ) (ms : List ErrorMechanism) (x : Refusal) → edges_from d o i ms (refused x) ≡ refused x
unfolding edges_from
from_refused d o i [] x = refl
from_refused d o i (m ∷ ms) x = from_refused d o (suc i) ms x

module _ (d o : ℕ) (t : Tables) where
  -- mechanism i
  abbrev pub mechanism : ℕ → ErrorMechanism
  mechanism i = mechanism_at (head_of i t) (place_of i t) t.component_detectors t.component_observables t.entries

  pub compile_next : (i : ℕ) → compile d o (model_of (i + 1) t) ≡ next_edges d o i (mechanism i) (compile d o (model_of i t))
  unfolding compile edges_from model_of
  compile_next i =
      let e : length (model_of i t) + 0 ≡ i = omega (arith, count i t) in
      ap (compile d o) (model_split i 1 t) ∙ from_append d o 0 (model_of i t) (model_of 1 (tables_from i t)) (into []) ∙ rw (e, first_from i t)

  pub compile_refused : (i n : ℕ) (x : Refusal) → i < n → compile d o (model_of (i + 1) t) ≡ refused x → compile d o (model_of n t) ≡ refused x
  unfolding compile
  compile_refused i n x h e =
      ap (compile d o) (split (i + 1) n t (omega arith))
      ∙ from_append d o 0 (model_of (i + 1) t) (model_of (n - (i + 1)) (tables_from (i + 1) t)) (into [])
      ∙ ap (edges_from d o (length (model_of (i + 1) t) + 0) (model_of (n - (i + 1)) (tables_from (i + 1) t))) e
      ∙ from_refused d o (length (model_of (i + 1) t) + 0) (model_of (n - (i + 1)) (tables_from (i + 1) t)) x

  -- the loop, past i mechanisms
  pub record Going (was : Slices) (i : ℕ) (place : Place) (many : ℕ) (out : Slices) (first next : List ℕ) : Type 0 where
    pub at : place ≡ place_of i t
    pub into_edges : compile d o (model_of i t) ≡ into (edges_in (compile d o (model_of i t)))
    pub as_many : many ≡ length (edges_in (compile d o (model_of i t)))
    pub tables : out ≡ filled o (edges_in (compile d o (model_of i t))) was
    pub chained : Chained many out.edge_u out.edge_v first next

  no_edges : (u v first next : List ℕ) (k : ℕ) → Chained 0 u v (replicate k chain_end) next
  unfolding last_with
  no_edges u v first next k = record {
    few = omega arith;
    starts = λ a l. get_or-replicate k a chain_end 0 (rw (length-replicate k chain_end) at l);
    goes_on = λ e l. absurd (omega arith);
    distinct = λ i j l m. absurd (omega arith);
  }

  pub going_first : (was : Slices) (k : ℕ) (first next : List ℕ) → first ≡ replicate k chain_end → Going was 0 (record { component = 0; entry = 0 }) 0 was first next
  unfolding compile edges_from model_of filled
  going_first was k first next e = record {
    at = sym (place_first t);
    into_edges = refl;
    as_many = refl;
    tables = refl;
    chained = rw e (no_edges was.edge_u was.edge_v first next k);
  }

module _ {d o : ℕ} {t : Tables} {was out : Slices} {i many : ℕ} {place : Place} {first next : List ℕ} (g : Going d o t was i place many out first next) where
  -- what the next mechanism finds
  joined_next : (exit : Slices) (h : Mechanism) (r : Result ℕ Refusal) → h ≡ head_of i t
      → Joins o many (λ es. next_edges d o i (mechanism_at h place t.component_detectors t.component_observables t.entries) (into es)) r out exit
      → Joined o (compile d o (model_of (i + 1) t)) r was exit
  joined_next exit h r e j =
      let es = edges_in (compile d o (model_of i t)) in
      let m : mechanism_at h place t.component_detectors t.component_observables t.entries ≡ mechanism d o t i = rw (e, g.at) in
      let k : Joins o many (λ es. next_edges d o i (mechanism d o t i) (into es)) r out exit
      = subst (λ (m : ErrorMechanism). Joins o many (λ es. next_edges d o i m (into es)) r out exit) m j in
      rw (compile_next d o t i, g.into_edges) (k es was (sym g.as_many) g.tables)

  -- a refusal is the answer
  pub stopped : (n : ℕ) (exit : Slices) (h : Mechanism) (y : Refusal) → i < n → h ≡ head_of i t
      → Joins o many (λ es. next_edges d o i (mechanism_at h place t.component_detectors t.component_observables t.entries) (into es)) (Err y) out exit
      → Joined o (compile d o (model_of n t)) (Err y) was exit
  stopped n exit h y l e j = go (compile d o (model_of (i + 1) t)) refl (joined_next exit h (Err y) e j)
    where
      go : (e : Edges) → compile d o (model_of (i + 1) t) ≡ e → Joined o e (Err y) was exit → Joined o (compile d o (model_of n t)) (Err y) was exit
      go (into es) q (a, b) = cc
      go (refused x) q a = rw (compile_refused d o t i n x l q) a

  -- edges go on
  pub went : (exit : Slices) (h : Mechanism) (k : ℕ) (past : Place) (first' next' : List ℕ) → h ≡ head_of i t
      → Joins o many (λ es. next_edges d o i (mechanism_at h place t.component_detectors t.component_observables t.entries) (into es)) (Ok k) out exit
      → Chained k exit.edge_u exit.edge_v first' next' → past ≡ place_of (i + 1) t → Going d o t was (i + 1) past k exit first' next'
  went exit h k past first' next' e j c p = go (compile d o (model_of (i + 1) t)) refl (joined_next exit h (Ok k) e j)
    where
      go : (e : Edges) → compile d o (model_of (i + 1) t) ≡ e → Joined o e (Ok k) was exit → Going d o t was (i + 1) past k exit first' next'
      go (refused x) q a = cc
      go (into es) q (a, b) =
          let m : edges_in (compile d o (model_of (i + 1) t)) ≡ es = ap edges_in q in
          let l : k ≡ length es = cc in
          record {
            at = p;
            into_edges = q ∙ ap into (sym m);
            as_many = l ∙ ap length (sym m);
            tables = b ∙ ap (λ (es' : List Edge). filled o es' was) (sym m);
            chained = c;
          }

  pub ended : (n : ℕ) → n ≡ i → Joined o (compile d o (model_of n t)) (Ok many) was out
  ended n e = rw (e, g.into_edges) (ap Ok g.as_many, g.tables)

  pub many_few : many ≤ i
  many_few = omega (arith, g.as_many, edges_few d o (model_of i t), count i t)

-- ---- long enough

pub record Held (d o m : ℕ) (t : Tables) (out : Slices) (first next : List ℕ) : Type 0 where
  pub detectors : d ≤ max_detectors
  pub observables : o ≤ max_observables
  pub mechanisms : m ≤ max_mechanisms
  pub holds : tables_hold m t ≡ true
  pub ends : m ≤ length out.edge_u
  pub others : m ≤ length out.edge_v
  pub weights : m ≤ length out.edge_weight
  pub rows : m * words o ≤ length out.edge_obs
  pub probabilities : m ≤ length out.edge_p
  pub starts : d ≤ length first
  pub chains : m ≤ length next

-- tables of the same lengths
pub record Alike (was out : Slices) : Type 0 where
  pub ends : length out.edge_u ≡ length was.edge_u
  pub others : length out.edge_v ≡ length was.edge_v
  pub weights : length out.edge_weight ≡ length was.edge_weight
  pub rows : length out.edge_obs ≡ length was.edge_obs
  pub probabilities : length out.edge_p ≡ length was.edge_p

pub held : (d o m : ℕ) (t : Tables) (out : Slices) (first next : List ℕ) → check_slices d o m t out first next ≡ Ok tt → Held d o m t out first next
unfolding check_slices slices_long
held d o m t out first next h =
    let hold = tables_hold m t in
    let tables = tables_long o m out.edge_u out.edge_v out.edge_weight out.edge_obs in
    let p = leb m (length out.edge_p) in
    let f = leb d (length first) in
    let n = leb m (length next) in
    let (a, b) = then_accepted (check_counts d o m) (refuse_if (not (hold && (tables && (p && (f && n))))) Short) h in
    let (c, e, g) = counts_within d o m a in
    let j = unless_accepted (hold && (tables && (p && (f && n)))) Short b in
    let k = and_right hold (tables && (p && (f && n))) j in
    let l = long o m out.edge_u out.edge_v out.edge_weight out.edge_obs (and_left tables (p && (f && n)) k) in
    let q = and_right tables (p && (f && n)) k in
    let r = and_right p (f && n) q in
    record {
      detectors = c;
      observables = e;
      mechanisms = g;
      holds = and_left hold (tables && (p && (f && n))) j;
      ends = l.ends;
      others = l.others;
      weights = l.weights;
      rows = l.rows;
      probabilities = leb-true m (length out.edge_p) (and_left p (f && n) q);
      starts = leb-true d (length first) (and_left f n r);
      chains = leb-true m (length next) (and_right f n r);
    }

-- a place for one edge more
pub room : {d o m : ℕ} {t : Tables} {was out : Slices} {start next₀ next : List ℕ} (many : ℕ) → Held d o m t was start next₀ → many < m → Alike was out → length next ≡ length next₀ → Room o many out next
room {o = o} many h l a n = record {
  observables = h.observables;
  few = omega arith;
  ends = omega arith;
  others = omega arith;
  weights = omega arith;
  rows = omega (arith, mul-le-mul_right (words o) l, suc-mul many (words o));
  probabilities = omega arith;
  chains = omega arith;
}
