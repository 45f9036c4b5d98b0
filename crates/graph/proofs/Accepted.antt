-- A compiled graph passes the check of a lent one.
use Rattle.codes.specs.Order.{Checked}
use Rattle.std.specs.Prelude.{Ok, Err}
use Prim.Native.Nat.{ℕ, zero, suc, ◌≤◌, ◌<◌}
use native.Mathlib.Omega.{arith}
use mathlib.Core.Path.{◌≡◌, refl, sym, ap, ◌∙◌}
use mathlib.Core.List.{List, [], ◌∷◌, map}
use mathlib.Core.Bool.{true, ◌&&◌, ◌||◌}
use lib.Dec.{eqb, ltb}
use lib.Ieee as Ieee
use lib.Ieee.{nan}
use lib.ListN.{length, get_or, get_or-map}
use borrow.Author.Tests.{lt-ltb, le-ltb, eq-eqb}
use Rattle.lists.specs.Lists.{below, member}
use Rattle.lists.proofs.Truth.{cond_case, or_intro, same_eqb}
use Rattle.lists.proofs.Members.{member_below, length_below}
use Rattle.bits.specs.Rows.{words, is_clear, row_of_bits}
use Rattle.bits.proofs.Booleans.{row_clear}
use Rattle.weight.specs.Weight.{weight_of}
use Rattle.weight.proofs.Laws.{laws}
use Rattle.codes.specs.Limits.{check_counts, max_detectors, max_observables, max_mechanisms}
use Rattle.steps.specs.Graph.{Graph, boundary}
use Rattle.steps.specs.Call.{ends_fit, observables_fit, check_edge, check_edges, AcceptedGraph}
use Rattle.lent_graph.specs.Lent.{ends_of}
use Rattle.lent_graph.proofs.Edges.{not_not}
use Rattle.std.proofs.lemmas.List.{get_or_default, length-map}
use Rattle.dem.specs.Model.{ErrorMechanism, check_mechanism}
use Rattle.dem.specs.Laws.{Fits}
use Rattle.dem.proofs.Accepted.{mechanism_fits}
use Rattle.edges.specs.Compile.{Edge, Edges, into, refused, greater, share, edge_of, join_by, is_zero, join_next, next, edges_from, compile, obs_row, graph_by}
use Rattle.graph.specs.Laws.{Within}
use Rattle.edges.proofs.Slices.{row_long}
use Rattle.edges.proofs.Sharing.{blank}
use Rattle.graph.proofs.Going.{edges_in, edges_few}

module _ (d : ℕ) where
  -- the ends of every edge fit
  abbrev Good : List Edge → Type 0
  Good [] = Unit {0}
  Good (e ∷ es) = (ends_of d e.u e.v ≡ true) × Good es

  abbrev GoodIn : Edges → Type 0
  GoodIn (into es) = Good es
  GoodIn (refused r) = Unit {0}

  share_good : (new : Edge) (es : List Edge) → ends_of d new.u new.v ≡ true → Good es → Good (share new es)
  unfolding share greater
  share_good new [] n g = (n, tt)
  share_good new (e ∷ es) n (a, b) = cond_case Good (eqb e.u new.u && eqb e.v new.v) _ _
      (λ t. (cond_case (λ (x : Edge). ends_of d x.u x.v ≡ true) (Ieee.lt e.probability new.probability) new e (λ s. n) (λ s. a), b))
      (λ f. (a, share_good new es n b))

  one_end : (a : ℕ) → a < d → ends_of d a boundary ≡ true
  unfolding ends_of
  one_end a h = rw (lt-ltb a d h)

  two_ends : (a b : ℕ) → a < b → b < d → ends_of d a b ≡ true
  unfolding ends_of
  two_ends a b h k = rw (lt-ltb a d (omega arith), lt-ltb a b h, lt-ltb b d k) (or_intro (eqb b boundary) true refl)

  by_good : (i : ℕ) (m : ErrorMechanism) (es : List Edge) (l : List ℕ) → Fits d l → Good es → GoodIn (join_by i m es l)
  unfolding join_by
  by_good i m es [] f g = g
  by_good i m es (a ∷ []) f g = share_good (edge_of m a boundary) es (one_end a (f.below 0 (omega arith))) g
  by_good i m es (a ∷ b ∷ []) f g = share_good (edge_of m a b) es (two_ends a b (f.ascends 0 (omega arith)) (f.below 1 (omega arith))) g
  by_good i m es (a ∷ b ∷ c ∷ l) f g = tt

  module _ (o : ℕ) where
    next_good : (i : ℕ) (m : ErrorMechanism) (r : Edges) → GoodIn r → GoodIn (next d o i m r)
    unfolding join_next
    next_good i m (refused x) g = tt
    next_good i m (into es) g = go (check_mechanism d o i m) refl
      where
        go : (c : Checked) → check_mechanism d o i m ≡ c → GoodIn (join_next i m es c)
        go (Err x) e = tt
        go (Ok tt) e = cond_case GoodIn (is_zero m.probability) _ _ (λ t. g) (λ f. by_good i m es m.symptom.detectors (mechanism_fits d o i m e).symptom.detectors g)

    from_good : (i : ℕ) (ms : List ErrorMechanism) (r : Edges) → GoodIn r → GoodIn (edges_from d o i ms r)
    unfolding edges_from
    from_good i [] r g = g
    from_good i (m ∷ ms) r g = from_good (suc i) ms (next d o i m r) (next_good i m r g)

    compile_good : (ms : List ErrorMechanism) → GoodIn (compile d o ms)
    unfolding compile
    compile_good ms = from_good 0 ms (into []) tt

  good_at : (es : List Edge) (e : ℕ) → Good es → e < length es → ends_of d (get_or es e blank).u (get_or es e blank).v ≡ true
  good_at [] e g h = absurd (omega arith)
  good_at (x ∷ es) zero (a, b) h = a
  good_at (x ∷ es) (suc e) (a, b) h = good_at es e b (omega arith)

pub map_at : {A : Type 0} (f : Edge → A) (es : List Edge) (e : ℕ) (z : A) → e < length es → get_or (map f es) e z ≡ f (get_or es e blank)
map_at f es e z h = get_or_default (map f es) e z (f blank) (rw (length-map es f) h) ∙ get_or-map f es e blank

row_fits : (o : ℕ) (obs : List ℕ) → is_clear o (obs_row o obs) ≡ true
unfolding obs_row
row_fits o obs =
    let l = map (λ j. member j obs) (below o) in
    let n : length l ≡ o = length-map (below o) (λ j. member j obs) ∙ length_below o in
    ap (λ (k : ℕ). is_clear k (row_of_bits (words o) l)) (sym n) ∙ row_clear (words o) l

edge_accepted : (d o : ℕ) (es : List Edge) (e : ℕ) → Good d es → e < length es → check_edge (graph_by d o es) e ≡ Ok tt
unfolding check_edge ends_fit observables_fit graph_by ends_of
edge_accepted d o es e g h =
    let x = get_or es e blank in
    let ends : (ltb x.u d && (eqb x.v boundary || (ltb x.u x.v && ltb x.v d))) ≡ true = good_at d es e g h in
    rw (
      map_at (λ e. e.u) es e boundary h,
      map_at (λ e. e.v) es e boundary h,
      map_at (λ e. weight_of e.probability) es e nan h,
      map_at (λ e. obs_row o e.observables) es e [] h,
      not_not,
      ends,
      eq-eqb (length (obs_row o x.observables)) (words o) (row_long o x),
      row_fits o x.observables,
      laws.passes x.probability,
    )

all_accepted : (g : Graph) (l : List ℕ) → ((e : ℕ) → member e l ≡ true → check_edge g e ≡ Ok tt) → check_edges g l ≡ Ok tt
unfolding check_edges member
all_accepted g [] h = refl
all_accepted g (e ∷ l) h = rw (h e (rw (same_eqb e))) (all_accepted g l (λ x m. h x (or_intro (eqb x e) (member x l) m)))

counts_accepted : (d o n : ℕ) → d ≤ max_detectors → o ≤ max_observables → n ≤ max_mechanisms → check_counts d o n ≡ Ok tt
unfolding check_counts
counts_accepted d o n a b c = rw (le-ltb max_detectors d a, le-ltb max_observables o b, le-ltb max_mechanisms n c)

pub accepted : (d o : ℕ) (ms : List ErrorMechanism) (es : List Edge) → Within d o ms es → AcceptedGraph (graph_by d o es)
unfolding graph_by
accepted d o ms es w =
    let good : Good d es = rw w.edges at (compile_good d o ms) in
    let few : length es ≤ length ms = omega (arith, ap (λ (r : Edges). length (edges_in r)) w.edges, edges_few d o ms) in
    let n : length (map (λ (e : Edge). e.u) es) ≡ length es = length-map es (λ e. e.u) in
    record {
      limits = rw n (counts_accepted d o (length es) w.detectors w.observables (let k = w.mechanisms in omega arith));
      ends_table = length-map es (λ e. e.v) ∙ sym n;
      weight_table = length-map es (λ e. weight_of e.probability) ∙ sym n;
      obs_table = length-map es (λ e. obs_row o e.observables) ∙ sym n;
      passes = rw n (all_accepted (graph_by d o es) (below (length es)) (λ e m. edge_accepted d o es e good (member_below e (length es) m)));
    }
