-- A shot's parts fit: what growth leaves is what peeling asks, and what peeling leaves is what cleaning asks.
use Prim.Native.Nat.{ℕ, ◌≤◌, ◌<◌}
use native.Mathlib.Omega.{arith}
use mathlib.Core.Path.{◌≡◌, refl, sym, ap, ◌∙◌}
use mathlib.Core.List.{List, [], ◌∷◌, ◌++◌, map}
use mathlib.Core.Bool.{Bool, true, false}
use lib.ListN.{length, get_or, take, drop}
use lib.Seq.{take_all, take_at, length-take-le}
use lib.Ieee.{Float}
use borrow.Author.Tests.{eq-eqb, ne_eqb}
use Rattle.lists.specs.Lists.{below, filter, member}
use Rattle.lists.proofs.Truth.{case-of, and_left, and_right}
use Rattle.lists.proofs.Members.{member_filter, member_firsts, member_unmap, member_below, get_d_any}
use Rattle.lists.proofs.Filters.{filter_in}
use Rattle.bits.specs.Rows.{words, bit, set_bits}
use Rattle.bits.proofs.Booleans.{bits_at}
use Rattle.bits.proofs.Listed.{set_bits_few}
use Rattle.steps.specs.Graph.{Graph, Ends, boundary, edges}
use Rattle.steps.specs.Growth.{State, settled, stuck, growth, exits}
use Rattle.steps.specs.Laws.{Constant}
use Rattle.steps.specs.Peeling.{clusters, exits_of}
use Rattle.steps.specs.Shot.{impossible, answer, decode, row_left}
use Rattle.steps.specs.Call.{graph_of, lit_of, list_left}
use Rattle.found.proofs.Labels.{name, Labels}
use Rattle.found.proofs.SameEnds.{SameEnds, SameWeights, same_ends_lem, back, same_growth}
use Rattle.forest.specs.Forest.{Down, labels}
use Rattle.forest.proofs.Forest.{length_labels}
use Rattle.adjacency.specs.Adjacent.{plain, weighted}
use Rattle.walks.specs.Walks.{Tabled}
use Rattle.peeling.specs.Tables.{first_of, Grown, Lit}
use Rattle.peeling.proofs.Settled.{settled_quiet, settled_grown}
use Rattle.finish.proofs.ObservableRows.{lent_flat}
use Rattle.finish.specs.Finish.{Settles, Finished}
use Rattle.finish.proofs.Answers.{decode_answered, list_answered, row_answered}
use Rattle.growth_state.specs.Rep.{state_of, lowest, Seen, Rep}
use Rattle.rest.specs.Clean.{Cleaning}
use Rattle.growth_round.specs.Round.{Space}
use Rattle.growth_round.specs.Grow.{answer_of, Grew}
use Rattle.shot.specs.Begin.{Shot}
use Rattle.shot.specs.Shots.{graph_in, shot_of, Tables, Given, Left}
use Rattle.shot.specs.declared.Shot.TheVariants as shot

-- the lowest that passes is the first of those that pass
lowest_first : (p : ℕ → Bool) (l : List ℕ) → lowest p l ≡ first_of (filter p l)
unfolding lowest filter
lowest_first p [] = refl
lowest_first p (e ∷ l) = case-of (p e) (λ t. rw t) (λ f. rw f (lowest_first p l))

-- ---- the detectors seen have all of the clusters that hold a lit one

module _ (g : Graph) (lit sat known : List Bool) (ls seen : List ℕ) (n : ℕ) (k : Labels g sat ls) (v : Seen g lit sat known seen n) where
  -- a saturated pair edge has both ends seen
  all_seen : Constant g sat (λ x. get_or known x false)
  all_seen e h s p = v.inner_known e h s ∙ sym (v.outer_known e h s p)

  covered : (y : ℕ) → y < g.detectors → member (name ls y) (clusters g sat ls lit) ≡ true → member y (take n seen) ≡ true
  unfolding clusters
  covered y h m =
      let lits = filter (λ x. get_or lit x false) (below g.detectors) in
      let (x, mx, q) = member_unmap (λ x. name ls x) (name ls y) lits (sym (member_firsts (name ls y) (map (λ x. name ls x) lits)) ∙ m) in
      let both = sym (member_filter (λ x. get_or lit x false) x (below g.detectors)) ∙ mx in
      let hx = member_below x g.detectors (and_right (get_or lit x false) (member x (below g.detectors)) both) in
      let on : get_or lit x false ≡ true = and_left (get_or lit x false) (member x (below g.detectors)) both in
      v.listed y h
      ∙ sym (k.linked y h (λ z. get_or known z false) all_seen)
      ∙ ap (λ z. get_or known z false) (sym q)
      ∙ k.linked x hx (λ z. get_or known z false) all_seen
      ∙ v.lit_known x hx on

-- ---- the lit detectors listed

pub lit_listed : (d : ℕ) (shot defects : List ℕ) {defects' : List ℕ} {l : ℕ} → l ≡ length (set_bits d shot) → defects' ≡ set_bits d shot ++ drop (length (set_bits d shot)) defects
    → length defects' ≡ length defects → d ≤ length defects → Shot d shot defects' l
lit_listed d shot defects {defects'} {l} n is z h = record {
  few = omega (arith, set_bits_few d shot);
  listed = ap (take l) is ∙ take_at (set_bits d shot) (drop (length (set_bits d shot)) defects) l (sym n);
}

-- the lit detectors of the row are those of the table
lit_table : (d : ℕ) {shot defects : List ℕ} {l : ℕ} {lit : List Bool} → lit ≡ lit_of d shot → Shot d shot defects l → take l defects ≡ filter (λ x. get_or lit x false) (below d)
unfolding set_bits
lit_table d {shot} {defects} {l} {lit} q k = k.listed
    ∙ filter_in (bit shot) (λ x. get_or lit x false) (below d) (λ x m. sym (ap (λ (r : List Bool). get_or r x false) q ∙ bits_at d shot x (member_below x d m)))

pub left : {d o : ℕ} {shot row list : List ℕ} → Given d o shot row list → {defects : List ℕ} {l : ℕ} → Shot d shot defects l → {lit : List Bool} → lit ≡ lit_of d shot
    → {active front oe op : List ℕ} → d ≤ length active → d ≤ length front → d ≤ length oe → d ≤ length op → Left d o lit row list defects l active front oe op
left {d} gv k q a b c e = record {
  few = k.few;
  listed = lit_table d q k;
  rows = gv.rows;
  lists = gv.lists;
  actives = a;
  fronts = b;
  trees = c;
  parents = e;
}

-- ---- the graph of the tables

module _ {d o : ℕ} {u v : List ℕ} {weight : List Float} {obs off adj far : List ℕ} (t : Tables d o u v weight obs off adj far) where
  abbrev g : Graph
  g = graph_in d o u v weight obs

  same_weights : SameWeights (weighted d u v weight) g
  unfolding graph_of
  same_weights = record {
    ends = record {
      detectors = refl;
      edge_u = sym (take_all (length u) u (omega arith));
      edge_v = sym (take_all (length u) v (omega (arith, t.others)));
    };
    edge_weight = sym (take_all (length u) weight (omega (arith, t.weights)));
  }

  ends_same : SameEnds (plain d u v) g
  ends_same = record { detectors = same_weights.ends.detectors; edge_u = same_weights.ends.edge_u; edge_v = same_weights.ends.edge_v }

  pub ends_weighted : Ends (weighted d u v weight)
  ends_weighted = same_ends_lem (back same_weights.ends) t.ends

  ends_plain : Ends (plain d u v)
  ends_plain = same_ends_lem (back ends_same) t.ends

  pub small : d < boundary
  small = ends_plain.small

  pub space : {front touched cnt : List ℕ} → d ≤ length front → length u < length touched → length u < length cnt → Space d u v weight off adj far front touched cnt
  space a b c = record { ends = ends_weighted; weights = t.weights; few = t.few; adjacent = t.adjacent; fronts = a; touches = b; cnts = c }

  -- ---- after growth

  module _ {stuck rounds : ℕ} {lit : List Bool} {growth' : List Float} {sat : List Bool} {parent active : List ℕ} {a : ℕ} {odd : List Bool} {exit : List ℕ} {known : List Bool} {seen : List ℕ} {n : ℕ}
      {hot free : List Bool}
      (gr : Grew (weighted d u v weight) lit stuck rounds growth' sat parent active a odd exit known seen n hot free) where
    -- the state that the tables hold
    abbrev s : State
    s = state_of d growth' sat parent active a

    grown_is : growth g lit ≡ answer_of stuck rounds s
    grown_is = sym (same_growth same_weights lit) ∙ gr.answer

    pub to_clean : Cleaning d u v off adj far seen n
    to_clean = record {
      adjacent = t.adjacent;
      small = small;
      seens = omega (arith, gr.seens.many, gr.seens.room);
      inside = gr.seens.inside;
    }

    -- ---- Stuck

    module _ (f : stuck ≡ 4294967295 → ⊥) where
      stuck_decode : decode g lit ≡ impossible rounds stuck
      unfolding decode answer
      stuck_decode =
          let held : growth g lit ≡ Rattle.steps.specs.Growth.stuck rounds stuck = grown_is ∙ rw (ne_eqb stuck 4294967295 f) in
          ap (answer g lit) held

      pub stuck_answer : shot.Stuck rounds stuck ≡ shot_of (decode g lit)
      stuck_answer = ap shot_of (sym stuck_decode)

      pub stuck_list : (list : List ℕ) → list ≡ list_left list (decode g lit)
      unfolding list_left
      stuck_list list = ap (list_left list) (sym stuck_decode)

      pub stuck_row_lem : (row : List ℕ) → row ≡ row_left g row (decode g lit)
      unfolding row_left
      stuck_row_lem row = ap (row_left g row) (sym stuck_decode)

    -- ---- settled

    module _ (e : stuck ≡ 4294967295) where
      settled_is : growth g lit ≡ settled rounds s
      settled_is = grown_is ∙ rw (eq-eqb stuck 4294967295 e)

      rep : Rep (weighted d u v weight) lit s growth' sat parent active a odd exit known seen n hot free
      rep = gr.settles e

      -- the labels
      abbrev ls : List ℕ
      ls = labels d parent

      exits_are : (b : ℕ) → b < d → name ls b ≡ b → get_or exit b 0 ≡ first_of (exits_of (plain d u v) sat ls b)
      unfolding exits_of
      exits_are b h m =
          rep.clusters.exit_is b h (get_d_any ls b 0 b (rw (length_labels d parent) h) ∙ m)
          ∙ lowest_first (exits (weighted d u v weight) lit sat ls b) (edges (weighted d u v weight))

      covers : (y : ℕ) → y < d → member (name ls y) (clusters (plain d u v) sat ls lit) ≡ true → member y (take n seen) ≡ true
      unfolding clusters
      covers = covered (weighted d u v weight) lit sat known ls seen n rep.kept.labels gr.seens

      pub down : Down d parent
      down = rep.clusters.down

      -- what the shot's end asks
      module _ {w : ℕ} (i : w ≡ words o) {row list defects : List ℕ} {l : ℕ} {front oe op : List ℕ} (k : Left d o lit row list defects l active front oe op) where
        pub tabled : Tabled d u v off adj far sat free front active oe op
        tabled = record {
          ok = ends_plain;
          adjacent = t.adjacent;
          sats = gr.used.sats;
          mets = gr.used.frees;
          stacks = k.fronts;
          vertices = k.actives;
          trees = k.trees;
          parents = k.parents;
        }

        pub grown : Grown d u v sat ls exit
        grown = settled_grown g t.ends lit rounds s settled_is ends_same exit (omega (arith, t.few)) (omega (arith, gr.used.exits)) exits_are

        pub lights : Lit d defects l free lit list
        lights = record { few = k.few; lits = k.listed; clean = λ y h. rep.rest.none_free y; lives = rep.lits; outs = k.lists }

        pub settles : Settles d u v sat ls lit w obs row seen n
        settles = rw i (record {
          quiet = settled_quiet g t.ends lit rounds s settled_is ends_same;
          table = t.rows;
          wide = k.rows;
          few = to_clean.seens;
          inside = gr.seens.inside;
          covers = covers;
        })

        -- and what it leaves
        module _ {r : ℕ} {free' lit' : List Bool} {row' list' : List ℕ} (m : Finished d u v sat ls lit w obs row list r free' lit' row' list') where
          size : length lit ≡ g.detectors
          unfolding graph_of
          size = rep.lits

          pub decoded_answer : length list' ≡ length list → shot.Decoded rounds r ≡ shot_of (decode g lit)
          decoded_answer z =
              ap (shot.Decoded rounds) (sym (length-take-le r list' (omega (arith, m.few, k.lists))))
              ∙ ap shot_of (sym (decode_answered ends_same t.ends lit size rounds s settled_is m))

          pub decoded_list : list' ≡ list_left list (decode g lit)
          decoded_list = list_answered ends_same t.ends lit size rounds s settled_is m

          pub decoded_row_lem : row' ≡ row_left g row (decode g lit)
          decoded_row_lem =
              row_answered ends_same t.ends lit size rounds s settled_is m (rw i (lent_flat d o (length u) u v weight obs t.rows)) (rw i k.rows)
