-- Peeling reads of a graph only its detectors and ends, and growth only these and its weights: graphs that agree on them have the same clusters, rounds and lists.
use Prim.Native.Nat.{ℕ}
use mathlib.Core.Path.{◌≡◌, refl, sym, ap, ◌∙◌}
use mathlib.Core.List.{List, []}
use mathlib.Core.Bool.{Bool}
use Rattle.steps.specs.Graph.{Graph, Ends}
use Rattle.steps.specs.Growth.{State, Growth, stuck, settled, short, is_odd, is_active, first_stuck, next, after, turn, growth}
use Rattle.steps.specs.Peeling.{Peeled, branches_from, exits_of, peel, clusters, peeled}
use Rattle.steps.specs.Shot.{answer, decode}
use Rattle.found.proofs.Labels.{Labels}

-- g and h have the same detectors and ends
pub record SameEnds (g h : Graph) : Type 0 where
  pub detectors : g.detectors ≡ h.detectors
  pub edge_u : g.edge_u ≡ h.edge_u
  pub edge_v : g.edge_v ≡ h.edge_v

-- and the same weights
pub record SameWeights (g h : Graph) : Type 0 where
  pub ends : SameEnds g h
  pub edge_weight : g.edge_weight ≡ h.edge_weight

-- ---- the ends alone

-- g with no weights and no observables
abbrev ended : Graph → Graph
ended g = record { detectors = g.detectors; observables = 0; edge_u = g.edge_u; edge_v = g.edge_v; edge_weight = []; edge_obs = [] }

same_ended : {g h : Graph} → SameEnds g h → ended g ≡ ended h
same_ended s = rw (s.detectors, s.edge_u, s.edge_v)

ends_ended : (g : Graph) → Ends g → Ends (ended g)
ends_ended g k = record { as_many = k.as_many; small = k.small; inside = k.inside; paired = k.paired }

ended_ends : (g : Graph) → Ends (ended g) → Ends g
ended_ends g k = record { as_many = k.as_many; small = k.small; inside = k.inside; paired = k.paired }

labels_ended : (g : Graph) (sat : List Bool) (ls : List ℕ) → Labels g sat ls → Labels (ended g) sat ls
labels_ended g sat ls k = record { sizes = k.sizes; low = k.low; root = k.root; linked = k.linked }

ended_labels : (g : Graph) (sat : List Bool) (ls : List ℕ) → Labels (ended g) sat ls → Labels g sat ls
ended_labels g sat ls k = record { sizes = k.sizes; low = k.low; root = k.root; linked = k.linked }

odd_ended : (g : Graph) (lit : List Bool) (ls : List ℕ) (a : ℕ) → is_odd g lit ls a ≡ is_odd (ended g) lit ls a
unfolding is_odd
odd_ended g lit ls a = refl

active_ended : (g : Graph) (lit sat : List Bool) (ls : List ℕ) (a : ℕ) → is_active g lit sat ls a ≡ is_active (ended g) lit sat ls a
unfolding is_active
active_ended g lit sat ls a = refl

branches_ended : (g : Graph) (sat : List Bool) (v : ℕ) → branches_from g sat v ≡ branches_from (ended g) sat v
unfolding branches_from
branches_ended g sat v = refl

exits_ended : (g : Graph) (sat : List Bool) (ls : List ℕ) (a : ℕ) → exits_of g sat ls a ≡ exits_of (ended g) sat ls a
unfolding exits_of
exits_ended g sat ls a = refl

peel_ended : (g : Graph) (sat : List Bool) (ls : List ℕ) (p : Peeled) (a : ℕ) → peel g sat ls p a ≡ peel (ended g) sat ls p a
unfolding peel
peel_ended g sat ls p a = refl

clusters_ended : (g : Graph) (sat : List Bool) (ls : List ℕ) (lit : List Bool) → clusters g sat ls lit ≡ clusters (ended g) sat ls lit
unfolding clusters
clusters_ended g sat ls lit = refl

peeled_ended : (g : Graph) (sat : List Bool) (ls : List ℕ) (lit : List Bool) → peeled g sat ls lit ≡ peeled (ended g) sat ls lit
unfolding peeled
peeled_ended g sat ls lit = refl

module _ {g h : Graph} (s : SameEnds g h) where
  pub back : SameEnds h g
  back = record { detectors = sym s.detectors; edge_u = sym s.edge_u; edge_v = sym s.edge_v }

  pub same_ends_lem : Ends g → Ends h
  same_ends_lem k = ended_ends h (rw (same_ended s) at (ends_ended g k))

  pub same_labels : (sat : List Bool) (ls : List ℕ) → Labels g sat ls → Labels h sat ls
  same_labels sat ls k = ended_labels h sat ls (rw (same_ended s) at (labels_ended g sat ls k))

  pub same_odd : (lit : List Bool) (ls : List ℕ) (a : ℕ) → is_odd g lit ls a ≡ is_odd h lit ls a
  same_odd lit ls a = odd_ended g lit ls a ∙ ap (λ (k : Graph). is_odd k lit ls a) (same_ended s) ∙ sym (odd_ended h lit ls a)

  pub same_active : (lit sat : List Bool) (ls : List ℕ) (a : ℕ) → is_active g lit sat ls a ≡ is_active h lit sat ls a
  same_active lit sat ls a = active_ended g lit sat ls a ∙ ap (λ (k : Graph). is_active k lit sat ls a) (same_ended s) ∙ sym (active_ended h lit sat ls a)

  pub same_branches : (sat : List Bool) (v : ℕ) → branches_from g sat v ≡ branches_from h sat v
  same_branches sat v = branches_ended g sat v ∙ ap (λ (k : Graph). branches_from k sat v) (same_ended s) ∙ sym (branches_ended h sat v)

  pub same_exits : (sat : List Bool) (ls : List ℕ) (a : ℕ) → exits_of g sat ls a ≡ exits_of h sat ls a
  same_exits sat ls a = exits_ended g sat ls a ∙ ap (λ (k : Graph). exits_of k sat ls a) (same_ended s) ∙ sym (exits_ended h sat ls a)

  pub same_peel : (sat : List Bool) (ls : List ℕ) (p : Peeled) (a : ℕ) → peel g sat ls p a ≡ peel h sat ls p a
  same_peel sat ls p a = peel_ended g sat ls p a ∙ ap (λ (k : Graph). peel k sat ls p a) (same_ended s) ∙ sym (peel_ended h sat ls p a)

  pub same_clusters : (sat : List Bool) (ls : List ℕ) (lit : List Bool) → clusters g sat ls lit ≡ clusters h sat ls lit
  same_clusters sat ls lit = clusters_ended g sat ls lit ∙ ap (λ (k : Graph). clusters k sat ls lit) (same_ended s) ∙ sym (clusters_ended h sat ls lit)

  pub same_peeled : (sat : List Bool) (ls : List ℕ) (lit : List Bool) → peeled g sat ls lit ≡ peeled h sat ls lit
  same_peeled sat ls lit = peeled_ended g sat ls lit ∙ ap (λ (k : Graph). peeled k sat ls lit) (same_ended s) ∙ sym (peeled_ended h sat ls lit)

-- ---- the ends and the weights

-- g with no observables
abbrev bare : Graph → Graph
bare g = record { detectors = g.detectors; observables = 0; edge_u = g.edge_u; edge_v = g.edge_v; edge_weight = g.edge_weight; edge_obs = [] }

same_bare : {g h : Graph} → SameWeights g h → bare g ≡ bare h
same_bare s = rw (s.ends.detectors, s.ends.edge_u, s.ends.edge_v, s.edge_weight)

stuck_bare : (g : Graph) (lit : List Bool) (s : State) (l : List ℕ) → first_stuck g lit s l ≡ first_stuck (bare g) lit s l
unfolding first_stuck
stuck_bare g lit s l = refl

next_bare : (g : Graph) (lit : List Bool) (s : State) → next g lit s ≡ next (bare g) lit s
unfolding next
next_bare g lit s = refl

after_bare : (g : Graph) (lit : List Bool) (n : ℕ) → after g lit n ≡ after (bare g) lit n
unfolding after
after_bare g lit n = refl

turn_bare : (g : Graph) (lit : List Bool) (s : State) → turn g lit s ≡ turn (bare g) lit s
unfolding turn
turn_bare g lit s = refl

growth_bare : (g : Graph) (lit : List Bool) → growth g lit ≡ growth (bare g) lit
unfolding growth
growth_bare g lit = refl

answer_bare : (g : Graph) (lit : List Bool) (r : Growth) → answer g lit r ≡ answer (bare g) lit r
unfolding answer
answer_bare g lit (stuck n d) = refl
answer_bare g lit (settled n s) = refl
answer_bare g lit short = refl

decode_bare : (g : Graph) (lit : List Bool) → decode g lit ≡ decode (bare g) lit
unfolding decode
decode_bare g lit = ap (answer g lit) (growth_bare g lit) ∙ answer_bare g lit (growth (bare g) lit)

module _ {g h : Graph} (s : SameWeights g h) (lit : List Bool) where
  pub same_stuck : (t : State) (l : List ℕ) → first_stuck g lit t l ≡ first_stuck h lit t l
  same_stuck t l = stuck_bare g lit t l ∙ ap (λ (k : Graph). first_stuck k lit t l) (same_bare s) ∙ sym (stuck_bare h lit t l)

  pub same_next : (t : State) → next g lit t ≡ next h lit t
  same_next t = next_bare g lit t ∙ ap (λ (k : Graph). next k lit t) (same_bare s) ∙ sym (next_bare h lit t)

  pub same_after : (n : ℕ) → after g lit n ≡ after h lit n
  same_after n = after_bare g lit n ∙ ap (λ (k : Graph). after k lit n) (same_bare s) ∙ sym (after_bare h lit n)

  pub same_turn : (t : State) → turn g lit t ≡ turn h lit t
  same_turn t = turn_bare g lit t ∙ ap (λ (k : Graph). turn k lit t) (same_bare s) ∙ sym (turn_bare h lit t)

  pub same_growth : growth g lit ≡ growth h lit
  same_growth = growth_bare g lit ∙ ap (λ (k : Graph). growth k lit) (same_bare s) ∙ sym (growth_bare h lit)

  -- the answer: only the row depends on the observables
  pub same_decode : decode g lit ≡ decode h lit
  same_decode = decode_bare g lit ∙ ap (λ (k : Graph). decode k lit) (same_bare s) ∙ sym (decode_bare h lit)
