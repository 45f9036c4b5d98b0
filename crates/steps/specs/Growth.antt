-- Growth by rounds: docs/RULES.md, "Growth". A cluster is named by its lowest detector.
use Rattle.std.specs.Prelude.{Option, None, Some, Bool, ◌&&◌, ◌||◌, length, pos, Float}
use Prim.Native.Nat.{ℕ, zero, suc, ◌+◌, min, max}
use mathlib.Core.List.{List, [], ◌∷◌, map}
use Rattle.std.proofs.Math.Bool.{false, cond, not}
use Rattle.std.proofs.Math.ListN.{get_or}
use Rattle.std.proofs.Math.Dec.{eqb}
use Rattle.std.specs.Float.Ieee as Ieee
use Rattle.std.specs.Float.{nan}
use Rattle.std.specs.Float.Ieee.{inf, fin, binary64}
use Rattle.lists.specs.Lists.{below, filter, any, odd, member, firsts}
use Rattle.steps.specs.Graph.{Graph, inner, outer, edges, is_pair}

-- growth between two rounds
pub record State : Type 0 where
  -- of each edge
  pub growth : List Float
  pub saturated : List Bool
  -- of each detector: the lowest detector of its cluster
  pub label : List ℕ
  -- the active clusters, in order
  pub active : List ℕ

-- the tolerance 1e-9
unfoldable pub tolerance : Float
unfolding Ieee.of_bits
tolerance = Ieee.of_bits binary64 0x3e112e0be826d695

-- edge e and the increment that it gives
pub record Least : Type 0 where
  pub edge : ℕ
  pub step : Float

abbrev pub one : Bool → ℕ
one b = cond b 1 0

-- ---- clusters: ls has each detector's label

module _ (g : Graph) (lit : List Bool) where
  -- an odd number of the cluster's detectors is lit
  unfoldable pub is_odd : List ℕ → ℕ → Bool
  unfolding odd below
  is_odd ls a = odd (λ d. get_or lit d false && eqb (get_or ls d d) a) (below g.detectors)

  -- a saturated boundary edge of the cluster a
  abbrev pub exits : List Bool → List ℕ → ℕ → ℕ → Bool
  exits sat ls a e = get_or sat e false && (not (is_pair g e) && eqb (get_or ls (inner g e) (inner g e)) a)

  unfoldable pub is_active : List Bool → List ℕ → ℕ → Bool
  unfolding is_odd any below
  is_active sat ls a = is_odd ls a && not (any (exits sat ls a) (edges g))

  -- the clusters of the two ends of e become one, named by the lower
  unfoldable pub merge : List ℕ → ℕ → List ℕ
  merge ls e =
      let a = get_or ls (inner g e) (inner g e) in
      let b = get_or ls (outer g e) (outer g e) in
      cond (is_pair g e) (map (λ x. cond (eqb x (max a b)) (min a b) x) ls) ls

  unfoldable pub merge_all : List ℕ → List ℕ → List ℕ
  unfolding merge
  merge_all ls [] = ls
  merge_all ls (e ∷ es) = merge_all (merge ls e) es

  -- ---- a round

  abbrev pub label_of : State → ℕ → ℕ
  label_of s d = get_or s.label d d

  abbrev pub is_open : State → ℕ → Bool
  is_open s e = not (get_or s.saturated e false)

  -- step 1: one for each end of the unsaturated edge e in an active cluster
  unfoldable pub count : State → ℕ → ℕ
  unfolding member
  count s e =
      cond (is_open s e)
      (one (member (label_of s (inner g e)) s.active) + one (is_pair g e && member (label_of s (outer g e)) s.active))
      0

  abbrev pub is_counted : State → ℕ → Bool
  is_counted s e = not (eqb (count s e) 0)

  -- e is an unsaturated edge of the cluster a
  abbrev pub leaves : State → ℕ → ℕ → Bool
  leaves s a e = is_open s e && (eqb (label_of s (inner g e)) a || (is_pair g e && eqb (label_of s (outer g e)) a))

  -- the first of the clusters with no unsaturated edge
  unfoldable pub first_stuck : State → List ℕ → Option ℕ
  unfolding any below
  first_stuck s [] = None
  first_stuck s (a ∷ l) = cond (any (leaves s a) (edges g)) (first_stuck s l) (Some a)

  -- step 2: the increment that e gives
  unfoldable pub step_of : State → ℕ → Float
  unfolding count
  step_of s e =
      Ieee.div binary64
      (Ieee.sub binary64 (get_or g.edge_weight e nan) (get_or s.growth e nan))
      (Ieee.of_int binary64 (pos (count s e)))

  -- the lowest-numbered edge that gives the least
  unfoldable pub least : State → Least → List ℕ → Least
  unfolding step_of
  least s b [] = b
  least s b (e ∷ es) = least s (cond (Ieee.lt (step_of s e) b.step) (record { edge = e; step = step_of s e }) b) es

  unfoldable pub least_of : State → List ℕ → Least
  unfolding least
  least_of s es = least s (record { edge = get_or es 0 0; step = inf false }) es

  unfoldable pub grown : State → Float → ℕ → Float
  unfolding count
  grown s inc e =
      cond (is_counted s e)
      (Ieee.add binary64 (get_or s.growth e nan) (Ieee.mul binary64 (Ieee.of_int binary64 (pos (count s e))) inc))
      (get_or s.growth e nan)

  -- what saturates: the edge of the least, and each that reaches its weight
  unfoldable pub saturates : State → Least → ℕ → Bool
  unfolding grown tolerance count
  saturates s b e =
      is_counted s e
      && (eqb e b.edge || Ieee.le (get_or g.edge_weight e nan) (Ieee.add binary64 (grown s b.step e) tolerance))

  -- step 3, and the order of the clusters that are active after it
  unfoldable pub next : State → State
  unfolding least_of grown saturates count merge_all is_active firsts filter below
  next s =
      let b = least_of s (filter (is_counted s) (edges g)) in
      let sat = map (λ e. get_or s.saturated e false || saturates s b e) (edges g) in
      let ls = merge_all s.label (filter (saturates s b) (edges g)) in
      record {
        growth = map (grown s b.step) (edges g);
        saturated = sat;
        label = ls;
        active = filter (is_active sat ls) (firsts (map (λ a. get_or ls a a) s.active));
      }

  -- before the first round: each lit detector is a cluster
  unfoldable pub start : State
  unfolding below filter
  start = record {
    growth = map (λ e. fin false 0 (pos 0)) (edges g);
    saturated = map (λ e. false) (edges g);
    label = below g.detectors;
    active = filter (λ d. get_or lit d false) (below g.detectors);
  }

  -- after so many rounds
  unfoldable pub after : ℕ → State
  unfolding start next
  after zero = start
  after (suc n) = next (after n)

-- what growth comes to between two rounds
pub data Turn : Type 0 where
  -- no cluster is active
  ended : Turn
  -- the first active cluster with no unsaturated edge
  held : ℕ → Turn
  -- one more round
  onward : Turn

unfoldable pub turn_of : List ℕ → Option ℕ → Turn
turn_of [] o = ended
turn_of (a ∷ l) (Some d) = held d
turn_of (a ∷ l) None = onward

pub data Growth : Type 0 where
  -- the rounds finished, and the detector named
  stuck : ℕ → ℕ → Growth
  -- the rounds finished, and the state after them
  settled : ℕ → State → Growth
  -- the rounds allowed were not enough; `Found` shows that this is never the answer
  short : Growth

module _ (g : Graph) (lit : List Bool) where
  unfoldable pub turn : State → Turn
  unfolding turn_of first_stuck
  turn s = turn_of s.active (first_stuck g lit s s.active)

  -- n rounds are finished; fuel bounds those to come
  unfoldable pub grow : ℕ → ℕ → State → Turn → Growth
  unfolding next turn
  grow zero n s t = short
  grow (suc fuel) n s ended = settled n s
  grow (suc fuel) n s (held d) = stuck n d
  grow (suc fuel) n s onward = grow fuel (suc n) (next g lit s) (turn (next g lit s))

  unfoldable pub growth : Growth
  unfolding grow start turn
  growth = grow (suc (length g.edge_u)) 0 (start g lit) (turn (start g lit))
