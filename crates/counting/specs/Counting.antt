-- What the passes ask and leave that list the live detectors, count their edges and look for a stuck cluster.
use Rattle.std.specs.Prelude.{ℕ, ◌+◌, ◌<◌, ◌≤◌, ◌≡◌, List, [], ◌∷◌, ◌++◌, map, Bool, true, false, cond, not, ◌&&◌, ◌||◌, eqb, ltb, length, get_or, take, set}
use Rattle.lists.specs.Lists.{filter, any, member}
use Rattle.steps.specs.Graph.{Ends}
use Rattle.steps.specs.Growth.{one}
use Rattle.forest.specs.Forest.{Down, Flat, labels}
use Rattle.adjacency.specs.Adjacent.{weighted, Adjacent, star, beyond}

-- ---- front

-- the cluster of x is hot
abbrev pub warm : ℕ → List ℕ → List Bool → ℕ → Bool
warm d parent hot x = get_or hot (get_or (labels d parent) x 0) false

-- n detectors seen, of a forest
pub record Fronting (d : ℕ) (seen : List ℕ) (n : ℕ) (parent : List ℕ) (hot : List Bool) (front : List ℕ) : Type 0 where
  pub down : Down d parent
  pub small : d < 4294967296
  pub seens : n ≤ length seen
  pub inside : (i : ℕ) → i < n → get_or seen i 0 < d
  pub hots : length hot ≡ d
  pub fronts : n ≤ length front

-- the m detectors seen whose cluster is hot are listed; each that is seen points at its root, and so does each that did; the labels are kept
pub record Fronted (d : ℕ) (seen : List ℕ) (n : ℕ) (parent : List ℕ) (hot : List Bool) (parent' front' : List ℕ) (m : ℕ) : Type 0 where
  pub down : Down d parent'
  pub kept : labels d parent' ≡ labels d parent
  pub flat : (x : ℕ) → x < d → member x (take n seen) ≡ true → Flat d parent' x
  pub still : (x : ℕ) → x < d → Flat d parent x → Flat d parent' x
  pub few : m ≤ n
  pub front_is : take m front' ≡ filter (warm d parent hot) (take n seen)

-- ---- counted edges

-- edge e is not saturated
abbrev pub is_free : List Bool → ℕ → Bool
is_free sat e = not (get_or sat e false)

module _ (d : ℕ) (us vs parent : List ℕ) (sat hot : List Bool) where
  -- the end of e that is not x is live: a detector that points at a hot root
  abbrev pub far_live : ℕ → ℕ → Bool
  far_live x e = not (eqb (beyond us vs d x e) d) && get_or hot (get_or parent (beyond us vs d x e) 0) false

  -- the open edge e is listed at its end x; one with two live ends is so at the lower alone
  abbrev pub takes : ℕ → ℕ → Bool
  takes x e = is_free sat e && (not (far_live x e) || ltb x (beyond us vs d x e))

  -- what is listed at x, and the live ends of each: x itself, and the other end where it is live
  abbrev pub taken_at : ℕ → List ℕ
  taken_at x = filter (takes x) (star us vs x)

  abbrev pub counts_at : ℕ → List ℕ
  counts_at x = map (λ e. 1 + one (far_live x e)) (taken_at x)

  -- and at each of a list of live detectors
  unfoldable pub taken_in : List ℕ → List ℕ
  taken_in [] = []
  taken_in (x ∷ xs) = taken_at x ++ taken_in xs

  unfoldable pub counts_in : List ℕ → List ℕ
  counts_in [] = []
  counts_in (x ∷ xs) = counts_at x ++ counts_in xs

-- the adjacency and the tables of detectors and edges; each detector points at one
pub record Tabled (d : ℕ) (us vs off adj far parent : List ℕ) (sat hot free : List Bool) : Type 0 where
  pub ends : Ends (weighted d us vs [])
  pub adjacent : Adjacent d us vs off adj far
  pub long : d ≤ length parent
  pub points : (x : ℕ) → x < d → get_or parent x 0 < d
  pub sats : length sat ≡ length us
  pub hots : length hot ≡ d
  pub frees : length free ≡ d

-- the cluster that x points at is free too where x has an open edge
abbrev pub freed_at : List ℕ → List ℕ → List ℕ → List Bool → List Bool → ℕ → List Bool
freed_at us vs parent sat free x = cond (any (is_free sat) (star us vs x)) (set free (get_or parent x 0) true) free

-- the edges of x are listed from `from` on, beside each its count, and r is the place past them
pub record CountedAt (d : ℕ) (us vs parent : List ℕ) (sat hot free : List Bool) (x : ℕ) (touched cnt : List ℕ) (from : ℕ) (free' : List Bool) (touched' cnt' : List ℕ) (r : ℕ) : Type 0 where
  pub past : r ≡ from + length (taken_at d us vs parent sat hot x)
  pub lists : take r touched' ≡ take from touched ++ taken_at d us vs parent sat hot x
  pub counts : take r cnt' ≡ take from cnt ++ counts_at d us vs parent sat hot x
  pub frees : free' ≡ freed_at us vs parent sat free x

-- m detectors of the front, and a place more than their edges take: each edge is written before it is known whether it is listed
pub record Counting (d : ℕ) (us vs front : List ℕ) (m : ℕ) (off adj far parent : List ℕ) (sat hot free : List Bool) (touched cnt : List ℕ) : Type 0 where
  pub tables : Tabled d us vs off adj far parent sat hot free
  pub fronts : m ≤ length front
  pub inside : (i : ℕ) → i < m → get_or front i 0 < d
  pub touches : length (taken_in d us vs parent sat hot (take m front)) < length touched
  pub cnts : length (taken_in d us vs parent sat hot (take m front)) < length cnt

-- the edges of the front are listed, beside each its count, and the cluster of each of its detectors that has an open one is free
pub record Counted (d : ℕ) (us vs front : List ℕ) (m : ℕ) (parent : List ℕ) (sat hot free free' : List Bool) (touched' cnt' : List ℕ) (r : ℕ) : Type 0 where
  pub many : r ≡ length (taken_in d us vs parent sat hot (take m front))
  pub lists : take r touched' ≡ taken_in d us vs parent sat hot (take m front)
  pub counts : take r cnt' ≡ counts_in d us vs parent sat hot (take m front)
  pub frees : (r : ℕ) → r < d → get_or free' r false ≡ (get_or free r false || any (λ x. eqb (get_or parent x 0) r && any (is_free sat) (star us vs x)) (take m front))
