-- The turns of the passes. Assumes nothing.
use Prim.Native.Nat.{ℕ, ◌+◌, ◌-◌, ◌<◌, ◌≤◌}
use native.Mathlib.Nat.{add-zero, add_assoc}
use native.Mathlib.Numerals.{add-one}
use native.Mathlib.Omega.{arith}
use mathlib.Core.Path.{◌≡◌, refl, sym, ap, ◌∙◌}
use mathlib.Core.List.{List, [], ◌∷◌, ◌++◌, map, append-nil, append_assoc}
use mathlib.Core.Bool.{Bool, true, false, cond, not, ◌&&◌, ◌||◌, or-false, or_assoc, and-false}
use mathlib.Core.Logic.{◌⊎◌, inl, inr, ⊎_elim}
use lib.Dec.{eqb, ltb}
use lib.ListN.{length, get_or, set, take, drop, length-set, length-append, length-drop, get_or-map}
use lib.Seq.{take-set-le, get_or-take, get_or-drop, length-take-le, slice}
use mir.Val.{bool_byte}
use Rattle.columns.proofs.Columns.{map_set, column_length, keep_more, keep_then}
use Rattle.cells.specs.declared.Link.{Link}
use Rattle.cells.specs.Tables.{touched, cnt, SameLinks}
use Rattle.cells.proofs.Stores.{kept_touched, kept_count}
use Rattle.adjacency.specs.Adjacent.{star, beyond}
use Rattle.adjacency.specs.declared.Neighbor.{Neighbor}
use Rattle.adjacency.specs.Pairs.{near, away, neighbor_column}
use Rattle.adjacency.proofs.Stars.{adj_inside, adj_ends, adj_rising}
use Rattle.steps.specs.Graph.{boundary}
use Rattle.steps.specs.Growth.{one}
use Rattle.counting.specs.Counting.{is_free, far_live, takes, taken_at, counts_at, Tabled, CountedAt, taken_in, counts_in, Counted}
use borrow.Author.Tests.{eqb-false}
use Rattle.lists.specs.Lists.{filter, any}
use Rattle.lists.proofs.Truth.{case-of, eqb_comm, or_intro}
use Rattle.lists.proofs.Ranges.{filter_append}
use Rattle.lists.proofs.Slices.{slice_map}
use Rattle.growth_state.proofs.Laws.{filter_one, filter_none, take_next, put_next, slice_next, set_bool, byte_one, listed}

-- ---- front

module _ (seen : List ℕ) (i : ℕ) (hi : i < length seen) (w : ℕ → Bool) (m : ℕ) (front : List ℕ) (inv : take m front ≡ filter w (take i seen)) where
  pub front_hot : m < length front → w (get_or seen i 0) ≡ true → take (m + 1) (set front m (get_or seen i 0)) ≡ filter w (take (i + 1) seen)
  front_hot hm t =
      put_next front m (get_or seen i 0) hm
      ∙ rw (inv, take_next seen i 0 hi, filter_append w (take i seen) (get_or seen i 0 ∷ []), filter_one w (get_or seen i 0) t)

  -- what is written is not kept
  pub front_cold : w (get_or seen i 0) ≡ false → take m (set front m (get_or seen i 0)) ≡ filter w (take (i + 1) seen)
  front_cold t =
      take-set-le m front m (get_or seen i 0) (omega arith) ∙ inv
      ∙ sym (rw (take_next seen i 0 hi, filter_append w (take i seen) (get_or seen i 0 ∷ []), filter_none w (get_or seen i 0) t) (append-nil (filter w (take i seen))))

  pub front_turn : m < length front → (b : Bool) → b ≡ w (get_or seen i 0) → take (m + bool_byte b) (set front m (get_or seen i 0)) ≡ filter w (take (i + 1) seen)
  front_turn hm true q = front_hot hm (sym q)
  front_turn hm false q = rw add-zero (front_cold (sym q))

-- ---- counting at a detector

one_more : (at e : ℕ) (rest : List ℕ) (b : Bool) → at + bool_byte b + length rest ≡ at + length (cond b (e ∷ rest) rest)
one_more at e rest true = omega arith
one_more at e rest false = omega arith

module _ (d : ℕ) (us vs parent : List ℕ) (sat hot : List Bool) (x : ℕ) where
  -- the live ends of e, of which x is one
  abbrev live_ends : ℕ → ℕ
  live_ends e = 1 + one (far_live d us vs parent sat hot x e)

  -- what is listed before `at`, and what is to be listed of the edges es, is the answer
  pub record Listing (touched₀ cnt₀ : List ℕ) (from : ℕ) (touched cnt : List ℕ) (at : ℕ) (found : Bool) (es : List ℕ) : Type 0 where
    pub long : length touched ≡ length touched₀
    pub longs : length cnt ≡ length cnt₀
    pub past : at + length (filter (takes d us vs parent sat hot x) es) ≡ from + length (taken_at d us vs parent sat hot x)
    pub lists : take at touched ++ filter (takes d us vs parent sat hot x) es ≡ take from touched₀ ++ taken_at d us vs parent sat hot x
    pub counts : take at cnt ++ map live_ends (filter (takes d us vs parent sat hot x) es) ≡ take from cnt₀ ++ counts_at d us vs parent sat hot x
    pub finds : (found || any (is_free sat) es) ≡ any (is_free sat) (star us vs x)

module _ {d : ℕ} {us vs parent : List ℕ} {sat hot : List Bool} {x : ℕ} {touched₀ cnt₀ : List ℕ} {from : ℕ} {touched cnt : List ℕ} {at : ℕ} {found : Bool} where
  -- y is the other end of e, and q the detector that is read for it
  listing_turn : {e : ℕ} {es : List ℕ} → Listing d us vs parent sat hot x touched₀ cnt₀ from touched cnt at found (e ∷ es) → at < length touched → at < length cnt
      → {y q : ℕ} → y ≡ beyond us vs d x e → q ≡ cond (eqb y d) x y
      → Listing d us vs parent sat hot x touched₀ cnt₀ from (set touched at e)
      (set cnt at (1 + bool_byte (not (eqb y d) && get_or hot (get_or parent q 0) false)))
      (at + bool_byte (is_free sat e && (not (not (eqb y d) && get_or hot (get_or parent q 0) false) || ltb x y)))
      (found || is_free sat e) es
  unfolding filter any
  listing_turn {e} {es} l ht hc {y} {q} is near =
      let ends = live_ends d us vs parent sat hot x in
      let b = takes d us vs parent sat hot x e in
      let rest = filter (takes d us vs parent sat hot x) es in
      rw (live, byte_one (far_live d us vs parent sat hot x e), is) (record {
        long = simp length-set l.long;
        longs = simp length-set l.longs;
        past = one_more at e rest b ∙ l.past;
        lists = listed (λ r. r) e e rest refl touched at ht b ∙ l.lists;
        counts = listed (map ends) e (ends e) rest refl cnt at hc b ∙ l.counts;
        finds = or_assoc found (is_free sat e) (any (is_free sat) es) ∙ l.finds;
      })
    where
      live : (not (eqb y d) && get_or hot (get_or parent q 0) false) ≡ far_live d us vs parent sat hot x e
      live = rw (near, ← is) (case-of (eqb y d) (λ t. rw t) (λ f. rw f))

  -- an open edge
  pub listing_open : {e : ℕ} {es : List ℕ} → Listing d us vs parent sat hot x touched₀ cnt₀ from touched cnt at found (e ∷ es) → at < length touched → at < length cnt
      → {y q : ℕ} → y ≡ beyond us vs d x e → q ≡ cond (eqb y d) x y → get_or sat e false ≡ false
      → Listing d us vs parent sat hot x touched₀ cnt₀ from (set touched at e)
      (set cnt at (1 + bool_byte (not (eqb y d) && get_or hot (get_or parent q 0) false)))
      (at + bool_byte (not (not (eqb y d) && get_or hot (get_or parent q 0) false) || ltb x y))
      true es
  listing_open l ht hc is near s = rw (s, or_intro found true refl) at (listing_turn l ht hc is near)

  -- a saturated one
  pub listing_skip : {e : ℕ} {es : List ℕ} → Listing d us vs parent sat hot x touched₀ cnt₀ from touched cnt at found (e ∷ es) → get_or sat e false ≡ true
      → Listing d us vs parent sat hot x touched₀ cnt₀ from touched cnt at found es
  unfolding filter any
  listing_skip l s = record { long = l.long; longs = l.longs; past = rw s at l.past; lists = rw s at l.lists; counts = rw s at l.counts; finds = rw s at l.finds }

  pub counted : Listing d us vs parent sat hot x touched₀ cnt₀ from touched cnt at found [] → {free free' : List Bool} → free' ≡ cond found (set free (get_or parent x 0) true) free
      → CountedAt d us vs parent sat hot free x touched₀ cnt₀ from free' touched cnt at
  unfolding filter any
  counted l {free} {free'} q = record {
    past = omega (arith, l.past);
    lists = sym (append-nil (take at touched)) ∙ l.lists;
    counts = sym (append-nil (take at cnt)) ∙ l.counts;
    frees = q ∙ ap (λ b. cond b (set free (get_or parent x 0) true) free) (sym (or-false found) ∙ l.finds);
  }

-- the edge at place k, and its other end
module _ {d : ℕ} {us vs off adj far parent : List ℕ} {sat hot free : List Bool} (t : Tabled d us vs off adj far parent sat hot free)
    {x : ℕ} (hx : x < d) {k : ℕ} (lo : get_or off x 0 ≤ k) (hi : k < get_or off (x + 1) 0) where
  pub edge_in : get_or adj k 0 < length us
  edge_in = adj_inside t.adjacent x hx k lo hi

  pub far_is : get_or far k 0 ≡ beyond us vs d x (get_or adj k 0)
  far_is = slice_map (beyond us vs d x) (get_or off x 0) (get_or off (x + 1) 0) k adj far
      (rw add-one (t.adjacent.others x hx ∙ sym (ap (map (beyond us vs d x)) (t.adjacent.edges x hx)))) lo hi (adj_ends t.adjacent x hx)

  -- a detector or the boundary
  far_in : (get_or far k 0 < d) ⊎ (get_or far k 0 ≡ d)
  far_in =
      let e = get_or adj k 0 in
      let ok = t.ends in
      rw far_is (case-of (eqb (get_or us e boundary) x)
      (λ q. case-of (eqb (get_or vs e boundary) boundary) (λ r. inr (rw (q, r))) (λ r. inl (rw (q, r) (ok.paired e edge_in (rw r)).1)))
      (λ q. inl (rw q (ok.inside e edge_in))))

  pub far_le : get_or far k 0 ≤ d
  far_le = ⊎_elim (λ h. omega arith) (λ q. omega arith) far_in

  -- the detector that is read for it
  pub near_in : {q : ℕ} → q ≡ cond (eqb (get_or far k 0) d) x (get_or far k 0) → q < d
  near_in near = rw near (case-of (eqb (get_or far k 0) d)
      (λ q. rw q hx)
      (λ q. rw q (⊎_elim (λ h. h) (λ r. absurd (eqb-false (get_or far k 0) d q r)) far_in)))

-- the rows of the edges at x, of which a loop is at the i-th
module _ {d : ℕ} {us vs off : List ℕ} (adj : List Neighbor) {parent : List ℕ} {sat hot free : List Bool} (t : Tabled d us vs off (near adj) (away adj) parent sat hot free) {x : ℕ} (hx : x < d) where
  abbrev first : ℕ
  first = get_or off x 0

  abbrev last : ℕ
  last = get_or off (x + 1) 0

  abbrev rows : List Neighbor
  rows = take (last - first) (drop first adj)

  abbrev empty : Neighbor
  empty = record { edge = 0; other = 0 }

  many : length rows ≡ last - first
  many = length-take-le (last - first) (drop first adj) (omega (arith, length-drop first adj, adj_ends t.adjacent x hx, column_length neighbor_column 0 adj))

  pub past_last : {i : ℕ} → i ≤ length rows → length rows ≤ i → first + i ≡ last
  past_last k l = omega (arith, many, adj_rising t.adjacent x hx)

  module _ {i : ℕ} (h : i < length rows) where
    abbrev row : Neighbor
    row = get_or rows i empty

    inside : first + i < last
    inside = omega (arith, many)

    row_is : row ≡ get_or adj (first + i) empty
    row_is = get_or-take (last - first) (drop first adj) i empty (omega (arith, many)) ∙ get_or-drop first adj i empty

    edge_is : get_or (near adj) (first + i) 0 ≡ row.edge
    edge_is = get_or-map (λ r. r.edge) adj (first + i) empty ∙ ap (λ (r : Neighbor). r.edge) (sym row_is)

    other_is : get_or (away adj) (first + i) 0 ≡ row.other
    other_is = get_or-map (λ r. r.other) adj (first + i) empty ∙ ap (λ (r : Neighbor). r.other) (sym row_is)

    pub edge_next : slice (first + i) last (near adj) ≡ row.edge ∷ slice (first + (i + 1)) last (near adj)
    edge_next = rw (← edge_is, ← add_assoc first i 1) (slice_next (first + i) last (near adj) inside (adj_ends t.adjacent x hx))

    pub edge_below : row.edge < length us
    edge_below = rw edge_is at (edge_in t hx (omega arith) inside)

    pub other_far : row.other ≡ beyond us vs d x row.edge
    other_far = rw (edge_is, other_is) at (far_is t hx (omega arith) inside)

    pub other_near : {q : ℕ} → q ≡ cond (eqb row.other d) x row.other → q < d
    other_near n = near_in t hx (omega arith) inside (rw other_is n)

-- ---- the edge e and its count v stored at a place

module _ (links : List Link) (at e v : ℕ) where
  abbrev blank : Link
  blank = record { touched = 0; count = 0; fresh = 0; unused = 0 }

  abbrev half : List Link
  half = set links at (record (get_or links at blank) { touched = e })

  abbrev stored : List Link
  stored = set half at (record (get_or half at blank) { count = v })

  pub stored_edge : touched stored ≡ set (touched links) at e
  stored_edge = (kept_count half at v blank).rest 0 refl ∙ map_set (λ r. r.touched) links at (record (get_or links at blank) { touched = e })

  pub stored_count : cnt stored ≡ set (cnt links) at v
  stored_count = map_set (λ r. r.count) half at (record (get_or half at blank) { count = v }) ∙ ap (λ (l : List ℕ). set l at v) ((kept_touched links at e blank).rest 1 refl)

  pub stored_rest : SameLinks (0 ∷ 1 ∷ []) links stored
  stored_rest = keep_then (keep_more (0 ∷ 1 ∷ []) refl (kept_touched links at e blank)) (keep_more (0 ∷ 1 ∷ []) refl (kept_count half at v blank))

-- ---- counting in the front

free_or : (q f : Bool) → cond q true f ≡ (f || (q && true))
free_or true true = refl
free_or true false = refl
free_or false f = sym (or-false f)

-- the cluster p is free too, if b
freed_at_lem : (free : List Bool) (p : ℕ) → p < length free → (b : Bool) (r : ℕ) → get_or (cond b (set free p true) free) r false ≡ (get_or free r false || (eqb p r && b))
freed_at_lem free p h true r = set_bool free p true r h ∙ rw (eqb_comm r p) (free_or (eqb p r) (get_or free r false))
freed_at_lem free p h false r = rw (and-false (eqb p r), or-false (get_or free r false))

module _ (d : ℕ) (us vs parent : List ℕ) (sat hot : List Bool) where
  -- x points at r and has an open edge
  abbrev frees : ℕ → ℕ → Bool
  frees r x = eqb (get_or parent x 0) r && any (is_free sat) (star us vs x)

  -- what is listed before `at`, and what is to be listed at the detectors xs, is the answer for the detectors ys
  pub record Gathering (ys : List ℕ) (free₀ : List Bool) (touched₀ cnt₀ : List ℕ) (free : List Bool) (touched cnt : List ℕ) (at : ℕ) (xs : List ℕ) : Type 0 where
    pub same : length free ≡ length free₀
    pub long : length touched ≡ length touched₀
    pub longs : length cnt ≡ length cnt₀
    pub past : at + length (taken_in d us vs parent sat hot xs) ≡ length (taken_in d us vs parent sat hot ys)
    pub lists : take at touched ++ taken_in d us vs parent sat hot xs ≡ taken_in d us vs parent sat hot ys
    pub counts : take at cnt ++ counts_in d us vs parent sat hot xs ≡ counts_in d us vs parent sat hot ys
    pub freed : (r : ℕ) → (get_or free r false || any (frees r) xs) ≡ (get_or free₀ r false || any (frees r) ys)

module _ {d : ℕ} {us vs parent : List ℕ} {sat hot : List Bool} {ys : List ℕ} {free₀ : List Bool} {touched₀ cnt₀ : List ℕ} {free : List Bool} {touched cnt : List ℕ} {at x : ℕ} {xs : List ℕ}
    (g : Gathering d us vs parent sat hot ys free₀ touched₀ cnt₀ free touched cnt at (x ∷ xs)) where
  pub taken_room : at + length (taken_at d us vs parent sat hot x) ≤ length (taken_in d us vs parent sat hot ys)
  unfolding taken_in
  taken_room = omega (arith, g.past, length-append (taken_at d us vs parent sat hot x) (taken_in d us vs parent sat hot xs))

  pub gathering_turn : {free' : List Bool} {touched' cnt' : List ℕ} {to : ℕ} → length free' ≡ length free → length touched' ≡ length touched → length cnt' ≡ length cnt
      → get_or parent x 0 < length free → CountedAt d us vs parent sat hot free x touched cnt at free' touched' cnt' to
      → Gathering d us vs parent sat hot ys free₀ touched₀ cnt₀ free' touched' cnt' to xs
  unfolding taken_in counts_in any
  gathering_turn lf lt lc h c =
      let es = taken_at d us vs parent sat hot x in
      let ns = counts_at d us vs parent sat hot x in
      record {
        same = lf ∙ g.same;
        long = lt ∙ g.long;
        longs = lc ∙ g.longs;
        past = omega (arith, g.past, c.past, length-append es (taken_in d us vs parent sat hot xs));
        lists = rw c.lists (append_assoc (take at touched) es (taken_in d us vs parent sat hot xs) ∙ g.lists);
        counts = rw c.counts (append_assoc (take at cnt) ns (counts_in d us vs parent sat hot xs) ∙ g.counts);
        freed = λ r. rw (c.frees, freed_at_lem free (get_or parent x 0) h (any (is_free sat) (star us vs x)) r)
            (or_assoc (get_or free r false) (frees d us vs parent sat hot r x) (any (frees d us vs parent sat hot r) xs) ∙ g.freed r);
      }

pub gathered : {d : ℕ} {us vs parent : List ℕ} {sat hot : List Bool} {front : List ℕ} {m : ℕ} {free₀ : List Bool} {touched₀ cnt₀ : List ℕ} {free : List Bool} {touched cnt : List ℕ} {at : ℕ}
    → Gathering d us vs parent sat hot (take m front) free₀ touched₀ cnt₀ free touched cnt at [] → Counted d us vs front m parent sat hot free₀ free touched cnt at
unfolding taken_in counts_in any
gathered {free} {touched} {cnt} {at} g = record {
  many = omega (arith, g.past);
  lists = sym (append-nil (take at touched)) ∙ g.lists;
  counts = sym (append-nil (take at cnt)) ∙ g.counts;
  frees = λ r h. sym (or-false (get_or free r false)) ∙ g.freed r;
}
