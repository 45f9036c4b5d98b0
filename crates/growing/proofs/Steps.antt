-- Step 2 of a round, over the counted edges in any order. Assumes nothing.
use Prim.Native.Nat.{ℕ, ◌<◌}
use native.Mathlib.Omega.{arith}
use mathlib.Core.Path.{◌≡◌, refl, sym, ap, ◌∙◌}
use mathlib.Core.List.{List, [], ◌∷◌, map}
use mathlib.Core.Bool.{Bool, true, false, cond, ◌&&◌, and-true, and-false}
use mathlib.Core.Logic.{⊎_elim}
use lib.Dec.{eqb}
use lib.ListN.{length, get_or, set, length-map, length-set}
use lib.Seq.{ext_get_or, get_or-set_same, get_or-set_other}
use lib.Ieee.{Float, nan, inf, binary64, sub, lt, is_nan}
use borrow.Author.Tests.{eqb-true, eqb-false}
use Rattle.lists.specs.Lists.{filter, member}
use Rattle.steps.specs.Graph.{Graph, edges}
use Rattle.steps.specs.Growth.{State, Least, count, is_counted, step_of, least_of, grown, saturates}
use Rattle.steps.specs.Laws.{counted}
use Rattle.lists.proofs.Truth.{case-of, cond_case, clash, same_eqb, or_intro, or_cases}
use Rattle.lists.proofs.Members.{member_filter, member_below, below_member, length_below, get_d_below}
use Rattle.lists.proofs.Singles.{Single}
use Rattle.found.proofs.Floats.{lt_self}
use Rattle.found.proofs.Least.{chosen}
use Rattle.growth_laws.specs.Laws.{Fit}
use Rattle.growth_laws.proofs.Signs.{FromZero, from_number}
use Rattle.growth_laws.proofs.Rooms.{Rooms, of_count, of_counted, step_from_lem, increment_from, least_gives, saturating}
use Rattle.lists.proofs.Filters.{filter_in}
use Rattle.growing.specs.Growing.{step_from, lesser_of, least_in, moved_by, grow_in, reaches_from, ripe_in}
use Rattle.growing.proofs.Floats.{share_is, none_above, lesser_both, grow_level}

module _ (g : Graph) (fit : Fit g) (lit : List Bool) (s : State) (rooms : Rooms g s) where
  abbrev weight : ℕ → Float
  weight e = get_or g.edge_weight e nan

  abbrev b : Least
  b = least_of g lit s (counted g lit s)

  abbrev is_in : ℕ → Type 0
  is_in e = member e (counted g lit s) ≡ true

  -- ---- the least step

  abbrev step : ℕ → Float
  step e = step_from (weight e) (get_or s.growth e nan) (count g lit s e)

  abbrev least_from : Float → List ℕ → Float
  least_from x es = least_in g.edge_weight s.growth x es (map (count g lit s) es)

  -- it is x or a step
  least_all : (P : Float → Type 0) (x : Float) (es : List ℕ) → P x → ((e : ℕ) → member e es ≡ true → P (step e)) → P (least_from x es)
  unfolding least_in member
  least_all P x [] p f = p
  least_all P x (e ∷ es) p f = least_all P (lesser_of x (step e)) es
      (cond_case P (lt (step e) x) (step e) x (λ t. f e (rw (same_eqb e))) (λ u. p))
      (λ c m. f c (or_intro (eqb c e) (member c es) m))

  -- and none of them is less
  least_most : (x : Float) (es : List ℕ) → is_nan x ≡ false → ((e : ℕ) → member e es ≡ true → is_nan (step e) ≡ false)
      → (lt x (least_from x es) ≡ false) × ((e : ℕ) → member e es ≡ true → lt (step e) (least_from x es) ≡ false)
  unfolding least_in member
  least_most x [] n f = (lt_self x, λ e m. clash m refl)
  least_most x (e ∷ es) n f =
      let z = lesser_of x (step e) in
      let (h, k) = least_most z es (cond_case (λ z. is_nan z ≡ false) (lt (step e) x) (step e) x (λ t. f e (rw (same_eqb e))) (λ u. n)) (λ c m. f c (or_intro (eqb c e) (member c es) m)) in
      let (i, j) = lesser_both x (step e) (least_from z es) n h in
      (i, λ c m. ⊎_elim (λ t. rw (eqb-true c e t) j) (k c) (or_cases (eqb c e) (member c es) m))

  step_is : (e : ℕ) → is_in e → step e ≡ step_of g lit s e
  unfolding step_of
  step_is e i = share_is (sub binary64 (weight e) (get_or s.growth e nan)) (count g lit s e) (of_count g fit lit s e (of_counted g fit lit s e i).0).1

  from_zero : (e : ℕ) → is_in e → FromZero (step e)
  from_zero e i = let (c, h) = of_counted g fit lit s e i in rw (step_is e i) (step_from_lem g fit lit s rooms e h c)

  -- ---- growth

  abbrev moved : Float → Float → ℕ → Float
  moved inc x e = moved_by inc x (count g lit s e)

  grow_length : (inc : Float) (gr : List Float) (es : List ℕ) → length (grow_in inc gr es (map (count g lit s) es)) ≡ length gr
  unfolding grow_in
  grow_length inc gr [] = refl
  grow_length inc gr (e ∷ es) = grow_length inc (set gr e (moved inc (get_or gr e nan) e)) es ∙ length-set gr e (moved inc (get_or gr e nan) e)

  grow_at : (inc : Float) (gr : List Float) (es : List ℕ) → Single es → (k : ℕ) → k < length gr
      → get_or (grow_in inc gr es (map (count g lit s) es)) k nan ≡ cond (member k es) (moved inc (get_or gr k nan) k) (get_or gr k nan)
  unfolding grow_in member
  grow_at inc gr [] h k l = refl
  grow_at inc gr (e ∷ es) h k l =
      grow_at inc (set gr e (moved inc (get_or gr e nan) e)) es h.1 k (rw length-set l)
      ∙ case-of (eqb k e)
      (λ t. let q = eqb-true k e t in rw (t, q, h.0) (get_or-set_same gr e (moved inc (get_or gr e nan) e) nan (rw q at l)))
      (λ f. rw (f, get_or-set_other gr e k (moved inc (get_or gr e nan) e) nan (eqb-false k e f)))

  -- ---- what saturates

  ripe_at : (inc : Float) (gr : List Float) (es : List ℕ) → Single es
      → ripe_in inc g.edge_weight gr es (map (count g lit s) es) ≡ filter (λ e. reaches_from (weight e) (moved inc (get_or gr e nan) e)) es
  unfolding ripe_in filter
  ripe_at inc gr [] h = refl
  ripe_at inc gr (e ∷ es) h =
      let v = moved inc (get_or gr e nan) e in
      let same : ripe_in inc g.edge_weight (set gr e v) es (map (count g lit s) es) ≡ filter (λ k. reaches_from (weight k) (moved inc (get_or gr k nan) k)) es
      = ripe_at inc (set gr e v) es h.1
      ∙ filter_in (λ k. reaches_from (weight k) (moved inc (get_or (set gr e v) k nan) k)) (λ k. reaches_from (weight k) (moved inc (get_or gr k nan) k)) es
      (λ k m. ap (λ z. reaches_from (weight k) (moved inc z k)) (get_or-set_other gr e k v nan (λ q. clash m (rw q h.0)))) in
      rw same

  -- ---- of the counted edges

  module _ (es : List ℕ) (once : Single es) (same : (e : ℕ) → member e es ≡ member e (counted g lit s)) where
    -- the least step that is found
    abbrev inc : Float
    inc = least_from (inf false) es

    inc_from : FromZero inc
    inc_from = least_all FromZero (inf false) es refl (λ e m. from_zero e (sym (same e) ∙ m))

    -- neither it nor the increment of the definitions is less
    not_less : (e : ℕ) → is_in e → lt inc b.step ≡ false
    not_less e i = least_all (λ z. lt z b.step ≡ false) (inf false) es (none_above b.step) (λ c m. let k = sym (same c) ∙ m in rw (step_is c k) ((chosen g lit s e i).least c k))

    not_more : (e : ℕ) → is_in e → lt b.step inc ≡ false
    unfolding is_nan
    not_more e i =
        let k = (chosen g lit s e i).among in
        rw (least_gives g fit lit s rooms e i, ← step_is b.edge k)
        ((least_most (inf false) es refl (λ c m. from_number (step c) (from_zero c (sym (same c) ∙ m)))).1 b.edge (same b.edge ∙ k))

    -- so a counted edge grows alike by either
    moves : (e : ℕ) → is_in e → moved inc (get_or s.growth e nan) e ≡ grown g lit s b.step e
    unfolding grown
    moves e i =
        let (c, h) = of_counted g fit lit s e i in
        let (o, n) = of_count g fit lit s e c in
        let r = rooms e h o in
        rw c (grow_level (count g lit s e) n (get_or s.growth e nan) r.plus r.below.ends inc b.step inc_from (increment_from g fit lit s rooms) (not_less e i) (not_more e i))

    counts : (e : ℕ) → member e es ≡ (is_counted g lit s e && member e (edges g))
    counts e = same e ∙ member_filter (is_counted g lit s) e (edges g)

    stays : (e : ℕ) → is_counted g lit s e ≡ false → get_or s.growth e nan ≡ grown g lit s b.step e
    unfolding grown
    stays e f = rw f refl

    -- e is an edge, and counted
    is_in_lem : (e : ℕ) → member e (edges g) ≡ true → is_counted g lit s e ≡ true → is_in e
    is_in_lem e u t = sym (same e) ∙ counts e ∙ rw (t, u)

    pub grow_any : length s.growth ≡ length g.edge_u → grow_in inc s.growth es (map (count g lit s) es) ≡ map (grown g lit s b.step) (edges g)
    grow_any len =
        ext_get_or nan (grow_in inc s.growth es (map (count g lit s) es)) (map (grown g lit s b.step) (edges g))
        (grow_length inc s.growth es ∙ len ∙ sym (length-map (edges g) (grown g lit s b.step) ∙ length_below (length g.edge_u)))
        (λ k h. let l : k < length g.edge_u = omega (arith, grow_length inc s.growth es, len) in
        let u = below_member k (length g.edge_u) l in
        grow_at inc s.growth es once k (omega arith)
        ∙ rw (counts k, u, and-true (is_counted g lit s k)) (case-of (is_counted g lit s k) (λ t. rw t (moves k (is_in_lem k u t))) (λ f. rw f (stays k f)))
        ∙ sym (get_d_below (grown g lit s b.step) nan (length g.edge_u) k l))

    pub ripe_any : (e : ℕ) → member e (ripe_in inc g.edge_weight s.growth es (map (count g lit s) es)) ≡ member e (filter (saturates g lit s b) (edges g))
    ripe_any e =
        let p : ℕ → Bool = λ k. reaches_from (weight k) (moved inc (get_or s.growth k nan) k) in
        ap (member e) (ripe_at inc s.growth es once)
        ∙ member_filter p e es
        ∙ rw (counts e, member_filter (saturates g lit s b) e (edges g)) (case-of (member e (edges g))
        (λ u. rw (u, saturating g fit lit s rooms e (member_below e (length g.edge_u) u)) (case-of (is_counted g lit s e)
        (λ t. rw t (ap (λ x. reaches_from (weight e) x && true) (moves e (is_in_lem e u t))))
        (λ f. rw f (and-false (p e)))))
        (λ v. rw (v, and-false (is_counted g lit s e), and-false (p e), and-false (saturates g lit s b e))))
