-- Where all weights fit, every unsaturated edge has room after every round. So no counted edge gives NaN, and the edge of the least reaches its weight.
use Prim.Native.Nat.{ℕ, zero, suc, ◌+◌, ◌<◌}
use mathlib.Core.Path.{◌≡◌, refl, sym, ap, ◌∙◌}
use mathlib.Core.List.{List, [], ◌∷◌}
use mathlib.Core.Bool.{Bool, true, false, cond, not, ◌&&◌, ◌||◌}
use mathlib.Core.Logic.{inl, inr}
use lib.IntN.{pos}
use lib.Dec.{eqb}
use lib.ListN.{length, get_or}
use lib.Ieee.{Float, nan, inf, fin, binary64, add, mul, le, lt, of_int}
use lib.Ieee.Scale.{finite}
use borrow.Author.Tests.{eqb-true}
use Rattle.lists.specs.Lists.{member}
use Rattle.steps.specs.Graph.{Graph, inner, outer, edges, is_pair}
use Rattle.steps.specs.Growth.{State, Least, one, tolerance, label_of, count, is_counted, step_of, least, least_of, grown, saturates, start, next, after}
use Rattle.steps.specs.Laws.{counted}
use Rattle.growth_laws.specs.Laws.{Fit, Unsaturated, reached, NoNan}
use Rattle.lists.proofs.Truth.{case-of, cond_case, clash, and_left, and_right, or_left, or_right, or_intro, same_eqb}
use Rattle.lists.proofs.Members.{member_filter, member_below, below_member, get_d_below}
use Rattle.found.proofs.Least.{chosen}
use Rattle.growth_laws.proofs.Signs.{FromZero, plus_from, from_number}
use Rattle.growth_laws.proofs.Edges.{Room, OneOrTwo, zero_least, start_room, gives_from, next_room, takes}

-- one for each end in an active cluster
ones : (a b : Bool) → not (eqb (one a + one b) 0) ≡ true → OneOrTwo (one a + one b)
ones true true h = inr refl
ones true false h = inl refl
ones false true h = inl refl
ones false false h = clash h refl

-- what follows from the others need not be named
need_not : (c t r : Bool) → (c ≡ true → t ≡ true → r ≡ true) → (c && (t || r)) ≡ (c && r)
need_not true true r h = sym (h refl refl)
need_not true false r h = refl
need_not false t r h = refl

-- a finite value is below infinity
finite_ends : (x : Float) → finite x ≡ true → lt x (inf false) ≡ true
unfolding lt
finite_ends nan h = clash h refl
finite_ends (inf s) h = clash h refl
finite_ends (fin s m e) h = refl

-- each edge that is not saturated has room
abbrev pub Rooms : Graph → State → Type 0
Rooms g s = (e : ℕ) → e < length g.edge_u → get_or s.saturated e false ≡ false → Room (get_or g.edge_weight e nan) (get_or s.growth e nan)

module _ (g : Graph) (fit : Fit g) (lit : List Bool) where
  abbrev weight : ℕ → Float
  weight e = get_or g.edge_weight e nan

  abbrev growth_of : State → ℕ → Float
  growth_of s e = get_or s.growth e nan

  -- a counted edge is not saturated, and counts 1 or 2
  pub of_count : (s : State) (e : ℕ) → is_counted g lit s e ≡ true → (get_or s.saturated e false ≡ false) × OneOrTwo (count g lit s e)
  unfolding count
  of_count s e c =
      let a = member (label_of g lit s (inner g e)) s.active in
      let b = is_pair g e && member (label_of g lit s (outer g e)) s.active in
      case-of (get_or s.saturated e false) (λ t. clash c (rw t)) (λ f. (f, rw f (ones a b (rw f at c))))

  pub of_counted : (s : State) (e : ℕ) → member e (counted g lit s) ≡ true → (is_counted g lit s e ≡ true) × (e < length g.edge_u)
  of_counted s e m =
      let u = sym (member_filter (is_counted g lit s) e (edges g)) ∙ m in
      (and_left (is_counted g lit s e) (member e (edges g)) u, member_below e (length g.edge_u) (and_right (is_counted g lit s e) (member e (edges g)) u))

  -- ---- a round

  module _ (s : State) (k : Rooms g s) where
    abbrev b : Least
    b = least_of g lit s (counted g lit s)

    pub step_from_lem : (e : ℕ) → e < length g.edge_u → is_counted g lit s e ≡ true → FromZero (step_of g lit s e)
    unfolding step_of
    step_from_lem e h c = let (o, n) = of_count s e c in gives_from (count g lit s e) n (weight e) (growth_of s e) (fit e h) (k e h o)

    -- a counted edge that grows by its own step reaches its weight
    step_takes : (e : ℕ) → e < length g.edge_u → is_counted g lit s e ≡ true → le (weight e) (add binary64 (grown g lit s (step_of g lit s e) e) tolerance) ≡ true
    unfolding grown step_of
    step_takes e h c = let (o, n) = of_count s e c in rw c (takes (count g lit s e) n (weight e) (growth_of s e) (fit e h) (k e h o))

    least_from_lem : (a : Least) (es : List ℕ) → FromZero a.step → ((e : ℕ) → member e es ≡ true → FromZero (step_of g lit s e)) → FromZero (least g lit s a es).step
    unfolding least member
    least_from_lem a [] f h = f
    least_from_lem a (e ∷ es) f h =
        let r : Least = record { edge = e; step = step_of g lit s e } in
        least_from_lem (cond (lt (step_of g lit s e) a.step) r a) es
        (cond_case (λ x. FromZero x.step) (lt (step_of g lit s e) a.step) r a (λ t. h e (rw (same_eqb e))) (λ u. f))
        (λ d m. h d (or_intro (eqb d e) (member d es) m))

    -- the increment
    pub increment_from : FromZero b.step
    unfolding least_of
    increment_from = least_from_lem (record { edge = get_or (counted g lit s) 0 0; step = inf false }) (counted g lit s) refl (λ e m. let (c, h) = of_counted s e m in step_from_lem e h c)

    -- a counted edge that does not saturate
    counted_room : (e : ℕ) → e < length g.edge_u → is_counted g lit s e ≡ true → saturates g lit s b e ≡ false → Room (weight e) (grown g lit s b.step e)
    unfolding saturates grown
    counted_room e h c f =
        let (o, n) = of_count s e c in
        let x = add binary64 (growth_of s e) (mul binary64 (of_int binary64 (pos (count g lit s e))) b.step) in
        rw c (next_room (count g lit s e) n (weight e) (growth_of s e) (fit e h) (k e h o) b.step increment_from
        (or_right (eqb e b.edge) (le (weight e) (add binary64 x tolerance)) (rw c at f)))

    pub rooms_next : Rooms g (next g lit s)
    unfolding next
    rooms_next e h u =
        let was = get_or s.saturated e false in
        let v : (was || saturates g lit s b e) ≡ false = sym (get_d_below (λ e. get_or s.saturated e false || saturates g lit s b e) false (length g.edge_u) e h) ∙ u in
        rw (get_d_below (grown g lit s b.step) nan (length g.edge_u) e h)
        (case-of (is_counted g lit s e) (λ c. counted_room e h c (or_right was (saturates g lit s b e) v)) (λ c. rw c (k e h (or_left was (saturates g lit s b e) v))))

    rooms_numbers : NoNan g lit s
    rooms_numbers e m = let (c, h) = of_counted s e m in from_number (step_of g lit s e) (step_from_lem e h c)

    -- the increment is what the edge of the least gives
    pub least_gives : (e : ℕ) → member e (counted g lit s) ≡ true → b.step ≡ step_of g lit s b.edge
    least_gives e m = let c = chosen g lit s e m in c.gives_too (rooms_numbers b.edge c.among)

    -- so that edge reaches its weight
    pub taken : (e : ℕ) → member e (counted g lit s) ≡ true → reached g (next g lit s) b.edge ≡ true
    unfolding next
    taken e m =
        let (c, h) = of_counted s b.edge (chosen g lit s e m).among in
        rw (get_d_below (grown g lit s b.step) nan (length g.edge_u) b.edge h, least_gives e m) (step_takes b.edge h c)

    -- and need not be named
    pub saturating : (e : ℕ) → e < length g.edge_u → saturates g lit s b e ≡ (is_counted g lit s e && le (weight e) (add binary64 (grown g lit s b.step e) tolerance))
    unfolding saturates
    saturating e h = need_not (is_counted g lit s e) (eqb e b.edge) (le (weight e) (add binary64 (grown g lit s b.step e) tolerance))
        (λ c t. rw (least_gives e (member_filter (is_counted g lit s) e (edges g) ∙ rw (c, below_member e (length g.edge_u) h)) ∙ ap (step_of g lit s) (sym (eqb-true e b.edge t))) (step_takes e h c))

  -- ---- all rounds

  pub rooms_start : Rooms g (start g lit)
  unfolding start
  rooms_start e h u = rw (get_d_below (λ e. fin false 0 (pos 0)) nan (length g.edge_u) e h) (start_room (weight e) (fit e h))

  pub rooms : (n : ℕ) → Rooms g (after g lit n)
  unfolding after
  rooms zero = rooms_start
  rooms (suc n) = rooms_next (after g lit n) (rooms n)

  pub unsaturated : (n e : ℕ) → e < length g.edge_u → get_or (after g lit n).saturated e false ≡ false → Unsaturated g (after g lit n) e
  unsaturated n e h u =
      let r = rooms n e h u in
      let x = growth_of (after g lit n) e in
      record { from = zero_least x (plus_from x r.plus); most = r.below.most; ends = finite_ends x r.below.ends }

  pub no_nan : (n : ℕ) → NoNan g lit (after g lit n)
  no_nan n = rooms_numbers (after g lit n) (rooms n)

  pub increment_least : (n : ℕ) → le (fin false 0 (pos 0)) (least_of g lit (after g lit n) (counted g lit (after g lit n))).step ≡ true
  increment_least n = let s = after g lit n in zero_least (b s (rooms n)).step (increment_from s (rooms n))
