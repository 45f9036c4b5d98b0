-- What is kept for each cluster, when two are joined and when one gets an exit. Assumes nothing.
use Prim.Native.Nat.{ℕ, zero, suc, ◌+◌, ◌<◌, ◌≤◌, min, max}
use native.Mathlib.Omega.{arith}
use mathlib.Core.Path.{◌≡◌, refl, sym, ap, ap₂, ◌∙◌}
use mathlib.Core.List.{List, [], ◌∷◌}
use mathlib.Core.Bool.{Bool, true, false, cond, not, ◌&&◌, ◌||◌, xor}
use mathlib.Core.Logic.{◌⊎◌, inl, inr, ⊎_elim}
use lib.Dec.{eqb}
use lib.ListN.{length, get_or, set, length-map, length-set, get_or-map}
use lib.Seq.{get_or-set_same, get_or-set_other}
use borrow.Author.Tests.{eqb-true, eqb-false, eq-eqb, ne_eqb}
use Rattle.lists.specs.Lists.{from, below, odd, member}
use Rattle.steps.specs.Graph.{Graph, Ends, inner, edges, is_pair}
use Rattle.steps.specs.Growth.{is_odd, exits}
use Rattle.lists.proofs.Truth.{case-of, same_eqb, or_intro}
use Rattle.lists.proofs.Members.{member_below, get_d_any}
use Rattle.lists.proofs.Sums.{odd_cong, odd_xor}
use Rattle.forest.specs.Forest.{Down, labels, rename, relabel}
use Rattle.forest.proofs.Forest.{rename_cases, length_labels}
use Rattle.growth_state.specs.Rep.{lowest, Clusters}
use Rattle.growth_state.proofs.Laws.{set_bool}

-- ---- the lowest that passes

pub lowest_cong : (p q : ℕ → Bool) (l : List ℕ) → ((e : ℕ) → member e l ≡ true → p e ≡ q e) → lowest p l ≡ lowest q l
unfolding lowest member
lowest_cong p q [] h = refl
lowest_cong p q (e ∷ l) h = rw (h e (rw (same_eqb e)), lowest_cong p q l (λ k m. h k (or_intro (eqb k e) (member k l) m)))

lowest_ge : (p : ℕ → Bool) (n a : ℕ) → a + n ≤ 4294967295 → a ≤ lowest p (from n a)
unfolding lowest from
lowest_ge p zero a h = omega arith
lowest_ge p (suc n) a h = case-of (p a) (λ t. rw t (omega arith)) (λ f. rw f (omega (arith, lowest_ge p n (suc a) (omega arith))))

lowest_le : (p : ℕ → Bool) (n a : ℕ) → a + n ≤ 4294967295 → lowest p (from n a) ≤ 4294967295
unfolding lowest from
lowest_le p zero a h = omega arith
lowest_le p (suc n) a h = case-of (p a) (λ t. rw t (omega arith)) (λ f. rw f (lowest_le p n (suc a) (omega arith)))

lowest_or : (p q : ℕ → Bool) (n a : ℕ) → a + n ≤ 4294967295 → lowest (λ e. p e || q e) (from n a) ≡ min (lowest p (from n a)) (lowest q (from n a))
unfolding lowest from
lowest_or p q zero a h = refl
lowest_or p q (suc n) a h =
    let gp = lowest_ge p n (suc a) (omega arith) in
    let gq = lowest_ge q n (suc a) (omega arith) in
    case-of (p a)
    (λ t. case-of (q a) (λ u. rw (t, u) (omega arith)) (λ u. rw (t, u) (omega arith)))
    (λ f. case-of (q a) (λ u. rw (f, u) (omega arith)) (λ u. rw (f, u) (lowest_or p q n (suc a) (omega arith))))

pub lowest_none : (n a : ℕ) → lowest (λ e. false) (from n a) ≡ 4294967295
unfolding lowest from
lowest_none zero a = refl
lowest_none (suc n) a = lowest_none n (suc a)

lowest_one : (e n a : ℕ) → a ≤ e → e < a + n → lowest (λ k. eqb k e) (from n a) ≡ e
unfolding lowest from
lowest_one e zero a h k = absurd (omega arith)
lowest_one e (suc n) a h k = case-of (eqb a e)
    (λ t. rw t (eqb-true a e t))
    (λ f. rw f (lowest_one e n (suc a) (omega (arith, eqb-false a e f)) (omega arith)))

-- ---- renaming

same_lo : (a b z : ℕ) → eqb (rename a b z) (min a b) ≡ (eqb z (min a b) || eqb z (max a b))
same_lo a b z = ⊎_elim
    (λ h. rw (h.1, eq-eqb z (max a b) h.0, same_eqb (min a b)) (yes_or (eqb z (min a b))))
    (λ h. rw (h.1, ne_eqb z (max a b) h.0) (or_no (eqb z (min a b))))
    (rename_cases a b z)
  where
    yes_or : (p : Bool) → true ≡ (p || true)
    yes_or true = refl
    yes_or false = refl

    or_no : (p : Bool) → p ≡ (p || false)
    or_no true = refl
    or_no false = refl

same_else : (a b z r : ℕ) → (r ≡ min a b → ⊥) → (r ≡ max a b → ⊥) → eqb (rename a b z) r ≡ eqb z r
same_else a b z r lo hi = ⊎_elim
    (λ h. rw (h.1, h.0, ne_eqb (min a b) r (λ q. lo (sym q)), ne_eqb (max a b) r (λ q. hi (sym q))))
    (λ h. rw h.1)
    (rename_cases a b z)

either : (l p q : Bool) → (p ≡ true → q ≡ false) → (l && (p || q)) ≡ xor (l && p) (l && q)
unfolding xor
either true true true h = h refl
either true true false h = refl
either true false true h = refl
either true false false h = refl
either false p q h = refl

shared : (s n p q : Bool) → (s && (n && (p || q))) ≡ ((s && (n && p)) || (s && (n && q)))
shared true true p q = refl
shared true false p q = refl
shared false n p q = refl

module _ (g : Graph) (ok : Ends g) (few : length g.edge_u ≤ 4294967295) (lit : List Bool) where
  module _ (ls : List ℕ) (len : length ls ≡ g.detectors) (a b : ℕ) where
    abbrev ls' : List ℕ
    ls' = relabel ls a b

    name_at : (x : ℕ) → x < g.detectors → get_or ls' x x ≡ rename a b (get_or ls x x)
    name_at x h = get_d_any ls' x x (rename a b x) (rw (length-map ls (rename a b), len) h) ∙ get_or-map (rename a b) ls x x

    zero_at : (x : ℕ) → x < g.detectors → get_or ls' x 0 ≡ rename a b (get_or ls x 0)
    zero_at x h = get_d_any ls' x 0 (rename a b 0) (rw (length-map ls (rename a b), len) h) ∙ get_or-map (rename a b) ls x 0

    odd_lo : (a ≡ b → ⊥) → is_odd g lit ls' (min a b) ≡ xor (is_odd g lit ls (min a b)) (is_odd g lit ls (max a b))
    unfolding is_odd
    odd_lo ne =
        odd_cong (λ d. get_or lit d false && eqb (get_or ls' d d) (min a b)) (λ d. xor (get_or lit d false && eqb (get_or ls d d) (min a b)) (get_or lit d false && eqb (get_or ls d d) (max a b))) (below g.detectors)
        (λ d m. let h = member_below d g.detectors m in
        rw (name_at d h, same_lo a b (get_or ls d d)) (either (get_or lit d false) (eqb (get_or ls d d) (min a b)) (eqb (get_or ls d d) (max a b))
        (λ t. ne_eqb (get_or ls d d) (max a b) (λ q. ne (omega (arith, eqb-true (get_or ls d d) (min a b) t, q))))))
        ∙ odd_xor (λ d. get_or lit d false && eqb (get_or ls d d) (min a b)) (λ d. get_or lit d false && eqb (get_or ls d d) (max a b)) (below g.detectors)

    odd_else : (r : ℕ) → (r ≡ min a b → ⊥) → (r ≡ max a b → ⊥) → is_odd g lit ls' r ≡ is_odd g lit ls r
    unfolding is_odd
    odd_else r lo hi =
        odd_cong (λ d. get_or lit d false && eqb (get_or ls' d d) r) (λ d. get_or lit d false && eqb (get_or ls d d) r) (below g.detectors)
        (λ d m. rw (name_at d (member_below d g.detectors m), same_else a b (get_or ls d d) r lo hi))

    exit_lo : (sat : List Bool) → lowest (exits g lit sat ls' (min a b)) (edges g) ≡ min (lowest (exits g lit sat ls (min a b)) (edges g)) (lowest (exits g lit sat ls (max a b)) (edges g))
    unfolding below
    exit_lo sat =
        lowest_cong (exits g lit sat ls' (min a b)) (λ e. exits g lit sat ls (min a b) e || exits g lit sat ls (max a b) e) (edges g)
        (λ e m. let h = member_below e (length g.edge_u) m in
        rw (name_at (inner g e) (ok.inside e h), same_lo a b (get_or ls (inner g e) (inner g e)))
        (shared (get_or sat e false) (not (is_pair g e)) (eqb (get_or ls (inner g e) (inner g e)) (min a b)) (eqb (get_or ls (inner g e) (inner g e)) (max a b))))
        ∙ lowest_or (exits g lit sat ls (min a b)) (exits g lit sat ls (max a b)) (length g.edge_u) 0 (omega arith)

    exit_else : (sat : List Bool) (r : ℕ) → (r ≡ min a b → ⊥) → (r ≡ max a b → ⊥) → lowest (exits g lit sat ls' r) (edges g) ≡ lowest (exits g lit sat ls r) (edges g)
    exit_else sat r lo hi =
        lowest_cong (exits g lit sat ls' r) (exits g lit sat ls r) (edges g)
        (λ e m. rw (name_at (inner g e) (ok.inside e (member_below e (length g.edge_u) m)), same_else a b (get_or ls (inner g e) (inner g e)) r lo hi))

    -- a root of the new labels is one of the old, and not the higher of the two
    root_old : get_or ls a 0 ≡ a → get_or ls b 0 ≡ b → (a ≡ b → ⊥) → (r : ℕ) → r < g.detectors → get_or ls' r 0 ≡ r → (get_or ls r 0 ≡ r) × (r ≡ max a b → ⊥)
    root_old ra rb ne r h q = ⊎_elim
        (λ z. let w : r ≡ min a b = sym q ∙ zero_at r h ∙ z.1 in
        absurd (ne (⊎_elim
        (λ (y : r ≡ a). let v : get_or ls r 0 ≡ a = rw y ra in omega (arith, z.0))
        (λ (y : r ≡ b). let v : get_or ls r 0 ≡ b = rw y rb in omega (arith, z.0))
        (min_cases a b r w))))
        (λ z. let w : get_or ls r 0 ≡ r = sym z.1 ∙ sym (zero_at r h) ∙ q in (w, λ y. z.0 (w ∙ y)))
        (rename_cases a b (get_or ls r 0))
      where
        min_cases : (a b r : ℕ) → r ≡ min a b → (r ≡ a) ⊎ (r ≡ b)
        min_cases a b r w = go (ltb_or a b)
          where
            ltb_or : (a b : ℕ) → (a ≤ b) ⊎ (b ≤ a)
            ltb_or zero b = inl (omega arith)
            ltb_or (suc a) zero = inr (omega arith)
            ltb_or (suc a) (suc b) = ⊎_elim (λ x. inl (omega arith)) (λ x. inr (omega arith)) (ltb_or a b)

            go : (a ≤ b) ⊎ (b ≤ a) → (r ≡ a) ⊎ (r ≡ b)
            go (inl h) = inl (omega arith)
            go (inr h) = inr (omega arith)

  -- the clusters a and b are joined: the forest p has become p'
  module _ (sat : List Bool) (p p' : List ℕ) (odd : List Bool) (exit : List ℕ) (k : Clusters g lit sat p odd exit) (d' : Down g.detectors p') (a b lo hi : ℕ)
      (is : labels g.detectors p' ≡ relabel (labels g.detectors p) a b) (hl : lo < g.detectors) (hh : hi < g.detectors)
      (ra : get_or (labels g.detectors p) a 0 ≡ a) (rb : get_or (labels g.detectors p) b 0 ≡ b) (ne : a ≡ b → ⊥) (el : lo ≡ min a b) (eh : hi ≡ max a b)
      (rl : get_or (labels g.detectors p) lo 0 ≡ lo) (rh : get_or (labels g.detectors p) hi 0 ≡ hi) where
    abbrev L : List ℕ
    L = labels g.detectors p

    abbrev L_len : length L ≡ g.detectors
    L_len = length_labels g.detectors p

    old : (r : ℕ) → r < g.detectors → get_or (labels g.detectors p') r 0 ≡ r → (get_or L r 0 ≡ r) × (r ≡ max a b → ⊥)
    old r h q = root_old L L_len a b ra rb ne r h (rw is at q)

    low_odd : xor (is_odd g lit L lo) (is_odd g lit L hi) ≡ is_odd g lit (labels g.detectors p') lo
    low_odd = rw (is, el, eh) (sym (odd_lo L L_len a b ne))

    low_exit : min (lowest (exits g lit sat L lo) (edges g)) (lowest (exits g lit sat L hi) (edges g)) ≡ lowest (exits g lit sat (labels g.detectors p') lo) (edges g)
    low_exit = rw (is, el, eh) (sym (exit_lo L L_len a b sat))

    pub join_clusters : Clusters g lit sat p' (set odd lo (xor (get_or odd lo false) (get_or odd hi false))) (set exit lo (min (get_or exit lo 0) (get_or exit hi 0)))
    join_clusters = record {
      down = d';
      odds = length-set odd lo (xor (get_or odd lo false) (get_or odd hi false)) ∙ k.odds;
      exits = length-set exit lo (min (get_or exit lo 0) (get_or exit hi 0)) ∙ k.exits;
      odd_is = λ r h q. case-of (eqb r lo)
          (λ t. let w = eqb-true r lo t in rw w
          (get_or-set_same odd lo (xor (get_or odd lo false) (get_or odd hi false)) false (omega (arith, k.odds)) ∙ ap₂ xor (k.odd_is lo hl rl) (k.odd_is hi hh rh) ∙ low_odd))
          (λ f. let w = eqb-false r lo f in
          get_or-set_other odd lo r (xor (get_or odd lo false) (get_or odd hi false)) false w ∙ k.odd_is r h (old r h q).0 ∙ rw is (sym (odd_else L L_len a b r (λ z. w (z ∙ sym el)) (old r h q).1)));
      exit_is = λ r h q. case-of (eqb r lo)
          (λ t. let w = eqb-true r lo t in rw w
          (get_or-set_same exit lo (min (get_or exit lo 0) (get_or exit hi 0)) 0 (omega (arith, k.exits)) ∙ ap₂ min (k.exit_is lo hl rl) (k.exit_is hi hh rh) ∙ low_exit))
          (λ f. let w = eqb-false r lo f in
          get_or-set_other exit lo r (min (get_or exit lo 0) (get_or exit hi 0)) 0 w ∙ k.exit_is r h (old r h q).0 ∙ rw is (sym (exit_else L L_len a b sat r (λ z. w (z ∙ sym el)) (old r h q).1)));
    }

  -- the same clusters by another forest
  pub same_clusters : (sat : List Bool) (p p' : List ℕ) (odd : List Bool) (exit : List ℕ) → Clusters g lit sat p odd exit → Down g.detectors p' → labels g.detectors p' ≡ labels g.detectors p → Clusters g lit sat p' odd exit
  same_clusters sat p p' odd exit k d' is = record {
    down = d';
    odds = k.odds;
    exits = k.exits;
    odd_is = λ r h q. k.odd_is r h (rw is at q) ∙ rw is refl;
    exit_is = λ r h q. k.exit_is r h (rw is at q) ∙ rw is refl;
  }

  -- ---- an edge saturates

  module _ (sat : List Bool) (p : List ℕ) (odd : List Bool) (exit : List ℕ) (k : Clusters g lit sat p odd exit) (e : ℕ) (he : e < length g.edge_u) (hs : e < length sat) where
    abbrev M : List ℕ
    M = labels g.detectors p

    -- a pair edge is no exit
    pub pair_clusters : is_pair g e ≡ true → Clusters g lit (set sat e true) p odd exit
    pair_clusters t = record {
      down = k.down;
      odds = k.odds;
      exits = k.exits;
      odd_is = k.odd_is;
      exit_is = λ r h q. k.exit_is r h q ∙ sym (lowest_cong (exits g lit (set sat e true) M r) (exits g lit sat M r) (edges g) (λ c m.
          rw (set_bool sat e true c hs) (case-of (eqb c e)
          (λ u. let w = eqb-true c e u in rw (u, w, t) (sym (no (get_or sat e false))))
          (λ f. rw f))));
    }
      where
        no : (b : Bool) → (b && false) ≡ false
        no true = refl
        no false = refl

    -- a boundary edge is one of its cluster
    pub exit_clusters : is_pair g e ≡ false → (r : ℕ) → r < g.detectors → r ≡ get_or M (inner g e) (inner g e) → Clusters g lit (set sat e true) p odd (set exit r (min (get_or exit r 0) e))
    unfolding below
    exit_clusters f r hr is = record {
      down = k.down;
      odds = k.odds;
      exits = length-set exit r (min (get_or exit r 0) e) ∙ k.exits;
      odd_is = k.odd_is;
      exit_is = λ q h z. case-of (eqb q r)
          (λ t. let w = eqb-true q r t in
          rw w (get_or-set_same exit r (min (get_or exit r 0) e) 0 (omega (arith, k.exits)) ∙ ap (λ x. min x e) (k.exit_is r hr (rw w at z)) ∙ sym (more r true (ap (λ x. eqb x r) (sym is) ∙ same_eqb r))))
          (λ t. let w = eqb-false q r t in
          get_or-set_other exit r q (min (get_or exit r 0) e) 0 w ∙ k.exit_is q h z ∙ sym (more q false (ne_eqb (get_or M (inner g e) (inner g e)) q (λ y. w (sym y ∙ sym is)))));
    }
      where
        with_e : (s n : Bool) (x y : Bool) → (cond x true s && (n && y)) ≡ ((s && (n && y)) || (x && (n && y)))
        with_e true true true true = refl
        with_e true true true false = refl
        with_e true true false true = refl
        with_e true true false false = refl
        with_e true false true y = refl
        with_e true false false y = refl
        with_e false n true y = refl
        with_e false n false y = refl

        after : ℕ → Bool → ℕ
        after q c = cond c (min (lowest (exits g lit sat M q) (edges g)) e) (lowest (exits g lit sat M q) (edges g))

        only : (c : Bool) → lowest (λ k. eqb k e && c) (edges g) ≡ cond c e 4294967295
        only true = lowest_cong (λ k. eqb k e && true) (λ k. eqb k e) (edges g) (λ k m. yes_and (eqb k e)) ∙ lowest_one e (length g.edge_u) 0 (omega arith) (omega arith)
          where
            yes_and : (b : Bool) → (b && true) ≡ b
            yes_and true = refl
            yes_and false = refl
        only false = lowest_cong (λ k. eqb k e && false) (λ k. false) (edges g) (λ k m. no_and (eqb k e)) ∙ lowest_none (length g.edge_u) 0
          where
            no_and : (b : Bool) → (b && false) ≡ false
            no_and true = refl
            no_and false = refl

        more : (q : ℕ) (c : Bool) → eqb (get_or M (inner g e) (inner g e)) q ≡ c → lowest (exits g lit (set sat e true) M q) (edges g) ≡ after q c
        more q c z =
            lowest_cong (exits g lit (set sat e true) M q) (λ k. exits g lit sat M q k || (eqb k e && c)) (edges g)
            (λ k m. rw (set_bool sat e true k hs) (with_e (get_or sat k false) (not (is_pair g k)) (eqb k e) (eqb (get_or M (inner g k) (inner g k)) q)
            ∙ ap (λ t. exits g lit sat M q k || t) (case-of (eqb k e) (λ t. let w = eqb-true k e t in rw (t, w, f, z)) (λ t. rw t))))
            ∙ lowest_or (exits g lit sat M q) (λ k. eqb k e && c) (length g.edge_u) 0 (omega arith)
            ∙ ap (min (lowest (exits g lit sat M q) (edges g))) (only c) ∙ pick c
          where
            pick : (c : Bool) → min (lowest (exits g lit sat M q) (edges g)) (cond c e 4294967295) ≡ after q c
            pick true = refl
            pick false = omega (arith, lowest_le (exits g lit sat M q) (length g.edge_u) 0 (omega arith))
