-- Sharing an edge: in the list of edges, in the tables, and in the chains.
use Rattle.std.specs.Prelude.{Some, None}
use Prim.Native.Nat.{ℕ, zero, suc, ◌+◌, ◌*◌, ◌≤◌, ◌<◌}
use native.Mathlib.Omega.{arith}
use native.Mathlib.Nat.{mul-le-mul_right, le_of_lt}
use native.Mathlib.Numerals.{add-one}
use mathlib.Core.Path.{◌≡◌, refl, sym, ap, ◌∙◌}
use mathlib.Core.List.{List, [], ◌∷◌}
use mathlib.Core.Bool.{Bool, true, false, ◌&&◌}
use lib.Dec.{eqb}
use lib.Ieee as Ieee
use lib.Ieee.{Float, nan}
use lib.ListN.{length, get_or, set, length-set}
use lib.Seq.{get_or-set_same, get_or-set_other, set-get_or}
use borrow.Author.Tests.{eqb-true, eqb-false}
use Rattle.lists.proofs.Truth.{case-of, and_left, and_right}
use Rattle.bits.specs.Rows.{words}
use Rattle.codes.specs.Limits.{max_mechanisms}
use Rattle.edges.specs.Compile.{Edge, greater, share}
use Rattle.edges.specs.Chains.{last_with, same_ends, last_ends, Chained}
use Rattle.edges.specs.Tables.{Slices, filled, Room, Shares}
use Rattle.edges.proofs.Slices.{put, over, Lies, column_at, filled_put}

-- ---- in the list

abbrev pub blank : Edge
blank = record { u = 0; v = 0; probability = nan; observables = [] }

abbrev pub same : Edge → Edge → Bool
same new e = eqb e.u new.u && eqb e.v new.v

-- no edge before place k has the ends of the new one
abbrev pub Misses : Edge → List Edge → ℕ → Type 0
Misses new es k = (j : ℕ) → j < k → same new (get_or es j blank) ≡ false

-- the edge at k has, and a smaller probability; or k is past the last
pub share_put : (new : Edge) (es : List Edge) (k : ℕ) → k ≤ length es → Misses new es k
    → (k < length es → (same new (get_or es k blank) ≡ true) × (Ieee.lt (get_or es k blank).probability new.probability ≡ true)) → share new es ≡ put new k es
unfolding share put greater
share_put new [] k h m g = refl
share_put new (e ∷ es) zero h m g = let (s, l) = g (omega arith) in rw (s, l)
share_put new (e ∷ es) (suc k) h m g =
    rw (m 0 (omega arith)) (ap (λ (l : List Edge). e ∷ l) (share_put new es k (omega arith) (λ j b. m (suc j) (omega arith)) (λ b. g (omega arith))))

-- it has, and no smaller probability
pub share_keep : (new : Edge) (es : List Edge) (k : ℕ) → k < length es → Misses new es k → same new (get_or es k blank) ≡ true
    → Ieee.lt (get_or es k blank).probability new.probability ≡ false → share new es ≡ es
unfolding share greater
share_keep new [] k h m s l = absurd (omega arith)
share_keep new (e ∷ es) zero h m s l = rw (s, l)
share_keep new (e ∷ es) (suc k) h m s l = rw (m 0 (omega arith)) (ap (λ (r : List Edge). e ∷ r) (share_keep new es k (omega arith) (λ j b. m (suc j) (omega arith)) s l))

put_inside : (new : Edge) (es : List Edge) (k : ℕ) → k < length es → length (put new k es) ≡ length es
unfolding put
put_inside new [] k h = absurd (omega arith)
put_inside new (e ∷ es) zero h = refl
put_inside new (e ∷ es) (suc k) h = ap suc (put_inside new es k (omega arith))

put_past : (new : Edge) (es : List Edge) → length (put new (length es) es) ≡ suc (length es)
unfolding put
put_past new [] = refl
put_past new (e ∷ es) = ap suc (put_past new es)

-- ---- in the chains

pub found_at : (us vs : List ℕ) (a b n e : ℕ) → last_ends us vs a b n ≡ Some e → (e < n) × (same_ends us vs a b e ≡ true)
unfolding last_ends
found_at us vs a b zero e h = cc
found_at us vs a b (suc k) e h = case-of (same_ends us vs a b k)
    (λ (t : same_ends us vs a b k ≡ true). let i : Some k ≡ Some e = rw t at h in let q : k ≡ e = cc in (omega arith, rw q at t))
    (λ (f : same_ends us vs a b k ≡ false). let (l, s) = found_at us vs a b k e (rw f at h) in (omega arith, s))

found_none : (us vs : List ℕ) (a b n : ℕ) → last_ends us vs a b n ≡ None → (j : ℕ) → j < n → same_ends us vs a b j ≡ false
unfolding last_ends
found_none us vs a b zero h j l = absurd (omega arith)
found_none us vs a b (suc k) h j l = case-of (same_ends us vs a b k)
    (λ (t : same_ends us vs a b k ≡ true). let i : Some k ≡ None = rw t at h in cc)
    (λ (f : same_ends us vs a b k ≡ false). case-of (eqb j k)
    (λ t. rw (eqb-true j k t) f)
    (λ g. let q = eqb-false j k g in found_none us vs a b k (rw f at h) j (omega arith)))

-- the row of an edge before place n lies before its row
pub row_below : (e n o l : ℕ) → e < n → n * words o + words o ≤ l → e * words o + words o ≤ l
row_below e n o l h k = omega (arith, mul-le-mul_right (words o) (le_of_lt h))

last_agree : (us us' : List ℕ) (a n : ℕ) → ((j : ℕ) → j < n → get_or us' j 0 ≡ get_or us j 0) → last_with us' a n ≡ last_with us a n
unfolding last_with
last_agree us us' a zero h = refl
last_agree us us' a (suc e) h = rw (h e (omega arith), last_agree us us' a e (λ j l. h j (omega arith)))

-- the chains with one edge more
module _ (n a b : ℕ) (us vs first next : List ℕ) (c : Chained n us vs first next) (hu : n < length us) (hv : n < length vs) where
  here : get_or (set us n a) n 0 ≡ a
  here = get_or-set_same us n a 0 hu

  there : get_or (set vs n b) n 0 ≡ b
  there = get_or-set_same vs n b 0 hv

  old : (j : ℕ) → j < n → get_or (set us n a) j 0 ≡ get_or us j 0
  old j l = get_or-set_other us n j a 0 (λ e. omega arith)

  olds : (j : ℕ) → j < n → get_or (set vs n b) j 0 ≡ get_or vs j 0
  olds j l = get_or-set_other vs n j b 0 (λ e. omega arith)

  starts_added : (x : ℕ) → a < length first → x < length first → get_or (set first a n) x 0 ≡ last_with (set us n a) x (suc n)
  unfolding last_with
  starts_added x h l = case-of (eqb a x)
      (λ (t : eqb a x ≡ true). let q = eqb-true a x t in rw (here, t, ← q) (get_or-set_same first a n 0 h))
      (λ (f : eqb a x ≡ false). let q = eqb-false a x f in
      rw (here, f) (get_or-set_other first a x n 0 (λ e. q (sym e)) ∙ c.starts x l ∙ sym (last_agree us (set us n a) x n old)))

  goes_added : (e : ℕ) → n < length next → a < length first → e < suc n → get_or (set next n (get_or first a 0)) e 0 ≡ last_with (set us n a) (get_or (set us n a) e 0) e
  goes_added e h hf l = case-of (eqb e n)
      (λ t. let q = eqb-true e n t in rw (q, here) (get_or-set_same next n (get_or first a 0) 0 h ∙ c.starts a hf ∙ sym (last_agree us (set us n a) a n old)))
      (λ f. let q = eqb-false e n f in let k : e < n = omega arith in
      rw (old e k) (get_or-set_other next n e (get_or first a 0) 0 q ∙ c.goes_on e k ∙ sym (last_agree us (set us n a) (get_or us e 0) e (λ j m. old j (omega arith)))))

  distinct_added : (i j : ℕ) → last_ends us vs a b n ≡ None → i < j → j < suc n
      → same_ends (set us n a) (set vs n b) (get_or (set us n a) j 0) (get_or (set vs n b) j 0) i ≡ false
  distinct_added i j h l k = case-of (eqb j n)
      (λ t. let q = eqb-true j n t in let m : i < n = omega arith in rw (q, here, there, old i m, olds i m) (found_none us vs a b n h i m))
      (λ f. let q = eqb-false j n f in let r : j < n = omega arith in let m : i < n = omega arith in rw (old j r, olds j r, old i m, olds i m) (c.distinct i j l r))

  pub chains_added : n < max_mechanisms → n < length next → a < length first → last_ends us vs a b n ≡ None
      → Chained (n + 1) (set us n a) (set vs n b) (set first a n) (set next n (get_or first a 0))
  chains_added few hn hf h = rw add-one (record {
    few = omega arith;
    starts = λ x l. starts_added x hf (rw (length-set first a n) at l);
    goes_on = λ e l. goes_added e hn hf l;
    distinct = λ i j l k. distinct_added i j h l k;
  })

-- ---- in the tables

module _ {o n : ℕ} (new : Edge) {t : Slices} {first next : List ℕ} (room : Room o n t next) (c : Chained n t.edge_u t.edge_v first next) where
  module _ (es : List Edge) (was : Slices) (len : length es ≡ n) (h : t ≡ filled o es was) where
    same_at : (j : ℕ) → j < n → same_ends t.edge_u t.edge_v new.u new.v j ≡ same new (get_or es j blank)
    unfolding filled
    same_at j l =
        let m : j < length es = omega arith in
        let a : get_or t.edge_u j 0 ≡ (get_or es j blank).u = ap (λ (s : Slices). get_or s.edge_u j 0) h ∙ column_at (λ e. e.u) es j was.edge_u 0 blank m in
        let b : get_or t.edge_v j 0 ≡ (get_or es j blank).v = ap (λ (s : Slices). get_or s.edge_v j 0) h ∙ column_at (λ e. e.v) es j was.edge_v 0 blank m in
        rw (a, b)

    p_at : (j : ℕ) → j < n → get_or t.edge_p j nan ≡ (get_or es j blank).probability
    unfolding filled
    p_at j l = ap (λ (s : Slices). get_or s.edge_p j nan) h ∙ column_at (λ e. e.probability) es j was.edge_p nan blank (omega arith)

    misses : (e : ℕ) → e < n → same_ends t.edge_u t.edge_v new.u new.v e ≡ true → Misses new es e
    misses e l s j k =
        let a = eqb-true (get_or t.edge_u e 0) new.u (and_left (eqb (get_or t.edge_u e 0) new.u) (eqb (get_or t.edge_v e 0) new.v) s) in
        let b = eqb-true (get_or t.edge_v e 0) new.v (and_right (eqb (get_or t.edge_u e 0) new.u) (eqb (get_or t.edge_v e 0) new.v) s) in
        sym (same_at j (omega arith)) ∙ rw (← a, ← b) (c.distinct j e k l)

  lies : (k : ℕ) → k ≤ n → Lies k t
  lies k l = record { ends = omega arith; others = omega arith; weights = omega arith; probabilities = omega arith }

  -- a strictly greater probability replaces
  pub replaced : (e : ℕ) (exit : Slices) → last_ends t.edge_u t.edge_v new.u new.v n ≡ Some e
      → Ieee.lt (get_or t.edge_p e nan) new.probability ≡ true → exit ≡ over o e new t
      → Shares o n new n t exit × Chained n exit.edge_u exit.edge_v first next
  replaced e exit f g x =
      let (l, s) = found_at _ _ _ _ _ _ f in
      let a = eqb-true (get_or t.edge_u e 0) new.u (and_left (eqb (get_or t.edge_u e 0) new.u) (eqb (get_or t.edge_v e 0) new.v) s) in
      let b = eqb-true (get_or t.edge_v e 0) new.v (and_right (eqb (get_or t.edge_u e 0) new.u) (eqb (get_or t.edge_v e 0) new.v) s) in
      let eu : exit.edge_u ≡ t.edge_u = ap (λ (s : Slices). s.edge_u) x ∙ ap (set t.edge_u e) (sym a) ∙ set-get_or t.edge_u e 0 in
      let ev : exit.edge_v ≡ t.edge_v = ap (λ (s : Slices). s.edge_v) x ∙ ap (set t.edge_v e) (sym b) ∙ set-get_or t.edge_v e 0 in (
        λ es was len h.
            let m : e < length es = omega arith in
            let i : share new es ≡ put new e es
            = share_put new es e (omega arith) (misses es was len h e l s)
            (λ k. (sym (same_at es was len h e l) ∙ s, ap (λ (y : Float). Ieee.lt y new.probability) (sym (p_at es was len h e l)) ∙ g)) in (
              sym (ap length i ∙ put_inside new es e m ∙ len),
              x ∙ filled_put o e new t es was h (omega arith) (lies e (omega arith)) ∙ ap (λ (es' : List Edge). filled o es' was) (sym i),
            ),
        rw (eu, ev) c,
      )

  -- any other does not
  pub kept : (e : ℕ) → last_ends t.edge_u t.edge_v new.u new.v n ≡ Some e
      → Ieee.lt (get_or t.edge_p e nan) new.probability ≡ false → Shares o n new n t t × Chained n t.edge_u t.edge_v first next
  kept e f g =
      let (l, s) = found_at _ _ _ _ _ _ f in (
        λ es was len h.
            let i : share new es ≡ es
            = share_keep new es e (omega arith) (misses es was len h e l s) (sym (same_at es was len h e l) ∙ s)
            (ap (λ (y : Float). Ieee.lt y new.probability) (sym (p_at es was len h e l)) ∙ g) in (
              sym (ap length i ∙ len),
              h ∙ ap (λ (es' : List Edge). filled o es' was) (sym i),
            ),
        c,
      )

  -- no edge has its ends
  pub appended : (exit : Slices) → new.u < length first → last_ends t.edge_u t.edge_v new.u new.v n ≡ None → exit ≡ over o n new t
      → Shares o n new (n + 1) t exit × Chained (n + 1) exit.edge_u exit.edge_v (set first new.u n) (set next n (get_or first new.u 0))
  appended exit hf f x =
      let eu : exit.edge_u ≡ set t.edge_u n new.u = ap (λ (s : Slices). s.edge_u) x in
      let ev : exit.edge_v ≡ set t.edge_v n new.v = ap (λ (s : Slices). s.edge_v) x in (
        λ es was len h.
            let i : share new es ≡ put new n es
            = share_put new es n (omega arith) (λ j k. sym (same_at es was len h j k) ∙ found_none t.edge_u t.edge_v new.u new.v n f j k) (λ k. absurd (omega arith)) in (
              rw add-one (sym (ap length i ∙ ap (λ (k : ℕ). length (put new k es)) (sym len) ∙ put_past new es ∙ ap suc len)),
              x ∙ filled_put o n new t es was h (omega arith) (lies n (omega arith)) ∙ ap (λ (es' : List Edge). filled o es' was) (sym i),
            ),
        rw (eu, ev) (chains_added n new.u new.v t.edge_u t.edge_v first next c room.ends room.others room.few room.chains hf f),
      )
