-- One mechanism, in the tables that it stands in.
use Rattle.std.specs.Prelude.{Ok, Err}
use Prim.Native.Nat.{ℕ, zero, suc, ◌+◌, ◌-◌, ◌≤◌, ◌<◌}
use native.Mathlib.Omega.{arith}
use native.Mathlib.Numerals.{add-one}
use mathlib.Core.Path.{◌≡◌, refl, sym, ap, subst, ◌∙◌}
use mathlib.Core.List.{List, [], ◌∷◌}
use mathlib.Core.Bool.{true, false, ◌&&◌}
use lib.Dec.{leb}
use lib.ListN.{length, get_or, take, drop, length-take, length-drop}
use lib.Seq.{drop-cons, drop-drop, get_or-take, get_or-drop}
use Rattle.lists.proofs.Truth.{and_left, and_right}
use Rattle.codes.specs.declared.Refusal.{Refusal}
use Rattle.codes.specs.declared.Refusal.TheVariants.{NotGraphlike}
use Rattle.codes.specs.Limits.{max_entries}
use Rattle.dem.specs.declared.Mechanism.{Mechanism}
use Rattle.dem.specs.declared.Place.{Place}
use Rattle.dem.specs.Model.{ErrorMechanism, list_fits, symptom_fits, symptoms_fit, lists_fit, check_mechanism}
use Rattle.dem.specs.Tables.{first_of}
use Rattle.dem.specs.Positions.{mechanism_at, Inside}
use Rattle.dem.proofs.Accepted.{mechanism_fits}
use Rattle.edges.specs.Compile.{Edge, Edges, into, refused, share, edge_of, join_by, is_zero, join_next, next as next_edges}
use Rattle.edges.specs.Tables.{Slices, edge_with, second_end, Shares}
use Rattle.graph.specs.Outcome.{Joins}

-- over two detectors
join_many : (i : ℕ) (m : ErrorMechanism) (es : List Edge) (l : List ℕ) → 2 < length l → join_by i m es l ≡ refused (NotGraphlike i)
unfolding join_by
join_many i m es [] h = absurd (omega arith)
join_many i m es (a ∷ []) h = absurd (omega arith)
join_many i m es (a ∷ b ∷ []) h = absurd (omega arith)
join_many i m es (a ∷ b ∷ c ∷ l) h = refl

-- one or two
join_few : (i : ℕ) (m : ErrorMechanism) (es : List Edge) (k at : ℕ) (l : List ℕ) → at + k ≤ length l → 0 < k → k ≤ 2
    → join_by i m es (take k (drop at l)) ≡ into (share (edge_of m (get_or l at 0) (second_end k at l)) es)
unfolding join_by
join_few i m es zero at l h a b = absurd (omega arith)
join_few i m es (suc zero) at l h a b = rw (drop-cons l at 0 (omega arith))
join_few i m es (suc (suc zero)) at l h a b = rw (drop-cons l at 0 (omega arith), drop-cons l (suc at) 0 (omega arith), add-one)
join_few i m es (suc (suc (suc k))) at l h a b = absurd (omega arith)

-- what the edges so far become
abbrev pub step : ℕ → ℕ → ℕ → ErrorMechanism → List Edge → Edges
step d o i m old = next_edges d o i m (into old)

-- 5 or 4
pub is_refused : (d o i n : ℕ) (m : ErrorMechanism) (x : Refusal) (entry exit : Slices) → check_mechanism d o i m ≡ Err x → Joins o n (step d o i m) (Err x) entry exit
unfolding join_next
is_refused d o i n m x entry exit c old was len t = rw c refl

module _ (h : Mechanism) (p : Place) (cds cos es : List ℕ) where
  -- the observables are lent as they stand
  abbrev lent : List ℕ
  lent = take (p.entry + h.detectors + h.observables - (p.entry + h.detectors)) (drop (p.entry + h.detectors) es)

  row_is_lent : (mechanism_at h p cds cos es).symptom.observables ≡ lent
  unfolding mechanism_at first_of
  row_is_lent =
      let k : p.entry + h.detectors + h.observables - (p.entry + h.detectors) ≡ h.observables = omega arith in
      rw (k, drop-drop h.detectors p.entry es)

  edge_same : (v : ℕ) → v ≡ second_end h.detectors p.entry es
      → edge_with (get_or es p.entry 0) v h.probability lent ≡ edge_of (mechanism_at h p cds cos es) (get_or es p.entry 0) (second_end h.detectors p.entry es)
  unfolding mechanism_at first_of
  edge_same v e = rw (e, ← row_is_lent)

-- a mechanism that passes its check, in tables that it lies inside
pub record Passed (d o i : ℕ) (h : Mechanism) (p : Place) (cds cos es : List ℕ) : Type 0 where
  pub fits : check_mechanism d o i (mechanism_at h p cds cos es) ≡ Ok tt
  pub inside : Inside h p cds cos es

module _ {d o i : ℕ} {h : Mechanism} {p : Place} {cds cos es : List ℕ} (c : Passed d o i h p cds cos es) where
  -- its observables fit
  pub row_fits : list_fits o (lent h p cds cos es) ≡ true
  unfolding lists_fit symptom_fits
  row_fits =
      let m = mechanism_at h p cds cos es in
      let own = symptom_fits d o m.symptom in
      let a = and_left own (leb (length m.components) max_entries && symptoms_fit d o m.components) (mechanism_fits d o i m c.fits).lists in
      sym (ap (list_fits o) (row_is_lent h p cds cos es)) ∙ and_right (list_fits d m.symptom.detectors) (list_fits o m.symptom.observables) a

  own : p.entry + (h.detectors + h.observables) ≤ length es
  own = let k = c.inside.entries in omega arith

  long : length (take h.detectors (drop p.entry es)) ≡ h.detectors
  long = let k = own in simp (length-take, length-drop) (omega arith)

  -- the first detector is one
  pub first_below : 0 < h.detectors → get_or es p.entry 0 < d
  unfolding mechanism_at first_of
  first_below k =
      let m = mechanism_at h p cds cos es in
      let f : get_or (take h.detectors (drop p.entry es)) 0 0 < d = (mechanism_fits d o i m c.fits).symptom.detectors.below 0 (rw long k) in
      let e : p.entry + 0 ≡ p.entry = omega arith in
      omega (arith, f, get_or-take h.detectors (drop p.entry es) 0 0 k, get_or-drop p.entry es 0 0 ∙ ap (λ (at : ℕ). get_or es at 0) e)

  module _ (n : ℕ) (entry : Slices) where
    -- zero, also minus zero
    pub skips_zero : is_zero h.probability ≡ true → Joins o n (step d o i (mechanism_at h p cds cos es)) (Ok n) entry entry
    unfolding join_next mechanism_at first_of
    skips_zero z old was len t = rw (c.fits, z) (ap Ok (sym len), t)

    module _ (z : is_zero h.probability ≡ false) where
      -- no detectors
      pub skips_empty : h.detectors ≡ 0 → Joins o n (step d o i (mechanism_at h p cds cos es)) (Ok n) entry entry
      unfolding join_next join_by mechanism_at first_of
      skips_empty k old was len t = rw (c.fits, z, k) (ap Ok (sym len), t)

      -- 7
      pub is_large : (exit : Slices) → 2 < h.detectors → Joins o n (step d o i (mechanism_at h p cds cos es)) (Err (NotGraphlike i)) entry exit
      unfolding join_next mechanism_at first_of
      is_large exit k old was len t = rw (c.fits, z, join_many i (mechanism_at h p cds cos es) old (take h.detectors (drop p.entry es)) (rw long k)) refl

      -- an edge
      pub is_edge : (exit : Slices) (v r : ℕ) → 0 < h.detectors → h.detectors ≤ 2 → v ≡ second_end h.detectors p.entry es
          → Shares o n (edge_with (get_or es p.entry 0) v h.probability (lent h p cds cos es)) r entry exit
          → Joins o n (step d o i (mechanism_at h p cds cos es)) (Ok r) entry exit
      unfolding join_next mechanism_at first_of
      is_edge exit v r k l e s old was len t =
          let q = own in
          let (a, b) = subst (λ (x : Edge). Shares o n x r entry exit) (edge_same h p cds cos es v e) s old was len t in
          rw (c.fits, z, join_few i (mechanism_at h p cds cos es) old h.detectors p.entry es (omega arith) k l) (ap Ok a, b)
