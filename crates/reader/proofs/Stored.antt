-- What a frame stores makes the tables of what is read with it.
use Prim.Native.Nat.{ℕ, suc, ◌+◌, ◌-◌, ◌<◌, ◌≤◌}
use native.Mathlib.Omega.{arith}
use mathlib.Core.Path.{◌≡◌, refl, sym, ap, ap₂, ◌∙◌}
use mathlib.Core.List.{List, [], ◌∷◌, ◌++◌, map}
use mathlib.Core.Bool.{true}
use lib.ListN.{length, get_or, set, length-append, length-map}
use lib.Seq.{sets}
use lib.Dec.{leb}
use borrow.Author.Tests.{leb-true}
use Rattle.lists.proofs.Truth.{and_left, and_right}
use Rattle.dem.specs.Model.{Symptom}
use Rattle.dem.specs.Tables.{written, tables_of, component_detectors, component_observables}
use Rattle.frames.specs.Frames.{Frame, header, mechanism, component, end, row, truth}
use Rattle.frames.specs.Input.{Given, Input, tables_read, after}
use Rattle.frames.specs.Counts.{counts_of, count_after}
use Rattle.frames.proofs.FrameKinds.{Held}
use Rattle.frames.proofs.ReadTables.{bits_fresh, detectors_fresh, observables_fresh, components_fresh, theirs_fresh, theirs_fresh', entries_fresh, bits_with, detectors_with, observables_with, components_with, theirs_with, theirs_with', entries_with}
use Rattle.frames.proofs.Answers.{Follows}
use Rattle.reader.specs.Columns.{Columns, columns, byte_of, columns_at, roomy, listed, stored_frame}
use Rattle.reader.proofs.Written.{written_more, written_put, written_at, written_front, bytes_more}

-- ---- the places

pub record Room (c : Columns) : Type 0 where
  pub bits : 1024 ≤ length c.bits
  pub detector_counts : 1024 ≤ length c.detector_counts
  pub observable_counts : 1024 ≤ length c.observable_counts
  pub component_counts : 1024 ≤ length c.component_counts
  pub component_detectors : 1024 ≤ length c.component_detectors
  pub component_observables : 1024 ≤ length c.component_observables
  pub entries : 8192 ≤ length c.entries
  pub row : 4 ≤ length c.row
  pub truth : 2 ≤ length c.truth

pub room_of_lem : (c : Columns) → roomy c ≡ true → Room c
room_of_lem c h =
    let h1 = and_right (leb 1024 (length c.bits)) _ h in
    let h2 = and_right (leb 1024 (length c.detector_counts)) _ h1 in
    let h3 = and_right (leb 1024 (length c.observable_counts)) _ h2 in
    let h4 = and_right (leb 1024 (length c.component_counts)) _ h3 in
    let h5 = and_right (leb 1024 (length c.component_detectors)) _ h4 in
    let h6 = and_right (leb 1024 (length c.component_observables)) _ h5 in
    let h7 = and_right (leb 8192 (length c.entries)) _ h6 in
    record {
      bits = leb-true _ _ (and_left (leb 1024 (length c.bits)) _ h);
      detector_counts = leb-true _ _ (and_left (leb 1024 (length c.detector_counts)) _ h1);
      observable_counts = leb-true _ _ (and_left (leb 1024 (length c.observable_counts)) _ h2);
      component_counts = leb-true _ _ (and_left (leb 1024 (length c.component_counts)) _ h3);
      component_detectors = leb-true _ _ (and_left (leb 1024 (length c.component_detectors)) _ h4);
      component_observables = leb-true _ _ (and_left (leb 1024 (length c.component_observables)) _ h5);
      entries = leb-true _ _ (and_left (leb 8192 (length c.entries)) _ h6);
      row = leb-true _ _ (and_left (leb 4 (length c.row)) _ h7);
      truth = leb-true _ _ (and_right (leb 4 (length c.row)) _ h7);
    }

-- the words of a row or of true observables fit
abbrev pub WordsFit : Frame → Type 0
WordsFit (header D O) = Unit
WordsFit (mechanism p y) = Unit
WordsFit (component y) = Unit
WordsFit end = Unit
WordsFit (row ws) = length ws ≤ 4
WordsFit (truth ws) = length ws ≤ 2

-- ---- columns

pub columns_eq : (a1 b1 a2 b2 a3 b3 a4 b4 a5 b5 a6 b6 a7 b7 a8 b8 a9 b9 : List ℕ)
    → a1 ≡ b1 → a2 ≡ b2 → a3 ≡ b3 → a4 ≡ b4 → a5 ≡ b5 → a6 ≡ b6 → a7 ≡ b7 → a8 ≡ b8 → a9 ≡ b9
    → columns a1 a2 a3 a4 a5 a6 a7 a8 a9 ≡ columns b1 b2 b3 b4 b5 b6 b7 b8 b9
columns_eq a1 b1 a2 b2 a3 b3 a4 b4 a5 b5 a6 b6 a7 b7 a8 b8 a9 b9 p1 p2 p3 p4 p5 p6 p7 p8 p9 = rw (p1, p2, p3, p4, p5, p6, p7, p8, p9)

counts_long : (cs : List Symptom) → length (component_observables cs) ≡ length (component_detectors cs)
unfolding component_detectors component_observables
counts_long [] = refl
counts_long (c ∷ cs) = ap suc (counts_long cs)

-- the columns of a model have its length
pub record Long (gs : List Given) : Type 0 where
  pub detector_counts : length (tables_read gs).detector_counts ≡ length gs
  pub observable_counts : length (tables_read gs).observable_counts ≡ length gs
  pub component_counts : length (tables_read gs).component_counts ≡ length gs
  pub component_observables : length (tables_read gs).component_observables ≡ length (tables_read gs).component_detectors

pub read_long : (gs : List Given) → Long gs
unfolding tables_of
read_long [] = record { detector_counts = refl; observable_counts = refl; component_counts = refl; component_observables = refl }
read_long (g ∷ gs) =
    let h = read_long gs in
    let ds = component_detectors g.components in
    let os = component_observables g.components in
    let t = tables_read gs in
    record {
      detector_counts = ap suc h.detector_counts;
      observable_counts = ap suc h.observable_counts;
      component_counts = ap suc h.component_counts;
      component_observables = length-append os t.component_observables ∙ ap₂ ◌+◌ (counts_long g.components) h.component_observables ∙ sym (length-append ds t.component_detectors);
    }

-- one entry more, a list more, none
put_one : (xs zs col : List ℕ) (k v : ℕ) → col ≡ written xs col → k ≡ length xs → length xs < length col → zs ≡ xs ++ (v ∷ []) → set col k v ≡ written zs col
put_one xs zs col k v e p h q =
    ap (λ (j : ℕ). set col j v) p ∙ written_more xs col e (v ∷ []) (omega arith) ∙ ap (λ (l : List ℕ). written l col) (sym q)

put_list : (xs ys zs col : List ℕ) → col ≡ written xs col → length xs + length ys ≤ length col → zs ≡ xs ++ ys → sets col (length xs) ys ≡ written zs col
put_list xs ys zs col e h q = written_more xs col e ys h ∙ ap (λ (l : List ℕ). written l col) (sym q)

put_none : (xs zs col : List ℕ) → col ≡ written xs col → zs ≡ xs → col ≡ written zs col
put_none xs zs col e q = e ∙ ap (λ (l : List ℕ). written l col) (sym q)

bytes_fresh : (l : List ℕ) → map byte_of (l ++ (0 ∷ [])) ≡ map byte_of l ++ (0 ∷ [])
bytes_fresh [] = refl
bytes_fresh (x ∷ l) = ap {B = List ℕ} (λ r. byte_of x ∷ r) (bytes_fresh l)

-- ---- each frame

module _ (s : Input) (c : Columns) (e : c ≡ columns_at s c) (r : Room c) where
  pub store_mechanism : (p : ℕ) (y : Symptom) → Held (count_after (counts_of s) (mechanism p y)) → stored_frame (counts_of s) (mechanism p y) c ≡ columns_at (after s (mechanism p y)) c
  unfolding stored_frame columns_at after count_after
  store_mechanism p y h =
      let gs = s.mechanisms in
      let t = tables_read gs in
      let long = read_long gs in
      columns_eq _ _ _ _ _ _ _ _ _ _ _ _ _ _ _ _ _ _
      (put_one (map (λ g. g.bits) gs) _ c.bits (length gs) p (ap (λ k. k.bits) e) (sym (length-map gs (λ g. g.bits)))
      (omega (arith, length-map gs (λ g. g.bits), h.mechanisms, r.bits)) (bits_fresh p y gs))
      (put_one t.detector_counts _ c.detector_counts (length gs) (length y.detectors) (ap (λ k. k.detector_counts) e) (sym long.detector_counts)
      (omega (arith, long.detector_counts, h.mechanisms, r.detector_counts)) (detectors_fresh p y gs))
      (put_one t.observable_counts _ c.observable_counts (length gs) (length y.observables) (ap (λ k. k.observable_counts) e) (sym long.observable_counts)
      (omega (arith, long.observable_counts, h.mechanisms, r.observable_counts)) (observables_fresh p y gs))
      (put_one (map byte_of t.component_counts) _ c.component_counts (length gs) 0 (ap (λ k. k.component_counts) e)
      (sym (length-map t.component_counts byte_of ∙ long.component_counts))
      (omega (arith, length-map t.component_counts byte_of, long.component_counts, h.mechanisms, r.component_counts))
      (ap (map byte_of) (components_fresh p y gs) ∙ bytes_fresh t.component_counts))
      (put_none t.component_detectors _ c.component_detectors (ap (λ k. k.component_detectors) e) (theirs_fresh p y gs))
      (put_none t.component_observables _ c.component_observables (ap (λ k. k.component_observables) e) (theirs_fresh' p y gs))
      (put_list t.entries (listed y) _ c.entries (ap (λ k. k.entries) e)
      (omega (arith, length-append y.detectors y.observables, h.entries, r.entries)) (entries_fresh p y gs))
      (ap (λ k. k.row) e)
      (ap (λ k. k.truth) e)

  pub store_component : (y : Symptom) → 0 < length s.mechanisms → Held (count_after (counts_of s) (component y))
      → stored_frame (counts_of s) (component y) c ≡ columns_at (after s (component y)) c
  unfolding stored_frame columns_at after count_after
  store_component y f h =
      let gs = s.mechanisms in
      let t = tables_read gs in
      let long = read_long gs in
      let i = length gs - 1 in
      let cs = map byte_of t.component_counts in
      let q : c.component_counts ≡ written cs c.component_counts = ap (λ k. k.component_counts) e in
      let inside : i < length cs = omega (arith, length-map t.component_counts byte_of, long.component_counts) in
      columns_eq _ _ _ _ _ _ _ _ _ _ _ _ _ _ _ _ _ _
      (put_none (map (λ g. g.bits) gs) _ c.bits (ap (λ k. k.bits) e) (bits_with y gs))
      (put_none t.detector_counts _ c.detector_counts (ap (λ k. k.detector_counts) e) (detectors_with y gs))
      (put_none t.observable_counts _ c.observable_counts (ap (λ k. k.observable_counts) e) (observables_with y gs))
      (ap (λ (v : ℕ). set c.component_counts i (byte_of (v + 1))) (written_at cs c.component_counts q i inside)
      ∙ written_put cs c.component_counts q i (byte_of (get_or cs i 0 + 1)) inside
      ∙ ap (λ (l : List ℕ). written l c.component_counts) (bytes_more t.component_counts i ∙ ap (map byte_of) (sym (components_with y gs))))
      (put_one t.component_detectors _ c.component_detectors (length t.component_detectors) (length y.detectors) (ap (λ k. k.component_detectors) e) refl
      (omega (arith, h.components, r.component_detectors)) (theirs_with y gs f))
      (put_one t.component_observables _ c.component_observables (length t.component_detectors) (length y.observables) (ap (λ k. k.component_observables) e)
      (sym long.component_observables) (omega (arith, long.component_observables, h.components, r.component_observables)) (theirs_with' y gs f))
      (put_list t.entries (listed y) _ c.entries (ap (λ k. k.entries) e)
      (omega (arith, length-append y.detectors y.observables, h.entries, r.entries)) (entries_with y gs f))
      (ap (λ k. k.row) e)
      (ap (λ k. k.truth) e)

  pub store_frame : (f : Frame) → Follows s f → WordsFit f → Held (count_after (counts_of s) f) → stored_frame (counts_of s) f c ≡ columns_at (after s f) c
  unfolding stored_frame columns_at after
  store_frame (header D O) _ _ h = e
  store_frame (mechanism p y) _ _ h = store_mechanism p y h
  store_frame (component y) f _ h = store_component y f h
  store_frame end _ _ h = e
  store_frame (row ws) _ w h =
      columns_eq _ _ _ _ _ _ _ _ _ _ _ _ _ _ _ _ _ _ (ap (λ k. k.bits) e) (ap (λ k. k.detector_counts) e) (ap (λ k. k.observable_counts) e) (ap (λ k. k.component_counts) e)
      (ap (λ k. k.component_detectors) e) (ap (λ k. k.component_observables) e) (ap (λ k. k.entries) e) (written_front ws c.row (omega (arith, r.row))) (ap (λ k. k.truth) e)
  store_frame (truth ws) _ w h =
      columns_eq _ _ _ _ _ _ _ _ _ _ _ _ _ _ _ _ _ _ (ap (λ k. k.bits) e) (ap (λ k. k.detector_counts) e) (ap (λ k. k.observable_counts) e) (ap (λ k. k.component_counts) e)
      (ap (λ k. k.component_detectors) e) (ap (λ k. k.component_observables) e) (ap (λ k. k.entries) e) (ap (λ k. k.row) e) (written_front ws c.truth (omega (arith, r.truth)))
