-- The tables that lines were read into, as the tables of a model.
use Rattle.std.specs.Prelude.{Ok, Err}
use Prim.Native.Nat.{ℕ, zero, suc, ◌-◌, ◌<◌, ◌≤◌}
use native.Mathlib.Omega.{arith}
use mathlib.Core.Path.{◌≡◌, refl, sym, ap, ap₂, ◌∙◌, subst}
use mathlib.Core.List.{List, [], ◌∷◌, ◌++◌, map}
use mathlib.Core.Bool.{true, false}
use mathlib.Core.Logic.{◌⊎◌, inl, inr}
use lib.IntN.{pos}
use lib.ListN.{length, get_or, take, drop, replicate, length-append, length-map, length-take, get_or-append, get_or-map}
use lib.Seq.{get_or-take}
use lib.Ieee as Ieee
use lib.Ieee.{Float, binary64, fin, nan}
use borrow.Author.Tests.{le-ltb, lt-ltb}
use Rattle.lists.proofs.Members.{get_d_any}
use Rattle.codes.specs.declared.Refusal.{Refusal}
use Rattle.codes.specs.declared.Refusal.TheVariants.{Short}
use Rattle.codes.specs.Order.{Checked}
use Rattle.codes.specs.Limits.{check_counts}
use Rattle.dem.specs.declared.Place.{Place}
use Rattle.dem.specs.Model.{check_model, probability_fits}
use Rattle.dem.specs.Tables.{Tables, model_of, tables_of, tables_hold, tables_written, written}
use Rattle.dem.specs.Positions.{tables, place_of, total}
use Rattle.dem.specs.Check.{check_all}
use Rattle.dem.proofs.Reading.{read_back, ends_written}
use Rattle.dem.proofs.Positions.{hold_of, components_sum, totals_are}
use Rattle.frames.specs.declared.State.{State}
use Rattle.frames.specs.Input.{Given, Input, mechanism_of, model_read, tables_read}
use Rattle.frames.proofs.FrameKinds.{held_of}
use Rattle.model_check.specs.Bits.{probability_of, Alike, Bytes}
use Rattle.model_check.proofs.Bits.{laws}
use Rattle.reader.specs.Columns.{Columns, columns, byte_of, columns_at, Holds}
use Rattle.reader.proofs.Stored.{read_long}
use Rattle.reader.proofs.Written.{written_at}
use Rattle.model_check.specs.ModelCheck.{model_tables, from_bits, check_read, ModelChecked}
use Rattle.model_check.proofs.Sums.{total_bytes, total_le}

begins_long : (xs col : List ℕ) → col ≡ written xs col → length xs ≤ length col
begins_long xs col e = omega (arith, ap length e, length-append xs (drop (length xs) col))

tables_eq : (p : List Float) (a1 b1 a2 b2 a3 b3 a4 b4 a5 b5 a6 b6 : List ℕ) → a1 ≡ b1 → a2 ≡ b2 → a3 ≡ b3 → a4 ≡ b4 → a5 ≡ b5 → a6 ≡ b6
    → tables p a1 a2 a3 a4 a5 a6 ≡ tables p b1 b2 b3 b4 b5 b6
tables_eq p a1 b1 a2 b2 a3 b3 a4 b4 a5 b5 a6 b6 p1 p2 p3 p4 p5 p6 = rw (p1, p2, p3, p4, p5, p6)

-- the probabilities of a model that was read
read_probability : (gs : List Given) (k : ℕ) → k < length gs → get_or (tables_read gs).probability k nan ≡ Ieee.of_bits binary64 (get_or (map (λ g. g.bits) gs) k 0)
unfolding tables_of
read_probability [] k h = absurd (omega arith)
read_probability (g ∷ gs) zero h = refl
read_probability (g ∷ gs) (suc k) h = read_probability gs k (omega arith)

probability_long : (gs : List Given) → length (tables_read gs).probability ≡ length gs
unfolding tables_of
probability_long [] = refl
probability_long (g ∷ gs) = ap suc (probability_long gs)

-- the same tables with every count whole
abbrev exact_tables : Input → Columns → Tables
exact_tables s c =
    let t = tables_read s.mechanisms in
    tables (written t.probability []) c.detector_counts c.observable_counts (written t.component_counts c.component_counts) c.component_detectors c.component_observables c.entries

module _ (s : Input) (c : Columns) (e : c ≡ columns_at s c) where
  bits_long : length s.mechanisms ≤ length c.bits
  unfolding columns_at
  bits_long = omega (arith, begins_long (map (λ g. g.bits) s.mechanisms) c.bits (ap (λ k. k.bits) e), length-map s.mechanisms (λ g. g.bits))

  exact_is : tables_written (model_read s.mechanisms)
      (tables [] c.detector_counts c.observable_counts c.component_counts c.component_detectors c.component_observables c.entries) ≡ exact_tables s c
  unfolding tables_written columns_at
  exact_is =
      tables_eq (written (tables_read s.mechanisms).probability []) _ _ _ _ _ _ _ _ _ _ _ _ (sym (ap (λ k. k.detector_counts) e)) (sym (ap (λ k. k.observable_counts) e)) refl
      (sym (ap (λ k. k.component_detectors) e)) (sym (ap (λ k. k.component_observables) e)) (sym (ap (λ k. k.entries) e))

  -- they hold the model that was read, and end where its tables end
  model_exact : model_of (length s.mechanisms) (exact_tables s c) ≡ model_read s.mechanisms
  model_exact =
      let was = tables [] c.detector_counts c.observable_counts c.component_counts c.component_detectors c.component_observables c.entries in
      ap₂ model_of (sym (length-map s.mechanisms mechanism_of)) (sym exact_is) ∙ read_back (model_read s.mechanisms) was

  place_exact : place_of (length s.mechanisms) (exact_tables s c)
      ≡ record { component = length (tables_read s.mechanisms).component_detectors; entry = length (tables_read s.mechanisms).entries }
  place_exact =
      let was = tables [] c.detector_counts c.observable_counts c.component_counts c.component_detectors c.component_observables c.entries in
      ap₂ place_of (sym (length-map s.mechanisms mechanism_of)) (sym exact_is) ∙ ends_written (model_read s.mechanisms) was

  bytes_of : Bytes (length s.mechanisms) (written (tables_read s.mechanisms).component_counts c.component_counts) c.component_counts
  unfolding columns_at
  bytes_of = λ k h.
      let counts = (tables_read s.mechanisms).component_counts in
      let long = (read_long s.mechanisms).component_counts in
      let inside : k < length counts = omega (arith, long) in
      written_at (map byte_of counts) c.component_counts (ap (λ k. k.component_counts) e) k (omega (arith, length-map counts byte_of))
      ∙ get_or-map byte_of counts k 0 ∙ ap byte_of (sym (get_or-append counts (drop (length counts) c.component_counts) 0 k inside))

  module _ (ps rest : List Float) (q : ps ≡ map probability_of (take (length s.mechanisms) c.bits) ++ rest) where
    long_column : length (map probability_of (take (length s.mechanisms) c.bits)) ≡ length s.mechanisms
    long_column = length-map (take (length s.mechanisms) c.bits) probability_of ∙ length-take (length s.mechanisms) c.bits ∙ omega (arith, bits_long)

    column_at : (k : ℕ) → k < length s.mechanisms → get_or ps k nan ≡ probability_of (get_or (map (λ g. g.bits) s.mechanisms) k 0)
    unfolding columns_at
    column_at k h =
        let n = length s.mechanisms in
        let front = map probability_of (take n c.bits) in
        let inside : k < length front = omega (arith, long_column) in
        ap (λ (l : List Float). get_or l k nan) q ∙ get_or-append front rest nan k inside ∙ get_d_any front k nan (probability_of 0) inside
        ∙ get_or-map probability_of (take n c.bits) k 0
        ∙ ap probability_of (get_or-take n c.bits k 0 h
        ∙ written_at (map (λ g. g.bits) s.mechanisms) c.bits (ap (λ k. k.bits) e) k (omega (arith, length-map s.mechanisms (λ g. g.bits))))

    exact_at : (k : ℕ) → k < length s.mechanisms → get_or (written (tables_read s.mechanisms).probability []) k nan ≡ Ieee.of_bits binary64 (get_or (map (λ g. g.bits) s.mechanisms) k 0)
    exact_at k h =
        let ns = (tables_read s.mechanisms).probability in
        get_or-append ns (drop (length ns) []) nan k (omega (arith, probability_long s.mechanisms)) ∙ read_probability s.mechanisms k h

    alike_of : Alike (length s.mechanisms) (written (tables_read s.mechanisms).probability []) ps
    alike_of = record {
      fits = λ k h. ap probability_fits (column_at k h) ∙ laws.fits_bits (get_or (map (λ g. g.bits) s.mechanisms) k 0) ∙ ap probability_fits (sym (exact_at k h));
      same = λ k h z. column_at k h ∙ laws.same_bits (get_or (map (λ g. g.bits) s.mechanisms) k 0) (sym (ap probability_fits (column_at k h)) ∙ z) ∙ sym (exact_at k h);
    }

    -- the check of the tables is the check of the model
    check_read_lem : (D O : ℕ) → check_model D O 0 (model_of (length s.mechanisms) (model_tables ps c)) ≡ check_model D O 0 (model_read s.mechanisms)
    check_read_lem D O =
        laws.check_alike (length s.mechanisms) D O 0 (written (tables_read s.mechanisms).probability []) ps c.detector_counts c.observable_counts
        (written (tables_read s.mechanisms).component_counts c.component_counts) c.component_counts c.component_detectors c.component_observables c.entries alike_of bytes_of
        ∙ ap (check_model D O 0) model_exact

    -- and a model that is accepted is the one that was read
    accepted_read : (D O : ℕ) → check_model D O 0 (model_of (length s.mechanisms) (model_tables ps c)) ≡ Ok tt → model_of (length s.mechanisms) (model_tables ps c) ≡ model_read s.mechanisms
    accepted_read D O a =
        laws.same_accepted (length s.mechanisms) D O 0 (written (tables_read s.mechanisms).probability []) ps c.detector_counts c.observable_counts
        (written (tables_read s.mechanisms).component_counts c.component_counts) c.component_counts c.component_detectors c.component_observables c.entries alike_of bytes_of a
        ∙ model_exact

    -- the tables hold what their counts tell of
    hold_read : tables_hold (length s.mechanisms) (model_tables ps c) ≡ true
    unfolding columns_at
    hold_read =
        let n = length s.mechanisms in
        let t = model_tables ps c in
        let x = exact_tables s c in
        let r = tables_read s.mechanisms in
        let long = read_long s.mechanisms in
        let fewer = total_bytes n x.component_counts c.component_counts bytes_of in
        let at-t = totals_are n t (total (take (n - 0) t.component_counts)) _ _ _ _ refl refl refl refl refl in
        let at_x = totals_are n x (total (take (n - 0) x.component_counts)) _ _ _ _ refl refl refl refl refl in
        let z : n - 0 ≡ n = omega arith in
        let a : total (take (n - 0) t.component_counts) ≤ total (take (n - 0) x.component_counts) = rw z fewer in
        let b : total (take (n - 0) t.component_counts) - 0 ≤ total (take (n - 0) x.component_counts) - 0 = omega (arith, a) in
        hold_of n t (record {
          probability = omega (arith, ap length q, length-append (map probability_of (take n c.bits)) rest, long_column);
          detectors = omega (arith, begins_long r.detector_counts c.detector_counts (ap (λ k. k.detector_counts) e), long.detector_counts);
          observables = omega (arith, begins_long r.observable_counts c.observable_counts (ap (λ k. k.observable_counts) e), long.observable_counts);
          components = omega (arith, begins_long (map byte_of r.component_counts) c.component_counts (ap (λ k. k.component_counts) e), length-map r.component_counts byte_of, long.component_counts);
          component_detectors = omega (
            arith,
            components_sum n t,
            components_sum n x,
            fewer,
            ap (λ (p : Place). p.component) place_exact,
            begins_long r.component_detectors c.component_detectors (ap (λ k. k.component_detectors) e),
          );
          component_observables = omega (
            arith,
            components_sum n t,
            components_sum n x,
            fewer,
            ap (λ (p : Place). p.component) place_exact,
            long.component_observables,
            begins_long r.component_observables c.component_observables (ap (λ k. k.component_observables) e),
          );
          entries = omega (
            arith,
            ap (λ (p : Place). p.entry) at-t,
            ap (λ (p : Place). p.entry) at_x,
            total_le (total (take (n - 0) t.component_counts) - 0) (total (take (n - 0) x.component_counts) - 0) c.component_detectors b,
            total_le (total (take (n - 0) t.component_counts) - 0) (total (take (n - 0) x.component_counts) - 0) c.component_observables b,
            ap (λ (p : Place). p.entry) place_exact,
            begins_long r.entries c.entries (ap (λ k. k.entries) e),
          );
        })

    -- all checks, in order
    all_read : (D O : ℕ) → D ≤ 256 → O ≤ 128 → length s.mechanisms ≤ 1024 → check_all D O (length s.mechanisms) (model_tables ps c) ≡ check_model D O 0 (model_read s.mechanisms)
    unfolding check_counts
    all_read D O hd ho hm =
        rw (le-ltb 4096 D (omega arith), le-ltb 128 O ho, le-ltb 16384 (length s.mechanisms) (omega arith), hold_read) (check_read_lem D O)

-- ---- the contract

module _ (n : State) (bs ds os cs cds cos es : List ℕ) (was : List Float) where
  -- the bits or the column are too short
  pub short : (length bs < n.mechanisms) ⊎ (n.mechanisms ≤ length bs) × (length was < n.mechanisms) → (r : Checked) (ps : List Float) → r ≡ Err Short
      → ps ≡ replicate (length was) (fin false 0 (pos 0)) → ModelChecked n bs ds os cs cds cos es was r ps
  unfolding check_read
  short (inl h) r ps e q = record {
    answers = λ ws ts. rw (lt-ltb (length bs) n.mechanisms h) e;
    column = rw e q;
    answer = λ s ws ts k _. absurd (too_short s ws ts k);
    model = λ s ws ts k _ _. absurd (too_short s ws ts k);
  }
    where
      too_short : (s : Input) (ws ts : List ℕ) → Holds s n (columns bs ds os cs cds cos es ws ts) → ⊥
      too_short s ws ts k =
          omega (arith, h, ap (λ (m : State). m.mechanisms) k.counts, bits_long s (columns bs ds os cs cds cos es ws ts) k.tables)
  short (inr (hb, h)) r ps e q = record {
    answers = λ ws ts. rw (le-ltb (length bs) n.mechanisms hb, lt-ltb (length was) n.mechanisms h) e;
    column = rw e q;
    answer = λ s ws ts _ k. absurd (omega (arith, h, k));
    model = λ s ws ts _ k _. absurd (omega (arith, h, k));
  }

  module _ (hb : n.mechanisms ≤ length bs) (hw : n.mechanisms ≤ length was) (mid : List Float) (q : mid ≡ from_bits n.mechanisms bs was) where
    abbrev all : Checked
    all = check_all n.detectors n.observables n.mechanisms (tables mid ds os cs cds cos es)

    by : (s : Input) (ws ts : List ℕ) → Holds s n (columns bs ds os cs cds cos es ws ts)
        → (all ≡ check_model n.detectors n.observables 0 (model_read s.mechanisms)) × (all ≡ Ok tt → model_of n.mechanisms (tables mid ds os cs cds cos es) ≡ model_read s.mechanisms)
    by s ws ts k =
        let c = columns bs ds os cs cds cos es ws ts in
        let m : n.mechanisms ≡ length s.mechanisms = ap (λ (m : State). m.mechanisms) k.counts in
        let q' = rw m at q in
        let h = held_of n k.within in
        let all = all_read s c k.tables mid (drop (length s.mechanisms) was) q' n.detectors n.observables h.detectors h.observables (omega (arith, h.mechanisms, m)) in
        let same = check_read_lem s c k.tables mid (drop (length s.mechanisms) was) q' n.detectors n.observables in
        rw m (all, λ a. accepted_read s c k.tables mid (drop (length s.mechanisms) was) q' n.detectors n.observables (same ∙ sym all ∙ a))

    answers_of : (r : Checked) (ws ts : List ℕ) → r ≡ all → r ≡ check_read n (columns bs ds os cs cds cos es ws ts) was
    unfolding check_read
    answers_of r ws ts e =
        rw (le-ltb (length bs) n.mechanisms hb, le-ltb (length was) n.mechanisms hw)
        (subst (λ (l : List Float). r ≡ check_all n.detectors n.observables n.mechanisms (tables l ds os cs cds cos es)) q e)

    -- a refusal of the check
    pub checked_refused : (x : Refusal) (r : Checked) (ps : List Float) → Err x ≡ all → r ≡ Err x → ps ≡ replicate (length was) (fin false 0 (pos 0))
        → ModelChecked n bs ds os cs cds cos es was r ps
    checked_refused x r ps e a z = record {
      answers = λ ws ts. answers_of r ws ts (a ∙ e);
      column = rw a z;
      answer = λ s ws ts k _. a ∙ e ∙ (by s ws ts k).0;
      model = λ s ws ts k _ b. let e : ◌≡◌ {A = Checked} (Err x) (Ok tt) = sym a ∙ b in cc;
    }

    -- a model that is accepted
    pub checked_accepted : Ok tt ≡ all → ModelChecked n bs ds os cs cds cos es was (Ok tt) mid
    checked_accepted e = record {
      answers = λ ws ts. answers_of (Ok tt) ws ts e;
      column = q;
      answer = λ s ws ts k _. e ∙ (by s ws ts k).0;
      model = λ s ws ts k _ a. (by s ws ts k).1 (sym e);
    }
