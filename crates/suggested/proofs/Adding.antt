-- A component added to the model in its tables.
use Rattle.std.specs.Prelude.{Option}
use Rattle.std.specs.Prelude.{Some, None}
use Prim.Native.Nat.{ℕ, ◌+◌, ◌-◌, ◌<◌, ◌≤◌}
use native.Mathlib.Omega.{arith}
use mathlib.Core.Path.{◌≡◌, refl, sym, ap, ap₂, ◌∙◌, subst}
use mathlib.Core.List.{List, [], ◌∷◌, ◌++◌}
use mathlib.Core.Bool.{Bool, true, false, ◌&&◌}
use lib.Dec.{eqb, leb, ltb}
use lib.IntN.{pos}
use lib.Ieee.{Float, fin}
use lib.ListN.{length, get_or, set, take, drop, length-append, length-set, get_or-append, length-drop}
use lib.Seq.{get_or-append_seam, length-take-le}
use borrow.Author.Tests.{eqb-true, eqb-false, ltb-true, leb-true}
use Rattle.lists.proofs.Truth.{case-of, and_left, and_right}
use Rattle.dem.specs.Model.{Symptom, ErrorMechanism}
use Rattle.dem.specs.Tables.{Tables, tables_of, written, symptom_entries}
use Rattle.dem.specs.Decompose.{into, plus, add_at, same_symptom, last_equal, entries_of, has_place, add_component, add_next}
use Rattle.cover.specs.Kept.{symptom_at}
use Rattle.cover.specs.Search.{highest}
use Rattle.cover.proofs.Turn.{previous_some}
use Rattle.kept.proofs.Written.{written_set}
use Rattle.kept.proofs.Kept.{tables_append}
use Rattle.last_equal.specs.declared.Span.{Span}
use Rattle.suggested.specs.declared.Size.{Size}
use Rattle.probability.specs.Probability.{raised_at}
use Rattle.last_equal.specs.Last.{symptom_in, Component}
use Rattle.suggested.specs.Appended.{Appendable, Appended}
use Rattle.suggested.specs.Held.{places_of, size_of, place_for, Holds, Outcome, Roomy}
use Rattle.probability.proofs.Raising.{length_raised}
use Rattle.last_equal.proofs.Chain.{highest_cong}
use Rattle.suggested.proofs.Models.{raised_tables, raised_length, raised_entries, raised_symptom, raised_written, lengths, entries_append, last_is}
use Rattle.suggested.proofs.Appending.{more_detectors, more_observables, symptom_before, symptom_here}

module _ (ms : List ErrorMechanism) (was : Tables) (size : Size) (es starts counts others : List ℕ) (ps : List Float) (last before : List ℕ)
    (h : Holds ms was size es starts counts others ps last before) where
  -- p is added to one of them
  pub holds_raised : (p : Float) (k : ℕ) → k < length ms → Holds (add_at p k ms) was size es starts counts others (raised_at p k ps) last before
  holds_raised p k l =
      let n = raised_length p k ms in
      let t = raised_tables p k ms in
      record {
        sized = h.sized ∙ ap₂ {C = Size} (λ (a : ℕ) (b : ℕ). record { mechanisms = a; entries = b }) (sym n) (sym (raised_entries p k ms));
        detectors = rw n h.detectors;
        observables = rw n h.observables;
        symptoms = λ i z m. raised_symptom p k ms i z ∙ h.symptoms i z (rw n at m);
        probability = ap (raised_at p k) h.probability ∙ raised_written p k (tables_of ms).probability was.probability (omega (arith, (lengths ms).probability))
            ∙ ap (λ (u : Tables). written u.probability was.probability) (sym t);
        detector_counts = h.detector_counts ∙ ap (λ (u : Tables). written u.detector_counts was.detector_counts) (sym t);
        observable_counts = h.observable_counts ∙ ap (λ (u : Tables). written u.observable_counts was.observable_counts) (sym t);
        chains = rw n h.chains;
        fits = omega (arith, n, length_raised p k ps, h.fits);
      }

  module _ (s : Span) (room : Size) (p : Float) where
    many : size.mechanisms ≡ length ms
    many = ap (λ (u : Size). u.mechanisms) h.sized

    equal : last_equal (symptom_in es s) 0 ms ≡ highest (λ k. same_symptom (symptom_at starts counts others es k) (symptom_in es s)) size.mechanisms
    equal =
        let z : ErrorMechanism = record { probability = p; symptom = symptom_in es s; components = [] } in
        last_is (symptom_in es s) z ms
        ∙ highest_cong (λ k. same_symptom (get_or ms k z).symptom (symptom_in es s)) (λ k. same_symptom (symptom_at starts counts others es k) (symptom_in es s)) (length ms)
        (λ k l. ap (λ (r : Symptom). same_symptom r (symptom_in es s)) (h.symptoms k z l))
        ∙ ap (highest (λ k. same_symptom (symptom_at starts counts others es k) (symptom_in es s))) (sym many)

    module _ (k : ℕ) (e : Some k ≡ highest (λ k. same_symptom (symptom_at starts counts others es k) (symptom_in es s)) size.mechanisms) where
      pub found_below : k < length ms
      found_below = omega (arith, (previous_some (λ k. same_symptom (symptom_at starts counts others es k) (symptom_in es s)) size.mechanisms k e).0, many)

      pub add_found : Outcome (add_next (places_of room) p (symptom_in es s) (into ms)) was (Some size) es starts counts others (raised_at p k ps) last before
      unfolding add_component
      add_found =
          let g = holds_raised p k found_below in
          subst (λ (o : Option ℕ). Outcome (add_component (places_of room) p (symptom_in es s) ms o) was (Some size) es starts counts others (raised_at p k ps) last before) (e ∙ sym equal)
          (ap Some g.sized, rw (← g.sized) g)

    module _ (e : None ≡ highest (λ k. same_symptom (symptom_at starts counts others es k) (symptom_in es s)) size.mechanisms) (c : Component (length last) s es) where
      more : length (symptom_entries (symptom_in es s ∷ [])) ≡ s.detectors + s.observables
      unfolding symptom_entries
      more =
          let ds = take s.detectors (drop s.at es) in
          let os = take s.observables (drop (s.at + s.detectors) es) in
          let i = c.inside in
          omega (
            arith,
            length-append ds (os ++ []),
            length-append os [],
            length-take-le s.detectors (drop s.at es) (omega (arith, length-drop s.at es)),
            length-take-le s.observables (drop (s.at + s.detectors) es) (omega (arith, length-drop (s.at + s.detectors) es)),
          )

      place_is : has_place (places_of room) (symptom_in es s) ms ≡ place_for size room (s.detectors + s.observables)
      unfolding has_place
      place_is = rw (more, ap (λ (u : Size). u.mechanisms) h.sized, ap (λ (u : Size). u.entries) h.sized)

      pub add_full : place_for size room (s.detectors + s.observables) ≡ false
          → (starts' counts' others' : List ℕ) (ps' : List Float) (last' before' : List ℕ)
          → Outcome (add_next (places_of room) p (symptom_in es s) (into ms)) was None es starts' counts' others' ps' last' before'
      unfolding add_component
      add_full f starts' counts' others' ps' last' before' =
          subst (λ (o : Option ℕ). Outcome (add_component (places_of room) p (symptom_in es s) ms o) was None es starts' counts' others' ps' last' before') (e ∙ sym equal)
          (rw (place_is, f) (refl, refl))

      module _ (yes : place_for size room (s.detectors + s.observables) ≡ true) (r : Roomy 1 size room starts counts others ps before) where
        abbrev b1 : Bool
        b1 = ltb size.mechanisms room.mechanisms

        abbrev b2 : Bool
        b2 = ltb size.mechanisms 16384

        abbrev b3 : Bool
        b3 = leb (size.entries + (s.detectors + s.observables)) room.entries

        below_room : size.mechanisms < room.mechanisms
        below_room = ltb-true _ _ (and_left b1 (b2 && b3) yes)

        below_limit : size.mechanisms < 16384
        below_limit = ltb-true _ _ (and_left b2 b3 (and_right b1 (b2 && b3) yes))

        entries_fit : size.entries + (s.detectors + s.observables) ≤ room.entries
        entries_fit = leb-true _ _ (and_right b2 b3 (and_right b1 (b2 && b3) yes))

        appendable : Appendable s size.mechanisms es starts counts others ps last before
        appendable = record {
          component = c;
          detectors = rw many h.detectors;
          chains = rw many h.chains;
          few = below_limit;
          started = omega (arith, r.starts_hold);
          counted = omega (arith, below_room, r.counts_hold);
          observed = omega (arith, below_room, r.others_hold);
          probable = omega (arith, below_room, r.probability_hold);
          long = omega (arith, r.before_hold);
        }

        new : ErrorMechanism
        new = record { probability = plus (fin false 0 (pos 0)) p; symptom = symptom_in es s; components = [] }

        grown : length (ms ++ (new ∷ [])) ≡ size.mechanisms + 1
        grown = length-append ms (new ∷ []) ∙ ap (λ (k : ℕ). k + 1) (sym many)

        many_detectors : length (take s.detectors (drop s.at es)) ≡ s.detectors
        many_detectors = let i = c.inside in length-take-le s.detectors (drop s.at es) (omega (arith, length-drop s.at es))

        many_observables : length (take s.observables (drop (s.at + s.detectors) es)) ≡ s.observables
        many_observables = let i = c.inside in length-take-le s.observables (drop (s.at + s.detectors) es) (omega (arith, length-drop (s.at + s.detectors) es))

        entries_grown : entries_of (ms ++ (new ∷ [])) ≡ size.entries + (s.detectors + s.observables)
        unfolding entries_of new
        entries_grown = omega (arith, entries_append ms (new ∷ []), more, ap (λ (u : Size). u.entries) h.sized)

        -- a column that was written grows by one
        column : {A : Type 0} (xs mine old : List A) (v : A) → xs ≡ written mine old → length mine ≡ length ms → size.mechanisms < length xs
            → set xs size.mechanisms v ≡ written (mine ++ (v ∷ [])) old
        column xs mine old v e l f =
            let g : length xs ≡ length mine + (length old - length mine) = ap length e ∙ length-append mine (drop (length mine) old) ∙ ap (λ (k : ℕ). length mine + k) (length-drop (length mine) old) in
            ap (λ (t : List _). set t size.mechanisms v) e ∙ written_set mine old size.mechanisms v (many ∙ sym l) (omega (arith, many))

        module _ (starts' counts' others' : List ℕ) (ps' : List Float) (last' before' : List ℕ)
            (a : Appended s p size.mechanisms es starts counts others ps starts' counts' others' ps' last' before') (wide : length last' ≡ length last) where
          holds_new : Holds (ms ++ (new ∷ [])) was (size_of (ms ++ (new ∷ []))) es starts' counts' others' ps' last' before'
          unfolding tables_of new
          holds_new =
              let m = size.mechanisms in
              let q = appendable in
              let at = s.at in
              let d = s.detectors in
              let o = s.observables in
              let t = tables_append ms (new ∷ []) in
              record {
                sized = refl;
                detectors = rw (a.start, a.count, grown, wide) (more_detectors m at d o es starts counts others q.started q.counted (length last) q.detectors below_limit (omega (arith, c.inside)) c.detectors);
                observables = rw (a.start, a.count, a.other, grown)
                    (more_observables m at d o es starts counts others q.started q.counted q.observed (rw many h.observables) c.inside c.observables);
                symptoms = λ k z l. rw (a.start, a.count, a.other)
                    (case-of (eqb k m)
                    (λ u. let j = eqb-true k m u ∙ many in
                    ap (λ (i : ℕ). (get_or (ms ++ (new ∷ [])) i z).symptom) j ∙ ap (λ (w : ErrorMechanism). w.symptom) (get_or-append_seam ms new [] z)
                    ∙ sym (ap (symptom_at (set starts m at) (set counts m d) (set others m o) es) (eqb-true k m u) ∙ symptom_here m at d o es starts counts others q.started q.counted q.observed))
                    (λ u. let i : k < length ms = omega (arith, eqb-false k m u, l, grown, many) in
                    ap (λ (w : ErrorMechanism). w.symptom) (get_or-append ms (new ∷ []) z k i) ∙ h.symptoms k z i ∙ symptom_before m at d o es starts counts others k (omega (arith, many))));
                probability = a.probability ∙ column ps (tables_of ms).probability was.probability _ h.probability (lengths ms).probability q.probable
                    ∙ ap (λ (u : Tables). written u.probability was.probability) (sym t);
                detector_counts = a.count ∙ ap (λ (v : ℕ). set counts m v) (sym many_detectors)
                    ∙ column counts (tables_of ms).detector_counts was.detector_counts _ h.detector_counts (lengths ms).detector_counts q.counted
                    ∙ ap (λ (u : Tables). written u.detector_counts was.detector_counts) (sym t);
                observable_counts = a.other ∙ ap (λ (v : ℕ). set others m v) (sym many_observables)
                    ∙ column others (tables_of ms).observable_counts was.observable_counts _ h.observable_counts (lengths ms).observable_counts q.observed
                    ∙ ap (λ (u : Tables). written u.observable_counts was.observable_counts) (sym t);
                chains = rw grown a.chains;
                fits = omega (arith, grown, q.probable, ap length a.probability, length-set ps m (plus (fin false 0 (pos 0)) p));
              }

          pub add_new : Outcome (add_next (places_of room) p (symptom_in es s) (into ms)) was (Some (record { mechanisms = size.mechanisms + 1; entries = size.entries + (s.detectors + s.observables) })) es starts' counts' others' ps' last' before'
          unfolding add_component new
          add_new =
              subst (λ (x : Option ℕ). Outcome (add_component (places_of room) p (symptom_in es s) ms x) was (Some (record { mechanisms = size.mechanisms + 1; entries = size.entries + (s.detectors + s.observables) })) es starts' counts' others' ps' last' before') (e ∙ sym equal)
              (rw (place_is, yes) (ap₂ {C = (Option Size)} (λ (k : ℕ) (j : ℕ). Some (record { mechanisms = k; entries = j })) (sym grown) (sym entries_grown), holds_new))
