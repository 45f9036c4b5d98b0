-- 06: the lines of a shot.
use Rattle.std.specs.Prelude.{Result, Ok, Err}
use Prim.Native.Nat.{ℕ, ◌+◌, ◌-◌, ◌<◌, ◌≤◌}
use native.Mathlib.Omega.{arith}
use mathlib.Core.Path.{◌≡◌, refl, sym, ap, ◌∙◌}
use mathlib.Core.Bool.{Bool, true, false}
use mathlib.Core.List.{List, []}
use lib.ListN.{length}
use lib.Dec.{ltb}
use lib.Ieee.{Float}
use borrow.Author.Tests.{lt-ltb, le-ltb, ltb-true}
use borrow.Rule.Slice.PartMut.{mid_of}
use Rattle.codes.specs.declared.Refusal.{Refusal}
use Rattle.codes.specs.declared.Refusal.TheVariants.{Limit}
use Rattle.bits.specs.Rows.{words}
use Rattle.dem.specs.Tables.{written}
use Rattle.edges.specs.declared.EdgeTables.{EdgeTables}
use Rattle.edges.specs.Lent.{slices_of}
use Rattle.edges.specs.Tables.{Slices, flat}
use Rattle.frames.specs.declared.State.{State}
use Rattle.frames.specs.Input.{Input}
use Rattle.frames.specs.Counts.{counts_of}
use Rattle.frames.proofs.FrameKinds.{held_of}
use Rattle.reader.specs.Columns.{Columns, columns, columns_at}
use Rattle.reader.proofs.Stored.{room_of_lem}
use Rattle.shot_reply.specs.declared.Reply.{Reply}
use Rattle.shot_reply.specs.Outcome.{Outcome, told, refused, shot_outcome}
use Rattle.shot_reply.specs.Replied.{Replied}
use Rattle.replies.specs.Last.{refusal_text}
use Rattle.session.specs.declared.Numbers.{Numbers}
use Rattle.std.specs.declared.ops.ControlFlow.TheVariants.{Continue, Break}
use Rattle.session.specs.Output.{Session, max_count, one, decoded, shot_read, counted, at_shot}
use Rattle.session.specs.Kept.{Told, numbers_of, KeptOn, Tells, Reads, ShotBy, ShotSome}
use Rattle.session.proofs.Fronts.{front_fits, front_is, Left, kept_on}

-- ---- one more

one_few : (b : Bool) → one b ≤ 1
one_few true = omega arith
one_few false = omega arith

module _ (s : Session) (t : Input) (c : Columns) (g : Slices) (r : Reads s t 6 (numbers_of s) (counts_of t) c g) where
  -- a shot leaves the tables as they are
  left_by : s.shots < max_count → (x : Outcome) → Left (decoded s t x) c g
  left_by few (refused y) = tt
  left_by few (told text f) = record {
    within = r.within;
    tables = r.tables;
    row = r.row;
    graph = r.graph;
    shots = omega (arith, few);
    failures = omega (arith, r.failures, one_few f);
  }

  left_counted : (b : Bool) → ltb s.shots max_count ≡ b → Left (counted b s t) c g
  left_counted false e = tt
  left_counted true e = left_by (ltb-true s.shots max_count e) (shot_read s.graph t)

  pub shot_left : KeptOn (at_shot s t) c g
  unfolding at_shot
  shot_left = kept_on (counted (ltb s.shots max_count) s t) c g (left_counted (ltb s.shots max_count) refl)

  full : s.shots ≡ max_count → (was out : List ℕ) (z : Told) → (z ≡ Break (length (refusal_text Limit))) × (out ≡ written (refusal_text Limit) was) → Tells (at_shot s t) z was out
  unfolding at_shot
  full e was out z p = rw (le-ltb s.shots max_count (omega (arith, e))) (record { told = p.0; text = p.1 })

  module _ (few : s.shots < max_count) (was mid : List ℕ) where
    on_by : (p : Reply) (x : Outcome) → Replied x (Ok p) was mid
        → (z : Told) → z ≡ Continue (record { numbers = record { state = counts_of t; edges = length s.graph.edge_u; words = length (flat s.graph.edge_obs); shots = s.shots + 1; failures = s.failures + one p.failed }; written = p.written })
        → Tells (decoded s t x) z was mid
    on_by p (refused y) r z e = let h : ◌≡◌ {A = Result Reply Refusal} (Ok p) (Err y) = r.answer in cc
    on_by p (told text v) r z e =
        let h : ◌≡◌ {A = Result Reply Refusal} (Ok p) (Ok (record { written = length text; failed = v })) = r.answer in
        let same : p ≡ record { written = length text; failed = v } = cc in
        record { told = rw same at e; text = r.text }

    refused_by : (y : Refusal) (x : Outcome) → Replied x (Err y) was mid → (z : Told) (out : List ℕ) → (z ≡ Break (length (refusal_text y))) × (out ≡ written (refusal_text y) mid)
        → Tells (decoded s t x) z was out
    refused_by y (told text v) r z out e = let h : ◌≡◌ {A = Result Reply Refusal} (Err y) (Ok (record { written = length text; failed = v })) = r.answer in cc
    refused_by y (refused u) r z out e =
        let h : ◌≡◌ {A = Result Reply Refusal} (Err y) (Err u) = r.answer in
        let a : y ≡ u = cc in
        let m : mid ≡ was = r.text in
        record { told = rw (← a) e.0; text = rw (← a, ← m) e.1 }

    pub shot_on : (p : Reply) → Replied (shot_read s.graph t) (Ok p) was mid
        → (z : Told) → z ≡ Continue (record { numbers = record { state = counts_of t; edges = length s.graph.edge_u; words = length (flat s.graph.edge_obs); shots = s.shots + 1; failures = s.failures + one p.failed }; written = p.written })
        → Tells (at_shot s t) z was mid
    unfolding at_shot
    shot_on p r z e = rw (lt-ltb s.shots max_count few) (on_by p (shot_read s.graph t) r z e)

    pub shot_refused : (y : Refusal) → Replied (shot_read s.graph t) (Err y) was mid → (z : Told) (out : List ℕ) → (z ≡ Break (length (refusal_text y))) × (out ≡ written (refusal_text y) mid)
        → Tells (at_shot s t) z was out
    unfolding at_shot
    shot_refused y p z out e = rw (lt-ltb s.shots max_count few) (refused_by y (shot_read s.graph t) p z out e)

-- ---- the shot, from the tables

module _ (n : Numbers) (state : State) (ws ts : List ℕ) (lent : EdgeTables) where
  -- the parts of the tables that are in use
  abbrev pub cut : ℕ → ℕ → Outcome
  cut rows truths = shot_outcome state.detectors state.observables n.edges (mid_of 0 (n.edges - 0) lent.edge_u.now) (mid_of 0 (n.edges - 0) lent.edge_v.now)
      (mid_of 0 (n.edges - 0) lent.edge_weight.now) (mid_of 0 (n.words - 0) lent.edge_obs.now)
      (mid_of 0 (rows - 0) ws) (mid_of 0 (truths - 0) ts)

  same_shot : (D O k : ℕ) (D' O' k' : ℕ) (a a' b b' : List ℕ) (w w' : List Float) (o o' x x' y y' : List ℕ) → D ≡ D' → O ≡ O' → k ≡ k' → a ≡ a' → b ≡ b' → w ≡ w' → o ≡ o' → x ≡ x' → y ≡ y'
      → shot_outcome D O k a b w o x y ≡ shot_outcome D' O' k' a' b' w' o' x' y'
  same_shot D O k D' O' k' a a' b b' w w' o o' x x' y y' e1 e2 e3 e4 e5 e6 e7 e8 e9 = rw (e1, e2, e3, e4, e5, e6, e7, e8, e9) refl

  module _ (s : Session) (t : Input) (bs ds os cs cds cos es : List ℕ) (r : Reads s t 6 n state (columns bs ds os cs cds cos es ws ts) (slices_of lent [])) where
    row_front : ws ≡ written t.row ws
    unfolding columns_at
    row_front = ap (λ (x : Columns). x.row) r.tables

    truth_front : ts ≡ written t.truth ts
    unfolding columns_at
    truth_front = ap (λ (x : Columns). x.truth) r.tables

    edges_are : n.edges ≡ length s.graph.edge_u
    edges_are = ap (λ (m : Numbers). m.edges) r.numbers

    words_are : n.words ≡ length (flat s.graph.edge_obs)
    words_are = ap (λ (m : Numbers). m.words) r.numbers

    pub cut_is : (rows truths : ℕ) → rows ≡ words state.detectors → truths ≡ words state.observables → cut rows truths ≡ shot_read s.graph t
    unfolding shot_read
    cut_is rows truths p q =
        let six = r.shot refl in
        let gr = s.graph in
        same_shot _ _ _ _ _ _ _ _ _ _ _ _ _ _ _ _ _ _
        (ap (λ (m : State). m.detectors) r.counts)
        (ap (λ (m : State). m.observables) r.counts)
        edges_are
        (front_is gr.edge_u lent.edge_u.now n.edges r.graph.u edges_are)
        (front_is gr.edge_v lent.edge_v.now n.edges r.graph.v (edges_are ∙ sym r.graph.others))
        (front_is gr.edge_weight lent.edge_weight.now n.edges r.graph.weight (edges_are ∙ sym r.graph.weights))
        (front_is (flat gr.edge_obs) lent.edge_obs.now n.words r.graph.obs words_are)
        (front_is t.row ws rows row_front (p ∙ ap (λ (m : State). words m.detectors) r.counts ∙ sym six.row))
        (front_is t.truth ts truths truth_front (q ∙ ap (λ (m : State). words m.observables) r.counts ∙ sym six.truth))

    pub at : Reads s t 6 (numbers_of s) (counts_of t) (columns bs ds os cs cds cos es ws ts) (slices_of lent [])
    at = record {
      numbers = refl;
      counts = refl;
      within = r.within;
      tables = r.tables;
      row = r.row;
      shot = r.shot;
      graph = r.graph;
      shots = r.shots;
      failures = r.failures;
      sizes = r.sizes;
    }

  -- what the parts ask of the tables
  pub record Fits : Type 0 where
    pub ends : n.edges ≤ length lent.edge_u.now
    pub others : n.edges ≤ length lent.edge_v.now
    pub weights : n.edges ≤ length lent.edge_weight.now
    pub rows : n.words ≤ length lent.edge_obs.now
    pub row : words state.detectors ≤ length ws
    pub truth : words state.observables ≤ length ts
    pub truths : words state.observables ≤ 2
    pub failures : n.failures ≤ n.shots
    pub shots : n.shots ≤ 4294967295

  pub fits : ShotSome n state ws ts (slices_of lent []) → Fits
  unfolding words
  fits m =
      let x = m.model in
      let r = m.read.reads in
      let s = m.read.session in
      let t = m.read.input in
      let room = room_of_lem (columns x.bits x.detector_counts x.observable_counts x.component_counts x.component_detectors x.component_observables x.entries ws ts) r.sizes.room in
      let held = held_of (counts_of t) r.within in
      let e : n.edges ≡ length s.graph.edge_u = ap (λ (m : Numbers). m.edges) r.numbers in
      let w : n.words ≡ length (flat s.graph.edge_obs) = ap (λ (m : Numbers). m.words) r.numbers in
      let d : state.detectors ≡ t.detectors = ap (λ (m : State). m.detectors) r.counts in
      let o : state.observables ≡ t.observables = ap (λ (m : State). m.observables) r.counts in
      record {
        ends = omega (arith, e, front_fits s.graph.edge_u lent.edge_u.now r.graph.u);
        others = omega (arith, e, r.graph.others, front_fits s.graph.edge_v lent.edge_v.now r.graph.v);
        weights = omega (arith, e, r.graph.weights, front_fits s.graph.edge_weight lent.edge_weight.now r.graph.weight);
        rows = omega (arith, w, front_fits (flat s.graph.edge_obs) lent.edge_obs.now r.graph.obs);
        row = omega (arith, d, held.detectors, room.row);
        truth = omega (arith, o, held.observables, room.truth);
        truths = omega (arith, o, held.observables);
        failures = rw r.numbers r.failures;
        shots = rw r.numbers r.shots;
      }

  -- ---- the contract

  pub by_full : n.shots ≡ 4294967295 → (was out : List ℕ) (z : Told) → (z ≡ Break (length (refusal_text Limit))) × (out ≡ written (refusal_text Limit) was)
      → ShotBy n state ws ts (slices_of lent []) z was out
  by_full e was out z p s t bs ds os cs cds cos es r =
      full s t _ _ (at s t bs ds os cs cds cos es r) (sym (ap (λ (m : Numbers). m.shots) r.numbers) ∙ e) was out z p

  fewer : (s : Session) → n ≡ numbers_of s → s.shots ≤ max_count → (n.shots ≡ 4294967295 → ⊥) → s.shots < max_count
  fewer s e h less =
      let q : n.shots ≡ s.shots = ap (λ (m : Numbers). m.shots) e in
      case_lt s.shots h (λ z. less (q ∙ z))
    where
      case_lt : (k : ℕ) → k ≤ max_count → (k ≡ 4294967295 → ⊥) → k < max_count
      case_lt k l less = omega (arith, less)

  module _ (rows truths : ℕ) (p : rows ≡ words state.detectors) (q : truths ≡ words state.observables) (less : n.shots ≡ 4294967295 → ⊥) (was mid : List ℕ) where
    pub by_decoded_lem : (x : Reply) → Replied (cut rows truths) (Ok x) was mid
        → (z : Told) → z ≡ Continue (record { numbers = record { state = state; edges = n.edges; words = n.words; shots = n.shots + 1; failures = n.failures + one x.failed }; written = x.written })
        → ShotBy n state ws ts (slices_of lent []) z was mid
    by_decoded_lem x a z e s t bs ds os cs cds cos es r =
        shot_on s t _ _ (at s t bs ds os cs cds cos es r) (fewer s r.numbers r.shots less) was mid x
        (rw (cut_is s t bs ds os cs cds cos es r rows truths p q) at a) z (rw (r.numbers, r.counts) at e)

    pub by_refused : (y : Refusal) → Replied (cut rows truths) (Err y) was mid → (z : Told) (out : List ℕ) → (z ≡ Break (length (refusal_text y))) × (out ≡ written (refusal_text y) mid)
        → ShotBy n state ws ts (slices_of lent []) z was out
    by_refused y a z out e s t bs ds os cs cds cos es r =
        shot_refused s t _ _ (at s t bs ds os cs cds cos es r) (fewer s r.numbers r.shots less) was mid y
        (rw (cut_is s t bs ds os cs cds cos es r rows truths p q) at a) z out e
