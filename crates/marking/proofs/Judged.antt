-- The list against the shot, by the wrong row; and the same of a graph's ends alone.
use Rattle.std.specs.Prelude.{Option, None, Some, Result, Ok, Err}
use Prim.Native.Nat.{ℕ, zero, suc, ◌+◌, ◌*◌, ◌/◌, ◌≤◌, ◌<◌}
use native.Mathlib.Omega.{arith}
use mathlib.Core.Path.{◌≡◌, refl, sym, ap, ◌∙◌}
use mathlib.Core.List.{List, [], ◌∷◌, ◌++◌, append-nil}
use mathlib.Core.Bool.{Bool, true, false, xor}
use borrow.Author.Tests.{ne_eqb}
use lib.ListN.{length, get_or, take, drop, replicate, length-replicate, drop_of_length-le}
use Rattle.lists.specs.Lists.{from, below, filter}
use Rattle.lists.proofs.Truth.{case-of}
use Rattle.bits.specs.Rows.{words, bit, is_clear, set_bits}
use Rattle.bits.proofs.Rows.{bit_zeros}
use Rattle.bits.proofs.Booleans.{bits_at}
use Rattle.steps.specs.Graph.{Graph, Ends, boundary, flipped}
use Rattle.steps.specs.Marker.{fit, first_wrong, verdict, mark}
use Rattle.steps.specs.Call.{graph_of, lit_of}
use Rattle.found.proofs.Fits.{fit_known}
use Rattle.found.proofs.Judged.{refuses}
use Rattle.codes.specs.declared.Refusal.{Refusal}
use Rattle.codes.specs.declared.Refusal.TheVariants as refusal
use Rattle.marking.specs.declared.Marking.{Marking}
use Rattle.marking.specs.declared.Marking.TheVariants.{Pass, Differs}
use Rattle.marking.specs.Passes.{ends_graph, wrong_after, lowest_of, Unmet, Ready}
use Rattle.marking.specs.Answer.{marking_of}
use Rattle.marking.proofs.Flips.{bit_wrong, clear_wrong, length_wrong}
use Rattle.marking.proofs.Meeting.{counted, near_end, far_end}
use Rattle.marking.proofs.LowestBit.{same_lowest}

-- ---- of two graphs with the same ends

pub fit_same : (g h : Graph) → length g.edge_u ≡ length h.edge_u → (es : List ℕ) → fit g es ≡ fit h es
unfolding fit
fit_same g h e [] = refl
fit_same g h e (a ∷ es) = rw (e, fit_same g h e es)

pub first_same : (g h : Graph) → g.edge_u ≡ h.edge_u → g.edge_v ≡ h.edge_v → (lit : List Bool) (es ds : List ℕ) → first_wrong g lit es ds ≡ first_wrong h lit es ds
unfolding first_wrong
first_same g h p q lit es [] = refl
first_same g h p q lit es (d ∷ ds) = rw (first_same g h p q lit es ds, p, q)

-- ---- the answer, by the lowest wrong detector

abbrev pub marking_by : Option ℕ → Result Marking Refusal
marking_by (Some d) = Ok (Differs d)
marking_by None = Ok Pass

module _ (g : Graph) (lit : List Bool) (es : List ℕ) where
  first_set : (p : ℕ → Bool) (n a : ℕ) → ((d : ℕ) → a ≤ d → d < n + a → xor (get_or lit d false) (flipped g es d) ≡ p d)
      → marking_of (verdict g es true (first_wrong g lit es (from n a))) ≡ marking_by (lowest_of (filter p (from n a)))
  unfolding first_wrong verdict filter from
  first_set p zero a h = refl
  first_set p (suc n) a h = case-of (p a)
      (λ t. rw (h a (omega arith) (omega arith), t))
      (λ f. rw (h a (omega arith) (omega arith), f) (first_set p n (suc a) (λ d k l. h d (omega arith) (omega arith))))

-- ---- a shot of the graph's width

module _ (g : Graph) (ok : Ends g) (shot es : List ℕ) (long : length shot ≡ words g.detectors) (clear : is_clear g.detectors shot ≡ true) (fits : fit g es ≡ true) where
  room : (d : ℕ) → d < g.detectors → d / 64 < length shot
  unfolding words
  room d h = omega arith

  -- the lowest set bit of the wrong row decides
  pub by_wrong : marking_of (mark g (lit_of g.detectors shot) es) ≡ marking_by (lowest_of (set_bits (64 * length (wrong_after g shot es)) (wrong_after g shot es)))
  unfolding mark below set_bits
  by_wrong =
      let d = g.detectors in
      let wrong = wrong_after g shot es in
      let known = fit_known g es fits in
      rw fits
      (first_set g (lit_of d shot) es (bit wrong) d 0 (λ k l h. ap (λ (b : Bool). xor b (flipped g es k)) (bits_at d shot k (omega arith)) ∙ sym (bit_wrong g ok shot room es known k))
      ∙ ap marking_by (sym (same_lowest d wrong (length_wrong g shot es ∙ long) (clear_wrong g ok shot room es known clear))))

-- ---- the passes put together

module _ (d n : ℕ) (u v shot marks wrong : List ℕ) (r : Ready d n u v shot marks wrong) where
  abbrev full : Graph
  full = ends_graph d n u v

  pub few_words : length wrong ≤ 64
  unfolding words
  few_words = let k = r.few in let h = r.wrong_long in omega arith

  -- the shot over the whole row
  pub whole_row : (now : List ℕ) → now ≡ take 0 wrong ++ (shot ++ drop (0 + length shot) wrong) → now ≡ shot
  whole_row now q =
      let long : length wrong ≤ 0 + length shot = omega (arith, r.shot_long, r.wrong_long) in
      q ∙ ap (λ (rest : List ℕ). shot ++ rest) (drop_of_length-le wrong long) ∙ append-nil shot

  -- the marks cleared, and the shot copied
  pub unmet : (met now : List ℕ) → met ≡ replicate (length marks) 0 → now ≡ shot → Unmet n u v met now
  unfolding graph_of words
  unmet met now p q =
      let m = r.marks_long in
      let w = r.shot_long in
      let long : length met ≡ length marks = ap length p ∙ length-replicate (length marks) 0 in
      let wide : length now ≡ length shot = ap length q in
      record {
        u_long = r.u_long;
        v_long = r.v_long;
        place = λ e h. omega arith;
        clear = λ e. rw p (bit_zeros (length marks) e);
        ends = λ e h.
            let here : e < length full.edge_u = rw (counted d n u v r.u_long) h in
            record {
              near = let k = r.ends.inside e here in omega (arith, near_end d n u v r.u_long e h);
              far = λ f. let k = r.ends.paired e here (rw (far_end d n u v r.v_long e h, ne_eqb (get_or v e 0) boundary f)) in omega (arith, far_end d n u v r.v_long e h);
            };
      }

  module _ (list : List ℕ) where
    abbrev answer : Result Marking Refusal
    answer = marking_of (mark full (lit_of d shot) list)

    -- an unknown or repeated edge
    pub unfit_list : false ≡ fit full list → Err refusal.Edge ≡ answer
    unfit_list f = sym (ap marking_of (refuses full (lit_of d shot) list (sym f)))

    -- else the lowest wrong detector
    pub fit_list : {before after : List ℕ} {o : Option ℕ} → true ≡ fit full list → before ≡ shot → after ≡ wrong_after full before list
        → o ≡ lowest_of (set_bits (64 * length after) after) → marking_by o ≡ answer
    unfolding graph_of
    fit_list {before} {after} {o} t p q e =
        let same : after ≡ wrong_after full shot list = q ∙ ap (λ (row : List ℕ). wrong_after full row list) p in
        ap marking_by (e ∙ ap (λ (row : List ℕ). lowest_of (set_bits (64 * length row) row)) same)
        ∙ sym (by_wrong full r.ends shot list r.shot_long r.shot_clear (sym t))
