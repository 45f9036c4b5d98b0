-- The shot decoder's part of demand 3, from its promise and the marker's.
use Rattle.codes.specs.Order.{Checked}
use Rattle.std.specs.Prelude.{Ok, Result}
use Prim.Native.Nat.{ℕ}
use mathlib.Core.Path.{◌≡◌, refl, sym, ap, ◌∙◌, subst}
use mathlib.Core.List.{List, ◌++◌}
use mathlib.Core.Bool.{Bool, true}
use mathlib.Core.Logic.{inl, inr, ⊎_elim}
use lib.ListN.{length, take, drop}
use lib.Seq.{take-append_seam, drop-append_seam}
use Rattle.bits.specs.Rows.{words}
use Rattle.steps.specs.Graph.{Graph}
use Rattle.steps.specs.Rows.{row_of}
use Rattle.steps.specs.Shot.{Decoded, impossible, corrected, row_left}
use Rattle.steps.specs.Call.{graph_of, list_left}
use Rattle.steps.specs.Found.{Found, by_steps, Blank, Stuck, Hands, Whole}
use Rattle.lent_graph.specs.Call.{check_call}
use Rattle.lent_graph.proofs.Accepts.{call_accepted}
use Rattle.marker.specs.Answer.{marker_long, check_mark}
use Rattle.codes.specs.declared.Refusal.{Refusal}
use Rattle.shot.specs.declared.Shot.{Shot}
use Rattle.shot.specs.declared.Shot.TheVariants as answer
use Rattle.decoder.specs.Answer.{Handed, graph_of_call, lit_of_call, own_long, checks, decoded, answer_of, list_after, row_after, Decodes}
use Rattle.demand3.specs.Stated.{IsStuck, IsDecoded, HandsOver, StuckNames, Stated, DecoderStated}
use Rattle.demand3.proofs.Marker.{marker_stated}

-- ---- what an answer tells of the steps

stuck_steps : (x : Decoded) (n d : ℕ) → Ok (answer.Stuck n d) ≡ answer_of (Ok tt) x → x ≡ impossible n d
unfolding answer_of
stuck_steps (impossible m e) n d h = cc
stuck_steps (corrected m list) n d h = cc

pub decoded_steps : (x : Decoded) (n k : ℕ) → Ok (answer.Decoded n k) ≡ answer_of (Ok tt) x → (list : List ℕ) × (x ≡ corrected n list) × (k ≡ length list)
unfolding answer_of
decoded_steps (impossible m e) n k h = cc
decoded_steps (corrected m list) n k h = (list, cc, cc)

steps_stuck : (n d : ℕ) → answer_of (Ok tt) (impossible n d) ≡ Ok (answer.Stuck n d)
unfolding answer_of
steps_stuck n d = refl

steps_decoded : (n : ℕ) (list : List ℕ) → answer_of (Ok tt) (corrected n list) ≡ Ok (answer.Decoded n (length list))
unfolding answer_of
steps_decoded n list = refl

-- ---- a call that is not refused

module _ (h : Handed) (r : Result Shot Refusal) (list row : List ℕ) (p : Decodes h r list row) (ok : checks h ≡ Ok tt) where
  abbrev g : Graph
  g = graph_of_call h

  abbrev lit : List Bool
  lit = lit_of_call h

  found : Found by_steps g lit
  found = p.found ok

  answer_is : (x : Decoded) → decoded h ≡ x → r ≡ answer_of (Ok tt) x
  answer_is x e = p.answers ∙ ap (λ (c : Checked). answer_of c (decoded h)) ok ∙ ap (answer_of (Ok tt)) e

  list_is : (x : Decoded) → decoded h ≡ x → list ≡ list_left h.list x
  unfolding list_after
  list_is x e = p.lists ∙ ap (λ (c : Checked). list_after c h.list (decoded h)) ok ∙ ap (list_left h.list) e

  row_left_lem : row ≡ row_left g h.row (decoded h)
  unfolding row_after
  row_left_lem = p.rows ∙ ap (λ (c : Checked). row_after c g h.row (decoded h)) ok

  is_stuck : IsStuck h r → Stuck by_steps g lit
  is_stuck (n, d, e) = (n, d, stuck_steps (decoded h) n d (sym e ∙ answer_is (decoded h) refl))

  stuck_is : Stuck by_steps g lit → IsStuck h r
  stuck_is (n, d, e) = (n, d, answer_is (impossible n d) e ∙ steps_stuck n d)

  hands_is : Hands by_steps g lit → IsDecoded h r
  hands_is (n, es, e) = (n, length es, answer_is (corrected n es) e ∙ steps_decoded n es)

  -- the marker is not refused either
  pub mark_checked : (was marks wrong : List ℕ) → marker_long h.graph.detectors h.graph.observables h.graph.edges (length was) (length marks) (length wrong) ≡ true
      → check_mark h.graph was marks wrong h.shot h.width ≡ Ok tt
  unfolding checks
  mark_checked was marks wrong long =
      ap (λ (b : Bool). check_call h.graph b h.shot 1 h.width) (long ∙ sym (call_accepted h.graph (own_long h) h.shot 1 h.width ok).own_long) ∙ ok

  module _ (n : ℕ) (es : List ℕ) (e : decoded h ≡ corrected n es) where
    pub whole : Whole by_steps g lit es
    whole = found.whole n es e

    pub listed : (take (length es) list ≡ es) × (drop (length es) list ≡ drop (length es) h.list)
    unfolding list_left
    listed = rw (list_is (corrected n es) e) (take-append_seam es (drop (length es) h.list), drop-append_seam es (drop (length es) h.list))

    row_is : Blank (graph_of_call h) h.row → take (words h.graph.observables) row ≡ row_of g es
    unfolding graph_of
    row_is zero = ap (λ (s : List ℕ). take (words h.graph.observables) s) row_left_lem ∙ whole.row h.row zero

    past_row : drop (words h.graph.observables) row ≡ drop (words h.graph.observables) h.row
    unfolding graph_of
    past_row = ap (λ (s : List ℕ). drop (words h.graph.observables) s) row_left_lem ∙ whole.past h.row

    -- of the list itself
    over : Blank (graph_of_call h) h.row → HandsOver h n (length es) (es ++ drop (length es) h.list) row
    unfolding graph_of
    over zero =
        let t = take-append_seam es (drop (length es) h.list) in
        let (known, distinct) = (found.fitting es).0 whole.fits in
        record {
          short = whole.short;
          known = rw t known;
          distinct = rw t distinct;
          explains = rw t whole.explains;
          row_is = rw t (row_is zero);
          xored = rw t (found.xored es);
          past_list = drop-append_seam es (drop (length es) h.list);
          past_row = past_row;
          rounds = (found.rounds n es e).0;
          ended = (found.rounds n es e).1;
          marked = rw t (λ was marks wrong m left long k.
              let j = marker_stated h.graph h.shot h.width es was marks wrong m left k (mark_checked was marks wrong long) in
              let passed = j.exactly.1 (whole.fits, whole.explains) in
              (passed, j.row_is passed ∙ sym (row_is zero), j.past_row));
        }

  pub hands_over : Blank (graph_of_call h) h.row → (n k : ℕ) → r ≡ Ok (answer.Decoded n k) → HandsOver h n k list row
  unfolding list_left
  hands_over zero n k e =
      let (es, x, len) = decoded_steps (decoded h) n k (sym e ∙ answer_is (decoded h) refl) in
      subst (λ (j : ℕ). HandsOver h n j list row) (sym len) (subst (λ (s : List ℕ). HandsOver h n (length es) s row) (sym (list_is (corrected n es) x)) (over n es x zero))

  stuck_names : (n d : ℕ) → r ≡ Ok (answer.Stuck n d) → StuckNames h n d list row
  unfolding list_left
  stuck_names n d e =
      let x = stuck_steps (decoded h) n d (sym e ∙ answer_is (decoded h) refl) in
      record {
        list_untouched = list_is (impossible n d) x;
        row_untouched = row_left_lem ∙ found.untouched (n, d, x) h.row;
        rounds = (found.rounds_stuck n d x).0;
        ended = (found.rounds_stuck n d x).1;
        named = found.named n d x;
      }

  pub stated : Blank (graph_of_call h) h.row → Stated h r list row
  stated zero = record {
    either = ⊎_elim (λ s. inl (stuck_is s)) (λ s. inr (hands_is s)) found.either;
    exactly = (
      (λ s. λ es q. found.exactly.0 (is_stuck s) es q.0 q.1),
      (λ none. stuck_is (found.exactly.1 (λ es a b. none es (a, b)))),
    );
    decoded = hands_over zero;
    stuck = stuck_names;
  }

pub decoder_stated : DecoderStated
decoder_stated h r list row p ok zero = stated h r list row p ok zero
