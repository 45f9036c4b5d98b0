-- A shot decoded and its list marked: the two promises put together.
use Rattle.std.specs.Prelude.{Ok, Err, Result}
use Rattle.codes.specs.Order.{Checked}
use Prim.Native.Nat.{ℕ, ◌≤◌, ◌-◌}
use native.Mathlib.Omega.{arith}
use mathlib.Core.Path.{◌≡◌, refl, ap, ◌∙◌, subst}
use mathlib.Core.List.{List, ◌++◌}
use mathlib.Core.Bool.{true}
use borrow.Author.Tests.{le-leb}
use lib.ListN.{length, take, drop, replicate, length-append}
use Rattle.bits.specs.Rows.{words}
use Rattle.codes.specs.declared.Refusal.{Refusal}
use Rattle.codes.specs.declared.Refusal.TheVariants as refusal
use Rattle.steps.specs.Shot.{Decoded}
use Rattle.steps.specs.Call.{list_left}
use Rattle.marking.specs.declared.Marking.TheVariants as marking
use Rattle.lent_graph.specs.Call.{Lent}
use Rattle.lent_graph.proofs.Accepts.{call_accepted}
use Rattle.marker.specs.Answer.{marker_long, Marks}
use Rattle.shot.specs.declared.Shot.{Shot}
use Rattle.shot.specs.declared.Shot.TheVariants as answer
use Rattle.decoder.specs.Answer.{Handed, own_long, checks, decoded, answer_of, list_after, Decodes}
use Rattle.demand3.specs.Stated.{Judges}
use Rattle.demand3.specs.declared.Verdict.{Verdict}
use Rattle.demand3.specs.Verified.{Fits, Unwritten, Follows, Verified}
use Rattle.demand3.proofs.Marker.{marker_stated}
use Rattle.demand3.proofs.Decoder.{decoded_steps, listed, whole, hands_over, mark_checked}

-- a call that decoded was not refused
accepted_by : (c : Checked) (x : Decoded) (n k : ℕ) → Ok (answer.Decoded n k) ≡ answer_of c x → c ≡ Ok tt
unfolding answer_of
accepted_by (Ok tt) x n k e = refl
accepted_by (Err r) x n k e = cc

module _ (h : Handed) (n k : ℕ) (list row : List ℕ) (p : Decodes h (Ok (answer.Decoded n k)) list row) where
  ok : checks h ≡ Ok tt
  ok = accepted_by (checks h) (decoded h) n k p.answers

  -- the limits bound what the marker needs
  roomy : marker_long h.graph.detectors h.graph.observables h.graph.edges 2 256 64 ≡ true
  unfolding checks marker_long words
  roomy =
      let a = call_accepted h.graph (own_long h) h.shot 1 h.width ok in
      let o : words h.graph.observables ≤ 2 = omega (arith, a.few_observables) in
      let e : words h.graph.edges ≤ 256 = omega (arith, a.few_edges) in
      let d : words h.graph.detectors ≤ 64 = omega (arith, a.few_detectors) in
      rw (le-leb _ _ o, le-leb _ _ e, le-leb _ _ d)

  -- the list has what is handed over
  listed_long : k ≤ length list
  unfolding list_after list_left
  listed_long =
      let (es, x, len) = decoded_steps (decoded h) n k (p.answers ∙ ap (λ (c : Checked). answer_of c (decoded h)) ok) in
      let q : list ≡ es ++ drop (length es) h.list = p.lists ∙ ap (λ (c : Checked). list_after c h.list (decoded h)) ok ∙ ap (list_left h.list) x in
      omega (arith, len, ap length q, length-append es (drop (length es) h.list))

  module _ (v : Verdict) (t : Marks h.graph h.shot h.width (take k list) (replicate 2 0) (replicate 256 0) (replicate 64 0) v.marking v.row) where
    judged : Judges h.graph h.shot (take k list) (replicate 2 0) v.marking v.row
    judged = marker_stated h.graph h.shot h.width (take k list) (replicate 2 0) (replicate 256 0) (replicate 64 0) v.marking v.row t (mark_checked h (Ok (answer.Decoded n k)) list row p ok (replicate 2 0) (replicate 256 0) (replicate 64 0) roomy)

    passed : v.marking ≡ Ok marking.Pass
    passed =
        let (es, x, len) = decoded_steps (decoded h) n k (p.answers ∙ ap (λ (c : Checked). answer_of c (decoded h)) ok) in
        let w = whole h (Ok (answer.Decoded n k)) list row p ok n es x in
        let taken : take k list ≡ es = ap (λ (j : ℕ). take j list) len ∙ (listed h (Ok (answer.Decoded n k)) list row p ok n es x).0 in
        judged.exactly.1 (rw taken w.fits, rw taken w.explains)

    verified_decoded : Verified h v list row
    verified_decoded = record {
      answer = Ok (answer.Decoded n k);
      decodes = p;
      marks = λ n' k' e. let q : k ≡ k' = cc in subst (λ (j : ℕ). Marks h.graph h.shot h.width (take j list) (replicate 2 0) (replicate 256 0) (replicate 64 0) v.marking v.row) q t;
      passes = λ n' k' e. passed;
      same_row = λ n' k' e zero. ((hands_over h (Ok (answer.Decoded n k)) list row p ok zero n k refl).marked (replicate 2 0) (replicate 256 0) (replicate 64 0) v.marking v.row roomy t).1;
      past_row = λ n' k' e. judged.past_row;
      stuck = λ n' d e. cc;
      refused = λ r e. cc;
    }

module _ (l : Lent) (shot : List ℕ) (width : ℕ) (a : Result Shot Refusal) (list : List ℕ) (v : Verdict) where
  pub follows_decoded : (n k : ℕ) → a ≡ Ok (answer.Decoded n k) → Marks l shot width (take (k - 0) list) (replicate 2 0) (replicate 256 0) (replicate 64 0) v.marking v.row → Follows l shot width a list v
  follows_decoded n k h t = record {
    decoded = λ n' k' e.
        let q : k ≡ k' = cc in
        let z : k - 0 ≡ k' = omega (arith, q) in
        subst (λ (j : ℕ). Marks l shot width (take j list) (replicate 2 0) (replicate 256 0) (replicate 64 0) v.marking v.row) z t;
    stuck = λ n' d e. cc;
    refused = λ r e. cc;
  }

  pub follows_stuck : (n d : ℕ) → a ≡ Ok (answer.Stuck n d) → Unwritten v (Err (refusal.Stuck 0 d)) → Follows l shot width a list v
  follows_stuck n d h u = record {
    decoded = λ n' k e. cc;
    stuck = λ n' d' e. let q : d ≡ d' = cc in subst (λ (j : ℕ). Unwritten v (Err (refusal.Stuck 0 j))) q u;
    refused = λ r e. cc;
  }

  pub follows_refused : (r : Refusal) → a ≡ Err r → Unwritten v (Err r) → Follows l shot width a list v
  follows_refused r h u = record {
    decoded = λ n k e. cc;
    stuck = λ n d e. cc;
    refused = λ r' e. let q : r ≡ r' = cc in subst (λ (s : Refusal). Unwritten v (Err s)) q u;
  }

module _ (h : Handed) (list row : List ℕ) where
  pub fits : (a : Result Shot Refusal) → Decodes h a list row → Fits a list
  fits a p n k e = listed_long h n k list row (subst (λ (b : Result Shot Refusal). Decodes h b list row) e p)

  pub verified : (a : Result Shot Refusal) (v : Verdict) → Decodes h a list row → Follows h.graph h.shot h.width a list v → Verified h v list row
  verified (Ok (answer.Decoded n k)) v p f = verified_decoded h n k list row p v (f.decoded n k refl)
  verified (Ok (answer.Stuck n d)) v p f = record {
    answer = Ok (answer.Stuck n d);
    decodes = p;
    marks = f.decoded;
    passes = λ n' k e. cc;
    same_row = λ n' k e zero. cc;
    past_row = λ n' k e. cc;
    stuck = f.stuck;
    refused = f.refused;
  }
  verified (Err r) v p f = record {
    answer = Err r;
    decodes = p;
    marks = f.decoded;
    passes = λ n k e. cc;
    same_row = λ n k e zero. cc;
    past_row = λ n k e. cc;
    stuck = f.stuck;
    refused = f.refused;
  }
