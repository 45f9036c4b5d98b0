-- The answer of the decoder as the outcome of a shot.
use Rattle.std.specs.Prelude.{Result, Ok, Err}
use Prim.Native.Nat.{ℕ, ◌+◌, ◌-◌, ◌*◌, ◌≤◌}
use native.Mathlib.Omega.{arith}
use native.Mathlib.Nat.{one-mul}
use mathlib.Core.Path.{◌≡◌, refl, sym, ap, ◌∙◌, subst}
use mathlib.Core.List.{List, ◌++◌}
use lib.ListN.{length, take, drop, replicate, length-append, length-take}
use lib.Seq.{take-append_seam}
use borrow.Rule.Slice.PartMut.{mid_of}
use Rattle.bits.specs.Rows.{words}
use Rattle.codes.specs.declared.Refusal.{Refusal}
use Rattle.codes.specs.declared.Refusal.TheVariants.{Stuck}
use Rattle.codes.specs.Order.{Checked, and_then}
use Rattle.packed.specs.Packed.{check_packed, packed_of}
use Rattle.packed.proofs.Laws.{accepted_sound, rows_accepted, refused_same}
use Rattle.steps.specs.Graph.{Graph}
use Rattle.steps.specs.Shot as steps
use Rattle.steps.specs.Shot.{Decoded, impossible, corrected, row_left}
use Rattle.steps.specs.Call.{list_left}
use Rattle.shot.specs.declared.Shot.{Shot}
use Rattle.shot.specs.declared.Shot.TheVariants as answer
use Rattle.lent_graph.specs.declared.Graph.{Graph as Lent}
use Rattle.lent_graph.specs.Graph.{lent}
use Rattle.decoder.specs.Answer.{Handed, graph_of_call, checks, decoded, answer_of, list_after, row_after, Decodes}
use Rattle.shot_reply.specs.declared.Reply.{Reply}
use Rattle.shot_reply.specs.Lent.{outcome_on}
use Rattle.shot_reply.specs.Outcome.{told, shot_text, differs, by_decoded, only_then, handed_for, decoded_shot, shot_outcome}
use Rattle.shot_reply.specs.Replied.{Replied}
use Rattle.shot_reply.proofs.Texts.{two_zeros, zero_row_lem}

-- the length in an answer
abbrev size : Result Shot Refusal → ℕ
size (Ok (answer.Decoded m k)) = k
size (Ok (answer.Stuck m d)) = 0
size (Err r) = 0

module _ (g : Graph) (row truth was : List ℕ) where
  by_refused : (x : Refusal) (c : Checked) (y : Decoded) → Err x ≡ answer_of c y → Replied (only_then c (by_decoded g row truth y)) (Err x) was was
  unfolding answer_of by_decoded
  by_refused x (Err r) y e = record { answer = cc; text = refl }
  by_refused x (Ok tt) (impossible n d) e = cc
  by_refused x (Ok tt) (corrected n l) e = cc

  by_stuck : (m d : ℕ) (c : Checked) (y : Decoded) → Ok (answer.Stuck m d) ≡ answer_of c y → Replied (only_then c (by_decoded g row truth y)) (Err (Stuck 0 d)) was was
  unfolding answer_of by_decoded
  by_stuck m d (Err r) y e = cc
  by_stuck m d (Ok tt) (impossible n x) e = record { answer = cc; text = refl }
  by_stuck m d (Ok tt) (corrected n l) e = cc

  by_list : (m k : ℕ) (list list' row' : List ℕ) (c : Checked) (y : Decoded) → Ok (answer.Decoded m k) ≡ answer_of c y → list' ≡ list_after c list y → row' ≡ row_after c g row y
      → (r : Result Reply Refusal) (out : List ℕ) → Replied (told (shot_text row' (mid_of 0 (k - 0) list')) (differs row' truth)) r was out → Replied (only_then c (by_decoded g row truth y)) r was out
  unfolding answer_of list_after row_after list_left row_left by_decoded
  by_list m k list list' row' (Err x) y e l q r out p = cc
  by_list m k list list' row' (Ok tt) (impossible n x) e l q r out p = cc
  by_list m k list list' row' (Ok tt) (corrected n edges) e l q r out p =
      let long : k ≡ length edges = ap size e in
      let n : k - 0 ≡ length edges = omega (arith, long) in
      let front : mid_of 0 (k - 0) list' ≡ edges
      = ap (λ (x : List ℕ). take (k - 0) (drop 0 x)) l ∙ ap (λ (j : ℕ). take j (edges ++ drop (length edges) list)) n ∙ take-append_seam edges (drop (length edges) list) in
      subst (λ (x : List ℕ). Replied (told (shot_text (steps.row_after g row edges) x) (differs (steps.row_after g row edges) truth)) r was out) front
      (subst (λ (x : List ℕ). Replied (told (shot_text x (mid_of 0 (k - 0) list')) (differs x truth)) r was out) q p)

  by_long : (m k : ℕ) (list list' : List ℕ) (c : Checked) (y : Decoded) → Ok (answer.Decoded m k) ≡ answer_of c y → list' ≡ list_after c list y → k ≤ length list'
  unfolding answer_of list_after list_left
  by_long m k list list' (Err x) y e l = cc
  by_long m k list list' (Ok tt) (impossible n x) e l = cc
  by_long m k list list' (Ok tt) (corrected n edges) e l =
      let long : k ≡ length edges = ap size e in
      let n : length list' ≡ length (edges ++ drop (length edges) list) = ap length l in
      omega (arith, long, n, length-append edges (drop (length edges) list))

-- the two lines find room
pub told_room : (row row' truth list list' : List ℕ) (k n : ℕ) → length row' ≡ length row → length list' ≡ length list → length row ≡ length truth → 10 + 16 * length row + 4 * length list ≤ n
    → (length row' ≡ length truth) × (10 + 16 * length row' + 4 * length (mid_of 0 (k - 0) list') ≤ n)
told_room row row' truth list list' k n r l e h = (r ∙ e, omega (arith, r, l, h, length-take (k - 0) list'))

module _ (h : Handed) (truth was list' row' : List ℕ) where
  -- a refusal of the decoder is the shot's
  pub told_refused : (x : Refusal) → Decodes h (Err x) list' row' → Replied (decoded_shot h truth) (Err x) was was
  unfolding decoded_shot
  told_refused x d = by_refused (graph_of_call h) h.row truth was x (checks h) (decoded h) d.answers

  -- Stuck is 11
  pub told_stuck : (m x : ℕ) → Decodes h (Ok (answer.Stuck m x)) list' row' → Replied (decoded_shot h truth) (Err (Stuck 0 x)) was was
  unfolding decoded_shot
  told_stuck m x d = by_stuck (graph_of_call h) h.row truth was m x (checks h) (decoded h) d.answers

  -- the list stands at the front of its slice
  pub list_long : (m k : ℕ) → Decodes h (Ok (answer.Decoded m k)) list' row' → k ≤ length list'
  list_long m k d = by_long (graph_of_call h) h.row truth was m k h.list list' (checks h) (decoded h) d.answers d.lists

  -- and is told with the row
  pub told_list : (m k : ℕ) → Decodes h (Ok (answer.Decoded m k)) list' row'
      → (r : Result Reply Refusal) (out : List ℕ) → Replied (told (shot_text row' (mid_of 0 (k - 0) list')) (differs row' truth)) r was out → Replied (decoded_shot h truth) r was out
  unfolding decoded_shot
  told_list m k d r out p = by_list (graph_of_call h) h.row truth was m k h.list list' row' (checks h) (decoded h) d.answers d.lists d.rows r out p

-- ---- both packings

module _ (g : Lent) (shot truth was : List ℕ) where
  pub row_refused : (x : Refusal) → Err x ≡ packed_of shot 1 g.detectors → Replied (outcome_on g shot truth) (Err x) was was
  unfolding shot_outcome
  row_refused x e = rw (refused_same shot 1 g.detectors x (sym e)) (record { answer = refl; text = refl })

  pub truth_refused : (m : ℕ) (x : Refusal) → Ok m ≡ packed_of shot 1 g.detectors → Err x ≡ packed_of truth 1 g.observables
      → Replied (outcome_on g shot truth) (Err x) was was
  unfolding shot_outcome
  truth_refused m x p e = rw ((rows_accepted shot 1 g.detectors m (sym p)).0, refused_same truth 1 g.observables x (sym e)) (record { answer = refl; text = refl })

  pub both_packed : (m k : ℕ) → Ok m ≡ packed_of shot 1 g.detectors → Ok k ≡ packed_of truth 1 g.observables → length truth ≤ 2
      → (r : Result Reply Refusal) (out : List ℕ) → Replied (decoded_shot (handed_for (lent g) shot (mid_of 0 (length truth - 0) two_zeros) (replicate 256 0)) truth) r was out
      → Replied (outcome_on g shot truth) r was out
  unfolding shot_outcome
  both_packed m k p q few r out d =
      let a = (rows_accepted shot 1 g.detectors m (sym p)).0 in
      let b = (rows_accepted truth 1 g.observables k (sym q)).0 in
      let long : length truth ≡ words g.observables = (accepted_sound truth 1 g.observables b).long ∙ one-mul (words g.observables) in
      let zeros : mid_of 0 (length truth - 0) two_zeros ≡ replicate (words g.observables) 0 = zero_row_lem (length truth) few ∙ ap (λ (w : ℕ). replicate w 0) long in
      let c : and_then (check_packed shot 1 g.detectors) (check_packed truth 1 g.observables) ≡ Ok tt = ap (λ (x : Checked). and_then x (check_packed truth 1 g.observables)) a ∙ b in
      subst (λ (x : Checked). Replied (only_then x (decoded_shot (handed_for (lent g) shot (replicate (words g.observables) 0) (replicate 256 0)) truth)) r was out) (sym c)
      (subst (λ (x : List ℕ). Replied (decoded_shot (handed_for (lent g) shot x (replicate 256 0)) truth) r was out) zeros d)
