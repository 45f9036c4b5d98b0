-- What the call answers and leaves, by the check and by the steps.
use Rattle.codes.specs.Order.{Checked}
use Rattle.std.specs.Prelude.{Result, Ok, Err}
use Prim.Native.Nat.{ℕ}
use native.Mathlib.Nat.{one-mul}
use mathlib.Core.Path.{◌≡◌, refl, sym, ap, ◌∙◌}
use mathlib.Core.List.{List, []}
use mathlib.Core.Bool.{Bool, true}
use lib.ListN.{length}
use Rattle.bits.specs.Rows.{words}
use Rattle.bits.proofs.Booleans.{bits_length}
use Rattle.codes.specs.declared.Refusal.{Refusal}
use Rattle.steps.specs.Shot.{Decoded, impossible, corrected, row_left}
use Rattle.steps.specs.Call.{graph_of, list_left}
use Rattle.found.proofs.Found.{found}
use Rattle.scratch.specs.declared.Lengths.{Lengths}
use Rattle.lent_graph.specs.Call.{check_call}
use Rattle.lent_graph.specs.Accepts.{Accepts}
use Rattle.lent_graph.proofs.Accepts.{call_accepted}
use Rattle.shot.specs.declared.Shot.{Shot}
use Rattle.shot.specs.declared.Shot.TheVariants as shot
use Rattle.shot.specs.Shots.{shot_of}
use Rattle.shot.specs.Blank.{is_blank}
use Rattle.shot.proofs.Decodes.{blank, blank_row}
use Rattle.shot.proofs.Blank.{none_lit}
use Rattle.own_slices.specs.Long.{slices_long}
use Rattle.decoder.specs.Answer.{Handed, own_long, checks, graph_of_call, lit_of_call, decoded, sheet_of, call_row, answer_of, list_after, row_after, Decodes}

-- the test of the call's own slices is that of a batch of one
pub own_is : (h : Handed) {long : Bool} {have : Lengths} → have ≡ h.scratch
    → long ≡ slices_long h.graph.detectors h.graph.observables h.graph.edges 1 (length h.row) (length h.list) have → long ≡ own_long h
unfolding own_long
own_is h e p = rw (e, one-mul (words h.graph.observables)) at p

-- the check of the call is the one that was made
pub checked : (h : Handed) (long : Bool) (c : Checked) → long ≡ own_long h → c ≡ check_call h.graph long h.shot 1 h.width → checks h ≡ c
unfolding checks
checked h long c p q = sym (q ∙ ap (λ (b : Bool). check_call h.graph b h.shot 1 h.width) p)

pub accepts : (h : Handed) → checks h ≡ Ok tt → Accepts h.graph (own_long h) h.shot 1 h.width
unfolding checks
accepts h a = call_accepted h.graph (own_long h) h.shot 1 h.width a

-- a refusal is no acceptance
not_accepted : (r : Refusal) → ◌≡◌ {A = Checked} (Err r) (Ok tt) → ⊥
not_accepted r h = cc

-- the answer on the sheet
on_sheet : (c : Checked) (x : Decoded) → sheet_of (answer_of c x) ≡ call_row c x
unfolding call_row answer_of
on_sheet (Err r) x = refl
on_sheet (Ok tt) (impossible n d) = refl
on_sheet (Ok tt) (corrected n list) = refl

pub refused : (h : Handed) (r : Refusal) → checks h ≡ Err r → Decodes h (Err r) h.list h.row
unfolding call_row answer_of list_after row_after
refused h r e = record {
  sheet = rw e refl;
  answers = rw e refl;
  lists = rw e refl;
  rows = rw e refl;
  found = λ a. absurd (not_accepted r (sym e ∙ a));
}

answered : (x : Decoded) → ◌≡◌ {A = Result Shot Refusal} (Ok (shot_of x)) (answer_of (Ok tt) x)
unfolding answer_of
answered x = refl

pub decodes : (h : Handed) → checks h ≡ Ok tt → {shot : Shot} {list row : List ℕ}
    → shot ≡ shot_of (decoded h) → list ≡ list_left h.list (decoded h) → row ≡ row_left (graph_of_call h) h.row (decoded h) → Decodes h (Ok shot) list row
unfolding list_after row_after graph_of
decodes h a {shot} q s t =
    let x = decoded h in
    let e : ◌≡◌ {A = Result Shot Refusal} (Ok shot) (answer_of (checks h) x) = ap (λ (y : Shot). Ok y) q ∙ answered x ∙ ap (λ (c : Checked). answer_of c x) (sym a) in
    record {
      sheet = ap sheet_of e ∙ on_sheet (checks h) x;
      answers = e;
      lists = s ∙ ap (λ (c : Checked). list_after c h.list x) (sym a);
      rows = t ∙ ap (λ (c : Checked). row_after c (graph_of_call h) h.row x) (sym a);
      found = λ _. found (graph_of_call h) (accepts h a).graph (lit_of_call h) (bits_length h.graph.detectors h.shot);
    }

-- a shot with no lit detector: no round, an empty list, and a row XORed with nothing
blank_steps : (h : Handed) → is_blank h.shot ≡ true → decoded h ≡ corrected 0 []
unfolding graph_of
blank_steps h b = blank (graph_of_call h) h.shot (none_lit h.graph.detectors h.shot b)

pub blanked : (h : Handed) → checks h ≡ Ok tt → is_blank h.shot ≡ true → Decodes h (Ok (shot.Decoded 0 0)) h.list h.row
unfolding list_left
blanked h a b =
    let q = blank_steps h b in
    decodes h a {shot = shot.Decoded 0 0} (ap shot_of (sym q)) (ap (list_left h.list) (sym q)) (sym (blank_row (graph_of_call h) h.row) ∙ ap (row_left (graph_of_call h) h.row) (sym q))
