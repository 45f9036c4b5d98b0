-- What the marker's answer tells of its verdict: it reads only the ends of the graph, and on Pass the list is fit.
use Rattle.std.specs.Prelude.{Option, None, Some, Ok}
use Prim.Native.Nat.{ℕ}
use mathlib.Core.Path.{◌≡◌, refl, ap, ◌∙◌}
use mathlib.Core.List.{List}
use mathlib.Core.Bool.{Bool, true, false}
use lib.ListN.{length}
use Rattle.lists.specs.Lists.{below}
use Rattle.steps.specs.Graph.{Graph}
use Rattle.steps.specs.Rows.{row_of}
use Rattle.steps.specs.Marker.{Marked, pass, differs, unfit, fit, first_wrong, verdict, mark}
use Rattle.steps.specs.Call.{row_marked}
use Rattle.found.proofs.SameEnds.{SameEnds}
use Rattle.marking.specs.declared.Marking.TheVariants.{Pass}
use Rattle.marking.specs.Answer.{marking_of}
use Rattle.marking.proofs.Judged.{fit_same, first_same}

-- ---- graphs with the same ends

same_verdict : (g h : Graph) (es : List ℕ) (b : Bool) (o : Option ℕ) → marking_of (verdict g es b o) ≡ marking_of (verdict h es b o)
unfolding verdict
same_verdict g h es false o = refl
same_verdict g h es true None = refl
same_verdict g h es true (Some d) = refl

-- they are marked alike, but for the row
pub same_marking : {g h : Graph} → SameEnds g h → (lit : List Bool) (es : List ℕ) → marking_of (mark g lit es) ≡ marking_of (mark h lit es)
unfolding mark
same_marking {g} {h} s lit es =
    let fits = fit_same g h (ap length s.edge_u) es in
    let first : first_wrong g lit es (below g.detectors) ≡ first_wrong h lit es (below h.detectors)
    = first_same g h s.edge_u s.edge_v lit es (below g.detectors) ∙ ap (λ (n : ℕ). first_wrong h lit es (below n)) s.detectors in
    same_verdict g h es (fit g es) (first_wrong g lit es (below g.detectors))
    ∙ ap (λ (b : Bool). marking_of (verdict h es b (first_wrong g lit es (below g.detectors)))) fits
    ∙ ap (λ (o : Option ℕ). marking_of (verdict h es (fit h es) o)) first

-- ---- Pass

passed : (g : Graph) (es : List ℕ) (b : Bool) (o : Option ℕ) → marking_of (verdict g es b o) ≡ Ok Pass → (b ≡ true) × (verdict g es b o ≡ pass (row_of g es))
unfolding verdict
passed g es false o h = (cc, cc)
passed g es true None h = (refl, refl)
passed g es true (Some d) h = (refl, cc)

-- the list is fit, and its row is written
pub on_pass : (g : Graph) (lit : List Bool) (es : List ℕ) → marking_of (mark g lit es) ≡ Ok Pass → (fit g es ≡ true) × (mark g lit es ≡ pass (row_of g es))
unfolding mark
on_pass g lit es h = passed g es (fit g es) (first_wrong g lit es (below g.detectors)) h

-- ---- the other answers

-- they leave the row
pub off_pass : (was : List ℕ) (m : Marked) → (marking_of m ≡ Ok Pass → ⊥) → was ≡ row_marked was m
unfolding row_marked
off_pass was (pass row) h = absurd (h refl)
off_pass was (differs d) h = refl
off_pass was unfit h = refl
