-- Demand 3: what is found of the decoder and the marker on every accepted graph.
use Rattle.std.specs.Prelude.{Some}
use Prim.Native.Nat.{ℕ}
use mathlib.Core.Path.{◌≡◌, refl, sym, ap, ◌∙◌}
use mathlib.Core.List.{List, []}
use mathlib.Core.Bool.{Bool, true}
use mathlib.Core.Logic.{◌⊎◌, inl, inr}
use lib.ListN.{length}
use Rattle.lists.specs.Lists.{member}
use Rattle.steps.specs.Graph.{Graph, Ends}
use Rattle.steps.specs.Growth.{State, Growth, stuck, settled, short, first_stuck, after, growth}
use Rattle.steps.specs.Peeling.{peeled}
use Rattle.steps.specs.Shot.{Decoded, impossible, corrected, answer, decode, row_left}
use Rattle.steps.specs.Marker.{fit}
use Rattle.steps.specs.Found.{Known, Explains, Whole, Found, Stuck, Hands, Demand3, by_steps}
use Rattle.found.proofs.Fits.{fit_known, fitting}
use Rattle.found.proofs.Judged.{explained, judges, refuses}
use Rattle.found.proofs.Xors.{xors}
use Rattle.found.proofs.Blank.{row_left_lem, row_past}
use Rattle.found.proofs.Kept.{kept}
use Rattle.found.proofs.Moves.{turn_ended, turn_held}
use Rattle.found.proofs.Outcome.{Held, Settled, Outcome, outcome}
use Rattle.found.proofs.NoCorrection.{no_correction, names}
use Rattle.found.proofs.Clusters.{Still}
use Rattle.found.proofs.Corrections.{correct}
use Rattle.found.proofs.Few.{few_edges}
use Rattle.found.proofs.Accepted.{accepted_ends}

module _ (g : Graph) (lit : List Bool) where
  -- an impossible shot is one that growth holds
  impossible_held : (r : Growth) → Outcome g lit r → (n d : ℕ) → answer g lit r ≡ impossible n d → Held g lit n d
  unfolding answer
  impossible_held (stuck m c) o n d e =
      let q : m ≡ n = cc in
      let r : c ≡ d = cc in
      rw (← q, ← r) o
  impossible_held (settled m s) o n d e = cc
  impossible_held short o n d e = absurd o

  -- a corrected one has settled
  record Ended (n : ℕ) (l : List ℕ) : Type 0 where
    settled : Settled g lit n (after g lit n)
    list : l ≡ peeled g (after g lit n).saturated (after g lit n).label lit

  corrected_ended : (r : Growth) → Outcome g lit r → (n : ℕ) (l : List ℕ) → answer g lit r ≡ corrected n l → Ended n l
  unfolding answer
  corrected_ended (stuck m c) o n l e = cc
  corrected_ended (settled m s) o n l e =
      let q : m ≡ n = cc in
      let r : peeled g s.saturated s.label lit ≡ l = cc in
      record {
        settled = rw (← q) (record { is = refl; rounds = o.rounds; turned = o.turned });
        list = sym r ∙ ap (λ (t : State). peeled g t.saturated t.label lit) (o.is ∙ ap (after g lit) q);
      }
  corrected_ended short o n l e = absurd o

  module _ (ok : Ends g) (z : length lit ≡ g.detectors) where
    stopped : (n d : ℕ) → decode g lit ≡ impossible n d → Held g lit n d
    unfolding decode
    stopped n d e = impossible_held (growth g lit) (outcome g lit ok) n d e

    first : (n d : ℕ) → decode g lit ≡ impossible n d → first_stuck g lit (after g lit n) (after g lit n).active ≡ Some d
    first n d e = turn_held g lit (after g lit n) d (stopped n d e).turned

    ended : (n : ℕ) (l : List ℕ) → decode g lit ≡ corrected n l → Ended n l
    unfolding decode
    ended n l e = corrected_ended (growth g lit) (outcome g lit ok) n l e

    quiet : (n : ℕ) (l : List ℕ) → decode g lit ≡ corrected n l → (after g lit n).active ≡ []
    quiet n l e = turn_ended g lit (after g lit n) (ended n l e).settled.turned

    still : (n : ℕ) → (after g lit n).active ≡ [] → Still g lit (after g lit n).saturated (after g lit n).label
    unfolding member
    still n q = record {
      labels = (kept g ok lit n).labels;
      joins = (kept g ok lit n).joins;
      quiet = λ a. sym ((kept g ok lit n).actives a) ∙ rw q;
    }

    corrects : (n : ℕ) (l : List ℕ) → decode g lit ≡ corrected n l → (fit g l ≡ true) × Explains g lit l
    corrects n l e = rw (ended n l e).list (correct g ok lit (after g lit n).saturated (after g lit n).label (still n (quiet n l e)) z)

    wholly : (n : ℕ) (l : List ℕ) → decode g lit ≡ corrected n l → Whole by_steps g lit l
    unfolding row_left
    wholly n l e =
        let (f, ex) = corrects n l e in
        record {
          fits = f;
          short = rw (ended n l e).list (few_edges g ok lit (after g lit n).saturated (after g lit n).label (still n (quiet n l e)) z);
          explains = ex;
          row = λ was b. rw e (row_left_lem g l was b);
          past = λ was. rw e (row_past g l was);
          marked = explained g lit l f ex;
        }

    never : Stuck by_steps g lit → (es : List ℕ) → Known g es → Explains g lit es → ⊥
    never (n, d, e) = no_correction g ok lit n d (first n d e)

    untouched : Stuck by_steps g lit → (was : List ℕ) → row_left g was (decode g lit) ≡ was
    unfolding row_left
    untouched (n, d, e) was = rw e

    either : (r : Decoded) → decode g lit ≡ r → Stuck by_steps g lit ⊎ Hands by_steps g lit
    either (impossible n d) e = inl (n, d, e)
    either (corrected n l) e = inr (n, l, e)

    -- what has no correction is stuck
    no_way : Stuck by_steps g lit ⊎ Hands by_steps g lit → ((es : List ℕ) → fit g es ≡ true → Explains g lit es → ⊥) → Stuck by_steps g lit
    no_way (inl s) h = s
    no_way (inr (n, l, e)) h = let (f, ex) = corrects n l e in absurd (h l f ex)

    founds : Found by_steps g lit
    founds = record {
      exactly = (λ s es f ex. never s es (fit_known g es f) ex, no_way (either (decode g lit) refl));
      never = never;
      untouched = untouched;
      either = either (decode g lit) refl;
      whole = wholly;
      xored = xors g;
      fitting = fitting g;
      judged = λ es f. judges g lit es f;
      refused = refuses g lit;
      rounds = λ n l e. ((ended n l e).settled.rounds, quiet n l e);
      rounds_stuck = λ n d e. ((stopped n d e).rounds, first n d e);
      named = λ n d e. names g ok lit n d (first n d e);
    }

-- of every graph whose ends are in order: no limit and no fact about a weight is used
pub found_of_ends : (g : Graph) → Ends g → (lit : List Bool) → length lit ≡ g.detectors → Found by_steps g lit
found_of_ends g ok lit z = founds g lit ok z

-- of every accepted graph
pub found : Demand3 by_steps
found g a lit z = found_of_ends g (accepted_ends g a) lit z
