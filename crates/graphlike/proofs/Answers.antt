-- The answer of the call, and what it leaves.
use Rattle.std.specs.Prelude.{Result, Ok, Err, is_err}
use Prim.Native.Nat.{ℕ, ◌-◌, ◌*◌, ◌≤◌}
use native.Mathlib.Omega.{arith}
use mathlib.Core.Path.{◌≡◌, refl, sym, ap, ◌∙◌}
use mathlib.Core.List.{List, [], ◌∷◌}
use mathlib.Core.Bool.{Bool, true, not, ◌&&◌}
use lib.ListN.{length, get_or}
use lib.Dec.{leb}
use Rattle.std.proofs.Math.Bool.{and_assoc}
use Rattle.std.proofs.lemmas.Bool.Decides.{nat_tests}
use Rattle.lists.proofs.Truth.{and_left, and_right}
use Rattle.codes.specs.declared.Refusal.{Refusal}
use Rattle.codes.specs.declared.Refusal.TheVariants.{Short}
use Rattle.codes.specs.Order.{Checked, refuse_if, and_then}
use Rattle.codes.specs.Limits.{check_counts}
use Rattle.dem.specs.Model.{Symptom, ErrorMechanism, list_fits, symptom_fits, symptoms_fit, lists_fit, check_model}
use Rattle.dem.specs.Tables.{Tables, model_of, components_in, entries_in, columns_hold, lists_hold, tables_hold, tables_zero}
use Rattle.dem.specs.Decompose.{Split, into, refused, decompose}
use Rattle.dem.proofs.Accepted.{model_fits}
use Rattle.codes.proofs.Checks.{then_accepted, unless_accepted, counts_within}
use Rattle.dem.specs.declared.Output.{Output}
use Rattle.dem.specs.declared.Place.{Place}
use Rattle.dem.specs.Lent.{tables_out, SameOutput}
use Rattle.dem.specs.Positions.{place_of}
use Rattle.dem.proofs.Laws.{count}
use Rattle.cover.proofs.Steps.{fits_wider}
use Rattle.suggested.specs.declared.Size.{Size}
use Rattle.suggested.specs.Held.{places_of}
use Rattle.split_model.specs.declared.Counts.{Counts}
use Rattle.decompose.specs.declared.Lengths.{Lengths}
use Rattle.decompose.specs.Call.{room_of, lengths_of, scratch_long, long, checked, outcome, sheet_of, call_row, answer_of, Decomposes}
use Rattle.decompose.specs.Made.{Made}
use Rattle.decompose.specs.Started.{Decomposable}
use Rattle.graphlike.specs.Lent.{Lent}

-- ---- a model within fewer observables is within their limit

symptom_wider : (D O : ℕ) → O ≤ 128 → (x : Symptom) → symptom_fits D O x ≡ true → symptom_fits D 128 x ≡ true
unfolding symptom_fits
symptom_wider D O l x h =
    let d = list_fits D x.detectors in
    let o = list_fits O x.observables in
    rw (and_left d o h, fits_wider O 128 x.observables l (and_right d o h))

symptoms_wider : (D O : ℕ) → O ≤ 128 → (xs : List Symptom) → symptoms_fit D O xs ≡ true → symptoms_fit D 128 xs ≡ true
unfolding symptoms_fit
symptoms_wider D O l [] h = refl
symptoms_wider D O l (x ∷ xs) h =
    let own = symptom_fits D O x in
    let others = symptoms_fit D O xs in
    rw (symptom_wider D O l x (and_left own others h), symptoms_wider D O l xs (and_right own others h))

lists_wider : (D O : ℕ) → O ≤ 128 → (m : ErrorMechanism) → lists_fit D O m ≡ true → lists_fit D 128 m ≡ true
unfolding lists_fit
lists_wider D O l m h =
    let own = symptom_fits D O m.symptom in
    let few = leb (length m.components) 16 in
    let theirs = symptoms_fit D O m.components in
    let q = and_right own (few && theirs) h in
    rw (symptom_wider D O l m.symptom (and_left own (few && theirs) h), and_left few theirs q, symptoms_wider D O l m.components (and_right few theirs q))

-- ---- the check

-- the model's tables hold it, and x is what the output tables' lengths say and y what those of the scratch slices say
pub by_lengths : (D O n : ℕ) (t was : Tables) (s : Lengths) → check_counts D O n ≡ Ok tt → tables_hold n t ≡ true → (x y : Bool) (end : Place)
    → end ≡ place_of n t
    → x ≡ (columns_hold n was && lists_hold end.component end.entry was) → y ≡ scratch_long D n s
    → checked D O n t was s ≡ and_then (refuse_if (not (x && y)) Short) (check_model D O 0 (model_of n t))
unfolding checked long
by_lengths D O n t was s a h x y end e p q =
    let z : x ≡ (columns_hold n was && lists_hold (components_in n t) (entries_in n t) was) = p ∙ ap (λ (u : Place). columns_hold n was && lists_hold u.component u.entry was) e in
    rw (a, h, z, q)
    (ap (λ (v : Bool). and_then (refuse_if (not v) Short) (check_model D O 0 (model_of n t)))
    (sym (and_assoc (columns_hold n was) (lists_hold (components_in n t) (entries_in n t) was) (scratch_long D n s))))

-- ---- what an accepted call was lent

pub lent : (D O n : ℕ) (t was : Tables) (s : Lengths) → checked D O n t was s ≡ Ok tt → Lent D n t was s
unfolding checked long
lent D O n t was s e =
    let (counts, p) = then_accepted _ _ e in
    let (lengths, model) = then_accepted _ _ p in
    let columns = columns_hold n was in
    let lists = lists_hold (components_in n t) (entries_in n t) was in
    let scratch = scratch_long D n s in
    let held = unless_accepted (tables_hold n t && (columns && (lists && scratch))) Short lengths in
    let q = and_right (tables_hold n t) (columns && (lists && scratch)) held in
    let within = counts_within D O n counts in
    record {
      fitting = record {
        holds = and_left (tables_hold n t) (columns && (lists && scratch)) held;
        few = within.2;
        lists = λ k z l. lists_wider D O within.1 (get_or (model_of n t) k z) (model_fits D O 0 (model_of n t) model k z (omega (arith, count n t))).lists;
      };
      columns = and_left columns (lists && scratch) q;
      lists = and_left lists scratch (and_right columns (lists && scratch) q);
      scratch = and_right lists scratch (and_right columns (lists && scratch) q);
    }

-- ---- the slices of an accepted model

-- each scratch slice is long enough
pub record Long (D n : ℕ) (s : Lengths) : Type 0 where
  pub starts : 17 * n ≤ s.starts
  pub before : 17 * n ≤ s.before
  pub last_of : D ≤ s.last_of
  pub first_of : D ≤ s.first_of
  pub next_of : n ≤ s.next_of
  pub numbers : n ≤ s.numbers
  pub masks : n ≤ s.masks
  pub words0 : n ≤ s.words0
  pub words1 : n ≤ s.words1
  pub earlier : n ≤ s.earlier

pub scratch_parts : (D n : ℕ) (s : Lengths) → scratch_long D n s ≡ true → Long D n s
unfolding scratch_long
scratch_parts D n s h = record {
  starts = grind (arith, nat_tests);
  before = grind (arith, nat_tests);
  last_of = grind (arith, nat_tests);
  first_of = grind (arith, nat_tests);
  next_of = grind (arith, nat_tests);
  numbers = grind (arith, nat_tests);
  masks = grind (arith, nat_tests);
  words0 = grind (arith, nat_tests);
  words1 = grind (arith, nat_tests);
  earlier = grind (arith, nat_tests);
}

pub decomposable : (D n : ℕ) (t was : Tables) (starts before last first next numbers masks words0 words1 earlier : List ℕ) (room : Size)
    → Lent D n t was (lengths_of starts before last first next numbers masks words0 words1 earlier) → places_of room ≡ room_of was
    → Decomposable D n t was room starts before last first next numbers masks words0 words1 earlier
decomposable D n t was starts before last first next numbers masks words0 words1 earlier room l e =
    let p = scratch_parts D n (lengths_of starts before last first next numbers masks words0 words1 earlier) l.scratch in
    record {
      fitting = l.fitting;
      columns = l.columns;
      lists = l.lists;
      places = e;
      starts_hold = p.starts;
      before_hold = p.before;
      last_hold = p.last_of;
      first_hold = p.first_of;
      next_hold = p.next_of;
      numbers_hold = p.numbers;
      masks_hold = p.masks;
      words0_hold = p.words0;
      words1_hold = p.words1;
      earlier_hold = p.earlier;
    }

-- ---- the answer

-- the answer on the sheet
on_sheet : (x : Split) → sheet_of (answer_of x) ≡ call_row x
on_sheet (into ms) = refl
on_sheet (refused r) = refl

-- ---- what the call comes to, by its checks

-- the lengths told are those of the slices
pub same_check : (D O n : ℕ) (t was : Tables) (s told : Lengths) (x : Checked) → told ≡ s → x ≡ checked D O n t was told → checked D O n t was s ≡ x
same_check D O n t was s told x e q = rw (← e) (sym q)

module _ (D O n : ℕ) (t was : Tables) (s : Lengths) where
  pub refused_by : (z : Refusal) (r : Result Counts Refusal) (after : Tables) → checked D O n t was s ≡ Err z → r ≡ Err z → Made (outcome D O n t was s) was r after
  unfolding outcome
  refused_by z r after e q = rw e q

  pub made_of : (room : Size) (r : Result Counts Refusal) (after : Tables) → checked D O n t was s ≡ Ok tt → places_of room ≡ room_of was → Made (decompose (places_of room) (model_of n t)) was r after
      → Made (outcome D O n t was s) was r after
  unfolding outcome
  made_of room r after e p m = rw (e, ← p) m

-- ---- what it leaves

-- a refusal leaves tables of the same lengths, all zero
pub same_zero : (t t' : Output) → SameOutput t t' → tables_zero (tables_out t') ≡ tables_zero (tables_out t)
unfolding tables_zero
same_zero t t' e =
    rw (e.probability_long, e.detector_counts_long, e.observable_counts_long, e.component_counts_long, e.component_detectors_long, e.component_observables_long, e.entries_long)

pub refused_left : (x : Split) (was mid after : Tables) (r : Result Counts Refusal) → Made x was r mid → is_err r ≡ true → after ≡ tables_zero was → Decomposes x r was after
refused_left (into ms) was mid after r m e z = absurd (cc (sym e ∙ ap (is_err {T = Counts} {E = Refusal}) m.0))
refused_left (refused y) was mid after r m e z = record { sheet = ap sheet_of m ∙ on_sheet (refused y); answer = m; tables = z }
