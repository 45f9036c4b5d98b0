-- A line of any bytes.
use Rattle.std.specs.Prelude.{Result, Ok, Err}
use Prim.Native.Nat.{ℕ, ◌-◌, min}
use native.Mathlib.Omega.{arith}
use mathlib.Core.Path.{◌≡◌, refl, sym, ap, ◌∙◌}
use mathlib.Core.List.{List, map}
use lib.ListN.{length, length-map, length-take, length-drop}
use Rattle.codes.specs.declared.Refusal.{Refusal}
use Rattle.counts.specs.declared.Row.{Row}
use Rattle.hex_text.specs.Hex.{bytes_of}
use Rattle.dem.specs.Tables.{written}
use Rattle.edges.specs.Tables.{Slices}
use Rattle.frames.specs.declared.State.{State}
use Rattle.frames.specs.Frames.{kind_of}
use Rattle.frames.specs.Input.{Input, Read, next, refused, read_line}
use Rattle.frames.specs.Counts.{counts_of, answer_of}
use Rattle.frames.proofs.Words.{row_read, shot_read_lem}
use Rattle.reader.specs.declared.Tables.{Tables}
use Rattle.reader.specs.Lent.{columns_in, SameTables}
use Rattle.reader.specs.Columns.{Columns, columns_at, roomy, Holds, read_by, LineRead, columns_left}
use Rattle.reader.proofs.Laws.{laws}
use Rattle.replies.specs.Last.{refusal_text}
use Rattle.session.specs.declared.Numbers.{Numbers}
use Rattle.std.specs.declared.ops.ControlFlow.TheVariants.{Break}
use Rattle.session.specs.Output.{Session, ends, answer_line}
use Rattle.session.specs.Kept.{Told, numbers_of, Sizes, Keeps, Kept, Reads, ReadSome, AnswersKind, Answers}
use Rattle.session.proofs.Fronts.{kept_on}

-- ---- tables of the same lengths

pub record Same (c d : Columns) : Type 0 where
  pub bits : length d.bits ≡ length c.bits
  pub detector_counts : length d.detector_counts ≡ length c.detector_counts
  pub observable_counts : length d.observable_counts ≡ length c.observable_counts
  pub component_counts : length d.component_counts ≡ length c.component_counts
  pub component_detectors : length d.component_detectors ≡ length c.component_detectors
  pub component_observables : length d.component_observables ≡ length c.component_observables
  pub entries : length d.entries ≡ length c.entries
  pub row : length d.row ≡ length c.row
  pub truth : length d.truth ≡ length c.truth

-- four slices that kept their lengths
module _ (r r' : Tables) (e : SameTables r r') where
  column_same : (f : Row → ℕ) → length (map f r'.counts.now) ≡ length (map f r.counts.now)
  column_same f = length-map r'.counts.now f ∙ e.counts_long ∙ sym (length-map r.counts.now f)

  pub same_of : Same (columns_in r) (columns_in r')
  same_of = record {
    bits = e.probability_bits_long;
    detector_counts = column_same (λ r. r.detectors);
    observable_counts = column_same (λ r. r.observables);
    component_counts = column_same (λ r. r.components);
    component_detectors = column_same (λ r. r.component_detectors);
    component_observables = column_same (λ r. r.component_observables);
    entries = e.entries_long;
    row = length-take 4 r'.shot.now ∙ ap (min 4) e.shot_long ∙ sym (length-take 4 r.shot.now);
    truth = length-drop 4 r'.shot.now ∙ ap (λ (k : ℕ). k - 4) e.shot_long ∙ sym (length-drop 4 r.shot.now);
  }

roomy_same : (c d : Columns) → Same c d → roomy d ≡ roomy c
roomy_same c d e = rw (e.bits, e.detector_counts, e.observable_counts, e.component_counts, e.component_detectors, e.component_observables, e.entries, e.row, e.truth) refl

pub sizes_same : (c d : Columns) (g : Slices) → Same c d → Sizes c g → Sizes d g
sizes_same c d g e z = record {
  room = roomy_same c d e ∙ z.room;
  sized = record {
    bits = omega (arith, e.bits, z.sized.bits);
    component_detectors = omega (arith, e.component_detectors, z.sized.component_detectors);
    component_observables = omega (arith, e.component_observables, z.sized.component_observables);
    entries = omega (arith, e.entries, z.sized.entries);
  };
  wide = z.wide;
  few = z.few;
  rows = z.rows;
}

-- ---- the line as it was read

no_next : {A : Type 0} {m : State} {x : Refusal} → ◌≡◌ {A = Result State Refusal} (Ok m) (Err x) → A
no_next e = cc

module _ (text : List ℕ) (n : Numbers) (c : Columns) (g : Slices) (kind : ℕ) (k : kind ≡ kind_of (bytes_of text)) where
  -- what was read with it
  pub record Took (s : Session) (m : State) (d : Columns) : Type 0 where
    pub input : Input
    pub reads : Reads s input kind n m d g
    pub read : read_line s.input text ≡ next input

  module _ (s : Session) (e : n ≡ numbers_of s) (keeps : Keeps s c g) (sizes : Sizes c g) where
    holds : Holds s.input n.state c
    holds = record { counts = ap (λ (m : Numbers). m.state) e; within = rw e keeps.within; tables = keeps.tables }

    module _ (r : Result State Refusal) (d : Columns) (l : LineRead text n.state c r d) where
      answer_is : r ≡ answer_of (read_line s.input text)
      answer_is = l.answer s.input holds sizes.room

      took_by : (m : State) → r ≡ Ok m → Same c d → (x : Read) → read_line s.input text ≡ x → Took s m d
      took_by m p same (refused y) q = no_next (sym p ∙ answer_is ∙ ap answer_of q)
      took_by m p same (next t) q =
          let counts : m ≡ counts_of t = let z : ◌≡◌ {A = Result State Refusal} (Ok m) (Ok (counts_of t)) = sym p ∙ answer_is ∙ ap answer_of q in cc in
          let tables : d ≡ columns_at t c = l.tables s.input holds sizes.room ∙ ap (λ (x : Read). columns_at (read_by s.input x) c) q in
          let h = laws.later s.input t c d text q tables in
          record {
            input = t;
            reads = record {
              numbers = e;
              counts = counts;
              within = h.within;
              tables = h.tables;
              row = row_read s.input t text q;
              shot = λ six. shot_read_lem s.input t text q keeps.row (sym k ∙ six);
              graph = keeps.graph;
              shots = keeps.shots;
              failures = keeps.failures;
              sizes = sizes_same c d g same sizes;
            };
            read = q;
          }

      took : (m : State) → r ≡ Ok m → Same c d → Took s m d
      took m p same = took_by m p same (read_line s.input text) refl

      refused_is : (y : Refusal) → r ≡ Err y → (x : Read) → read_line s.input text ≡ x → x ≡ refused y
      refused_is y p (next t) q = no_next (sym (ap answer_of q) ∙ sym answer_is ∙ p)
      refused_is y p (refused u) q = let z : ◌≡◌ {A = Result State Refusal} (Err y) (Err u) = sym p ∙ answer_is ∙ ap answer_of q in let same : y ≡ u = cc in rw same refl

  -- ---- the contract

  module _ (r : Result State Refusal) (d : Columns) (l : LineRead text n.state c r d) where
    pub line_some : Kept n c g → (m : State) → r ≡ Ok m → Same c d → ReadSome kind n m d g
    line_some p m e same =
        let t = took p.session p.numbers p.keeps p.sizes r d l m e same in
        record { session = p.session; input = t.input; reads = t.reads }

    pub line_refused : (y : Refusal) → r ≡ Err y → (z : Told) (was out : List ℕ) → (z ≡ Break (length (refusal_text y))) × (out ≡ written (refusal_text y) was)
        → Answers text n c g z d g was out
    unfolding answer_line
    line_refused y e z was out p = record {
      answer = λ s q keeps sizes. rw (refused_is s q keeps sizes r d l y e (read_line s.input text) refl) (record { told = p.0; text = p.1 });
      columns = λ s q keeps sizes.
          rw (refused_is s q keeps sizes r d l y e (read_line s.input text) refl) (l.leaves ∙ ap (λ (x : Result State Refusal). columns_left x text n.state c) e);
      slices = λ s q keeps sizes. rw (refused_is s q keeps sizes r d l y e (read_line s.input text) refl) refl;
      keeps = λ s q keeps sizes. rw (refused_is s q keeps sizes r d l y e (read_line s.input text) refl) (kept_on (ends y) d g tt);
    }

    pub line_next : (m : State) → r ≡ Ok m → Same c d → (z : Told) (left : Slices) (was out : List ℕ) → AnswersKind kind n m d g z left was out → Answers text n c g z d left was out
    unfolding answer_line
    line_next m e same z left was out a = record {
      answer = λ s q keeps sizes.
          let t = took s q keeps sizes r d l m e same in
          rw (t.read, ← k) (a.answer s t.input t.reads);
      columns = λ s q keeps sizes.
          let t = took s q keeps sizes r d l m e same in
          rw t.read (l.tables s.input (holds s q keeps sizes) sizes.room ∙ ap (λ (x : Read). columns_at (read_by s.input x) c) t.read);
      slices = λ s q keeps sizes.
          let t = took s q keeps sizes r d l m e same in
          rw (t.read, ← k) (a.leaves s t.input t.reads);
      keeps = λ s q keeps sizes.
          let t = took s q keeps sizes r d l m e same in
          rw (t.read, ← k) (a.keeps s t.input t.reads);
    }
