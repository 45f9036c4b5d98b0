-- What the numbers and the tables stand for, from the first line on.
use Prim.Native.Nat.{ℕ}
use mathlib.Core.Path.{◌≡◌, refl, sym, ap, ◌∙◌}
use mathlib.Core.List.{List, map}
use Rattle.dem.specs.Tables.{tables_of}
use Rattle.frames.specs.Input.{Input, next, start, tables_read, read_line}
use Rattle.frames.specs.Counts.{counts_of}
use Rattle.frames.proofs.Answers.{read_held}
use Rattle.reader.specs.Columns.{Columns, byte_of, columns_at, Holds}
use Rattle.reader.specs.Laws.{Laws}
use Rattle.reader.proofs.Written.{written_again}
use Rattle.reader.proofs.Stored.{columns_eq}

first : (c : Columns) → Holds start (counts_of start) c
unfolding start tables_of columns_at
first c = record { counts = refl; within = refl; tables = refl }

-- what stands at the front stays there
at_again : (t : Input) (c : Columns) → columns_at t c ≡ columns_at t (columns_at t c)
unfolding columns_at
at_again t c =
    let r = tables_read t.mechanisms in
    columns_eq _ _ _ _ _ _ _ _ _ _ _ _ _ _ _ _ _ _ (written_again (map (λ g. g.bits) t.mechanisms) c.bits) (written_again r.detector_counts c.detector_counts)
    (written_again r.observable_counts c.observable_counts) (written_again (map byte_of r.component_counts) c.component_counts)
    (written_again r.component_detectors c.component_detectors) (written_again r.component_observables c.component_observables) (written_again r.entries c.entries)
    (written_again t.row c.row) (written_again t.truth c.truth)

later : (s t : Input) (c left : Columns) (line : List ℕ) → read_line s line ≡ next t → left ≡ columns_at t c → Holds t (counts_of t) left
later s t c left line e q = record {
  counts = refl;
  within = read_held s t line e;
  tables = q ∙ at_again t c ∙ ap (columns_at t) (sym q);
}

pub laws : Laws
laws = record { first = first; later = later }
