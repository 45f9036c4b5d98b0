-- The model, the mechanisms so far and the candidates as structs of slices: what is said of the slices, of the structs.
use Rattle.cover.specs.declared.Index.{Index}
use Rattle.cover.specs.declared.CandidateTables.{CandidateTables}
use Rattle.dem.specs.declared.Model.{Model}
use Rattle.dem.specs.Tables.{Tables}
use Rattle.dem.specs.Lent.{tables_of}
use Rattle.suggested.specs.declared.Size.{Size}
use Rattle.suggested.specs.declared.Mechanisms.{Mechanisms}
use Rattle.split_model.specs.Begun.{columns_of, Begun}

-- the three columns of the mechanisms so far
abbrev pub columns_in : Mechanisms → Tables
columns_in t = columns_of t.probability.now t.detector_counts.now t.observable_counts.now

abbrev pub BegunBy : Model → Index → Size → Size → Mechanisms → CandidateTables → Type 0
BegunBy m x size room t c =
    Begun m.mechanisms (tables_of m) x.kept size room x.first_of.now x.next_of.now
    t.starts.now t.detector_counts.now t.observable_counts.now t.probability.now t.last_of.now t.before.now
    c.numbers.now c.masks.now c.words0.now c.words1.now c.earlier.now
