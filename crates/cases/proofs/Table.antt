-- The cases, proved: each contract is an equation, and both sides compute.
use mathlib.Core.Path.{refl}
use lib.Ieee as Ieee
use Rattle.lists.specs.Lists.{below}
use Rattle.steps.specs.Cases.{quarter_weight}
use Rattle.steps.specs.Growth.{count, start}
use Rattle.steps.specs.Shot.{decode, row_left}
use Rattle.steps.specs.Marker.{mark}
use Rattle.steps.specs.Call.{graph_of, list_left, row_marked}
use Rattle.bits.specs.Rows.{bits_of}
use Rattle.codes.specs.Limits.{check_counts}
use Rattle.dem.specs.Model.{check_model}
use Rattle.dem.specs.Tables.{model_of, tables_hold, tables_written}
use Rattle.dem.specs.Decompose.{decompose}
use Rattle.decompose.specs.Call.{outcome as decomposition}
use Rattle.weight.specs.Weight.{weight_at, logarithm, series, sum_at, steps, coefficient}
use Rattle.edges.specs.Compile.{compile, graph_by}
use Rattle.edges.specs.Tables.{flat}
use Rattle.graph.specs.Outcome as Outcome
use Rattle.graph.specs.Outcome.{outcome, table_left}
use Rattle.scratch.specs.Scratch.{lengths_for}
use Rattle.lent_graph.specs.Call.{check_call}
use Rattle.marker.specs.Answer.{marker_long}
use Rattle.decoder.specs.Answer.{checks, answer_of, list_after, row_after}
use Rattle.cases.specs.Table.{both_edges, pair_only, shot_of, Decomposing, Compiling, Decoder, Marker, Table}

decoder : Decoder
unfolding both_edges pair_only shot_of checks answer_of list_after row_after decode count start bits_of graph_of quarter_weight Ieee.of_bits Ieee.lt Ieee.le Ieee.eq Ieee.div Ieee.sub Ieee.add Ieee.mul Ieee.of_int Ieee.round
decoder = record {
  dark = λ r list row p. (p.answers, p.lists, p.rows);
  d0 = λ r list row p. (p.answers, p.lists, p.rows);
  d1 = λ r list row p. (p.answers, p.lists, p.rows);
  d01 = λ r list row p. (p.answers, p.lists, p.rows);
  d01_twice = refl;
  pair_d1 = λ r list row p. (p.answers, p.lists, p.rows);
  pair_d01 = λ r list row p. (p.answers, p.lists, p.rows);
  padding = λ r list row p. (p.answers, p.lists, p.rows);
}

marker : Marker
unfolding both_edges pair_only marker_long check_call mark row_marked bits_of graph_of quarter_weight Ieee.of_bits Ieee.lt Ieee.le Ieee.eq Ieee.sub Ieee.add Ieee.round
marker = record {
  whole = λ m row p. (p.answers, p.rows);
  part = λ m row p. (p.answers, p.rows);
  none = λ m row p. (p.answers, p.rows);
  unknown = λ m row p. (p.answers, p.rows);
  repeated = λ m row p. (p.answers, p.rows);
  pair_d01 = λ m row p. (p.answers, p.rows);
}

compiling : Compiling
unfolding Outcome.answer_of outcome table_left compile graph_by flat weight_at logarithm series sum_at steps coefficient quarter_weight Ieee.of_bits Ieee.le Ieee.lt Ieee.eq Ieee.add Ieee.sub Ieee.mul Ieee.div Ieee.to_bits Ieee.of_int Ieee.round
compiling = record {
  model = λ r exit p. (p.answer, p.ends, p.others, p.weights, p.rows);
  equal = λ r exit p. (p.answer, p.ends, p.others, p.weights, p.rows);
  greater = λ r exit p. (p.answer, p.ends, p.others, p.weights, p.rows);
  half = λ r exit p. (p.answer, p.ends, p.others, p.weights, p.rows);
}

decomposing : Decomposing
unfolding decomposition check_counts tables_hold check_model model_of decompose tables_written Ieee.of_bits Ieee.add Ieee.sub Ieee.mul Ieee.le Ieee.lt
decomposing = record { added = λ r left p. (p.answer, p.tables) }

pub table : Table
table = record { decomposing = decomposing; compiling = compiling; decoder = decoder; marker = marker }
