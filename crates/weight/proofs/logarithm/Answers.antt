-- `weight::logarithm` meets its contract. Assumes nothing.
use lib.Ieee.{binary64, to_bits}
use Rattle.weight.proofs.Parts.{y_units, part_no_nan, exponent_held}
use Rattle.weight.proofs.logarithm.Goals as goal

pub float_from_bits-m : goal.float_from_bits-m
float_from_bits-m c = part_no_nan (to_bits binary64 c.args.y)

pub overflow_sub-k : goal.overflow_sub-k
overflow_sub-k c = (y_units c.args.y c.well_formed.0.1 c.requires.0 c.requires.1).0

pub int_to_float-result : goal.int_to_float-result
int_to_float-result c = exponent_held c.args.y c.well_formed.0.1
