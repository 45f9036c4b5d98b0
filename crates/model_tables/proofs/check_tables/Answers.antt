use Rattle.std.proofs.Common.{◌≡◌, true, false, arith}
use Rattle.std.proofs.lemmas.Bool.Decides.{nat_tests}
use Rattle.dem.specs.Tables.{tables_hold}
use Rattle.dem.specs.Lent.{tables_of}
use Rattle.dem.proofs.Positions.{tables_parts}
use Rattle.model_tables.proofs.check_tables.Goals as goal

pub returns-then-not-columns_hold : goal.returns-then-not-columns_hold
returns-then-not-columns_hold c =
    let m = c.args.model.now in
    let parts = tables_parts m.mechanisms (tables_of m) in
    let e : tables_hold m.mechanisms (tables_of m) ≡ false = grind (arith, nat_tests) in rw e

pub returns-then-model-end : goal.returns-then-model-end
returns-then-model-end c =
    let m = c.args.model.now in
    let parts = tables_parts m.mechanisms (tables_of m) in
    let e : tables_hold m.mechanisms (tables_of m) ≡ false = grind (arith, nat_tests) in rw e

pub returns : goal.returns
returns c =
    let m = c.args.model.now in
    let parts = tables_parts m.mechanisms (tables_of m) in
    let e : tables_hold m.mechanisms (tables_of m) ≡ true = grind (arith, nat_tests) in rw e
