-- `graph::join` meets its contract: refused, skipped, too large, or an edge.
use mathlib.Core.Path.{sym}
use native.Mathlib.Omega.{arith}
use lib.Ieee.{of_bits}
use Rattle.std.proofs.lemmas.Result.{err_from_is_err_and}
use Rattle.graph.proofs.Joining.{Passed, is_refused, skips_zero, skips_empty, is_large, is_edge, first_below, row_fits}
use Rattle.graph.proofs.join.Goals as goal

pub returns-in_err-check_mechanism-clause-joined : goal.returns-in_err-check_mechanism-clause-joined
returns-in_err-check_mechanism-clause-joined c =
    let e = err_from_is_err_and c.from_residual.result c.from_residual.ensures.1 in
    rw (e.1, e.2) (is_refused _ _ _ _ _ _ _ _ (sym c.in_err-check_mechanism.ensures), tt)

pub returns-then-p-clause-joined : goal.returns-then-p-clause-joined
unfolding of_bits
returns-then-p-clause-joined c =
    let passed : Passed _ _ _ _ _ _ _ _ = record { fits = sym c.in_ok-check_mechanism.ensures; inside = c.requires.0 } in
    (skips_zero passed _ _ c.if-p.true, c.requires.3)

pub returns-then-d-eq0-clause-joined : goal.returns-then-d-eq0-clause-joined
unfolding of_bits
returns-then-d-eq0-clause-joined c =
    let passed : Passed _ _ _ _ _ _ _ _ = record { fits = sym c.in_ok-check_mechanism.ensures; inside = c.requires.0 } in
    (skips_empty passed _ _ c.if-p.false c.if-d-eq0.true, c.requires.3)

pub returns-then-d-gt2-clause-joined : goal.returns-then-d-gt2-clause-joined
unfolding of_bits
returns-then-d-gt2-clause-joined c =
    let passed : Passed _ _ _ _ _ _ _ _ = record { fits = sym c.in_ok-check_mechanism.ensures; inside = c.requires.0 } in
    (is_large passed _ _ c.if-p.false _ c.if-d-gt2.true, tt)

pub share-n-requires : goal.share-n-requires
share-n-requires c =
    let passed : Passed _ _ _ _ _ _ _ _ = record { fits = sym c.in_ok-check_mechanism.ensures; inside = c.requires.0 } in
    let below = first_below passed (omega arith) in
    (omega (arith, below), row_fits passed, c.requires.2, c.requires.3)

pub returns-clause-joined : goal.returns-clause-joined
unfolding of_bits
returns-clause-joined c =
    let passed : Passed _ _ _ _ _ _ _ _ = record { fits = sym c.in_ok-check_mechanism.ensures; inside = c.requires.0 } in
    (is_edge passed _ _ c.if-p.false _ _ _ (omega arith) (omega arith) c.second_end-v.ensures c.share-n.ensures.shared.0, c.share-n.ensures.shared.1)
