-- `edges::share` meets its contract: replaced, kept or appended.
use mathlib.Core.Path.{sym, ◌∙◌}
use native.Mathlib.Omega.{arith}
use Rattle.edges.specs.Tables.{edge_with}
use Rattle.edges.proofs.Sharing.{replaced, kept, appended, found_at, row_below}
use Rattle.edges.proofs.share.Goals as goal

pub offset_bounds-s-e : goal.offset_bounds-s-e
offset_bounds-s-e c = let below = (found_at _ _ _ _ _ _ (sym c.find_edge.ensures ∙ c.in-Some.is)).0 in omega arith

pub bounds-s-e : goal.bounds-s-e
bounds-s-e c = let below = (found_at _ _ _ _ _ _ (sym c.find_edge.ensures ∙ c.in-Some.is)).0 in omega arith

pub write_edge-requires : goal.write_edge-requires
write_edge-requires c =
    let below = (found_at _ _ _ _ _ _ (sym c.find_edge.ensures ∙ c.in-Some.is)).0 in
    (c.requires.2.observables, c.requires.1, omega arith, omega arith, omega arith, omega arith, row_below _ _ _ _ below c.requires.2.rows, omega arith)

pub returns-then-s-e-clause-shared : goal.returns-then-s-e-clause-shared
returns-then-s-e-clause-shared c =
    let new = edge_with c.args.u c.args.v c.args.p c.args.list.now in
    replaced new c.requires.2 c.requires.3 _ _ (sym c.find_edge.ensures ∙ c.in-Some.is) c.if-s-e.true c.write_edge.ensures.written

pub returns-else-s-e-clause-shared : goal.returns-else-s-e-clause-shared
returns-else-s-e-clause-shared c =
    let new = edge_with c.args.u c.args.v c.args.p c.args.list.now in
    kept new c.requires.2 c.requires.3 _ (sym c.find_edge.ensures ∙ c.in-Some.is) c.if-s-e.false

pub returns-in-None-clause-shared : goal.returns-in-None-clause-shared
returns-in-None-clause-shared c =
    let new = edge_with c.args.u c.args.v c.args.p c.args.list.now in
    appended new c.requires.2 c.requires.3 _ c.requires.0 (sym c.find_edge.ensures ∙ c.in-None.is) c.write_edge-in-None.ensures.written
