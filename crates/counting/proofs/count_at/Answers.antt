use Prim.Native.Nat.{ℕ, ◌+◌, ◌<◌}
use native.Mathlib.Omega.{arith}
use mathlib.Core.Path.{◌≡◌, refl, sym, ap}
use mathlib.Core.List.{List, [], ◌∷◌}
use mathlib.Core.Bool.{true, false}
use lib.ListN.{get_or, set, get_or-map}
use lib.Seq.{slice_empty}
use Rattle.adjacency.specs.Pairs.{near}
use Rattle.columns.proofs.Columns.{map_set, column_length, keep_none, keep_then, keep_more}
use Rattle.cells.specs.declared.Node.{Node}
use Rattle.cells.specs.declared.Flags.{Flags}
use Rattle.cells.specs.Tables.{parents, hots, frees, flag_column, link_column, node_column}
use Rattle.cells.proofs.Stores.{kept_free}
use Rattle.counting.proofs.Laws.{listing_open, listing_skip, counted, past_last, edge_next, edge_below, other_far, other_near, stored_edge, stored_count, stored_rest}
use Rattle.counting.proofs.count_at.Goals as goal

abbrev node : Node
node = record { parent = 0; exit = 0 }

abbrev dark : Flags
dark = record { lit = false; known = false; odd = false; hot = false; free = false; unused = [] }

root_is : (tree : List Node) (x : ℕ) → get_or (parents tree) x 0 ≡ (get_or tree x node).parent
root_is tree x = get_or-map (λ r. r.parent) tree x node

hot_is : (flags : List Flags) (q : ℕ) → get_or (hots flags) q false ≡ (get_or flags q dark).hot
hot_is flags q = get_or-map (λ r. r.hot) flags q dark

pub bounds-sat-e : goal.bounds-sat-e
bounds-sat-e c = rw c.requires.tabled.sats (edge_below c.args.adj.now.neighbors.now c.requires.tabled c.requires.x_lt_d c.loop-neighbor-test.true)

pub bounds-tree-z : goal.bounds-tree-z
bounds-tree-z c = omega (arith, other_near c.args.adj.now.neighbors.now c.requires.tabled c.requires.x_lt_d c.loop-neighbor-test.true c.detector_at-z.ensures, c.requires.tabled.long, column_length node_column 0 c.args.tree.now)

pub bounds-flags-q : goal.bounds-flags-q
bounds-flags-q c =
    let z = c.detector_at-z.result in
    let k : z < c.args.g.now.detectors = other_near c.args.adj.now.neighbors.now c.requires.tabled c.requires.x_lt_d c.loop-neighbor-test.true c.detector_at-z.ensures in
    omega (arith, root_is c.args.tree.now z, c.requires.tabled.points z k, c.requires.tabled.hots, column_length flag_column 3 c.args.flags.now)

pub bounds-flags-r : goal.bounds-flags-r
bounds-flags-r c = omega (arith, root_is c.args.tree.now c.args.x, c.requires.tabled.points c.args.x c.requires.x_lt_d, c.requires.tabled.hots, column_length flag_column 3 c.args.flags.now)

pub loop-neighbor-preserved-then-saturated : goal.loop-neighbor-preserved-then-saturated
loop-neighbor-preserved-then-saturated c = record {
  listing = listing_skip (rw (edge_next c.args.adj.now.neighbors.now c.requires.tabled c.requires.x_lt_d c.loop-neighbor-test.true) at c.loop-neighbor.invariant.listing) c.if-saturated.true;
  rest = c.loop-neighbor.invariant.rest;
}

pub loop-neighbor-preserved : goal.loop-neighbor-preserved
loop-neighbor-preserved c =
    let t = c.loop-neighbor.invariant in
    let h = c.loop-neighbor-test.true in
    record {
      listing = rw (stored_edge, stored_count, ← hot_is c.args.flags.now (get_or c.args.tree.now c.detector_at-z.result node).parent, ← root_is c.args.tree.now c.detector_at-z.result)
          (listing_open (rw (edge_next c.args.adj.now.neighbors.now c.requires.tabled c.requires.x_lt_d h) at t.listing)
          (omega (arith, c.requires.x_in_bounds, t.listing.past, t.rest.long, column_length link_column 0 c.loop-neighbor.links))
          (omega (arith, c.requires.x_in_bounds, t.listing.past, t.rest.long, column_length link_column 1 c.loop-neighbor.links))
          (other_far c.args.adj.now.neighbors.now c.requires.tabled c.requires.x_lt_d h) c.detector_at-z.ensures c.if-saturated.false);
      rest = keep_then t.rest (stored_rest c.loop-neighbor.links c.loop-neighbor.at _ _);
    }

pub returns-then-found : goal.returns-then-found
returns-then-found c =
    let t = c.loop-neighbor.invariant in
    let q = past_last c.args.adj.now.neighbors.now c.requires.tabled c.requires.x_lt_d c.loop-neighbor.auto.neighbor-index-end c.loop-neighbor-test.false in (
      counted (rw (q, slice_empty (get_or c.args.adj.now.offsets.now (c.args.x + 1) 0) (near c.args.adj.now.neighbors.now)) at t.listing)
          (rw (c.if-found.true, map_set) (ap (λ (p : ℕ). set (frees c.args.flags.now) p true) (sym (root_is c.args.tree.now c.args.x)))),
      kept_free c.args.flags.now _ true _,
      t.rest,
    )

pub returns-else-found : goal.returns-else-found
returns-else-found c =
    let t = c.loop-neighbor.invariant in
    let q = past_last c.args.adj.now.neighbors.now c.requires.tabled c.requires.x_lt_d c.loop-neighbor.auto.neighbor-index-end c.loop-neighbor-test.false in
    (counted (rw (q, slice_empty (get_or c.args.adj.now.offsets.now (c.args.x + 1) 0) (near c.args.adj.now.neighbors.now)) at t.listing) (rw c.if-found.false), keep_more (4 ∷ []) refl (keep_none c.args.flags.now), t.rest)
