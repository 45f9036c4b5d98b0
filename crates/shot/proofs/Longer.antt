-- The first entries of longer slices are as many as a shot asks, and the graph in them is the one that was handed in. Assumes nothing.
use Prim.Native.Nat.{ℕ, ◌+◌, ◌-◌, ◌<◌, ◌≤◌}
use native.Mathlib.Omega.{arith}
use mathlib.Core.Path.{◌≡◌, sym, ◌∙◌}
use mathlib.Core.List.{List}
use lib.Ieee.{Float}
use lib.ListN.{length, take}
use lib.Seq.{length-take-le, take-take}
use Rattle.steps.specs.Call.{graph_of}
use Rattle.growth_laws.specs.Laws.{Fit}
use Rattle.columns.proofs.Columns.{column_length}
use Rattle.cells.specs.declared.Stack.{Stack}
use Rattle.cells.specs.declared.Link.{Link}
use Rattle.cells.specs.Tables.{link_column, stack_column, defects, seen, active, front, order_edge, order_parent, touched, cnt, fresh}
use Rattle.adjacency.specs.Adjacent.{weighted}
use Rattle.adjacency.specs.declared.Neighbor.{Neighbor}
use Rattle.adjacency.specs.Pairs.{near, away}
use Rattle.adjacency.proofs.Parts.{part, part_length}
use Rattle.shot.specs.Shots.{Tables, Places, graph_in}
use Rattle.shot.specs.Longer.{Longer}

graph_take : (d o n : ℕ) (u v : List ℕ) (weight : List Float) (obs : List ℕ) → n ≤ length u → graph_in d o (take n u) (take n v) (take n weight) obs ≡ graph_of d o n u v weight obs
unfolding graph_of
graph_take d o n u v weight obs h =
    let z : n ≤ n = omega arith in
    rw (length-take-le n u h, take-take n n u z, take-take n n v z, take-take n n weight z)

-- the graph of the tables' parts is the graph that was handed in
pub graph_part : (d o n : ℕ) (u v : List ℕ) (weight : List Float) (obs : List ℕ) → n ≤ length u → graph_in d o (part n u) (part n v) (part n weight) obs ≡ graph_of d o n u v weight obs
graph_part d o n u v weight obs h = let z : n - 0 ≡ n = omega arith in rw z (graph_take d o n u v weight obs h)

-- rows of the stacks and the links are places
pub places_in : {d n : ℕ} (stacks : List Stack) (links : List Link) → d ≤ length stacks → n < length links
    → Places d n (defects stacks) (seen stacks) (active stacks) (front stacks) (touched links) (cnt links) (fresh links) (order_edge stacks) (order_parent stacks)
places_in stacks links p q = record {
  lit_ones = omega (arith, column_length stack_column 0 stacks);
  seens = omega (arith, column_length stack_column 1 stacks);
  actives = omega (arith, column_length stack_column 2 stacks);
  fronts = omega (arith, column_length stack_column 3 stacks);
  touches = omega (arith, column_length link_column 0 links);
  counts = omega (arith, column_length link_column 1 links);
  freshes = omega (arith, column_length link_column 2 links);
  trees = omega (arith, column_length stack_column 4 stacks);
  parents = omega (arith, column_length stack_column 5 stacks);
}

module _ {d o n : ℕ} {u v : List ℕ} {weight : List Float} {obs off : List ℕ} {adj : List Neighbor} (t : Longer d o n u v weight obs off adj) where
  counted : length (take n u) ≡ n
  counted = length-take-le n u t.firsts

  pub few_part : length (part n u) ≡ n
  few_part = part_length n u t.firsts

  pub small_of : d < 4294967295
  unfolding graph_of
  small_of = t.ends.small

  fits_part : Fit (weighted d (take n u) (take n v) (take n weight))
  unfolding graph_of
  fits_part = t.fits

  pub tables : Tables d o (part n u) (part n v) (part n weight) obs (part (d + 1) off) (near adj) (away adj)
  tables =
      let z : n - 0 ≡ n = omega arith in
      let y : d + 1 - 0 ≡ d + 1 = omega arith in
      rw (z, y) (record {
        ends = rw (graph_take d o n u v weight obs t.firsts) t.ends;
        fits = fits_part;
        others = length-take-le n v t.others ∙ sym counted;
        weights = length-take-le n weight t.weights ∙ sym counted;
        rows = rw counted t.rows;
        few = omega (arith, counted, t.few);
        adjacent = t.adjacent;
      })

  pub places : (stacks : List Stack) (links : List Link) → d ≤ length stacks → n < length links
      → Places d (length (part n u)) (defects stacks) (seen stacks) (active stacks) (front stacks) (touched links) (cnt links) (fresh links) (order_edge stacks) (order_parent stacks)
  places stacks links p q = rw few_part (places_in stacks links p q)
