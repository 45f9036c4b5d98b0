-- Tables ready for a shot.
use Rattle.std.specs.Prelude.{ℕ, ◌<◌, ◌≤◌, Bool, List, length, Float}
use Rattle.cells.specs.declared.Tables.{Tables}
use Rattle.cells.specs.declared.Node.{Node}
use Rattle.cells.specs.declared.Flags.{Flags}
use Rattle.cells.specs.declared.Stack.{Stack}
use Rattle.cells.specs.declared.Link.{Link}
use Rattle.lent_graph.specs.declared.Graph.{Graph}
use Rattle.rest.specs.Rows.{Rested}

-- of d detectors and E edges, at rest, with rows for the stacks and the links whose contents are free
pub record Ready (d E : ℕ) (tree : List Node) (flags : List Flags) (stacks : List Stack) (links : List Link) (growth : List Float) (sat : List Bool) : Type 0 where
  pub rested : Rested d E tree flags growth sat
  pub stack_rows : d ≤ length stacks
  pub link_rows : E < length links

-- the same of the detectors and all edges of a graph, as a struct of slices
abbrev pub ReadyIn : Graph → Tables → Type 0
ReadyIn g t = Ready g.detectors (length g.edge_u.now) t.tree.now t.flags.now t.stacks.now t.links.now t.growth.now t.sat.now
