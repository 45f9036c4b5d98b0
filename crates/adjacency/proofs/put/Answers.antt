-- `adjacency::put` meets its contract: a row stored whole. Assumes nothing.
use mathlib.Core.Path.{refl}
use Rattle.columns.proofs.Columns.{map_set}
use Rattle.adjacency.proofs.put.Goals as goal

pub returns : goal.returns
returns c = record { offs = refl; adjs = map_set _ c.args.adj.now _ _; fars = map_set _ c.args.adj.now _ _ }
