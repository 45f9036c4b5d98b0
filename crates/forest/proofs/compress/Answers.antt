-- `forest::compress` meets its contract. Assumes nothing.
use Rattle.columns.proofs.Columns.{map_set, keep_then}
use Rattle.cells.proofs.Stores.{kept_parent}
use Rattle.forest.proofs.Forest.{compressed}
use Rattle.forest.proofs.compress.Goals as goal

pub returns : goal.returns
returns c =
    (rw map_set (compressed c.requires.grown.down c.requires.v_lt_d.0 c.find-r.ensures.0), keep_then c.find-r.ensures.1 (kept_parent c.find-r.new.tree c.args.v _ _))
