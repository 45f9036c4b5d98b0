-- The least lengths of the decoder's scratch slices, and whether slices are that long: docs/SCRATCH.md.
use Rattle.std.specs.Prelude.{ℕ, ◌+◌, ◌*◌, Bool, ◌&&◌, leb, length}
use Rattle.scratch.specs.declared.Lengths.{Lengths}
use Rattle.scratch.specs.declared.Scratch.{Scratch}

-- the lengths of slices, in the order of a call's parameters: of a table its number of rows
abbrev pub lengths_of : ℕ → ℕ → ℕ → ℕ → ℕ → ℕ → ℕ → ℕ → Lengths
lengths_of adj_offsets adj tree flags stacks links growth sat = record {
  adj_offsets = adj_offsets;
  adj = adj;
  tree = tree;
  flags = flags;
  stacks = stacks;
  links = links;
  growth = growth;
  sat = sat;
}

-- those of slices that are lent
abbrev pub lengths_in : Scratch → Lengths
lengths_in s =
    lengths_of (length s.adj_offsets.now) (length s.adj.now) (length s.tables.tree.now) (length s.tables.flags.now) (length s.tables.stacks.now) (length s.tables.links.now)
    (length s.tables.growth.now) (length s.tables.sat.now)

-- a row or an entry for each detector or each edge, one past the edges where an edge is written before it is known to be listed, an offset for each detector and one past them, and both ends of each edge
unfoldable pub lengths_for : ℕ → ℕ → Lengths
lengths_for D E = record {
  adj_offsets = D + 1;
  adj = 2 * E;
  tree = D;
  flags = D;
  stacks = D;
  links = E + 1;
  growth = E;
  sat = E;
}

-- each slice has at least what is needed of it
unfoldable pub covers : Lengths → Lengths → Bool
covers need have =
    leb need.adj_offsets have.adj_offsets
    && (leb need.adj have.adj
    && (leb need.tree have.tree
    && (leb need.flags have.flags
    && (leb need.stacks have.stacks
    && (leb need.links have.links
    && (leb need.growth have.growth
    && leb need.sat have.sat))))))

unfoldable pub scratch_long : ℕ → ℕ → Lengths → Bool
unfolding lengths_for covers
scratch_long D E have = covers (lengths_for D E) have
