-- The laws of the scratch slices, proved.
use Rattle.std.proofs.Common.{arith}
use Rattle.scratch.specs.Scratch.{scratch_long, covers, lengths_for}
use Rattle.scratch.specs.Laws.{ScratchLong, AtMost, LengthsKept}

pub scratch_long_lem : ScratchLong
unfolding scratch_long covers lengths_for
scratch_long_lem D E have h = record {
  adj_offsets = grind arith;
  adj = grind arith;
  tree = grind arith;
  flags = grind arith;
  stacks = grind arith;
  links = grind arith;
  growth = grind arith;
  sat = grind arith;
}

pub at_most : AtMost
unfolding scratch_long covers lengths_for
at_most D E = grind arith

pub lengths_kept : LengthsKept
lengths_kept s s' same = cc
