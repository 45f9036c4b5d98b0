-- `cover::mask_within` meets its contract. The invariant: the mask of the entries passed, each of them in ds.
use Rattle.std.proofs.Common.{ℕ, ◌≡◌, ◌<◌, true, get_or, take}
use Rattle.lists.specs.Lists.{member}
use Rattle.cover.specs.Masks.{mask_of}
use Rattle.cover.proofs.mask_within.Given as goal

abbrev pub invariant-loop-x : goal.invariant-loop-x
invariant-loop-x l = record {
  inside : (k : ℕ) → k < l.x-index → member (get_or l.xs k 0) l.ds ≡ true;
  made : l.mask ≡ mask_of l.ds (take l.x-index l.xs);
}
