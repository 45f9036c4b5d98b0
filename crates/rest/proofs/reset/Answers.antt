-- `rest::reset` meets its contract: the rows and entries of each table filled.
use lib.Ieee as Ieee
use Prim.Native.Nat.{ℕ, ◌-◌, ◌≤◌}
use mathlib.Core.Path.{◌≡◌, ap, ◌∙◌}
use mathlib.Core.List.{List, map}
use mathlib.Core.Bool.{false}
use lib.ListN.{length, length-map}
use borrow.Rule.Slice.PartMut.{put_mid}
use Rattle.lists.specs.Lists.{below}
use Rattle.cells.specs.declared.Node.{Node}
use Rattle.lists.proofs.Members.{length_below}
use Rattle.growth_state.specs.Rep.{zero64}
use Rattle.rest.proofs.Cuts.{cut_length, cut_put, cut_filled}
use Rattle.rest.specs.Rows.{cut, alone, quiet}
use Rattle.rest.proofs.Rows.{rested}
use Rattle.rest.proofs.reset.Goals as goal

-- the rows of a table of d detectors
alone_put : (d : ℕ) (t rows : List Node) → d ≤ length t → rows ≡ map alone (below (length (cut d t))) → cut d (put_mid 0 (d - 0) t rows) ≡ map alone (below d)
alone_put d t rows h e =
    let f : rows ≡ map alone (below d) = e ∙ ap (λ n. map alone (below n)) (cut_length d t h) in
    cut_put d t rows (ap length f ∙ length-map (below d) alone ∙ length_below d) ∙ f

pub returns : goal.returns
unfolding Ieee.of_bits
returns c = rw (
  alone_put c.args.detectors c.args.tree.now c.rest_tree.new.t c.requires.1.trees c.rest_tree.ensures,
  cut_filled c.args.detectors c.args.flags.now c.rest_flags.new.t quiet c.requires.1.flagged c.rest_flags.ensures,
  cut_filled c.args.edges c.args.growth.now c.fill.new.self zero64 c.requires.1.growths (c.fill.ensures.after (λ y e. e)),
  cut_filled c.args.edges c.args.sat.now c.fill-2.new.self false c.requires.1.sats (c.fill-2.ensures.after (λ y e. e)),
) (rested c.args.detectors c.args.edges)
