-- `whole_input::put`: all of the text, or what fits.
use mathlib.Core.Path.{refl}
use Rattle.whole_input.proofs.Outputs.{put_whole, put_cut}
use Rattle.whole_input.proofs.put.Goals as goal

pub returns-then-room-text : goal.returns-then-room-text
returns-then-room-text c = put_cut c.args.text.now c.args.at c.args.out.now _ c.requires _ refl c.if-room-text.true c.copy_to.ensures

pub returns : goal.returns
returns c = put_whole c.args.text.now c.args.at c.args.out.now _ c.requires c.if-room-text.false c.copy_to-2.ensures
