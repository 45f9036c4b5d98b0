-- `replies::write_row`: the parts make the line.
use Prim.Native.Nat.{ℕ, ◌+◌, ◌*◌}
use mathlib.Core.Path.{refl, ap, ◌∙◌}
use mathlib.Core.List.{List, [], ◌∷◌}
use native.Mathlib.Omega.{arith}
use lib.ListN.{length}
use lib.Seq.{sets}
use Rattle.hex_text.specs.Hex.{text_of, bytes_each}
use Rattle.hex_text.proofs.Texts.{each_long}
use Rattle.replies.specs.Replies.{row_reply}
use Rattle.replies.proofs.Lines.{joined, line_written}
use Rattle.replies.proofs.write_row.Goals as goal

pub returns : goal.returns
returns c = line_written (row_reply c.args.row.now) c.args.out.now _ (2 + 16 * length c.args.row.now) (omega (arith, each_long 8 c.args.row.now)) (omega arith)
    (c.write_u64s.ensures ∙ ap (λ (o : List ℕ). sets o 2 (text_of (bytes_each 8 c.args.row.now))) c.write_byte.ensures ∙ joined c.args.out.now (0x85 ∷ []) (bytes_each 8 c.args.row.now) 2 refl)
