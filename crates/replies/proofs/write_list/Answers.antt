-- `replies::write_list`: the parts make the line.
use Prim.Native.Nat.{ℕ, ◌+◌, ◌*◌}
use mathlib.Core.Path.{refl, ap, ◌∙◌}
use mathlib.Core.List.{List, [], ◌∷◌}
use native.Mathlib.Omega.{arith}
use lib.ListN.{length, length-append}
use lib.Seq.{sets}
use Rattle.hex_text.specs.Hex.{text_of, bytes_in, bytes_each}
use Rattle.hex_text.proofs.Texts.{in_long, each_long}
use Rattle.replies.specs.Replies.{list_reply}
use Rattle.replies.proofs.Lines.{joined, line_written}
use Rattle.replies.proofs.write_list.Goals as goal

pub returns : goal.returns
returns c = line_written (list_reply c.args.edges.now) c.args.out.now _ (6 + 4 * length c.args.edges.now) (omega (arith, length-append (bytes_in 2 (length c.args.edges.now)) (bytes_each 2 c.args.edges.now), in_long 2 (length c.args.edges.now), each_long 2 c.args.edges.now)) (omega arith)
    (c.write_u16s.ensures
    ∙ ap (λ (o : List ℕ). sets o 6 (text_of (bytes_each 2 c.args.edges.now)))
    (c.write_number.ensures ∙ ap (λ (o : List ℕ). sets o 2 (text_of (bytes_in 2 (length c.args.edges.now)))) c.write_byte.ensures ∙ joined c.args.out.now (0x86 ∷ []) (bytes_in 2 (length c.args.edges.now)) 2 refl)
    ∙ joined c.args.out.now (0x86 ∷ (bytes_in 2 (length c.args.edges.now))) (bytes_each 2 c.args.edges.now) 6 (omega (arith, in_long 2 (length c.args.edges.now))))
