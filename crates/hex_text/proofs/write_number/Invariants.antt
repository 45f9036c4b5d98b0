-- `hex_text::write_number`: the bytes that are left make the whole.
use Rattle.std.proofs.Common.{◌≡◌, ◌+◌, ◌-◌, ◌*◌}
use Rattle.std.proofs.lemmas.List.Edits.{sets}
use Rattle.hex_text.specs.Hex.{text_of, bytes_in}
use Rattle.hex_text.proofs.write_number.Given as goal

abbrev pub invariant-loop-i : goal.invariant-loop-i
invariant-loop-i l =
    sets l.out (l.at + 2 * l.i) (text_of (bytes_in (l.k - l.i) l.x)) ≡ sets l.initial.out l.at (text_of (bytes_in l.k l.x))
