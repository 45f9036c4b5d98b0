-- `hex_text::write_numbers`: the numbers that are left make the whole.
use Rattle.std.proofs.Common.{◌≡◌, ◌+◌, ◌*◌, map, drop}
use Rattle.std.proofs.lemmas.List.Edits.{sets}
use Rattle.hex_text.specs.Hex.{text_of, bytes_each}
use Rattle.hex_text.proofs.write_numbers.Given as goal

abbrev pub invariant-loop-x : goal.invariant-loop-x
invariant-loop-x g l =
    let k = g.T.Number.BYTES in
    let value = g.T.Number.value in
    (l.to ≡ l.at + 2 * k * l.x-index)
    × (sets l.out l.to (text_of (bytes_each k (map value (drop l.x-index l.list)))) ≡ sets l.initial.out l.at (text_of (bytes_each k (map value l.list))))
