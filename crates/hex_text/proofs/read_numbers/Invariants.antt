-- `hex_text::read_numbers`: the first i numbers are stored.
use Rattle.std.proofs.Common.{◌≡◌, map, drop}
use Rattle.std.proofs.lemmas.List.Edits.{sets}
use Rattle.hex_text.specs.Hex.{bytes_of, numbers}
use Rattle.hex_text.proofs.read_numbers.Given as goal

abbrev pub invariant-loop-i : goal.invariant-loop-i
invariant-loop-i g l =
    map g.T.Number.value l.out ≡ sets (map g.T.Number.value l.initial.out) l.at (numbers g.T.Number.BYTES l.i (drop l.from (bytes_of l.line)))
