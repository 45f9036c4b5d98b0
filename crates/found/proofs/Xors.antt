-- A bit of a list's row is set if an odd number of its edges have it set.
use Prim.Native.Nat.{ℕ, ◌*◌, ◌<◌}
use native.Mathlib.Omega.{arith}
use mathlib.Core.Path.{◌≡◌, ap, ◌∙◌}
use mathlib.Core.List.{List, [], ◌∷◌}
use mathlib.Core.Bool.{xor}
use lib.ListN.{length, get_or, length-replicate}
use Rattle.lists.specs.Lists.{odd}
use Rattle.lists.proofs.Truth.{xor_comm}
use Rattle.bits.specs.Rows.{words, bit}
use Rattle.bits.proofs.Rows.{length_xor, bit_xor_lem, bit_zeros}
use Rattle.steps.specs.Graph.{Graph}
use Rattle.steps.specs.Rows.{zeros, row_of}
use Rattle.steps.specs.Found.{Xored}

pub length_row : (g : Graph) (es : List ℕ) → length (row_of g es) ≡ words g.observables
unfolding row_of zeros
length_row g [] = length-replicate (words g.observables) 0
length_row g (e ∷ es) = length_xor (row_of g es) (get_or g.edge_obs e []) ∙ length_row g es

bits : (g : Graph) (es : List ℕ) (o : ℕ) → o < 64 * words g.observables → bit (row_of g es) o ≡ odd (λ e. bit (get_or g.edge_obs e []) o) es
unfolding row_of zeros odd
bits g [] o h = bit_zeros (words g.observables) o
bits g (e ∷ es) o h =
    bit_xor_lem (row_of g es) (get_or g.edge_obs e []) o (rw (length_row g es) (omega arith))
    ∙ xor_comm (bit (row_of g es) o) (bit (get_or g.edge_obs e []) o)
    ∙ ap (xor (bit (get_or g.edge_obs e []) o)) (bits g es o h)

pub xors : (g : Graph) (es : List ℕ) → Xored g es
xors g es = record { size = length_row g es; bits = bits g es }
