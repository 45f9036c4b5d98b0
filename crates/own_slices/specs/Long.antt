-- The test of a call's own slices by their lengths.
use Rattle.std.specs.Prelude.{ℕ, ◌*◌, Bool, ◌&&◌, leb}
use Rattle.bits.specs.Rows.{words}
use Rattle.scratch.specs.declared.Lengths.{Lengths}
use Rattle.scratch.specs.Scratch.{scratch_long}

-- a row of the output for each shot, an entry of the list for each detector, and each scratch slice its own
abbrev pub slices_long : ℕ → ℕ → ℕ → ℕ → ℕ → ℕ → Lengths → Bool
slices_long d o n shots out list have = leb (shots * words o) out && (leb d list && scratch_long d n have)
