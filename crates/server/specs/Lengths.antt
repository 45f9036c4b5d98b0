-- The scratch lengths that a host asks for: docs/SCRATCH.md. For counts over the limits, which every call refuses, each is 0.
use Rattle.std.specs.Prelude.{ℕ, ◌+◌, ◌*◌, Bool, cond, ◌&&◌, leb}
use Rattle.bits.specs.Rows.{words}
use Rattle.codes.specs.Limits.{max_detectors, max_mechanisms}
use Rattle.decompose.specs.declared.Lengths as decomposition
use Rattle.scratch.specs.declared.Lengths.{Lengths}
use Rattle.scratch.specs.Scratch.{lengths_for}
use Rattle.scratch.specs.Laws.{each}
use Rattle.server.specs.declared.CompileLengths.{CompileLengths}
use Rattle.server.specs.declared.MarkLengths.{MarkLengths}

-- so many detectors, and so many mechanisms or edges
abbrev pub within : ℕ → ℕ → Bool
within D n = leb D max_detectors && leb n max_mechanisms

-- of the decoder, for one shot, a batch or a rate
unfoldable pub decode_lengths : ℕ → ℕ → Lengths
unfolding lengths_for
decode_lengths D E = cond (within D E) (lengths_for D E) (each 0)

abbrev pub decompose_with : ℕ → ℕ → decomposition.Lengths
decompose_with D n = record { starts = 17 * n; before = 17 * n; last_of = D; first_of = D; next_of = n; numbers = n; masks = n; words0 = n; words1 = n; earlier = n }

-- of decomposition
unfoldable pub decompose_lengths : ℕ → ℕ → decomposition.Lengths
decompose_lengths D n = cond (within D n) (decompose_with D n) (decompose_with 0 0)

abbrev pub compile_with : ℕ → ℕ → CompileLengths
compile_with D n = record { edge_p = n; first = D; next = n }

-- of compiling
unfoldable pub compile_lengths : ℕ → ℕ → CompileLengths
compile_lengths D n = cond (within D n) (compile_with D n) (compile_with 0 0)

abbrev pub mark_with : ℕ → ℕ → MarkLengths
mark_with D E = record { marks = words E; wrong = words D }

-- of the marker
unfoldable pub mark_lengths : ℕ → ℕ → MarkLengths
mark_lengths D E = cond (within D E) (mark_with D E) (mark_with 0 0)
