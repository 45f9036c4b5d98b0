-- The laws of lines.
use Rattle.frames.specs.LineLaws.{Laws}
use Rattle.frames.proofs.Long.{too_long}
use Rattle.frames.proofs.Words.{row_read, shot_read_lem}
use Rattle.frames.proofs.Cut.{ended, begun, last}

pub laws : Laws
laws = record { long = too_long; rows = row_read; shot = shot_read_lem; ended = ended; begun = begun; last = last }
