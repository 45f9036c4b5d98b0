-- `reader::store`: the words of a shot, in one part of their table.
use Rattle.std.proofs.Common.{sym, ap, ◌∙◌}
use Rattle.hex_text.specs.Hex.{bytes_of}
use Rattle.frames.specs.Frames.{kind_byte}
use Rattle.reader.proofs.Parts.{places_of, row_put, row_rest, truth_is, truth_rest, truth_put}
use Rattle.frames.proofs.FrameKinds.{frame_5, frame_6}
use Rattle.reader.specs.Columns.{stored_frame}
use borrow.Author.Tests.{eq-eqb}
use Rattle.reader.proofs.store.Goals as goal

pub returns-in-Row-clause-stores : goal.returns-in-Row-clause-stores
unfolding stored_frame
returns-in-Row-clause-stores c =
    let t = c.args.read.now in
    let room = places_of t.probability_bits.now t.counts.now t.entries.now t.shot.now c.requires.1.room in
    let five = sym c.requires.0 ∙ ap kind_byte c.in-Row.is in
    let words = c.requires.1.row five in
    let out = c.read_u64s.new.out in
    rw (frame_5 c.args.n.detectors c.args.n.observables (bytes_of c.args.line.now) five, eq-eqb _ _ words.0, ← c.words.ensures, ← c.read_u64s.ensures, row_put t.shot.now out room.shot c.read_u64s.auto.out, row_rest t.shot.now out room.shot c.read_u64s.auto.out)

pub returns-in-Truth-clause-stores : goal.returns-in-Truth-clause-stores
unfolding stored_frame
returns-in-Truth-clause-stores c =
    let t = c.args.read.now in
    let room = places_of t.probability_bits.now t.counts.now t.entries.now t.shot.now c.requires.1.room in
    let six = sym c.requires.0 ∙ ap kind_byte c.in-Truth.is in
    let words = c.requires.1.truth six in
    let out = c.read_u64s-in-Truth.new.out in
    rw (frame_6 c.args.n.detectors c.args.n.observables (bytes_of c.args.line.now) six, eq-eqb _ _ words.0, truth_rest t.shot.now out room.shot, truth_put t.shot.now out room.shot, c.read_u64s-in-Truth.ensures, truth_is t.shot.now, c.words-in-Truth.ensures)
