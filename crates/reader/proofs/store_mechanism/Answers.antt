-- `reader::store_mechanism`: a count in each column, and the lists.
use Rattle.std.proofs.Common.{arith, List, ℕ, refl, sym, ap, ◌∙◌, ◌+◌, set}
use Rattle.std.proofs.lemmas.List.Edits.{sets}
use Rattle.hex_text.specs.Hex.{bytes_of}
use Rattle.frames.proofs.FrameKinds.{long_is, size_is}
use Rattle.reader.specs.Columns.{stored_frame}
use Rattle.reader.proofs.Stored.{columns_eq}
use Rattle.reader.proofs.Parts.{mechanism_columns}
use Rattle.reader.proofs.Reading.{first_long, second_long, listed_is}
use Rattle.counts.specs.Rows as counts
use Rattle.reader.proofs.store_mechanism.Goals as goal

pub read_u16s-requires : goal.read_u16s-requires
read_u16s-requires c =
    let l = bytes_of c.args.line.now in
    (omega (arith, long_is l 9 c.requires.0), omega (arith, size_is l 9))

pub returns-clause-stores : goal.returns-clause-stores
unfolding stored_frame
returns-clause-stores c =
    let l = bytes_of c.args.line.now in
    let m = c.args.n.mechanisms in
    let rows = c.args.read.now.counts.now in
    let d = c.byte_at-d.result in
    let o = c.byte_at-o.result in
    mechanism_columns rows m d o _ _ _
    ∙ columns_eq _ _ _ _ _ _ _ _ _ _ _ _ _ _ _ _ _ _ (ap (λ (v : ℕ). set c.args.read.now.probability_bits.now m v) c.u64_at.ensures)
    (ap (λ (v : ℕ). set (counts.detectors rows) m v) (c.byte_at-d.ensures ∙ sym (first_long l 9)))
    (ap (λ (v : ℕ). set (counts.observables rows) m v) (c.byte_at-o.ensures ∙ sym (second_long l 9)))
    refl refl refl
    (c.read_u16s.ensures ∙ ap (λ (ls : List ℕ). sets c.args.read.now.entries.now c.args.n.entries ls) (listed_is l 9 (d + o) (omega arith)))
    refl refl
