-- `reader::store_component`: a count in each column, and the lists.
use Rattle.std.proofs.Common.{arith, List, ℕ, ◌≡◌, refl, sym, ap, ◌∙◌, ◌+◌, ◌-◌, set, get_or}
use Rattle.std.proofs.lemmas.List.Edits.{sets}
use Rattle.hex_text.specs.Hex.{bytes_of}
use Rattle.frames.proofs.FrameKinds.{long_is, size_is}
use Rattle.reader.specs.Columns.{byte_of, stored_frame}
use Rattle.reader.proofs.Stored.{columns_eq}
use Rattle.reader.proofs.Parts.{component_columns}
use Rattle.reader.proofs.Reading.{first_long, second_long, listed_is}
use Rattle.counts.specs.Rows as counts
use Rattle.counts.proofs.Rows.{read_components}
use Rattle.reader.proofs.store_component.Goals as goal

pub read_u16s-requires : goal.read_u16s-requires
read_u16s-requires c =
    let l = bytes_of c.args.line.now in
    (omega (arith, long_is l 1 c.requires.0), omega (arith, size_is l 1))

pub returns-clause-stores : goal.returns-clause-stores
unfolding stored_frame
returns-clause-stores c =
    let l = bytes_of c.args.line.now in
    let last = c.args.n.mechanisms - 1 in
    let k = c.args.n.components in
    let rows = c.args.read.now.counts.now in
    let d = c.byte_at-d.result in
    let o = c.byte_at-o.result in
    let more = c.saturating_add-more.result in
    let one_more : more ≡ byte_of (get_or (counts.components rows) last 0 + 1) = omega (arith, read_components rows last) in
    component_columns rows last more k d o _ _ _
    ∙ columns_eq _ _ _ _ _ _ _ _ _ _ _ _ _ _ _ _ _ _ refl refl refl
    (ap (λ (v : ℕ). set (counts.components rows) last v) one_more)
    (ap (λ (v : ℕ). set (counts.component_detectors rows) k v) (c.byte_at-d.ensures ∙ sym (first_long l 1)))
    (ap (λ (v : ℕ). set (counts.component_observables rows) k v) (c.byte_at-o.ensures ∙ sym (second_long l 1)))
    (c.read_u16s.ensures ∙ ap (λ (ls : List ℕ). sets c.args.read.now.entries.now c.args.n.entries ls) (listed_is l 1 (d + o) (omega arith)))
    refl refl
