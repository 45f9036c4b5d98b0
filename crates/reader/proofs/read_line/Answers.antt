-- `reader::read_line`: the numbers, the tables, then the line.
use Rattle.std.proofs.Common.{sym, ap, ◌∙◌}
use Rattle.std.proofs.lemmas.Result.{err_from_is_err_and}
use Rattle.frames.specs.Counts.{numbers_in}
use Rattle.reader.proofs.Reading.{storable, short_read, refused_read, next_read}
use Rattle.reader.proofs.read_line.Goals as goal

pub returns-then-not-long_enough-clause-reads : goal.returns-then-not-long_enough-clause-reads
returns-then-not-long_enough-clause-reads c = short_read c.args.line.now c.args.n _ (cc) (cc)

pub returns-in_err-kind-clause-reads : goal.returns-in_err-kind-clause-reads
returns-in_err-kind-clause-reads c =
    let p = err_from_is_err_and c.from_residual.result c.from_residual.ensures.1 in
    rw (p.1, p.2) (refused_read c.args.line.now c.args.n _ (cc) (cc) c.in_err-kind.field-0.0 (sym (ap numbers_in c.in_err-kind.was) ∙ c.next_line.ensures.answers))

pub store-requires : goal.store-requires
store-requires c = (
  rw c.in_ok-kind.was at c.next_line.ensures.kind,
  storable c.args.n c.args.line.now _ c.in_ok-kind.next (cc) (cc) (sym c.next_line.ensures.answers ∙ ap numbers_in c.in_ok-kind.was),
)

pub returns-clause-reads : goal.returns-clause-reads
returns-clause-reads c =
    next_read c.args.line.now c.args.n _ (cc) (cc) c.in_ok-kind.next _ (sym (ap numbers_in c.in_ok-kind.was) ∙ c.next_line.ensures.answers) c.store.ensures.stores
