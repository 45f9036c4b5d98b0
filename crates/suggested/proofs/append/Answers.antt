-- `suggested::append`: one entry in each table, and the chain.
use Rattle.std.proofs.Common.{length, set, arith}
use Rattle.cover.specs.Kept.{detectors_at}
use Rattle.last_equal.proofs.Chain.{chain_same}
use Rattle.suggested.proofs.Appending.{more_detectors, detectors_before}
use Rattle.suggested.proofs.append.Goals as goal

pub link-requires : goal.link-requires
link-requires c =
    let ms = c.args.ms.now in
    let es = c.args.entries.now in
    let at = c.args.at in
    let s = c.args.s in
    let starts = ms.starts.now in
    let counts = ms.detector_counts.now in
    let others = ms.observable_counts.now in
    record {
      detectors = more_detectors at s.at s.detectors s.observables es starts counts others c.requires.started c.requires.counted (length ms.last_of.now) c.requires.detectors c.requires.few (omega (arith, c.requires.component.inside)) c.requires.component.detectors;
      chains = chain_same (detectors_at starts counts es) (detectors_at (set starts at s.at) (set counts at s.detectors) es) at ms.last_of.now ms.before.now
          (detectors_before at s.at s.detectors s.observables es starts counts others) c.requires.chains;
      long = c.requires.long;
    }
