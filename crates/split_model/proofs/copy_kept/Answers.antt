-- `split_model::copy_kept`: column by column.
use lib.Ieee.{nan}
use Rattle.dem.proofs.Positions.{reached_of, lengths}
use Rattle.split_model.proofs.Copies.{all_copied, kept_counted, component_counted, entry_counted, parts_fit, lists_long}
use Rattle.split_model.proofs.copy_kept.Goals as goal

pub copy_column-kept-requires : goal.copy_column-kept-requires
copy_column-kept-requires c =
    let held = reached_of _ _ c.requires.holds in
    (held.detectors, held.probability, (lengths _ _ c.requires.columns).0)

pub copy_column-requires : goal.copy_column-requires
copy_column-requires c =
    let held = reached_of _ _ c.requires.holds in
    (held.detectors, held.detectors, (lengths _ _ c.requires.columns).1)

pub copy_column-requires-2 : goal.copy_column-requires-2
copy_column-requires-2 c =
    let held = reached_of _ _ c.requires.holds in
    (held.detectors, held.observables, (lengths _ _ c.requires.columns).2)

pub copy_column-requires-3 : goal.copy_column-requires-3
copy_column-requires-3 c =
    let held = reached_of _ _ c.requires.holds in
    (held.detectors, held.components, (lengths _ _ c.requires.columns).3)

pub copy_components-components-requires : goal.copy_components-components-requires
copy_components-components-requires c =
    let held = reached_of _ _ c.requires.holds in
    (held.detectors, held.components, parts_fit _ _ _ held.component_detectors, parts_fit _ _ _ (lists_long _ _ _ c.requires.lists).0)

pub copy_components-requires : goal.copy_components-requires
copy_components-requires c =
    let held = reached_of _ _ c.requires.holds in
    (held.detectors, held.components, parts_fit _ _ _ held.component_observables, parts_fit _ _ _ (lists_long _ _ _ c.requires.lists).1)

pub copy_entries-listed-requires : goal.copy_entries-listed-requires
copy_entries-listed-requires c =
    record { holds = c.requires.holds; small = c.requires.small; room = (lists_long _ _ _ c.requires.lists).2; started = c.requires.started }

pub returns-clause-copied : goal.returns-clause-copied
returns-clause-copied c =
    let hold = c.requires.holds in
    let first = c.copy_column-kept.ensures nan in
    record {
      tables = all_copied _ _ hold _ _ _ _ _ _ _ _ first.copied (c.copy_column.ensures 0).copied (c.copy_column-2.ensures 0).copied (c.copy_column-3.ensures 0).copied c.copy_components-components.ensures.copied c.copy_components.ensures.copied c.copy_entries-listed.ensures.copied.copied;
      started = c.copy_entries-listed.ensures.marked;
      mechanisms = kept_counted _ _ hold _ first.counted;
      components = component_counted _ _ hold _ c.copy_components-components.ensures.counted;
      entries = entry_counted _ _ hold _ c.copy_entries-listed.ensures.copied.counted;
    }
