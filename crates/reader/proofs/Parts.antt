-- The four tables by their lengths, and the words of a shot by their two parts.
use Prim.Native.Nat.{ℕ, ◌-◌, ◌≤◌}
use native.Mathlib.Omega.{arith}
use mathlib.Core.Path.{◌≡◌, refl, ap, ◌∙◌}
use mathlib.Core.List.{List, ◌++◌, append-nil}
use mathlib.Core.Bool.{true}
use lib.ListN.{length, get_or, set, take, drop, length-map, length-take, length-drop}
use lib.Seq.{take_at, drop_at, take_all, drop-length, length-take-le}
use borrow.Rule.Slice.PartMut.{mid_of, put_mid, post_of, Post-is, take_put}
use Rattle.columns.proofs.Columns.{map_set}
use Rattle.counts.specs.declared.Row.{Row}
use Rattle.counts.specs.Rows as counts
use Rattle.counts.proofs.Rows.{no_row, kept_detectors, kept_observables, kept_components, kept_component_detectors, kept_component_observables}
use Rattle.reader.specs.Columns.{columns, columns_of, roomy}
use Rattle.reader.proofs.Stored.{room_of_lem, columns_eq}

-- ---- lengths

module _ (bs : List ℕ) (rows : List Row) (es ws : List ℕ) where
  pub record Places : Type 0 where
    pub bits : 1024 ≤ length bs
    pub counts : 1024 ≤ length rows
    pub entries : 8192 ≤ length es
    pub row : 4 ≤ length (take 4 ws)
    pub truth : 2 ≤ length (drop 4 ws)
    pub shot : 4 ≤ length ws

  pub places_of : roomy (columns_of bs rows es ws) ≡ true → Places
  places_of h =
      let r = room_of_lem (columns_of bs rows es ws) h in
      record {
        bits = r.bits;
        counts = omega (arith, r.detector_counts, length-map rows (λ r. r.detectors));
        entries = r.entries;
        row = r.row;
        truth = r.truth;
        shot = omega (arith, r.row, length-take 4 ws);
      }

-- ---- counts stored

module _ (rows : List Row) where
  -- those of mechanism m, with no components yet
  module _ (m d o : ℕ) where
    abbrev with_detectors : List Row
    with_detectors = set rows m (record (get_or rows m no_row) { detectors = d })

    abbrev with_observables : List Row
    with_observables = set with_detectors m (record (get_or with_detectors m no_row) { observables = o })

    abbrev with_mechanism : List Row
    with_mechanism = set with_observables m (record (get_or with_observables m no_row) { components = 0 })

    pub mechanism_columns : (bs es ws : List ℕ)
        → columns_of bs with_mechanism es ws
        ≡ columns bs (set (counts.detectors rows) m d) (set (counts.observables rows) m o) (set (counts.components rows) m 0) (counts.component_detectors rows)
        (counts.component_observables rows) es (take 4 ws) (drop 4 ws)
    mechanism_columns bs es ws =
        let first = kept_detectors rows m d no_row in
        let second = kept_observables with_detectors m o no_row in
        let third = kept_components with_observables m 0 no_row in
        columns_eq _ _ _ _ _ _ _ _ _ _ _ _ _ _ _ _ _ _ refl
        (third.rest 0 refl ∙ second.rest 0 refl ∙ map_set (λ r. r.detectors) rows m _)
        (third.rest 1 refl ∙ map_set (λ r. r.observables) with_detectors m _ ∙ ap (λ (c : List ℕ). set c m o) (first.rest 1 refl))
        (map_set (λ r. r.components) with_observables m _ ∙ ap (λ (c : List ℕ). set c m 0) (second.rest 2 refl ∙ first.rest 2 refl))
        (third.rest 3 refl ∙ second.rest 3 refl ∙ first.rest 3 refl)
        (third.rest 4 refl ∙ second.rest 4 refl ∙ first.rest 4 refl)
        refl refl refl

  -- those of component k, and how many its mechanism m has
  module _ (m more k d o : ℕ) where
    abbrev with_more : List Row
    with_more = set rows m (record (get_or rows m no_row) { components = more })

    abbrev with_its_detectors : List Row
    with_its_detectors = set with_more k (record (get_or with_more k no_row) { component_detectors = d })

    abbrev with_component : List Row
    with_component = set with_its_detectors k (record (get_or with_its_detectors k no_row) { component_observables = o })

    pub component_columns : (bs es ws : List ℕ)
        → columns_of bs with_component es ws
        ≡ columns bs (counts.detectors rows) (counts.observables rows) (set (counts.components rows) m more) (set (counts.component_detectors rows) k d)
        (set (counts.component_observables rows) k o) es (take 4 ws) (drop 4 ws)
    component_columns bs es ws =
        let first = kept_components rows m more no_row in
        let second = kept_component_detectors with_more k d no_row in
        let third = kept_component_observables with_its_detectors k o no_row in
        columns_eq _ _ _ _ _ _ _ _ _ _ _ _ _ _ _ _ _ _ refl
        (third.rest 0 refl ∙ second.rest 0 refl ∙ first.rest 0 refl)
        (third.rest 1 refl ∙ second.rest 1 refl ∙ first.rest 1 refl)
        (third.rest 2 refl ∙ second.rest 2 refl ∙ map_set (λ r. r.components) rows m _)
        (third.rest 3 refl ∙ map_set (λ r. r.component_detectors) with_more k _ ∙ ap (λ (c : List ℕ). set c k d) (first.rest 3 refl))
        (map_set (λ r. r.component_observables) with_its_detectors k _ ∙ ap (λ (c : List ℕ). set c k o) (second.rest 4 refl ∙ first.rest 4 refl))
        refl refl refl

-- ---- the words of a shot

module _ (shot ys : List ℕ) (h : 4 ≤ length shot) where
  module _ (l : length ys ≡ length (mid_of 0 (4 - 0) shot)) where
    pub row_put : take 4 (put_mid 0 (4 - 0) shot ys) ≡ ys
    row_put = take_at ys (drop 4 shot) 4 (l ∙ length-take-le 4 shot h)

    pub row_rest : drop 4 (put_mid 0 (4 - 0) shot ys) ≡ drop 4 shot
    row_rest = drop_at ys (drop 4 shot) 4 (l ∙ length-take-le 4 shot h)

  pub truth_rest : take 4 (put_mid 4 (length shot - 4) shot ys) ≡ take 4 shot
  truth_rest = take_put 4 (length shot - 4) shot ys h

  pub truth_put : drop 4 (put_mid 4 (length shot - 4) shot ys) ≡ ys
  truth_put =
      drop_at (take 4 shot) (ys ++ post_of 4 (length shot - 4) shot) 4 (length-take-le 4 shot h)
      ∙ ap (λ (z : List ℕ). ys ++ z) (Post-is 4 (length shot) shot h ∙ drop-length shot) ∙ append-nil ys

pub truth_is : (shot : List ℕ) → mid_of 4 (length shot - 4) shot ≡ drop 4 shot
truth_is shot = take_all (length shot - 4) (drop 4 shot) (omega (arith, length-drop 4 shot))
