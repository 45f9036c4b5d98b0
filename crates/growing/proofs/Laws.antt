-- The turns of the passes over the counted edges. Assumes nothing.
use Prim.Native.Nat.{ℕ, ◌+◌, ◌<◌, ◌≤◌}
use native.Mathlib.Omega.{arith}
use mathlib.Core.Path.{◌≡◌, refl, sym, ap, ◌∙◌}
use mathlib.Core.List.{List, [], ◌∷◌, ◌++◌, append-nil}
use mathlib.Core.Bool.{Bool}
use lib.ListN.{length, get_or, set, take, get_or-map}
use lib.Ieee.{Float, nan}
use lib.Seq.{slice, slice_empty}
use mir.Val.{bool_byte}
use Rattle.cells.specs.declared.Link.{Link}
use Rattle.cells.specs.Tables.{touched, cnt, link_column, SameLinks}
use Rattle.columns.proofs.Columns.{column_length}
use Rattle.growing.specs.Growing.{Growing, least_in, lesser_of, step_from, moved_by, grow_in, reaches_from, ripe_in}
use Rattle.growth_state.proofs.Laws.{slice_next, listed}

abbrev pub empty : Link
empty = record { touched = 0; count = 0; fresh = 0; unused = 0 }

-- a row that is read while the edges and their counts are kept
module _ {links now : List Link} (s : SameLinks (2 ∷ []) links now) (i : ℕ) where
  pub edge_is : get_or (touched links) i 0 ≡ (get_or now i empty).touched
  edge_is = sym (ap (λ (l : List ℕ). get_or l i 0) (s.rest 0 refl)) ∙ get_or-map (λ r. r.touched) now i empty

  pub count_is : get_or (cnt links) i 0 ≡ (get_or now i empty).count
  count_is = sym (ap (λ (l : List ℕ). get_or l i 0) (s.rest 1 refl)) ∙ get_or-map (λ r. r.count) now i empty

  module _ {m E : ℕ} (g : Growing (touched links) (cnt links) m E) (h : i < m) where
    pub row_in : i < length now
    row_in = omega (arith, g.touches, column_length link_column 0 links, s.long)

    pub edge_in : (get_or now i empty).touched < E
    edge_in = rw edge_is at (g.inside i h)

module _ (touched cnt : List ℕ) (i m : ℕ) (hi : i < m) (ht : m ≤ length touched) (hc : m ≤ length cnt) where
  pub least_turn : (w g : List Float) (b : Float)
      → least_in w g b (slice i m touched) (slice i m cnt)
      ≡ least_in w g (lesser_of b (step_from (get_or w (get_or touched i 0) nan) (get_or g (get_or touched i 0) nan) (get_or cnt i 0))) (slice (i + 1) m touched) (slice (i + 1) m cnt)
  unfolding least_in
  least_turn w g b = rw (slice_next i m touched hi ht, slice_next i m cnt hi hc)

  pub grow_turn : (step : Float) (g : List Float)
      → grow_in step g (slice i m touched) (slice i m cnt)
      ≡ grow_in step (set g (get_or touched i 0) (moved_by step (get_or g (get_or touched i 0) nan) (get_or cnt i 0)))
      (slice (i + 1) m touched) (slice (i + 1) m cnt)
  unfolding grow_in
  grow_turn step g = rw (slice_next i m touched hi ht, slice_next i m cnt hi hc)

  -- k of those before are written, and one more if it saturates
  pub ripe_turn : (step : Float) (w g : List Float) (k : ℕ) (fresh : List ℕ) → k < length fresh → (now : Float) → now ≡ moved_by step (get_or g (get_or touched i 0) nan) (get_or cnt i 0)
      → (done : Bool) → done ≡ reaches_from (get_or w (get_or touched i 0) nan) now
      → take (k + bool_byte done) (set fresh k (get_or touched i 0)) ++ ripe_in step w (set g (get_or touched i 0) now) (slice (i + 1) m touched) (slice (i + 1) m cnt)
      ≡ take k fresh ++ ripe_in step w g (slice i m touched) (slice i m cnt)
  unfolding ripe_in
  ripe_turn step w g k fresh h now is done reaches =
      let e = get_or touched i 0 in
      listed (λ r. r) e e (ripe_in step w (set g e now) (slice (i + 1) m touched) (slice (i + 1) m cnt)) refl fresh k h done
      ∙ rw (slice_next i m touched hi ht, slice_next i m cnt hi hc, reaches, is)

pub least_end : (w g : List Float) (b : Float) (touched cnt : List ℕ) (m : ℕ) → least_in w g b (slice m m touched) (slice m m cnt) ≡ b
unfolding least_in
least_end w g b touched cnt m = rw (slice_empty m touched)

pub ripe_end : (step : Float) (w g : List Float) (l touched cnt : List ℕ) (m : ℕ) → l ++ ripe_in step w g (slice m m touched) (slice m m cnt) ≡ l
unfolding ripe_in
ripe_end step w g l touched cnt m = rw (slice_empty m touched) (append-nil l)

pub grow_end : (step : Float) (g : List Float) (touched cnt : List ℕ) (m : ℕ) → grow_in step g (slice m m touched) (slice m m cnt) ≡ g
unfolding grow_in
grow_end step g touched cnt m = rw (slice_empty m touched)
