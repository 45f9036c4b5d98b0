-- A component appended as a new mechanism.
use Rattle.std.specs.Prelude.{ℕ, ◌+◌, ◌<◌, ◌≡◌, List, false, length, set, pos, Float}
use Rattle.std.specs.Float.{fin}
use Rattle.dem.specs.Decompose.{plus}
use Rattle.cover.specs.Kept.{detectors_at, Detectors}
use Rattle.last_equal.specs.declared.Span.{Span}
use Rattle.last_equal.specs.Last.{Chained, Component}

-- a place for a component at the end of n mechanisms
pub record Appendable (s : Span) (n : ℕ) (es starts counts others : List ℕ) (ps : List Float) (last before : List ℕ) : Type 0 where
  pub component : Component (length last) s es
  pub detectors : Detectors starts counts es n (length last)
  pub chains : Chained (detectors_at starts counts es) n last before
  pub few : n < 16384
  pub started : n < length starts
  pub counted : n < length counts
  pub observed : n < length others
  pub probable : n < length ps
  pub long : n < length before

-- it has its place in each table and in the chains
pub record Appended (s : Span) (p : Float) (n : ℕ) (es starts counts others : List ℕ) (ps : List Float) (starts' counts' others' : List ℕ) (ps' : List Float) (last' before' : List ℕ) : Type 0 where
  pub start : starts' ≡ set starts n s.at
  pub count : counts' ≡ set counts n s.detectors
  pub other : others' ≡ set others n s.observables
  pub probability : ps' ≡ set ps n (plus (fin false 0 (pos 0)) p)
  pub chains : Chained (detectors_at starts' counts' es) (n + 1) last' before'
