-- Entries of a column raised, one after another.
use Prim.Native.Nat.{ℕ, ◌+◌, ◌<◌, ◌≤◌}
use native.Mathlib.Numerals.{add-one}
use mathlib.Core.Path.{◌≡◌}
use mathlib.Core.List.{List}
use lib.ListN.{length, get_or, drop, length-set, drop_of_length-le}
use lib.Seq.{drop-cons}
use lib.Ieee.{Float}
use Rattle.probability.specs.Probability.{raised_at, raised_all}

pub length_raised : (p : Float) (k : ℕ) (xs : List Float) → length (raised_at p k xs) ≡ length xs
unfolding raised_at
length_raised p k xs = length-set xs k _

pub raise_turn : (p : Float) (ks : List ℕ) (i : ℕ) (xs : List Float) → i < length ks → raised_all p (drop i ks) xs ≡ raised_all p (drop (i + 1) ks) (raised_at p (get_or ks i 0) xs)
unfolding raised_all
raise_turn p ks i xs h = rw (add-one i, drop-cons ks i 0 h)

pub raise_end : (p : Float) (ks : List ℕ) (i : ℕ) (xs : List Float) → length ks ≤ i → raised_all p (drop i ks) xs ≡ xs
unfolding raised_all
raise_end p ks i xs h = rw (drop_of_length-le ks {i = i} h)
