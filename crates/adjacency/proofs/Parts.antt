-- The first entries of slices that may be longer than the counts need. Assumes nothing.
use Prim.Native.Nat.{ℕ, ◌+◌, ◌-◌, ◌*◌, ◌≤◌, ◌<◌}
use native.Mathlib.Omega.{arith}
use mathlib.Core.Path.{◌≡◌}
use mathlib.Core.List.{List, ◌++◌}
use lib.ListN.{length, take}
use lib.Seq.{length-take-le, take_at}
use Rattle.adjacency.specs.declared.Neighbor.{Neighbor}
use Rattle.adjacency.specs.Adjacent.{Sized, Adjacent}
use Rattle.adjacency.specs.Pairs.{near, away, Tabled, AdjacentParts}

-- the first n entries, as the code lends them
abbrev pub part : {X : Type 0} → ℕ → List X → List X
part n xs = take (n - 0) xs

pub part_length : {X : Type 0} (n : ℕ) (xs : List X) → n ≤ length xs → length (part n xs) ≡ n
part_length n xs h = let z : n - 0 ≡ n = omega arith in rw z (length-take-le n xs h)

module _ {d n : ℕ} {u v off : List ℕ} {adj : List Neighbor} (t : Tabled d n u v off adj) where
  pub small : d < 4294967295
  small = t.ends.small

  -- what the adjacency asks
  pub sized : Sized d (part n u) (part n v) (part (d + 1) off)
  sized =
      let z : n - 0 ≡ n = omega arith in
      let y : d + 1 - 0 ≡ d + 1 = omega arith in
      rw (z, y) (record { ends = t.ends; few = omega (arith, length-take-le n u t.firsts, t.few); offs = length-take-le (d + 1) off t.offs })

  pub room : 2 * length (part n u) ≤ length adj
  room = omega (arith, part_length n u t.firsts, t.rows)

-- the offsets written are the first entries of those lent
pub lent_back : (d n : ℕ) (u v off off' : List ℕ) (adj : List Neighbor) → length off ≡ d + 1 → Adjacent d (part n u) (part n v) off (near adj) (away adj) → AdjacentParts d n u v (off ++ off') adj
lent_back d n u v off off' adj p k =
    let z : n - 0 ≡ n = omega arith in
    rw (take_at off off' (d + 1) p) (rw z at k)
