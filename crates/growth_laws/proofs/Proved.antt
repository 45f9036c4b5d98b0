-- The laws of growth on accepted weights, proved.
use Prim.Native.Nat.{ℕ, suc, ◌<◌}
use mathlib.Core.Path.{◌≡◌, ap, ◌∙◌}
use mathlib.Core.List.{List}
use mathlib.Core.Bool.{Bool, true, false, ◌&&◌, ◌||◌}
use lib.ListN.{length, get_or}
use lib.Ieee.{nan}
use Rattle.lists.specs.Lists.{member}
use Rattle.steps.specs.Graph.{Graph}
use Rattle.steps.specs.Growth.{is_counted, least_of, grown, saturates, next, after}
use Rattle.steps.specs.Call.{AcceptedGraph}
use Rattle.steps.specs.Laws.{Grows, counted}
use Rattle.growth_laws.specs.Laws.{Fit, reached, Least, GrowthLaws, Statement}
use Rattle.lists.proofs.Members.{get_d_below}
use Rattle.found.proofs.Accepted.{accepted_ends, accepted_weights}
use Rattle.found.proofs.GrowthLaws.{laws}
use Rattle.growth_laws.proofs.Rooms.{least_gives, taken, saturating, rooms, unsaturated, no_nan, increment_least}
use Rattle.growth_laws.proofs.Places.{merged}

module _ (g : Graph) (ok : AcceptedGraph g) (lit : List Bool) where
  grows : Grows g lit
  grows = (laws g (accepted_ends g ok)).grows lit

  fit : Fit g
  fit = accepted_weights g ok

  least : (k e : ℕ) → member e (counted g lit (after g lit k)) ≡ true → Least g lit (after g lit k) (least_of g lit (after g lit k) (counted g lit (after g lit k)))
  least k e m =
      let s = after g lit k in
      let c = grows.chosen k e m in
      record {
        among = c.among;
        gives = least_gives g fit lit s (rooms g fit lit k) e m;
        from = increment_least g fit lit k;
        least = c.least;
        lowest = λ a n h. c.lowest a n h (no_nan g fit lit k a n);
        taken = taken g fit lit s (rooms g fit lit k) e m;
      }

  saturates_is : (k e : ℕ) → e < length g.edge_u
      → get_or (after g lit (suc k)).saturated e false ≡ (get_or (after g lit k).saturated e false || (is_counted g lit (after g lit k) e && reached g (after g lit (suc k)) e))
  unfolding after next
  saturates_is k e h =
      let s = after g lit k in
      let b = least_of g lit s (counted g lit s) in
      get_d_below (λ a. get_or s.saturated a false || saturates g lit s b a) false (length g.edge_u) e h
      ∙ rw (get_d_below (grown g lit s b.step) nan (length g.edge_u) e h) (ap (λ t. get_or s.saturated e false || t) (saturating g fit lit s (rooms g fit lit k) e h))

  all : GrowthLaws g lit
  unfolding after
  all = record {
    unsaturated = unsaturated g fit lit;
    no_nan = no_nan g fit lit;
    least = least;
    saturates = saturates_is;
    stays = grows.stays;
    clustered = grows.clustered;
    ordered = grows.ordered;
    merged = λ k. merged g lit (after g lit k);
  }

pub growth_laws : Statement
growth_laws = all
