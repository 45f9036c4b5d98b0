-- What the rounds keep of what growth leaves to the shot's end.
use Prim.Native.Nat.{ℕ}
use native.Mathlib.Omega.{arith}
use mathlib.Core.Path.{◌≡◌, sym, ap, ◌∙◌}
use mathlib.Core.List.{List}
use mathlib.Core.Bool.{Bool, false}
use lib.ListN.{length, get_or}
use Rattle.lists.specs.Lists.{below, filter}
use Rattle.steps.specs.Graph.{Graph}
use Rattle.steps.specs.Shot.{decode, row_left}
use Rattle.steps.specs.Call.{list_left}
use Rattle.shot.specs.declared.Shot.{Shot}
use Rattle.shot.specs.Shots.{Left, shot_of}

-- the same lit detectors, and places of the same length
pub left_on : {d o : ℕ} {lit lit' : List Bool} {row list defects : List ℕ} {l : ℕ} {active front active' front' oe op : List ℕ} → Left d o lit row list defects l active front oe op
    → lit' ≡ lit → length active' ≡ length active → length front' ≡ length front → Left d o lit' row list defects l active' front' oe op
left_on {d} k e p q = record {
  few = k.few;
  listed = k.listed ∙ ap (λ (t : List Bool). filter (λ x. get_or t x false) (below d)) (sym e);
  rows = k.rows;
  lists = k.lists;
  actives = omega (arith, k.actives);
  fronts = omega (arith, k.fronts);
  trees = k.trees;
  parents = k.parents;
}

-- what a shot leaves: its answer, its list and its row
abbrev pub Leaves : Graph → List Bool → Shot → List ℕ → List ℕ → List ℕ → List ℕ → Type 0
Leaves g lit r list list' row row' = (r ≡ shot_of (decode g lit)) × (list' ≡ list_left list (decode g lit)) × (row' ≡ row_left g row (decode g lit))

-- an answer to the detectors lit in a table is one to those lit in the row
pub relit : (g : Graph) (list row : List ℕ) {r : Shot} {lit was : List Bool} {list' row' : List ℕ} → lit ≡ was → Leaves g lit r list list' row row' → Leaves g was r list list' row row'
relit g list row q k = (
  k.0 ∙ ap (λ (x : List Bool). shot_of (decode g x)) q,
  k.1 ∙ ap (λ (x : List Bool). list_left list (decode g x)) q,
  k.2 ∙ ap (λ (x : List Bool). row_left g row (decode g x)) q,
)
