-- What the passes ask and leave that find the least step and grow the counted edges by it.
use Rattle.std.specs.Prelude.{ℕ, ◌<◌, ◌≤◌, ◌≡◌, List, [], ◌∷◌, Bool, false, cond, eqb, length, get_or, take, set, pos, negsuc, Float}
use Rattle.std.specs.Float.Ieee as Ieee
use Rattle.std.specs.Float.{nan, fin, binary64}
use Rattle.steps.specs.Growth.{tolerance}

-- ---- the least step

-- what a difference is multiplied by for n ends, 1 or 2: a half is exact, so the product is the quotient by n
abbrev pub share_of : ℕ → Float
share_of n = cond (eqb n 2) (fin false 1 (negsuc 0)) (fin false 1 (pos 0))

-- the increment that an edge of weight w and growth g gives, with n ends counted
abbrev pub step_from : Float → Float → ℕ → Float
step_from w g n = Ieee.mul binary64 (Ieee.sub binary64 w g) (share_of n)

-- s where it is less than b
abbrev pub lesser_of : Float → Float → Float
lesser_of b s = cond (Ieee.lt s b) s b

-- m edges below E, each with its count
pub record Growing (touched cnt : List ℕ) (m E : ℕ) : Type 0 where
  pub touches : m ≤ length touched
  pub cnts : m ≤ length cnt
  pub inside : (i : ℕ) → i < m → get_or touched i 0 < E

-- the least of b and the steps of the edges es, each with its count
unfoldable pub least_in : List Float → List Float → Float → List ℕ → List ℕ → Float
least_in w g b [] ns = b
least_in w g b (e ∷ es) [] = b
least_in w g b (e ∷ es) (n ∷ ns) = least_in w g (lesser_of b (step_from (get_or w e nan) (get_or g e nan) n)) es ns

-- ---- growth

-- the growth g after the step, with n ends counted
abbrev pub moved_by : Float → Float → ℕ → Float
moved_by step g n = Ieee.add binary64 g (Ieee.mul binary64 (Ieee.of_int binary64 (pos n)) step)

-- the growths after the edges es have moved on, each with its count
unfoldable pub grow_in : Float → List Float → List ℕ → List ℕ → List Float
grow_in step g [] ns = g
grow_in step g (e ∷ es) [] = g
grow_in step g (e ∷ es) (n ∷ ns) = grow_in step (set g e (moved_by step (get_or g e nan) n)) es ns

-- ---- what saturates

-- an edge of weight w reaches it; so does the edge that gives the least, which need not be named
abbrev pub reaches_from : Float → Float → Bool
reaches_from w g = Ieee.le w (Ieee.add binary64 g tolerance)

-- those of the edges es that saturate as they move on
unfoldable pub ripe_in : Float → List Float → List Float → List ℕ → List ℕ → List ℕ
ripe_in step w g [] ns = []
ripe_in step w g (e ∷ es) [] = []
ripe_in step w g (e ∷ es) (n ∷ ns) =
    let now = moved_by step (get_or g e nan) n in
    let more = ripe_in step w (set g e now) es ns in
    cond (reaches_from (get_or w e nan) now) (e ∷ more) more

-- the m edges es have moved on, and k of them saturate
pub record Ripened (step : Float) (w g : List Float) (es ns : List ℕ) (m : ℕ) (g' : List Float) (fresh' : List ℕ) (k : ℕ) : Type 0 where
  pub grows : g' ≡ grow_in step g es ns
  pub few : k ≤ m
  pub ripe : take k fresh' ≡ ripe_in step w g es ns
