-- A table given by a rule: what stands at each place. Holds for any type and any rule. Assumes nothing.
use mathlib.Core.Path.{◌≡◌, sym, ap, ◌∙◌}
use mathlib.Core.List.{List, [], ◌∷◌}
use Prim.Native.Nat.{ℕ, zero, suc, ◌+◌, ◌<◌}
use native.Mathlib.Nat.{add-zero, zero-add, add-suc, suc-add, le_of_suc-le-suc, not-suc-le-zero}
use lib.ListN.{get_or}

-- the table of n entries by the rule g, from place i on: g i, g (i + 1), ..
abbrev pub build : {A : Type 0} → (ℕ → A) → ℕ → ℕ → List A
build g zero i = []
build g (suc n) i = g i ∷ build g n (suc i)

-- the same, from place i on
from : {A : Type 0} (g : ℕ → A) (d : A) (n i k : ℕ) → k < n → get_or (build g n i) k d ≡ g (i + k)
from g d zero i k h = absurd (not-suc-le-zero h)
from g d (suc n) i zero h = ap g (sym (add-zero i))
from g d (suc n) i (suc k) h = from g d n (suc i) k (le_of_suc-le-suc h) ∙ ap g (suc-add i k ∙ sym (add-suc i k))

-- entry k of the table by the rule g is g k
pub at : {A : Type 0} (g : ℕ → A) (d : A) (n k : ℕ) → k < n → get_or (build g n 0) k d ≡ g k
at g d n k h = from g d n 0 k h ∙ ap g (zero-add k)
