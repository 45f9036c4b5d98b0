-- Whether components are suggested, by the counts of their detectors.
use Prim.Native.Nat.{ℕ, ◌<◌}
use native.Mathlib.Omega.{arith}
use mathlib.Core.Path.{◌≡◌, refl, ap, ◌∙◌}
use mathlib.Core.List.{List, [], ◌∷◌}
use mathlib.Core.Bool.{Bool, true, false, not, ◌&&◌, ◌||◌}
use lib.ListN.{length}
use lib.Dec.{leb}
use borrow.Author.Tests.{not-true}
use Rattle.std.specs.List.{list_all}
use Rattle.lists.specs.Lists.{any}
use Rattle.dem.specs.Model.{Symptom}
use Rattle.dem.specs.Tables.{component_detectors}
use Rattle.dem.specs.Decompose.{one_or_two, is_suggested}
use Rattle.splits.specs.Ready.{counts_suggest}

abbrev pub other : ℕ → Bool
other n = not (leb 1 n && leb n 2)

pub any_counts : (cs : List Symptom) → any (λ r. not (one_or_two r)) cs ≡ any other (component_detectors cs)
unfolding any component_detectors
any_counts [] = refl
any_counts (c ∷ cs) = ap (λ b. other (length c.detectors) || b) (any_counts cs)

pub suggests : (cs : List Symptom) → is_suggested cs ≡ counts_suggest (component_detectors cs)
unfolding is_suggested counts_suggest component_detectors
suggests [] = refl
suggests (c ∷ cs) = ap not (any_counts (c ∷ cs))

pub all_one_or_two : (cs : List Symptom) → is_suggested cs ≡ true → any (λ r. not (one_or_two r)) cs ≡ false
unfolding is_suggested
all_one_or_two [] e = absurd (cc)
all_one_or_two (c ∷ cs) e = not-true (any (λ r. not (one_or_two r)) (c ∷ cs)) e

either : (a b : Bool) → not (not a || b) ≡ (a && not b)
either true b = refl
either false b = refl

all_counts : (ds : List ℕ) → not (any other ds) ≡ list_all (λ n. leb 1 n && leb n 2) ds
unfolding any
all_counts [] = refl
all_counts (d ∷ ds) = either (leb 1 d && leb d 2) (any other ds) ∙ ap (λ b. (leb 1 d && leb d 2) && b) (all_counts ds)

pub counts_none : (ds : List ℕ) → length ds ≡ 0 → counts_suggest ds ≡ false
unfolding counts_suggest
counts_none [] e = refl
counts_none (d ∷ ds) e = absurd (omega arith)

pub counts_some : (ds : List ℕ) → 0 < length ds → counts_suggest ds ≡ list_all (λ n. leb 1 n && leb n 2) ds
unfolding counts_suggest any
counts_some [] h = absurd (omega arith)
counts_some (d ∷ ds) h = all_counts (d ∷ ds)
