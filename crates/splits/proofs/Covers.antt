-- The answer of the search for a cover.
use Rattle.std.specs.Prelude.{Option, Some, None}
use Prim.Native.Nat.{ℕ, zero, suc, ◌-◌, ◌<◌}
use native.Mathlib.Omega.{arith}
use mathlib.Core.Path.{◌≡◌, sym, ap, ap₂, ◌∙◌, subst}
use mathlib.Core.List.{List, [], ◌∷◌}
use lib.ListN.{length, get_or, take, drop, length-map}
use lib.Seq.{take-append_seam}
use Rattle.lists.specs.Lists.{below}
use Rattle.lists.proofs.Members.{length_below, get_d_below}
use Rattle.dem.specs.Model.{Symptom}
use Rattle.dem.specs.Cover.{first_cover, Ascending, IsFirst, none_such}
use Rattle.cover.specs.Kept.{symptom_at, kept_in}
use Rattle.cover.specs.Search.{Answered}
use Rattle.cover.proofs.Laws.{laws}

ascending_below : (n at : ℕ) (cs : List ℕ) → Ascending n at cs → (i : ℕ) → i < length cs → get_or cs i 0 < n
ascending_below n at [] a i h = absurd (omega arith)
ascending_below n at (c ∷ cs) a zero h = a.1
ascending_below n at (c ∷ cs) a (suc i) h = ascending_below n (suc c) cs a.2 i (omega arith)

-- every member of a first cover is one of the kept mechanisms
pub members_below : (ks : List Symptom) (s : Symptom) (cs : List ℕ) → first_cover ks s ≡ Some cs → (i : ℕ) → i < length cs → get_or cs i 0 < length ks
members_below ks s cs e = ascending_below (length ks) 0 cs (subst (IsFirst ks s) e (laws.first_cover_is ks s)).0.ascends

pub kept_length : (starts counts others es : List ℕ) (n : ℕ) → length (kept_in starts counts others es n) ≡ n
unfolding kept_in
kept_length starts counts others es n = length-map (below n) (symptom_at starts counts others es) ∙ length_below n

pub kept_at : (starts counts others es : List ℕ) (n k : ℕ) → k < n → get_or (kept_in starts counts others es n) k none_such ≡ symptom_at starts counts others es k
unfolding kept_in
kept_at starts counts others es n k h = get_d_below (symptom_at starts counts others es) none_such n k h

-- the members that an answer has written
pub told_below : (starts counts others es : List ℕ) (n : ℕ) (s : Symptom) (l after : List ℕ) (m : ℕ) → Answered (first_cover (kept_in starts counts others es n) s) l (Some m) after
    → (i : ℕ) → i < length (take (m - 0) after) → get_or (take (m - 0) after) i 0 < n
told_below starts counts others es n s l after m a i h =
    let t = told (first_cover (kept_in starts counts others es n) s) a in
    rw (← kept_length starts counts others es n) (members_below (kept_in starts counts others es n) s (take (m - 0) after) t i h)
  where
    told : (x : Option (List ℕ)) → Answered x l (Some m) after → x ≡ Some (take (m - 0) after)
    told None a = absurd (cc a.0)
    told (Some cs) a =
        let e : m ≡ length cs = cc a.0 in
        let q : m - 0 ≡ length cs = omega arith in
        ap Some (sym (ap₂ (λ (k : ℕ) (t : List ℕ). take k t) q a.1 ∙ take-append_seam cs (drop (length cs) l)))
