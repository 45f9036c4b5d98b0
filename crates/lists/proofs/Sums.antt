-- Whether an odd number of elements pass: the laws of `odd`.
use Prim.Native.Nat.{ℕ, zero, suc, ◌+◌, ◌≤◌, ◌<◌}
use native.Mathlib.Omega.{arith}
use mathlib.Core.Path.{◌≡◌, refl, sym, ap, ap₂, ◌∙◌}
use mathlib.Core.List.{List, [], ◌∷◌, ◌++◌}
use mathlib.Core.Bool.{Bool, true, false, ◌&&◌, xor}
use lib.Dec.{eqb}
use borrow.Author.Tests.{eqb-true, eqb-false, ne_eqb}
use Rattle.lists.specs.Lists.{from, below, odd, member}
use Rattle.lists.proofs.Truth.{case-of, clash, or_intro, same_eqb, false_xor, xor_false, xor_swap, xor_assoc, xor_and}

pub odd_cong : (p q : ℕ → Bool) (l : List ℕ) → ((a : ℕ) → member a l ≡ true → p a ≡ q a) → odd p l ≡ odd q l
unfolding odd member
odd_cong p q [] h = refl
odd_cong p q (a ∷ l) h = ap₂ xor (h a (rw (same_eqb a))) (odd_cong p q l (λ b m. h b (or_intro (eqb b a) (member b l) m)))

pub odd_none : (l : List ℕ) → odd (λ a. false) l ≡ false
unfolding odd
odd_none [] = refl
odd_none (a ∷ l) = rw (odd_none l)

pub odd_no : (p : ℕ → Bool) (l : List ℕ) → ((a : ℕ) → member a l ≡ true → p a ≡ false) → odd p l ≡ false
odd_no p l h = odd_cong p (λ a. false) l h ∙ odd_none l

pub odd_xor : (p q : ℕ → Bool) (l : List ℕ) → odd (λ a. xor (p a) (q a)) l ≡ xor (odd p l) (odd q l)
unfolding odd xor
odd_xor p q [] = refl
odd_xor p q (a ∷ l) = ap (xor (xor (p a) (q a))) (odd_xor p q l) ∙ xor_swap (p a) (q a) (odd p l) (odd q l)

pub odd_and : (p : ℕ → Bool) (c : Bool) (l : List ℕ) → odd (λ a. p a && c) l ≡ (odd p l && c)
unfolding odd
odd_and p c [] = refl
odd_and p c (a ∷ l) = ap (xor (p a && c)) (odd_and p c l) ∙ sym (xor_and (p a) (odd p l) c)

pub odd_append : (p : ℕ → Bool) (l m : List ℕ) → odd p (l ++ m) ≡ xor (odd p l) (odd p m)
unfolding odd xor
odd_append p [] m = sym (false_xor (odd p m))
odd_append p (a ∷ l) m = ap (xor (p a)) (odd_append p l m) ∙ sym (xor_assoc (p a) (odd p l) (odd p m))

-- two sums, in either order
pub odd_swap : (r : ℕ → ℕ → Bool) (l m : List ℕ) → odd (λ a. odd (r a) m) l ≡ odd (λ b. odd (λ a. r a b) l) m
unfolding odd
odd_swap r [] m = sym (odd_none m)
odd_swap r (a ∷ l) m = ap (xor (odd (r a) m)) (odd_swap r l m) ∙ sym (odd_xor (r a) (λ b. odd (λ a. r a b) l) m)

pub odd_some : (p : ℕ → Bool) (l : List ℕ) → odd p l ≡ true → (a : ℕ) × (member a l ≡ true) × (p a ≡ true)
unfolding odd member
odd_some p [] h = clash h refl
odd_some p (a ∷ l) h = case-of (p a) (λ t. (a, rw (same_eqb a), t)) (λ f. let (b, m, t) = odd_some p l (cc (false_xor (odd p l))) in (b, or_intro (eqb b a) (member b l) m, t))

from_miss : (x : ℕ) (q : ℕ → Bool) (n a : ℕ) → x < a → odd (λ d. eqb x d && q d) (from n a) ≡ false
unfolding odd from
from_miss x q zero a h = refl
from_miss x q (suc n) a h = rw (ne_eqb x a (λ e. omega arith), from_miss x q n (suc a) (omega arith))

from_hit : (x : ℕ) (q : ℕ → Bool) (n a : ℕ) → a ≤ x → x < n + a → odd (λ d. eqb x d && q d) (from n a) ≡ q x
unfolding odd from
from_hit x q zero a h k = absurd (omega arith)
from_hit x q (suc n) a h k = case-of (eqb x a)
    (λ t. rw (t, from_miss x q n (suc a) (omega (arith, eqb-true x a t)), xor_false (q a)) (ap q (sym (eqb-true x a t))))
    (λ f. rw (f, false_xor (odd (λ d. eqb x d && q d) (from n (suc a)))) (from_hit x q n (suc a) (omega (arith, eqb-false x a f)) (omega arith)))

pub odd_hit : (x : ℕ) (q : ℕ → Bool) (n : ℕ) → x < n → odd (λ d. eqb x d && q d) (below n) ≡ q x
unfolding below
odd_hit x q n h = from_hit x q n 0 (omega arith) (omega arith)
