-- Two rows with clear padding differ in an observable where their words do.
use Prim.Native.Nat.{ℕ}
use mathlib.Core.Path.{◌≡◌, sym, ◌∙◌}
use mathlib.Core.List.{List}
use mathlib.Core.Bool.{true, false, not, xor}
use lib.Dec.{eqb, ltb}
use lib.ListN.{length}
use lib.Pointwise.{pointwise}
use borrow.Author.Tests.{ltb-true, ltb-false}
use Rattle.std.specs.Cmp.Lexicographic.{same_text, other_text}
use Rattle.lists.specs.Lists.{below}
use Rattle.lists.proofs.Truth.{case-of, xor_self, xor_is}
use Rattle.lists.proofs.Members.{any_none, below_member}
use Rattle.lists.proofs.Ranges.{from_any}
use Rattle.bits.specs.Rows.{bit, is_clear, AreWords}
use Rattle.bits.proofs.Rows.{same_bits, clear_bits}
use Rattle.failures.specs.Failures.{differs}

module _ (o : ℕ) (a b : List ℕ) where
  -- the same words: no observable differs
  none_differs : a ≡ b → differs o a b ≡ false
  unfolding differs below
  none_differs e = rw e (from_any (λ i. xor (bit b i) (bit b i)) o 0 (λ d p q. xor_self (bit b d)))

  module _ (same : length a ≡ length b) (p : is_clear o a ≡ true) (q : is_clear o b ≡ true) (x : AreWords a) (y : AreWords b) where
    same_words : differs o a b ≡ false → a ≡ b
    unfolding differs
    same_words f = same_bits a b same x y (λ d h. case-of (ltb d o)
        (λ t. sym (xor_is (bit a d) (bit b d) (any_none (λ i. xor (bit a i) (bit b i)) (below o) f d (below_member d o (ltb-true d o t)))))
        (λ g. clear_bits o a p d (ltb-false d o g) ∙ sym (clear_bits o b q d (ltb-false d o g))))

    -- they differ where the words do
    pub words_differ : not (pointwise eqb a b) ≡ differs o a b
    words_differ = case-of (pointwise eqb a b)
        (λ t. rw (t, none_differs (same_text a b (sym t))))
        (λ f. rw f (case-of (differs o a b) (λ t. sym t) (λ g. absurd (other_text a b (sym f) (same_words g)))))
