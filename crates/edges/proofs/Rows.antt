-- The row of a list of observables, set bit by bit.
use Prim.Native.Nat.{ℕ, zero, suc, ◌/◌, ◌≤◌, ◌<◌}
use native.Mathlib.Omega.{arith}
use mathlib.Core.Path.{◌≡◌, refl, sym, ap, ◌∙◌}
use mathlib.Core.List.{List, [], ◌∷◌, map}
use mathlib.Core.Bool.{Bool, true, ◌&&◌, ◌||◌}
use lib.Dec.{eqb, leb, ltb}
use lib.ListN.{length, get_or, take, replicate, length-replicate}
use borrow.Author.Tests.{ltb-true, eqb-true}
use Rattle.lists.specs.Lists.{below, member}
use Rattle.lists.proofs.Truth.{and_left, and_right, or_cases, or_intro, same_eqb, not_so}
use Rattle.lists.proofs.Members.{at_member}
use Rattle.bits.specs.Rows.{words, bit, bits_of, is_clear, set_bit, AreWords, row_of_bits}
use Rattle.bits.proofs.Word.{words_hold}
use Rattle.bits.proofs.Rows.{bit_set, bit_zeros, bits_clear, set_length, set_words}
use Rattle.bits.proofs.Booleans.{row_of_bits_lem}
use Rattle.codes.specs.Limits.{max_entries}
use Rattle.dem.specs.Model.{ascending, list_fits}
use Rattle.edges.specs.Compile.{obs_row}
use mathlib.Core.Logic.{⊎_elim}
use Rattle.std.specs.List.{fold}
use Rattle.std.proofs.lemmas.List.{take_all}
use Rattle.std.proofs.Math.Bool.{or-false, or_assoc}

-- every entry of a list that fits is below its bound
ascending_below : (l : List ℕ) (low bound k : ℕ) → ascending low bound l ≡ true → member k l ≡ true → k < bound
unfolding ascending member
ascending_below [] low bound k h m = cc
ascending_below (x ∷ l) low bound k h m =
    let q = and_right (leb low x) (ltb x bound && ascending (suc x) bound l) h in
    ⊎_elim
    (λ t. rw (eqb-true k x t) (ltb-true x bound (and_left (ltb x bound) (ascending (suc x) bound l) q)))
    (λ t. ascending_below l (suc x) bound k (and_right (ltb x bound) (ascending (suc x) bound l) q) t)
    (or_cases (eqb k x) (member k l) m)

pub fits_below : (l : List ℕ) (bound k : ℕ) → list_fits bound l ≡ true → member k l ≡ true → k < bound
unfolding list_fits
fits_below l bound k h m = ascending_below l 0 bound k (and_right (leb (length l) max_entries) (ascending 0 bound l) h) m

-- the word of an entry is one of the row's
pub word_below : (o : ℕ) (l : List ℕ) (i : ℕ) → list_fits o l ≡ true → i < length l → get_or l i 0 / 64 < words o
word_below o l i h k = omega (arith, fits_below l o (get_or l i 0) h (at_member l i k), words_hold o)

-- ---- bits set one after another

abbrev pub set_all : List ℕ → List ℕ → List ℕ
set_all row ds = fold set_bit row ds

length_all : (row ds : List ℕ) → length (set_all row ds) ≡ length row
length_all row [] = refl
length_all row (d ∷ ds) = length_all (set_bit row d) ds ∙ set_length row d

bit_all : (row ds : List ℕ) (k : ℕ) → ((d : ℕ) → member d ds ≡ true → d / 64 < length row) → bit (set_all row ds) k ≡ (bit row k || member k ds)
unfolding member
bit_all row [] k h = sym (or-false (bit row k))
bit_all row (d ∷ ds) k h =
    let here : d / 64 < length row = h d (rw (same_eqb d)) in
    bit_all (set_bit row d) ds k (λ x m. rw (set_length row d) (h x (or_intro (eqb x d) (member x ds) m)))
    ∙ ap (λ (b : Bool). b || member k ds) (bit_set row d k here)
    ∙ or_assoc (bit row k) (eqb k d) (member k ds)

all_words : (row ds : List ℕ) → AreWords row → AreWords (set_all row ds)
all_words row [] h = h
all_words row (d ∷ ds) h = all_words (set_bit row d) ds (set_words row d h)

zero_words : (n : ℕ) → AreWords (replicate n 0)
zero_words zero i = omega arith
zero_words (suc n) zero = omega arith
zero_words (suc n) (suc i) = zero_words n i

map_same : {A B : Type 0} (f g : A → B) (l : List A) → ((a : A) → f a ≡ g a) → map f l ≡ map g l
map_same f g [] h = refl
map_same f g (a ∷ l) h = rw (h a, map_same f g l h)

-- bits set from the zero row on, to the end of the list: the row of the list
pub row_is : (o : ℕ) (l row : List ℕ) (i : ℕ) → list_fits o l ≡ true → row ≡ set_all (replicate (words o) 0) (take i l) → length l ≤ i → row ≡ obs_row o l
unfolding obs_row bits_of
row_is o l row i h e past =
    let zeros : List ℕ = replicate (words o) 0 in
    let n : length zeros ≡ words o = length-replicate (words o) 0 in
    let whole : row ≡ set_all zeros l = e ∙ ap (set_all zeros) (take_all i l past) in
    let long : length row ≡ words o = ap length whole ∙ length_all zeros l ∙ n in
    let bits : (k : ℕ) → bit row k ≡ member k l
    = λ k. ap (λ (r : List ℕ). bit r k) whole ∙ bit_all zeros l k (λ d m. let b = fits_below l o d h m in omega (arith, words_hold o)) ∙ rw (bit_zeros (words o) k) in
    let clear : is_clear o row ≡ true = bits_clear o row (λ d b. bits d ∙ not_so (member d l) (λ t. let k = fits_below l o d h t in omega arith)) in
    sym (row_of_bits_lem o row (rw whole (all_words zeros l (zero_words (words o)))) clear)
    ∙ ap (λ (m : ℕ). row_of_bits m (map (bit row) (below o))) long
    ∙ ap (row_of_bits (words o)) (map_same (bit row) (λ j. member j l) (below o) bits)
