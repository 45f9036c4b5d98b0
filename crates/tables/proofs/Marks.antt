-- Laws of marks: lit by a list of what is lit, and cleared by a list of what may be marked. Assumes nothing.
use Prim.Native.Nat.{ℕ, ◌+◌, ◌<◌}
use native.Mathlib.Omega.{arith}
use native.Mathlib.Numerals.{add-one}
use mathlib.Core.Path.{◌≡◌, refl, sym, ap, ◌∙◌}
use mathlib.Core.List.{List, [], ◌∷◌, map}
use mathlib.Core.Bool.{Bool, true, false, cond, ◌&&◌, ◌||◌, or-false, and-true}
use lib.Dec.{eqb}
use lib.ListN.{length, get_or, set, take, length-set, length-map, length-take}
use lib.Seq.{get_or-set_same, get_or-set_other, take-suc, ext_get_or}
use borrow.Author.Tests.{eqb-true, eqb-false}
use Rattle.std.proofs.lemmas.List.{get_or_default}
use Rattle.lists.specs.Lists.{below, filter, member}
use Rattle.lists.proofs.Truth.{case-of, or_intro}
use Rattle.lists.proofs.Members.{member_append, member_filter, below_member}
use Rattle.columns.proofs.Columns.{first_at}
use Rattle.tables.specs.Marks.{Places, Painted}

-- the entry that is read: it is in the list, so any default serves
pub entry_read : {A : Type 0} (f : A → ℕ) (s : List A) (n i : ℕ) (z : A) → i < length (take n s) → f (get_or (take n s) i z) ≡ get_or (map f s) i 0
entry_read f s n i z h = first_at s n i h f z ∙ get_or_default (map f s) i (f z) 0 (omega (arith, length-map s f, length-take n s))

-- the places before i are written
pub record Painting (list : List ℕ) (n : ℕ) (b : Bool) (t₀ : List Bool) (i : ℕ) (t : List Bool) : Type 0 where
  pub done : (y : ℕ) → y < length t₀ → get_or t y false ≡ cond (member y (take i list)) b (get_or t₀ y false)
  pub size : length t ≡ length t₀

pub start_paint : (list : List ℕ) (n : ℕ) (b : Bool) (t₀ : List Bool) → Painting list n b t₀ 0 t₀
unfolding member
start_paint list n b t₀ = record { done = λ y l. refl; size = refl }

module _ {list : List ℕ} {n : ℕ} {b : Bool} {t₀ : List Bool} (p : Places list n t₀) {i : ℕ} {t : List Bool} (k : Painting list n b t₀ i t) where
  module _ (h : i < n) where
    -- the place
    abbrev x : ℕ
    x = get_or list i 0

    pub place_in : x < length t
    place_in = omega (arith, p.inside i h, k.size)

    more : (y : ℕ) → member y (take (i + 1) list) ≡ (member y (take i list) || eqb y x)
    unfolding member
    more y = ap (member y) (ap (λ j. take j list) (add-one i) ∙ take-suc list i 0 (omega (arith, p.few)))
        ∙ member_append y (take i list) (x ∷ [])
        ∙ ap (λ c. member y (take i list) || c) (or-false (eqb y x))

    pub turn_paint : Painting list n b t₀ (i + 1) (set t x b)
    turn_paint = record {
      done = λ y l. case-of (eqb y x)
          (λ e. let q = eqb-true y x e in
          let w : get_or (set t x b) y false ≡ b = rw q (get_or-set_same t x b false place_in) in
          w ∙ sym (ap (λ c. cond c b (get_or t₀ y false)) (more y ∙ or_intro (member y (take i list)) (eqb y x) e)))
          (λ f. get_or-set_other t x y b false (eqb-false y x f) ∙ k.done y l
          ∙ sym (ap (λ c. cond c b (get_or t₀ y false)) (more y ∙ ap (λ c. member y (take i list) || c) f ∙ or-false (member y (take i list)))));
      size = length-set t x b ∙ k.size;
    }

-- ---- the shot

-- a dark table, lit by the list of the shot's lit detectors, is the shot
pub shot_lit : (d n : ℕ) (list : List ℕ) (shot t t' : List Bool) → length shot ≡ d → length t ≡ d → length t' ≡ length t → ((y : ℕ) → y < d → get_or t y false ≡ false)
    → take n list ≡ filter (λ x. get_or shot x false) (below d) → Painted list n true t t' → t' ≡ shot
shot_lit d n list shot t t' z w r dark q k = ext_get_or false t' shot (r ∙ w ∙ sym z) (λ y l.
    let h : y < d = omega arith in
    k y (omega arith)
    ∙ ap (λ m. cond (member y m) true (get_or t y false)) q
    ∙ ap (λ c. cond c true (get_or t y false)) (member_filter (λ x. get_or shot x false) y (below d) ∙ ap (λ c. get_or shot y false && c) (below_member y d h) ∙ and-true (get_or shot y false))
    ∙ ap (λ c. cond (get_or shot y false) true c) (dark y h)
    ∙ same (get_or shot y false))
  where
    same : (c : Bool) → cond c true false ≡ c
    same true = refl
    same false = refl

-- a table whose marks are all in the list is cleared by it
pub cleared : (d n : ℕ) (list : List ℕ) (t t' : List Bool) → length t ≡ d → ((y : ℕ) → y < d → get_or t y false ≡ true → member y (take n list) ≡ true)
    → Painted list n false t t' → (y : ℕ) → y < d → get_or t' y false ≡ false
cleared d n list t t' z h k y l = k y (omega arith) ∙ case-of (get_or t y false)
    (λ m. ap (λ c. cond c false (get_or t y false)) (h y l m))
    (λ f. ap (λ c. cond (member y (take n list)) false c) f ∙ none (member y (take n list)))
  where
    none : (c : Bool) → cond c false false ≡ false
    none true = refl
    none false = refl
