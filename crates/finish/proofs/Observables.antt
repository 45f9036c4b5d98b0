-- The words of listed edges, by exclusive or into a row. Assumes nothing.
use Prim.Native.Nat.{ℕ, suc, ◌+◌, ◌-◌, ◌*◌, ◌≤◌, ◌<◌}
use native.Mathlib.Omega.{arith}
use native.Mathlib.Numerals.{add-one}
use native.Mathlib.Nat.{suc-mul, mul-le-mul_right}
use mathlib.Core.Path.{◌≡◌, refl, sym, ap, ◌∙◌}
use mathlib.Core.List.{List, [], ◌∷◌, ◌++◌}
use lib.ListN.{length, get_or, take, drop, length-take, length-drop}
use lib.Seq.{take-suc}
use Rattle.bits.specs.Rows.{xor_row}
use Rattle.finish.specs.Flips.{words_of, flip_all, Edges}

-- the words of an edge lie in the table
pub words_in : (m w e : ℕ) (obs : List ℕ) → m * w ≤ length obs → e < m → e * w + w ≤ length obs
words_in m w e obs t h = let a : suc e * w ≡ e * w + w = suc-mul e w in omega (arith, mul-le-mul_right w h)

pub words_wide : (m w e : ℕ) (obs : List ℕ) → m * w ≤ length obs → e < m → length (words_of w obs e) ≡ w
words_wide m w e obs t h = simp (length-take, length-drop) (omega (arith, words_in m w e obs t h))

flip_append : (w : ℕ) (obs row es : List ℕ) (e : ℕ) → flip_all w obs row (es ++ (e ∷ [])) ≡ xor_row (flip_all w obs row es) (words_of w obs e)
unfolding flip_all
flip_append w obs row [] e = refl
flip_append w obs row (a ∷ es) e = flip_append w obs (xor_row row (words_of w obs a)) es e

-- the edges before i are done
pub record Flipping (m w : ℕ) (obs row₀ list : List ℕ) (n i : ℕ) (row : List ℕ) : Type 0 where
  pub is : row ≡ flip_all w obs row₀ (take i list)
  pub size : length row ≡ length row₀
  pub to : i ≤ n

module _ {m w : ℕ} {obs row₀ list : List ℕ} {n : ℕ} (t : Edges m w obs row₀ list n) where
  pub start_flip : Flipping m w obs row₀ list n 0 row₀
  unfolding flip_all
  start_flip = record { is = refl; size = refl; to = omega arith }

  module _ {i : ℕ} {row : List ℕ} (k : Flipping m w obs row₀ list n i row) where
    module _ (h : i < n) where
      -- the edge
      abbrev e : ℕ
      e = get_or list i 0

      pub wide : length (words_of w obs e) ≡ w
      wide = words_wide m w e obs t.table (t.known i h)

      -- the part that is lent
      pub lent : take (e * w + w - e * w) (drop (e * w) obs) ≡ words_of w obs e
      lent = let q : e * w + w - e * w ≡ w = omega arith in rw q

      pub turn_flip : {row' : List ℕ} → row' ≡ xor_row row (take (e * w + w - e * w) (drop (e * w) obs)) → length row' ≡ length row → Flipping m w obs row₀ list n (i + 1) row'
      turn_flip q l = record {
        is = q ∙ ap (xor_row row) lent ∙ ap (λ r. xor_row r (words_of w obs e)) k.is ∙ sym (flip_append w obs row₀ (take i list) e)
            ∙ ap (flip_all w obs row₀) (sym (take-suc list i 0 (omega (arith, t.few))) ∙ ap (λ j. take j list) (sym (add-one i)));
        size = l ∙ k.size;
        to = omega arith;
      }
