-- What the listed edges leave in a row is the row by exclusive or with the list's, as `steps` has it. Assumes nothing.
use Prim.Native.Nat.{ℕ, ◌*◌, ◌≤◌, ◌<◌}
use native.Mathlib.Omega.{arith}
use native.Mathlib.Nat.{mul-le-mul_right}
use mathlib.Core.Path.{◌≡◌, refl, sym, ap, ◌∙◌}
use mathlib.Core.List.{List, [], ◌∷◌}
use lib.Dec.{eqb}
use lib.ListN.{length, take, drop, length-take}
use lib.Ieee.{Float}
use Rattle.lists.specs.Lists.{member}
use Rattle.steps.specs.Graph.{Graph}
use Rattle.bits.specs.Rows.{words, xor_row}
use Rattle.steps.specs.Rows.{zeros, row_of}
use Rattle.steps.specs.Shot.{row_after}
use Rattle.steps.specs.Call.{graph_of}
use Rattle.steps.specs.Found.{Known}
use Rattle.lists.proofs.Truth.{same_eqb, or_intro}
use Rattle.lists.proofs.Members.{get_d_below}
use Rattle.found.proofs.Xors.{length_row}
use Rattle.bits.proofs.Rows.{length_xor, xor_row_regroup, xor_row_comm, xor_row_zero}
use Rattle.finish.specs.Flips.{words_of, flip_all, Flat}
use Rattle.finish.proofs.Observables.{words_wide}

module _ (g : Graph) (w : ℕ) (obs : List ℕ) (f : Flat g w obs) where
  pub flips_row : (row es : List ℕ) → w ≤ length row → Known g es → flip_all w obs row es ≡ xor_row row (row_of g es)
  unfolding flip_all row_of zeros member
  flips_row row [] z k = sym (xor_row_zero row (words g.observables))
  flips_row row (e ∷ es) z k =
      let h : e < length g.edge_u = k e (rw (same_eqb e)) in
      let ws = words_of w obs e in
      let wide : length ws ≡ w = words_wide (length g.edge_u) w e obs f.table h in
      let rest : length ws ≡ length (row_of g es) = wide ∙ f.wide ∙ sym (length_row g es) in
      flips_row (xor_row row ws) es (omega (arith, length_xor row ws)) (λ a m. k a (or_intro (eqb a e) (member a es) m))
      ∙ xor_row_regroup row ws (row_of g es) rest
      ∙ ap (xor_row row) (xor_row_comm ws (row_of g es) rest ∙ ap (xor_row (row_of g es)) (sym (f.each e h)))

  -- the same, as the shot has it
  pub flips_after : (row es : List ℕ) → w ≤ length row → Known g es → flip_all w obs row es ≡ row_after g row es
  unfolding row_after
  flips_after row es z k = flips_row row es z k

-- the words of lent tables are those of their graph
pub lent_flat : (d o n : ℕ) (u v : List ℕ) (weight : List Float) (obs : List ℕ) → n * words o ≤ length obs → Flat (graph_of d o n u v weight obs) (words o) obs
unfolding graph_of
lent_flat d o n u v weight obs h =
    let few : length (take n u) ≤ n = omega (arith, length-take n u) in
    record {
      wide = refl;
      table = omega (arith, mul-le-mul_right (words o) few);
      each = λ e k. get_d_below (λ i. take (words o) (drop (i * words o) obs)) [] n e (omega arith);
    }
