-- A shot that has no lit detector. Assumes nothing.
use Prim.Native.Nat.{ℕ, suc}
use native.Mathlib.Omega.{arith}
use mathlib.Core.Path.{◌≡◌, refl, ap, ◌∙◌}
use mathlib.Core.List.{List, [], ◌∷◌, map}
use mathlib.Core.Bool.{Bool, false}
use lib.ListN.{length, get_or}
use Rattle.lists.specs.Lists.{below, filter, firsts}
use Rattle.bits.specs.Rows.{words, set_bits, bit}
use Rattle.bits.proofs.Rows.{xor_row_zero}
use Rattle.bits.proofs.Booleans.{bits_at}
use Rattle.lists.proofs.Members.{member_below}
use Rattle.lists.proofs.Filters.{filter_in}
use Rattle.steps.specs.Graph.{Graph, edges}
use Rattle.steps.specs.Rows.{row_of, zeros}
use Rattle.steps.specs.Growth.{start, turn_of, turn, grow, growth}
use Rattle.steps.specs.Peeling.{peeled, peel_all, clusters}
use Rattle.steps.specs.Call.{lit_of}
use Rattle.steps.specs.Shot.{corrected, answer, decode, row_after, row_left}

pub blank_row : (g : Graph) (row : List ℕ) → row_left g row (corrected 0 []) ≡ row
unfolding row_left row_after row_of zeros
blank_row g row = xor_row_zero row (words g.observables)

blank_list : (g : Graph) (sat : List Bool) (ls : List ℕ) (lit : List Bool) → filter (λ x. get_or lit x false) (below g.detectors) ≡ [] → peeled g sat ls lit ≡ []
unfolding peeled peel_all clusters firsts
blank_list g sat ls lit q = ap (λ (l : List ℕ). (peel_all g sat ls (record { lit = lit; list = [] }) (firsts (map (λ d. get_or ls d d) l))).list) q

blank_lit : (g : Graph) (lit : List Bool) → filter (λ x. get_or lit x false) (below g.detectors) ≡ [] → decode g lit ≡ corrected 0 []
unfolding decode growth grow turn turn_of start answer
blank_lit g lit q = rw q (ap (corrected 0) (blank_list g (map (λ e. false) (edges g)) (below g.detectors) lit q))

-- where none is listed, the answer is no round and the empty list
pub blank : (g : Graph) (shot : List ℕ) → 0 ≡ length (set_bits g.detectors shot) → decode g (lit_of g.detectors shot) ≡ corrected 0 []
unfolding set_bits
blank g shot z = blank_lit g (lit_of g.detectors shot)
    (filter_in (λ x. get_or (lit_of g.detectors shot) x false) (bit shot) (below g.detectors) (λ x m. bits_at g.detectors shot x (member_below x g.detectors m)) ∙ empty (set_bits g.detectors shot) z)
  where
    empty : (l : List ℕ) → 0 ≡ length l → l ≡ []
    empty [] h = refl
    empty (x ∷ l) h = absurd (let k : 0 ≡ suc (length l) = h in omega arith)
