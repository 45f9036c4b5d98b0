-- A bit of the rows that the passes leave: an edge is met if it is listed, a detector is wrong if its bit and the flips differ.
use Prim.Native.Nat.{ℕ, ◌/◌, ◌≤◌, ◌<◌}
use native.Mathlib.Omega.{arith}
use mathlib.Core.Path.{◌≡◌, refl, sym, ap, ◌∙◌}
use mathlib.Core.List.{List, [], ◌∷◌}
use mathlib.Core.Bool.{Bool, true, false, not, ◌&&◌, ◌||◌, xor, or-false, or_comm}
use lib.Dec.{eqb}
use lib.ListN.{length, length-set}
use borrow.Author.Tests.{eqb-true, eqb-false, ne_eqb}
use Rattle.lists.specs.Lists.{odd, member}
use Rattle.lists.proofs.Truth.{case-of, eqb_comm, or_xor, or_intro, same_eqb, xor_false, xor_assoc, xor_comm}
use Rattle.lists.proofs.Sums.{odd_no}
use Rattle.bits.specs.Rows.{bit, is_clear, set_bit, flip_bit}
use Rattle.bits.proofs.Rows.{bit_set, bit_flip, clear_bits, bits_clear}
use Rattle.steps.specs.Graph.{Graph, Ends, boundary, inner, outer, is_pair, ends, flipped}
use Rattle.steps.specs.Found.{Known}
use Rattle.marking.specs.Passes.{met_after, flip_ends, wrong_after}

-- ---- the edges met

pub length_met : (row es : List ℕ) → length (met_after row es) ≡ length row
unfolding met_after set_bit
length_met row [] = refl
length_met row (e ∷ es) = simp length-set (length_met row es)

-- of a clear row with a place for each edge
pub bit_met : (row es : List ℕ) → ((e : ℕ) → bit row e ≡ false) → ((e : ℕ) → member e es ≡ true → e / 64 < length row) → (k : ℕ) → bit (met_after row es) k ≡ member k es
unfolding met_after member
bit_met row [] z p k = z k
bit_met row (e ∷ es) z p k =
    bit_set (met_after row es) e k (rw (length_met row es) (p e (rw (same_eqb e))))
    ∙ ap (λ (b : Bool). b || eqb k e) (bit_met row es z (λ c m. p c (or_intro (eqb c e) (member c es) m)) k)
    ∙ or_comm (member k es) (eqb k e)

-- ---- the ends of an edge

length_flip : (row : List ℕ) (d : ℕ) → length (flip_bit row d) ≡ length row
unfolding flip_bit
length_flip row d = simp length-set

pub length_ends : (row : List ℕ) (u v : ℕ) → length (flip_ends row u v) ≡ length row
unfolding flip_ends
length_ends row u v = case-of (eqb v boundary) (λ t. rw t (omega (arith, length_flip row u))) (λ f. rw f (omega (arith, length_flip (flip_bit row u) v, length_flip row u)))

bit_ends : (row : List ℕ) (u v k : ℕ) → u / 64 < length row → ((v ≡ boundary → ⊥) → (v / 64 < length row) × (u < v))
    → bit (flip_ends row u v) k ≡ xor (bit row k) (eqb u k || (not (eqb v boundary) && eqb v k))
unfolding flip_ends
bit_ends row u v k h p = case-of (eqb v boundary)
    (λ t. rw t (bit_flip row u k h ∙ ap (xor (bit row k)) (eqb_comm k u ∙ sym (or-false (eqb u k)))))
    (λ f. let (l, m) = p (eqb-false v boundary f) in
    rw f (bit_flip (flip_bit row u) v k (rw (length_flip row u) l) ∙ ap (λ (b : Bool). xor b (eqb k v)) (bit_flip row u k h)
    ∙ xor_assoc (bit row k) (eqb k u) (eqb k v)
    ∙ ap (xor (bit row k)) (rw (eqb_comm k u, eqb_comm k v) (sym (or_xor (eqb u k) (eqb v k) (λ t. ne_eqb v k (λ q. let z = eqb-true u k t in omega arith)))))))

-- ---- the wrong detectors

pub length_wrong : (g : Graph) (row es : List ℕ) → length (wrong_after g row es) ≡ length row
unfolding wrong_after
length_wrong g row [] = refl
length_wrong g row (e ∷ es) = length_ends (wrong_after g row es) (inner g e) (outer g e) ∙ length_wrong g row es

module _ (g : Graph) (ok : Ends g) (row : List ℕ) (room : (d : ℕ) → d < g.detectors → d / 64 < length row) where
  pub bit_wrong : (es : List ℕ) → Known g es → (k : ℕ) → bit (wrong_after g row es) k ≡ xor (bit row k) (flipped g es k)
  unfolding wrong_after odd member
  bit_wrong [] known k = sym (xor_false (bit row k))
  bit_wrong (e ∷ es) known k =
      let here : e < length g.edge_u = known e (rw (same_eqb e)) in
      let wide = length_wrong g row es in
      let far : (outer g e ≡ boundary → ⊥) → (outer g e / 64 < length (wrong_after g row es)) × (inner g e < outer g e)
      = λ f. let (a, b) = ok.paired e here (rw (ne_eqb (outer g e) boundary f)) in (rw wide (room (outer g e) b), a) in
      bit_ends (wrong_after g row es) (inner g e) (outer g e) k (rw wide (room (inner g e) (ok.inside e here))) far
      ∙ ap (λ (b : Bool). xor b (ends g e k)) (bit_wrong es (λ c m. known c (or_intro (eqb c e) (member c es) m)) k)
      ∙ xor_assoc (bit row k) (flipped g es k) (ends g e k) ∙ ap (xor (bit row k)) (xor_comm (flipped g es k) (ends g e k))

  -- no edge ends past the detectors
  none_past : (es : List ℕ) → Known g es → (k : ℕ) → g.detectors ≤ k → flipped g es k ≡ false
  none_past es known k h = odd_no (λ e. ends g e k) es (λ e m.
      let here = known e m in
      let near : eqb (inner g e) k ≡ false = ne_eqb (inner g e) k (λ q. absurd (let i = ok.inside e here in omega arith)) in
      rw near (case-of (is_pair g e) (λ t. rw (t, ne_eqb (outer g e) k (λ q. absurd (let i = ok.paired e here t in omega arith)))) (λ f. rw f)))

  -- so a clear padding stays clear
  pub clear_wrong : (es : List ℕ) → Known g es → is_clear g.detectors row ≡ true → is_clear g.detectors (wrong_after g row es) ≡ true
  clear_wrong es known c = bits_clear g.detectors (wrong_after g row es) (λ k h.
      bit_wrong es known k ∙ rw (clear_bits g.detectors row c k h, none_past es known k h) (xor_false false))
