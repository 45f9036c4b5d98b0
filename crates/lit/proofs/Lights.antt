-- One more lit detector. Assumes nothing.
use Prim.Native.Nat.{ℕ, ◌+◌, ◌<◌}
use mathlib.Core.Path.{◌≡◌, refl, sym, ap, ◌∙◌}
use mathlib.Core.List.{List, [], ◌∷◌, ◌++◌}
use mathlib.Core.Bool.{Bool, true, false, cond, ◌||◌}
use lib.Dec.{eqb}
use lib.ListN.{length, get_or, set, take}
use Rattle.lists.specs.Lists.{member}
use Rattle.columns.proofs.Columns.{map_set, keep_then, keep_more}
use Rattle.cells.specs.declared.Flags.{Flags}
use Rattle.cells.specs.declared.Stack.{Stack}
use Rattle.cells.proofs.Stores.{no_flags, no_stack, kept_lit, kept_odd, kept_known, kept_hot, kept_active, kept_seen}
use Rattle.lit.specs.Lit.{Lighted, Pushed}
use Rattle.growth_state.proofs.Laws.{set_bool, member_snoc, take_next, put_next}

pub light_next : (lits : List ℕ) (i : ℕ) → i < length lits → (t t₀ : List Bool) → get_or lits i 0 < length t
    → ((x : ℕ) → get_or t x false ≡ (get_or t₀ x false || member x (take i lits)))
    → (x : ℕ) → get_or (set t (get_or lits i 0) true) x false ≡ (get_or t₀ x false || member x (take (i + 1) lits))
light_next lits i hi t t₀ h inv x =
    set_bool t (get_or lits i 0) true x h ∙ ap (λ b. cond (eqb x (get_or lits i 0)) true b) (inv x)
    ∙ swap (eqb x (get_or lits i 0)) (get_or t₀ x false) (member x (take i lits))
    ∙ ap (λ b. get_or t₀ x false || b) (sym (ap (member x) (take_next lits i 0 hi) ∙ member_snoc x (get_or lits i 0) (take i lits)))
  where
    swap : (e a m : Bool) → cond e true (a || m) ≡ (a || (m || e))
    swap true true m = refl
    swap true false true = refl
    swap true false false = refl
    swap false true m = refl
    swap false false true = refl
    swap false false false = refl

pub light_start : (b : Bool) → b ≡ (b || false)
light_start true = refl
light_start false = refl

pub list_next : (lits : List ℕ) (i : ℕ) → i < length lits → (t : List ℕ) → i < length t → take i t ≡ take i lits → take (i + 1) (set t i (get_or lits i 0)) ≡ take (i + 1) lits
list_next lits i hi t ht q = put_next t i (get_or lits i 0) ht ∙ ap (λ (l : List ℕ). l ++ (get_or lits i 0 ∷ [])) q ∙ sym (take_next lits i 0 hi)

-- ---- its rows

module _ (f : List Flags) (k : ℕ) where
  -- its marks, one after another
  abbrev f₁ : List Flags
  f₁ = set f k (record (get_or f k no_flags) { lit = true })

  abbrev f₂ : List Flags
  f₂ = set f₁ k (record (get_or f₁ k no_flags) { odd = true })

  abbrev f₃ : List Flags
  f₃ = set f₂ k (record (get_or f₂ k no_flags) { known = true })

  abbrev pub lit_row : List Flags
  lit_row = set f₃ k (record (get_or f₃ k no_flags) { hot = true })

  pub lighted : Lighted f k lit_row
  lighted =
      let marks : List ℕ = 0 ∷ 1 ∷ 2 ∷ 3 ∷ [] in
      let a = kept_lit f k true no_flags in
      let b = kept_odd f₁ k true no_flags in
      let c = kept_known f₂ k true no_flags in
      let d = kept_hot f₃ k true no_flags in
      record {
        lit_is = d.rest 0 refl ∙ c.rest 0 refl ∙ b.rest 0 refl ∙ map_set _ f k _;
        odd_is = d.rest 2 refl ∙ c.rest 2 refl ∙ map_set _ f₁ k _ ∙ ap (λ (t : List Bool). set t k true) (a.rest 2 refl);
        known_is = d.rest 1 refl ∙ map_set _ f₂ k _ ∙ ap (λ (t : List Bool). set t k true) (b.rest 1 refl ∙ a.rest 1 refl);
        hot_is = map_set _ f₃ k _ ∙ ap (λ (t : List Bool). set t k true) (c.rest 3 refl ∙ b.rest 3 refl ∙ a.rest 3 refl);
        kept = keep_then (keep_more marks refl a) (keep_then (keep_more marks refl b) (keep_then (keep_more marks refl c) (keep_more marks refl d)));
      }

pub pushed : (s : List Stack) (i x : ℕ) → let s₁ = set s i (record (get_or s i no_stack) { active = x }) in Pushed s i x (set s₁ i (record (get_or s₁ i no_stack) { seen = x }))
pushed s i x =
    let s₁ = set s i (record (get_or s i no_stack) { active = x }) in
    let a = kept_active s i x no_stack in
    let b = kept_seen s₁ i x no_stack in
    record {
      active_is = b.rest 2 refl ∙ map_set _ s i _;
      seen_is = map_set _ s₁ i _ ∙ ap (λ (t : List ℕ). set t i x) (a.rest 1 refl);
      kept = keep_then (keep_more (1 ∷ 2 ∷ []) refl a) (keep_more (1 ∷ 2 ∷ []) refl b);
    }
