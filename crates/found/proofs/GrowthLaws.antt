-- The laws of growth, proved of the steps.
use Prim.Native.Nat.{ℕ, zero, suc, ◌≤◌}
use native.Mathlib.Omega.{arith}
use mathlib.Core.Path.{◌≡◌, sym, ap, ◌∙◌}
use mathlib.Core.List.{List, map}
use mathlib.Core.Bool.{Bool, true, false}
use mathlib.Core.Logic.{◌↔◌}
use lib.Dec.{eqb, leb}
use lib.ListN.{length, get_or}
use borrow.Author.Tests.{eqb-true, eq-eqb, leb-true, leb-false}
use Rattle.lists.specs.Lists.{below, any, member, firsts}
use Rattle.steps.specs.Graph.{Graph, Ends, inner, edges}
use Rattle.steps.specs.Growth.{State, is_odd, exits, is_active, label_of, start, next, after}
use Rattle.steps.specs.Laws.{Linked, Clustered, Exit, Ordered, Grows, Laws}
use Rattle.lists.proofs.Truth.{case-of, clash, not_so, same_eqb}
use Rattle.lists.proofs.Members.{below_member, member_below, any_some, any_none}
use Rattle.lists.proofs.Singles.{Single, single_filter, single_firsts, single_below, single_places}
use Rattle.found.proofs.Rounds.{Kept, live_of, of_live}
use Rattle.found.proofs.Kept.{kept}
use Rattle.found.proofs.Outcome.{grows, never_short}
use Rattle.found.proofs.Clusters.{exit_is}
use Rattle.found.proofs.Walks.{walked_out}
use Rattle.found.proofs.Least.{chosen}

module _ (g : Graph) (ok : Ends g) (lit : List Bool) where
  lasts : (k n e : ℕ) → k ≤ n → get_or (after g lit k).saturated e false ≡ true → get_or (after g lit n).saturated e false ≡ true
  lasts k zero e h t = let q : k ≡ 0 = omega arith in rw q at t
  lasts k (suc n) e h t = case-of (leb k n)
      (λ u. grows g lit ok n e (lasts k n e (leb-true k n u) t))
      (λ u. let q : k ≡ suc n = omega (arith, leb-false k n u) in rw q at t)

  module _ (s : State) (k : Kept g lit s.saturated s.label s.active) where
    -- joined detectors have the same label
    same : (c d : ℕ) → Linked g s.saturated c d → label_of g lit s c ≡ label_of g lit s d
    same c d j = eqb-true (label_of g lit s c) (label_of g lit s d) (j (λ x. eqb (label_of g lit s x) (label_of g lit s d)) (λ e h t p. rw (k.joins e h t p)) ∙ same_eqb (label_of g lit s d))

    clustered : Clustered g lit s
    clustered = record {
      low = k.labels.low;
      own = k.labels.root;
      linked = k.labels.linked;
      exactly = λ c d l m. (λ q f x. sym (k.labels.linked c l f x) ∙ ap f q ∙ k.labels.linked d m f x, λ j. same c d j);
      lowest = λ c d l m j. rw (← same c d j) (k.labels.low c l);
    }

    exit_of : (a e : ℕ) → member e (edges g) ≡ true → exits g lit s.saturated s.label a e ≡ true → Exit g lit s a e
    exit_of a e m t =
        let (x, y, z) = exit_is g lit s.saturated s.label a e t in
        record { known = member_below e (length g.edge_u) m; solid = x; single = y; at = z }

    -- active is odd and without an exit
    exactly : (a : ℕ) → (member a s.active ≡ true) ↔ ((is_odd g lit s.label a ≡ true) × ((e : ℕ) → Exit g lit s a e → ⊥))
    exactly a = (
      λ m. let (o, f) = of_live g ok lit s.saturated s.label a (sym (k.actives a) ∙ m) in (
        o,
        λ e x. clash (rw (x.solid, x.single, eq-eqb (label_of g lit s (inner g e)) a x.at))
            (any_none (exits g lit s.saturated s.label a) (edges g) f e (below_member e (length g.edge_u) x.known)),
      ),
      λ h. k.actives a ∙ live_of g ok lit s.saturated s.label a h.0 (not_so (any (exits g lit s.saturated s.label a) (edges g)) (λ t.
          let (e, m, u) = any_some (exits g lit s.saturated s.label a) (edges g) t in
          h.1 e (exit_of a e m u))),
    )

  -- no active cluster stands twice
  once : (n : ℕ) → Single (after g lit n).active
  unfolding after start next
  once zero = single_filter (λ d. get_or lit d false) (below g.detectors) (single_below g.detectors)
  once (suc n) =
      let s = after g lit n in
      let r = next g lit s in
      single_filter (is_active g lit r.saturated r.label) (firsts (map (λ a. get_or r.label a a) s.active)) (single_firsts (map (λ a. get_or r.label a a) s.active))

  ordered : (n : ℕ) → Ordered g lit (after g lit n)
  ordered n = record {
    told = (kept g ok lit n).actives;
    exactly = exactly (after g lit n) (kept g ok lit n);
    once = single_places (after g lit n).active (once n);
  }

  grown : Grows g lit
  grown = record {
    enough = never_short g lit ok;
    stays = grows g lit ok;
    lasts = lasts;
    clustered = λ n. clustered (after g lit n) (kept g ok lit n);
    ordered = ordered;
    chosen = λ n. chosen g lit (after g lit n);
  }

-- of every graph whose ends are in order: no limit and no fact about a weight is used
pub laws : (g : Graph) → Ends g → Laws g
laws g ok = record { grows = λ lit. grown g ok lit; walks = λ sat v l. walked_out g sat ok v l }
