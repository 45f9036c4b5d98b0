-- The walk over a list, from its last edge back: what is met and flipped so far, and where it stops.
use Prim.Native.Nat.{ℕ, ◌≤◌, ◌<◌}
use mathlib.Core.Path.{◌≡◌, refl, sym, ap, ◌∙◌}
use mathlib.Core.List.{List, [], ◌∷◌, ◌++◌, append_assoc, append-nil}
use mathlib.Core.Bool.{true, false, not, and-false}
use lib.Dec.{ltb}
use lib.ListN.{length, get_or}
use lib.Seq.{length-take-le}
use borrow.Author.Tests.{le-ltb, lt-ltb}
use Rattle.lists.specs.Lists.{member}
use Rattle.bits.specs.Rows.{bit, set_bit}
use Rattle.steps.specs.Graph.{Graph, boundary, inner, outer}
use Rattle.steps.specs.Marker.{fit}
use Rattle.steps.specs.Call.{graph_of}
use Rattle.lent_graph.proofs.Accepts.{entry}
use Rattle.found.proofs.Fits.{fit_known}
use Rattle.marking.specs.Passes.{ends_graph, met_after, flip_ends, wrong_after, Unmet}
use Rattle.marking.proofs.Flips.{bit_met}

-- ---- ends in the tables

module _ (d n : ℕ) (u v : List ℕ) where
  pub counted : n ≤ length u → length (ends_graph d n u v).edge_u ≡ n
  unfolding graph_of
  counted k = length-take-le n u k

  pub near_end : n ≤ length u → (e : ℕ) → e < n → inner (ends_graph d n u v) e ≡ get_or u e 0
  unfolding graph_of
  near_end k e h = entry u n e boundary 0 k h

  pub far_end : n ≤ length v → (e : ℕ) → e < n → outer (ends_graph d n u v) e ≡ get_or v e 0
  unfolding graph_of
  far_end k e h = entry v n e boundary 0 k h

-- ---- from the last edge back

-- a list with an unfit end is unfit
fit_end : (g : Graph) (front end : List ℕ) → fit g end ≡ false → fit g (front ++ end) ≡ false
unfolding fit
fit_end g [] end h = h
fit_end g (e ∷ front) end h = rw (fit_end g front end h, and-false (not (member e (front ++ end)))) (and-false (ltb e (length g.edge_u)))

module _ (d n : ℕ) (u v list marks₀ wrong₀ : List ℕ) where
  abbrev g : Graph
  g = ends_graph d n u v

  -- of the edges behind those that are left
  pub record Meeting (marks wrong left : List ℕ) : Type 0 where
    pub done : List ℕ
    pub split : left ++ done ≡ list
    pub fits : fit g done ≡ true
    pub met : marks ≡ met_after marks₀ done
    pub flips : wrong ≡ wrong_after g wrong₀ done

  pub start : Meeting marks₀ wrong₀ list
  unfolding fit met_after wrong_after
  start = record { done = []; split = append-nil list; fits = refl; met = refl; flips = refl }

  module _ (r : Unmet n u v marks₀ wrong₀) where
    size : length g.edge_u ≡ n
    size = counted d n u v r.u_long

    module _ (marks wrong left rest : List ℕ) (e : ℕ) (m : Meeting marks wrong left) (last : left ≡ rest ++ (e ∷ [])) where
      whole : rest ++ (e ∷ m.done) ≡ list
      whole = sym (append_assoc rest (e ∷ []) m.done) ∙ ap (λ (l : List ℕ). l ++ m.done) (sym last) ∙ m.split

      unfit_end : fit g (e ∷ m.done) ≡ false → fit g list ≡ false
      unfit_end h = ap (fit g) (sym whole) ∙ fit_end g rest (e ∷ m.done) h

      marked : bit marks e ≡ member e m.done
      marked = ap (λ (row : List ℕ). bit row e) m.met ∙ bit_met marks₀ m.done r.clear (λ c k. r.place c (rw size at (fit_known g m.done m.fits c k))) e

      -- an unknown edge
      pub unknown : n ≤ e → fit g list ≡ false
      unfolding fit
      unknown h = unfit_end (rw (size, le-ltb e n h))

      -- an edge that was met
      pub repeated : bit marks e ≡ true → fit g list ≡ false
      unfolding fit
      repeated t = unfit_end (rw (sym marked ∙ t) (and-false (ltb e (length g.edge_u))))

      -- a known edge that is new
      pub turn : (marks' wrong' : List ℕ) → e < n → bit marks e ≡ false → marks' ≡ set_bit marks e → wrong' ≡ flip_ends wrong (get_or u e 0) (get_or v e 0) → Meeting marks' wrong' rest
      unfolding fit met_after wrong_after
      turn marks' wrong' h f p q = record {
        done = e ∷ m.done;
        split = whole;
        fits = rw (size, lt-ltb e n h, sym marked ∙ f) m.fits;
        met = rw (p, m.met);
        flips = rw (q, m.flips, near_end d n u v r.u_long e h, far_end d n u v r.v_long e h);
      }
