-- What peeling leaves is what cleaning asks.
use Prim.Native.Nat.{ℕ, ◌<◌}
use mathlib.Core.Path.{◌≡◌, sym, ap, ◌∙◌}
use mathlib.Core.List.{List}
use mathlib.Core.Bool.{Bool, false}
use lib.ListN.{length, get_or, length-replicate, get_or-replicate}
use lib.Ieee.{Float}
use Rattle.forest.specs.Forest.{Down, labels}
use Rattle.forest.proofs.Forest.{labels_named, label_root}
use Rattle.peeling.specs.Tables.{Same}
use Rattle.finish.specs.Finish.{Finished}
use Rattle.growth_state.specs.Rep.{Used}
use Rattle.rest.specs.Clean.{Clean}

module _ {d : ℕ} {u v : List ℕ} {sat lit : List Bool} {parent : List ℕ} {w : ℕ} {obs row list : List ℕ} {r : ℕ} {free' lit' : List Bool} {row' list' parent' : List ℕ}
    (k : Finished d u v sat (labels d parent) lit w obs row list r free' lit' row' list') (t : Down d parent) (p : Same d parent parent') where
  -- a vertex that is its own parent stays so: it is its own label
  stays : (x : ℕ) → x < d → get_or parent x 0 ≡ x → get_or parent' x 0 ≡ x
  stays x h q =
      let own : get_or (labels d parent') x 0 ≡ x = ap (λ (l : List ℕ). get_or l x 0) p.kept ∙ (labels_named t).root x h q in
      ap (λ y. get_or parent' y 0) (sym own) ∙ label_root p.down x h ∙ own

  pub used : {xs : List ℕ} {free : List Bool} {growth : List Float} {known odd : List Bool} {exit : List ℕ} {hot : List Bool} → Used d u v xs lit growth sat known parent odd exit hot free → length free' ≡ length free
      → Used d u v xs lit' growth sat known parent' odd exit hot free'
  used m z = record {
    lits = ap length k.dark ∙ length-replicate d false;
    growths = m.growths;
    sats = m.sats;
    knowns = m.knowns;
    parents = p.size ∙ m.parents;
    odds = m.odds;
    exits = m.exits;
    hots = m.hots;
    frees = z ∙ m.frees;
    lit_rest = λ x h n. ap (λ (l : List Bool). get_or l x false) k.dark ∙ get_or-replicate d x false false h;
    known_rest = m.known_rest;
    parent_rest = λ x h n. stays x h (m.parent_rest x h n);
    odd_rest = m.odd_rest;
    exit_rest = m.exit_rest;
    hot_rest = m.hot_rest;
    free_rest = λ x h n. k.clean x h;
    growth_rest = m.growth_rest;
    sat_rest = m.sat_rest;
  }

  -- tables at rest have nothing lit and nothing met
  pub ended : {E : ℕ} {lit'' free'' : List Bool} {growth : List Float} {sat' known : List Bool} {parent'' : List ℕ} {odd : List Bool} {exit : List ℕ} {hot : List Bool}
      → Clean d E lit'' growth sat' known parent'' odd exit hot free''
      → Finished d u v sat (labels d parent) lit w obs row list r free'' lit'' row' list'
  ended c = record {
    list = k.list;
    many = k.many;
    few = k.few;
    flips = k.flips;
    dark = c.lits;
    clean = λ y h. ap (λ (l : List Bool). get_or l y false) c.frees ∙ get_or-replicate d y false false h;
  }
