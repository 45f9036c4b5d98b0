-- The tables of edges: an edge written over one of them, or past the last.
use Prim.Native.Nat.{ℕ, zero, suc, ◌+◌, ◌-◌, ◌*◌, ◌≤◌, ◌<◌}
use native.Mathlib.Omega.{arith}
use native.Mathlib.Nat.{suc-mul, zero-mul}
use mathlib.Core.Path.{◌≡◌, refl, sym, ap, ◌∙◌}
use mathlib.Core.List.{List, [], ◌∷◌, ◌++◌, map, append_assoc}
use lib.Ieee.{Float}
use lib.ListN.{length, get_or, take, drop, set, length-append, get_or-append, get_or-map}
use lib.Seq.{drop-nil, drop-drop, take-append-add, drop-append-add, drop-append_seam}
use borrow.Rule.Slice.PartMut.{put_mid}
use Rattle.bits.specs.Rows.{words}
use Rattle.bits.proofs.Booleans.{row_length}
use Rattle.weight.specs.Weight.{weight_of}
use Rattle.dem.specs.Tables.{written}
use Rattle.std.proofs.lemmas.List.{get_or_default, length-map}
use Rattle.edges.specs.Compile.{Edge, obs_row}
use Rattle.edges.specs.Tables.{Slices, slices, flat, put_row, filled}

pub same_slices : {u u' v v' : List ℕ} {w w' : List Float} {o o' : List ℕ} {p p' : List Float} → u ≡ u' → v ≡ v' → w ≡ w' → o ≡ o' → p ≡ p'
    → slices u v w o p ≡ slices u' v' w' o' p'
same_slices a b c d e = rw (a, b, c, d, e)

-- a row as the code lends it
pub put_is : (e w w' : ℕ) (obs row row' : List ℕ) → w ≡ w' → row ≡ row' → put_mid (e * w) (e * w + w - e * w) obs row ≡ put_row w' e obs row'
unfolding put_row
put_is e w w' obs row row' p q =
    let m : e * w + w - e * w ≡ w = omega arith in
    rw (m, drop-drop w (e * w) obs, q, p)

-- ---- an edge written at place k, or past the last

unfoldable pub put : Edge → ℕ → List Edge → List Edge
put new k [] = new ∷ []
put new zero (e ∷ es) = new ∷ es
put new (suc k) (e ∷ es) = e ∷ put new k es

module _ {A : Type 0} where
  cons_written : (x : A) (xs was : List A) → written (x ∷ xs) was ≡ x ∷ written xs (drop 1 was)
  cons_written x xs [] = rw (drop-nil {A = A} (length xs))
  cons_written x xs (y ∷ was) = refl

module _ {A : Type 0} (f : Edge → A) where
  pub column_put : (new : Edge) (es : List Edge) (k : ℕ) (was : List A) → k ≤ length es → k < length (written (map f es) was)
      → set (written (map f es) was) k (f new) ≡ written (map f (put new k es)) was
  unfolding put
  column_put new [] zero [] h l = absurd (omega arith)
  column_put new [] zero (x ∷ was) h l = refl
  column_put new [] (suc k) was h l = absurd (omega arith)
  column_put new (e ∷ es) zero was h l = refl
  column_put new (e ∷ es) (suc k) was h l =
      let q = ap length (cons_written (f e) (map f es) was) in
      ap (λ (r : List A). set r (suc k) (f new)) (cons_written (f e) (map f es) was)
      ∙ ap (λ (r : List A). f e ∷ r) (column_put new es k (drop 1 was) (omega arith) (omega arith))
      ∙ sym (cons_written (f e) (map f (put new k es)) was)

  pub column_at : (es : List Edge) (j : ℕ) (was : List A) (z : A) (d : Edge) → j < length es → get_or (written (map f es) was) j z ≡ f (get_or es j d)
  column_at es j was z d h =
      let m : j < length (map f es) = rw (length-map es f) h in
      get_or-append (map f es) (drop (length (map f es)) was) z j m ∙ get_or_default (map f es) j z (f d) m ∙ get_or-map f es j d

module _ (w : ℕ) (r : Edge → List ℕ) (long : (e : Edge) → length (r e) ≡ w) where
  -- the first row, then the others over what is past it
  flat_cons : (e : Edge) (es : List Edge) (was : List ℕ) → written (flat (map r (e ∷ es))) was ≡ r e ++ written (flat (map r es)) (drop w was)
  unfolding flat
  flat_cons e es was =
      let n : length (r e ++ flat (map r es)) ≡ w + length (flat (map r es)) = length-append (r e) (flat (map r es)) ∙ ap (λ (m : ℕ). m + length (flat (map r es))) (long e) in
      append_assoc (r e) (flat (map r es)) _ ∙ rw (n, drop-drop (length (flat (map r es))) w was)

  row_suc : (k : ℕ) (row rest new : List ℕ) → length row ≡ w → put_row w (suc k) (row ++ rest) new ≡ row ++ put_row w k rest new
  unfolding put_row
  row_suc k row rest new h =
      let a : suc k * w ≡ length row + k * w = (let s = suc-mul k w in omega arith) in
      let b : suc k * w + w ≡ length row + (k * w + w) = (let s = suc-mul k w in omega arith) in
      rw (b, a, take-append-add row rest (k * w), drop-append-add row rest (k * w + w)) (append_assoc row (take (k * w) rest) _)

  row_zero : (row rest new : List ℕ) → length row ≡ w → put_row w 0 (row ++ rest) new ≡ new ++ rest
  unfolding put_row
  row_zero row rest new h =
      let a : 0 * w ≡ 0 = zero-mul w in
      let b : 0 * w + w ≡ length row = (let s = zero-mul w in omega arith) in
      rw (b, a, drop-append_seam row rest)

  pub rows_put : (new : Edge) (es : List Edge) (k : ℕ) (was : List ℕ) → k ≤ length es
      → put_row w k (written (flat (map r es)) was) (r new) ≡ written (flat (map r (put new k es))) was
  unfolding put put_row flat
  rows_put new [] zero was h =
      let a : 0 * w ≡ 0 = zero-mul w in
      let b : 0 * w + w ≡ w = (let s = zero-mul w in omega arith) in
      rw (b, a) (sym (flat_cons new [] was))
  rows_put new [] (suc k) was h = absurd (omega arith)
  rows_put new (e ∷ es) zero was h = rw (flat_cons e es was, flat_cons new es was) (row_zero (r e) (written (flat (map r es)) (drop w was)) (r new) (long e))
  rows_put new (e ∷ es) (suc k) was h =
      rw (flat_cons e es was, flat_cons e (put new k es) was, row_suc k (r e) (written (flat (map r es)) (drop w was)) (r new) (long e))
      (ap (λ (x : List ℕ). r e ++ x) (rows_put new es k (drop w was) (omega arith)))

-- every row of observables has words(O) words
pub row_long : (o : ℕ) (e : Edge) → length (obs_row o e.observables) ≡ words o
unfolding obs_row
row_long o e = row_length (words o) _

-- ---- all tables

-- place k of every table, written over
abbrev pub over : ℕ → ℕ → Edge → Slices → Slices
over o k new t =
    slices (set t.edge_u k new.u) (set t.edge_v k new.v) (set t.edge_weight k (weight_of new.probability))
    (put_row (words o) k t.edge_obs (obs_row o new.observables)) (set t.edge_p k new.probability)

-- place k is one of the tables'
pub record Lies (k : ℕ) (t : Slices) : Type 0 where
  pub ends : k < length t.edge_u
  pub others : k < length t.edge_v
  pub weights : k < length t.edge_weight
  pub probabilities : k < length t.edge_p

pub filled_put : (o k : ℕ) (new : Edge) (t : Slices) (es : List Edge) (was : Slices) → t ≡ filled o es was → k ≤ length es → Lies k t → over o k new t ≡ filled o (put new k es) was
unfolding filled
filled_put o k new t es was h l lies =
    let m : Lies k (filled o es was) = rw h at lies in
    ap (over o k new) h
    ∙ same_slices
    (column_put (λ e. e.u) new es k was.edge_u l m.ends)
    (column_put (λ e. e.v) new es k was.edge_v l m.others)
    (column_put (λ e. weight_of e.probability) new es k was.edge_weight l m.weights)
    (rows_put (words o) (λ e. obs_row o e.observables) (row_long o) new es k was.edge_obs l)
    (column_put (λ e. e.probability) new es k was.edge_p l m.probabilities)
