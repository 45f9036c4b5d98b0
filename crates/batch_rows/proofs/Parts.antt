-- A shot in its part of the rows, and its row in its part of the output.
use Prim.Native.Nat.{ℕ, ◌+◌, ◌-◌, ◌*◌, ◌≤◌}
use native.Mathlib.Nat.{mul-le-mul}
use native.Mathlib.Omega.{arith}
use mathlib.Core.Path.{◌≡◌, ap, ◌∙◌}
use mathlib.Core.List.{List}
use lib.Ieee.{Float}
use lib.ListN.{length, drop, replicate, length-drop, length-replicate}
use lib.Seq.{length-take-le}
use borrow.Rule.Slice.PartMut.{mid_of, put_mid, mid_len}
use Rattle.bits.specs.Rows.{words, is_clear}
use Rattle.packed.specs.Packed.{row_at}
use Rattle.steps.specs.Graph.{Graph}
use Rattle.steps.specs.Rows.{zeros}
use Rattle.steps.specs.Shot.{decode, row_left}
use Rattle.steps.specs.Call.{graph_of, lit_of}
use Rattle.shot.specs.Shots.{Given, graph_in, decode_in}
use Rattle.batch_rows.specs.Row.{put_row, shot_at, row_for, GivenRow}
use Rattle.batch_rows.proofs.Put.{put_part}

-- ---- a row zeroed

module _ (d o : ℕ) (u v : List ℕ) (weight : List Float) (obs row row' : List ℕ) (wide : length row ≡ words o) (z : row' ≡ replicate (length row) 0) where
  pub zeroed : row' ≡ zeros (graph_in d o u v weight obs)
  unfolding zeros graph_of
  zeroed = z ∙ ap (λ (k : ℕ). replicate {A = ℕ} k 0) wide

  pub given_zeroed : {shot list : List ℕ} → Given d o shot row list → Given d o shot row' list
  given_zeroed k = record { shots = k.shots; clear = k.clear; rows = omega (arith, ap length z ∙ length-replicate (length row) 0, k.rows); lists = k.lists }

-- ---- shot s in its part of the rows, and its row in its part of the output

module _ (d o : ℕ) (u v : List ℕ) (weight : List Float) (obs rows out list row : List ℕ) (s m w : ℕ) (p : m ≡ words d) (q : w ≡ words o) (k : GivenRow d o s rows out list) where
  abbrev G : Graph
  G = graph_in d o u v weight obs

  -- the words of the shot
  abbrev pub shot_words : List ℕ
  shot_words = mid_of (s * m) (s * m + m - s * m) rows

  pub words_is : shot_words ≡ row_at (words d) rows s
  words_is =
      let e : s * m + m - s * m ≡ m = omega arith in
      rw e (ap (λ (i : ℕ). row_at i rows s) p)

  pub steps_is : decode_in d o u v weight obs shot_words ≡ shot_at G rows s
  unfolding graph_of
  steps_is = ap (λ (t : List ℕ). decode G (lit_of d t)) words_is

  -- the output with the row in its place
  pub put_is : row ≡ row_left G (zeros G) (decode_in d o u v weight obs shot_words) → put_mid (s * w) (s * w + w - s * w) out row ≡ put_row (words o) s (row_for G rows s) out
  put_is e = put_part w s out row ∙ ap (λ (i : ℕ). put_row i s row out) q ∙ ap (λ (t : List ℕ). put_row (words o) s t out) (e ∙ ap (row_left G (zeros G)) steps_is)

  -- where the parts start and end, and how little that is
  pub record Parts : Type 0 where
    pub m_small : m ≤ 64
    pub w_small : w ≤ 2
    pub from_small : s * m ≤ 16777216 * 64
    pub at_small : s * w ≤ 16777216 * 2
    pub words_end : s * m + m ≤ length rows
    pub row_end : s * w + w ≤ length out

  pub parts : Parts
  unfolding words
  parts =
      let a : m ≤ 64 = omega (arith, p, k.few_detectors) in
      let b : w ≤ 2 = omega (arith, q, k.few_observables) in
      record {
        m_small = a;
        w_small = b;
        from_small = mul-le-mul k.few a;
        at_small = mul-le-mul k.few b;
        words_end = rw p k.words_end;
        row_end = rw q k.row_end;
      }

  pub row_wide : length (mid_of (s * w) (s * w + w - s * w) out) ≡ words o
  row_wide = mid_len (s * w) (s * w + w) out parts.row_end ∙ omega (arith, q)

  pub given : Given d o shot_words (mid_of (s * w) (s * w + w - s * w) out) list
  given = record {
    shots = ap length words_is ∙ length-take-le (words d) (drop (s * words d) rows) (rw (length-drop (s * words d) rows) (omega (arith, k.words_end)));
    clear = ap (is_clear d) words_is ∙ k.clear;
    rows = omega (arith, row_wide);
    lists = k.lists;
  }
