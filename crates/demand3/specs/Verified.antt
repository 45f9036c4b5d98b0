-- A shot decoded, and the decoder's own list marked: what both leave.
use Rattle.std.specs.Prelude.{ℕ, ◌≤◌, ◌≡◌, List, length, take, drop, replicate, Result, Ok, Err}
use Rattle.bits.specs.Rows.{words}
use Rattle.codes.specs.declared.Refusal.{Refusal}
use Rattle.codes.specs.declared.Refusal.TheVariants as refusal
use Rattle.steps.specs.Found.{Blank}
use Rattle.lent_graph.specs.Call.{Lent}
use Rattle.marking.specs.declared.Marking.{Marking}
use Rattle.marking.specs.declared.Marking.TheVariants as marking
use Rattle.marker.specs.Answer.{Marks}
use Rattle.shot.specs.declared.Shot.{Shot}
use Rattle.shot.specs.declared.Shot.TheVariants.{Decoded, Stuck}
use Rattle.decoder.specs.Answer.{Handed, graph_of_call, Decodes}
use Rattle.demand3.specs.declared.Verdict.{Verdict}

-- the list has as many entries as are handed over
abbrev pub Fits : Result Shot Refusal → List ℕ → Type 0
Fits a list = (n k : ℕ) → a ≡ Ok (Decoded n k) → k ≤ length list

-- a verdict m with no row written
abbrev pub Unwritten : Verdict → Result Marking Refusal → Type 0
Unwritten v m = (v.marking ≡ m) × (v.row ≡ replicate 2 0)

-- the verdict v that follows the decoder's answer a and its list
pub record Follows (l : Lent) (shot : List ℕ) (width : ℕ) (a : Result Shot Refusal) (list : List ℕ) (v : Verdict) : Type 0 where
  -- the first k entries of the list are marked; 128 observables, 16384 edges and 4096 detectors need 2, 256 and 64 words
  pub decoded : (n k : ℕ) → a ≡ Ok (Decoded n k) → Marks l shot width (take k list) (replicate 2 0) (replicate 256 0) (replicate 64 0) v.marking v.row
  -- no list, nothing to mark: 11, or the decoder's own refusal
  pub stuck : (n d : ℕ) → a ≡ Ok (Stuck n d) → Unwritten v (Err (refusal.Stuck 0 d))
  pub refused : (r : Refusal) → a ≡ Err r → Unwritten v (Err r)

module _ (h : Handed) where
  abbrev O : ℕ
  O = h.graph.observables

  -- the verdict v, and the decoder's list and row
  pub record Verified (v : Verdict) (list row : List ℕ) : Type 0 where
    -- the decoder keeps its promise
    pub answer : Result Shot Refusal
    pub decodes : Decodes h answer list row
    -- the marker keeps its own, of the list that was handed over: its row and its scratch are as long as any graph needs
    pub marks : (n k : ℕ) → answer ≡ Ok (Decoded n k) → Marks h.graph h.shot h.width (take k list) (replicate 2 0) (replicate 256 0) (replicate 64 0) v.marking v.row
    -- "the marker passes it"
    pub passes : (n k : ℕ) → answer ≡ Ok (Decoded n k) → v.marking ≡ Ok marking.Pass
    -- "and writes the same row"
    pub same_row : (n k : ℕ) → answer ≡ Ok (Decoded n k) → Blank (graph_of_call h) h.row → take (words O) v.row ≡ take (words O) row
    pub past_row : (n k : ℕ) → answer ≡ Ok (Decoded n k) → drop (words O) v.row ≡ drop (words O) (replicate 2 0)
    -- no list, nothing to mark: 11, or the decoder's own refusal
    pub stuck : (n d : ℕ) → answer ≡ Ok (Stuck n d) → Unwritten v (Err (refusal.Stuck 0 d))
    pub refused : (r : Refusal) → answer ≡ Err r → Unwritten v (Err r)
