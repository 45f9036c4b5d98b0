-- What each answer becomes across the C boundary: code 0 is success, and no refusal has it.
use Rattle.failures.specs.declared.ErrorRate.{ErrorRate}
use Rattle.failures.specs.declared.ErrorRate.TheVariants as error_rate
use Rattle.std.specs.Prelude.{ℕ, ◌≡◌, Result, Ok, Err}
use Rattle.codes.specs.Order.{Checked}
use Rattle.codes.specs.declared.Refusal.{Refusal}
use Rattle.split_model.specs.declared.Counts.{Counts}
use Rattle.std.specs.Float.{Float}
use Rattle.codes.specs.Codes.{code_of, first_of, second_of}
use Rattle.codes.specs.declared.Refusal.TheVariants as refusal
use Rattle.shot.specs.declared.Shot.{Shot}
use Rattle.shot.specs.declared.Shot.TheVariants as answer
use Rattle.marking.specs.declared.Marking.{Marking}
use Rattle.marking.specs.declared.Marking.TheVariants as marking
use Rattle.weight.specs.Weight.{zero64}
use Rattle.server.specs.declared.Told.{Told}
use Rattle.server.specs.declared.ModelWords.{ModelWords}
use Rattle.server.specs.declared.GraphWords.{GraphWords}
use Rattle.server.specs.declared.ShotWords.{ShotWords}
use Rattle.server.specs.declared.BatchWords.{BatchWords}
use Rattle.server.specs.declared.MarkWords.{MarkWords}
use Rattle.server.specs.declared.RateWords.{RateWords}

-- what an export promises: its words are those of an answer of which the call's own promise P holds
pub record InWords {A W : Type 0} (words : A → W) (P : A → Type 0) (r : W) : Type 0 where
  pub answer : A
  pub told : r ≡ words answer
  pub holds : P answer

-- the code of a refusal, and the values beside it
abbrev pub told_of : Refusal → Told
told_of r = record { code = code_of r; first = first_of r; second = second_of r }

-- ---- decomposition

abbrev pub words_of_model : Result Counts Refusal → ModelWords
words_of_model (Ok n) = record { code = 0; first = 0; second = 0; mechanisms = n.mechanisms; components = n.components; entries = n.entries }
words_of_model (Err r) = record { code = code_of r; first = first_of r; second = second_of r; mechanisms = 0; components = 0; entries = 0 }

-- ---- compiling

abbrev pub words_of_graph : Result ℕ Refusal → GraphWords
words_of_graph (Ok n) = record { code = 0; first = 0; second = 0; edges = n }
words_of_graph (Err r) = record { code = code_of r; first = first_of r; second = second_of r; edges = 0 }

-- ---- the marker

abbrev pub words_of_mark : Result Marking Refusal → MarkWords
words_of_mark (Ok marking.Pass) = record { code = 0; first = 0; second = 0; passed = 1; detector = 0 }
words_of_mark (Ok (marking.Differs d)) = record { code = 0; first = 0; second = 0; passed = 0; detector = d }
words_of_mark (Err r) = record { code = code_of r; first = first_of r; second = second_of r; passed = 0; detector = 0 }

-- ---- one shot

-- 11 names shot 0: a shot by itself is a batch of one
abbrev pub words_of_shot : Result Shot Refusal → ShotWords
words_of_shot (Ok (answer.Decoded n k)) = record { code = 0; first = 0; second = 0; rounds = n; length = k }
words_of_shot (Ok (answer.Stuck n d)) = record { code = code_of (refusal.Stuck 0 d); first = first_of (refusal.Stuck 0 d); second = second_of (refusal.Stuck 0 d); rounds = n; length = 0 }
words_of_shot (Err r) = record { code = code_of r; first = first_of r; second = second_of r; rounds = 0; length = 0 }

-- ---- a batch

abbrev pub words_of_batch : Checked → BatchWords
words_of_batch (Ok tt) = record { code = 0; first = 0; second = 0 }
words_of_batch (Err r) = record { code = code_of r; first = first_of r; second = second_of r }

-- ---- the rate

abbrev pub words_of_rate : ErrorRate → RateWords
words_of_rate (error_rate.Rate x) = record { code = 0; first = 0; second = 0; rate = x }
words_of_rate (error_rate.Refused r) = record { code = code_of r; first = first_of r; second = second_of r; rate = zero64 }
