-- The line at the end of an input: docs/RULES.md, "Frames" and "The rate".
use Rattle.codes.specs.Order.{Checked}
use Rattle.std.specs.Prelude.{Ok, Err}
use Rattle.std.specs.Prelude.{ℕ, List}
use Rattle.std.specs.Float.{binary64}
use Rattle.std.specs.Float.Ieee.{to_bits}
use Rattle.codes.specs.declared.Refusal.{Refusal}
use Rattle.codes.specs.Codes.{code_of}
use Rattle.failures.specs.Failures.{rate_of}
use Rattle.replies.specs.Replies.{line_of, rate_reply, refusal_reply}

-- "a refusal is ff and code (1 byte) and ends the output"
unfoldable pub refusal_text : Refusal → List ℕ
unfolding line_of
refusal_text r = line_of (refusal_reply (code_of r))

-- "and last 8f shots, failures (4 each), rate bits (8)"
unfoldable pub rate_text : ℕ → ℕ → ℕ → List ℕ
unfolding line_of rate_of
rate_text o failures shots = line_of (rate_reply shots failures (to_bits binary64 (rate_of o failures shots)))

-- the end of an input of O observables: as it is accepted or not
unfoldable pub last_text : Checked → ℕ → ℕ → ℕ → List ℕ
unfolding refusal_text rate_text
last_text (Err r) o failures shots = refusal_text r
last_text (Ok tt) o failures shots = rate_text o failures shots
