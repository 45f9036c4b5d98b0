-- What an input is answered with: docs/RULES.md, "Frames".
use Rattle.std.specs.Prelude.{ℕ, ◌+◌, List, [], ◌∷◌, ◌++◌, Bool, true, false, length, eqb, ltb}
use Rattle.codes.specs.declared.Refusal.{Refusal}
use Rattle.codes.specs.declared.Refusal.TheVariants.{Limit}
use Rattle.hex_text.specs.Hex.{bytes_of}
use Rattle.steps.specs.Graph.{Graph}
use Rattle.edges.specs.Compile.{Edges, into, graph_by}
use Rattle.edges.specs.Compile as edges
use Rattle.edges.specs.Tables.{flat}
use Rattle.frames.specs.Frames.{kind_of}
use Rattle.frames.specs.Input.{Input, Read, next, refused, start, model_read, read_line, at_end, lines_of}
use Rattle.model_graph.specs.Graph.{graph_read}
use Rattle.shot_reply.specs.Outcome.{Outcome, told, shot_outcome}
use Rattle.shot_reply.specs.Outcome as outcome
use Rattle.replies.specs.Last.{refusal_text, last_text}

-- ---- a session

pub record Session : Type 0 where
  -- what was read
  pub input : Input
  -- the graph of the model, from 04 on
  pub graph : Graph
  -- the shots that were answered, and the failures among them
  pub shots : ℕ
  pub failures : ℕ

abbrev pub no_graph : Graph
no_graph = record { detectors = 0; observables = 0; edge_u = []; edge_v = []; edge_weight = []; edge_obs = [] }

-- before the first line
unfoldable pub begin : Session
unfolding start
begin = record { input = start; graph = no_graph; shots = 0; failures = 0 }

-- ---- one line

pub data Answer : Type 0 where
  -- the session goes on, and the text is written
  goes : Session → List ℕ → Answer
  -- "a refusal .. ends the output"
  ends : Refusal → Answer

-- 01, 02, 03, 05: nothing is written
abbrev pub quiet : Session → Input → Answer
quiet s t = goes (record { input = t; graph = s.graph; shots = s.shots; failures = s.failures }) []

-- 04: "the model is checked at 04", decomposed and compiled
abbrev pub compiled : Session → Input → Edges → Answer
compiled s t (into es) = goes (record { input = t; graph = graph_by t.detectors t.observables es; shots = s.shots; failures = s.failures }) []
compiled s t (edges.refused r) = ends r

unfoldable pub at_model : Session → Input → Answer
unfolding graph_read graph_by
at_model s t = compiled s t (graph_read t.detectors t.observables (model_read t.mechanisms))

-- 06: "a shot at its 06"
abbrev pub one : Bool → ℕ
one true = 1
one false = 0

abbrev pub decoded : Session → Input → Outcome → Answer
decoded s t (told text failed) = goes (record { input = t; graph = s.graph; shots = s.shots + 1; failures = s.failures + one failed }) text
decoded s t (outcome.refused r) = ends r

-- the shot that was read, on the graph's tables
unfoldable pub shot_read : Graph → Input → Outcome
unfolding shot_outcome flat
shot_read g t = shot_outcome t.detectors t.observables (length g.edge_u) g.edge_u g.edge_v g.edge_weight (flat g.edge_obs) t.row t.truth

-- 8f counts shots in four bytes: a shot more is 1
abbrev pub max_count : ℕ
max_count = 4294967295

abbrev pub counted : Bool → Session → Input → Answer
counted true s t = decoded s t (shot_read s.graph t)
counted false s t = ends Limit

unfoldable pub at_shot : Session → Input → Answer
unfolding shot_read
at_shot s t = counted (ltb s.shots max_count) s t

-- by the kind of the line
abbrev pub by_tests : Bool → Bool → Session → Input → Answer
by_tests true shot s t = at_model s t
by_tests false true s t = at_shot s t
by_tests false false s t = quiet s t

abbrev pub by_kind : ℕ → Session → Input → Answer
by_kind k s t = by_tests (eqb k 4) (eqb k 6) s t

abbrev pub by_read : ℕ → Session → Read → Answer
by_read k s (next t) = by_kind k s t
by_read k s (refused r) = ends r

unfoldable pub answer_line : Session → List ℕ → Answer
unfolding read_line bytes_of at_model at_shot
answer_line s line = by_read (kind_of (bytes_of line)) s (read_line s.input line)

-- the most bytes that a line is answered with: 85 with two words, and 86 with 256 edges
abbrev pub longest_reply : ℕ
longest_reply = 1066

-- ---- all lines

-- at the end of the input: 8f, or "input ending before 04 or after a 05 is 3"
unfoldable pub end_text : Session → List ℕ
unfolding last_text
end_text s = last_text (at_end s.input.stage) s.input.observables s.failures s.shots

abbrev pub go_on : Answer → (Session → List ℕ) → List ℕ
go_on (goes t text) rest = text ++ rest t
go_on (ends r) rest = refusal_text r

-- what the lines of a session are answered with
unfoldable pub answers : Session → List (List ℕ) → List ℕ
unfolding answer_line end_text refusal_text
answers s [] = end_text s
answers s (line ∷ lines) = go_on (answer_line s line) (λ t. answers t lines)

-- what an input is answered with
unfoldable pub output_of : List ℕ → List ℕ
unfolding answers lines_of begin
output_of l = answers begin (lines_of l)
