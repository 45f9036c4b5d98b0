-- The example of docs/RULES.md, "Frames", and cases at the edges, by computation.
use Rattle.std.specs.Prelude.{Ok, Err}
use Rattle.std.specs.Prelude.{ℕ, ◌≡◌, refl, List, [], ◌∷◌, ◌++◌}
use Rattle.codes.specs.declared.Refusal.TheVariants as refusal
use Rattle.hex_text.specs.Hex.{text_of}
use Rattle.frames.specs.declared.Stage.TheVariants.{InModel, BetweenShots}
use Rattle.frames.specs.Input.{Given, Input, next, refused, start, read_line, meaning_of}

-- the example: six lines, the last one without its line feed
abbrev pub example_text : List ℕ
example_text =
    48 ∷ 49 ∷ 48 ∷ 48 ∷ 48 ∷ 50 ∷ 48 ∷ 48 ∷ 48 ∷ 49 ∷ 10 ∷
    48 ∷ 50 ∷ 51 ∷ 102 ∷ 100 ∷ 48 ∷ 48 ∷ 48 ∷ 48 ∷ 48 ∷ 48 ∷ 48 ∷ 48 ∷ 48 ∷ 48 ∷ 48 ∷ 48 ∷ 48 ∷ 48 ∷ 49 ∷ 48 ∷ 49 ∷ 48 ∷ 48 ∷ 48 ∷ 48 ∷ 48 ∷ 48 ∷ 48 ∷ 48 ∷ 10 ∷
    48 ∷ 50 ∷ 51 ∷ 102 ∷ 100 ∷ 48 ∷ 48 ∷ 48 ∷ 48 ∷ 48 ∷ 48 ∷ 48 ∷ 48 ∷ 48 ∷ 48 ∷ 48 ∷ 48 ∷ 48 ∷ 48 ∷ 50 ∷ 48 ∷ 48 ∷ 48 ∷ 48 ∷ 48 ∷ 48 ∷ 48 ∷ 48 ∷ 48 ∷ 49 ∷ 10 ∷
    48 ∷ 52 ∷ 10 ∷
    48 ∷ 53 ∷ 48 ∷ 48 ∷ 48 ∷ 48 ∷ 48 ∷ 48 ∷ 48 ∷ 48 ∷ 48 ∷ 48 ∷ 48 ∷ 48 ∷ 48 ∷ 48 ∷ 48 ∷ 50 ∷ 10 ∷
    48 ∷ 54 ∷ 48 ∷ 48 ∷ 48 ∷ 48 ∷ 48 ∷ 48 ∷ 48 ∷ 48 ∷ 48 ∷ 48 ∷ 48 ∷ 48 ∷ 48 ∷ 48 ∷ 48 ∷ 49 ∷ []

abbrev pub given : ℕ → List ℕ → List ℕ → Given
given p ds os = record { bits = p; symptom = record { detectors = ds; observables = os }; components = [] }

-- and what they say
abbrev pub example_input : Input
example_input = record {
  stage = BetweenShots;
  detectors = 2;
  observables = 1;
  mechanisms = given 0x3fd0000000000000 (0 ∷ []) (0 ∷ []) ∷ given 0x3fd0000000000000 (0 ∷ 1 ∷ []) [] ∷ [];
  row = 2 ∷ [];
  truth = 1 ∷ [];
  shots = record { row = 2 ∷ []; truth = 1 ∷ [] } ∷ [];
}

-- a model of D detectors and O observables begun
abbrev pub begun : ℕ → ℕ → Input
begun D O = record { stage = InModel; detectors = D; observables = O; mechanisms = []; row = []; truth = []; shots = [] }

-- and with one mechanism
abbrev pub holding : Given → Input
holding g = record { stage = InModel; detectors = 2; observables = 1; mechanisms = g ∷ []; row = []; truth = []; shots = [] }

-- Two wrong readers that these rule out: one that looks at D before the length answers 1 to `header-long`; one that counts row words from the line
-- takes `row-long` for a row.
pub record Cases : Type 0 where
  -- with the last line feed and without
  pub example : meaning_of (example_text ++ (10 ∷ [])) ≡ record { input = example_input; ends = (Ok tt) }
  pub unended : meaning_of example_text ≡ record { input = example_input; ends = (Ok tt) }
  -- an input of no lines, and one that ends after the header
  pub empty : meaning_of [] ≡ record { input = start; ends = Err refusal.Frame }
  pub header_only : meaning_of (text_of (1 ∷ 0 ∷ 2 ∷ 0 ∷ 1 ∷ [])) ≡ record { input = begun 2 1; ends = Err refusal.Frame }
  -- an empty line
  pub empty_line : read_line start [] ≡ refused refusal.Frame
  -- 256 detectors are held and 257 are not; a line of the wrong length is 3 before 1
  pub header_most : read_line start (text_of (1 ∷ 1 ∷ 0 ∷ 0 ∷ 128 ∷ [])) ≡ next (begun 256 128)
  pub header_over : read_line start (text_of (1 ∷ 1 ∷ 1 ∷ 0 ∷ 0 ∷ [])) ≡ refused refusal.Limit
  pub header_long : read_line start (text_of (1 ∷ 1 ∷ 1 ∷ 0 ∷ 0 ∷ 0 ∷ [])) ≡ refused refusal.Frame
  -- a second header, a component before a mechanism, a row before 04
  pub header_again : read_line (begun 2 1) (text_of (1 ∷ 0 ∷ 2 ∷ 0 ∷ 1 ∷ [])) ≡ refused refusal.Frame
  pub component_first : read_line (begun 2 1) (text_of (3 ∷ 0 ∷ 0 ∷ [])) ≡ refused refusal.Frame
  pub row_early : read_line (begun 2 1) (text_of (5 ∷ 0 ∷ 0 ∷ 0 ∷ 0 ∷ 0 ∷ 0 ∷ 0 ∷ 0 ∷ [])) ≡ refused refusal.Frame
  -- NaN bits are carried; a component goes to the mechanism above
  pub nan_bits : read_line (begun 2 1) (text_of (2 ∷ 0x7f ∷ 0xf8 ∷ 0 ∷ 0 ∷ 0 ∷ 0 ∷ 0 ∷ 0 ∷ 0 ∷ 0 ∷ [])) ≡ next (holding (given 0x7ff8000000000000 [] []))
  pub component_next : read_line (holding (given 0 (1 ∷ []) [])) (text_of (3 ∷ 1 ∷ 1 ∷ 0 ∷ 1 ∷ 0 ∷ 0 ∷ []))
      ≡ next (holding (record { bits = 0; symptom = record { detectors = 1 ∷ []; observables = [] }; components = record { detectors = 1 ∷ []; observables = 0 ∷ [] } ∷ [] }))
  -- a row with a word too many
  pub row_long : read_line example_input (text_of (5 ∷ 0 ∷ 0 ∷ 0 ∷ 0 ∷ 0 ∷ 0 ∷ 0 ∷ 0 ∷ 0 ∷ 0 ∷ 0 ∷ 0 ∷ 0 ∷ 0 ∷ 0 ∷ 0 ∷ [])) ≡ refused refusal.Frame

pub cases : Cases
unfolding meaning_of read_line start text_of
cases = record {
  example = refl;
  unended = refl;
  empty = refl;
  header_only = refl;
  empty_line = refl;
  header_most = refl;
  header_over = refl;
  header_long = refl;
  header_again = refl;
  component_first = refl;
  row_early = refl;
  nan_bits = refl;
  component_next = refl;
  row_long = refl;
}
