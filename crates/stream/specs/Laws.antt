-- What holds of an input that comes in parts; proofs/Parts.antt proves it.
use Rattle.std.specs.Prelude.{ℕ, ◌≡◌, List, [], ◌∷◌, ◌++◌}
use Rattle.frames.specs.Input.{lines_of}
use Rattle.session.specs.Output.{Session, begin, answers, output_of}
use Rattle.session.specs.Memory.{Memory, memory_after}
use Rattle.stream.specs.Text.{Comes, Closes, Leads, Settles}

-- one call of `feed` after another: each takes a part, from where the last one stands, and writes a text
abbrev pub InParts : Session → List ℕ → List (List ℕ) → List ℕ → Session → List ℕ → Type 0
InParts s begun [] text t pending = (text ≡ []) × (t ≡ s) × (pending ≡ begun)
InParts s begun (part ∷ parts) text t pending =
    (u : Session) × (more : List ℕ) × (x : List ℕ) × (y : List ℕ) × Comes s begun part x u more × InParts u more parts y t pending × (text ≡ x ++ y)

-- the parts one behind the other
unfoldable pub joined : List (List ℕ) → List ℕ
joined [] = []
joined (part ∷ parts) = part ++ joined parts

pub record Laws : Type 0 where
  -- before the first byte
  pub first : Comes begin [] [] [] begin []
  -- part after part
  pub on : (s t u : Session) (b m x o n y p : List ℕ) → Comes s b m x t o → Comes t o n y u p → Comes s b (m ++ n) (x ++ y) u p
  pub closed : (s t : Session) (b m x o n y : List ℕ) → Comes s b m x t o → Closes t o n y → Closes s b (m ++ n) (x ++ y)
  -- however the input is cut into parts, a session that has read all of them has its last line and the end to answer
  pub parts : (parts : List (List ℕ)) (text pending : List ℕ) (s : Session) → InParts begin [] parts text s pending → output_of (joined parts) ≡ text ++ answers s (lines_of pending)
  pub all : (input text pending : List ℕ) (s : Session) → Comes begin [] input text s pending → output_of input ≡ text ++ answers s (lines_of pending)
  -- and one that was ended has written all
  pub ended : (input text rest : List ℕ) → Closes begin [] input text → output_of (input ++ rest) ≡ text
  -- the tables likewise
  pub leads : (s t u : Session) (b m o n p : List ℕ) (x y z : Memory) → Leads s b m x t o y → Leads t o n y u p z → Leads s b (m ++ n) x u p z
  pub settles : (s t : Session) (b m o n : List ℕ) (x y z : Memory) → Leads s b m x t o y → Settles t o n y z → Settles s b (m ++ n) x z
  -- and whole lines leave them as `memory_after` says
  pub memory : (input : List ℕ) (s : Session) (x y : Memory) → Leads begin [] input x s [] y → memory_after begin x (lines_of input) ≡ y
