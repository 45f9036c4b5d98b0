-- Demand 3 as a statement: what is found of a shot decoder and a marker on every accepted graph and every shot of its width.
use Rattle.std.specs.Prelude.{Some, ℕ, suc, ◌*◌, ◌<◌, ◌≤◌, ◌≡◌, List, [], Bool, true, false, ◌↔◌, ◌⊎◌, length, get_or, take, drop}
use Rattle.lists.specs.Lists.{odd, member}
use Rattle.bits.specs.Rows.{words, bit}
use Rattle.steps.specs.Graph.{Graph, inner, outer, is_pair, ends, flipped}
use Rattle.steps.specs.Rows.{zeros, row_of}
use Rattle.steps.specs.Growth.{is_odd, label_of, is_counted, first_stuck, after, onward, turn}
use Rattle.steps.specs.Shot.{Decoded, decode, impossible, corrected, row_left}
use Rattle.steps.specs.Marker.{Marked, fit, mark, pass, differs, unfit}
use Rattle.steps.specs.Call.{AcceptedGraph}

-- ---- a shot decoder and a marker, as what they answer and leave

pub record Programs : Type 0 where
  -- the decoder's answer
  pub decodes : Graph → List Bool → Decoded
  -- the row that the decoder leaves where `was` stood
  pub leaves : Graph → List Bool → List ℕ → List ℕ
  -- the marker's answer to a list of edges
  pub marks : Graph → List Bool → List ℕ → Marked

-- those that follow the steps of docs/RULES.md
abbrev pub by_steps : Programs
by_steps = record { decodes = decode; leaves = λ g lit was. row_left g was (decode g lit); marks = mark }

-- ---- the words of the demand

-- the edges are known
abbrev pub Known : Graph → List ℕ → Type 0
Known g es = (e : ℕ) → member e es ≡ true → e < length g.edge_u

-- the edges are distinct
abbrev pub Distinct : List ℕ → Type 0
Distinct es = (i j : ℕ) → i < j → j < length es → get_or es i 0 ≡ get_or es j 0 → ⊥

-- the edges flip exactly the lit detectors
abbrev pub Explains : Graph → List Bool → List ℕ → Type 0
Explains g lit es = (d : ℕ) → d < g.detectors → flipped g es d ≡ get_or lit d false

-- a row, in a slice long enough, that began as zero
abbrev pub Blank : Graph → List ℕ → Type 0
Blank g was = take (words g.observables) was ≡ zeros g

-- a path of pair edges joins a and b: no colouring that is the same at the two ends of every pair edge tells them apart
abbrev pub Joined : Graph → ℕ → ℕ → Type 0
Joined g a b = (c : ℕ → Bool) → ((e : ℕ) → e < length g.edge_u → is_pair g e ≡ true → c (inner g e) ≡ c (outer g e)) → c a ≡ c b

-- ---- the row of a list of edges is the XOR of their observables

pub record Xored (g : Graph) (es : List ℕ) : Type 0 where
  pub size : length (row_of g es) ≡ words g.observables
  -- a bit of it is set if an odd number of the edges have it set
  pub bits : (o : ℕ) → o < 64 * words g.observables → bit (row_of g es) o ≡ odd (λ e. bit (get_or g.edge_obs e []) o) es

-- ---- rounds: told by the steps on the graph and the shot, never by what a program keeps

-- round k is finished
pub record Finished (g : Graph) (lit : List Bool) (k : ℕ) : Type 0 where
  -- a cluster was active, and none was stuck
  pub begun : turn g lit (after g lit k) ≡ onward
  -- it saturated at least one new edge,
  pub edge : ℕ
  pub known : edge < length g.edge_u
  pub was : get_or (after g lit k).saturated edge true ≡ false
  pub now : get_or (after g lit (suc k)).saturated edge false ≡ true
  -- and none but edges that it counted
  pub only : (e : ℕ) → e < length g.edge_u → get_or (after g lit k).saturated e true ≡ false → get_or (after g lit (suc k)).saturated e false ≡ true → is_counted g lit (after g lit k) e ≡ true

-- n rounds are finished, and they are not more than the edges
pub record Rounds (g : Graph) (lit : List Bool) (n : ℕ) : Type 0 where
  pub each : (k : ℕ) → k < n → Finished g lit k
  pub few : n ≤ length g.edge_u

-- growth has ended after n rounds: no cluster is active,
abbrev pub NoneActive : Graph → List Bool → ℕ → Type 0
NoneActive g lit n = (after g lit n).active ≡ []

-- or the first stuck cluster is that of d
abbrev pub Halted : Graph → List Bool → ℕ → ℕ → Type 0
Halted g lit n d = first_stuck g lit (after g lit n) (after g lit n).active ≡ Some d

-- n is the number of rounds finished: so many are, and no further one is begun
pub record AllRounds (g : Graph) (lit : List Bool) (n : ℕ) : Type 0 where
  pub finished : Rounds g lit n
  pub over : turn g lit (after g lit n) ≡ onward → ⊥

-- which both ends of growth tell, and which is one number
pub record OneCount (g : Graph) (lit : List Bool) : Type 0 where
  pub none_active : (n : ℕ) → Rounds g lit n → NoneActive g lit n → AllRounds g lit n
  pub halted : (n d : ℕ) → Rounds g lit n → Halted g lit n d → AllRounds g lit n
  pub same : (m n : ℕ) → AllRounds g lit m → AllRounds g lit n → m ≡ n

-- ---- the detector that Stuck names, after n rounds

-- the cluster of c after n rounds, by its lowest detector
abbrev pub cluster_of : Graph → List Bool → ℕ → ℕ → ℕ
cluster_of g lit n c = label_of g lit (after g lit n) c

pub record Named (g : Graph) (lit : List Bool) (n d : ℕ) : Type 0 where
  pub known : d < g.detectors
  pub own : cluster_of g lit n d ≡ d
  -- it is the lowest of its cluster
  pub lowest : (c : ℕ) → c < g.detectors → cluster_of g lit n c ≡ d → d ≤ c
  -- every edge that ends in the cluster has both ends in it
  pub closed : (e c : ℕ) → e < length g.edge_u → ends g e c ≡ true → cluster_of g lit n c ≡ d
      → (is_pair g e ≡ true) × (cluster_of g lit n (inner g e) ≡ d) × (cluster_of g lit n (outer g e) ≡ d)
  -- so the cluster is d's component of the whole graph
  pub component : (c : ℕ) → c < g.detectors → (cluster_of g lit n c ≡ d) ↔ Joined g d c
  -- an odd number of its detectors is lit
  pub odd_lit : is_odd g lit (after g lit n).label d ≡ true

module _ (p : Programs) (g : Graph) (lit : List Bool) where
  -- the shot decoder answers Stuck
  abbrev pub Stuck : Type 0
  Stuck = (n : ℕ) × (d : ℕ) × (p.decodes g lit ≡ impossible n d)

  -- or it hands over a list
  abbrev pub Hands : Type 0
  Hands = (n : ℕ) × (list : List ℕ) × (p.decodes g lit ≡ corrected n list)

  -- ---- "otherwise": the list and the row

  pub record Whole (list : List ℕ) : Type 0 where
    -- distinct known edges,
    pub fits : fit g list ≡ true
    -- at most one for each detector,
    pub short : length list ≤ g.detectors
    -- that flip exactly the lit detectors
    pub explains : Explains g lit list
    -- a zero row becomes the XOR of their observables,
    pub row : (was : List ℕ) → Blank g was → take (words g.observables) (p.leaves g lit was) ≡ row_of g list
    -- and what lies past it in the slice is untouched
    pub past : (was : List ℕ) → drop (words g.observables) (p.leaves g lit was) ≡ drop (words g.observables) was
    -- the marker passes the list and writes that same row
    pub marked : p.marks g lit list ≡ pass (row_of g list)

  -- ---- the marker, on a list of distinct known edges

  pub record Judged (es : List ℕ) : Type 0 where
    -- it passes exactly if they flip exactly the lit detectors,
    pub exactly : ((row : List ℕ) × (p.marks g lit es ≡ pass row)) ↔ Explains g lit es
    -- and writes the XOR of their observables
    pub row : (row : List ℕ) → p.marks g lit es ≡ pass row → row ≡ row_of g es
    -- the detector that Differs names is wrong, and none below it is
    pub wrong : (d : ℕ) → p.marks g lit es ≡ differs d → (d < g.detectors) × (flipped g es d ≡ get_or lit d false → ⊥) × ((c : ℕ) → c < d → flipped g es c ≡ get_or lit c false)
    -- it refuses no such list
    pub taken : p.marks g lit es ≡ unfit → ⊥

  -- ---- the demand

  pub record Found : Type 0 where
    -- "answers Stuck exactly when no edge set flips exactly the lit detectors";
    pub exactly : Stuck ↔ ((es : List ℕ) → fit g es ≡ true → Explains g lit es → ⊥)
    -- not even a list of known edges with repeats does, and the row is untouched
    pub never : Stuck → (es : List ℕ) → Known g es → Explains g lit es → ⊥
    pub untouched : Stuck → (was : List ℕ) → p.leaves g lit was ≡ was
    -- "otherwise its list is a set of distinct edges that does, the row is their XOR, the marker passes it and writes the same row"
    pub either : Stuck ⊎ Hands
    pub whole : (n : ℕ) (list : List ℕ) → p.decodes g lit ≡ corrected n list → Whole list
    -- "their XOR", bit by bit
    pub xored : (es : List ℕ) → Xored g es
    -- "a set of distinct edges": what fit means
    pub fitting : (es : List ℕ) → (fit g es ≡ true) ↔ (Known g es × Distinct es)
    -- "the marker passes exactly what explains"; every list that is not fit it refuses
    pub judged : (es : List ℕ) → fit g es ≡ true → Judged es
    pub refused : (es : List ℕ) → fit g es ≡ false → p.marks g lit es ≡ unfit
    -- "rounds finished never exceed the edges, each saturating a new one": after them no cluster is active,
    pub rounds : (n : ℕ) (list : List ℕ) → p.decodes g lit ≡ corrected n list → Rounds g lit n × NoneActive g lit n
    -- or the first stuck cluster is the one named,
    pub rounds_stuck : (n d : ℕ) → p.decodes g lit ≡ impossible n d → Rounds g lit n × Halted g lit n d
    -- by its lowest detector
    pub named : (n d : ℕ) → p.decodes g lit ≡ impossible n d → Named g lit n d

-- demand 3 of two programs
abbrev pub Demand3 : Programs → Type 0
Demand3 p = (g : Graph) → AcceptedGraph g → (lit : List Bool) → length lit ≡ g.detectors → Found p g lit
