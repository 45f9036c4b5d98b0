-- What stands at the front of a table, and the lengths of tables.
use Prim.Native.Nat.{ℕ, ◌+◌, ◌-◌, ◌*◌, ◌≤◌}
use native.Mathlib.Omega.{arith}
use native.Mathlib.Nat.{mul-le-mul, add_comm, suc-mul, zero-mul}
use mathlib.Core.Path.{◌≡◌, refl, sym, ap, ap₂, ◌∙◌, subst}
use mathlib.Core.List.{List, [], ◌∷◌, ◌++◌, map}
use lib.ListN.{length, take, drop, length-append}
use lib.Seq.{take-append_seam, drop-append_seam}
use borrow.Rule.Slice.PartMut.{mid_of}
use Rattle.bits.specs.Rows.{words}
use Rattle.dem.specs.Tables.{written}
use Rattle.edges.specs.Compile.{Edge, obs_row}
use Rattle.edges.specs.Tables.{Slices, flat}
use Rattle.edges.proofs.Slices.{row_long}
use Rattle.frames.specs.Input.{start}
use Rattle.frames.specs.Counts.{counts_of}
use Rattle.frames.specs.declared.State.{State}
use Rattle.reader.specs.Columns.{Columns}
use Rattle.session.specs.declared.Numbers.{Numbers}
use Rattle.session.specs.Output.{Session, Answer, goes, ends, begin}
use Rattle.session.specs.Kept.{numbers_of, Keeps, KeptOn}

-- ---- tables

-- what was written is still there
pub again : {A : Type 0} (xs was now : List A) → now ≡ written xs was → now ≡ written xs now
again xs was now e =
    let seam : drop (length xs) now ≡ drop (length xs) was = ap (drop (length xs)) e ∙ drop-append_seam xs (drop (length xs) was) in
    e ∙ ap (λ l. xs ++ l) (sym seam)

pub front_fits : {A : Type 0} (xs now : List A) → now ≡ written xs now → length xs ≤ length now
front_fits xs now e = let n : length now ≡ length (written xs now) = ap length e in omega (arith, n, length-append xs (drop (length xs) now))

-- the same, of a table that kept its length
pub written_fits : {A : Type 0} (xs was now : List A) → now ≡ written xs was → length now ≡ length was → length xs ≤ length was
written_fits xs was now e l = let n : length now ≡ length (written xs was) = ap length e in omega (arith, n, l, length-append xs (drop (length xs) was))

-- the part of a table that is in use
pub front_is : {A : Type 0} (xs now : List A) (k : ℕ) → now ≡ written xs now → k ≡ length xs → mid_of 0 (k - 0) now ≡ xs
front_is xs now k e n =
    let z : k - 0 ≡ length xs = omega (arith, n) in
    ap (λ (j : ℕ). take j now) z ∙ ap (take (length xs)) e ∙ take-append_seam xs (drop (length xs) now)

-- ---- the words of the observables of edges

pub flat_long : (o : ℕ) (es : List Edge) → length (flat (map (λ e. obs_row o e.observables) es)) ≡ length es * words o
unfolding flat
flat_long o [] = sym (zero-mul (words o))
flat_long o (e ∷ es) =
    length-append (obs_row o e.observables) (flat (map (λ e. obs_row o e.observables) es)) ∙ ap₂ ◌+◌ (row_long o e) (flat_long o es)
    ∙ add_comm (words o) (length es * words o) ∙ sym (suc-mul (length es) (words o))

-- few of them
pub words_few : (n o w : ℕ) → n ≤ 1024 → o ≤ 128 → w ≡ words o → n * w ≤ 2048
unfolding words
words_few n o w h k e = mul-le-mul {n₂ = 1024} {m₂ = 2} h (omega (arith, e, k))

-- ---- where the session goes on

-- the tables are kept, by the answer
abbrev pub Left : Answer → Columns → Slices → Type 0
Left (goes t text) c g = Keeps t c g
Left (ends r) c g = Unit {0}

pub kept_on : (a : Answer) (c : Columns) (g : Slices) → Left a c g → KeptOn a c g
kept_on (goes s text) c g k t other e = let q : s ≡ t = cc in subst (λ (x : Session). Keeps x c g) q k
kept_on (ends r) c g k t other e = cc

-- ---- before the first line

pub begin_numbers : (st : State) → st ≡ counts_of start → ◌≡◌ {A = Numbers} (record { state = st; edges = 0; words = 0; shots = 0; failures = 0 }) (numbers_of begin)
unfolding begin flat
begin_numbers st e = rw e refl
