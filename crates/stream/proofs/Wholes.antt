-- A whole line answered behind what the output holds.
use Prim.Native.Nat.{ℕ, ◌+◌, ◌-◌, ◌≤◌}
use native.Mathlib.Omega.{arith}
use mathlib.Core.Path.{◌≡◌, refl, ap, ◌∙◌, subst}
use mathlib.Core.List.{List, []}
use lib.ListN.{length, take}
use borrow.Rule.Slice.PartMut.{mid_of, put_mid}
use Rattle.edges.specs.declared.EdgeTables.{EdgeTables}
use Rattle.edges.specs.Lent.{slices_of, SameEdges}
use Rattle.edges.specs.Tables.{Slices}
use Rattle.reader.specs.declared.Tables.{Tables}
use Rattle.reader.specs.Lent.{columns_in, SameTables}
use Rattle.reader.specs.Columns.{Columns}
use Rattle.session.specs.declared.Numbers.{Numbers}
use Rattle.session.specs.declared.On.{On}
use Rattle.session.specs.Output.{Session, Answer, goes, ends, begin, answer_line}
use Rattle.session.specs.Kept.{Told, numbers_of, Sizes, Keeps, Kept, told_of, text_of, Tells, Answers}
use Rattle.session.proofs.Lines.{same_of, sizes_same}
use Rattle.stream.specs.declared.Place.{Place}
use Rattle.std.specs.declared.ops.ControlFlow.TheVariants.{Continue, Break}
use Rattle.stream.specs.Fed.{Fed, start_place, fed_of, Appended, Whole}
use Rattle.stream.proofs.Blocks.{appended}

-- ---- lengths

pub sizes_all : (r r' : Tables) (t t' : EdgeTables) → SameTables r r' → SameEdges t t' → Sizes (columns_in r) (slices_of t []) → Sizes (columns_in r') (slices_of t' [])
sizes_all r r' t t' e f z =
    let y = sizes_same (columns_in r) (columns_in r') (slices_of t []) (same_of r r' e) z in
    record {
      room = y.room;
      sized = y.sized;
      wide = record {
        ends = omega (arith, f.edge_u_long, z.wide.ends);
        others = omega (arith, f.edge_v_long, z.wide.others);
        weights = omega (arith, f.edge_weight_long, z.wide.weights);
        rows = omega (arith, f.edge_obs_long, z.wide.rows);
      };
      few = omega (arith, f.edge_u_long, z.few);
      rows = omega (arith, f.edge_obs_long, z.rows);
    }

pub start_is : (n : Numbers) → n ≡ numbers_of begin → ◌≡◌ {A = Place} (record { numbers = n; used = 0; taken = 0; filled = 0 }) start_place
start_is n e = rw e refl

-- ---- an answer, told from a place

abbrev fed_by : Place → ℕ → Told → Fed
fed_by p next (Continue t) = Continue (record { numbers = t.numbers; used = 0; taken = next; filled = p.filled + t.written })
fed_by p next (Break w) = Break (p.filled + w)

fed_told : (p : Place) (next : ℕ) (a : Answer) → fed_by p next (told_of a) ≡ fed_of p next a
fed_told p next (goes t text) = refl
fed_told p next (ends r) = refl

-- how much is written
abbrev size : Told → ℕ
size (Continue t) = t.written
size (Break w) = w

size_told : (a : Answer) → size (told_of a) ≡ length (text_of a)
size_told (goes t text) = refl
size_told (ends r) = refl

module _ (p : Place) (line : List ℕ) (long next : ℕ) (c : Columns) (g : Slices) (out part : List ℕ) (r : Told) (c' : Columns) (g' : Slices) (h : p.filled ≤ length out)
    (a : Answers (take long line) p.numbers c g r c' g' (mid_of p.filled (length out - p.filled) out) part)
    (same : length part ≡ length (mid_of p.filled (length out - p.filled) out)) where
  abbrev left : List ℕ
  left = put_mid p.filled (length out - p.filled) out part

  module _ (s : Session) (e : p.numbers ≡ numbers_of s) (k : Keeps s c g) (z : Sizes c g) where
    tells : Tells (answer_line s (take long line)) r (mid_of p.filled (length out - p.filled) out) part
    tells = a.answer s e k z

    behind : Appended p.filled (text_of (answer_line s (take long line))) out left
    behind = appended p.filled (text_of (answer_line s (take long line))) out part h tells.text same

  whole_by : (Sizes c g → Sizes c' g') → Whole p (take long line) next c g out (fed_by p next r) c' g' left
  whole_by sizes = record {
    sizes = sizes;
    answer = λ s e k z. ap (fed_by p next) (tells s e k z).told ∙ fed_told p next (answer_line s (take long line));
    text = behind;
    columns = a.columns;
    slices = a.slices;
    keeps = a.keeps;
  }

  fits_by : Kept p.numbers c g → p.filled + size r ≤ length out
  fits_by q =
      let s = q.session in
      let n : size r ≡ length (text_of (answer_line s (take long line))) = ap size (tells s q.numbers q.keeps q.sizes).told ∙ size_told (answer_line s (take long line)) in
      omega (arith, n, (behind s q.numbers q.keeps q.sizes).fits)

  module _ (t : On) (e : r ≡ Continue t) where
    pub on_fits : Kept p.numbers c g → p.filled + t.written ≤ length out
    on_fits q = omega (arith, fits_by q, ap size e)

    pub whole_on : (Sizes c g → Sizes c' g') → Whole p (take long line) next c g out (Continue (record { numbers = t.numbers; used = 0; taken = next; filled = p.filled + t.written })) c' g' left
    whole_on sizes = subst (λ (x : Told). Whole p (take long line) next c g out (fed_by p next x) c' g' left) e (whole_by sizes)

  module _ (w : ℕ) (e : r ≡ Break w) where
    pub ended_fits : Kept p.numbers c g → p.filled + w ≤ length out
    ended_fits q = omega (arith, fits_by q, ap size e)

    pub whole_ended : (Sizes c g → Sizes c' g') → Whole p (take long line) next c g out (Break (p.filled + w)) c' g' left
    whole_ended sizes = subst (λ (x : Told). Whole p (take long line) next c g out (fed_by p next x) c' g' left) e (whole_by sizes)
