-- From turn to turn.
use Prim.Native.Nat.{ℕ, ◌+◌, ◌-◌, ◌≤◌}
use native.Mathlib.Omega.{arith}
use mathlib.Core.Path.{◌≡◌, refl, ap, ◌∙◌}
use mathlib.Core.Bool.{true}
use mathlib.Core.List.{List}
use lib.ListN.{length, take, drop, length-append}
use Rattle.edges.specs.Tables.{Slices}
use Rattle.frames.specs.Input.{lines_of}
use Rattle.frames.specs.LineLaws.{unended}
use Rattle.reader.specs.Columns.{Columns}
use Rattle.session.specs.declared.Numbers.{Numbers}
use Rattle.session.specs.Output.{begin, answers}
use Rattle.session.specs.Kept.{Kept}
use Rattle.stream.specs.declared.Place.{Place}
use Rattle.std.specs.declared.ops.ControlFlow.TheVariants.{Continue, Break}
use Rattle.stream.specs.Fed.{start_place, Feeds}
use Rattle.input_end.specs.Finish.{Finishes}
use Rattle.stream.proofs.Begins.{begin_keeps}
use Rattle.stream.proofs.Blocks.{appended_long}
use Rattle.stream.specs.Long.{Long}
use Rattle.standard_input.specs.Ready.{Ready}

-- ---- before the first block

pub start_ready : (p : Place) → p ≡ start_place → (c : Columns) (g : Slices) (block line out : List ℕ) → Long c g line out → Ready p 0 c g block line out
unfolding unended
start_ready p e c g block line out l = rw e (record {
  standing = record {
    session = begin;
    at = record {
      numbers = refl;
      keeps = begin_keeps c g;
      sizes = l.sizes;
      placed = record { buffer = l.buffer; used = omega arith; unbroken = refl; taken = omega arith; filled = omega arith };
    };
  };
  within = omega arith;
  room = l.room;
})

-- ---- a block

module _ (p : Place) (size : ℕ) (c : Columns) (g : Slices) (block line out : List ℕ) (r : Ready p size c g block line out) where
  module _ (c' : Columns) (g' : Slices) (line' out' : List ℕ) where
    pub block_fits : (q : Place) → Feeds p c g (take size block) line out (Continue q) c' g' line' out' → q.filled ≤ length out'
    block_fits q f = (f r.standing.session r.standing.at).at.placed.filled

    pub block_over : (k : ℕ) → Feeds p c g (take size block) line out (Break k) c' g' line' out' → k ≤ length out'
    block_over k f =
        let o = f r.standing.session r.standing.at in
        omega (arith, o.counted, o.appended.fits, appended_long p.filled o.text out out' o.appended)

    pub block_ready : (q : Place) → Feeds p c g (take size block) line out (Continue q) c' g' line' out' → length out' ≡ length out
        → Ready (record { numbers = q.numbers; used = q.used; taken = q.taken; filled = 0 }) size c' g' block line' out'
    block_ready q f same =
        let o = f r.standing.session r.standing.at in
        let a = o.at in
        let b = a.placed in
        record {
          standing = record {
            session = o.session;
            at = record {
              numbers = a.numbers;
              keeps = a.keeps;
              sizes = a.sizes;
              placed = record { buffer = b.buffer; used = b.used; unbroken = b.unbroken; taken = b.taken; filled = omega arith };
            };
          };
          within = r.within;
          room = omega (arith, r.room, same);
        }

  -- the next block
  pub next_ready : (block' : List ℕ) (n : ℕ) → n ≤ length block' → Ready (record { numbers = p.numbers; used = p.used; taken = 0; filled = 0 }) n c g block' line out
  next_ready block' n h =
      let a = r.standing.at in
      let b = a.placed in
      record {
        standing = record {
          session = r.standing.session;
          at = record {
            numbers = a.numbers;
            keeps = a.keeps;
            sizes = a.sizes;
            placed = record { buffer = b.buffer; used = b.used; unbroken = b.unbroken; taken = omega arith; filled = omega arith };
          };
        };
        within = h;
        room = r.room;
      }

  -- the end
  pub ready_end : (1101 ≤ length out) × (p.used ≤ length line) × (unended (take p.used line) ≡ true) × Kept p.numbers c g
  ready_end =
      let a = r.standing.at in
      let b = a.placed in
      (r.room, omega (arith, b.used, b.buffer), b.unbroken, record { session = r.standing.session; numbers = a.numbers; keeps = a.keeps; sizes = a.sizes })

pub end_fits : (n : Numbers) (c : Columns) (g : Slices) (line : List ℕ) (r : ℕ) (c' : Columns) (g' : Slices) (was out : List ℕ) → Finishes n c g line r c' g' was out → Kept n c g → length out ≡ length was → r ≤ length out
end_fits n c g line r c' g' was out f k same =
    let s = k.session in
    let text = answers s (lines_of line) in
    let p = f.long s k.numbers k.keeps k.sizes in
    let q : length out ≡ length text + length (drop (length text) was) = ap length (f.text s k.numbers k.keeps k.sizes) ∙ length-append text (drop (length text) was) in
    omega (arith, p, q)
