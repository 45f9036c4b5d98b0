-- What was written is what the input is answered with.
use Rattle.std.specs.Prelude.{Option, Some, None}
use Prim.Native.Nat.{ℕ, suc, ◌+◌, ◌-◌, ◌<◌, ◌≤◌}
use native.Mathlib.Omega.{arith}
use native.Mathlib.Nat.{sub-zero, zero-add}
use mathlib.Core.Path.{◌≡◌, refl, sym, ap, ap₂, ◌∙◌, subst}
use mathlib.Core.Bool.{true, false}
use mathlib.Core.List.{List, [], ◌∷◌, ◌++◌, append_assoc, append-nil}
use mathlib.Core.Logic.{◌⊎◌, inl, inr}
use lib.Dec.{leb, ltb}
use lib.ListN.{length, take, drop, length-append, take-append-drop}
use lib.Seq.{take_all, take_at, length-take-le, set_out, sets, sets-eq, length-sets}
use borrow.Author.Tests.{le-leb, leb-true, ltb-true, ltb-false}
use Rattle.lists.proofs.Truth.{case-of}
use Rattle.dem.specs.Tables.{written}
use Rattle.edges.specs.Tables.{Slices}
use Rattle.lists.proofs.Slices.{sets_append}
use Rattle.frames.specs.Input.{lines_of}
use Rattle.frames.specs.LineLaws.{unended}
use Rattle.reader.specs.Columns.{Columns}
use Rattle.stream.proofs.Begins.{begin_keeps}
use Rattle.session.specs.Output.{begin, answers, output_of}
use Rattle.session.specs.Kept.{Kept}
use Rattle.stream.specs.declared.Place.{Place}
use Rattle.std.specs.declared.ops.ControlFlow.TheVariants.{Continue, Break}
use Rattle.stream.specs.Text.{Comes, Closes}
use Rattle.stream.specs.Fed.{start_place, between, Appended, Standing, Onward, Over, Feeds}
use Rattle.stream.proofs.Parts as parts
use Rattle.stream.proofs.Blocks.{between_none, between_rest, between_split}
use Rattle.input_end.specs.Finish.{Finishes}
use Rattle.whole_input.specs.Whole.{fitted, Answered, Put, Filled}
use Rattle.stream.specs.Long.{Long}

-- ---- a text stored as far as it fits

sets_past : (l : List ℕ) (i : ℕ) (vs : List ℕ) → length l ≤ i → sets l i vs ≡ l
sets_past l i [] h = refl
sets_past l i (v ∷ vs) h = ap (λ (x : List ℕ). sets x (suc i) vs) (set_out l i v h) ∙ sets_past l (suc i) vs (omega (arith, h))

-- what comes after a text that fills the slice is not stored
sets_over : (l : List ℕ) (i : ℕ) (a b : List ℕ) → length l ≤ i + length a → sets l i (a ++ b) ≡ sets l i a
sets_over l i a b h = sets_append l i a b ∙ sets_past (sets l i a) (i + length a) b (omega (arith, h, length-sets l i a))

fitted_whole : (size room : ℕ) → size ≤ room → fitted size room ≡ Some size
fitted_whole size room h = rw (le-leb size room h) refl

fitted_none : (size room : ℕ) → room < size → fitted size room ≡ None
fitted_none size room h = rw (lt_not_leb size room h) refl
  where
    lt_not_leb : (a b : ℕ) → b < a → leb a b ≡ false
    lt_not_leb a b k = case-of (leb a b) (λ t. absurd (omega (arith, k, leb-true a b t))) (λ f. f)

not_none : {k : ℕ} → ◌≡◌ {A = Option ℕ} None (Some k) → ⊥
not_none e = cc

module _ (text : List ℕ) (at : ℕ) (out out' : List ℕ) (h : at ≤ length out) where
  pub put_whole : length text ≤ length out - at → out' ≡ take at out ++ (text ++ drop (at + length text) out) → Put text at (Some (at + length text)) out out'
  put_whole k e = record {
    answer = sym (fitted_whole (at + length text) (length out) (omega (arith, h, k)));
    output = e ∙ sym (append_assoc (take at out) text (drop (at + length text) out)) ∙ sym (sets-eq text out at (omega (arith, h, k)));
  }

  pub put_cut : (part : List ℕ) → part ≡ take (length out - at) text → length out - at < length text → out' ≡ take at out ++ (part ++ drop (at + length part) out) → Put text at None out out'
  put_cut part p k e =
      let long : length part ≡ length out - at = ap length p ∙ length-take-le (length out - at) text (omega (arith, k)) in
      record {
        answer = sym (fitted_none (at + length text) (length out) (omega (arith, h, k)));
        output = e ∙ sym (append_assoc (take at out) part (drop (at + length part) out)) ∙ sym (sets-eq part out at (omega (arith, h, long)))
            ∙ sym (sets_over out at part (drop (length out - at) text) (omega (arith, h, long)))
            ∙ ap (sets out at) (ap (λ (l : List ℕ). l ++ drop (length out - at) text) p ∙ take-append-drop (length out - at) text);
      }

whole_fits : {size room next : ℕ} → Some next ≡ fitted size room → (size ≤ room) × (next ≡ size)
whole_fits {size} {room} {next} z =
    case-of (ltb room size)
    (λ t. absurd (not_none (sym (z ∙ fitted_none size room (ltb-true room size t)))))
    (λ h. let le = ltb-false room size h in (le, let y : ◌≡◌ {A = Option ℕ} (Some next) (Some size) = z ∙ fitted_whole size room le in cc))

no_room : {size room : ℕ} → None ≡ fitted size room → room < size
no_room {size} {room} z = case-of (ltb room size) (λ t. ltb-true room size t) (λ h. absurd (not_none (z ∙ fitted_whole size room (ltb-false room size h))))

-- an answer that was written whole lies within the output
pub answered_fits : (input : List ℕ) (n : ℕ) (was out : List ℕ) → Answered input (Some n) was out → n ≤ length out
answered_fits input n was out a =
    let (le, same) = whole_fits {size = length (output_of input)} {room = length was} {next = n} a.answer in
    omega (arith, le, same, ap length a.text, length-sets was 0 (output_of input))

-- ---- before the first byte

pub filled_first : (p : Place) → p ≡ start_place → (c : Columns) (g : Slices) (input line reply out : List ℕ) → Long c g line reply → Filled input p 0 c g line reply out out
unfolding unended
filled_first p e c g input line reply out l = rw e (record {
  session = begin;
  text = [];
  stands = record {
    numbers = refl;
    keeps = begin_keeps c g;
    sizes = l.sizes;
    placed = record { buffer = l.buffer; used = omega arith; unbroken = refl; taken = omega arith; filled = omega arith };
  };
  comes = rw (between_none input 0) (parts.first);
  count = refl;
  fits = omega arith;
  output = refl;
})

-- ---- some lines

-- the text that a call has gathered
gathered : (text reply reply' : List ℕ) (n : ℕ) → n ≡ 0 + length text → Appended 0 text reply reply' → take n reply' ≡ text
gathered text reply reply' n e a =
    let k : n ≡ length text = omega (arith, e) in
    ap (λ (j : ℕ). take j reply') k ∙ ap (take (length text)) (a.output ∙ sets-eq text reply 0 a.fits)
    ∙ take_at text (drop (0 + length text) reply) (length text) refl

module _ (input : List ℕ) (p : Place) (at : ℕ) (c : Columns) (g : Slices) (line reply was out : List ℕ) (f : Filled input p at c g line reply was out) where
  pub filled_standing : Standing p c g input line reply
  filled_standing = record { session = f.session; at = f.stands }

  out_long : length out ≡ length was
  out_long = ap length f.output ∙ length-sets was 0 f.text

  pub filled_fits : at ≤ length out
  filled_fits = omega (arith, out_long, f.fits)

  both : (text out' : List ℕ) → out' ≡ sets out at text → out' ≡ sets was 0 (f.text ++ text)
  both text out' e =
      e ∙ ap₂ (λ (l : List ℕ) (k : ℕ). sets l k text) f.output (f.count ∙ sym (zero-add (length f.text))) ∙ sym (sets_append was 0 f.text text)

  -- the answer to all of it, with what is still to come
  answered_by : (text rest : List ℕ) → output_of input ≡ (f.text ++ text) ++ rest → (r : Option ℕ) (out' : List ℕ) → Put text at r out out' → (rest ≡ []) ⊎ (length was < at + length text) → Answered input r was out'
  answered_by text rest e r out' u (inl z) =
      let all : output_of input ≡ f.text ++ text = e ∙ ap (λ (l : List ℕ). (f.text ++ text) ++ l) z ∙ append-nil (f.text ++ text) in
      let size : at + length text ≡ length (output_of input) = ap (λ (k : ℕ). k + length text) f.count ∙ sym (ap length all ∙ length-append f.text text) in
      record {
        answer = u.answer ∙ ap₂ fitted size out_long;
        text = both text out' u.output ∙ ap (sets was 0) (sym all);
      }
  answered_by text rest e r out' u (inr over) =
      let size : length (f.text ++ text) ≡ at + length text = length-append f.text text ∙ ap (λ (k : ℕ). k + length text) (sym f.count) in
      let long : length (output_of input) ≡ length (f.text ++ text) + length rest = ap length e ∙ length-append (f.text ++ text) rest in
      record {
        answer = u.answer ∙ fitted_none (at + length text) (length out) (omega (arith, over, out_long))
            ∙ sym (fitted_none (length (output_of input)) (length was) (omega (arith, over, size, long)));
        text = both text out' u.output ∙ sym (ap (sets was 0) e ∙ sets_over was 0 (f.text ++ text) rest (omega (arith, over, size)));
      }

  module _ (c' : Columns) (g' : Slices) (line' reply' : List ℕ) (empty : p.filled ≡ 0) where
    -- the output was ended
    module _ (n : ℕ) (e : Feeds p c g input line reply (Break n) c' g' line' reply') where
      o : Over f.session p n input line reply c g c' g' reply'
      o = e f.session f.stands

      zero_counted : n ≡ 0 + length o.text
      zero_counted = o.counted ∙ ap (λ (k : ℕ). k + length o.text) empty

      zero_put : Appended 0 o.text reply reply'
      zero_put = subst (λ (k : ℕ). Appended k o.text reply reply') empty o.appended

      pub over_fits : n ≤ length reply
      over_fits = omega (arith, zero_counted, zero_put.fits)

      pub over_answered : (r : Option ℕ) (out' : List ℕ) → Put (take n reply') at r out out' → Answered input r was out'
      unfolding output_of
      over_answered r out' u =
          let text = gathered o.text reply reply' n zero_counted zero_put in
          let closes : Closes begin [] (between 0 p.taken input ++ drop p.taken input) (f.text ++ o.text) = parts.closed _ _ _ _ _ _ _ _ f.comes o.closes in
          let whole : output_of input ≡ f.text ++ o.text
          = ap (λ (l : List ℕ). answers begin (lines_of l)) (between_rest input 0 p.taken (omega arith) ∙ sym (append-nil (between 0 p.taken input ++ drop p.taken input)))
          ∙ closes.whole [] in
          answered_by o.text [] (whole ∙ sym (append-nil (f.text ++ o.text))) r out' (subst (λ (l : List ℕ). Put l at r out out') text u) (inl refl)

    -- or it goes on
    module _ (q : Place) (e : Feeds p c g input line reply (Continue q) c' g' line' reply') where
      w : Onward f.session p q input line reply c g c' g' line' reply'
      w = e f.session f.stands

      on_counted : q.filled ≡ 0 + length w.text
      on_counted = w.filled ∙ ap (λ (k : ℕ). k + length w.text) empty

      on_put : Appended 0 w.text reply reply'
      on_put = subst (λ (k : ℕ). Appended k w.text reply reply') empty w.appended

      pub on_fits : q.filled ≤ length reply
      on_fits = omega (arith, on_counted, on_put.fits)

      comes : Comes begin [] (between 0 q.taken input) (f.text ++ w.text) w.session (take q.used line')
      comes =
          subst (λ (l : List ℕ). Comes begin [] l (f.text ++ w.text) w.session (take q.used line'))
          (sym (between_split input 0 p.taken q.taken (omega arith) w.onward)) (parts.on _ _ _ _ _ _ _ _ _ _ f.comes w.comes)

      module _ (r : Option ℕ) (out' : List ℕ) (u : Put (take q.filled reply') at r out out') where
        puts : Put w.text at r out out'
        puts = subst (λ (l : List ℕ). Put l at r out out') (gathered w.text reply reply' q.filled on_counted on_put) u

        pub on_answered : r ≡ None → Answered input r was out'
        unfolding output_of
        on_answered k =
            let rest = drop q.taken input in
            let whole : output_of input ≡ (f.text ++ w.text) ++ answers w.session (lines_of (take q.used line' ++ rest))
            = ap (λ (l : List ℕ). answers begin (lines_of l)) (between_rest input 0 q.taken (omega arith)) ∙ comes.whole rest in
            answered_by w.text (answers w.session (lines_of (take q.used line' ++ rest))) whole r out' puts (inr (omega (arith, out_long, no_room {size = at + length w.text} {room = length out} (sym k ∙ puts.answer))))

        pub on_filled : (next : ℕ) → r ≡ Some next → Filled input (record { numbers = q.numbers; used = q.used; taken = q.taken; filled = 0 }) next c' g' line' reply' was out'
        on_filled next k =
            let a = w.at in
            let b = a.placed in
            let fits : (at + length w.text ≤ length out) × (next ≡ at + length w.text) = whole_fits {size = at + length w.text} {room = length out} {next = next} (sym k ∙ puts.answer) in
            record {
              session = w.session;
              text = f.text ++ w.text;
              stands = record {
                numbers = a.numbers;
                keeps = a.keeps;
                sizes = a.sizes;
                placed = record { buffer = b.buffer; used = b.used; unbroken = b.unbroken; taken = b.taken; filled = omega arith };
              };
              comes = comes;
              count = fits.1 ∙ ap (λ (j : ℕ). j + length w.text) f.count ∙ sym (length-append f.text w.text);
              fits = omega (arith, fits.0, fits.1, out_long);
              output = both w.text out' puts.output;
            }

  -- ---- the end

  module _ (all : length input ≤ p.taken) where
    pub end_requires : 1101 ≤ length reply → (1101 ≤ length reply) × (p.used ≤ length line) × (unended (take p.used line) ≡ true) × Kept p.numbers c g
    end_requires room =
        let a = f.stands in
        let b = a.placed in
        (room, omega (arith, b.used, b.buffer), b.unbroken, record { session = f.session; numbers = a.numbers; keeps = a.keeps; sizes = a.sizes })

    module _ (n : ℕ) (c' : Columns) (g' : Slices) (reply' : List ℕ) (e : Finishes p.numbers c g (take p.used line) n c' g' reply reply') (same : length reply' ≡ length reply) where
      abbrev last : List ℕ
      last = answers f.session (lines_of (take p.used line))

      counted : n ≡ length last
      counted = let a = f.stands in e.long f.session a.numbers a.keeps a.sizes

      written_is : reply' ≡ written last reply
      written_is = let a = f.stands in e.text f.session a.numbers a.keeps a.sizes

      pub end_fits : n ≤ length reply
      end_fits = omega (arith, counted, same, ap length written_is, length-append last (drop (length last) reply))

      pub end_answered : (r : Option ℕ) (out' : List ℕ) → Put (take n reply') at r out out' → Answered input r was out'
      end_answered r out' u =
          let text : take n reply' ≡ last = ap (λ (j : ℕ). take j reply') counted ∙ ap (take (length last)) written_is ∙ take_at last (drop (length last) reply) (length last) refl in
          let z : p.taken - 0 ≡ p.taken = sub-zero p.taken in
          let whole : between 0 p.taken input ≡ input = ap (λ (j : ℕ). take j input) z ∙ take_all p.taken input all in
          let comes = subst (λ (l : List ℕ). Comes begin [] l f.text f.session (take p.used line)) whole f.comes in
          let output-is = (parts.laws).all input f.text (take p.used line) f.session comes in
          answered_by last [] (output-is ∙ sym (append-nil (f.text ++ last))) r out' (subst (λ (l : List ℕ). Put l at r out out') text u) (inl refl)
