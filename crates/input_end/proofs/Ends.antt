-- The last line, and the end.
use Prim.Native.Nat.{ℕ, ◌+◌, ◌-◌, ◌≤◌}
use native.Mathlib.Omega.{arith}
use mathlib.Core.Path.{◌≡◌, refl, sym, ap, ap₂, ◌∙◌}
use mathlib.Core.Bool.{true}
use mathlib.Core.List.{List, [], ◌∷◌, ◌++◌, append_assoc}
use lib.ListN.{length, take, drop, length-append, length-take, length-drop, take-append-drop}
use lib.Seq.{drop-append-le, length-take-le}
use borrow.Rule.Slice.PartMut.{mid_of, put_mid, mid_len, same_len_mid}
use Rattle.dem.specs.Tables.{written}
use Rattle.edges.specs.Tables.{Slices}
use Rattle.frames.specs.Input.{at_end, lines_of}
use Rattle.frames.specs.LineLaws.{unended}
use Rattle.frames.proofs.Cut.{last}
use Rattle.reader.specs.Columns.{Columns}
use Rattle.shot_reply.proofs.Texts.{two_lines}
use Rattle.replies.specs.Last.{last_text}
use Rattle.session.specs.declared.Numbers.{Numbers}
use Rattle.session.specs.declared.On.{On}
use Rattle.std.specs.declared.ops.ControlFlow.TheVariants.{Continue, Break}
use Rattle.session.specs.Output.{Session, Answer, goes, ends, go_on, answer_line, answers, end_text}
use Rattle.session.specs.Kept.{Told, numbers_of, Sizes, Keeps, Kept, told_of, text_of, KeptOn, Tells, Answers}
use Rattle.session.specs.Memory.{Memory, memory, after_line, go_on_with, memory_after}
use Rattle.input_end.specs.Finish.{Finishes}

abbrev end_of : Numbers → List ℕ
end_of n = last_text (at_end n.state.stage) n.state.observables n.failures n.shots

end_is : (s : Session) (n : Numbers) → n ≡ numbers_of s → end_of n ≡ end_text s
unfolding end_text
end_is s n e = ap end_of e

pub kept_failures : (n : Numbers) (c : Columns) (g : Slices) → Kept n c g → n.failures ≤ n.shots
kept_failures n c g p = rw p.numbers p.keeps.failures

-- ---- no line is begun

none_begun : (s : Session) (line : List ℕ) (used : ℕ) → used ≡ 0 → answers s (lines_of (take used line)) ≡ end_text s
unfolding answers lines_of
none_begun s line used e = ap (λ (k : ℕ). answers s (lines_of (take k line))) e

none_left : (s : Session) (line : List ℕ) (used : ℕ) → used ≡ 0 → (m : Memory) → memory_after s m (lines_of (take used line)) ≡ m
unfolding memory_after lines_of
none_left s line used e m = ap (λ (k : ℕ). memory_after s m (lines_of (take k line))) e

pub end_only : (n : Numbers) (c : Columns) (g : Slices) (line : List ℕ) (used r : ℕ) (was out : List ℕ) → used ≡ 0 → (r ≡ length (end_of n)) × (out ≡ written (end_of n) was)
    → Finishes n c g (take used line) r c g was out
end_only n c g line used r was out z p =
    let same : (s : Session) → n ≡ numbers_of s → end_of n ≡ answers s (lines_of (take used line)) = λ s e. end_is s n e ∙ sym (none_begun s line used z) in
    record {
      long = λ s e k y. p.0 ∙ ap length (same s e);
      text = λ s e k y. p.1 ∙ ap (λ (l : List ℕ). written l was) (same s e);
      tables = λ s e k y. sym (none_left s line used z (memory c g));
    }

-- ---- a last line

one_line : (s : Session) (line : List ℕ) → unended line ≡ true → 1 ≤ length line → answers s (lines_of line) ≡ go_on (answer_line s line) (λ t. end_text t)
unfolding answers
one_line s [] u h = absurd (omega arith)
one_line s (b ∷ line) u h = ap (answers s) (last b line u)

last_left : (a : Answer) (m : Memory) → go_on_with a m (λ t n. n) ≡ m
last_left (goes t text) m = refl
last_left (ends r) m = refl

one_left : (s : Session) (line : List ℕ) (m : Memory) → unended line ≡ true → 1 ≤ length line → memory_after s m (lines_of line) ≡ after_line s line m
unfolding memory_after
one_left s [] m u h = absurd (omega arith)
one_left s (b ∷ line) m u h = ap (memory_after s m) (last b line u) ∙ last_left (answer_line s (b ∷ line)) (after_line s (b ∷ line) m)

-- a text at the front of a part at the front
front_put : (text out part : List ℕ) (k : ℕ) → k ≤ length out → part ≡ written text (take k out) → length part ≡ length (take k out) → part ++ drop k out ≡ written text out
front_put text out part k h p same =
    let long : length part ≡ length text + length (drop (length text) (take k out)) = ap length p ∙ length-append text (drop (length text) (take k out)) in
    let fits : length text ≤ length (take k out) = omega (arith, long, same) in
    ap (λ (l : List ℕ). l ++ drop k out) p ∙ append_assoc text (drop (length text) (take k out)) (drop k out)
    ∙ ap (λ (l : List ℕ). text ++ l) (sym (drop-append-le (length text) (take k out) (drop k out) fits) ∙ ap (drop (length text)) (take-append-drop k out))

abbrev size : Told → ℕ
size (Continue t) = t.written
size (Break w) = w

size_told : (a : Answer) → size (told_of a) ≡ length (text_of a)
size_told (goes t text) = refl
size_told (ends r) = refl

no_on : {A : Type 0} {t : On} {v : ℕ} → ◌≡◌ {A = Told} (Continue t) (Break v) → A
no_on e = cc

on_numbers : (o : On) (t : Session) (text : List ℕ) → ◌≡◌ {A = Told} (Continue o) (told_of (goes t text)) → o.numbers ≡ numbers_of t
on_numbers o t text e = let same : o ≡ record { numbers = numbers_of t; written = length text } = cc in ap (λ (x : On). x.numbers) same

module _ (n : Numbers) (c : Columns) (g : Slices) (line : List ℕ) (used : ℕ) (out part : List ℕ) (r : Told) (c' : Columns) (g' : Slices) (u : unended (take used line) ≡ true) (some : used ≡ 0 → ⊥) (fits : used ≤ length line)
    (room : 1101 ≤ length out) (a : Answers (take used line) n c g r c' g' (take 1066 out) part) (same : length part ≡ length (take 1066 out)) where
  abbrev after : List ℕ
  after = part ++ drop 1066 out

  module _ (s : Session) (e : n ≡ numbers_of s) (k : Keeps s c g) (z : Sizes c g) where
    tells : Tells (answer_line s (take used line)) r (take 1066 out) part
    tells = a.answer s e k z

    keeps : KeptOn (answer_line s (take used line)) c' g'
    keeps = a.keeps s e k z

    left : memory c' g' ≡ memory_after s (memory c g) (lines_of (take used line))
    left =
        ap₂ memory (a.columns s e k z) (a.slices s e k z)
        ∙ sym (one_left s (take used line) (memory c g) u (omega (arith, some, length-take-le used line fits)))

    whole : answers s (lines_of (take used line)) ≡ go_on (answer_line s (take used line)) (λ t. end_text t)
    whole = one_line s (take used line) u (omega (arith, some, length-take-le used line fits))

    front : after ≡ written (text_of (answer_line s (take used line))) out
    front = front_put (text_of (answer_line s (take used line))) out part 1066 (omega arith) tells.text same

    size_is : size r ≡ length (text_of (answer_line s (take used line)))
    size_is = ap size tells.told ∙ size_told (answer_line s (take used line))

    few : size r ≤ 1066
    few =
        let text = text_of (answer_line s (take used line)) in
        let long : length part ≡ length text + length (drop (length text) (take 1066 out)) = ap length tells.text ∙ length-append text (drop (length text) (take 1066 out)) in
        omega (arith, size_is, long, same, length-take 1066 out)

    -- a refusal
    ended_by : (w : ℕ) → r ≡ Break w → (x : Answer) → answer_line s (take used line) ≡ x
        → (w ≡ length (go_on x (λ t. end_text t))) × (after ≡ written (go_on x (λ t. end_text t)) out)
    ended_by w q (goes t text) p = no_on (sym (ap told_of p) ∙ sym tells.told ∙ q)
    ended_by w q (ends y) p =
        (sym (ap size q) ∙ size_is ∙ ap (λ (x : Answer). length (text_of x)) p, front ∙ ap (λ (x : Answer). written (text_of x) out) p)

    -- or the end behind the answer
    on_by : (o : On) (v : ℕ) (tail : List ℕ) → r ≡ Continue o → (v ≡ length (end_of o.numbers)) × (tail ≡ written (end_of o.numbers) (mid_of o.written (length after - o.written) after))
        → (x : Answer) → answer_line s (take used line) ≡ x
        → (o.written + v ≡ length (go_on x (λ t. end_text t))) × (put_mid o.written (length after - o.written) after tail ≡ written (go_on x (λ t. end_text t)) out)
    on_by o v tail q p (ends y) b = no_on (sym q ∙ tells.told ∙ ap told_of b)
    on_by o v tail q p (goes t text) b =
        let numbers = on_numbers o t text (sym q ∙ tells.told ∙ ap told_of b) in
        let long : o.written ≡ length text = sym (ap size q) ∙ size_is ∙ ap (λ (x : Answer). length (text_of x)) b in
        let end : end_of o.numbers ≡ end_text t = end_is t o.numbers numbers in
        let first : after ≡ written text out = front ∙ ap (λ (x : Answer). written (text_of x) out) b in (
          ap₂ ◌+◌ long (p.0 ∙ ap length end) ∙ sym (length-append text (end_text t)),
          two_lines text (end_text t) out after tail o.written long first (p.1 ∙ ap (λ (l : List ℕ). written l (mid_of o.written (length after - o.written) after)) end),
        )

    failures_by : (o : On) → r ≡ Continue o → (x : Answer) → answer_line s (take used line) ≡ x → KeptOn x c' g' → o.numbers.failures ≤ o.numbers.shots
    failures_by o q (ends y) b l = no_on (sym q ∙ tells.told ∙ ap told_of b)
    failures_by o q (goes t text) b l = rw (on_numbers o t text (sym q ∙ tells.told ∙ ap told_of b)) (l t text refl).failures

  pub after_long : length after ≡ length out
  after_long = omega (arith, same, length-append part (drop 1066 out), length-take 1066 out, length-drop 1066 out, room)

  -- ---- the contract

  pub end_refused : (w : ℕ) → r ≡ Break w → Finishes n c g (take used line) w c' g' out after
  end_refused w q = record {
    long = λ s e k z. (ended_by s e k z w q (answer_line s (take used line)) refl).0 ∙ ap length (sym (whole s e k z));
    text = λ s e k z. (ended_by s e k z w q (answer_line s (take used line)) refl).1 ∙ ap (λ (l : List ℕ). written l out) (sym (whole s e k z));
    tables = left;
  }

  module _ (o : On) (q : r ≡ Continue o) where
    pub end_few : Kept n c g → o.written ≤ 1066
    end_few p = omega (arith, few p.session p.numbers p.keeps p.sizes, ap size q)

    pub end_failures : Kept n c g → o.numbers.failures ≤ o.numbers.shots
    end_failures p =
        failures_by p.session p.numbers p.keeps p.sizes o q (answer_line p.session (take used line)) refl (keeps p.session p.numbers p.keeps p.sizes)

    pub end_room : Kept n c g → 35 ≤ length (mid_of o.written (length after - o.written) after)
    end_room p = omega (arith, mid_len o.written (length after) after (omega arith), after_long, end_few p, room)

    pub end_sum : Kept n c g → (v : ℕ) (tail : List ℕ) → (v ≡ length (end_of o.numbers)) × (tail ≡ written (end_of o.numbers) (mid_of o.written (length after - o.written) after)) → length tail ≡ length (mid_of o.written (length after - o.written) after)
        → o.written + v ≤ length out
    end_sum p v tail q t =
        let old = mid_of o.written (length after - o.written) after in
        let long : length tail ≡ length (end_of o.numbers) + length (drop (length (end_of o.numbers)) old) = ap length q.1 ∙ length-append (end_of o.numbers) (drop (length (end_of o.numbers)) old) in
        omega (arith, q.0, long, t, mid_len o.written (length after) after (omega arith), after_long, end_few p, room)

    pub end_long : (tail : List ℕ) → length tail ≡ length (mid_of o.written (length after - o.written) after) → length (put_mid o.written (length after - o.written) after tail) ≡ length out
    end_long tail t = same_len_mid o.written (length after - o.written) after tail t ∙ after_long

    pub end_on : (v : ℕ) (tail : List ℕ) → (v ≡ length (end_of o.numbers)) × (tail ≡ written (end_of o.numbers) (mid_of o.written (length after - o.written) after))
        → Finishes n c g (take used line) (o.written + v) c' g' out (put_mid o.written (length after - o.written) after tail)
    end_on v tail p = record {
      long = λ s e k z. (on_by s e k z o v tail q p (answer_line s (take used line)) refl).0 ∙ ap length (sym (whole s e k z));
      text = λ s e k z. (on_by s e k z o v tail q p (answer_line s (take used line)) refl).1 ∙ ap (λ (l : List ℕ). written l out) (sym (whole s e k z));
      tables = left;
    }
