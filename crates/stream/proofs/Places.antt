-- From place to place.
use Prim.Native.Nat.{ℕ, ◌+◌, ◌-◌, ◌<◌, ◌≤◌}
use native.Mathlib.Omega.{arith}
use mathlib.Core.Path.{◌≡◌, refl, sym, ap, ap₂, ◌∙◌, subst}
use mathlib.Core.Bool.{true}
use mathlib.Core.List.{List, [], ◌∷◌, ◌++◌}
use mathlib.Core.Logic.{◌⊎◌, inl, inr}
use lib.ListN.{length, take, drop, length-append}
use lib.Seq.{length-take-le}
use Rattle.codes.specs.declared.Refusal.TheVariants.{Frame}
use Rattle.edges.specs.Tables.{Slices}
use Rattle.frames.specs.LineLaws.{longest, unended}
use Rattle.reader.specs.Columns.{Columns}
use Rattle.replies.specs.Last.{refusal_text}
use Rattle.frames.specs.Input.{lines_of}
use Rattle.session.specs.Output.{Session, Answer, goes, ends, answer_line, answers}
use Rattle.session.specs.Kept.{Kept, text_of, KeptOn}
use Rattle.session.specs.Memory.{Memory, memory, after_line, memory_after}
use Rattle.stream.specs.declared.Place.{Place}
use Rattle.std.specs.declared.ops.ControlFlow.TheVariants.{Continue, Break}
use Rattle.stream.specs.Text.{Comes, Closes, Leads, Settles}
use Rattle.stream.specs.Fed.{Fed, between, LineEnd, fed_of, Appended, Whole, At, Standing, Onward, Reached, Feeds, Further, Presses}
use Rattle.stream.proofs.Parts.{on, closed, leads, settles}
use Rattle.stream.proofs.Blocks.{between_none, between_next, between_rest, between_split, between_long, unended_both, appended_none, appended_both, appended_long}
use Rattle.stream.proofs.Steps.{part_comes, part_leads, line_comes, line_closes, line_leads, line_settles, long_closes, long_settles}

-- ---- an answer, taken apart

no_on : {A : Type 0} {k : ℕ} {q : Place} → ◌≡◌ {A = Fed} (Break k) (Continue q) → A
no_on e = cc

-- how much of the block is taken
abbrev taken_by : Fed → ℕ
taken_by (Continue q) = q.taken
taken_by (Break k) = 0

-- ---- one line

module _ (p : Place) (c : Columns) (g : Slices) (block line out : List ℕ) (end : ℕ) (z : LineEnd block p.taken end) where
  abbrev begun : List ℕ
  begun = take p.used line

  abbrev more : List ℕ
  more = between p.taken end block

  unbroken : (s : Session) → At s p c g block line out → unended (begun ++ more) ≡ true
  unbroken s a = unended_both begun more a.placed.unbroken z.unbroken

  -- too long
  pub feed_long : length line - p.used < end - p.taken → (r : Fed) (out' : List ℕ) → (r ≡ Break (p.filled + length (refusal_text Frame))) × Appended p.filled (refusal_text Frame) out out'
      → Feeds p c g block line out r c g line out' × Further p r
  feed_long over r out' e = (
    λ s a.
        let b = a.placed in
        let n : length (begun ++ more) ≡ p.used + (end - p.taken)
        = length-append begun more ∙ ap₂ ◌+◌ (length-take-le p.used line (omega (arith, b.used, b.buffer))) (between_long block p.taken end z.after z.within) in
        let long : longest < length (begun ++ more) = omega (arith, n, over, b.used, b.buffer) in
        let closes : Closes s begun (drop p.taken block) (refusal_text Frame)
        = subst (λ (l : List ℕ). Closes s begun l (refusal_text Frame)) (sym (between_rest block p.taken end z.after))
        (long_closes s begun more (drop end block) a.keeps.within (unbroken s a) long) in
        let settles : Settles s begun (drop p.taken block) (memory c g) (memory c g)
        = subst (λ (l : List ℕ). Settles s begun l (memory c g) (memory c g)) (sym (between_rest block p.taken end z.after))
        (long_settles s begun more (drop end block) (memory c g) a.keeps.within (unbroken s a) long) in
        subst (λ (x : Fed). Reached s p x block line out c g c g line out') (sym e.0)
        (record { text = refusal_text Frame; closes = closes; settles = settles; counted = refl; appended = e.1 }),
    λ q f. no_on (sym e.0 ∙ f),
  )

  module _ (room : end - p.taken ≤ length line - p.used) (line' : List ℕ) (same : length line' ≡ length line) (put : take (p.used + (end - p.taken)) line' ≡ begun ++ more) where
    -- a part of a line, to the end of the block
    pub feed_part : end ≡ length block → p.taken < length block
        → let q : Place = record { numbers = p.numbers; used = p.used + (end - p.taken); taken = end; filled = p.filled } in Feeds p c g block line out (Continue q) c g line' out × Further p (Continue q)
    feed_part e less = (
      λ s a.
          let b = a.placed in
          record {
            session = s;
            text = [];
            at = record {
              numbers = a.numbers;
              keeps = a.keeps;
              sizes = a.sizes;
              placed = record {
                buffer = same ∙ b.buffer;
                used = omega (arith, room, b.used, b.buffer);
                unbroken = ap unended put ∙ unbroken s a;
                taken = z.within;
                filled = b.filled;
              };
            };
            onward = z.after;
            comes = subst (λ (l : List ℕ). Comes s begun more [] s l) (sym put) (part_comes s begun more);
            leads = subst (λ (l : List ℕ). Leads s begun more (memory c g) s l (memory c g)) (sym put) (part_leads s begun more (memory c g));
            filled = omega arith;
            appended = appended_none p.filled out b.filled;
          },
      λ q f. let same : end ≡ q.taken = ap taken_by f in omega (arith, same, e, less),
    )

    -- a whole line
    module _ (less : end < length block) (long : ℕ) (l : long ≡ p.used + (end - p.taken)) (r : Fed) (c' : Columns) (g' : Slices) (out' : List ℕ) (w : Whole p (take long line') (end + 1) c g out r c' g' out') where
      text_is : take long line' ≡ begun ++ more
      text_is = ap (λ (k : ℕ). take k line') l ∙ put

      taken_is : between p.taken (end + 1) block ≡ more ++ (10 ∷ [])
      taken_is = between_next block p.taken end z.after less ∙ ap (λ (x : ℕ). more ++ (x ∷ [])) (z.feed less)

      rest_is : drop p.taken block ≡ (more ++ (10 ∷ [])) ++ drop (end + 1) block
      rest_is = between_rest block p.taken (end + 1) (omega (arith, z.after)) ∙ ap (λ (x : List ℕ). x ++ drop (end + 1) block) taken_is

      by_answer : (s : Session) → At s p c g block line out → (a : Answer) → answer_line s (begun ++ more) ≡ a → r ≡ fed_of p (end + 1) a → Appended p.filled (text_of a) out out' → memory c' g' ≡ after_line s (begun ++ more) (memory c g) → KeptOn a c' g'
          → Reached s p r block line out c g c' g' line' out'
      unfolding unended
      by_answer s at (goes t text) e f o m k =
          subst (λ (x : Fed). Reached s p x block line out c g c' g' line' out') (sym f)
          (record {
            session = t;
            text = text;
            at = record {
              numbers = refl;
              keeps = k t text refl;
              sizes = w.sizes at.sizes;
              placed = record { buffer = same ∙ at.placed.buffer; used = omega arith; unbroken = refl; taken = omega (arith, less); filled = omega (arith, o.fits, appended_long p.filled text out out' o) };
            };
            onward = omega (arith, z.after);
            comes = subst (λ (x : List ℕ). Comes s begun x text t []) (sym taken_is) (line_comes s begun more (unbroken s at) t text e);
            leads = subst (λ (x : List ℕ). Leads s begun x (memory c g) t [] (memory c' g')) (sym taken_is)
                (subst (λ (n : Memory). Leads s begun (more ++ (10 ∷ [])) (memory c g) t [] n) (sym m) (line_leads s begun more (unbroken s at) t text (memory c g) e));
            filled = refl;
            appended = o;
          })
      by_answer s at (ends x) e f o m k =
          subst (λ (y : Fed). Reached s p y block line out c g c' g' line' out') (sym f)
          (record {
            text = refusal_text x;
            closes = subst (λ (y : List ℕ). Closes s begun y (refusal_text x)) (sym rest_is) (line_closes s begun more (unbroken s at) x (drop (end + 1) block) e);
            settles = subst (λ (y : List ℕ). Settles s begun y (memory c g) (memory c' g')) (sym rest_is)
                (subst (λ (n : Memory). Settles s begun ((more ++ (10 ∷ [])) ++ drop (end + 1) block) (memory c g) n) (sym m) (line_settles s begun more (unbroken s at) x (drop (end + 1) block) (memory c g) e));
            counted = refl;
            appended = o;
          })

      further_by : (a : Answer) → r ≡ fed_of p (end + 1) a → Further p r
      further_by (goes t text) f q h = let same : end + 1 ≡ q.taken = ap taken_by (sym f ∙ h) in omega (arith, same, z.after)
      further_by (ends x) f q h = no_on (sym f ∙ h)

      pub feed_whole : Standing p c g block line out → Feeds p c g block line out r c' g' line' out' × Further p r
      feed_whole st = (
        λ s at.
            let a = answer_line s (take long line') in
            by_answer s at a (ap (answer_line s) (sym text_is)) (w.answer s at.numbers at.keeps at.sizes) (w.text s at.numbers at.keeps at.sizes)
            (ap₂ memory (w.columns s at.numbers at.keeps at.sizes) (w.slices s at.numbers at.keeps at.sizes) ∙ ap (λ (l : List ℕ). after_line s l (memory c g)) text_is)
            (w.keeps s at.numbers at.keeps at.sizes),
        let u = st.session in
            let at = st.at in
            further_by (answer_line u (take long line')) (w.answer u at.numbers at.keeps at.sizes),
      )

-- some session, for a line that is answered
pub standing_kept : (p : Place) (c : Columns) (g : Slices) (block line out : List ℕ) → Standing p c g block line out → Kept p.numbers c g
standing_kept p c g block line out st = record { session = st.session; numbers = st.at.numbers; keeps = st.at.keeps; sizes = st.at.sizes }

-- ---- line after line

-- the loop: where it stands, from whatever session it began with
abbrev pub Going : Place → Columns → Slices → List ℕ → List ℕ → List ℕ → Place → Columns → Slices → List ℕ → List ℕ → Type 0
Going from c₀ g₀ block line₀ out₀ p c g line out = (s : Session) → At s from c₀ g₀ block line₀ out₀ → Onward s from p block line₀ out₀ c₀ g₀ c g line out

pub going_first : (p : Place) (c : Columns) (g : Slices) (block line out : List ℕ) → Going p c g block line out p c g line out
going_first p c g block line out s a = record {
  session = s;
  text = [];
  at = a;
  onward = omega arith;
  comes = record { whole = λ rest. ap (λ (l : List ℕ). answers s (lines_of (take p.used line ++ (l ++ rest)))) (between_none block p.taken) };
  leads = record { whole = λ rest. ap (λ (l : List ℕ). memory_after s (memory c g) (lines_of (take p.used line ++ (l ++ rest)))) (between_none block p.taken) };
  filled = omega arith;
  appended = appended_none p.filled out a.placed.filled;
}

module _ (from : Place) (c₀ : Columns) (g₀ : Slices) (block line₀ out₀ : List ℕ) (p : Place) (c : Columns) (g : Slices) (line out : List ℕ) (h : Going from c₀ g₀ block line₀ out₀ p c g line out) where
  pub going_on : (q : Place) (c' : Columns) (g' : Slices) (line' out' : List ℕ) → Feeds p c g block line out (Continue q) c' g' line' out' → Going from c₀ g₀ block line₀ out₀ q c' g' line' out'
  going_on q c' g' line' out' f s a =
      let o = h s a in
      let n = f o.session o.at in
      record {
        session = n.session;
        text = o.text ++ n.text;
        at = n.at;
        onward = omega (arith, o.onward, n.onward);
        comes = subst (λ (l : List ℕ). Comes s (take from.used line₀) l (o.text ++ n.text) n.session (take q.used line'))
            (sym (between_split block from.taken p.taken q.taken o.onward n.onward)) (on _ _ _ _ _ _ _ _ _ _ o.comes n.comes);
        leads = subst (λ (l : List ℕ). Leads s (take from.used line₀) l (memory c₀ g₀) n.session (take q.used line') (memory c' g'))
            (sym (between_split block from.taken p.taken q.taken o.onward n.onward)) (leads _ _ _ _ _ _ _ _ _ _ _ o.leads n.leads);
        filled = omega (arith, n.filled, o.filled, length-append o.text n.text);
        appended = appended_both from.filled p.filled o.text n.text out₀ out out' o.filled o.appended n.appended;
      }

  pub going_over : (k : ℕ) (c' : Columns) (g' : Slices) (line' out' : List ℕ) → Feeds p c g block line out (Break k) c' g' line' out' → Feeds from c₀ g₀ block line₀ out₀ (Break k) c' g' line' out'
  going_over k c' g' line' out' f s a =
      let o = h s a in
      let n = f o.session o.at in
      record {
        text = o.text ++ n.text;
        closes = subst (λ (l : List ℕ). Closes s (take from.used line₀) l (o.text ++ n.text)) (sym (between_rest block from.taken p.taken o.onward))
            (closed _ _ _ _ _ _ _ _ o.comes n.closes);
        settles = subst (λ (l : List ℕ). Settles s (take from.used line₀) l (memory c₀ g₀) (memory c' g')) (sym (between_rest block from.taken p.taken o.onward))
            (settles _ _ _ _ _ _ _ _ _ o.leads n.settles);
        counted = omega (arith, n.counted, o.filled, length-append o.text n.text);
        appended = appended_both from.filled p.filled o.text n.text out₀ out out' o.filled o.appended n.appended;
      }

-- ---- how far it comes

-- nothing is taken yet, or something is
abbrev pub Moved : Place → Place → Type 0
Moved from p = (p ≡ from) ⊎ (from.taken < p.taken)

pub moved_on : (from p q : Place) → Moved from p → p.taken < q.taken → Moved from q
moved_on from p q (inl e) h = inr (omega (arith, ap (λ (x : Place). x.taken) e, h))
moved_on from p q (inr g) h = inr (omega (arith, g, h))

pub pressed_over : (from : Place) (k : ℕ) (block : List ℕ) (room : ℕ) → Presses from (Break k) block room
pressed_over from k block room q e = no_on e
