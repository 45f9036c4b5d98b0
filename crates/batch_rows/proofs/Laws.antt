-- What a batch leaves, row by row, proved.
use Rattle.std.specs.Prelude.{Ok, Err}
use Prim.Native.Nat.{ℕ, zero, suc, ◌+◌, ◌*◌, ◌≤◌, ◌<◌}
use native.Mathlib.Omega.{arith}
use mathlib.Core.Path.{◌≡◌, refl, sym, ap, ◌∙◌}
use mathlib.Core.List.{List}
use lib.Dec.{eqb}
use lib.ListN.{length, take, drop, length-replicate}
use lib.Seq.{take-take}
use borrow.Author.Tests.{eqb-true, eqb-false}
use Rattle.lists.specs.Lists.{from, below}
use Rattle.lists.proofs.Truth.{case-of}
use Rattle.bits.specs.Rows.{words}
use Rattle.bits.proofs.Rows.{length_xor}
use Rattle.codes.specs.declared.Refusal.TheVariants.{Stuck}
use Rattle.packed.specs.Packed.{row_at}
use Rattle.steps.specs.Graph.{Graph}
use Rattle.steps.specs.Rows.{zeros, row_of}
use Rattle.steps.specs.Shot.{Decoded, impossible, corrected, row_left, row_after}
use Rattle.batch_rows.specs.Row.{put_row, shot_at, row_for}
use Rattle.batch_rows.specs.Rows.{check_shots_of, rows_of}
use Rattle.batch_rows.specs.Laws.{RowAlone, RowsBefore}
use Rattle.batch_rows.proofs.Put.{next_row, row_inside, put_length, put_before, put_own, put_later, row_taken}

-- a shot is Stuck or it is not
by_shot {ℓ} : {C : Type ℓ} (x : Decoded) → ((n d : ℕ) → x ≡ impossible n d → C) → ((n : ℕ) (list : List ℕ) → x ≡ corrected n list → C) → C
by_shot (impossible n d) stuck done = stuck n d refl
by_shot (corrected n list) stuck done = done n list refl

row_left_wide : (g : Graph) (x : Decoded) → length (row_left g (zeros g) x) ≡ words g.observables
unfolding row_left row_after zeros
row_left_wide g (impossible n d) = length-replicate (words g.observables) 0
row_left_wide g (corrected n list) = length_xor (zeros g) (row_of g list) ∙ length-replicate (words g.observables) 0

module _ (g : Graph) (rows : List ℕ) where
  abbrev W : ℕ
  W = words g.observables

  -- the output with the row of shot a in its place
  abbrev Now : ℕ → List ℕ → List ℕ
  Now a out = put_row W a (row_for g rows a) out

  -- the rows of n shots from a on
  abbrev Rows : ℕ → ℕ → List ℕ → List ℕ
  Rows n a out = rows_of g rows (from n a) out

  rows_stuck : (n a : ℕ) (out : List ℕ) {k d : ℕ} → shot_at g rows a ≡ impossible k d → Rows (suc n) a out ≡ Now a out
  unfolding rows_of from
  rows_stuck n a out e = rw e

  rows_done : (n a : ℕ) (out : List ℕ) {k : ℕ} {list : List ℕ} → shot_at g rows a ≡ corrected k list → Rows (suc n) a out ≡ Rows n (suc a) (Now a out)
  unfolding rows_of from
  rows_done n a out e = rw e

  check_stuck : (n a : ℕ) {k d : ℕ} → shot_at g rows a ≡ impossible k d → check_shots_of g rows (from (suc n) a) ≡ Err (Stuck a d)
  unfolding check_shots_of from
  check_stuck n a e = rw e

  check_done : (n a : ℕ) {k : ℕ} {list : List ℕ} → shot_at g rows a ≡ corrected k list → check_shots_of g rows (from (suc n) a) ≡ check_shots_of g rows (from n (suc a))
  unfolding check_shots_of from
  check_done n a e = rw e

  rows_none : (a : ℕ) (out : List ℕ) → Rows 0 a out ≡ out
  unfolding rows_of from
  rows_none a out = refl

  -- the first of n + 1 shots that have room
  module _ (n a : ℕ) (out : List ℕ) (room : (suc n + a) * W ≤ length out) where
    abbrev wide : length (row_for g rows a) ≡ W
    wide = row_left_wide g (shot_at g rows a)

    own_inside : a * W + W ≤ length out
    own_inside = let k = row_inside a (suc n + a) W (omega arith) in omega arith

    now_length : length (Now a out) ≡ length out
    now_length = put_length W a (row_for g rows a) out wide own_inside

    now_room : (n + suc a) * W ≤ length (Now a out)
    now_room =
        let e : (suc n + a) * W ≡ (n + suc a) * W = ap (λ (k : ℕ). k * W) (omega arith) in
        omega (arith, now_length)

    now_before : take (a * W) (Now a out) ≡ take (a * W) out
    now_before = put_before W a (row_for g rows a) out wide own_inside

    now_own : row_at W (Now a out) a ≡ row_for g rows a
    now_own = put_own W a (row_for g rows a) out wide own_inside

    now_later : (k : ℕ) → a * W + W ≤ k → drop k (Now a out) ≡ drop k out
    now_later = put_later W a (row_for g rows a) out wide own_inside

  -- the words before the first of the shots are as they were
  kept_before : (n a : ℕ) (out : List ℕ) → (n + a) * W ≤ length out → take (a * W) (Rows n a out) ≡ take (a * W) out
  kept_before zero a out room = ap (take (a * W)) (rows_none a out)
  kept_before (suc n) a out room = by_shot (shot_at g rows a)
      (λ k d e. ap (take (a * W)) (rows_stuck n a out e) ∙ now_before n a out room)
      (λ k list e. let l : a * W ≤ suc a * W = omega (arith, next_row a W) in
      ap (take (a * W)) (rows_done n a out e)
      ∙ sym (take-take (a * W) (suc a * W) (Rows n (suc a) (Now a out)) l)
      ∙ ap (take (a * W)) (kept_before n (suc a) (Now a out) (now_room n a out room))
      ∙ take-take (a * W) (suc a * W) (Now a out) l
      ∙ now_before n a out room)

  -- so a row before them is
  row_kept : (n a s : ℕ) (out : List ℕ) → (n + a) * W ≤ length out → s < a → row_at W (Rows n a out) s ≡ row_at W out s
  row_kept n a s out room h =
      let l = row_inside s a W h in
      sym (row_taken W s (a * W) (Rows n a out) l) ∙ ap (λ (t : List ℕ). row_at W t s) (kept_before n a out room) ∙ row_taken W s (a * W) out l

  -- the first of them, where it is not Stuck
  first_row : (n a : ℕ) (out : List ℕ) → (suc n + a) * W ≤ length out → {k : ℕ} {list : List ℕ} → shot_at g rows a ≡ corrected k list → row_at W (Rows (suc n) a out) a ≡ row_for g rows a
  first_row n a out room e =
      ap (λ (t : List ℕ). row_at W t a) (rows_done n a out e)
      ∙ row_kept n (suc a) a (Now a out) (now_room n a out room) (omega arith) ∙ now_own n a out room

  -- ---- no shot is Stuck

  record All (n a : ℕ) (out : List ℕ) : Type 0 where
    row : (s : ℕ) → a ≤ s → s < n + a → row_at W (Rows n a out) s ≡ row_for g rows s
    past : drop ((n + a) * W) (Rows n a out) ≡ drop ((n + a) * W) out

  all_done : (n a : ℕ) (out : List ℕ) → (n + a) * W ≤ length out → check_shots_of g rows (from n a) ≡ Ok tt → All n a out
  all_done zero a out room h = record { row = λ s p q. absurd (omega arith); past = ap (drop ((0 + a) * W)) (rows_none a out) }
  all_done (suc n) a out room h = by_shot (shot_at g rows a)
      (λ k d e. absurd (let f = sym (check_stuck n a e) ∙ h in let z : ◌≡◌ {A = ℕ} 0 1 = cc in omega arith))
      (λ k list e. let rest = all_done n (suc a) (Now a out) (now_room n a out room) (sym (check_done n a e) ∙ h) in
      let ends : (suc n + a) * W ≡ (n + suc a) * W = ap (λ (i : ℕ). i * W) (omega arith) in
      record {
        row = λ s p q. case-of (eqb a s)
            (λ t. rw (sym (eqb-true a s t)) (first_row n a out room e))
            (λ f. ap (λ (t : List ℕ). row_at W t s) (rows_done n a out e) ∙ rest.row s (omega (arith, eqb-false a s f)) (omega arith));
        past = rw ends (ap (drop ((n + suc a) * W)) (rows_done n a out e) ∙ rest.past ∙ now_later n a out room ((n + suc a) * W) (row_inside a (n + suc a) W (omega arith)));
      })

  -- ---- shot t is the first that is Stuck

  record First (n a t d : ℕ) (out : List ℕ) : Type 0 where
    low : a ≤ t
    within : t < n + a
    rounds : ℕ
    stuck : shot_at g rows t ≡ impossible rounds d
    row : (s : ℕ) → a ≤ s → s < t → row_at W (Rows n a out) s ≡ row_for g rows s
    own : row_at W (Rows n a out) t ≡ row_for g rows t
    later : drop (t * W + W) (Rows n a out) ≡ drop (t * W + W) out

  first_stuck_lem : (n a t d : ℕ) (out : List ℕ) → (n + a) * W ≤ length out → check_shots_of g rows (from n a) ≡ Err (Stuck t d) → First n a t d out
  unfolding check_shots_of from
  first_stuck_lem zero a t d out room h = absurd (let z : ◌≡◌ {A = ℕ} 0 1 = cc in omega arith)
  first_stuck_lem (suc n) a t d out room h = by_shot (shot_at g rows a)
      (λ k b e. let f = sym (check_stuck n a e) ∙ h in
      let p : a ≡ t = cc in
      let q : b ≡ d = cc in
      record {
        low = omega arith;
        within = omega arith;
        rounds = k;
        stuck = rw (sym p, sym q) e;
        row = λ s i j. absurd (omega arith);
        own = rw (sym p) (ap (λ (x : List ℕ). row_at W x a) (rows_stuck n a out e) ∙ now_own n a out room);
        later = rw (sym p) (ap (drop (a * W + W)) (rows_stuck n a out e) ∙ now_later n a out room (a * W + W) (omega arith));
      })
      (λ k list e. let rest = first_stuck_lem n (suc a) t d (Now a out) (now_room n a out room) (sym (check_done n a e) ∙ h) in
      record {
        low = omega (arith, rest.low);
        within = omega (arith, rest.within);
        rounds = rest.rounds;
        stuck = rest.stuck;
        row = λ s i j. case-of (eqb a s)
            (λ v. rw (sym (eqb-true a s v)) (first_row n a out room e))
            (λ f. ap (λ (x : List ℕ). row_at W x s) (rows_done n a out e) ∙ rest.row s (omega (arith, eqb-false a s f)) j);
        own = ap (λ (x : List ℕ). row_at W x t) (rows_done n a out e) ∙ rest.own;
        later = ap (drop (t * W + W)) (rows_done n a out e) ∙ rest.later ∙ now_later n a out room (t * W + W) (omega (arith, row_inside a t W rest.low));
      })

-- ---- the laws

pub row_alone : (g : Graph) (rows : List ℕ) (shots : ℕ) (out : List ℕ) → RowAlone g rows shots out
unfolding below
row_alone g rows shots out room h =
    let e : shots + 0 ≡ shots = omega arith in
    let k = all_done g rows shots 0 out (rw e room) h in
    record { row = λ s p. k.row s (omega arith) (omega arith); past = rw e at k.past }

pub rows_before : (g : Graph) (rows : List ℕ) (shots : ℕ) (out : List ℕ) → RowsBefore g rows shots out
unfolding below row_left
rows_before g rows shots out t d room h =
    let e : shots + 0 ≡ shots = omega arith in
    let k = first_stuck_lem g rows shots 0 t d out (rw e room) h in
    record {
      within = omega (arith, k.within);
      rounds = k.rounds;
      stuck = k.stuck;
      row = λ s p. k.row s (omega arith) p;
      zero = k.own ∙ ap (row_left g (zeros g)) k.stuck;
      later = k.later;
    }
