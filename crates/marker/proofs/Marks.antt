-- A call of the marker: what an accepted one asks of its passes, and what each answer leaves.
use Rattle.codes.specs.Order.{Checked}
use Rattle.std.specs.Prelude.{Result, Ok, Err}
use Prim.Native.Nat.{ℕ, ◌-◌, ◌*◌, ◌≤◌, ◌<◌}
use native.Mathlib.Omega.{arith}
use native.Mathlib.Nat.{mul-le-mul_right, suc-mul, zero-mul}
use mathlib.Core.Path.{◌≡◌, refl, sym, ap, ◌∙◌}
use mathlib.Core.List.{List, ◌++◌}
use mathlib.Core.Bool.{Bool, true, ◌&&◌}
use lib.Dec.{leb}
use lib.ListN.{length, length-take, take, drop}
use lib.Seq.{take_all}
use borrow.Author.Tests.{leb-true}
use borrow.Rule.Slice.PartMut.{put_mid}
use Rattle.lists.specs.Lists.{member}
use Rattle.lists.proofs.Truth.{and_left, and_right}
use Rattle.bits.specs.Rows.{words}
use Rattle.bits.proofs.Booleans.{bits_length}
use Rattle.codes.specs.declared.Refusal.{Refusal}
use Rattle.steps.specs.Graph.{Graph}
use Rattle.steps.specs.Rows.{row_of}
use Rattle.steps.specs.Marker as steps
use Rattle.steps.specs.Marker.{Marked, fit, mark}
use Rattle.steps.specs.Call.{graph_of, lit_of, row_marked}
use Rattle.steps.specs.Found.{Found, by_steps}
use Rattle.found.proofs.Found.{found}
use Rattle.found.proofs.Fits.{fit_known}
use Rattle.found.proofs.SameEnds.{SameEnds, same_ends_lem}
use Rattle.lent_graph.specs.Call.{Lent, graph_in, check_call}
use Rattle.lent_graph.specs.Accepts.{Accepts}
use Rattle.lent_graph.proofs.Accepts.{call_accepted}
use Rattle.marking.specs.declared.Marking.{Marking}
use Rattle.marking.specs.declared.Marking.TheVariants.{Pass}
use Rattle.marking.specs.Passes.{ends_graph, xor_rows, Ready, InTable}
use Rattle.marking.specs.Answer.{sheet_of, marking_of}
use Rattle.marking.proofs.Xors.{length_xors, xors_row}
use Rattle.marker.specs.Answer.{marker_long, check_mark, mark_in, call_row, answer_of, row_after, Marks}
use Rattle.marker.proofs.Verdicts.{same_marking, on_pass, off_pass}

-- the answer on the sheet
on_sheet : (c : Checked) (m : Marked) → sheet_of (answer_of c m) ≡ call_row c m
on_sheet (Ok tt) (steps.pass row) = refl
on_sheet (Ok tt) (steps.differs d) = refl
on_sheet (Ok tt) steps.unfit = refl
on_sheet (Err r) m = refl

-- a call that the check accepts
pub record Accepted (l : Lent) (row marks wrong shot : List ℕ) (width : ℕ) : Type 0 where
  pub ok : check_mark l row marks wrong shot width ≡ Ok tt

module _ (l : Lent) (row marks wrong shot : List ℕ) (width : ℕ) where
  abbrev d : ℕ
  d = l.detectors

  abbrev own : Bool
  own = marker_long d l.observables l.edges (length row) (length marks) (length wrong)

  -- the check was made with a test of the call's own slices
  pub accepted_by : (b : Bool) → b ≡ own → Ok tt ≡ check_call l b shot 1 width → Accepted l row marks wrong shot width
  accepted_by b p q = record { ok = ap (λ (t : Bool). check_call l t shot 1 width) (sym p) ∙ sym q }

  module _ (a : Accepted l row marks wrong shot width) where
    abbrev check : Checked
    check = check_mark l row marks wrong shot width

    accepts : Accepts l own shot 1 width
    accepts = call_accepted l own shot 1 width a.ok

    -- room in the row, the marks and the wrong detectors
    pub rooms : (words l.observables ≤ length row) × (words l.edges ≤ length marks) × (words d ≤ length wrong)
    unfolding marker_long
    rooms =
        let a = leb (words l.observables) (length row) in
        let b = leb (words l.edges) (length marks) in
        let c = leb (words d) (length wrong) in
        let all = accepts.own_long in
        let rest = and_right a (b && c) all in
        (leb-true _ _ (and_left a (b && c) all), leb-true _ _ (and_left b c rest), leb-true _ _ (and_right b c rest))

    -- demand 3
    found_here : Found by_steps (graph_in l) (lit_of d shot)
    unfolding graph_of
    found_here = found (graph_in l) accepts.graph (lit_of d shot) (bits_length d shot)

    -- the ends alone
    abbrev bare : Graph
    bare = ends_graph d l.edges l.u l.v

    same : SameEnds (graph_in l) bare
    unfolding graph_of
    same = record { detectors = refl; edge_u = refl; edge_v = refl }

    pub ready : (m n : ℕ) → m ≡ words l.edges → n ≡ words d → Ready d l.edges l.u l.v shot (take (m - 0) marks) (take (n - 0) wrong)
    ready m n p q =
        let long : length shot ≡ words d = let k = accepts.rows_long in omega arith in
        let whole : take (words d) (drop (0 * words d) shot) ≡ shot = rw (zero-mul (words d)) (take_all (words d) shot (omega arith)) in
        record {
          few = accepts.few_detectors;
          u_long = accepts.u_long;
          v_long = accepts.v_long;
          ends = same_ends_lem same accepts.ends;
          shot_long = long;
          shot_clear = rw whole at (accepts.row_clear 0 (omega arith));
          marks_long = omega (arith, length-take (m - 0) marks, rooms.1);
          wrong_long = omega (arith, length-take (n - 0) wrong, rooms.2);
        }

    -- ---- by the judge's answer

    module _ (list : List ℕ) where
      abbrev marked : Marked
      marked = mark_in l shot list

      call : {r : Result Marking Refusal} {left : List ℕ} → r ≡ answer_of check marked → left ≡ row_after check row marked → Marks l shot width list row marks wrong r left
      call p q = record { sheet = ap sheet_of p ∙ on_sheet check marked; answers = p; rows = q; found = λ h. found_here }

      module _ (r : Result Marking Refusal) (judged : r ≡ marking_of (mark bare (lit_of d shot) list)) where
        mine : r ≡ marking_of marked
        mine = judged ∙ sym (same_marking same (lit_of d shot) list)

        -- Differs and a refusal leave the row
        pub untouched : (r ≡ Ok Pass → ⊥) → Marks l shot width list row marks wrong r row
        untouched other = call (rw a.ok mine) (rw a.ok (off_pass row marked (λ h. other (mine ∙ h))))

        module _ (passes : r ≡ Ok Pass) where
          pass : (fit (graph_in l) list ≡ true) × (marked ≡ steps.pass (row_of (graph_in l) list))
          pass = on_pass (graph_in l) (lit_of d shot) list (sym mine ∙ passes)

          -- each edge is known
          known : (e : ℕ) → member e list ≡ true → e < l.edges
          known e m = rw accepts.counted at (fit_known (graph_in l) list pass.0 e m)

          module _ (w : ℕ) (p : w ≡ words l.observables) where
            -- the first words of the row
            long : length (take (w - 0) row) ≡ words l.observables
            long = omega (arith, length-take (w - 0) row, rooms.0)

            -- so the tables have its row
            pub in_table : InTable (length (take (w - 0) row)) l.obs list
            in_table e m =
                let o = words l.observables in
                rw long (omega (arith, accepts.obs_long, mul-le-mul_right o (known e m), suc-mul e o))

            -- the XOR of their rows, as the code writes it
            pub written : (new : List ℕ) → new ≡ xor_rows (length (take (w - 0) row)) l.obs list → Marks l shot width list row marks wrong r (put_mid 0 (w - 0) row new)
            unfolding graph_of row_marked
            written new h =
                let same_row : new ≡ row_of (graph_in l) list = h ∙ rw long (xors_row (graph_in l) l.obs list (λ e m. (accepts.edge e (known e m)).row)) in
                let wide : w - 0 ≡ length (row_of (graph_in l) list) = omega (arith, ap length same_row, ap length h, length_xors (length (take (w - 0) row)) l.obs list, long) in
                call (rw a.ok mine) (rw (a.ok, pass.1, same_row) (ap (λ (n : ℕ). row_of (graph_in l) list ++ drop n row) wide))
