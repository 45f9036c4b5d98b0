-- A line that was read, by its kind.
use Prim.Native.Nat.{ℕ}
use native.Mathlib.Omega.{arith}
use mathlib.Core.Logic.{◌⊎◌, inl, inr}
use mathlib.Core.Path.{◌≡◌, refl, sym, ap, ◌∙◌, subst}
use mathlib.Core.List.{List, []}
use borrow.Author.Tests.{eq-eqb, ne_eqb}
use Rattle.edges.specs.declared.EdgeTables.{EdgeTables}
use Rattle.edges.specs.Lent.{slices_of}
use Rattle.edges.specs.Tables.{Slices}
use Rattle.frames.specs.declared.State.{State}
use Rattle.frames.specs.declared.Kind.{Kind}
use Rattle.frames.specs.declared.Kind.TheVariants.{Header, Mechanism, Component, Row}
use Rattle.frames.specs.Frames.{kind_byte}
use Rattle.frames.specs.Input.{Input}
use Rattle.reader.specs.Columns.{Columns}
use Rattle.session.specs.declared.Numbers.{Numbers}
use Rattle.std.specs.declared.ops.ControlFlow.TheVariants.{Continue}
use Rattle.session.specs.Output.{Session, quiet}
use Rattle.session.specs.Kept.{Told, graph_left, Reads, ReadSome, AnswersKind, AnswersModel, ShotBy, ShotSome}
use Rattle.session.proofs.Fronts.{kept_on}
use Rattle.session.proofs.Shots.{shot_left, at}

-- the same of a kind that equals it
of_kind : (s : Session) (t : Input) (k j : ℕ) (n : Numbers) (state : State) (c : Columns) (g : Slices) → k ≡ j → Reads s t k n state c g → Reads s t j n state c g
of_kind s t k j n state c g e r = subst (λ (i : ℕ). Reads s t i n state c g) e r

-- a kind that is not 04 or 06
other_byte : (b j : ℕ) → (j ≡ 4 → ⊥) → (j ≡ 6 → ⊥) → b ≡ j → (b ≡ 4 → ⊥) × (b ≡ 6 → ⊥)
other_byte b j four six e = (λ f. four (sym e ∙ f), λ s. six (sym e ∙ s))

pub quiet_kind : (k : Kind) → (k ≡ Header) ⊎ ((k ≡ Mechanism) ⊎ ((k ≡ Component) ⊎ (k ≡ Row))) → (kind_byte k ≡ 4 → ⊥) × (kind_byte k ≡ 6 → ⊥)
quiet_kind k (inl e) = other_byte (kind_byte k) 1 (λ f. omega (arith, f)) (λ s. omega (arith, s)) (ap kind_byte e)
quiet_kind k (inr (inl e)) = other_byte (kind_byte k) 2 (λ f. omega (arith, f)) (λ s. omega (arith, s)) (ap kind_byte e)
quiet_kind k (inr (inr (inl e))) = other_byte (kind_byte k) 3 (λ f. omega (arith, f)) (λ s. omega (arith, s)) (ap kind_byte e)
quiet_kind k (inr (inr (inr e))) = other_byte (kind_byte k) 5 (λ f. omega (arith, f)) (λ s. omega (arith, s)) (ap kind_byte e)

module _ (kind : ℕ) (n : Numbers) (state : State) (c : Columns) (g : Slices) where
  pub some_model : kind ≡ 4 → ReadSome kind n state c g → ReadSome 4 n state c g
  some_model e r = record { session = r.session; input = r.input; reads = of_kind r.session r.input kind 4 n state c g e r.reads }

  pub some_shot : kind ≡ 6 → ReadSome kind n state c g → ShotSome n state c.row c.truth g
  some_shot e r = record {
    model = c;
    read = record { session = r.session; input = r.input; reads = of_kind r.session r.input kind 6 n state c g e r.reads };
  }

  pub by_model : kind ≡ 4 → (z : Told) (left : Slices) (was out : List ℕ) → AnswersModel n state c g z left was out → AnswersKind kind n state c g z left was out
  by_model e z left was out m = record {
    answer = λ s t r. rw (eq-eqb kind 4 e) (m.answer s t (of_kind s t kind 4 n state c g e r));
    leaves = λ s t r. rw e (m.leaves s t (of_kind s t kind 4 n state c g e r));
    keeps = λ s t r. rw (eq-eqb kind 4 e) (m.keeps s t (of_kind s t kind 4 n state c g e r));
  }

  -- only 04 writes the graph
  not_model : (kind ≡ 4 → ⊥) → (t : Input) → graph_left kind t g ≡ g
  unfolding graph_left
  not_model other t = rw (ne_eqb kind 4 other) refl

  pub by_other : (kind ≡ 4 → ⊥) → (kind ≡ 6 → ⊥) → (was : List ℕ)
      → AnswersKind kind n state c g (Continue (record { numbers = record { state = state; edges = n.edges; words = n.words; shots = n.shots; failures = n.failures }; written = 0 })) g was was
  by_other other others was = record {
    answer = λ s t r. rw (ne_eqb kind 4 other, ne_eqb kind 6 others, r.numbers, r.counts) (record { told = refl; text = refl });
    leaves = λ s t r. sym (not_model other t);
    keeps = λ s t r.
        rw (ne_eqb kind 4 other, ne_eqb kind 6 others)
        (kept_on (quiet s t) c g (record { within = r.within; tables = r.tables; row = r.row; graph = r.graph; shots = r.shots; failures = r.failures }));
  }

module _ (kind : ℕ) (n : Numbers) (state : State) (c : Columns) (lent : EdgeTables) where
  abbrev graphs : Slices
  graphs = slices_of lent []

  pub by_shot : kind ≡ 6 → (z : Told) (was out : List ℕ) → ShotBy n state c.row c.truth graphs z was out → AnswersKind kind n state c graphs z graphs was out
  by_shot e z was out m =
      let other : kind ≡ 4 → ⊥ = λ four. omega (arith, e, four) in
      record {
        answer = λ s t r.
            rw (ne_eqb kind 4 other, eq-eqb kind 6 e)
            (m s t c.bits c.detector_counts c.observable_counts c.component_counts c.component_detectors c.component_observables c.entries (of_kind s t kind 6 n state c graphs e r));
        leaves = λ s t r. sym (not_model kind n state c graphs other t);
        keeps = λ s t r.
            rw (ne_eqb kind 4 other, eq-eqb kind 6 e)
            (shot_left s t c graphs
            (at n state c.row c.truth lent s t c.bits c.detector_counts c.observable_counts c.component_counts c.component_detectors c.component_observables c.entries
            (of_kind s t kind 6 n state c graphs e r)));
      }
