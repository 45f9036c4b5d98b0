-- Before the first byte: what the tables hold, and that tables as a program makes them are long enough.
use Prim.Native.Nat.{ℕ}
use native.Mathlib.Omega.{arith}
use mathlib.Core.Path.{◌≡◌, refl, ◌∙◌}
use mathlib.Core.List.{List, map}
use lib.ListN.{length, length-map, length-take, length-drop}
use Rattle.counts.specs.declared.Row.{Row}
use Rattle.edges.specs.Tables.{Slices, flat}
use Rattle.frames.specs.Input.{start}
use Rattle.frames.specs.declared.Stage.TheVariants.{Nothing, AfterRow}
use Rattle.reader.specs.Columns.{Columns, columns_of}
use Rattle.reader.proofs.Laws.{laws}
use Rattle.session.specs.Output.{begin}
use Rattle.session.specs.Kept.{Sizes, Keeps}

no_row : {A : Type 0} → Nothing ≡ AfterRow → A
no_row e = cc

pub begin_keeps : (c : Columns) (g : Slices) → Keeps begin c g
unfolding begin start flat
begin_keeps c g =
    let h = laws.first c in
    record {
      within = h.within;
      tables = h.tables;
      row = λ e. no_row e;
      graph = record { u = refl; v = refl; weight = refl; obs = refl; others = refl; weights = refl };
      shots = omega arith;
      failures = omega arith;
    }

-- four tables and those of the graph, as a program makes them
pub record Made (bs : List ℕ) (rows : List Row) (es ws : List ℕ) (g : Slices) : Type 0 where
  pub bits : length bs ≡ 1024
  pub counts : length rows ≡ 1024
  pub entries : length es ≡ 8192
  pub shot : length ws ≡ 6
  pub u : length g.edge_u ≡ 1024
  pub v : length g.edge_v ≡ 1024
  pub weight : length g.edge_weight ≡ 1024
  pub obs : length g.edge_obs ≡ 2048

pub sizes_made : (bs : List ℕ) (rows : List Row) (es ws : List ℕ) (g : Slices) → Made bs rows es ws g → Sizes (columns_of bs rows es ws) g
sizes_made bs rows es ws g m =
    let long : (f : Row → ℕ) → length (map f rows) ≡ 1024 = λ f. length-map rows f ∙ m.counts in
    record {
      room =
          rw (
            m.bits,
            long (λ r. r.detectors),
            long (λ r. r.observables),
            long (λ r. r.components),
            long (λ r. r.component_detectors),
            long (λ r. r.component_observables),
            m.entries,
            length-take 4 ws,
            length-drop 4 ws,
            m.shot,
          ) refl;
      sized = record {
        bits = omega (arith, m.bits);
        component_detectors = omega (arith, long (λ r. r.component_detectors));
        component_observables = omega (arith, long (λ r. r.component_observables));
        entries = omega (arith, m.entries);
      };
      wide = record { ends = omega (arith, m.u); others = omega (arith, m.v); weights = omega (arith, m.weight); rows = omega (arith, m.obs) };
      few = omega (arith, m.u);
      rows = omega (arith, m.obs);
    }
