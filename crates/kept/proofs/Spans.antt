-- The entries of mechanism i in the tables, as a loop over the mechanisms comes past them.
use Rattle.std.proofs.Common.{ℕ, ◌+◌, ◌<◌, ◌≤◌, ◌≡◌, length, true, ap, arith}
use Rattle.dem.specs.declared.Mechanism.{Mechanism}
use Rattle.dem.specs.declared.Place.{Place}
use Rattle.dem.specs.Tables.{Tables, entries_in, tables_hold}
use Rattle.dem.specs.Positions.{head_of, place_of, place_past}
use Rattle.dem.proofs.Positions.{reached_of, place_next, entries_le}

-- from the place p to the place q
pub record Span (i n : ℕ) (t : Tables) (p q : Place) : Type 0 where
  pub next : q ≡ place_of (i + 1) t
  pub from : p.entry ≡ entries_in i t
  pub to : q.entry ≡ entries_in (i + 1) t
  pub rises : entries_in i t ≤ entries_in (i + 1) t
  pub within : entries_in (i + 1) t ≤ entries_in n t
  pub fits : entries_in n t ≤ length t.entries

pub span : (i n : ℕ) (t : Tables) (h : Mechanism) (p q : Place) → i < n → tables_hold n t ≡ true → h ≡ head_of i t → p ≡ place_of i t
    → q ≡ place_past h p t.component_detectors t.component_observables → Span i n t p q
span i n t h p q l held eh ep eq =
    let next : q ≡ place_of (i + 1) t = rw (eq, eh, ep) (place_next i t) in
    record {
      next = next;
      from = ap (λ (r : Place). r.entry) ep;
      to = ap (λ (r : Place). r.entry) next;
      rises = entries_le i (i + 1) t (omega arith);
      within = entries_le (i + 1) n t (omega arith);
      fits = (reached_of n t held).entries;
    }
