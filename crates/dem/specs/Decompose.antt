-- The decomposed model: docs/RULES.md, "Decomposition".
use Rattle.std.specs.Prelude.{Option, None, Some, ℕ, zero, suc, ◌+◌, List, [], ◌∷◌, ◌++◌, map, Bool, true, false, cond, not, ◌&&◌, length, eqb, leb, ltb, pos, Float}
use Rattle.std.specs.Float.Ieee as Ieee
use Rattle.std.specs.Float.{binary64, fin}
use Rattle.lists.specs.Lists.{filter, any}
use Rattle.codes.specs.declared.Refusal.{Refusal}
use Rattle.codes.specs.declared.Refusal.TheVariants.{Limit, NoCover}
use Rattle.codes.specs.Limits.{max_mechanisms}
use Rattle.dem.specs.Model.{Symptom, ErrorMechanism}
use Rattle.dem.specs.Tables.{symptom_entries}
use Rattle.dem.specs.Cover.{first_cover}

-- ---- probabilities

abbrev pub one : Float
one = fin false 1 (pos 0)

-- "Adding p to q is q·(1-p) + p·(1-q), each operation rounded once"
unfoldable pub plus : Float → Float → Float
plus q p = Ieee.add binary64 (Ieee.mul binary64 q (Ieee.sub binary64 one p)) (Ieee.mul binary64 p (Ieee.sub binary64 one q))

abbrev pub raised : Float → ErrorMechanism → ErrorMechanism
raised p m = record { probability = plus m.probability p; symptom = m.symptom; components = m.components }

-- p is added to mechanism k
unfoldable pub add_at : Float → ℕ → List ErrorMechanism → List ErrorMechanism
unfolding plus
add_at p k [] = []
add_at p zero (m ∷ ms) = raised p m ∷ ms
add_at p (suc k) (m ∷ ms) = m ∷ add_at p k ms

-- and to each of a list of mechanisms, in order
unfoldable pub add_all : Float → List ℕ → List ErrorMechanism → List ErrorMechanism
unfolding add_at
add_all p [] ms = ms
add_all p (k ∷ ks) ms = add_all p ks (add_at p k ms)

-- ---- suggested components

unfoldable pub same_list : List ℕ → List ℕ → Bool
same_list [] [] = true
same_list [] (y ∷ ys) = false
same_list (x ∷ xs) [] = false
same_list (x ∷ xs) (y ∷ ys) = eqb x y && same_list xs ys

-- equal lists, both
unfoldable pub same_symptom : Symptom → Symptom → Bool
unfolding same_list
same_symptom s r = same_list s.detectors r.detectors && same_list s.observables r.observables

abbrev pub or_else : Option ℕ → Bool → ℕ → Option ℕ
or_else (Some k) b at = Some k
or_else None true at = Some at
or_else None false at = None

-- "the LAST mechanism with equal lists", of those from number `at` on
unfoldable pub last_equal : Symptom → ℕ → List ErrorMechanism → Option ℕ
unfolding same_symptom
last_equal s at [] = None
last_equal s at (m ∷ ms) = or_else (last_equal s (suc at) ms) (same_symptom m.symptom s) at

-- the lent places: for mechanisms, and for list entries
pub record Places : Type 0 where
  pub mechanisms : ℕ
  pub entries : ℕ

-- the entries that a model takes
unfoldable pub entries_of : List ErrorMechanism → ℕ
unfolding symptom_entries
entries_of [] = 0
entries_of (m ∷ ms) = length (symptom_entries (m.symptom ∷ m.components)) + entries_of ms

-- one more mechanism with the symptom s finds its place, "or past 16,384"
unfoldable pub has_place : Places → Symptom → List ErrorMechanism → Bool
unfolding entries_of symptom_entries
has_place room s ms =
    ltb (length ms) room.mechanisms && (ltb (length ms) max_mechanisms && leb (entries_of ms + length (symptom_entries (s ∷ []))) room.entries)

-- a model, or a refusal on the way to it
pub data Split : Type 0 where
  into : List ErrorMechanism → Split
  refused : Refusal → Split

-- p is added to the last equal mechanism, or to a new one appended at probability 0
unfoldable pub add_component : Places → Float → Symptom → List ErrorMechanism → Option ℕ → Split
unfolding add_at has_place plus
add_component room p s ms (Some k) = into (add_at p k ms)
add_component room p s ms None =
    cond (has_place room s ms)
    (into (ms ++ (record { probability = plus (fin false 0 (pos 0)) p; symptom = s; components = [] } ∷ [])))
    (refused Limit)

abbrev pub add_next : Places → Float → Symptom → Split → Split
add_next room p s (refused r) = refused r
add_next room p s (into ms) = add_component room p s ms (last_equal s 0 ms)

-- every component, in order
unfoldable pub add_components : Places → Float → List Symptom → Split → Split
unfolding add_component last_equal
add_components room p [] r = r
add_components room p (s ∷ ss) r = add_components room p ss (add_next room p s r)

-- ---- a mechanism of over two detectors

abbrev pub is_graphlike : ErrorMechanism → Bool
is_graphlike m = leb (length m.symptom.detectors) 2

-- "each of one or two detectors"
abbrev pub one_or_two : Symptom → Bool
one_or_two s = leb 1 (length s.detectors) && leb (length s.detectors) 2

-- "Components present, each of one or two detectors"
unfoldable pub is_suggested : List Symptom → Bool
unfolding any
is_suggested [] = false
is_suggested (s ∷ ss) = not (any (λ r. not (one_or_two r)) (s ∷ ss))

abbrev pub by_cover : Float → ℕ → List ErrorMechanism → Option (List ℕ) → Split
by_cover p i ms (Some cs) = into (add_all p cs ms)
by_cover p i ms None = refused (NoCover i)

-- one of the two ways; kept are the mechanisms that a cover may choose
unfoldable pub split_one : Places → List Symptom → ℕ → ErrorMechanism → List ErrorMechanism → Split
unfolding is_suggested add_components first_cover add_all
split_one room kept i m ms =
    cond (is_suggested m.components)
    (add_components room m.probability m.components (into ms))
    (by_cover m.probability i ms (first_cover kept m.symptom))

abbrev pub split_next : Places → List Symptom → ℕ → ErrorMechanism → Split → Split
split_next room kept i m (refused r) = refused r
split_next room kept i m (into out) = cond (is_graphlike m) (into out) (split_one room kept i m out)

-- each larger one, in order, the first mechanism being number i
unfoldable pub split_all : Places → List Symptom → ℕ → List ErrorMechanism → Split → Split
unfolding split_one
split_all room kept i [] r = r
split_all room kept i (m ∷ ms) r = split_all room kept (suc i) ms (split_next room kept i m r)

-- "Those with 0 to 2 detectors are kept in order, with their components"
unfoldable pub kept_of : List ErrorMechanism → List ErrorMechanism
unfolding filter
kept_of ms = filter is_graphlike ms

unfoldable pub decompose : Places → List ErrorMechanism → Split
unfolding kept_of split_all
decompose room ms = split_all room (map (λ m. m.symptom) (kept_of ms)) 0 ms (into (kept_of ms))
