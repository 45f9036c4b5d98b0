-- Cases of decomposition, by computation.
use Rattle.std.specs.Prelude.{None, Some, Err, ℕ, ◌≡◌, refl, List, [], ◌∷◌, true, false, pos, Float}
use Rattle.std.specs.Float.Ieee as Ieee
use Rattle.std.specs.Float.{binary64, fin, nan}
use Rattle.codes.specs.declared.Refusal.TheVariants.{Limit, Probability, Index, NoCover}
use Rattle.dem.specs.Model.{Symptom, ErrorMechanism, check_model}
use Rattle.dem.specs.Tables.{model_of, tables_of}
use Rattle.dem.specs.Cover.{first_cover}
use Rattle.dem.specs.Decompose.{Places, plus, into, refused, decompose}

abbrev pub quarter : Float
quarter = Ieee.of_bits binary64 0x3fd0000000000000

abbrev pub eighth : Float
eighth = Ieee.of_bits binary64 0x3fc0000000000000

abbrev pub of : List ℕ → List ℕ → Symptom
of ds os = record { detectors = ds; observables = os }

abbrev pub plain : Float → List ℕ → List ℕ → ErrorMechanism
plain p ds os = record { probability = p; symptom = of ds os; components = [] }

abbrev pub split : Float → List ℕ → List ℕ → List Symptom → ErrorMechanism
split p ds os cs = record { probability = p; symptom = of ds os; components = cs }

abbrev pub ample : Places
ample = record { mechanisms = 16384; entries = 100000 }

-- 0.25 added to 0.25 is 0.375
abbrev pub three_eighths : Float
three_eighths = Ieee.of_bits binary64 0x3fd8000000000000

abbrev pub w0 : Float
w0 = fin false 0 (pos 0)

pub record Cases : Type 0 where
  -- 0.25 added to 0.25 is 0.375
  pub added : plus quarter quarter ≡ three_eighths
  -- a kept minus zero with zero added becomes plus zero
  pub minus_zero : plus (fin true 0 (pos 0)) w0 ≡ w0
  -- the first cover, and none by observables that do not match
  pub covers : first_cover (of (0 ∷ []) [] ∷ of (1 ∷ 2 ∷ []) (0 ∷ []) ∷ of (2 ∷ []) (0 ∷ []) ∷ of (1 ∷ []) [] ∷ []) (of (0 ∷ 1 ∷ 2 ∷ []) (0 ∷ [])) ≡ Some (0 ∷ 1 ∷ [])
  pub later_cover : first_cover (of (0 ∷ []) [] ∷ of (1 ∷ 2 ∷ []) [] ∷ of (2 ∷ []) (0 ∷ []) ∷ of (1 ∷ []) [] ∷ []) (of (0 ∷ 1 ∷ 2 ∷ []) (0 ∷ [])) ≡ Some (0 ∷ 2 ∷ 3 ∷ [])
  pub no_cover : first_cover (of (0 ∷ []) [] ∷ of (1 ∷ 2 ∷ []) [] ∷ []) (of (0 ∷ 1 ∷ 2 ∷ []) (0 ∷ [])) ≡ None
  -- a suggestion goes to the last of two duplicates
  pub last_duplicate : decompose ample (plain eighth (0 ∷ []) [] ∷ plain eighth (0 ∷ []) [] ∷ split quarter (0 ∷ 1 ∷ 2 ∷ []) [] (of (0 ∷ []) [] ∷ []) ∷ [])
      ≡ into (plain eighth (0 ∷ []) [] ∷ plain (plus eighth quarter) (0 ∷ []) [] ∷ [])
  -- or to a new mechanism, which no cover may choose
  pub appended : decompose ample (split quarter (0 ∷ 1 ∷ 2 ∷ []) [] (of (0 ∷ []) [] ∷ of (1 ∷ 2 ∷ []) [] ∷ []) ∷ [])
      ≡ into (plain quarter (0 ∷ []) [] ∷ plain quarter (1 ∷ 2 ∷ []) [] ∷ [])
  pub appended_not_chosen : decompose ample (split quarter (0 ∷ 1 ∷ 2 ∷ []) [] (of (0 ∷ []) [] ∷ of (1 ∷ 2 ∷ []) [] ∷ []) ∷ plain quarter (0 ∷ 1 ∷ 2 ∷ []) [] ∷ [])
      ≡ refused (NoCover 1)
  -- a triple of probability 0 is treated like any other
  pub zero_triple : decompose ample (plain w0 (0 ∷ 1 ∷ 2 ∷ []) [] ∷ []) ≡ refused (NoCover 0)
  -- no place for a component's new mechanism: an earlier mechanism's 6 comes first
  pub no_place : decompose (record { mechanisms = 1; entries = 100 }) (split quarter (0 ∷ 1 ∷ 2 ∷ []) [] (of (0 ∷ []) [] ∷ of (1 ∷ 2 ∷ []) [] ∷ []) ∷ []) ≡ refused Limit
  pub six_first : decompose (record { mechanisms = 1; entries = 100 }) (plain quarter (0 ∷ 1 ∷ 2 ∷ []) [] ∷ split quarter (0 ∷ 1 ∷ 2 ∷ []) [] (of (0 ∷ []) [] ∷ of (1 ∷ 2 ∷ []) [] ∷ []) ∷ []) ≡ refused (NoCover 0)
  -- the model check: lists, then probability
  pub not_ascending : check_model 3 1 0 (plain quarter (1 ∷ 1 ∷ []) [] ∷ []) ≡ Err (Index 0)
  pub past_observables : check_model 3 1 0 (plain quarter (1 ∷ []) (0 ∷ []) ∷ plain quarter (1 ∷ []) (1 ∷ []) ∷ []) ≡ Err (Index 1)
  pub component_list : check_model 3 1 0 (split quarter (1 ∷ []) [] (of (3 ∷ []) [] ∷ []) ∷ []) ≡ Err (Index 0)
  pub five_before_four : check_model 3 1 0 (plain nan (1 ∷ 1 ∷ []) [] ∷ []) ≡ Err (Index 0)
  pub not_a_number : check_model 3 1 0 (plain nan (1 ∷ []) [] ∷ []) ≡ Err (Probability 0)
  pub certain : check_model 3 1 0 (plain (fin false 1 (pos 0)) (1 ∷ []) [] ∷ []) ≡ Err (Probability 0)
  -- tables written and read back
  pub read_back : model_of 2 (tables_of (split quarter (0 ∷ 2 ∷ []) (0 ∷ []) (of (0 ∷ []) [] ∷ of (2 ∷ []) (0 ∷ []) ∷ []) ∷ plain eighth (1 ∷ []) [] ∷ []))
      ≡ split quarter (0 ∷ 2 ∷ []) (0 ∷ []) (of (0 ∷ []) [] ∷ of (2 ∷ []) (0 ∷ []) ∷ []) ∷ plain eighth (1 ∷ []) [] ∷ []

pub cases : Cases
unfolding plus first_cover decompose check_model model_of tables_of Ieee.of_bits Ieee.add Ieee.sub Ieee.mul Ieee.le Ieee.lt
cases = record {
  added = refl;
  minus_zero = refl;
  covers = refl;
  later_cover = refl;
  no_cover = refl;
  last_duplicate = refl;
  appended = refl;
  appended_not_chosen = refl;
  zero_triple = refl;
  no_place = refl;
  six_first = refl;
  not_ascending = refl;
  past_observables = refl;
  component_list = refl;
  five_before_four = refl;
  not_a_number = refl;
  certain = refl;
  read_back = refl;
}
