-- What the model check says of such columns; proofs/Bits.antt proves it.
use Rattle.std.specs.Prelude.{Ok, ℕ, ◌≡◌, true, false, List, Float}
use Rattle.std.specs.Float.Ieee as Ieee
use Rattle.std.specs.Float.{binary64}
use Rattle.dem.specs.Model.{probability_fits, check_model}
use Rattle.dem.specs.Tables.{model_of}
use Rattle.dem.specs.Positions.{tables}
use Rattle.model_check.specs.Bits.{probability_of, Alike, Bytes}

pub record Laws : Type 0 where
  -- "outside [0,1) or NaN": NaN bits are refused as a NaN is
  pub fits_bits : (b : ℕ) → probability_fits (probability_of b) ≡ probability_fits (Ieee.of_bits binary64 b)
  pub same_bits : (b : ℕ) → probability_fits (probability_of b) ≡ true → probability_of b ≡ Ieee.of_bits binary64 b
  pub nan_refused : (b : ℕ) → Ieee.nan_bits binary64 b ≡ true → probability_fits (probability_of b) ≡ false
  -- bits that are no NaN's give their number, whether it is a probability or not
  pub number_bits : (b : ℕ) → Ieee.nan_bits binary64 b ≡ false → probability_of b ≡ Ieee.of_bits binary64 b
  -- the check of a model answers alike
  pub check_alike : (n D O i : ℕ) (ps qs : List Float) (ds os cs bs cds cos es : List ℕ) → Alike n ps qs → Bytes n cs bs
      → check_model D O i (model_of n (tables qs ds os bs cds cos es)) ≡ check_model D O i (model_of n (tables ps ds os cs cds cos es))
  -- and a model that it accepts is the same
  pub same_accepted : (n D O i : ℕ) (ps qs : List Float) (ds os cs bs cds cos es : List ℕ) → Alike n ps qs → Bytes n cs bs
      → check_model D O i (model_of n (tables qs ds os bs cds cos es)) ≡ Ok tt
      → model_of n (tables qs ds os bs cds cos es) ≡ model_of n (tables ps ds os cs cds cos es)
