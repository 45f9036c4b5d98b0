-- What a batch of packed shots says of the check that it was taken by.
use Rattle.std.specs.Prelude.{Result, Ok, Err}
use Prim.Native.Nat.{ℕ}
use mathlib.Core.Path.{◌≡◌, refl}
use mathlib.Core.List.{List}
use Rattle.bits.specs.Rows.{words}
use Rattle.codes.specs.declared.Refusal.{Refusal}
use Rattle.codes.specs.Order.{Checked}
use Rattle.packed.specs.Packed.{check_packed, packed_by, packed_of}

-- what a check is, of which a batch of packed shots was made
pub record Unpacked (c : Checked) (p : Result ℕ Refusal) : Type 0 where
  pub refused : (r : Refusal) → p ≡ Err r → c ≡ Err r
  pub taken : (m : ℕ) → p ≡ Ok m → c ≡ Ok tt

unpack : (m : ℕ) (c : Checked) → Unpacked c (packed_by m c)
unpack m (Ok tt) = record { refused = λ r h. cc; taken = λ n h. refl }
unpack m (Err r) = record { refused = λ s h. cc; taken = λ n h. cc }

pub unpacked : (rows : List ℕ) (shots width : ℕ) (p : Result ℕ Refusal) → p ≡ packed_of rows shots width → Unpacked (check_packed rows shots width) p
unfolding packed_of
unpacked rows shots width p h = rw h (unpack (words width) (check_packed rows shots width))
