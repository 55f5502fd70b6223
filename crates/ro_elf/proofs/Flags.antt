-- A flag by its mask.
use Rattle.std.proofs.Common.{◌≡◌, ℕ, ◌*◌, ◌/◌, ◌%◌, nat_eq, bit_and, arith}
use Rattle.std.proofs.lemmas.Nat.Bits.{and_pow}
use Rattle.std.proofs.lemmas.Bool.Decides.{nat_tests}

pub flag_4 : (flags : ℕ) → nat_eq (bit_and flags 4) 4 ≡ nat_eq (flags / 4 % 2) 1
flag_4 flags =
    let masked : bit_and flags 4 ≡ flags / 4 % 2 * 4 = and_pow flags 2 in
    rw masked (grind (arith, nat_tests))

pub flag_2 : (flags : ℕ) → nat_eq (bit_and flags 2) 2 ≡ nat_eq (flags / 2 % 2) 1
flag_2 flags =
    let masked : bit_and flags 2 ≡ flags / 2 % 2 * 2 = and_pow flags 1 in
    rw masked (grind (arith, nat_tests))
