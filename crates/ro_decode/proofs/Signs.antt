-- A shift to the right that spreads the sign.
use Rattle.std.specs.Prelude.{◌≡◌, ℕ, ◌/◌, ◌%◌, ◌^◌, ◌<◌, ◌≤◌, nat_lt, true, false}
use Rattle.std.specs.Int.{cast_signed, cast_unsigned, int_shr, w32}
use Rattle.std.proofs.Common.{arith, rules, inl, inr}
use Rattle.std.proofs.lemmas.Bool.{cases_lt, lt-ltb}
use Rattle.ro_decode.specs.Fields.{i_immediate}

not_under : (m n : ℕ) → n ≤ m → nat_lt m n ≡ false
not_under m n h = search rules

pub spread : (w : ℕ) → w < 2 ^ 32 → cast_unsigned w32 (int_shr (cast_signed w32 w) 20) ≡ i_immediate w
spread w l = elim (cases_lt w (2 ^ 31)) [
  | inl low ↦
      let sign : nat_lt w (2 ^ 31) ≡ true = lt-ltb w _ low in
      let top : nat_lt (w / 2 ^ 20 % 2 ^ 12) (2 ^ 11) ≡ true = lt-ltb _ _ (omega arith) in
      rw (sign, top) (omega arith)
  | inr high ↦
      let sign : nat_lt w (2 ^ 31) ≡ false = not_under w _ high in
      let top : nat_lt (w / 2 ^ 20 % 2 ^ 12) (2 ^ 11) ≡ false = not_under _ _ (omega arith) in
      rw (sign, top) (omega arith)
]
