use Rattle.std.proofs.Common.{◌≡◌, ◌⊎◌, ◌^◌, ◌/◌, ◌%◌, ◌*◌, ℕ, bit_or, w32, ap, sym, ◌∙◌, inl, inr}
use Rattle.std.specs.Prelude.{◌≢◌}
use Rattle.std.proofs.lemmas.Bool.{cases_eq}
use Rattle.std.proofs.lemmas.Nat.Bits.{bit_at_set_same, bit_at_set_other}
use Rattle.ro_audit.specs.Registers.{IsMarked}
use Rattle.ro_audit.proofs.copies.with_register.Goals as goal

pub returns : goal.returns
returns c other = (λ marked. to marked (cases_eq other c.args.number), from)
  where
    to : IsMarked (bit_or c.args.registers (1 * 2 ^ c.args.number % 2 ^ 32)) other → (other ≡ c.args.number) ⊎ (other ≢ c.args.number) → (other ≡ c.args.number) ⊎ IsMarked c.args.registers other
    to marked (inl same) = inl same
    to marked (inr apart) = inr (sym (bit_at_set_other w32 c.args.registers c.args.number c.requires other apart) ∙ marked)

    from : (other ≡ c.args.number) ⊎ IsMarked c.args.registers other → IsMarked (bit_or c.args.registers (1 * 2 ^ c.args.number % 2 ^ 32)) other
    from (inl same) = ap (λ (j : ℕ). bit_or c.args.registers (1 * 2 ^ c.args.number % 2 ^ 32) / 2 ^ j % 2) same ∙ bit_at_set_same w32 c.args.registers c.args.number c.requires
    from (inr was) = by (cases_eq other c.args.number)
      where
        by : (other ≡ c.args.number) ⊎ (other ≢ c.args.number) → IsMarked (bit_or c.args.registers (1 * 2 ^ c.args.number % 2 ^ 32)) other
        by (inl same) = ap (λ (j : ℕ). bit_or c.args.registers (1 * 2 ^ c.args.number % 2 ^ 32) / 2 ^ j % 2) same ∙ bit_at_set_same w32 c.args.registers c.args.number c.requires
        by (inr apart) = bit_at_set_other w32 c.args.registers c.args.number c.requires other apart ∙ was
