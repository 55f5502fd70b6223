use Rattle.std.proofs.Common.{◌^◌, ◌/◌, ◌%◌, ◌*◌, bit_or, w64, ap, ◌∙◌, inl, inr}
use Rattle.std.proofs.lemmas.Bool.{cases_eq}
use Rattle.std.proofs.lemmas.Nat.Bits.{bit_at_set_same, bit_at_set_other}
use Rattle.ro_event.proofs.table.with_bit.Goals as goal

pub returns-clause-set : goal.returns-clause-set
returns-clause-set c = bit_at_set_same w64 c.args.filter c.args.bit c.requires

pub returns-clause-kept : goal.returns-clause-kept
returns-clause-kept c k e = elim (cases_eq k c.args.bit) [
  | inl same ↦ ap (λ j. bit_or c.args.filter (1 * 2 ^ c.args.bit % 2 ^ 64) / 2 ^ j % 2) same ∙ bit_at_set_same w64 c.args.filter c.args.bit c.requires
  | inr other ↦ bit_at_set_other w64 c.args.filter c.args.bit c.requires k other ∙ e
]
