use Rattle.std.proofs.Common.{◌≡◌, Some, refl, sym, ap, ◌∙◌}
use Rattle.std.proofs.lemmas.Bool.{eqb-true, eq-eqb}
use Rattle.ro_decode.specs.declared.Instr.TheVariants.{Ecall}
use Rattle.ro_decode.specs.Table.{instruction_of, word_of}
use Rattle.ro_decode.proofs.WordsBack.{written_back}
use Rattle.ro_decode.proofs.rows.is_ecall.Goals as goal

-- the word of ECALL
is-one : instruction_of 0x73 ≡ Some Ecall
unfolding instruction_of
is-one = refl

pub returns : goal.returns
unfolding word_of
returns c = (
  λ e. ap instruction_of (eqb-true c.args.word 0x73 e) ∙ is-one,
  λ f. eq-eqb c.args.word 0x73 (sym (written_back c.args.word Ecall c.ranges.word.fits f).1),
)
