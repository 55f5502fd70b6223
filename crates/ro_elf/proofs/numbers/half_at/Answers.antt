use Rattle.std.proofs.Common.{◌∙◌, ap, arith}
use Rattle.byteorder.specs.Endian.{little_number}
use Rattle.ro_elf.proofs.Tails.{tail_whole}
use Rattle.ro_elf.specs.Numbers.{half_in}
use Rattle.ro_elf.proofs.numbers.half_at.Goals as goal

pub returns : goal.returns
unfolding half_in
returns c = c.read_u16.ensures ∙ ap (little_number 2) (tail_whole c.args.bytes.now c.args.offset (omega arith))
