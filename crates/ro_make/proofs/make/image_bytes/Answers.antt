use Rattle.std.proofs.Common.{ap, ◌∙◌, arith}
use Rattle.std.proofs.lemmas.Result.{IfOk-weaker}
use Rattle.ro_elf.specs.Elf.{bad_headers}
use Rattle.ro_make.proofs.Accepted.{file_passes}
use Rattle.ro_make.proofs.make.image_bytes.Goals as goal

pub returns-clause-accepted : goal.returns-clause-accepted
returns-clause-accepted c =
    let words = c.args.words.now in
    let flags = c.args.flags in
    IfOk-weaker c.file_bytes.result _ _
    (λ file is some runs. ap bad_headers is ∙ file_passes words flags _ some c.requires.words (omega arith) runs)
    c.file_bytes.ensures
