use Rattle.std.proofs.Common.{◌≡◌, ◌∷◌, rules}
use Rattle.ro_text.specs.Lines.{parts_of}
use Rattle.ro_journal_text.proofs.HeadLines.{line_said, line_bad}
use Rattle.ro_journal_text.proofs.heads.replicas_line.Goals as goal

pub returns-in-Ok-clause-read : goal.returns-in-Ok-clause-read
returns-in-Ok-clause-read c =
    let cut : parts_of c.args.bytes.now ≡ c.in-Some.text.now ∷ parts_of c.in-Some.rest.now = search rules in
    λ more. line_said _ _ c.args.bytes.now c.in-Some.text.now c.in-Some.rest.now _ more cut c.in-Ok.ensures.read

pub returns-in-Err-clause-refused : goal.returns-in-Err-clause-refused
returns-in-Err-clause-refused c =
    let cut : parts_of c.args.bytes.now ≡ c.in-Some.text.now ∷ parts_of c.in-Some.rest.now = search rules in
    λ more. line_bad _ _ c.args.bytes.now c.in-Some.text.now c.in-Some.rest.now _ more cut c.in-Err.ensures.read
