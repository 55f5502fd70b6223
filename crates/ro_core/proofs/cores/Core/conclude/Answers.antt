use Rattle.std.proofs.Common.{refl, ap, ◌∙◌, arith}
use Rattle.ro_legal.specs.Legal.{output_of}
use Rattle.ro_core.specs.Fields.{Fields}
use Rattle.ro_core.specs.Runs.{fields_of}
use Rattle.ro_core.proofs.Concludes.{conclude-room, conclude-holds, conclude-output}
use Rattle.ro_core.proofs.cores.Core.conclude.Goals as goal

pub push_reserved-requires : goal.push_reserved-requires
push_reserved-requires c =
    let f : Fields = record (fields_of c.args.self.now) { views = c.requires.holds.0 } in
    let room = conclude-room f c.requires.holds.1 c.args.how c.requires.going c.requires.allowed in omega arith

pub returns-clause-holds : goal.returns-clause-holds
returns-clause-holds c =
    let f : Fields = record (fields_of c.args.self.now) { views = c.requires.holds.0 } in
    let room = conclude-room f c.requires.holds.1 c.args.how c.requires.going c.requires.allowed in
    conclude-holds f c.requires.holds.1 c.args.how c.requires.going c.requires.allowed c.requires.not_sink _ refl refl refl refl refl refl refl refl refl refl refl (record { lent = refl; wishes = refl; lanes = refl }) refl refl refl refl c.push_reserved.ensures.items
    (omega (arith, room, c.push_reserved.ensures.len, c.push_reserved.ensures.capacity)) c.requires.views

pub returns-clause-output : goal.returns-clause-output
returns-clause-output c =
    let f : Fields = record (fields_of c.args.self.now) { views = c.requires.holds.0 } in
    ap (output_of f.job) c.push_reserved.ensures.items ∙ conclude-output f c.requires.holds.1 c.args.how c.requires.going c.requires.allowed c.requires.not_sink
