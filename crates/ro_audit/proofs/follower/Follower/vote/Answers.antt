use Rattle.std.proofs.Common.{◌++◌, ℕ, List, sym, ap, ◌∙◌, subst}
use Rattle.ro_audit.specs.Following.{Followed}
use Rattle.ro_audit.proofs.Steps.{vote-followed}
use Rattle.ro_audit.proofs.follower.Follower.vote.Goals as goal

pub returns-clause-followed : goal.returns-clause-followed
returns-clause-followed g c =
    let x = c.in_ok-came.ensures in
    let old = g.C.RunCore.seen c.args.self.now.core in
    let new = g.C.RunCore.seen c.vote.new.self in
    let rows = g.C.AuditCore.got_of c.args.self.now.got in
    let output = c.args.self.now.output.items in
    let bytes = g.C.RunCore.payload_of c.vote.new.self c.in_ok-came.writer in
    subst (λ (xs : List ℕ). Followed old c.args.entry.now c.unless_same.result new c.args.self.now.lent.items rows xs) (sym (c.in_ok-extend_from_slice.ensures.items ∙ ap (λ (xs : List ℕ). output ++ xs) c.payload-payload.ensures))
    (vote-followed old new c.args.entry.now c.in_ok-came.came c.unless_same.result c.args.self.now.lent.items rows output c.requires.follows c.unless_same.ensures x.entry.0 x.entry.2 c.args.thread bytes c.requires.may c.requires.decides x.entry.1 x.wrote.output)
