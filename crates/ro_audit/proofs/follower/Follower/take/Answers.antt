use Rattle.std.proofs.Common.{List, Option, Some, None, length, set, sym, ap, ◌∙◌, subst}
use Rattle.std.proofs.lemmas.List.{with_items_is, length-set}
use Rattle.ro_journal.specs.declared.Entry.TheVariants.{Take}
use Rattle.ro_legal.specs.Legal.{MayTake}
use Rattle.ro_legal.specs.Rules.{replay}
use Rattle.ro_cores.specs.Loans.{LentOf, lease_in, IsLent}
use Rattle.ro_audit.proofs.Steps.{to-new, same-followed, same-follows, take-followed}
use Rattle.ro_audit.proofs.follower.Follower.take.Goals as goal

pub returns-clause-followed : goal.returns-clause-followed
returns-clause-followed g c =
    let core = g.C.RunCore.seen c.args.self.now.core in
    let mid = g.C.RunCore.seen c.room.new.self in
    let new = g.C.RunCore.seen c.lend.new.self in
    let rows = g.C.AuditCore.got_of c.args.self.now.got in
    let loan = c.new-loan.result in
    let output = c.args.self.now.output.items in
    let stays = c.room.ensures.stays in
    let may = to-new core mid stays.job stays.journal (λ j js. MayTake j (replay j js) c.args.lease) (c.may_take.ensures.0 c.if-not-may_take.false) in
    let f = same-follows core mid stays.job stays.journal c.args.self.now.lent.items rows output c.requires.follows in
    let is = c.new-loan.ensures in
    let items = with_items_is c.args.self.now.lent c.lend-2.new.lent (ap length c.lend-2.ensures ∙ length-set c.as_mut_slice.result.now c.args.lease.driver (Some loan) ∙ c.as_mut_slice.ensures.len) in
    same-followed core mid stays.job stays.journal (Take c.args.lease) None new _ rows output
    (take-followed mid new c.args.lease loan c.args.self.now.lent.items _ rows output (ap lease_in is ∙ c.lend.ensures.lease) f may c.lend.ensures.entry c.lend.ensures.output
    (subst (IsLent mid.job mid.journal) (sym is) c.lend.ensures.lent)
    (items ∙ c.lend-2.ensures ∙ ap (λ (xs : List (Option LentOf)). set xs c.args.lease.driver (Some loan)) c.as_mut_slice.ensures.value))
