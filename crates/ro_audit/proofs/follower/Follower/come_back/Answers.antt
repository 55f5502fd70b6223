use Rattle.std.proofs.Common.{◌≡◌, ◌<◌, ◌++◌, ◌∷◌, [], List, Option, Some, None, length, set, sym, ap, ◌∙◌, subst, true≢false}
use Rattle.std.specs.Prelude.{is_some, slice_index_or}
use Rattle.std.proofs.lemmas.List.{with_items_is, length-set}
use Rattle.ro_cores.specs.Loans.{LentOf}
use Rattle.ro_audit.specs.Following.{KnowsGot}
use Rattle.ro_audit.proofs.Refused.{none-lent, other-lent}
use Rattle.ro_audit.proofs.Steps.{came-back, came-known, return-followed}
use Rattle.ro_audit.proofs.follower.Follower.come_back.Goals as goal

pub returns-in_default-clause-followed : goal.returns-in_default-clause-followed
returns-in_default-clause-followed g c =
    let core = g.C.RunCore.seen c.args.self.now.core in
    let slot : slice_index_or c.args.self.now.lent.items c.args.lease.driver None ≡ None = ap (λ (xs : List (Option LentOf)). slice_index_or xs c.args.lease.driver None) (sym c.as_mut_slice.ensures.value) ∙ sym c.take_back.ensures.lent ∙ c.in_default.is in
    none-lent core.job core.journal c.requires.going c.args.lease c.args.entry.now c.requires.returns (slice_index_or c.args.self.now.lent.items c.args.lease.driver None) slot (c.requires.follows.slots c.args.lease.driver)

pub returns-then-not-is_of-clause-followed : goal.returns-then-not-is_of-clause-followed
returns-then-not-is_of-clause-followed g c =
    let core = g.C.RunCore.seen c.args.self.now.core in
    let slot : slice_index_or c.args.self.now.lent.items c.args.lease.driver None ≡ Some c.in-Some.loan = ap (λ (xs : List (Option LentOf)). slice_index_or xs c.args.lease.driver None) (sym c.as_mut_slice.ensures.value) ∙ sym c.take_back.ensures.lent ∙ c.in-Some.is in
    other-lent core.job core.journal c.requires.going c.args.lease c.args.entry.now c.requires.returns c.requires.follows.legal (slice_index_or c.args.self.now.lent.items c.args.lease.driver None) c.in-Some.loan slot (c.requires.follows.slots c.args.lease.driver)
    (λ its. true≢false (sym (c.is_of.ensures.1 its) ∙ c.if-not-is_of.true))

pub returns-in-Ok-clause-followed : goal.returns-in-Ok-clause-followed
returns-in-Ok-clause-followed g c =
    let core = g.C.RunCore.seen c.args.self.now.core in
    let rows = g.C.AuditCore.got_of c.come_back.new.got in
    let came = came-back g.C.RunCore.back_of core.job core.journal c.args.entry.now c.in_ok-back.field-0 c.in-Ok.back c.in-Ok.is c.in_ok-back.ensures.returns in
    let knows = came-known (KnowsGot core.job (core.journal ++ c.args.entry.now ∷ []) rows) c.in_ok-back.field-0 c.in-Ok.back c.in-Ok.is c.in_ok-back.ensures.knows in
    let vacant = c.take_back.ensures.vacant (ap is_some c.in-Some.is) in
    let items = with_items_is c.args.self.now.lent c.take_back.new.lent (ap length vacant.0 ∙ length-set c.as_mut_slice.result.now c.args.lease.driver None ∙ c.as_mut_slice.ensures.len) in
    return-followed core (g.C.RunCore.seen c.give_back.new.self) c.args.lease c.args.entry.now (g.C.RunCore.back_of c.in-Ok.back) c.args.self.now.lent.items _ (g.C.AuditCore.got_of c.args.self.now.got) rows c.args.self.now.output.items
    c.requires.follows c.requires.returns came.0 came.1 c.give_back.ensures.entry c.give_back.ensures.output
    (subst (λ (xs : List (Option LentOf)). c.args.lease.driver < length xs) c.as_mut_slice.ensures.value vacant.1)
    (items ∙ vacant.0 ∙ ap (λ (xs : List (Option LentOf)). set xs c.args.lease.driver None) c.as_mut_slice.ensures.value)
    knows
