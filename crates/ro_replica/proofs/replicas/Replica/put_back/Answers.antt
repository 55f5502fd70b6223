use Rattle.std.specs.Prelude.{slice_get}
use Rattle.std.proofs.Common.{◌≡◌, ◌≤◌, ◌+◌, ℕ, Bool, length, sym, ap, ◌∙◌, arith}
use Rattle.ro_pages.specs.Held.{has_page}
use Rattle.ro_replica.proofs.Backs.{comes-back}
use Rattle.ro_replica.proofs.Going.{replica_with}
use Rattle.ro_replica.proofs.Remains.{same_pages}
use Rattle.ro_replica.proofs.replicas.Replica.put_back.Goals as goal

pub take_all_back-requires-clause-mine : goal.take_all_back-requires-clause-mine
take_all_back-requires-clause-mine c = λ page there.
    ap (λ v. has_page v.held.pages page) c.self.view_is ∙ c.requires.mine page (ap (λ v. has_page v.held.pages page) (sym c.lane.view_is) ∙ there)

pub invariant_of-self : goal.invariant_of-self
invariant_of-self c =
    let watchdog : c.lane.inside.watchdog ≡ c.self.inside.watchdog = ap (λ v. v.watchdog) c.lane.view_is ∙ (c.requires.program ∙ sym (ap (λ v. v.watchdog) c.self.view_is)) in
    let watched : c.lane.inside.thread.since ≤ c.self.inside.watchdog = omega (arith, watchdog, c.lane.invariant.0) in (
      replica_with _ _ _ _ c.args.thread _ c.self.invariant.0 watched,
      same_pages _ c.self.inside.calls c.self.inside.pages c.take_all_back.new.self _ (λ page. ap (λ (f : ℕ → Bool). f page) (sym c.take_all_back.ensures.pages)) (ap slice_get c.take_all_back.ensures.numbers) c.self.invariant.1,
    )

pub returns-clause-back : goal.returns-clause-back
returns-clause-back c = comes-back _ _ _ _ c.args.thread c.take_all_back.new.self.pages c.args.stop c.self.view_is c.lane.view_is c.take_all_back.ensures.back c.take_all_back.ensures.pages

pub returns-clause-room : goal.returns-clause-room
returns-clause-room c = c.take_all_back.ensures.few_spare ∙ ap (λ v. v.held.spare + length v.held.numbers) c.lane.view_is
