use Rattle.std.proofs.Common.{◌≡◌, ◌<◌, ℕ, Bool, length, refl, sym, ap, arith}
use Rattle.ro_replica.specs.Seen.{ReplicaOf}
use Rattle.ro_replica.proofs.Going.{advanced, advanced_countable, replica_kept}
use Rattle.ro_replica.proofs.Remains.{same_pages}
use Rattle.ro_replica.proofs.replicas.Replica.advance.Goals as goal

pub returns-clause-leads : goal.returns-clause-leads
returns-clause-leads c =
    advanced _ _ c.args.thread c.args.most c.until_due-until.result c.run.result.count c.index_mut-state.result.now c.run.new.thread c.run.new.memory c.run.result.stop _
    c.self.view_is c.requires.thread c.index_mut-state.ensures.value refl c.requires.struck c.until_due-until.ensures.most c.requires.some
    c.until_due-until.ensures.free c.until_due-until.ensures.some c.run.ensures.run c.run.ensures.pages

pub returns-clause-countable : goal.returns-clause-countable
returns-clause-countable c =
    advanced_countable _ _ c.args.thread c.args.most c.until_due-until.result c.run.result.count c.index_mut-state.result.now c.run.new.thread c.run.new.memory c.run.result.stop
    c.self.view_is c.requires.thread c.index_mut-state.ensures.value c.until_due-until.ensures.most c.requires.countable c.run.ensures.run

pub invariant_of-self : goal.invariant_of-self
invariant_of-self c =
    let same : length c.self.inside.threads.items ≡ length c.args.self.now.threads = ap (λ (v : ReplicaOf). length v.threads) c.self.view_is in
    let within : c.args.thread < length c.self.inside.threads.items = omega arith in (
      replica_kept _ _ _ _ _ _ _ _ _ c.args.thread c.index_mut-state.result.now c.run.new.thread _ _ c.self.invariant.0 within c.index_mut-state.ensures.value c.run.ensures.run,
      same_pages _ c.self.inside.calls c.self.inside.pages c.run.new.memory c.run.new.learnt (λ page. ap (λ (f : ℕ → Bool). f page) (sym c.run.ensures.pages)) c.run.ensures.kept c.run.ensures.learnt,
    )
