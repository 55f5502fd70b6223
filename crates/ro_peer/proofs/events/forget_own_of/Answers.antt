use Rattle.std.proofs.Common.{List, sym, ap, ◌∙◌}
use Rattle.ro_thread.specs.declared.Thread.{Thread}
use Rattle.ro_replica.specs.Replica.{Replica}
use Rattle.ro_replica.specs.Seen.{replica_of}
use Rattle.ro_peer.proofs.Forgetting.{keeps_stop, loses_stop, no_stop, stop_stays, stop_goes}
use Rattle.ro_peer.proofs.events.forget_own_of.Goals as goal

pub returns-in_default-clause-forgotten : goal.returns-in_default-clause-forgotten
returns-in_default-clause-forgotten c =
    let replica : Replica = replica_of c.args.replica.now in
    ap (λ (ts : List Thread). record replica { threads = ts }) (sym (keeps_stop c.args.mutexes.now replica.threads c.args.thread (no_stop c.args.mutexes.now _ (sym c.stop.ensures ∙ c.in_default.is))))

pub returns-then-is_own-clause-forgotten : goal.returns-then-is_own-clause-forgotten
returns-then-is_own-clause-forgotten c =
    let replica : Replica = replica_of c.args.replica.now in
    c.forget_stop.ensures.forgotten
    ∙ ap (λ (ts : List Thread). record replica { threads = ts }) (loses_stop c.args.mutexes.now replica.threads c.args.thread (stop_goes c.args.mutexes.now _ c.in-Some.stop (sym c.stop.ensures ∙ c.in-Some.is) (sym c.is_own.ensures ∙ c.if-is_own.true)))

pub returns-else-is_own-clause-forgotten : goal.returns-else-is_own-clause-forgotten
returns-else-is_own-clause-forgotten c =
    let replica : Replica = replica_of c.args.replica.now in
    ap (λ (ts : List Thread). record replica { threads = ts }) (sym (keeps_stop c.args.mutexes.now replica.threads c.args.thread (stop_stays c.args.mutexes.now _ c.in-Some.stop (sym c.stop.ensures ∙ c.in-Some.is) (sym c.is_own.ensures ∙ c.if-is_own.false))))
