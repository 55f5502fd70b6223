use Rattle.std.proofs.Common.{arith, ap, set, get_or, ◌∙◌}
use Rattle.ro_pages.specs.Held.{has_page}
use Rattle.ro_replica.specs.Replica.{without_cancelled}
use Rattle.std.proofs.lemmas.List.{get_or_default}
use Rattle.ro_replica.proofs.Copies.{no_thread}
use Rattle.std.proofs.lemmas.List.Edits.{map_over_more}
use Rattle.ro_replica.proofs.applying.forget_faults.Goals as goal

pub loop-thread-preserved : goal.loop-thread-preserved
loop-thread-preserved c =
    let i = c.loop-thread.thread-index in
    ap (λ t. set c.loop-thread.threads i t) c.forget_fault.ensures
    ∙ map_over_more (without_cancelled (has_page c.args.pages.now.pages)) c.args.threads.now c.loop-thread.threads i (get_or c.loop-thread.threads i no_thread) (omega arith) c.loop-thread.invariant
    (get_or_default c.loop-thread.threads i no_thread _ (omega arith))
