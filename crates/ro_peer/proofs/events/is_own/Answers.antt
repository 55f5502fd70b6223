use Rattle.std.proofs.Common.{◌≡◌, is_some, Bool, true, sym, ap, ◌∙◌}
use Rattle.std.specs.Prelude.{◌&&◌}
use Rattle.ro_orders.specs.Turns.{is_lock_or_unlock}
use Rattle.ro_peer.specs.Peers.{mutex_in}
use Rattle.ro_peer.specs.Gets.{is_own_call}
use Rattle.ro_peer.proofs.Forgetting.{is_there}
use Rattle.ro_peer.proofs.events.is_own.Goals as goal

pub returns-then-is_lock_or_unlock : goal.returns-then-is_lock_or_unlock
returns-then-is_lock_or_unlock c =
    let call = c.in-Calls.call in
    let locks : is_lock_or_unlock call.which ≡ true = sym c.is_lock_or_unlock.ensures ∙ c.if-is_lock_or_unlock.true in
    c.is_some.ensures ∙ ap is_some c.number.ensures.number ∙ is_there c.args.mutexes.now call.a0
    ∙ sym (ap (is_own_call c.args.mutexes.now) c.in-Calls.is ∙ ap (λ (b : Bool). b && is_some (mutex_in c.args.mutexes.now call.a0)) locks)
