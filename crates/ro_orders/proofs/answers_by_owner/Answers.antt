-- The law is a lemma.
use Rattle.ro_orders.proofs.Mutexes.{is-mutex-call, serve-as}
use Rattle.ro_orders.proofs.answers_by_owner.Goals as goal

pub returns : goal.returns
returns c setup kernel thread call owner on owned = serve-as setup kernel thread call owner (is-mutex-call call.which on) owned
