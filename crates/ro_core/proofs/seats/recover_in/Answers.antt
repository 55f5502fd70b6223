use Rattle.std.proofs.Common.{refl, sym, ◌∙◌, subst}
use Rattle.ro_plain.proofs.Calls.{some-injective}
use Rattle.ro_replica.specs.Seen.{ReplicaOf, Recovers}
use Rattle.ro_core.proofs.seats.recover_in.Goals as goal

pub recover-requires : goal.recover-requires
recover-requires c = c.requires.twins c.in-Some.loser c.in-Some.is

pub returns-in-Some : goal.returns-in-Some
returns-in-Some c value e = (c.recover.new.loser, refl, subst (λ (v : ReplicaOf). Recovers c.args.winner.now v c.recover.new.loser) (some-injective (sym c.in-Some.is ∙ e)) c.recover.ensures)
