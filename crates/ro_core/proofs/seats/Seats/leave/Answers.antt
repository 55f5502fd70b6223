use Rattle.std.proofs.Common.{sym, subst}
use Rattle.ro_core.specs.Fields.{IsSeat}
use Rattle.ro_core.proofs.seats.Seats.leave.Goals as goal

pub leave-requires : goal.leave-requires
leave-requires c = subst (λ xs. IsSeat xs c.args.replica) (sym c.as_mut_slice.ensures.value) c.requires
