use Rattle.std.proofs.Common.{sym, ◌∙◌}
use Rattle.ro_machine.proofs.Noted.{unread-place, unread-exit, unread-call, read-permitted}
use Rattle.ro_machine.proofs.looking.is_fetched.Goals as goal
use Rattle.ro_region.specs.Permission.{ranges_of}

pub returns-then-cpu-ne0-clause-fetched : goal.returns-then-cpu-ne0-clause-fetched
returns-then-cpu-ne0-clause-fetched c = unread-place (record { ranges = ranges_of c.args.regions.now; calls = c.args.calls.now }) c.args.cpu.now c.if-cpu-ne0.true

pub returns-then-cpu-eq-EXIT_PLACE-clause-fetched : goal.returns-then-cpu-eq-EXIT_PLACE-clause-fetched
returns-then-cpu-eq-EXIT_PLACE-clause-fetched c = unread-exit (record { ranges = ranges_of c.args.regions.now; calls = c.args.calls.now }) c.args.cpu.now c.if-cpu-ne0.false c.if-cpu-eq-EXIT_PLACE.true

pub returns-then-is_some-clause-fetched : goal.returns-then-is_some-clause-fetched
returns-then-is_some-clause-fetched c = unread-call (record { ranges = ranges_of c.args.regions.now; calls = c.args.calls.now }) c.args.cpu.now c.if-cpu-ne0.false c.if-cpu-eq-EXIT_PLACE.false c.find.result c.find.ensures (sym c.is_some.ensures ∙ c.if-is_some.true)

pub returns-clause-fetched : goal.returns-clause-fetched
returns-clause-fetched c = read-permitted (record { ranges = ranges_of c.args.regions.now; calls = c.args.calls.now }) c.args.cpu.now c.if-cpu-ne0.false c.if-cpu-eq-EXIT_PLACE.false c.find.result c.find.ensures (sym c.is_some.ensures ∙ c.if-is_some.false) c.permits.result c.permits.ensures
