use Rattle.std.proofs.lemmas.Result.{on_ok_weaker}
use Rattle.ro_core.specs.Seen.{Stays}
use Rattle.ro_master.proofs.Failing.{room-with, stays-with}
use Rattle.ro_core.proofs.Held.{with-old}
use Rattle.ro_master.proofs.sessions.Session.room.Goals as goal

pub returns-clause-stays : goal.returns-clause-stays
returns-clause-stays g c = with-old Stays c.self.view_is (stays-with (g.C.RunCore.seen c.self.inside.core) (g.C.RunCore.seen c.room.new.self) c.room.ensures.stays c.self.inside.failed (g.K.Sink.held c.self.inside.out) (g.K.Sink.failures c.self.inside.out) (g.K.Sink.sure c.self.inside.out))

pub returns-clause-room : goal.returns-clause-room
returns-clause-room g c = on_ok_weaker c.room.result (room-with (g.C.RunCore.seen c.room.new.self) c.self.inside.failed (g.K.Sink.held c.self.inside.out) (g.K.Sink.failures c.self.inside.out) (g.K.Sink.sure c.self.inside.out)) c.room.ensures.room
