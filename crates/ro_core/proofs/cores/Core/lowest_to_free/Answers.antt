use Rattle.std.proofs.Common.{sym}
use Rattle.ro_legal.specs.Action.{threads_made}
use Rattle.ro_core.specs.Runs.{fields_of, job_of, state_of}
use Rattle.ro_core.proofs.Tests.{freed-is, none-freed}
use Rattle.ro_core.proofs.cores.Core.lowest_to_free.Goals as goal

pub returns : goal.returns
returns c = freed-is (fields_of c.args.self.now) c.requires.holds (sym c.if-not-is_idle.ensures)

pub returns-then-not-is_idle : goal.returns-then-not-is_idle
returns-then-not-is_idle c = sym (none-freed (job_of c.args.self.now) (state_of c.args.self.now) (threads_made (state_of c.args.self.now)) (sym c.if-not-is_idle.ensures))
