use Rattle.std.proofs.Common.{arith, ap, ◌∙◌}
use Rattle.ro_pages.specs.Bytes.{bytes_at}
use Rattle.ro_pages.specs.Held.{memory_of}
use Rattle.ro_pages.proofs.Stretches.{bytes_at-each}
use Rattle.ro_pages.proofs.table.Pages.read_bytes.Goals as goal

pub returns : goal.returns
returns c = bytes_at-each (memory_of c.args.self.now.pages) c.args.address c.loop-done.bytes (λ i l. c.loop-done.invariant.read i (omega arith)) ∙ ap (bytes_at (memory_of c.args.self.now.pages) c.args.address) (omega arith)
