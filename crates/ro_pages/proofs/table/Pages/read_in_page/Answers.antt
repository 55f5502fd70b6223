use Rattle.std.proofs.Common.{arith, ◌∙◌, ◌≡◌, ◌+◌, ◌*◌, ap}
use Rattle.ro_pages.specs.Held.{memory_of}
use Rattle.ro_pages.proofs.Stretches.{read_in_page}
use Rattle.ro_pages.proofs.table.Pages.read_in_page.Goals as goal

pub returns-in-Some : goal.returns-in-Some
returns-in-Some c i l =
    let sum : 4096 * c.args.page + (c.args.offset + i) ≡ 4096 * c.args.page + c.args.offset + i = omega arith in
    c.read_from.ensures i l ∙ read_in_page c.args.self.now.pages _ c.args.page (c.args.offset + i) c.in-Some.ensures (omega arith) ∙ ap (memory_of c.args.self.now.pages) sum
