use Rattle.std.proofs.Common.{sym, ap, ◌∙◌, ◌==◌}
use Rattle.std.specs.Prelude.{◌||◌}
use Rattle.ro_pages.specs.Held.{memory_of, has_page}
use Rattle.ro_machine.proofs.Faults.{faults, faults-since, settled-since}
use Rattle.ro_machine.proofs.backing.execute.Goals as goal
use Rattle.ro_region.specs.Permission.{ranges_of}

pub back-requires-clause-page : goal.back-requires-clause-page
back-requires-clause-page c =
    (faults (record { ranges = ranges_of c.args.regions.now; calls = c.args.calls.now }) (has_page c.loop-page.pages.pages) (memory_of c.loop-page.pages.pages) (memory_of c.step-done.new.memory.pages) c.loop-page.cpu c.step-done.new.cpu c.step-done.result c.in-Some.page c.step-done.ensures.step (sym c.in-Some.ensures)).2

pub back-requires-clause-unbacked : goal.back-requires-clause-unbacked
back-requires-clause-unbacked c =
    ap (λ f. f c.in-Some.page) c.step-done.ensures.pages
    ∙ (faults (record { ranges = ranges_of c.args.regions.now; calls = c.args.calls.now }) (has_page c.loop-page.pages.pages) (memory_of c.loop-page.pages.pages) (memory_of c.step-done.new.memory.pages) c.loop-page.cpu c.step-done.new.cpu c.step-done.result c.in-Some.page c.step-done.ensures.step (sym c.in-Some.ensures)).3

pub loop-page-smaller : goal.loop-page-smaller
loop-page-smaller c =
    faults-since (record { ranges = ranges_of c.args.regions.now; calls = c.args.calls.now }) (has_page c.loop-page.pages.pages) (has_page c.back.new.pages.pages) (memory_of c.loop-page.pages.pages) (memory_of c.args.pages.now.pages) (memory_of c.step-done.new.memory.pages) c.loop-page.cpu c.args.cpu.now c.step-done.new.cpu c.step-done.result c.in-Some.page c.loop-page.invariant.cpu c.loop-page.invariant.memory c.step-done.ensures.step (sym c.in-Some.ensures)
    (λ p. c.in_ok-back-in-Some.ensures.backed p ∙ ap (λ f. (p == c.in-Some.page) || f p) c.step-done.ensures.pages)

pub returns-in-None-clause-step : goal.returns-in-None-clause-step
returns-in-None-clause-step c =
    settled-since (record { ranges = ranges_of c.args.regions.now; calls = c.args.calls.now }) (has_page c.loop-page.pages.pages) (memory_of c.loop-page.pages.pages) (memory_of c.args.pages.now.pages) (memory_of c.step-done.new.memory.pages) c.loop-page.cpu c.args.cpu.now c.step-done.new.cpu c.step-done.result c.loop-page.invariant.cpu c.loop-page.invariant.memory c.step-done.ensures.step (sym c.in-None.ensures)
