use Rattle.std.proofs.Common.{arith, ap, ◌∙◌, ◌≡◌, ◌+◌, ◌-◌, ◌*◌, ◌/◌, ◌%◌, length, take, drop}
use Rattle.ro_pages.specs.Bytes.{stored}
use Rattle.ro_pages.specs.Held.{memory_of}
use Rattle.ro_pages.proofs.Stretches.{stored_more, covers_place}
use Rattle.ro_pages.proofs.table.Pages.write_bytes.Goals as goal

pub write_in_page-requires-clause-backed : goal.write_in_page-requires-clause-backed
write_in_page-requires-clause-backed c =
    let p = (c.args.address + c.loop-done.done) / 4096 in
    ap (λ f. f p) c.loop-done.invariant.pages ∙ c.requires.backed p (covers_place c.args.address (length c.args.bytes.now) c.loop-done.done (omega arith))

pub loop-done-preserved : goal.loop-done-preserved
loop-done-preserved c =
    let a = c.args.address + c.loop-done.done in
    let at : 4096 * (a / 4096) + a % 4096 ≡ a = omega arith in
    record {
      within = omega arith;
      written = stored_more _ _ _ _ _ c.loop-done.done c.min-end.result c.loop-done.invariant.within (omega arith) c.loop-done.invariant.written (c.write_in_page.ensures.bytes ∙ ap (λ b. stored (memory_of c.loop-done.self.pages) b (take (c.min-end.result - c.loop-done.done) (drop c.loop-done.done c.args.bytes.now))) at);
      pages = c.write_in_page.ensures.pages ∙ c.loop-done.invariant.pages;
      spare = c.write_in_page.ensures.spare ∙ c.loop-done.invariant.spare;
      numbers = c.write_in_page.ensures.numbers ∙ c.loop-done.invariant.numbers;
    }
