use Rattle.std.proofs.Common.{◌/◌, ◌%◌, ◌≤◌, length, ap, sym, ◌∙◌, arith, replicate}
use Rattle.ro_races.specs.Seen.{seen_by}
use Rattle.ro_races.specs.Shadows.{page_at, clock_at}
use Rattle.ro_races.proofs.Tables.{marks-same, spread-clocks}
use Rattle.ro_races.proofs.shadows.touch.Goals as goal

pub returns-clause-same : goal.returns-clause-same
returns-clause-same c byte thread =
    let same = c.in_ok-touch_second.ensures.same c.args.page in
    let was = c.page_of-clocks.ensures ∙ sym same in
    let few : length (page_at c.touch_second.new.table.items c.args.page) ≤ 1 = (let count = ap length was in omega (arith, count, c.if-clocks-gt1.false)) in
    marks-same c.touch_second.new.table.items c.put_page.new.table.items c.args.page c.in_ok-words.words.items c.put_page.ensures.changes
    (λ o less. spread-clocks c.in_ok-words.words.items (page_at c.touch_second.new.table.items c.args.page) o less few (c.in_ok-words.ensures.items_if_clones_equal (λ y e. e) ∙ ap (λ x. replicate 1024 x) (c.first_clock-clock.ensures ∙ ap (λ xs. clock_at xs 0) was))) byte thread
    ∙ ap (λ xs. seen_by (clock_at xs (byte % 4096)) thread) (c.in_ok-touch_second.ensures.same (byte / 4096))
