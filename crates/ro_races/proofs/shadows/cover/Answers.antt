use Rattle.std.proofs.Common.{◌/◌, ◌%◌, length, ap, sym, ◌∙◌}
use Rattle.std.proofs.lemmas.Bool.{eqb-true}
use Rattle.ro_races.specs.Seen.{seen_by}
use Rattle.ro_races.specs.Shadows.{page_at, clock_at}
use Rattle.ro_races.proofs.Tables.{nothing-in, marks-same, cover-clocks}
use Rattle.ro_races.proofs.shadows.cover.Goals as goal

pub returns-clause-same : goal.returns-clause-same
returns-clause-same c byte thread =
    let none = c.in_ok-touch_second.ensures.same c.args.page ∙ nothing-in (page_at c.args.table.now.items c.args.page) (ap length (sym c.page_of.ensures) ∙ eqb-true (length c.page_of.result.now) 0 (sym c.is_empty.ensures ∙ c.if-not-is_empty.false)) in
    marks-same c.touch_second.new.table.items c.put_page.new.table.items c.args.page c.in_ok-clocks.clocks.items c.put_page.ensures.changes
    (λ o less. cover-clocks c.in_ok-clocks.clocks.items (page_at c.touch_second.new.table.items c.args.page) o none (c.in_ok-clocks.ensures.items_if_clones_equal (λ y e. e))) byte thread
    ∙ ap (λ xs. seen_by (clock_at xs (byte % 4096)) thread) (c.in_ok-touch_second.ensures.same (byte / 4096))
