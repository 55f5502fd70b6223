use Rattle.std.proofs.Common.{◌/◌, ◌<◌, length, arith, subst, ap}
use Rattle.std.specs.Vec.{with_item}
use Rattle.ro_races.specs.Shadows.{IsPage}
use Rattle.ro_races.proofs.Tables.{second-read, second-full, has-second, page-read, page-was, page-kept, page-table, page-advanced}
use Rattle.ro_races.proofs.shadows.advance.Goals as goal

pub returns-clause-table : goal.returns-clause-table
returns-clause-table c =
    let table = c.args.table.now.items in
    let second = c.index_mut-second.result.now in
    let clocks = c.index_mut-clocks.result.now in
    let there = second-read table (c.args.page / 1024) second c.requires.table (let less = c.requires.page in omega arith) c.index_mut-second.ensures.value in
    let full = second-full table (c.args.page / 1024) second there (has-second table c.args.page c.requires.table (λ e. let none = ap length e in let less = c.requires.index in omega (arith, none, less))) in
    let at = page-read second c.args.page clocks full c.index_mut-clocks.ensures.value in
    page-table table c.args.page second clocks there at (with_item clocks c.args.index c.advance.new.self) c.requires.table full
    (page-kept clocks.items c.args.index c.advance.new.self (subst IsPage (page-was table c.args.page second clocks there at) (c.requires.table.pages c.args.page)))

pub returns-clause-advances : goal.returns-clause-advances
returns-clause-advances c =
    let table = c.args.table.now.items in
    let second = c.index_mut-second.result.now in
    let clocks = c.index_mut-clocks.result.now in
    let there = second-read table (c.args.page / 1024) second c.requires.table (let less = c.requires.page in omega arith) c.index_mut-second.ensures.value in
    let full = second-full table (c.args.page / 1024) second there (has-second table c.args.page c.requires.table (λ e. let none = ap length e in let less = c.requires.index in omega (arith, none, less))) in
    let at = page-read second c.args.page clocks full c.index_mut-clocks.ensures.value in
    let within : c.args.index < length clocks.items = (let same = ap length (page-was table c.args.page second clocks there at) in let less = c.requires.index in omega (arith, same, less)) in
    page-advanced table c.args.page second clocks there at c.args.index c.args.thread c.args.place c.index_mut.result.now c.advance.new.self within c.index_mut.ensures.value c.advance.ensures
