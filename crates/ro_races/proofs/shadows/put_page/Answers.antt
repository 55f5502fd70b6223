use Rattle.std.proofs.Common.{◌/◌, arith}
use Rattle.ro_races.proofs.Tables.{second-read, second-full, page-read, page-changed, page-table}
use Rattle.ro_races.proofs.shadows.put_page.Goals as goal

pub returns-clause-table : goal.returns-clause-table
returns-clause-table c =
    let there = second-read c.args.table.now.items (c.args.page / 1024) c.index_mut-second.result.now c.requires.table (let less = c.requires.page in omega arith) c.index_mut-second.ensures.value in
    let full = second-full c.args.table.now.items (c.args.page / 1024) c.index_mut-second.result.now there c.requires.second in
    let at = page-read c.index_mut-second.result.now c.args.page c.index_mut.result.now full c.index_mut.ensures.value in
    page-table c.args.table.now.items c.args.page c.index_mut-second.result.now c.index_mut.result.now there at c.args.clocks c.requires.table full c.requires.clocks

pub returns-clause-changes : goal.returns-clause-changes
returns-clause-changes c =
    let there = second-read c.args.table.now.items (c.args.page / 1024) c.index_mut-second.result.now c.requires.table (let less = c.requires.page in omega arith) c.index_mut-second.ensures.value in
    let full = second-full c.args.table.now.items (c.args.page / 1024) c.index_mut-second.result.now there c.requires.second in
    let at = page-read c.index_mut-second.result.now c.args.page c.index_mut.result.now full c.index_mut.ensures.value in
    page-changed c.args.table.now.items c.args.page c.index_mut-second.result.now c.index_mut.result.now there at c.args.clocks
