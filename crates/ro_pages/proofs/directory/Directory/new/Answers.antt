use Rattle.std.proofs.Common.{rules, arith, ◌≡◌, replicate}
use Rattle.ro_pages.specs.Directories.{nowhere}
use Rattle.ro_pages.proofs.Entries.{no_tables, finds_none}
use Rattle.ro_pages.proofs.directory.Directory.new.Goals as goal

pub invariant_of-result : goal.invariant_of-result
invariant_of-result c =
    let fs : c.in_ok-firsts.firsts.items ≡ replicate 1024 0 = c.in_ok-firsts.ensures.items_if_clones_equal (λ y e. search rules) in
    let es : c.in_ok-entries.entries.items ≡ replicate 1024 nowhere = c.in_ok-entries.ensures.items_if_clones_equal (λ y e. search rules) in
    let tables = no_tables _ _ fs es in
    (tables, finds_none _ _ _ tables fs c.new.ensures.items, omega arith, omega arith)
