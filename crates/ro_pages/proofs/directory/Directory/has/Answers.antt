use Rattle.std.proofs.Common.{arith, ap, sym, ◌∙◌, ◌≡◌, length, nat_lt}
use Rattle.std.proofs.lemmas.Bool.{le-ltb}
use Rattle.ro_pages.specs.Directories.{is_listed}
use Rattle.ro_pages.proofs.Entries.{listed_within, unlisted_past}
use Rattle.ro_pages.proofs.directory.Directory.has.Goals as goal

pub returns-then-page-lt-PAGES : goal.returns-then-page-lt-PAGES
returns-then-page-lt-PAGES c =
    let len : c.len.result ≡ length c.args.self.now.numbers = omega arith ∙ ap (λ l. length l.numbers) c.self.view_is in
    ap (nat_lt c.entry.result) len ∙ listed_within c.args.self.now.numbers c.args.page c.entry.result c.entry.ensures

pub returns-else-page-lt-PAGES : goal.returns-else-page-lt-PAGES
returns-else-page-lt-PAGES c =
    le-ltb c.args.page 1048576 (omega arith) ∙ sym (ap (λ l. is_listed l.numbers c.args.page) (sym c.self.view_is) ∙ unlisted_past _ _ c.self.inside.numbers.items c.args.page c.self.invariant.1 (omega arith))
