use Rattle.std.proofs.Common.{arith, ap, ◌∙◌, ◌≡◌, length, nat_lt}
use Rattle.ro_pages.proofs.Entries.{listed_within}
use Rattle.ro_pages.proofs.short.ShortDirectory.has.Goals as goal

pub returns : goal.returns
returns c =
    let len : c.len.result ≡ length c.args.self.now.numbers = omega arith ∙ ap (λ l. length l.numbers) c.self.view_is in
    ap (nat_lt c.entry.result) len ∙ listed_within c.args.self.now.numbers c.args.page c.entry.result c.entry.ensures
