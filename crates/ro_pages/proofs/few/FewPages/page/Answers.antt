use Rattle.std.proofs.Common.{ap, sym, subst, ◌≡◌, ◌<◌, ◌≤◌, length, get_or, None}
use Rattle.std.proofs.lemmas.Bool.{ltb-true, ltb-false}
use Rattle.std.specs.FinMap as map
use Rattle.ro_pages.specs.Words.{bytes_in}
use Rattle.ro_pages.proofs.Shown.{shown, bytes-at, absent-at}
use Rattle.ro_pages.proofs.few.FewPages.page.Goals as goal

pub returns : goal.returns
returns c =
    let shows = shown (λ b. bytes_in b.value) c.args.self.now c.self.inside.directory.numbers c.self.inside.backed.items _ c.self.view_is c.self.invariant.0 in
    bytes-at shows c.args.page c.entry.result c.in_ok-page.page.now (bytes_in c.deref-words.result.now) c.entry.ensures
    (subst (λ xs. c.entry.result < length xs) c.deref.ensures.value (ltb-true c.entry.result (length c.deref.result.now) (sym c.in_ok-page.ensures.lookup.0)))
    (subst (λ xs. c.in_ok-page.page.now ≡ get_or xs c.entry.result c.in_ok-page.page.now) c.deref.ensures.value c.in_ok-page.ensures.lookup.1)
    (ap bytes_in c.deref-words.ensures)

pub returns-in_err-page : goal.returns-in_err-page
returns-in_err-page c =
    let shows = shown (λ b. bytes_in b.value) c.args.self.now c.self.inside.directory.numbers c.self.inside.backed.items _ c.self.view_is c.self.invariant.0 in
    let absent : map.get c.args.self.now.pages c.args.page ≡ None =
    absent-at shows c.args.page c.entry.result c.entry.ensures
    (subst (λ xs. length xs ≤ c.entry.result) c.deref.ensures.value (ltb-false c.entry.result (length c.deref.result.now) (sym c.in_err-page.ensures.lookup.0))) in
    rw c.from_residual.ensures absent
