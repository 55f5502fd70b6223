use Rattle.std.proofs.Common.{rules, arith, ap, sym, ◌∙◌, ◌≡◌, Some, false, length, get_or}
use Rattle.std.specs.FinMap as map
use Rattle.std.proofs.lemmas.List.{drop_all}
use Rattle.ro_pages.specs.Directories.{is_listed}
use Rattle.ro_pages.specs.Held.{has_page}
use Rattle.ro_pages.specs.Words.{bytes_in}
use Rattle.ro_pages.proofs.Places.{has_listed, theirs_stand, stands, read_at, unlisted_same, same_pages, same_more}
use Rattle.ro_pages.proofs.Same.{memory_apart}
use Rattle.ro_pages.proofs.table.Pages.is_same.Goals as goal

pub loop-page-init : goal.loop-page-init
loop-page-init c q h =
    let listed : is_listed c.other.inside.directory.numbers q ≡ false = ap (λ ns. is_listed ns q) (sym c.numbers-page-items.ensures.numbers) ∙ h in
    let theirs : has_page c.args.other.now.pages q ≡ false = ap (λ v. has_page v.pages q) (sym c.other.view_is) ∙ has_listed (λ b. bytes_in b.value) c.other.inside.directory.numbers c.other.inside.backed.items q c.other.invariant.0 ∙ listed in
    unlisted_same _ _ q (c.requires q ∙ theirs) theirs

pub index-requires : goal.index-requires
index-requires c =
    let q = get_or c.numbers-page-items.result.now c.loop-page.page-index 0 in
    let theirs =
    theirs_stand (λ b. bytes_in b.value) c.args.other.now.pages c.other.inside.directory.numbers c.other.inside.backed.items c.numbers-page-items.result.now c.loop-page.page-index c.entry-theirs.result (ap (λ v. v.pages) c.other.view_is) c.other.invariant.0 c.numbers-page-items.ensures.numbers (omega arith) c.entry-theirs.ensures in
    omega (arith, stands (λ b. bytes_in b.value) c.args.self.now.pages c.self.inside.directory.numbers c.self.inside.backed.items q c.entry-mine.result (ap (λ v. v.pages) c.self.view_is) c.self.invariant.0 c.entry-mine.ensures (c.requires q ∙ theirs.0))

pub index-requires-in-loop-page : goal.index-requires-in-loop-page
index-requires-in-loop-page c =
    omega (
      arith,
      (theirs_stand (λ b. bytes_in b.value) c.args.other.now.pages c.other.inside.directory.numbers c.other.inside.backed.items c.numbers-page-items.result.now c.loop-page.page-index c.entry-theirs.result (ap (λ v. v.pages) c.other.view_is) c.other.invariant.0 c.numbers-page-items.ensures.numbers (omega arith) c.entry-theirs.ensures).1,
    )

pub returns-then-not-has_same_bytes-clause-apart : goal.returns-then-not-has_same_bytes-clause-apart
returns-then-not-has_same_bytes-clause-apart c _ =
    let q = get_or c.numbers-page-items.result.now c.loop-page.page-index 0 in
    let theirs =
    theirs_stand (λ b. bytes_in b.value) c.args.other.now.pages c.other.inside.directory.numbers c.other.inside.backed.items c.numbers-page-items.result.now c.loop-page.page-index c.entry-theirs.result (ap (λ v. v.pages) c.other.view_is) c.other.invariant.0 c.numbers-page-items.ensures.numbers (omega arith) c.entry-theirs.ensures in
    let mine = stands (λ b. bytes_in b.value) c.args.self.now.pages c.self.inside.directory.numbers c.self.inside.backed.items q c.entry-mine.result (ap (λ v. v.pages) c.self.view_is) c.self.invariant.0 c.entry-mine.ensures (c.requires q ∙ theirs.0) in
    let read : map.get c.args.other.now.pages q ≡ Some (bytes_in c.index-in-loop-page.result.now.value) =
    read_at (λ b. bytes_in b.value) c.args.other.now.pages c.other.inside.directory.numbers c.other.inside.backed.items q c.entry-theirs.result c.index-in-loop-page.result.now (ap (λ v. v.pages) c.other.view_is) c.other.invariant.0 c.entry-theirs.ensures theirs.1 c.index-in-loop-page.ensures in
    let own : map.get c.args.self.now.pages q ≡ Some (bytes_in c.index.result.now.value) =
    read_at (λ b. bytes_in b.value) c.args.self.now.pages c.self.inside.directory.numbers c.self.inside.backed.items q c.entry-mine.result c.index.result.now (ap (λ v. v.pages) c.self.view_is) c.self.invariant.0 c.entry-mine.ensures mine c.index.ensures in
    memory_apart c.args.self.now.pages c.args.other.now.pages c.index.result.now.value c.index-in-loop-page.result.now.value q (ap length (sym c.deref.ensures) ∙ c.has_same_bytes.ensures.words.0) (ap length (sym c.deref-in-loop-page.ensures) ∙ c.has_same_bytes.ensures.words.1) own read (search rules)

pub loop-page-preserved : goal.loop-page-preserved
loop-page-preserved c =
    let q = get_or c.numbers-page-items.result.now c.loop-page.page-index 0 in
    let theirs =
    theirs_stand (λ b. bytes_in b.value) c.args.other.now.pages c.other.inside.directory.numbers c.other.inside.backed.items c.numbers-page-items.result.now c.loop-page.page-index c.entry-theirs.result (ap (λ v. v.pages) c.other.view_is) c.other.invariant.0 c.numbers-page-items.ensures.numbers (omega arith) c.entry-theirs.ensures in
    let mine = stands (λ b. bytes_in b.value) c.args.self.now.pages c.self.inside.directory.numbers c.self.inside.backed.items q c.entry-mine.result (ap (λ v. v.pages) c.self.view_is) c.self.invariant.0 c.entry-mine.ensures (c.requires q ∙ theirs.0) in
    let read : map.get c.args.other.now.pages q ≡ Some (bytes_in c.index-in-loop-page.result.now.value) =
    read_at (λ b. bytes_in b.value) c.args.other.now.pages c.other.inside.directory.numbers c.other.inside.backed.items q c.entry-theirs.result c.index-in-loop-page.result.now (ap (λ v. v.pages) c.other.view_is) c.other.invariant.0 c.entry-theirs.ensures theirs.1 c.index-in-loop-page.ensures in
    let own : map.get c.args.self.now.pages q ≡ Some (bytes_in c.index.result.now.value) =
    read_at (λ b. bytes_in b.value) c.args.self.now.pages c.self.inside.directory.numbers c.self.inside.backed.items q c.entry-mine.result c.index.result.now (ap (λ v. v.pages) c.self.view_is) c.self.invariant.0 c.entry-mine.ensures mine c.index.ensures in
    same_more c.args.self.now.pages c.args.other.now.pages c.numbers-page-items.result.now c.loop-page.page-index (omega arith) (own ∙ ap Some (search rules) ∙ sym read) c.loop-page.invariant

pub returns-clause-same : goal.returns-clause-same
returns-clause-same c _ =
    same_pages _ _ (λ q. c.loop-page.invariant q (ap (λ ns. is_listed ns q) (drop_all c.loop-page.page-index c.numbers-page-items.result.now (omega arith))))
