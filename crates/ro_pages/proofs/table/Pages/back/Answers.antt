use Rattle.std.proofs.Common.{ap, ap₂, sym, subst, ◌∙◌, ◌≡◌, Some, false}
use Rattle.std.specs.FinMap as map
use Rattle.std.specs.List.{slice_get}
use Rattle.std.specs.Option.{IfSome}
use Rattle.std.proofs.lemmas.List.Elements.{All-pop}
use Rattle.ro_pages.specs.Directories.{is_listed}
use Rattle.ro_pages.specs.Held.{memory_of, has_page, pages_of, zeros}
use Rattle.ro_pages.specs.Words.{bytes_in}
use Rattle.ro_pages.proofs.Backed.{same_memory, one_more}
use Rattle.ro_pages.proofs.Entries.{got_before}
use Rattle.ro_pages.proofs.Places.{has_listed, pages_of_push}
use Rattle.ro_pages.proofs.table.Pages.back.Goals as goal

pub add-requires-clause-new : goal.add-requires-clause-new
add-requires-clause-new c =
    sym (has_listed (λ b. bytes_in b.value) c.self.inside.directory.numbers c.self.inside.backed.items c.args.page c.self.invariant.0) ∙ ap (λ h. has_page h.pages c.args.page) c.self.view_is ∙ c.requires.unbacked

pub returns-in-Some-clause-pages : goal.returns-in-Some-clause-pages
returns-in-Some-clause-pages c =
    let ns = c.self.inside.directory.numbers in
    let xs = c.self.inside.backed.items in
    let page = c.args.page in
    let popped = All-pop (λ b. bytes_in b.value ≡ zeros) c.self.inside.spare.items c.pop.new.self.items c.pop.result c.pop.ensures.items c.self.invariant.1 in
    let fresh : bytes_in c.in-Some.fresh.value ≡ zeros = subst (λ r. IfSome r (λ b. bytes_in b.value ≡ zeros)) c.in-Some.is popped.1 in
    let unlisted : is_listed ns page ≡ false = sym (has_listed (λ b. bytes_in b.value) ns xs page c.self.invariant.0) ∙ ap (λ h. has_page h.pages page) c.self.view_is ∙ c.requires.unbacked in
    ap₂ (pages_of (λ b. bytes_in b.value)) c.add.ensures.numbers c.push_reserved.ensures.items
    ∙ pages_of_push (λ b. bytes_in b.value) ns xs page c.in-Some.fresh c.self.invariant.0 unlisted
    ∙ ap₂ (λ m z. map.insert m page z) (ap (λ h. h.pages) c.self.view_is) fresh

pub returns-in-Some-clause-bytes : goal.returns-in-Some-clause-bytes
returns-in-Some-clause-bytes c = ap memory_of (returns-in-Some-clause-pages c) ∙ same_memory c.args.self.now.pages c.args.page c.requires.unbacked

pub returns-in-Some-clause-backed : goal.returns-in-Some-clause-backed
returns-in-Some-clause-backed c other = ap (λ m. has_page m other) (returns-in-Some-clause-pages c) ∙ one_more c.args.self.now.pages c.args.page other

pub returns-in-Some-clause-stay : goal.returns-in-Some-clause-stay
returns-in-Some-clause-stay c place other there =
    let before : slice_get c.self.inside.directory.numbers place ≡ Some other = ap (λ h. slice_get h.numbers place) c.self.view_is ∙ there in
    ap (λ ns. slice_get ns place) c.add.ensures.numbers ∙ got_before c.self.inside.directory.numbers c.args.page place other before
