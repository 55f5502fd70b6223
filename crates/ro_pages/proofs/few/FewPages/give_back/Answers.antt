use Rattle.std.proofs.Common.{ap, sym, ◌∙◌, ◌≡◌, ◌++◌, ◌∷◌, [], length, Some, ℕ}
use Rattle.std.specs.List.{slice_get}
use Rattle.std.specs.FinMap as map
use Rattle.ro_pages.specs.Held.{pages_of}
use Rattle.ro_pages.specs.Words.{bytes_in}
use Rattle.ro_pages.proofs.Entries.{got_last}
use Rattle.ro_pages.proofs.Shorts.{last_is}
use Rattle.ro_pages.proofs.Shown.{shown, IsPopped, popped}
use Rattle.ro_pages.proofs.few.FewPages.give_back.Goals as goal

taken-away : (c : goal.After-push_reserved) → IsPopped (λ b. bytes_in b.value) c.args.self.now c.pop.new.self.numbers c.pop-2.new.self.items c.args.number c.in-Some-pop.mine
taken-away c =
    let shows = shown (λ b. bytes_in b.value) c.args.self.now c.self.inside.directory.numbers c.self.inside.backed.items _ c.self.view_is c.self.invariant.0 in
    let ns = c.pop.new.self.numbers in
    let n = c.args.number in
    let before : c.self.inside.directory.numbers ≡ c.requires.last.0 ++ n ∷ [] = ap (λ v. v.numbers) c.self.view_is ∙ c.requires.last.1 in
    let same : c.in-Some.field-0 ≡ n = last_is ns c.requires.last.0 c.in-Some.field-0 n (sym c.in-Some.ensures.numbers ∙ before) in
    let last : c.self.inside.directory.numbers ≡ ns ++ n ∷ [] = c.in-Some.ensures.numbers ∙ ap (λ (k : ℕ). ns ++ k ∷ []) same in
    let here : slice_get c.self.inside.directory.numbers (length ns) ≡ Some n = ap (λ ks. slice_get ks (length ns)) last ∙ got_last ns n in
    popped shows ns c.pop-2.new.self.items n c.in-Some-pop.mine last c.in-Some-pop.ensures.items (c.each_once.ensures n (length ns) here)

pub returns-clause-pages : goal.returns-clause-pages
returns-clause-pages c =
    (taken-away c).pages ∙ ap (λ b. map.insert (pages_of (λ b. bytes_in b.value) c.pop.new.self.numbers c.pop-2.new.self.items) c.args.number (bytes_in b.value)) (sym c.replace.ensures.after)

pub returns-clause-gone : goal.returns-clause-gone
returns-clause-gone c = (taken-away c).gone
