use Rattle.std.proofs.Common.{slice_index, ℕ, sym, ap, ◌∙◌}
use Rattle.std.specs.Mem.Slots.{slots_items}
use Rattle.ro_lockpage.specs.Ranks.{row_in}
use Rattle.ro_lockpage.specs.Pages.{ClosedOf, row_of}
use Rattle.ro_lockpage.proofs.Closing.{word_there}
use Rattle.ro_lockpage.proofs.pages.Closed.row.Goals as goal

pub returns-clause-row : goal.returns-clause-row
returns-clause-row c =
    let inside = c.self.inside in
    let m = c.args.mutex in
    let r = c.args.rank in
    let p = c.place_of-place.result in
    c.row_of.ensures.row
    ∙ ap (row_in r) (sym (word_there (slots_items inside.words.words) p c.word.result c.word.ensures))
    ∙ ap (λ (q : ℕ). row_in r (slice_index (slots_items inside.words.words) q)) c.place_of-place.ensures.0
    ∙ ap (λ (v : ClosedOf). row_of v m r) c.self.view_is
