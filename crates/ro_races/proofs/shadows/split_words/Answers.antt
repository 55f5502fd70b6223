use Rattle.std.proofs.Common.{◌/◌, length, ap, sym, ◌∙◌, slice_index_or}
use Rattle.ro_races.specs.Shadows.{page_at, no_marks}
use Rattle.ro_races.proofs.Tables.{marks-same, bytes-at, words-at}
use Rattle.ro_races.proofs.shadows.split_words.Goals as goal

pub returns-in_ok-bytes-clause-same : goal.returns-in_ok-bytes-clause-same
returns-in_ok-bytes-clause-same c byte thread =
    marks-same c.touch.new.table.items c.put_page.new.table.items c.args.page c.in_ok-bytes.bytes.items c.put_page.ensures.changes
    (λ o less.
    bytes-at c.in_ok-bytes.bytes.items o c.in_ok-bytes.ensures.count
    ∙ (c.in_ok-bytes.ensures.same o less
    ∙ (ap (λ xs. slice_index_or xs (o / 4) no_marks) c.page_of-words.ensures
    ∙ sym (words-at (page_at c.touch.new.table.items c.args.page) o (ap length (sym c.page_of-words.ensures) ∙ c.if-words-eq-PAGE_WORDS.true)))))
    byte thread
    ∙ c.in_ok-touch.ensures.same byte thread
