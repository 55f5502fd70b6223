-- The length of a plan, entry by entry.
use Rattle.std.proofs.Common.{◌≡◌, ◌+◌, List, [], ◌∷◌, length, length-append, refl, sym, ap, ◌∙◌}
use Rattle.std.specs.List.{sum_by}
use Rattle.std.proofs.lemmas.List.Sums.{sum_by-cons}
use Rattle.ro_journal.specs.declared.Entry.{Entry}
use Rattle.ro_journal.specs.Plan.{entry_plan, plan_of}

pub length-plan_of : (journal : List Entry) → length (plan_of journal) ≡ sum_by (λ entry. length (entry_plan entry)) journal
length-plan_of [] = refl
length-plan_of (entry ∷ journal) =
    length-append (entry_plan entry) (plan_of journal)
    ∙ ap (λ n. length (entry_plan entry) + n) (length-plan_of journal)
    ∙ sym (sum_by-cons (λ e. length (entry_plan e)) entry journal)
