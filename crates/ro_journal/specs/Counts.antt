-- What is counted of a journal.
use Rattle.std.specs.Prelude.{ℕ, Bool, true, false, List, length, count_by, sum_by}
use Rattle.ro_journal.specs.declared.Entry.{Entry}
use Rattle.ro_journal.specs.declared.Entry.TheVariants.{Put, Part, Vote, Scrub}
use Rattle.ro_journal.specs.Losers.{numbers}
use Rattle.ro_journal.specs.Plan.{plan_of}

abbrev pub is_vote : Entry → Bool
is_vote (Vote thread count won lost did) = true
is_vote _ = false

-- how many losers became copies of the winner
abbrev pub copies_of : Entry → ℕ
copies_of (Vote thread count won lost did) = length (numbers lost)
copies_of (Scrub won lost) = length (numbers lost)
copies_of _ = 0

-- the faults that were struck in the run that the entry puts back
abbrev pub hits_of : Entry → ℕ
hits_of (Put lease count hit) = hit
hits_of (Part lease count hit) = hit
hits_of _ = 0

abbrev pub votes_in : List Entry → ℕ
votes_in journal = count_by is_vote journal

abbrev pub copies_in : List Entry → ℕ
copies_in journal = sum_by copies_of journal

abbrev pub struck_in : List Entry → ℕ
struck_in journal = sum_by hits_of journal

abbrev pub steps_in : List Entry → ℕ
steps_in journal = length (plan_of journal)
