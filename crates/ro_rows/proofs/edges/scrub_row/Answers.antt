use Rattle.ro_rows.proofs.ScrubRows.{scrub-steps, scrub-none-yet, scrub-noted, scrub-may, scrub-no-sink, scrub-no-sink-behind, scrub-alike, scrub-alike-two, scrub-two, scrub-two-majority, scrub-three, scrub-three-differ, scrub-next, scrub-next-three, scrub-vote, scrub-not-next}
use Rattle.ro_rows.proofs.edges.scrub_row.Goals as goal

pub returns-clause-steps : goal.returns-clause-steps
returns-clause-steps c = scrub-steps

pub returns-clause-none_yet : goal.returns-clause-none_yet
returns-clause-none_yet c = scrub-none-yet

pub returns-clause-noted : goal.returns-clause-noted
returns-clause-noted c = scrub-noted

pub returns-clause-may : goal.returns-clause-may
returns-clause-may c = scrub-may

pub returns-clause-no_sink : goal.returns-clause-no_sink
returns-clause-no_sink c = scrub-no-sink

pub returns-clause-no_sink_behind : goal.returns-clause-no_sink_behind
returns-clause-no_sink_behind c = scrub-no-sink-behind

pub returns-clause-alike : goal.returns-clause-alike
returns-clause-alike c = scrub-alike

pub returns-clause-alike_two : goal.returns-clause-alike_two
returns-clause-alike_two c = scrub-alike-two

pub returns-clause-two : goal.returns-clause-two
returns-clause-two c = scrub-two

pub returns-clause-two_majority : goal.returns-clause-two_majority
returns-clause-two_majority c = scrub-two-majority

pub returns-clause-three : goal.returns-clause-three
returns-clause-three c = scrub-three

pub returns-clause-three_differ : goal.returns-clause-three_differ
returns-clause-three_differ c = scrub-three-differ

pub returns-clause-next : goal.returns-clause-next
returns-clause-next c = scrub-next

pub returns-clause-next_three : goal.returns-clause-next_three
returns-clause-next_three c = scrub-next-three

pub returns-clause-vote : goal.returns-clause-vote
returns-clause-vote c = scrub-vote

pub returns-clause-not_next : goal.returns-clause-not_next
returns-clause-not_next c = scrub-not-next
