-- How a legal journal ends.
use Rattle.std.proofs.Common.{◌≡◌, ℕ, List, [], ◌∷◌, Option, Some, None, refl, sym, ap, ◌∙◌}
use Rattle.ro_journal.specs.Losers.{numbers}
use Rattle.ro_journal.specs.declared.How.{How}
use Rattle.ro_journal.specs.declared.Entry.{Entry}
use Rattle.ro_journal.specs.declared.Entry.TheVariants.{Take, Put, Part, Vote, Free, Scrub, End}
use Rattle.ro_journal.specs.Plan.{outcome_of}
use Rattle.ro_replica.specs.Replica.{Replica}
use Rattle.ro_legal.specs.Core.{Job, Core, opening_core}
use Rattle.ro_legal.specs.Event.{Event, with_recovered}
use Rattle.ro_legal.specs.Legal.{core_after_event, lease_run, event_in, freed_event, after, IsAllowed, LegalFrom, Legal, replay_from, replay}
use Rattle.ro_legal.proofs.Leases.{put-only, part-only}
use Rattle.ro_legal.proofs.Ordered.{going-parts, vote-parts, free-parts, scrub-parts}

event_ended : (core : Core) (thread count : ℕ) (replicas : List Replica) (event : Option Event) → (core_after_event core thread count replicas event).ended ≡ core.ended
event_ended core thread count replicas None = refl
event_ended core thread count replicas (Some event) = refl

-- nothing is allowed behind an end
pub ended-none : (job : Job) (core : Core) (entry : Entry) → IsAllowed job core entry → core.ended ≡ None
ended-none job core (Take lease) may = (going-parts core may.going).1
ended-none job core (Put lease count hit) may = may.returns.not_ended
ended-none job core (Part lease count hit) may = may.returns.not_ended
ended-none job core (Vote thread count won lost did) may = (vote-parts core thread may.may).not_ended
ended-none job core (Free thread) may = (free-parts job core thread may.may).not_ended
ended-none job core (Scrub won lost) may = (scrub-parts core may.may).not_ended
ended-none job core (End how) may = may.0

pub over_from : (job : Job) (core : Core) (how : How) (journal : List Entry) → core.ended ≡ Some how → LegalFrom job core journal → journal ≡ []
over_from job core how [] e legal = refl
over_from job core how (entry ∷ journal) e legal = absurd (let f : None ≡ Some how = sym (ended-none job core entry legal.0) ∙ e in cc)

ended_from : (job : Job) (core : Core) (journal : List Entry) → core.ended ≡ None → LegalFrom job core journal → (replay_from job core journal).ended ≡ outcome_of journal
unfolding after
ended_from job core [] e legal = e
ended_from job core (Take lease ∷ journal) e legal = ended_from job (after job core (Take lease)) journal e legal.1
ended_from job core (Put lease count hit ∷ journal) e legal =
    ended_from job (after job core (Put lease count hit)) journal (ap (λ (c : Core). c.ended) (put-only job core lease count (lease_run job core lease count)) ∙ e) legal.1
ended_from job core (Part lease count hit ∷ journal) e legal =
    ended_from job (after job core (Part lease count hit)) journal (ap (λ (c : Core). c.ended) (part-only job core lease (lease_run job core lease count)) ∙ e) legal.1
ended_from job core (Vote thread count won lost did ∷ journal) e legal =
    ended_from job (after job core (Vote thread count won lost did)) journal (event_ended core thread count (with_recovered won (numbers lost) core.replicas) (event_in job core thread won) ∙ e) legal.1
ended_from job core (Free thread ∷ journal) e legal =
    ended_from job (after job core (Free thread)) journal (event_ended core thread 0 core.replicas (freed_event job core thread) ∙ e) legal.1
ended_from job core (Scrub won lost ∷ journal) e legal = ended_from job (after job core (Scrub won lost)) journal e legal.1
ended_from job core (End how ∷ journal) e legal =
    let none : journal ≡ [] = over_from job (after job core (End how)) how journal refl legal.1 in
    ap (λ (js : List Entry). (replay_from job (after job core (End how)) js).ended) none

-- the end that the core has come to is the journal's
pub ended_is_outcome : (job : Job) (journal : List Entry) → Legal job journal → (replay job journal).ended ≡ outcome_of journal
unfolding opening_core
ended_is_outcome job journal legal = ended_from job (opening_core job) journal refl legal
