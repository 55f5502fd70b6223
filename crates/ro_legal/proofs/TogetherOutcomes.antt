-- How a legal cooperative journal ends.
use Rattle.std.proofs.Common.{◌≡◌, ℕ, List, [], ◌∷◌, Option, Some, None, refl, sym, ap, ◌∙◌}
use Rattle.ro_event.specs.declared.stops.Stop.{Stop}
use Rattle.ro_journal.specs.declared.How.{How}
use Rattle.ro_journal.specs.declared.Entry.{Entry}
use Rattle.ro_journal.specs.declared.Entry.TheVariants.{Take, Put, Part, Vote, Free, Scrub, End}
use Rattle.ro_journal.specs.declared.Lease.{Lease}
use Rattle.ro_journal.specs.Plan.{outcome_of}
use Rattle.ro_peer.specs.Peers.{Peer}
use Rattle.ro_legal.specs.Core.{Job, Core, opening_core as opening_voted}
use Rattle.ro_legal.specs.Event.{Event}
use Rattle.ro_legal.specs.Cooperative.{opening_core, after, core_after_put, core_after_part, core_after_event, lease_run, voted_stop, voted_event, freed_event, IsAllowed, LegalFrom, Legal, replay_from, replay}
use Rattle.ro_legal.proofs.Ordered.{going-parts, vote-parts, free-parts}
use Rattle.ro_event.specs.declared.stops.Stop.TheVariants.{Calls}
use Rattle.std.specs.Option.{option_map}

put-ended : (job : Job) (core : Core) (lease : Lease) (count : ℕ) (ran : Option Peer) → (core_after_put job core lease count ran).ended ≡ core.ended
put-ended job core lease count None = refl
put-ended job core lease count (Some peer) = refl

part-ended : (job : Job) (core : Core) (lease : Lease) (count : ℕ) (ran : Option Peer) → (core_after_part job core lease count ran).ended ≡ core.ended
part-ended job core lease count None = refl
part-ended job core lease count (Some peer) = refl

event-ended : (job : Job) (core : Core) (thread : ℕ) (stop : Option Stop) (event : Option Event) → (core_after_event job core thread stop event).ended ≡ core.ended
event-ended job core thread stop None = refl
event-ended job core thread stop (Some event) = refl

-- nothing is allowed behind an end
none-ended : (job : Job) (core : Core) (entry : Entry) → IsAllowed job core entry → core.ended ≡ None
none-ended job core (Take lease) may = (going-parts core may.going).1
none-ended job core (Put lease count hit) may = may.ran.not_ended
none-ended job core (Part lease count hit) may = may.ran.not_ended
none-ended job core (Vote thread count won lost did) may = (vote-parts core thread may.may).not_ended
none-ended job core (Free thread) may = (free-parts job core thread may.may).not_ended
none-ended job core (Scrub won lost) may = absurd may
none-ended job core (End how) may = may.0

pub over-from : (job : Job) (core : Core) (how : How) (journal : List Entry) → core.ended ≡ Some how → LegalFrom job core journal → journal ≡ []
over-from job core how [] e legal = refl
over-from job core how (entry ∷ journal) e legal = absurd (let f : None ≡ Some how = sym (none-ended job core entry legal.0) ∙ e in cc)

ended-from : (job : Job) (core : Core) (journal : List Entry) → core.ended ≡ None → LegalFrom job core journal → (replay_from job core journal).ended ≡ outcome_of journal
unfolding after
ended-from job core [] e legal = e
ended-from job core (Take lease ∷ journal) e legal = ended-from job (after job core (Take lease)) journal e legal.1
ended-from job core (Put lease count hit ∷ journal) e legal =
    ended-from job (after job core (Put lease count hit)) journal (put-ended job core lease count (lease_run job core lease count) ∙ e) legal.1
ended-from job core (Part lease count hit ∷ journal) e legal =
    ended-from job (after job core (Part lease count hit)) journal (part-ended job core lease count (lease_run job core lease count) ∙ e) legal.1
ended-from job core (Vote thread count won lost did ∷ journal) e legal =
    ended-from job (after job core (Vote thread count won lost did)) journal (event-ended job core thread (voted_stop core thread) (voted_event job core thread) ∙ e) legal.1
ended-from job core (Free thread ∷ journal) e legal =
    ended-from job (after job core (Free thread)) journal (event-ended job core thread (option_map Calls (core.blocked thread)) (freed_event job core thread) ∙ e) legal.1
ended-from job core (Scrub won lost ∷ journal) e legal = absurd legal.0
ended-from job core (End how ∷ journal) e legal =
    let none : journal ≡ [] = over-from job (after job core (End how)) how journal refl legal.1 in
    ap (λ (js : List Entry). (replay_from job (after job core (End how)) js).ended) none

-- the end that the core has come to is the journal's
pub ended-outcome : (job : Job) (journal : List Entry) → Legal job journal → (replay job journal).ended ≡ outcome_of journal
unfolding opening_core opening_voted
ended-outcome job journal legal = ended-from job (opening_core job) journal refl legal
