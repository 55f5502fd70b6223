-- What holds in both modes.
use Rattle.std.proofs.Common.{◌≡◌, ◌≢◌, inl, inr, ℕ, ◌<◌, ◌≤◌, true, List, [], ◌∷◌, ◌++◌, length, Option, Some, None, refl, sym, ap, ◌∙◌, subst, arith, length-append}
use Rattle.std.specs.Prelude.{IsSome}
use Rattle.ro_event.specs.declared.stops.Stop.{Stop}
use Rattle.ro_journal.specs.declared.How.{How}
use Rattle.ro_journal.specs.declared.How.TheVariants.{Sink}
use Rattle.ro_journal.specs.declared.Entry.{Entry}
use Rattle.ro_journal.specs.declared.Entry.TheVariants.{Take, Put, Part, Vote, Free, Scrub, End}
use Rattle.ro_journal.specs.declared.Lease.{Lease}
use Rattle.ro_journal.specs.Losers.{numbers}
use Rattle.ro_journal.specs.Plan.{outcome_of}
use Rattle.ro_settings.specs.declared.Mode.TheVariants.{Voted, Cooperative}
use Rattle.ro_replica.specs.Replica.{Replica}
use Rattle.ro_peer.specs.Peers.{Peer}
use Rattle.ro_legal.specs.declared.actions.Action.TheVariants.{Vote as DoVote, Free as DoFree, Scrub as DoScrub, Lend}
use Rattle.ro_legal.specs.Core.{Job, Core, is_going, is_idle}
use Rattle.ro_legal.specs.Core as voted_core
use Rattle.ro_legal.specs.Event.{Event, with_recovered}
use Rattle.ro_legal.specs.Laws.{Names}
use Rattle.ro_legal.specs.Sound.{IsOver}
use Rattle.ro_legal.specs.Legal.{MayTake, EndsFree, cut_output, lease_run, core_after_take, core_after_event, event_in, freed_event}
use Rattle.ro_legal.specs.Legal as votes
use Rattle.ro_legal.specs.Action.{next_action}
use Rattle.ro_legal.specs.Cooperative as together
use Rattle.ro_legal.specs.Modes.{Mode, InMode, Suits, opening_core, after, replay, IsAllowed, Legal, EndsVote, DecidesVote, DecidesFree, DecidesScrub, IsNext, EachIsNext}
use Rattle.ro_legal.proofs.Journals as voted_journals
use Rattle.ro_legal.proofs.TogetherJournals as together_journals
use Rattle.ro_legal.proofs.Outcomes.{ended_is_outcome}
use Rattle.ro_legal.proofs.TogetherOutcomes.{ended-outcome}
use Rattle.ro_legal.proofs.Lasts.{last_from, ended_cut}
use Rattle.ro_legal.proofs.TogetherLasts.{last-from, ended-cut}
use Rattle.ro_legal.proofs.Ordered.{ordered}
use Rattle.ro_legal.proofs.Together.{keeps-replicas}
use Rattle.ro_legal.proofs.Leases.{put-only, part-only, event_leases}
use Rattle.ro_legal.proofs.Lasting.{put_idles, part-idles as voted-part-idles, idle_after, all_idle}
use Rattle.ro_legal.proofs.TogetherLeases.{all-idle, put-idles, part-idles, idle-after, event-leases}

-- what is the same in both modes
pub in-both : {A : Type 0} (mode : Mode) → InMode mode A A → A
in-both Voted a = a
in-both Cooperative a = a

-- what is in neither
pub never : (mode : Mode) → InMode mode ⊥ ⊥ → ⊥
never Voted a = a
never Cooperative a = a

-- ---- journals that grow at their end

pub replay-more : (mode : Mode) (job : Job) (journal : List Entry) (entry : Entry) → replay mode job (journal ++ entry ∷ []) ≡ after mode job (replay mode job journal) entry
replay-more Voted job journal entry = voted_journals.replay_more job journal entry
replay-more Cooperative job journal entry = together_journals.replay_more job journal entry

pub legal-more : (mode : Mode) (job : Job) (journal : List Entry) (entry : Entry) → Legal mode job journal → IsAllowed mode job (replay mode job journal) entry → Legal mode job (journal ++ entry ∷ [])
legal-more Voted job journal entry = voted_journals.legal_more job journal entry
legal-more Cooperative job journal entry = together_journals.legal_more job journal entry

pub next-more : (mode : Mode) (job : Job) (journal : List Entry) (entry : Entry) → EachIsNext mode job journal → IsNext mode job (replay mode job journal) entry → EachIsNext mode job (journal ++ entry ∷ [])
next-more Voted job journal entry each next = voted_journals.EachIsNext-append job (voted_core.opening_core job) journal (entry ∷ []) each (next, tt)
next-more Cooperative job journal entry each next = together_journals.EachIsNext-append job (together.opening_core job) journal (entry ∷ []) each (next, tt)

pub legal-parts : (mode : Mode) (job : Job) (journal : List Entry) (entry : Entry) → Legal mode job (journal ++ entry ∷ []) → Legal mode job journal × IsAllowed mode job (replay mode job journal) entry
legal-parts Voted job journal entry legal = let parts = voted_journals.LegalFrom-parts job (voted_core.opening_core job) journal (entry ∷ []) legal in (parts.0, parts.1.0)
legal-parts Cooperative job journal entry legal = let parts = together_journals.LegalFrom-parts job (together.opening_core job) journal (entry ∷ []) legal in (parts.0, parts.1.0)

-- a front of a legal journal is legal
pub legal-front : (mode : Mode) (job : Job) (journal rest : List Entry) → Legal mode job (journal ++ rest) → Legal mode job journal
legal-front Voted job journal rest legal = (voted_journals.LegalFrom-parts job (voted_core.opening_core job) journal rest legal).0
legal-front Cooperative job journal rest legal = (together_journals.LegalFrom-parts job (together.opening_core job) journal rest legal).0

pub none-legal : (mode : Mode) (job : Job) → Legal mode job []
none-legal Voted job = tt
none-legal Cooperative job = tt

pub none-next : (mode : Mode) (job : Job) → EachIsNext mode job []
none-next Voted job = tt
none-next Cooperative job = tt

-- ---- the core that a legal journal leaves

-- the end that it has come to is the journal's
pub ended-is : (mode : Mode) (job : Job) (journal : List Entry) → Legal mode job journal → (replay mode job journal).ended ≡ outcome_of journal
ended-is Voted job journal legal = ended_is_outcome job journal legal
ended-is Cooperative job journal legal = ended-outcome job journal legal

pub due-over : (mode : Mode) (job : Job) (journal : List Entry) → Suits mode job → Legal mode job journal → (how : How) → (replay mode job journal).due ≡ Some how → IsOver how
due-over Voted job journal suits legal = (ordered job journal legal).due_over
due-over Cooperative job journal suits legal = (keeps-replicas job journal suits.0 legal).due_over

pub wrote-alone : (mode : Mode) (job : Job) (journal : List Entry) → Suits mode job → Legal mode job journal → 0 < (replay mode job journal).wrote → (replay mode job journal).leases ≡ []
wrote-alone Voted job journal suits legal = (ordered job journal legal).wrote_alone
wrote-alone Cooperative job journal suits legal = (keeps-replicas job journal suits.0 legal).wrote_alone

pub none-open : (mode : Mode) (job : Job) → is_going (opening_core mode job) ≡ true
unfolding voted_core.opening_core together.opening_core
none-open Voted job = refl
none-open Cooperative job = refl

pub opening-idle : (mode : Mode) (job : Job) (driver : ℕ) → is_idle (replay mode job []) driver ≡ true
unfolding voted_core.opening_core together.opening_core
opening-idle Voted job driver = refl
opening-idle Cooperative job driver = refl

-- a core that has ended writes nothing, so a cut of it leaves all
pub ended-cuts : (mode : Mode) (job : Job) (journal : List Entry) (bytes : ℕ) → Legal mode job journal → IsSome (replay mode job journal).ended → cut_output (replay mode job journal) (Sink bytes) ≡ (replay mode job journal).output
ended-cuts Voted job journal bytes legal some = ended_cut job journal bytes legal some
ended-cuts Cooperative job journal bytes legal some = ended-cut job journal bytes legal some

-- the end with which a journal ends was allowed behind a legal one
pub record LastIn (mode : Mode) (job : Job) (journal : List Entry) (how : How) : Type 0 where
  pub before : List Entry
  pub journal_is : journal ≡ before ++ End how ∷ []
  pub legal : Legal mode job before
  pub may : InMode mode (votes.MayEnd job (votes.replay job before) how) (together.MayEnd job (together.replay job before) how)

pub last-in : (mode : Mode) (job : Job) (journal : List Entry) (how : How) → Legal mode job journal → outcome_of journal ≡ Some how → LastIn mode job journal how
last-in Voted job journal how legal e =
    let last = last_from job (voted_core.opening_core job) journal how legal e in
    record { before = last.before; journal_is = last.journal_is; legal = last.legal; may = last.may }
last-in Cooperative job journal how legal e =
    let last = last-from job (together.opening_core job) journal how legal e in
    record { before = last.before; journal_is = last.journal_is; legal = last.legal; may = last.may }

-- there are as many replicas as at the opening
pub as-many : (mode : Mode) (job : Job) (journal : List Entry) → Suits mode job → Legal mode job journal → length (replay mode job journal).replicas ≡ job.settings.replicas
as-many Voted job journal suits legal = (ordered job journal legal).replica_count
as-many Cooperative job journal suits legal = (keeps-replicas job journal suits.0 legal).replica_count

-- nothing is written at the opening
pub none-written : (mode : Mode) (job : Job) → (replay mode job []).output ≡ []
unfolding voted_core.opening_core together.opening_core
none-written Voted job = refl
none-written Cooperative job = refl

-- and nothing is lent
pub none-lent : (mode : Mode) (job : Job) → (replay mode job []).leases ≡ []
unfolding voted_core.opening_core together.opening_core
none-lent Voted job = refl
none-lent Cooperative job = refl

-- ---- leases

-- where every driver is idle nothing is lent
pub each-idle : (mode : Mode) (job : Job) (journal : List Entry) → Legal mode job journal → ((driver : ℕ) → driver < job.settings.drivers → is_idle (replay mode job journal) driver ≡ true) → (replay mode job journal).leases ≡ []
each-idle Voted job journal legal = all_idle job journal legal
each-idle Cooperative job journal legal = all-idle job journal legal

-- a driver whose lease came back holds none
pub put-idle : (mode : Mode) (job : Job) (journal : List Entry) (lease : Lease) (count hit : ℕ) → Legal mode job (journal ++ Put lease count hit ∷ []) → is_idle (replay mode job (journal ++ Put lease count hit ∷ [])) lease.driver ≡ true
put-idle Voted job journal lease count hit legal = put_idles job journal lease count hit legal
put-idle Cooperative job journal lease count hit legal = put-idles job journal lease count hit legal

pub part-idle : (mode : Mode) (job : Job) (journal : List Entry) (lease : Lease) (count hit : ℕ) → Legal mode job (journal ++ Part lease count hit ∷ []) → is_idle (replay mode job (journal ++ Part lease count hit ∷ [])) lease.driver ≡ true
part-idle Voted job journal lease count hit legal = voted-part-idles job journal lease count hit legal
part-idle Cooperative job journal lease count hit legal = part-idles job journal lease count hit legal

-- an entry that doesn't name the driver lends it nothing
pub others-idle : (mode : Mode) (job : Job) (core : Core) (driver by : ℕ) (entry : Entry) → Names by entry → by ≢ driver → is_idle core driver ≡ true → is_idle (after mode job core entry) driver ≡ true
others-idle Voted job core driver by entry = idle_after job core driver by entry
others-idle Cooperative job core driver by entry = idle-after job core driver by entry

-- ---- what an entry is

-- a take is allowed alike, and comes next alike
pub take-allowed : (mode : Mode) (job : Job) (core : Core) (lease : Lease) → MayTake job core lease → IsAllowed mode job core (Take lease)
take-allowed Voted job core lease may = may
take-allowed Cooperative job core lease may = may

pub take-may : (mode : Mode) (job : Job) (core : Core) (lease : Lease) → IsAllowed mode job core (Take lease) → MayTake job core lease
take-may Voted job core lease may = may
take-may Cooperative job core lease may = may

pub take-next : (mode : Mode) (job : Job) (core : Core) (lease : Lease) → next_action job core ≡ Lend lease.replica lease.thread → IsNext mode job core (Take lease)
take-next Voted job core lease next = next
take-next Cooperative job core lease next = next

-- what the core is after one
pub after-take : (mode : Mode) (job : Job) (core : Core) (lease : Lease) → after mode job core (Take lease) ≡ core_after_take core lease
unfolding votes.after together.after
after-take Voted job core lease = refl
after-take Cooperative job core lease = refl

-- a lease comes back at any time
pub put-next : (mode : Mode) (job : Job) (core : Core) (lease : Lease) (count hit : ℕ) → IsNext mode job core (Put lease count hit)
put-next Voted job core lease count hit = tt
put-next Cooperative job core lease count hit = tt

pub part-next : (mode : Mode) (job : Job) (core : Core) (lease : Lease) (count hit : ℕ) → IsNext mode job core (Part lease count hit)
part-next Voted job core lease count hit = tt
part-next Cooperative job core lease count hit = tt

pub end-leases : (mode : Mode) (job : Job) (core : Core) (how : How) → (after mode job core (End how)).leases ≡ core.leases
unfolding votes.after together.after
end-leases Voted job core how = refl
end-leases Cooperative job core how = refl

pub end-output : (mode : Mode) (job : Job) (core : Core) (how : How) → (after mode job core (End how)).output ≡ cut_output core how
unfolding votes.after together.after
end-output Voted job core how = refl
end-output Cooperative job core how = refl

-- ---- what decides a vote, a free or a scrub

pub vote-next : (mode : Mode) (job : Job) (core : Core) (thread : ℕ) (entry : Entry) → next_action job core ≡ DoVote thread → DecidesVote mode job core thread entry → IsNext mode job core entry
vote-next Voted job core thread (Vote voted n w l d) next decides = next ∙ ap DoVote (sym decides)
vote-next Voted job core thread (End how) next decides = inr (inr (inl (thread, next, decides)))
vote-next Voted job core thread entry next decides = absurd decides
vote-next Cooperative job core thread (Vote voted n w l d) next decides = next ∙ ap DoVote (sym decides)
vote-next Cooperative job core thread (End how) next decides = inr (inr (inl (thread, next, decides)))
vote-next Cooperative job core thread entry next decides = absurd decides

pub free-next : (mode : Mode) (job : Job) (core : Core) (thread : ℕ) (entry : Entry) → next_action job core ≡ DoFree thread → DecidesFree mode job core thread entry → IsNext mode job core entry
free-next Voted job core thread (Free t) next decides = next ∙ ap DoFree (sym decides)
free-next Voted job core thread (End how) next decides = inr (inr (inr (inl (thread, next, decides))))
free-next Voted job core thread entry next decides = absurd decides
free-next Cooperative job core thread (Free t) next decides = next ∙ ap DoFree (sym decides)
free-next Cooperative job core thread (End how) next decides = inr (inr (inr (thread, next, decides)))
free-next Cooperative job core thread entry next decides = absurd decides

pub scrub-next : (mode : Mode) (job : Job) (core : Core) (entry : Entry) → next_action job core ≡ DoScrub → DecidesScrub mode core entry → IsNext mode job core entry
scrub-next Voted job core (Scrub w l) next decides = next
scrub-next Voted job core (End how) next decides = inr (inr (inr (inr (next, decides))))
scrub-next Voted job core entry next decides = absurd decides
scrub-next Cooperative job core entry next decides = absurd decides

-- a vote, a free or a scrub, or an end that no sink makes
abbrev pub IsDecision : Entry → Type 0
IsDecision (Take lease) = ⊥
IsDecision (Put lease count hit) = ⊥
IsDecision (Part lease count hit) = ⊥
IsDecision (End how) = (taken : ℕ) → how ≢ Sink taken
IsDecision entry = Unit {0}

no-vote-sink : (mode : Mode) (job : Job) (core : Core) (thread : ℕ) (how : How) → EndsVote mode job core thread how → (taken : ℕ) → how ≢ Sink taken
no-vote-sink Voted job core thread how ends taken e = subst (votes.EndsVote job core thread) e ends
no-vote-sink Cooperative job core thread how ends taken e = subst (together.EndsVote job core thread) e ends

pub vote-decision : (mode : Mode) (job : Job) (core : Core) (thread : ℕ) (entry : Entry) → DecidesVote mode job core thread entry → IsDecision entry
vote-decision Voted job core thread (Vote voted n w l d) decides = tt
vote-decision Voted job core thread (End how) decides = no-vote-sink Voted job core thread how decides
vote-decision Voted job core thread entry decides = absurd decides
vote-decision Cooperative job core thread (Vote voted n w l d) decides = tt
vote-decision Cooperative job core thread (End how) decides = no-vote-sink Cooperative job core thread how decides
vote-decision Cooperative job core thread entry decides = absurd decides

pub free-decision : (mode : Mode) (job : Job) (core : Core) (thread : ℕ) (entry : Entry) → DecidesFree mode job core thread entry → IsDecision entry
free-decision Voted job core thread (Free t) decides = tt
free-decision Voted job core thread (End how) decides = λ taken e. subst (EndsFree job core) e decides
free-decision Voted job core thread entry decides = absurd decides
free-decision Cooperative job core thread (Free t) decides = tt
free-decision Cooperative job core thread (End how) decides = λ taken e. subst (EndsFree job core) e decides
free-decision Cooperative job core thread entry decides = absurd decides

pub scrub-decision : (mode : Mode) (core : Core) (entry : Entry) → DecidesScrub mode core entry → IsDecision entry
scrub-decision Voted core (Scrub w l) decides = tt
scrub-decision Voted core (End how) decides = λ taken e. subst (votes.EndsScrub core) e decides
scrub-decision Voted core entry decides = absurd decides
scrub-decision Cooperative core entry decides = absurd decides

pub decision-names : (number : ℕ) (entry : Entry) → IsDecision entry → Names number entry
decision-names number (Take lease) is = absurd is
decision-names number (Put lease count hit) is = absurd is
decision-names number (Part lease count hit) is = absurd is
decision-names number (Vote thread count won lost did) is = tt
decision-names number (Free thread) is = tt
decision-names number (Scrub won lost) is = tt
decision-names number (End how) is = tt

pub decision-not-sink : (entry : Entry) → IsDecision entry → (taken : ℕ) → outcome_of (entry ∷ []) ≡ Some (Sink taken) → ⊥
decision-not-sink (End how) is taken e = is taken (let f : Some how ≡ Some (Sink taken) = e in cc)
decision-not-sink entry is taken e = let f : None ≡ Some (Sink taken) = e in cc

-- it leaves the leases
pub decision-leases : (mode : Mode) (job : Job) (core : Core) (entry : Entry) → IsDecision entry → (after mode job core entry).leases ≡ core.leases
unfolding votes.after together.after
decision-leases mode job core (Take lease) is = absurd is
decision-leases mode job core (Put lease count hit) is = absurd is
decision-leases mode job core (Part lease count hit) is = absurd is
decision-leases Voted job core (Vote thread count won lost did) is = event_leases core thread count (with_recovered won (numbers lost) core.replicas) (event_in job core thread won)
decision-leases Voted job core (Free thread) is = event_leases core thread 0 core.replicas (freed_event job core thread)
decision-leases Voted job core (Scrub won lost) is = refl
decision-leases Cooperative job core (Vote thread count won lost did) is = event-leases job core thread (together.voted_stop core thread) (together.voted_event job core thread)
decision-leases Cooperative job core (Free thread) is = event-leases job core thread _ (together.freed_event job core thread)
decision-leases Cooperative job core (Scrub won lost) is = refl
decision-leases mode job core (End how) is = end-leases mode job core how

-- ---- an entry that is no end takes nothing back

abbrev AtMost : Core → Core → Type 0
AtMost core after = length core.output ≤ length after.output

event-grows : (core : Core) (thread count : ℕ) (replicas : List Replica) (event : Option Event) → AtMost core (core_after_event core thread count replicas event)
event-grows core thread count replicas None = omega arith
event-grows core thread count replicas (Some event) = omega (arith, length-append core.output event.payload)

shared-grows : (job : Job) (core : Core) (thread : ℕ) (stop : Option Stop) (event : Option Event) → AtMost core (together.core_after_event job core thread stop event)
shared-grows job core thread stop None = omega arith
shared-grows job core thread stop (Some event) = omega (arith, length-append core.output event.payload)

put-grows : (job : Job) (core : Core) (lease : Lease) (count : ℕ) (ran : Option Peer) → AtMost core (together.core_after_put job core lease count ran)
put-grows job core lease count None = omega arith
put-grows job core lease count (Some peer) = omega arith

part-grows : (job : Job) (core : Core) (lease : Lease) (count : ℕ) (ran : Option Peer) → AtMost core (together.core_after_part job core lease count ran)
part-grows job core lease count None = omega arith
part-grows job core lease count (Some peer) = omega arith

pub output-grows : (mode : Mode) (job : Job) (core : Core) (entry : Entry) → ((how : How) → entry ≢ End how) → length core.output ≤ length (after mode job core entry).output
unfolding votes.after together.after
output-grows mode job core (End how) other = absurd (other how refl)
output-grows Voted job core (Take lease) other = omega arith
output-grows Voted job core (Put lease count hit) other = let same = ap (λ (c : Core). c.output) (put-only job core lease count (lease_run job core lease count)) in let long = ap length same in omega arith
output-grows Voted job core (Part lease count hit) other = let same = ap (λ (c : Core). c.output) (part-only job core lease (lease_run job core lease count)) in let long = ap length same in omega arith
output-grows Voted job core (Vote thread count won lost did) other = event-grows core thread count (with_recovered won (numbers lost) core.replicas) (event_in job core thread won)
output-grows Voted job core (Free thread) other = event-grows core thread 0 core.replicas (freed_event job core thread)
output-grows Voted job core (Scrub won lost) other = omega arith
output-grows Cooperative job core (Take lease) other = omega arith
output-grows Cooperative job core (Put lease count hit) other = put-grows job core lease count (together.lease_run job core lease count)
output-grows Cooperative job core (Part lease count hit) other = part-grows job core lease count (together.lease_run job core lease count)
output-grows Cooperative job core (Vote thread count won lost did) other = shared-grows job core thread (together.voted_stop core thread) (together.voted_event job core thread)
output-grows Cooperative job core (Free thread) other = shared-grows job core thread _ (together.freed_event job core thread)
output-grows Cooperative job core (Scrub won lost) other = omega arith
