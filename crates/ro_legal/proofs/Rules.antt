-- What holds of every run, by the rules of its mode.
use Rattle.std.proofs.Common.{◌≡◌, ◌≢◌, ℕ, ◌<◌, ◌≤◌, true, List, [], ◌∷◌, ◌++◌, length, Some}
use Rattle.std.specs.Prelude.{IsSome}
use Rattle.ro_journal.specs.declared.How.{How}
use Rattle.ro_journal.specs.declared.How.TheVariants.{Sink}
use Rattle.ro_journal.specs.declared.Entry.{Entry}
use Rattle.ro_journal.specs.declared.Entry.TheVariants.{Take, Put, Part, End}
use Rattle.ro_journal.specs.declared.Lease.{Lease}
use Rattle.ro_journal.specs.Plan.{outcome_of}
use Rattle.ro_legal.specs.declared.actions.Action.TheVariants.{Vote as DoVote, Free as DoFree, Scrub as DoScrub, Lend}
use Rattle.ro_legal.specs.Core.{Job, Core, is_idle}
use Rattle.ro_legal.specs.Laws.{Names}
use Rattle.ro_legal.specs.Sound.{IsOver}
use Rattle.ro_legal.specs.Legal.{MayTake, cut_output, core_after_take}
use Rattle.ro_legal.specs.Action.{next_action}
use Rattle.ro_legal.specs.Rules.{IsFit, after, replay, IsAllowed, Legal, DecidesVote, DecidesFree, DecidesScrub, IsNext, EachIsNext}
use Rattle.ro_legal.proofs.Modes as modes
use Rattle.ro_legal.proofs.Modes.{IsDecision, LastIn}

pub replay-more : (job : Job) (journal : List Entry) (entry : Entry) → replay job (journal ++ entry ∷ []) ≡ after job (replay job journal) entry
replay-more job = modes.replay-more job.settings.mode job

pub legal-more : (job : Job) (journal : List Entry) (entry : Entry) → Legal job journal → IsAllowed job (replay job journal) entry → Legal job (journal ++ entry ∷ [])
legal-more job = modes.legal-more job.settings.mode job

pub next-more : (job : Job) (journal : List Entry) (entry : Entry) → EachIsNext job journal → IsNext job (replay job journal) entry → EachIsNext job (journal ++ entry ∷ [])
next-more job = modes.next-more job.settings.mode job

pub legal-parts : (job : Job) (journal : List Entry) (entry : Entry) → Legal job (journal ++ entry ∷ []) → Legal job journal × IsAllowed job (replay job journal) entry
legal-parts job = modes.legal-parts job.settings.mode job

pub legal-front : (job : Job) (journal rest : List Entry) → Legal job (journal ++ rest) → Legal job journal
legal-front job = modes.legal-front job.settings.mode job

pub none-legal : (job : Job) → Legal job []
none-legal job = modes.none-legal job.settings.mode job

pub none-next : (job : Job) → EachIsNext job []
none-next job = modes.none-next job.settings.mode job

pub ended-is : (job : Job) (journal : List Entry) → Legal job journal → (replay job journal).ended ≡ outcome_of journal
ended-is job = modes.ended-is job.settings.mode job

pub due-over : (job : Job) (journal : List Entry) → IsFit job → Legal job journal → (how : How) → (replay job journal).due ≡ Some how → IsOver how
due-over job = modes.due-over job.settings.mode job

pub wrote-alone : (job : Job) (journal : List Entry) → IsFit job → Legal job journal → 0 < (replay job journal).wrote → (replay job journal).leases ≡ []
wrote-alone job = modes.wrote-alone job.settings.mode job

pub ended-cuts : (job : Job) (journal : List Entry) (bytes : ℕ) → Legal job journal → IsSome (replay job journal).ended → cut_output (replay job journal) (Sink bytes) ≡ (replay job journal).output
ended-cuts job = modes.ended-cuts job.settings.mode job

pub last-in : (job : Job) (journal : List Entry) (how : How) → Legal job journal → outcome_of journal ≡ Some how → LastIn job.settings.mode job journal how
last-in job = modes.last-in job.settings.mode job

pub as-many : (job : Job) (journal : List Entry) → IsFit job → Legal job journal → length (replay job journal).replicas ≡ job.settings.replicas
as-many job = modes.as-many job.settings.mode job

pub none-written : (job : Job) → (replay job []).output ≡ []
none-written job = modes.none-written job.settings.mode job

pub none-lent : (job : Job) → (replay job []).leases ≡ []
none-lent job = modes.none-lent job.settings.mode job

pub opening-idle : (job : Job) (driver : ℕ) → is_idle (replay job []) driver ≡ true
opening-idle job = modes.opening-idle job.settings.mode job

pub each-idle : (job : Job) (journal : List Entry) → Legal job journal → ((driver : ℕ) → driver < job.settings.drivers → is_idle (replay job journal) driver ≡ true) → (replay job journal).leases ≡ []
each-idle job = modes.each-idle job.settings.mode job

pub put-idle : (job : Job) (journal : List Entry) (lease : Lease) (count hit : ℕ) → Legal job (journal ++ Put lease count hit ∷ []) → is_idle (replay job (journal ++ Put lease count hit ∷ [])) lease.driver ≡ true
put-idle job = modes.put-idle job.settings.mode job

pub part-idle : (job : Job) (journal : List Entry) (lease : Lease) (count hit : ℕ) → Legal job (journal ++ Part lease count hit ∷ []) → is_idle (replay job (journal ++ Part lease count hit ∷ [])) lease.driver ≡ true
part-idle job = modes.part-idle job.settings.mode job

pub others-idle : (job : Job) (core : Core) (driver by : ℕ) (entry : Entry) → Names by entry → by ≢ driver → is_idle core driver ≡ true → is_idle (after job core entry) driver ≡ true
others-idle job = modes.others-idle job.settings.mode job

pub take-allowed : (job : Job) (core : Core) (lease : Lease) → MayTake job core lease → IsAllowed job core (Take lease)
take-allowed job = modes.take-allowed job.settings.mode job

pub take-may : (job : Job) (core : Core) (lease : Lease) → IsAllowed job core (Take lease) → MayTake job core lease
take-may job = modes.take-may job.settings.mode job

pub take-next : (job : Job) (core : Core) (lease : Lease) → next_action job core ≡ Lend lease.replica lease.thread → IsNext job core (Take lease)
take-next job = modes.take-next job.settings.mode job

pub after-take : (job : Job) (core : Core) (lease : Lease) → after job core (Take lease) ≡ core_after_take core lease
after-take job = modes.after-take job.settings.mode job

pub put-next : (job : Job) (core : Core) (lease : Lease) (count hit : ℕ) → IsNext job core (Put lease count hit)
put-next job = modes.put-next job.settings.mode job

pub part-next : (job : Job) (core : Core) (lease : Lease) (count hit : ℕ) → IsNext job core (Part lease count hit)
part-next job = modes.part-next job.settings.mode job

pub end-leases : (job : Job) (core : Core) (how : How) → (after job core (End how)).leases ≡ core.leases
end-leases job = modes.end-leases job.settings.mode job

pub end-output : (job : Job) (core : Core) (how : How) → (after job core (End how)).output ≡ cut_output core how
end-output job = modes.end-output job.settings.mode job

pub vote-next : (job : Job) (core : Core) (thread : ℕ) (entry : Entry) → next_action job core ≡ DoVote thread → DecidesVote job core thread entry → IsNext job core entry
vote-next job = modes.vote-next job.settings.mode job

pub free-next : (job : Job) (core : Core) (thread : ℕ) (entry : Entry) → next_action job core ≡ DoFree thread → DecidesFree job core thread entry → IsNext job core entry
free-next job = modes.free-next job.settings.mode job

pub scrub-next : (job : Job) (core : Core) (entry : Entry) → next_action job core ≡ DoScrub → DecidesScrub job core entry → IsNext job core entry
scrub-next job = modes.scrub-next job.settings.mode job

pub vote-decision : (job : Job) (core : Core) (thread : ℕ) (entry : Entry) → DecidesVote job core thread entry → IsDecision entry
vote-decision job = modes.vote-decision job.settings.mode job

pub free-decision : (job : Job) (core : Core) (thread : ℕ) (entry : Entry) → DecidesFree job core thread entry → IsDecision entry
free-decision job = modes.free-decision job.settings.mode job

pub scrub-decision : (job : Job) (core : Core) (entry : Entry) → DecidesScrub job core entry → IsDecision entry
scrub-decision job = modes.scrub-decision job.settings.mode

pub decision-leases : (job : Job) (core : Core) (entry : Entry) → IsDecision entry → (after job core entry).leases ≡ core.leases
decision-leases job = modes.decision-leases job.settings.mode job

pub output-grows : (job : Job) (core : Core) (entry : Entry) → ((how : How) → entry ≢ End how) → length core.output ≤ length (after job core entry).output
output-grows job = modes.output-grows job.settings.mode job
