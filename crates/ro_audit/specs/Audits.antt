-- What an audit tells of a journal, by the rules of the job's mode.
use Rattle.std.specs.Prelude.{◌≡◌, ◌≢◌, ◌⊎◌, ◌≤◌, ◌<◌, ◌+◌, ℕ, Bool, true, false, List, [], ◌∷◌, ◌++◌, Contains, length, Option, Some, None, IsSome}
use Rattle.ro_journal.specs.declared.How.TheVariants.{Differ, NoMajority}
use Rattle.ro_journal.specs.declared.Lease.{Lease}
use Rattle.ro_journal.specs.declared.Entry.{Entry}
use Rattle.ro_journal.specs.declared.Entry.TheVariants.{Take, Put, Part, Vote, Free, Scrub, End}
use Rattle.ro_journal.specs.Plan.{outcome_of}
use Rattle.ro_plans.specs.Plans.{plan_in}
use Rattle.ro_peer.specs.Gets.{Get}
use Rattle.ro_legal.specs.Core.{Job, Core, is_out, may_vote, may_free}
use Rattle.ro_legal.specs.Legal.{MayTake, may_scrub}
use Rattle.ro_legal.specs.Modes.{InMode, in_mode}
use Rattle.ro_legal.specs.Rules.{IsAllowed, Legal, DecidesVote, DecidesFree, DecidesScrub, IsNext, EachIsNext, replay, output_of}
use Rattle.ro_legal.specs.Cooperative.{gets_from, lease_gets, opening_core}
use Rattle.ro_legal.specs.Cooperative as together
use Rattle.ro_cores.specs.Cores.{KeepsViews}
use Rattle.ro_cores.specs.Loans.{IsJoined}
use Rattle.ro_audit.specs.declared.follower.Why.{Why}
use Rattle.ro_audit.specs.declared.follower.Why.TheVariants.{NotLendable, NotOut, Ran, NoPut, NoPart, OtherGot, NoVote, NoFree, NoScrub, Comes, NoEnd, Behind}
use Rattle.ro_audit.specs.declared.audits.Audited.{Audited}
use Rattle.ro_audit.specs.declared.audits.AuditError.{AuditError}
use Rattle.ro_audit.specs.declared.audits.AuditError.TheVariants.{Illegal, NoMemory}

-- the replicas may be compared whole; in a cooperative run they never are
abbrev pub scrubs : Job → Core → Bool
scrubs job core = in_mode job.settings.mode (may_scrub core) false

-- what the leases of a cooperative journal got; by votes replicas get nothing by themselves
abbrev pub got_in : Job → List Entry → List Get
got_in job journal = in_mode job.settings.mode [] (gets_from job (opening_core job) journal)

-- the entry, and the one that comes in its stead, decide the vote on a thread that may be voted on, or free one that may be freed,
-- or decide a scrub that may be made
abbrev pub Compete : Job → Core → (entry came : Entry) → Type 0
Compete job core entry came =
    ((thread : ℕ) × (may_vote core thread ≡ true) × DecidesVote job core thread entry × DecidesVote job core thread came)
    ⊎ ((thread : ℕ) × (may_free job core thread ≡ true) × DecidesFree job core thread entry × DecidesFree job core thread came)
    ⊎ ((scrubs job core ≡ true) × DecidesScrub job core entry × DecidesScrub job core came)

-- the lease comes back after so many instructions, so many faults having struck
abbrev pub ComesBack : Job → Core → Lease → (count hit : ℕ) → Type 0
ComesBack job core lease count hit = IsAllowed job core (Put lease count hit) ⊎ IsAllowed job core (Part lease count hit)

-- it comes back by these counts, and after no more instructions; and others are told
abbrev pub ComesBackBy : Job → Core → Lease → (count hit other struck : ℕ) → Type 0
ComesBackBy job core lease count hit other struck =
    ComesBack job core lease other struck
    × ((later faults : ℕ) → ComesBack job core lease later faults → later ≤ other)
    × ((other ≡ count) × (struck ≡ hit) → ⊥)

-- in a cooperative run: behind so many instructions the lease does not come back, and its thread takes one more
pub record GoesOn (job : Job) (core : Core) (lease : Lease) (count : ℕ) : Type 0 where
  pub early : count < job.settings.quantum
  pub next : IsSome (together.lease_run job core lease (count + 1))
  pub no_put : (hit : ℕ) → together.MayPut job core lease count hit → ⊥
  pub no_part : (hit : ℕ) → together.MayPart job core lease count hit → ⊥

-- in a cooperative run: the lease runs so far, and faults are told, of which there are none, or its thread goes on there
pub record RunsSoFar (job : Job) (core : Core) (lease : Lease) (count hit : ℕ) : Type 0 where
  pub ran : together.Ran job core lease count
  pub within : count ≤ job.settings.quantum
  pub odd : (hit ≢ 0) ⊎ GoesOn job core lease count

-- The lease comes to the counts that are told, but not by the entry: it comes back by the other one, or, in a cooperative run, it
-- only runs so far.
abbrev pub ComesOtherwise : Job → Core → Lease → (count hit : ℕ) → (entry other : Entry) → Type 0
ComesOtherwise job core lease count hit entry other =
    (IsAllowed job core entry → ⊥) × (IsAllowed job core other ⊎ InMode job.settings.mode ⊥ (RunsSoFar job core lease count hit))

-- within so many instructions the lease gets a mutex at a rank at which another thread got it before
pub record OtherHas (job : Job) (core : Core) (got : List Get) (lease : Lease) (count : ℕ) : Type 0 where
  pub not_ended : core.ended ≡ None
  pub by : ℕ
  pub within : by ≤ count
  pub get : Get
  pub gets : Contains (lease_gets job core lease by) get
  pub before : Get
  pub had : Contains got before
  pub same_mutex : before.mutex ≡ get.mutex
  pub same_rank : before.rank ≡ get.rank
  pub other_thread : before.thread ≢ get.thread

-- What a reason says of an entry that is not allowed in a core, by what was got up to there. Behind the end there is one reason, that
-- the run has ended. Else another entry comes in its stead; the thread can't be lent to the driver; no such lease is out, or its run comes back after other counts; it comes to
-- these counts, but not by this entry; another thread got a mutex that the lease gets; the thread can't be voted on, or has no call
-- that may be served; no scrub may be made; the run goes on, and no end that may come is this one.
abbrev pub IsReason : Job → Core → (got : List Get) → Entry → Why → Type 0
IsReason job core got entry (Comes came) = IsAllowed job core came × (came ≢ entry) × Compete job core entry came
IsReason job core got entry Behind = IsSome core.ended
IsReason job core got (Take lease) NotLendable = (core.ended ≡ None) × (MayTake job core lease → ⊥)
IsReason job core got (Put lease count hit) NotOut = (core.ended ≡ None) × (is_out core lease ≡ false)
IsReason job core got (Part lease count hit) NotOut = (core.ended ≡ None) × (is_out core lease ≡ false)
IsReason job core got (Put lease count hit) (Ran other struck) = ComesBackBy job core lease count hit other struck
IsReason job core got (Part lease count hit) (Ran other struck) = ComesBackBy job core lease count hit other struck
IsReason job core got (Put lease count hit) NoPut = ComesOtherwise job core lease count hit (Put lease count hit) (Part lease count hit)
IsReason job core got (Part lease count hit) NoPart = ComesOtherwise job core lease count hit (Part lease count hit) (Put lease count hit)
IsReason job core got (Put lease count hit) OtherGot = OtherHas job core got lease count
IsReason job core got (Part lease count hit) OtherGot = OtherHas job core got lease count
IsReason job core got (Vote thread count won lost did) NoVote = (core.ended ≡ None) × (may_vote core thread ≡ false)
IsReason job core got (Free thread) NoFree = (core.ended ≡ None) × (may_free job core thread ≡ false)
IsReason job core got (Scrub won lost) NoScrub = (core.ended ≡ None) × (scrubs job core ≡ false)
IsReason job core got (End how) NoEnd = (core.ended ≡ None) × (IsAllowed job core (End how) → ⊥)
IsReason job core got entry why = ⊥

-- behind the journal the entry is not allowed, or what is got by then stands in no rows; and this is why
abbrev pub IsRefused : Job → List Entry → Entry → Why → Type 0
IsRefused job journal entry why =
    (IsAllowed job (replay job journal) entry → IsJoined job (journal ++ entry ∷ []) → ⊥) × IsReason job (replay job journal) (got_in job journal) entry why

-- the entry at the place is the first that is not allowed in the core that those before it leave, or by which what is got stands in
-- no rows; and this is why
pub record FirstIllegal (job : Job) (journal : List Entry) (place : ℕ) (why : Why) : Type 0 where
  pub before : List Entry
  pub entry : Entry
  pub rest : List Entry
  pub journal_is : journal ≡ before ++ entry ∷ rest
  pub place_is : length before ≡ place
  pub legal : Legal job before
  pub joined : IsJoined job before
  pub not_allowed : IsAllowed job (replay job before) entry → IsJoined job (before ++ entry ∷ []) → ⊥
  pub reason : IsReason job (replay job before) (got_in job before) entry why

-- the entry at the place is the first that is not what the run does next
pub record FirstOdd (job : Job) (journal : List Entry) (place : ℕ) : Type 0 where
  pub before : List Entry
  pub entry : Entry
  pub rest : List Entry
  pub journal_is : journal ≡ before ++ entry ∷ rest
  pub place_is : length before ≡ place
  pub next : EachIsNext job before
  pub odd : IsNext job (replay job before) entry → ⊥

-- each entry is what the run does next, or the one at the place is the first that is not
abbrev pub NextUpTo : Job → List Entry → Option ℕ → Type 0
NextUpTo job journal None = EachIsNext job journal
NextUpTo job journal (Some place) = FirstOdd job journal place

-- the journal is legal, all that was got stands in rows, and this is what its replay comes to
pub record Tells (job : Job) (journal : List Entry) (audited : Audited) : Type 0 where
  pub legal : Legal job journal
  pub joined : IsJoined job journal
  pub next : NextUpTo job journal audited.odd
  pub how : audited.how ≡ outcome_of journal
  pub steps : audited.steps ≡ length (plan_in job.settings.mode journal)
  pub output : audited.output.items ≡ output_of job journal
  pub views : KeepsViews job journal audited.views.items
  pub no_views : outcome_of journal ≢ Some Differ → outcome_of journal ≢ Some NoMajority → audited.views.items ≡ []

-- why there is no audit; want of memory has no cause in the journal
abbrev pub IsCause : Job → List Entry → AuditError → Type 0
IsCause job journal (Illegal place why) = FirstIllegal job journal place why
IsCause job journal NoMemory = Unit {0}
