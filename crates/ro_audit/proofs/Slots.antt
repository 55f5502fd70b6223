-- What is lent to a driver, behind an entry, by the rules of the job's mode.
use Rattle.std.proofs.Common.{◌≡◌, ◌≢◌, inl, inr, ℕ, zero, suc, ◌<◌, Bool, true, false, true≢false, not, cond, ◌||◌, List, [], ◌∷◌, ◌++◌, length, Option, Some, None, set, get_or, refl, sym, ap, ◌∙◌, subst, arith, eq-eqb, eqb-true, get_or-set_same, get_or-set_other}
use Rattle.std.specs.Prelude.{◌==◌, slice_index_or, slice_set}
use Rattle.std.specs.List.{find, list_any}
use mathlib.Core.Logic.{dite}
use native.Mathlib.Decide.{ℕ_discrete}
use Rattle.ro_journal.specs.declared.Entry.{Entry}
use Rattle.ro_journal.specs.declared.Entry.TheVariants.{Take}
use Rattle.ro_journal.specs.declared.Lease.{Lease}
use Rattle.ro_kernel.specs.Kernel.{Kernel}
use Rattle.ro_replica.specs.Replica.{Replica}
use Rattle.ro_replica.specs.Seen.{replica_of}
use Rattle.ro_peer.specs.Seen.{peer_of}
use Rattle.ro_lease.specs.declared.Loan.{Loan}
use Rattle.ro_lease.specs.declared.Loan.TheVariants as loans
use Rattle.ro_lease.specs.declared.Lent.{Lent as VotedLent}
use Rattle.ro_core.specs.Seen.{IsLaneOfJob}
use Rattle.ro_core.specs.Seen as voted_seen
use Rattle.ro_core.proofs.Returning.{lent-has, lent-goes}
use Rattle.ro_cores.specs.Cores.{plain_core}
use Rattle.ro_coop_lease.specs.declared.Lent.{Lent}
use Rattle.ro_coop_core.specs.Seen as shared_seen
use Rattle.ro_legal.specs.Core.{Job, Core, is_idle, is_lease, is_out, lease_of}
use Rattle.ro_legal.specs.Legal.{MayTake}
use Rattle.ro_legal.specs.Legal as votes
use Rattle.ro_legal.specs.Cooperative as together
use Rattle.ro_legal.specs.Laws.{HasLease, Names}
use Rattle.ro_legal.specs.Lent.{IsOfJob}
use Rattle.ro_legal.specs.Parts.{Lent as Lending, Whole, Pages}
use Rattle.ro_legal.proofs.Journals.{replay_more}
use Rattle.ro_legal.specs.Modes.{Mode}
use Rattle.ro_legal.specs.Modes as modes
use Rattle.ro_legal.specs.Rules.{IsFit, Legal, replay}
use Rattle.ro_legal.proofs.Leases.{OneEach, has_driver, same-lease, out_number}
use Rattle.ro_legal.proofs.Lasting.{lease-stays, kernel_lasts}
use Rattle.ro_legal.proofs.TogetherLeases.{lease-lasts}
use Rattle.ro_legal.proofs.Ordered.{going-parts}
use Rattle.ro_legal.proofs.Rules.{replay-more, after-take, others-idle, put-idle, part-idle}
use Rattle.ro_cores.specs.Loans.{LentOf, IsLent, Returns, lease_in, plain_run}
use Rattle.ro_cores.proofs.Lending.{lending}
use Rattle.ro_audit.specs.Following.{LendsLoan, LendsReplica, LendsPeer, Lends, Slot}

-- each driver's slot is what is lent to it
abbrev pub AreSlots : Job → Core → List (Option LentOf) → Type 0
AreSlots job core lent = (driver : ℕ) → Slot job core driver (slice_index_or lent driver None)

-- ---- what goes out with a take

module _ (job : Job) (core : Core) (alive : core.ended ≡ None) where
  -- a lease that was just taken is the driver's
  first-held : (lease : Lease) → lease_of (lending core lease) lease.driver ≡ Some lease
  first-held lease = ap (λ (b : Bool). cond b (Some lease) (find (λ (l : Lease). l.driver == lease.driver) core.leases)) (eq-eqb lease.driver lease.driver refl)

  peer-goes : (lent : Lent) → lent.quantum ≡ job.settings.quantum → (journal : List Entry) → together.replay job journal ≡ core → shared_seen.IsLent (plain_run job journal) lent.lease.replica lent.lease.thread lent.partner → LendsPeer job (lending core lent.lease) lent
  peer-goes lent quantum journal at is = record {
    quantum_is = quantum;
    program = subst (λ (c : Core). IsOfJob job c.kernel lent.partner.peer.replica) at is.program;
    held = first-held lent.lease;
    there = ap (λ (c : Core). together.peer_in c lent.lease.replica) (sym at) ∙ is.peer;
    going = is.going;
    countable = is.countable;
    faultless = is.faultless;
    ceilings = is.count;
    not_ended = alive;
  }

-- what a replica lends
module _ (job : Job) (journal : List Entry) (lease : Lease) (may : MayTake job (votes.replay job journal) lease) where
  abbrev taken : List Entry
  taken = journal ++ Take lease ∷ []

  same-kernel : (votes.replay job taken).kernel ≡ (votes.replay job journal).kernel
  unfolding votes.after
  same-kernel = ap (λ (c : Core). c.kernel) (replay_more job journal (Take lease))

  loan-goes : (loan : Loan) → voted_seen.IsLent (plain_core job journal) lease.replica lease.thread loan → LendsLoan job (votes.replay job taken) lease loan
  loan-goes (loans.Whole value) is = record {
    out = lent-has job journal lease (loans.Whole value) is may;
    program = subst (λ (k : Kernel). IsOfJob job k value) (sym same-kernel) is.program;
  }
  loan-goes (loans.Part lane) is = record {
    pages = is.pages;
    taken = is.replica;
    out = lent-has job journal lease (loans.Part lane) is may;
    program = subst (λ (k : Kernel). IsLaneOfJob job k lane) (sym same-kernel) is.program;
    began = is.began;
    has = is.has;
    same = is.same;
    low = is.low;
    calm = is.calm;
  }

replica-goes : (job : Job) (journal : List Entry) (lent : VotedLent) → MayTake job (votes.replay job journal) lent.lease → lent.quantum ≡ job.settings.quantum → voted_seen.IsLent (plain_core job journal) lent.lease.replica lent.lease.thread lent.loan
    → LendsReplica job (votes.replay job (journal ++ Take lent.lease ∷ [])) lent
replica-goes job journal lent may quantum is = record { quantum_is = quantum; goes = lent-goes (plain_core job journal) lent quantum is; loan = loan-goes job journal lent.lease may lent.loan is }

-- what is lent is out behind its take
pub take-lends : (job : Job) (journal : List Entry) (lent : LentOf) → MayTake job (replay job journal) (lease_in lent) → IsLent job journal lent → Lends job (replay job (journal ++ Take (lease_in lent) ∷ [])) lent
take-lends job journal (inl lent) may is = (
  is.0,
  subst (λ (m : Mode). LendsReplica job (modes.replay m job (journal ++ Take lent.lease ∷ [])) lent) (sym is.0)
      (replica-goes job journal lent (subst (λ (m : Mode). MayTake job (modes.replay m job journal) lent.lease) is.0 may) is.1 is.2),
)
take-lends job journal (inr lent) may is =
    let at : replay job (journal ++ Take lent.lease ∷ []) ≡ lending (replay job journal) lent.lease = replay-more job journal (Take lent.lease) ∙ after-take job (replay job journal) lent.lease in (
      is.0,
      subst (λ (c : Core). LendsPeer job c lent) (sym at) (peer-goes job (replay job journal) (going-parts (replay job journal) may.going).1 lent is.1 journal
          (ap (λ (m : Mode). modes.replay m job journal) (sym is.0)) is.2),
    )

-- ---- what another driver's entry leaves

module _ (job : Job) (journal : List Entry) (entry : Entry) where
  -- by votes
  module _ (legal : votes.Legal job (journal ++ entry ∷ [])) (lease : Lease) (by : ℕ) (names : Names by entry) (ne : by ≢ lease.driver) where
    out-stays : (lent : Lending) (taken : Replica) → HasLease (votes.replay job journal) lease.driver lease lent taken → HasLease (votes.replay job (journal ++ entry ∷ [])) lease.driver lease lent taken
    out-stays = lease-stays job journal entry legal lease.driver by names ne lease

    kernel-stays : lease_of (votes.replay job journal) lease.driver ≡ Some lease → (votes.replay job (journal ++ entry ∷ [])).kernel ≡ (votes.replay job journal).kernel
    kernel-stays = kernel_lasts job journal entry legal lease.driver lease

    loan-stays : (loan : Loan) → LendsLoan job (votes.replay job journal) lease loan → LendsLoan job (votes.replay job (journal ++ entry ∷ [])) lease loan
    loan-stays (loans.Whole value) s = record {
      out = out-stays Whole (replica_of value) s.out;
      program = subst (λ (k : Kernel). IsOfJob job k value) (sym (kernel-stays s.out.held)) s.program;
    }
    loan-stays (loans.Part lane) s = record {
      pages = s.pages;
      taken = s.taken;
      out = out-stays (Pages s.pages) s.taken s.out;
      program = subst (λ (k : Kernel). IsLaneOfJob job k lane) (sym (kernel-stays s.out.held)) s.program;
      began = s.began;
      has = s.has;
      same = s.same;
      low = s.low;
      calm = s.calm;
    }

  replica-stays : (lent : VotedLent) (by : ℕ) → votes.Legal job (journal ++ entry ∷ []) → Names by entry → by ≢ lent.lease.driver → LendsReplica job (votes.replay job journal) lent → LendsReplica job (votes.replay job (journal ++ entry ∷ [])) lent
  replica-stays lent by legal names ne s = record { quantum_is = s.quantum_is; goes = s.goes; loan = loan-stays legal lent.lease by names ne lent.loan s.loan }

  -- in a cooperative run
  peer-stays : (lent : Lent) (by : ℕ) → job.faults ≡ [] → together.Legal job (journal ++ entry ∷ []) → Names by entry → by ≢ lent.lease.driver → LendsPeer job (together.replay job journal) lent → LendsPeer job (together.replay job (journal ++ entry ∷ [])) lent
  peer-stays lent by unstruck legal names ne s =
      let still = lease-lasts job journal entry unstruck legal lent.lease.driver by names ne lent.lease (together.replay job journal).kernel (peer_of lent.partner.peer) (record { held = s.held; there = s.there; kernel_is = refl; not_ended = s.not_ended }) in
      record {
        quantum_is = s.quantum_is;
        program = subst (λ (k : Kernel). IsOfJob job k lent.partner.peer.replica) (sym still.kernel_is) s.program;
        held = still.held;
        there = still.there;
        going = s.going;
        countable = s.countable;
        faultless = s.faultless;
        ceilings = s.ceilings;
        not_ended = still.not_ended;
      }

  module _ (fit : IsFit job) (legal : Legal job (journal ++ entry ∷ [])) where
    abbrev now : Core
    now = replay job journal

    abbrev later : Core
    later = replay job (journal ++ entry ∷ [])

    lent-stays : (lent : LentOf) (by : ℕ) → Names by entry → by ≢ (lease_in lent).driver → Lends job now lent → Lends job later lent
    lent-stays (inl lent) by names ne s = (
      s.0,
      subst (λ (m : Mode). LendsReplica job (modes.replay m job (journal ++ entry ∷ [])) lent) (sym s.0)
          (replica-stays lent by (subst (λ (m : Mode). modes.Legal m job (journal ++ entry ∷ [])) s.0 legal) names ne (subst (λ (m : Mode). LendsReplica job (modes.replay m job journal) lent) s.0 s.1)),
    )
    lent-stays (inr lent) by names ne s =
        let suits = subst (λ (m : Mode). modes.Suits m job) s.0 fit in (
          s.0,
          subst (λ (m : Mode). LendsPeer job (modes.replay m job (journal ++ entry ∷ [])) lent) (sym s.0)
              (peer-stays lent by suits.0 (subst (λ (m : Mode). modes.Legal m job (journal ++ entry ∷ [])) s.0 legal) names ne (subst (λ (m : Mode). LendsPeer job (modes.replay m job journal) lent) s.0 s.1)),
        )

    slot-other : (driver by : ℕ) → Names by entry → by ≢ driver → (o : Option LentOf) → Slot job now driver o → Slot job later driver o
    slot-other driver by names ne None s = subst (λ (c : Core). is_idle c driver ≡ true) (sym (replay-more job journal entry)) (others-idle job now driver by entry names ne s)
    slot-other driver by names ne (Some lent) s = (s.0, lent-stays lent by names (λ e. ne (e ∙ s.0)) s.1)

    -- where one slot changes with its driver's entry
    slot-set : (by : ℕ) (lent : List (Option LentOf)) (o : Option LentOf) → Names by entry → by < length lent → AreSlots job now lent → Slot job later by o → AreSlots job later (slice_set lent by o)
    slot-set by lent o names within slots its driver = dite (ℕ_discrete driver by)
        (λ (same : driver ≡ by). subst (Slot job later driver) (sym (ap (λ (n : ℕ). get_or (set lent by o) n None) same ∙ get_or-set_same lent by o None within)) (subst (λ (n : ℕ). Slot job later n o) (sym same) its))
        (λ (other : driver ≢ by). subst (Slot job later driver) (sym (get_or-set_other lent by driver o None other)) (slot-other driver by names (λ e. other (sym e)) (slice_index_or lent driver None) (slots driver)))

-- a take
pub slots-take : (job : Job) (journal : List Entry) (loan : LentOf) (lent : List (Option LentOf)) → IsFit job → Legal job (journal ++ Take (lease_in loan) ∷ []) → MayTake job (replay job journal) (lease_in loan) → IsLent job journal loan
    → length lent ≡ job.settings.drivers → AreSlots job (replay job journal) lent → AreSlots job (replay job (journal ++ Take (lease_in loan) ∷ [])) (slice_set lent (lease_in loan).driver (Some loan))
slots-take job journal loan lent fit legal may is count slots =
    slot-set job journal (Take (lease_in loan)) fit legal (lease_in loan).driver lent (Some loan) refl (let w = may.driver_exists in omega arith) slots (refl, take-lends job journal loan may is)

-- a lease that comes back is of the driver that brings it, which holds none behind it
pub returns-names : (lease : Lease) (entry : Entry) → Returns lease entry → Names lease.driver entry
returns-names lease entry (count, hit, inl e) = subst (Names lease.driver) (sym e) refl
returns-names lease entry (count, hit, inr e) = subst (Names lease.driver) (sym e) refl

returns-idle : (job : Job) (journal : List Entry) (lease : Lease) (entry : Entry) → Returns lease entry → Legal job (journal ++ entry ∷ []) → is_idle (replay job (journal ++ entry ∷ [])) lease.driver ≡ true
returns-idle job journal lease entry (count, hit, inl e) legal =
    subst (λ (x : Entry). is_idle (replay job (journal ++ x ∷ [])) lease.driver ≡ true) (sym e) (put-idle job journal lease count hit (subst (λ (x : Entry). Legal job (journal ++ x ∷ [])) e legal))
returns-idle job journal lease entry (count, hit, inr e) legal =
    subst (λ (x : Entry). is_idle (replay job (journal ++ x ∷ [])) lease.driver ≡ true) (sym e) (part-idle job journal lease count hit (subst (λ (x : Entry). Legal job (journal ++ x ∷ [])) e legal))

-- a return
pub slots-return : (job : Job) (journal : List Entry) (lease : Lease) (entry : Entry) (lent : List (Option LentOf)) → IsFit job → Legal job (journal ++ entry ∷ []) → Returns lease entry → lease.driver < length lent → AreSlots job (replay job journal) lent
    → AreSlots job (replay job (journal ++ entry ∷ [])) (slice_set lent lease.driver None)
slots-return job journal lease entry lent fit legal returns within slots =
    slot-set job journal entry fit legal lease.driver lent None (returns-names lease entry returns) within slots (returns-idle job journal lease entry returns legal)

-- ---- where nothing is lent, and an entry lends nothing

loan-held : (job : Job) (core : Core) (lease : Lease) (loan : Loan) → LendsLoan job core lease loan → lease_of core lease.driver ≡ Some lease
loan-held job core lease (loans.Whole value) s = s.out.held
loan-held job core lease (loans.Part lane) s = s.out.held

lends-held : (job : Job) (core : Core) (lent : LentOf) → Lends job core lent → lease_of core (lease_in lent).driver ≡ Some (lease_in lent)
lends-held job core (inl lent) s = loan-held job core lent.lease lent.loan s.1.loan
lends-held job core (inr lent) s = s.1.held

slot-alone : (job : Job) (core core' : Core) (driver : ℕ) → core.leases ≡ [] → core'.leases ≡ core.leases → (o : Option LentOf) → Slot job core driver o → Slot job core' driver o
slot-alone job core core' driver none same None s = ap (λ (ls : List Lease). not (has_driver driver ls)) same ∙ s
slot-alone job core core' driver none same (Some lent) s =
    absurd (let e : None ≡ Some (lease_in lent) = sym (ap (find (λ (l : Lease). l.driver == (lease_in lent).driver)) none) ∙ lends-held job core lent s.1 in cc)

pub slots-alone : (job : Job) (core core' : Core) (lent : List (Option LentOf)) → core.leases ≡ [] → core'.leases ≡ core.leases → AreSlots job core lent → AreSlots job core' lent
slots-alone job core core' lent none same slots driver = slot-alone job core core' driver none same (slice_index_or lent driver None) (slots driver)

-- slots of which none has anything, and one more
pub vacant-more : (lent : List (Option LentOf)) → ((driver : ℕ) → slice_index_or lent driver None ≡ None) → (driver : ℕ) → slice_index_or (lent ++ None ∷ []) driver None ≡ None
vacant-more [] h zero = refl
vacant-more [] h (suc driver) = refl
vacant-more (slot ∷ lent) h zero = h zero
vacant-more (slot ∷ lent) h (suc driver) = vacant-more lent (λ d. h (suc d)) driver

-- ---- which lease is out

-- a lease that is out is of its driver
driver-out : (lease : Lease) (leases : List Lease) → list_any (is_lease lease) leases ≡ true → has_driver lease.driver leases ≡ true
driver-out lease = out_number (λ lease. lease.driver) lease

-- a driver without one has none out
pub none-out : (core : Core) (lease : Lease) → is_idle core lease.driver ≡ true → is_out core lease ≡ true → ⊥
none-out core lease idle out =
    let there = driver-out lease core.leases out in
    true≢false (sym idle ∙ ap not there)

-- the lease that is found is the one that is out
out-found : (own lease : Lease) (leases : List Lease) → OneEach leases → find (λ l. l.driver == own.driver) leases ≡ Some lease → list_any (is_lease own) leases ≡ true → lease ≡ own
out-found own lease [] one f e = absurd (let g : None ≡ Some lease = f in cc)
out-found own lease (l ∷ leases) one f e = by (l.driver == own.driver) refl f (is_lease own l) refl e (out-found own lease leases one.1)
  where
    by : (b : Bool) → (l.driver == own.driver) ≡ b → cond b (Some l) (find (λ x. x.driver == own.driver) leases) ≡ Some lease
        → (k : Bool) → is_lease own l ≡ k → (k || list_any (is_lease own) leases) ≡ true
        → (find (λ x. x.driver == own.driver) leases ≡ Some lease → list_any (is_lease own) leases ≡ true → lease ≡ own)
        → lease ≡ own
    by true is g true k h rest = let same : l ≡ lease = (let x : Some l ≡ Some lease = g in cc) in sym same ∙ same-lease own l k
    by true is g false k h rest =
        let there : has_driver own.driver leases ≡ true = driver-out own leases h in
        absurd (true≢false (sym there ∙ ap (λ (n : ℕ). has_driver n leases) (sym (eqb-true l.driver own.driver is)) ∙ one.0))
    by false is g true k h rest = absurd (true≢false (sym (eq-eqb l.driver own.driver (ap (λ (x : Lease). x.driver) (same-lease own l k))) ∙ is))
    by false is g false k h rest = rest g h

-- what is lent to the driver of a lease that is out is that lease
pub lent-is : (job : Job) (core : Core) (own : Lease) (lent : LentOf) → OneEach core.leases → Slot job core own.driver (Some lent) → is_out core own ≡ true → lease_in lent ≡ own
lent-is job core own lent one s out =
    out-found own (lease_in lent) core.leases one (subst (λ (driver : ℕ). lease_of core driver ≡ Some (lease_in lent)) s.0 (lends-held job core lent s.1)) out
