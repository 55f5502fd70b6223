-- What is lent can run, and what becomes of it may be put back whatever others have done since.
use Rattle.std.proofs.Common.{◌≡◌, ◌⊎◌, inl, inr, ℕ, ◌==◌, Bool, true, false, cond, List, [], ◌∷◌, ◌++◌, Some, None, refl, sym, ap, ◌∙◌, subst, eq-eqb}
use Rattle.std.specs.List.{find}
use Rattle.std.specs.Prelude.{is_some}
use Rattle.ro_journal.specs.declared.Entry.{Entry}
use Rattle.ro_journal.specs.declared.Entry.TheVariants.{Take, Put, Part}
use Rattle.ro_journal.specs.declared.Lease.{Lease}
use Rattle.ro_journal.specs.Plan.{outcome_of}
use Rattle.ro_peer.specs.Peers.{Peer}
use Rattle.ro_peer.specs.Seen.{peer_of}
use Rattle.ro_peer.specs.declared.running.Came.{Came}
use Rattle.ro_peer.specs.declared.running.Came.TheVariants.{Quantum, Stopped}
use Rattle.ro_legal.specs.Core.{Job, Core, is_idle}
use Rattle.ro_legal.specs.Core as voted_core
use Rattle.ro_legal.specs.Legal.{MayTake, core_after_take}
use Rattle.ro_legal.specs.Laws.{HasLease}
use Rattle.ro_legal.specs.Parts.{Lent as Lending}
use Rattle.ro_legal.specs.Legal as votes
use Rattle.ro_legal.specs.Cooperative as together
use Rattle.ro_legal.specs.Kept.{HasPeer, NoFurtherAhead}
use Rattle.ro_legal.specs.Modes as modes
use Rattle.ro_legal.specs.Modes.{Mode}
use Rattle.ro_legal.specs.Jobs.{CanRun}
use Rattle.ro_legal.specs.Rules.{IsFit, Legal, IsAllowed, IsNext, replay}
use Rattle.ro_legal.proofs.Journals as voted_journals
use Rattle.ro_legal.proofs.TogetherJournals as together_journals
use Rattle.ro_legal.proofs.Ordered.{going-parts}
use Rattle.ro_legal.proofs.Rules.{put-idle, part-idle, put-next, part-next}
use Rattle.ro_replica.specs.Replica.{Replica}
use Rattle.ro_lease.specs.declared.Loan.{Loan}
use Rattle.ro_core.specs.Seen as voted_seen
use Rattle.ro_core.proofs.Returning.{lent_by, taken_of, lent-has, lent-goes}
use Rattle.ro_core.proofs.Returning.{loan-returns as loan-back}
use Rattle.ro_coop_core.specs.Seen as shared_seen
use Rattle.ro_coop_lease.specs.declared.Lent.{Lent}
use Rattle.ro_coop_lease.specs.declared.Back.{Back}
use Rattle.ro_coop_lease.specs.Loans as peers
use Rattle.ro_coop_lease.proofs.Lending.{can-go, may-return}
use Rattle.ro_lockpage.specs.Pages.{PassOf}
use Rattle.ro_cores.specs.History.{Turned, Owned, NoneBy, journal_of}
use Rattle.ro_cores.specs.Cores.{plain_core}
use Rattle.ro_cores.specs.Loans.{LentOf, BackOf, ShareOf, SharedOf, lease_in, lease_of, entry_of, Returns, plain_run, IsLent, CanGo, Gives, MayReturn, IsShare}
use Rattle.ro_cores.proofs.Along.{out_along, kernel_along, peer_along, ranks_along}

-- ---- a lease's run

pub loan-goes : (job : Job) (before : List Entry) (lent : LentOf) → IsLent job before lent → CanGo lent
loan-goes job before (inl lent) is = lent-goes (plain_core job before) lent is.1 is.2
loan-goes job before (inr lent) is = can-go (plain_run job before) lent is.2 is.1

pub loan-lease : (lent : LentOf) (old : ShareOf) (back : BackOf) (new : ShareOf) → Gives lent old back new → lease_of back ≡ lease_in lent
loan-lease (inl lent) old (inl back) new gives = gives.0.lease
loan-lease (inl lent) old (inr back) new gives = absurd gives
loan-lease (inr lent) None back new gives = absurd gives
loan-lease (inr lent) (Some old) (inl back) new gives = absurd gives
loan-lease (inr lent) (Some old) (inr back) None gives = absurd gives
loan-lease (inr lent) (Some old) (inr back) (Some new) gives = gives.lease

pub loan-share : (shared : SharedOf) (number : ℕ) (lent : LentOf) (old : ShareOf) (back : BackOf) (new : ShareOf) → IsShare shared number old → Gives lent old back new → IsShare shared number new
loan-share shared number (inl lent) old (inl back) new is gives = subst (IsShare shared number) (sym gives.1) is
loan-share shared number (inl lent) old (inr back) new is gives = absurd gives
loan-share shared number (inr lent) None back new is gives = absurd gives
loan-share shared number (inr lent) (Some old) (inl back) new is gives = absurd gives
loan-share shared number (inr lent) (Some old) (inr back) None is gives = absurd gives
loan-share None number (inr lent) (Some old) (inr back) (Some new) is gives = absurd is
loan-share (Some page) number (inr lent) (Some old) (inr back) (Some new) is gives = (gives.page ∙ is.0, gives.number ∙ is.1)

-- ---- its return

-- the core while a replica is lent
abbrev pub lending : Core → Lease → Core
lending core lease = core_after_take core lease

module _ (job : Job) (before : List Entry) (lease : Lease) (rest : List Turned) (own : Owned rest) (none : NoneBy lease.driver rest) where
  -- the journal with its take, and with what others did since
  abbrev taken : List Entry
  taken = before ++ Take lease ∷ []

  abbrev whole : List Entry
  whole = taken ++ journal_of rest

  -- a lease that was just taken is the driver's
  first-held : (leases : List Lease) → find (λ (l : Lease). l.driver == lease.driver) (lease ∷ leases) ≡ Some lease
  first-held leases = ap (λ (b : Bool). cond b (Some lease) (find (λ (l : Lease). l.driver == lease.driver) leases)) (eq-eqb lease.driver lease.driver refl)

  -- by votes
  module _ (legal : votes.Legal job whole) where
    voted-parts : votes.Legal job taken × MayTake job (votes.replay job before) lease
    voted-parts =
        let front = (voted_journals.LegalFrom-parts job (voted_core.opening_core job) taken (journal_of rest) legal).0 in
        (front, (voted_journals.LegalFrom-parts job (voted_core.opening_core job) before (Take lease ∷ []) front).1.0)

    -- the lease is out, with what is lent
    module _ (loan : Loan) (is : voted_seen.IsLent (plain_core job before) lease.replica lease.thread loan) where
      abbrev lent : Lending
      lent = lent_by (plain_core job before) lease.replica lease.thread loan is

      abbrev replica : Replica
      replica = taken_of (plain_core job before) lease.replica lease.thread loan is

      at-once : HasLease (votes.replay job taken) lease.driver lease lent replica
      at-once = lent-has job before lease loan is voted-parts.1

      pub voted-out : HasLease (votes.replay job whole) lease.driver lease lent replica
      voted-out = out_along job lease.driver lease lent replica taken rest legal own none at-once

      -- and the kernel is as it was
      pub voted-kernel : (votes.replay job whole).kernel ≡ (votes.replay job before).kernel
      unfolding votes.after
      voted-kernel =
          kernel_along job lease.driver lease lent replica taken rest legal own none at-once
          ∙ ap (λ (c : Core). c.kernel) (voted_journals.replay_more job before (Take lease))

  -- in a cooperative run
  module _ (unstruck : job.faults ≡ []) (legal : together.Legal job whole) where
    abbrev shared-start : Core
    shared-start = together.replay job before

    shared-parts : together.Legal job taken × MayTake job shared-start lease
    shared-parts =
        let front = (together_journals.LegalFrom-parts job (together.opening_core job) taken (journal_of rest) legal).0 in
        (front, (together_journals.LegalFrom-parts job (together.opening_core job) before (Take lease ∷ []) front).1.0)

    shared-taken : together.replay job taken ≡ lending shared-start lease
    unfolding together.after
    shared-taken = together_journals.replay_more job before (Take lease)

    -- the lease is out, with the peer that is lent
    peer-out : (peer : Peer) → together.peer_in shared-start lease.replica ≡ Some peer → HasPeer (together.replay job whole) lease.driver lease shared-start.kernel peer
    peer-out peer there =
        peer_along job lease.driver lease shared-start.kernel peer taken rest unstruck legal own none
        (subst (λ (c : Core). HasPeer c lease.driver lease shared-start.kernel peer) (sym shared-taken) (record {
          held = first-held shared-start.leases;
          there = there;
          kernel_is = refl;
          not_ended = (going-parts shared-start shared-parts.1.going).1;
        }))

    no-further : NoFurtherAhead shared-start.sides (together.replay job whole).sides
    no-further =
        let along = ranks_along job taken rest legal in
        subst (λ (c : Core). NoFurtherAhead c.sides (together.replay job whole).sides) shared-taken along

    pub shared-later : (lent : Lent) → lent.lease ≡ lease → (back : Back) (old new : PassOf) → lent.quantum ≡ job.settings.quantum → shared_seen.IsLent (plain_run job before) lent.lease.replica lent.lease.thread lent.partner → peers.Gives lent old back new
        → (m : shared_seen.MayReturn (plain_run job whole) lease.driver back.partner back.took.count back.took.came) × (m.lease ≡ lease)
    shared-later lent its back old new quantum is gives =
        subst (λ (l : Lease). (m : shared_seen.MayReturn (plain_run job whole) l.driver back.partner back.took.count back.took.came) × (m.lease ≡ l)) its
        (may-return (plain_run job before) lent is back old new gives quantum (plain_run job whole) refl
        (subst (λ (l : Lease). HasPeer (together.replay job whole) l.driver l shared-start.kernel (peer_of lent.partner.peer)) (sym its)
        (peer-out (peer_of lent.partner.peer) (ap (λ (l : Lease). together.peer_in shared-start l.replica) (sym its) ∙ is.peer)))
        no-further)

-- in either mode
pub loan-returns : (job : Job) (before : List Entry) (rest : List Turned) (lent : LentOf) (old : ShareOf) (back : BackOf) (new : ShareOf) → CanRun job → IsFit job → Legal job ((before ++ Take (lease_in lent) ∷ []) ++ journal_of rest) → Owned rest → NoneBy (lease_in lent).driver rest → IsLent job before lent → Gives lent old back new
    → MayReturn job ((before ++ Take (lease_in lent) ∷ []) ++ journal_of rest) back
loan-returns job before rest (inl lent) old (inl back) new can fit legal own none is gives =
    let voted = subst (λ (m : Mode). modes.Legal m job ((before ++ Take lent.lease ∷ []) ++ journal_of rest)) is.0 legal in (
      is.0,
      loan-back job before ((before ++ Take lent.lease ∷ []) ++ journal_of rest) lent back is.2 is.1
          (voted-kernel job before lent.lease rest own none voted lent.loan is.2) (voted-out job before lent.lease rest own none voted lent.loan is.2) gives.0,
    )
loan-returns job before rest (inl lent) old (inr back) new can fit legal own none is gives = absurd gives
loan-returns job before rest (inr lent) None back new can fit legal own none is gives = absurd gives
loan-returns job before rest (inr lent) (Some old) (inl back) new can fit legal own none is gives = absurd gives
loan-returns job before rest (inr lent) (Some old) (inr back) None can fit legal own none is gives = absurd gives
loan-returns job before rest (inr lent) (Some old) (inr back) (Some new) can fit legal own none is gives =
    let shared = subst (λ (m : Mode). modes.Legal m job ((before ++ Take lent.lease ∷ []) ++ journal_of rest)) is.0 legal in
    let suits = subst (λ (m : Mode). modes.Suits m job) is.0 fit in
    let later = shared-later job before lent.lease rest own none suits.0 shared lent refl back old new is.1 is.2 gives in
    let own-lease = subst (λ (l : Lease). (m : shared_seen.MayReturn (plain_run job ((before ++ Take lent.lease ∷ []) ++ journal_of rest)) l.driver back.partner back.took.count back.took.came) × (m.lease ≡ l)) (sym gives.lease) later in
    (is.0, own-lease.0, own-lease.1)

-- ---- its entry

-- it is allowed
pub loan-allowed : (job : Job) (journal : List Entry) (back : BackOf) → MayReturn job journal back → IsAllowed job (replay job journal) (entry_of (replay job journal) back)
loan-allowed job journal (inl back) may =
    subst (λ (m : Mode). modes.IsAllowed m job (modes.replay m job journal) (entry_of (modes.replay m job journal) (inl back))) (sym may.0) may.1.allowed
loan-allowed job journal (inr back) may =
    subst (λ (m : Mode). modes.IsAllowed m job (modes.replay m job journal) (entry_of (modes.replay m job journal) (inr back))) (sym may.0)
    (subst (λ (l : Lease). together.IsAllowed job (together.replay job journal) (shared_seen.return_of l back.took.count back.took.came)) may.2 may.1.allowed)

-- it brings the lease back
came-back : (lease : Lease) (count : ℕ) (came : Came) → Returns lease (shared_seen.return_of lease count came)
came-back lease count Quantum = (count, 0, inl refl)
came-back lease count (Stopped stop) = (count, 0, inl refl)
came-back lease count came = (count, 0, inr refl)

or-part : (lease : Lease) (count hit : ℕ) (wants : Bool) → Returns lease (cond wants (Part lease count hit) (Put lease count hit))
or-part lease count hit true = (count, hit, inr refl)
or-part lease count hit false = (count, hit, inl refl)

pub loan-entry : (core : Core) (back : BackOf) → Returns (lease_of back) (entry_of core back)
loan-entry core (inl back) = or-part back.lease back.took.count back.took.hit (is_some (voted_seen.wanted_of core back.lease.replica back.loan))
loan-entry core (inr back) = came-back back.lease back.took.count back.took.came

-- so it does what such entries do
module _ (P : Entry → Type 0) (lease : Lease) (put : (count hit : ℕ) → P (Put lease count hit)) (part : (count hit : ℕ) → P (Part lease count hit)) where
  pub by-return : (entry : Entry) → Returns lease entry → P entry
  by-return entry (count, hit, is) = by is
    where
      by : (entry ≡ Put lease count hit) ⊎ (entry ≡ Part lease count hit) → P entry
      by (inl e) = subst P (sym e) (put count hit)
      by (inr e) = subst P (sym e) (part count hit)

pub loan-idle : (job : Job) (journal : List Entry) (core : Core) (back : BackOf) → Legal job (journal ++ entry_of core back ∷ []) → is_idle (replay job (journal ++ entry_of core back ∷ [])) (lease_of back).driver ≡ true
loan-idle job journal core back =
    by-return (λ (entry : Entry). Legal job (journal ++ entry ∷ []) → is_idle (replay job (journal ++ entry ∷ [])) (lease_of back).driver ≡ true) (lease_of back)
    (put-idle job journal (lease_of back)) (part-idle job journal (lease_of back)) (entry_of core back) (loan-entry core back)

pub loan-next : (job : Job) (core : Core) (back : BackOf) → IsNext job core (entry_of core back)
loan-next job core back = by-return (IsNext job core) (lease_of back) (put-next job core (lease_of back)) (part-next job core (lease_of back)) (entry_of core back) (loan-entry core back)

pub loan-open : (core : Core) (back : BackOf) → outcome_of (entry_of core back ∷ []) ≡ None
loan-open core back = by-return (λ (entry : Entry). outcome_of (entry ∷ []) ≡ None) (lease_of back) (λ count hit. refl) (λ count hit. refl) (entry_of core back) (loan-entry core back)
