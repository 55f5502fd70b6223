-- What a driver got by the lease that it brings back, its share knows behind it.
use Rattle.std.specs.Prelude.{◌≡◌, ℕ, ◌==◌, Bool, if◌then◌else◌, List, [], ◌∷◌, ◌++◌, Option, Some, is_none}
use Rattle.std.specs.Option.{option_map_or}
use Rattle.std.specs.List.{find}
use Rattle.std.proofs.Common.{refl, sym, ap, ◌∙◌, subst, eq-eqb}
use Rattle.std.proofs.lemmas.Bool.{and_parts}
use Rattle.ro_journal.specs.declared.Entry.{Entry}
use Rattle.ro_journal.specs.declared.Entry.TheVariants.{Take}
use Rattle.ro_journal.specs.declared.Lease.{Lease}
use Rattle.ro_kernel.specs.Kernel.{Kernel}
use Rattle.ro_plain.specs.Machine.{layout_in}
use Rattle.ro_plain.proofs.Ahead.{is-none-from}
use Rattle.ro_lockpage.specs.Pages.{PassOf}
use Rattle.ro_peer.specs.declared.mutexes.Mutex.{Mutex}
use Rattle.ro_peer.specs.declared.running.Came.{Came}
use Rattle.ro_peer.specs.declared.running.Came.TheVariants.{Quantum, Stopped, Owned as OwnedBy, Row, Full}
use Rattle.ro_peer.specs.Peers.{Peer}
use Rattle.ro_peer.specs.Gets.{Get, got_in}
use Rattle.ro_peer.specs.Seen.{peer_of}
use Rattle.ro_locking.specs.Got.{HasGot}
use Rattle.ro_locking.proofs.Adding.{gets_later}
use Rattle.ro_legal.specs.Core.{Job, Core}
use Rattle.ro_legal.specs.Legal.{MayTake}
use Rattle.ro_legal.specs.Kept.{addresses_of, HasPeer}
use Rattle.ro_legal.specs.Cooperative.{opening_core, peer_in, lease_gets, gets_of, after, Legal, replay}
use Rattle.ro_legal.proofs.TogetherJournals.{LegalFrom-parts, replay_more}
use Rattle.ro_legal.proofs.Mutexes.{mutexes-kept}
use Rattle.ro_coop_core.specs.Seen.{IsLent, return_of}
use Rattle.ro_coop_lease.specs.declared.Lent.{Lent}
use Rattle.ro_coop_lease.specs.declared.Back.{Back}
use Rattle.ro_coop_lease.specs.Loans.{Gives}
use Rattle.ro_coop_lease.proofs.Lending.{adds-up}
use Rattle.ro_cores.specs.History.{Turned, turned, journal_of, Owned, NoneBy}
use Rattle.ro_cores.specs.Loans.{plain_run, mutexes_in, gets_by, Knows}
use Rattle.ro_cores.proofs.Numbers.{same-numbers, numbers-both, same-as-first}
use Rattle.ro_cores.proofs.Getting.{journal-append, gets-own}
use Rattle.ro_cores.proofs.Along.{peer_along}
use Rattle.ro_cores.proofs.Shares.{numbers-stay, gets-are, others-come}

-- ---- a lease that is out

-- what is taken is out
taken : (job : Job) (core : Core) (lease : Lease) (peer : Peer) → MayTake job core lease → peer_in core lease.replica ≡ Some peer → HasPeer (after job core (Take lease)) lease.driver lease core.kernel peer
unfolding after
taken job core lease peer may there = record {
  held = ap (λ (b : Bool). if b then Some lease else find (λ (l : Lease). l.driver == lease.driver) core.leases) (eq-eqb lease.driver lease.driver refl);
  there = there;
  kernel_is = refl;
  not_ended = is-none-from core.ended (and_parts (is_none core.due) (is_none core.ended) may.going).1;
}

-- with the same kernel and peer a lease gets the same
same-gets : (job : Job) (one two : Core) (lease : Lease) (count : ℕ) → one.kernel ≡ two.kernel → peer_in one lease.replica ≡ peer_in two lease.replica → lease_gets job one lease count ≡ lease_gets job two lease count
same-gets job one two lease count kernels peers =
    ap (λ (k : Kernel). option_map_or (λ peer. got_in (layout_in job.program k) job.settings.watchdog count peer lease.thread) (peer_in one lease.replica) []) kernels
    ∙ ap (λ (o : Option Peer). option_map_or (λ peer. got_in (layout_in job.program two.kernel) job.settings.watchdog count peer lease.thread) o []) peers

-- what an entry says that its lease got
gets-of-return : (job : Job) (core : Core) (lease : Lease) (count : ℕ) (came : Came) → gets_of job core (return_of lease count came) ≡ lease_gets job core lease count
gets-of-return job core lease count Quantum = refl
gets-of-return job core lease count (Stopped stop) = refl
gets-of-return job core lease count (OwnedBy number) = refl
gets-of-return job core lease count (Row number) = refl
gets-of-return job core lease count (Full number) = refl

-- ---- its return

module _ (job : Job) (number : ℕ) (seen rest : List Turned) (before : List Entry) (lent : Lent) (back : Back) (old new : PassOf) (unstruck : job.faults ≡ []) (seen_is : journal_of seen ≡ before ++ Take lent.lease ∷ []) (driver : lent.lease.driver ≡ number) (owned : Owned rest) (none : NoneBy number rest) where
  abbrev turn : Turned
  turn = turned number (return_of back.lease back.took.count back.took.came)

  -- the core to which it comes back
  abbrev now : Core
  now = replay job (journal_of (seen ++ rest))

  now-is : journal_of (seen ++ rest) ≡ (before ++ Take lent.lease ∷ []) ++ journal_of rest
  now-is = journal-append seen rest ∙ ap (λ (journal : List Entry). journal ++ journal_of rest) seen_is

  module _ (legal : Legal job (journal_of ((seen ++ rest) ++ turn ∷ []))) (is : IsLent (plain_run job before) lent.lease.replica lent.lease.thread lent.partner) (gives : Gives lent old back new) where
    abbrev peer : Peer
    peer = peer_of lent.partner.peer

    legal-now : Legal job (journal_of (seen ++ rest))
    legal-now = (LegalFrom-parts job (opening_core job) (journal_of (seen ++ rest)) (journal_of (turn ∷ [])) (subst (Legal job) (journal-append (seen ++ rest) (turn ∷ [])) legal)).0

    still : HasPeer now lent.lease.driver lent.lease (replay job before).kernel peer
    still =
        let all : Legal job ((before ++ Take lent.lease ∷ []) ++ journal_of rest) = subst (Legal job) now-is legal-now in
        let front = LegalFrom-parts job (opening_core job) (before ++ Take lent.lease ∷ []) (journal_of rest) all in
        let take = LegalFrom-parts job (opening_core job) before (Take lent.lease ∷ []) front.0 in
        subst (λ (journal : List Entry). HasPeer (replay job journal) lent.lease.driver lent.lease (replay job before).kernel peer) (sym now-is)
        (peer_along job lent.lease.driver lent.lease (replay job before).kernel peer (before ++ Take lent.lease ∷ []) rest unstruck all owned (subst (λ (n : ℕ). NoneBy n rest) (sym driver) none)
        (subst (λ (core : Core). HasPeer core lent.lease.driver lent.lease (replay job before).kernel peer) (sym (replay_more job before (Take lent.lease)))
        (taken job (replay job before) lent.lease peer take.1.0 is.peer)))

    same : addresses_of lent.partner.peer.mutexes ≡ addresses_of (mutexes_in job (journal_of (seen ++ rest)))
    same = same-as-first job now (mutexes-kept job (journal_of (seen ++ rest)) legal-now) lent.lease.replica peer still.there

    got-is : gets_of job now (return_of back.lease back.took.count back.took.came) ≡ lease_gets job (replay job before) lent.lease back.took.count
    got-is =
        gets-of-return job now back.lease back.took.count back.took.came
        ∙ (ap (λ (lease : Lease). lease_gets job now lease back.took.count) gives.lease
        ∙ same-gets job now (replay job before) lent.lease back.took.count still.kernel_is (still.there ∙ sym is.peer))

    all-gets : gets_by job number ((seen ++ rest) ++ turn ∷ []) ≡ gets_by job number (seen ++ rest) ++ lease_gets job (replay job before) lent.lease back.took.count
    all-gets =
        gets-are job number (seen ++ rest) (turn ∷ [])
        ∙ ap (λ (gets : List Get). gets_by job number (seen ++ rest) ++ gets) (gets-own job now number turn.entry ∙ got-is)

    pub comes-back : Knows job number seen (Some old) → Knows job number ((seen ++ rest) ++ turn ∷ []) (Some new)
    comes-back knows =
        let mutexes : List Mutex = mutexes_in job (journal_of (seen ++ rest)) in
        let behind : List Mutex = mutexes_in job (journal_of ((seen ++ rest) ++ turn ∷ [])) in
        let its : List Mutex = lent.partner.peer.mutexes in
        subst (HasGot behind new) (sym all-gets)
        (gets_later its behind new _ (numbers-both its mutexes behind (same-numbers its mutexes same) (numbers-stay job number (seen ++ rest) (turn ∷ [])))
        (adds-up (plain_run job before) lent is back old new gives (gets_by job number (seen ++ rest))
        (gets_later mutexes its old (gets_by job number (seen ++ rest)) (same-numbers mutexes its (sym same)) (others-come job number seen rest none (Some old) knows))))
