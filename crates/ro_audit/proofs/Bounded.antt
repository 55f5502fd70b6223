-- What was lent, at the entry by which it comes back: its run, as one of the job's.
use Rattle.std.specs.Prelude.{◌≡◌, ◌<◌, ◌≤◌, ◌^◌, ℕ, true, not, min, nat_lt, IsTrue, List, [], ◌∷◌, length, Some, slice_get, slice_index_or}
use Rattle.std.specs.List.{list_all}
use Rattle.std.proofs.Common.{refl, sym, ap, ◌∙◌, subst, arith}
use Rattle.std.proofs.lemmas.Bool.{and_from, lt-ltb}
use Rattle.ro_exec.specs.Next.{Layout}
use Rattle.ro_journal.specs.declared.Entry.{Entry}
use Rattle.ro_plain.specs.Machine.{layout_in}
use Rattle.ro_replica.specs.Seen.{ReplicaOf, CanCount, replica_of}
use Rattle.ro_replica.specs.Views.{is_unstopped}
use Rattle.ro_orders.specs.Copies.{Rows}
use Rattle.ro_peer.specs.declared.mutexes.Mutex.{Mutex}
use Rattle.ro_peer.specs.declared.peers.Peer.{Peer as PeerOf}
use Rattle.ro_peer.specs.declared.running.Came.{Came}
use Rattle.ro_peer.specs.declared.running.Came.TheVariants.{Quantum, Stopped, Owned, Row, Full}
use Rattle.ro_peer.specs.Peers.{Peer}
use Rattle.ro_peer.specs.Gets.{Get, got_in}
use Rattle.ro_peer.specs.Seen.{peer_of}
use Rattle.ro_peer.specs.Leases.{CameBy, PeerRuns}
use Rattle.ro_peer.specs.Leases.{stopped as came_back}
use Rattle.ro_locking.specs.Asking.{below}
use Rattle.ro_locking.specs.Got.{IsBelow, AreBelow}
use Rattle.ro_locking.proofs.Below.{are_below}
use Rattle.ro_legal.specs.Sides.{is_ahead}
use Rattle.ro_legal.specs.Core.{Job, Core, is_out}
use Rattle.ro_legal.specs.Lent.{IsOfJob}
use Rattle.ro_legal.specs.Cooperative.{lease_gets, replay}
use Rattle.ro_legal.proofs.Leases.{out_found}
use Rattle.ro_coop_core.specs.declared.seats.Partner.{Partner}
use Rattle.ro_coop_lease.specs.declared.Lent.{Lent}
use Rattle.ro_coop_lease.proofs.Ceilings.{numbered}
use Rattle.ro_coop_lease.proofs.Returns.{Returned, returned, gets-are}
use Rattle.ro_audit.specs.declared.ranks.Rank.{Rank}
use Rattle.ro_audit.specs.declared.returning.Told.{Told}
use Rattle.ro_audit.specs.Following.{LendsPeer}
use Rattle.ro_audit.specs.Returning.{RunsFor}

-- a loan whose ceilings are the first ranks that are too far ahead by now
pub record IsBounded (job : Job) (core : Core) (lent : Lent) : Type 0 where
  pub lends : LendsPeer job core lent
  pub limits : (number rank : ℕ) (mutex : Mutex) → slice_get lent.partner.peer.mutexes number ≡ Some mutex → rank < 2 ^ 32
      → nat_lt rank (slice_index_or lent.partner.ceilings.items number 0) ≡ not (is_ahead core.sides mutex.address rank)

-- a run of a loan for as long as its entry tells, and for its quantum at the most
pub record IsRun (job : Job) (journal : List Entry) (lent new : Lent) (told : Told) (before after : List (Rank × ℕ)) (most count : ℕ) (came : Came) : Type 0 where
  pub loan : IsBounded job (replay job journal) lent
  pub runs : RunsFor most lent new before after count came
  pub most_is : most ≡ min told.count job.settings.quantum

-- the ceilings that are set leave the rest of a loan
pub bounded : (job : Job) (core : Core) (lent : Lent) (partner : Partner) → LendsPeer job core lent → partner.peer ≡ lent.partner.peer → length partner.ceilings.items ≡ length lent.partner.ceilings.items
    → ((number rank : ℕ) (mutex : Mutex) → slice_get lent.partner.peer.mutexes number ≡ Some mutex → rank < 2 ^ 32 → nat_lt rank (slice_index_or partner.ceilings.items number 0) ≡ not (is_ahead core.sides mutex.address rank))
    → IsBounded job core (record { lease = lent.lease; quantum = lent.quantum; partner = partner })
bounded job core lent partner lends same as_many limits = record {
  lends = record {
    quantum_is = lends.quantum_is;
    program = subst (λ (p : PeerOf). IsOfJob job core.kernel p.replica) (sym same) lends.program;
    held = lends.held;
    there = lends.there ∙ ap (λ (p : PeerOf). Some (peer_of p)) (sym same);
    going = subst (λ (p : PeerOf). IsTrue (is_unstopped lent.lease.thread (replica_of p.replica))) (sym same) lends.going;
    countable = subst (λ (p : PeerOf). CanCount job.settings.quantum p.replica lent.lease.thread) (sym same) lends.countable;
    faultless = ap (λ (p : PeerOf). p.replica.waiting) same ∙ lends.faultless;
    ceilings = as_many ∙ (lends.ceilings ∙ ap (λ (p : PeerOf). length p.mutexes) (sym same));
    not_ended = lends.not_ended;
  };
  limits = λ number rank mutex there. limits number rank mutex (ap (λ (p : PeerOf). slice_get p.mutexes number) (sym same) ∙ there);
}

-- a run of a replica of the job is one by the job's program
pub as-job : (job : Job) (core : Core) (replica : ReplicaOf) (most thread : ℕ) (rows : Rows) (old new : Peer) (count : ℕ) (came : Came) → IsOfJob job core.kernel replica
    → PeerRuns replica.layout replica.watchdog most thread rows old new count came → PeerRuns (layout_in job.program core.kernel) job.settings.watchdog most thread rows old new count came
as-job job core replica most thread rows old new count came is runs =
    subst (λ (l : Layout). PeerRuns l job.settings.watchdog most thread rows old new count came) is.layout (subst (λ (w : ℕ). PeerRuns replica.layout w most thread rows old new count came) is.watchdog runs)

module _ (job : Job) (core : Core) (lent : Lent) (is : IsBounded job core lent) where
  abbrev peer : Peer
  peer = peer_of lent.partner.peer

  abbrev limits : List ℕ
  limits = lent.partner.ceilings.items

  -- its lease is out
  pub is-out : is_out core lent.lease ≡ true
  is-out = out_found lent.lease.driver lent.lease core.leases is.lends.held

  -- what is got below the ceilings is not too far ahead
  not-ahead : (get : Get) → IsBelow lent.partner.peer.mutexes limits get → not (is_ahead core.sides get.mutex get.rank) ≡ true
  not-ahead get (number, at, less) =
      let its = numbered lent.partner.peer.mutexes get.mutex number at in
      ap (λ (address : ℕ). not (is_ahead core.sides address get.rank)) (sym its.address_is)
      ∙ (sym (is.limits number get.rank its.mutex its.there (omega arith))
      ∙ lt-ltb get.rank (slice_index_or limits number 0) (omega arith))

  none-ahead : (gets : List Get) → AreBelow lent.partner.peer.mutexes limits gets → list_all (λ get. not (is_ahead core.sides get.mutex get.rank)) gets ≡ true
  none-ahead [] below = refl
  none-ahead (get ∷ gets) (first, rest) = and_from _ _ (not-ahead get first) (none-ahead gets rest)

  module _ (most : ℕ) (rows : Rows) (new : Peer) (count : ℕ) (came : Came) (ran : PeerRuns (layout_in job.program core.kernel) job.settings.watchdog most lent.lease.thread (below limits rows) peer new count came) where
    -- nothing that the run got is too far ahead
    pub within : list_all (λ get. not (is_ahead core.sides get.mutex get.rank)) (lease_gets job core lent.lease count) ≡ true
    within =
        subst (λ (gets : List Get). list_all (λ get. not (is_ahead core.sides get.mutex get.rank)) gets ≡ true) (sym (gets-are job core lent.lease peer count is.lends.there))
        (none-ahead (got_in (layout_in job.program core.kernel) job.settings.watchdog count peer lent.lease.thread) (are_below lent.partner.peer.mutexes limits rows _ ran.gets))

    -- the run may come back as it stands by then
    pub may-come : (last : Came) → CameBy (layout_in job.program core.kernel) job.settings.watchdog job.settings.quantum lent.lease.thread count ran.end last → Returned job core lent.lease (came_back lent.lease.thread last ran.end) count last
    may-come last by = returned job core lent.lease peer ran.end count is.lends.there ran.runs is.lends.going is-out is.lends.not_ended within last by

-- a run for fewer instructions comes back as one for a quantum does, where it does not go on
pub came-early : (layout : Layout) (watchdog quantum told most thread count : ℕ) (end : Peer) (came : Came) → most ≡ min told quantum → count < told → CameBy layout watchdog most thread count end came → CameBy layout watchdog quantum thread count end came
came-early layout watchdog quantum told most thread count end Quantum is less all = omega arith
came-early layout watchdog quantum told most thread count end (Stopped stop) is less at = let early = at.0 in (omega arith, at.1, at.2)
came-early layout watchdog quantum told most thread count end (Owned number) is less at = let early = at.0 in (omega arith, at.1)
came-early layout watchdog quantum told most thread count end (Row number) is less at = let early = at.0 in (omega arith, at.1)
came-early layout watchdog quantum told most thread count end (Full number) is less at = let early = at.0 in (omega arith, at.1)

-- one that is as long as told has gone on for all that it was to
pub came-whole : (layout : Layout) (watchdog quantum told most thread count : ℕ) (end : Peer) (came : Came) → most ≡ min told quantum → told ≤ count → CameBy layout watchdog most thread count end came → (came ≡ Quantum) × (count ≡ told) × (told ≤ quantum)
came-whole layout watchdog quantum told most thread count end Quantum is all at = (refl, omega arith, omega arith)
came-whole layout watchdog quantum told most thread count end (Stopped stop) is all at = let early = at.0 in absurd (omega arith)
came-whole layout watchdog quantum told most thread count end (Owned number) is all at = let early = at.0 in absurd (omega arith)
came-whole layout watchdog quantum told most thread count end (Row number) is all at = let early = at.0 in absurd (omega arith)
came-whole layout watchdog quantum told most thread count end (Full number) is all at = let early = at.0 in absurd (omega arith)
