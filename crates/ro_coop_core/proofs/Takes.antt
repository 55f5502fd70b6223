-- A take, in the fields of a core.
use Rattle.std.proofs.Common.{◌≡◌, ℕ, zero, suc, ◌+◌, ◌^◌, ◌<◌, ◌≤◌, Bool, true, false, not, ◌||◌, cond, List, [], ◌∷◌, ◌++◌, length, get_or, Option, Some, None, refl, sym, ap, ◌∙◌, subst, arith, lt-ltb}
use Rattle.std.specs.Prelude.{◌==◌, IfSome, IsSome, slice_get, slice_set, slice_index_or}
use Rattle.std.specs.Option.{option_and_then, option_map, option_map_or}
use Rattle.std.proofs.lemmas.Bool.{and_parts, ne_eqb}
use Rattle.std.proofs.lemmas.List.{length-set}
use Rattle.std.proofs.lemmas.Option.{slice_get_within, slice_get-get_or}
use Rattle.ro_event.specs.declared.calls.Call.{Call}
use Rattle.ro_journal.specs.declared.How.{How}
use Rattle.ro_journal.specs.declared.Entry.{Entry}
use Rattle.ro_journal.specs.declared.Entry.TheVariants.{Take}
use Rattle.ro_journal.specs.declared.Lease.{Lease}
use Rattle.ro_kernel.specs.State.{State}
use Rattle.ro_thread.specs.declared.Thread.{Thread}
use Rattle.ro_plain.proofs.Calls.{some-injective}
use Rattle.ro_replica.specs.Replica.{Replica}
use Rattle.ro_replica.specs.Views.{is_unstopped}
use Rattle.ro_replica.specs.Seen.{replica_of, CanCount}
use Rattle.ro_peer.specs.declared.mutexes.Mutex.{Mutex}
use Rattle.ro_peer.specs.declared.peers.Peer.{Peer as PeerOf}
use Rattle.ro_peer.specs.Peers.{Peer}
use Rattle.ro_peer.specs.Seen.{peer_of}
use Rattle.ro_legal.specs.Sides.{Side, peer_with, rank_in}
use Rattle.ro_legal.specs.Core.{Job, Core}
use Rattle.ro_legal.specs.Legal.{MayTake}
use Rattle.ro_legal.specs.Cooperative.{after, done_in, peer_in, replay}
use Rattle.ro_legal.specs.Kept.{KeepsReplicas, IsCounted, addresses_of}
use Rattle.ro_legal.proofs.Journals.{outcome_of-append}
use Rattle.ro_legal.proofs.Leases.{AtHome, lendable_there, lendable-awake, has_replica}
use Rattle.ro_legal.proofs.Lists.{get-set-same}
use Rattle.ro_legal.proofs.TogetherCounts.{most-bounds}
use Rattle.ro_legal.proofs.TogetherLeases.{lends-whole}
use Rattle.ro_coop_core.specs.declared.seats.Partner.{Partner}
use Rattle.ro_coop_core.specs.declared.seats.Seat.{Seat}
use Rattle.ro_coop_core.specs.Seats.{Homed, IsSeated, AreSeated, IsPartner, AreNumbered, AreNear, KnowEach, KnowsParked}
use Rattle.ro_coop_core.specs.Seen.{AreCeilings, IsLent}
use Rattle.ro_coop_core.specs.Runs.{seen_of}
use Rattle.ro_coop_core.specs.Fields.{spare_of, one_end, Fields, core_in, blocked_at, Holds}
use Rattle.ro_legal.proofs.TogetherJournals.{replay_more}
use Rattle.ro_coop_core.proofs.Keeping.{keeps-replicas, keeps-mutexes}
use Rattle.ro_coop_core.proofs.Held.{Goes, goes, no-views, no-outcome, same-counts, same-waits, length-more, holds-step}
use Rattle.ro_coop_core.proofs.Homes.{seat-changes}
use Rattle.ro_coop_core.proofs.Numbered.{side-numbered, numbered-set, few-mutexes}
use Rattle.ro_coop_core.proofs.Distinct.{AreDistinct, its-rank, own-number, table-distinct, cooperative-distinct}

one-end-le : (o : Option How) → one_end o ≤ 1
one-end-le None = omega arith
one-end-le (Some how) = omega arith

-- room is in both places
pub spare_parts : (n places spare : ℕ) → n + 3 ≤ spare_of places spare → (n + 3 ≤ places) × (0 < spare)
spare_parts n places zero h = absurd (omega arith)
spare_parts n places (suc spare) h = (subst (λ (b : Bool). n + 3 ≤ cond b places 0) (lt-ltb 0 (suc spare) (omega arith)) h, omega arith)

-- what was read from the seats
pub read-seat : (seats : List Seat) (place : ℕ) (seat : Seat) → place < length seats → seat ≡ get_or seats place seat → slice_get seats place ≡ Some seat
read-seat seats place seat within e = slice_get-get_or seats place seat within ∙ ap (λ (x : Seat). Some x) (sym e)

-- what neither a take nor a return changes
pub record Rest (f f' : Fields) : Type 0 where
  pub job : f'.job ≡ f.job
  pub kernel : f'.kernel ≡ f.kernel
  pub cooperates : f'.cooperates ≡ f.cooperates
  pub blocked : f'.blocked ≡ f.blocked
  pub waits : f'.waits ≡ f.waits
  pub sent : f'.sent ≡ f.sent
  pub due : f'.due ≡ f.due
  pub ended : f'.ended ≡ f.ended
  pub views : f'.views ≡ f.views

-- a take writes nothing
pub take-output : (job : Job) (journal : List Entry) (lease : Lease) → (replay job (journal ++ Take lease ∷ [])).output ≡ (replay job journal).output
unfolding after
take-output job journal lease = ap (λ (c : Core). c.output) (replay_more job journal (Take lease))

module _ (f : Fields) (h : Holds f) (lease : Lease) (allowed : MayTake f.job (core_in f) lease) where
  pub take-goes : Goes f
  take-goes = goes f h allowed.going

  at-home : AtHome (core_in f) lease.replica
  at-home = lendable_there (core_in f) lease.replica lease.thread (lends-whole f.job f.journal).none allowed.lendable

  -- the partner in the seat
  pub record Leaves (partner : Partner) : Type 0 where
    pub replica : Replica
    pub side : Side
    pub here : slice_get (core_in f).replicas lease.replica ≡ Some replica
    pub beside : slice_get (core_in f).sides lease.replica ≡ Some side
    pub is : IsPartner f.job (core_in f).kernel replica side partner

  pub take-leaves : (seat : Seat) (partner : Partner) → slice_get f.seats lease.replica ≡ Some seat → seat.home ≡ Some partner → Leaves partner
  take-leaves seat partner there home = by (h.seats_are.each lease.replica seat there)
    where
      by : IsSeated f.job (core_in f) lease.replica seat → Leaves partner
      by s = record {
        replica = s.replica;
        side = s.side;
        here = s.replica_there;
        beside = s.side_there;
        is = subst (Homed f.job (core_in f) lease.replica s.replica s.side) home s.homed;
      }

  pub take-within : lease.replica < length f.seats
  take-within = let less = slice_get_within (core_in f).replicas lease.replica at-home.value at-home.there in let count = h.seats_are.count in omega arith

  -- it is in its seat
  pub take-here : (seat : Seat) → slice_get f.seats lease.replica ≡ Some seat → IsSome seat.home
  take-here seat there = h.seats_are.at_home lease.replica seat there ∙ at-home.home

  -- its seat is empty
  take-seated : (seat : Seat) → slice_get f.seats lease.replica ≡ Some seat → AreSeated f.job (after f.job (core_in f) (Take lease)) (slice_set f.seats lease.replica (record seat { home = None }))
  unfolding after
  take-seated seat there = seat-changes f.job (core_in f) (after f.job (core_in f) (Take lease)) f.seats lease.replica seat (record seat { home = None }) h.seats_are there refl refl
      (λ other d. (ap (λ (b : Bool). not (b || has_replica other (core_in f).leases)) (ne_eqb lease.replica other (λ e. d (sym e))), refl, refl))
      (record { replica = s.replica; side = s.side; replica_there = s.replica_there; side_there = s.side_there; knows = record { parked_count = s.knows.parked_count; parked = s.knows.parked; done_count = s.knows.done_count; done = s.knows.done; takers = s.knows.takers }; homed = away }) (sym away)
    where
      s : IsSeated f.job (core_in f) lease.replica seat
      s = h.seats_are.each lease.replica seat there

      away : not ((lease.replica == lease.replica) || has_replica lease.replica (core_in f).leases) ≡ false
      away = ap (λ (b : Bool). not (b || has_replica lease.replica (core_in f).leases)) (let e : (lease.replica == lease.replica) ≡ true = grind arith in e)

  -- the fields after the take
  pub take-holds : (f' : Fields) (seat : Seat) → slice_get f.seats lease.replica ≡ Some seat → Rest f f' → f'.most_done ≡ f.most_done → f'.steps ≡ f.steps → f'.wrote ≡ 0 → f'.journal ≡ f.journal ++ Take lease ∷ [] → f'.leases ≡ lease ∷ f.leases
      → f'.seats ≡ slice_set f.seats lease.replica (record seat { home = None }) → length f.leases + 3 ≤ f'.places + 1 → Holds f'
  unfolding after
  take-holds f' seat there r most steps wrote journal leases seats room = holds-step f f' (Take lease) h allowed (record {
    job = r.job;
    journal = journal;
    leases = leases ∙ ap (λ (ls : List Lease). lease ∷ ls) h.leases_are;
    setup = ap (λ (k : State). k.setup) r.kernel;
    kernel = ap (λ (k : State). k.kernel) r.kernel ∙ h.kernel_is;
    cooperates = r.cooperates;
    blocked_count = ap length r.blocked ∙ h.blocked_count;
    blocked = λ t. ap (λ (bs : List (Option Call)). blocked_at bs t) r.blocked ∙ h.blocked_are t;
    most_count = ap length most ∙ h.most_count;
    most = λ t. ap (λ (ns : List ℕ). slice_index_or ns t 0) most ∙ h.most_are t;
    steps = steps ∙ h.steps_are;
    waits = same-waits f f' h (after f.job (core_in f) (Take lease)) refl r.waits (ap length journal ∙ length-more f.journal (Take lease));
    counts = same-counts f f' h _ refl refl r.sent wrote (let e = steps in omega arith);
    due = r.due ∙ h.due_is;
    ended = r.ended ∙ h.ended_is;
    seats = subst (AreSeated f.job (after f.job (core_in f) (Take lease))) (sym seats) (take-seated seat there);
    views_count = λ unended. ap length r.views ∙ (h.views_count (sym r.ended ∙ unended) ∙ (sym (length-set f.seats lease.replica (record seat { home = None })) ∙ sym (ap length seats)));
    views_kept = no-views f.job _ f'.views (outcome_of-append f.journal (Take lease ∷ []) (no-outcome f h take-goes.not_ended));
    room = let one : one_end f'.ended ≤ 1 = one-end-le f'.ended in let n : length f'.leases ≡ suc (length f.leases) = ap length leases in omega arith;
  })

  -- ---- what leaves

  module _ (seat : Seat) (partner : Partner) (leaves : Leaves partner) (there : slice_get f.seats lease.replica ≡ Some seat) where
    replicas : KeepsReplicas f.job (core_in f)
    replicas = keeps-replicas f h

    same-replica : replica_of partner.peer.replica ≡ leaves.replica
    same-replica = ap (λ (p : Peer). p.replica) leaves.is.peer_is

    take-peer : peer_in (core_in f) lease.replica ≡ Some (peer_of partner.peer)
    take-peer =
        ap (option_and_then (λ replica. option_map (peer_with replica) (slice_get (core_in f).sides lease.replica))) leaves.here
        ∙ (ap (option_map (peer_with leaves.replica)) leaves.beside ∙ ap (λ (p : Peer). Some p) (sym leaves.is.peer_is))

    take-going : is_unstopped lease.thread (replica_of partner.peer.replica) ≡ true
    take-going =
        ap (is_unstopped lease.thread) same-replica
        ∙ (ap (λ (o : Option Replica). option_map_or (is_unstopped lease.thread) o false) (sym leaves.here) ∙ (and_parts _ _ (lendable-awake (core_in f) lease.replica lease.thread allowed.lendable)).1)

    take-countable : CanCount f.job.settings.quantum partner.peer.replica lease.thread
    take-countable = by (slice_get partner.peer.replica.threads lease.thread) refl
      where
        by : (o : Option Thread) → slice_get partner.peer.replica.threads lease.thread ≡ o → IfSome o (λ t. t.done + f.job.settings.quantum < 2 ^ 128)
        by None e = tt
        by (Some t) e =
            let done : done_in leaves.replica lease.thread ≡ t.done = ap (λ (o : Option Thread). option_map_or (λ x. x.done) o 0) (ap (λ (r : Replica). slice_get r.threads lease.thread) (sym same-replica) ∙ e) in
            let bound = most-bounds (core_in f).replicas lease.replica leaves.replica lease.thread leaves.here in
            let within = replicas.done_within lease.thread in
            let steps = replicas.steps_within in
            let limit : f.job.settings.limit ≤ 1000000000000 = h.calm.in_range.limit.1 in
            let watchdog : f.job.settings.watchdog ≤ 1000000 = h.calm.in_range.watchdog.1 in
            let quantum : f.job.settings.quantum ≤ 65536 = h.calm.in_range.quantum.1 in
            omega arith

    take-faultless : partner.peer.replica.waiting ≡ []
    take-faultless = ap (λ (r : Replica). r.waiting) same-replica ∙ (replicas.unstruck lease.replica leaves.replica leaves.here).no_faults

    same-mutexes : partner.peer.mutexes ≡ leaves.side.mutexes
    same-mutexes = ap (λ (p : Peer). p.mutexes) leaves.is.peer_is

    -- a mutex of it is known by its number in every seat
    mutex-numbered : (number : ℕ) (mutex : Mutex) → slice_get partner.peer.mutexes number ≡ Some mutex → AreNumbered number mutex.address (core_in f).sides f.seats
    mutex-numbered number mutex e =
        side-numbered f.job (core_in f) f.seats h.seats_are replicas (keeps-mutexes f h) lease.replica leaves.replica leaves.side number mutex leaves.here leaves.beside
        (ap (λ (ms : List Mutex). slice_get ms number) (sym same-mutexes) ∙ e)

    -- behind its leaving each seat knows as much
    left-numbered : (number : ℕ) (mutex : Mutex) → slice_get partner.peer.mutexes number ≡ Some mutex → AreNumbered number mutex.address (core_in f).sides (slice_set f.seats lease.replica (record seat { home = None }))
    left-numbered number mutex e = numbered-set number mutex.address (core_in f).sides f.seats lease.replica seat (record seat { home = None }) there refl (mutex-numbered number mutex e)

    distinct-mutexes : AreDistinct (addresses_of partner.peer.mutexes)
    distinct-mutexes =
        let counted : IsCounted f.job (core_in f) leaves.replica leaves.side = (keeps-mutexes f h).counted lease.replica leaves.replica leaves.side leaves.here leaves.beside in
        subst AreDistinct (sym (ap addresses_of same-mutexes ∙ counted.answers_for)) (cooperative-distinct f.job.program (core_in f).kernel.owners (table-distinct f.job f.journal h.legal))

    -- none of its ranks is forgotten in another replica
    take-near : (number : ℕ) (mutex : Mutex) → slice_get partner.peer.mutexes number ≡ Some mutex → AreNear mutex.address mutex.rank (core_in f).sides
    take-near number mutex e place side is =
        let apart = (keeps-mutexes f h).apart place lease.replica side leaves.side is leaves.beside mutex.address in
        let rank : rank_in partner.peer.mutexes mutex.address ≡ mutex.rank = its-rank partner.peer.mutexes number mutex distinct-mutexes e in
        let same : rank_in leaves.side.mutexes mutex.address ≡ rank_in partner.peer.mutexes mutex.address = ap (λ (ms : List Mutex). rank_in ms mutex.address) (sym same-mutexes) in
        omega arith

    abbrev left : List Seat
    left = slice_set f.seats lease.replica (record seat { home = None })

    pub take-known : KnowEach (core_in f).sides left partner.peer.mutexes
    take-known = record {
      numbered = λ number mutex e. own-number partner.peer.mutexes number mutex distinct-mutexes e;
      known = left-numbered;
      near = take-near;
    }

    pub take-few : length partner.peer.mutexes < 2 ^ 32
    take-few = let few = few-mutexes f.job (core_in f) f.seats h.seats_are replicas (keeps-mutexes f h) lease.replica leaves.replica leaves.side leaves.here leaves.beside in let same : length partner.peer.mutexes ≡ length leaves.side.mutexes = ap length same-mutexes in omega arith

    pub take-count : length partner.ceilings.items ≡ length partner.peer.mutexes
    take-count = leaves.is.ceilings ∙ sym (ap length same-mutexes)

    pub take-left : lease.replica < length left
    take-left = let same = length-set f.seats lease.replica (record seat { home = None }) in let within = take-within in omega arith

    take-parked : KnowsParked (record seat { home = None }) leaves.side
    take-parked =
        let s : IsSeated f.job (core_in f) lease.replica seat = h.seats_are.each lease.replica seat there in
        subst (KnowsParked seat) (some-injective (sym s.side_there ∙ leaves.beside)) s.knows.parked

    -- the partner as it is lent, with its ceilings
    pub take-lent : (lent : Partner) → lent.peer ≡ partner.peer → length lent.ceilings.items ≡ length partner.ceilings.items
        → ((core : Core) (side : Side) (s : Seat) → side.mutexes ≡ partner.peer.mutexes → KnowEach core.sides left side.mutexes → slice_get left lease.replica ≡ Some s → KnowsParked s side → AreCeilings core side lease.thread lent.ceilings.items)
        → IsLent (seen_of f) lease.replica lease.thread lent
    take-lent lent same count ceilings = subst (λ (p : PeerOf). IsLent (seen_of f) lease.replica lease.thread (record { peer = p; ceilings = lent.ceilings })) (sym same) (record {
      program = leaves.is.of_job;
      peer = take-peer;
      going = take-going;
      countable = take-countable;
      faultless = take-faultless;
      count = count ∙ take-count;
      side = leaves.side;
      beside = leaves.beside;
      ceilings = ceilings (core_in f) leaves.side (record seat { home = None }) (sym same-mutexes) (subst (KnowEach (core_in f).sides left) same-mutexes take-known) (get-set-same f.seats lease.replica seat (record seat { home = None }) there) take-parked;
    })
