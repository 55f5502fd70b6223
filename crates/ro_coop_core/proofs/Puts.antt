-- A lease that comes back, in the fields of a core.
use Rattle.std.proofs.Common.{◌≡◌, ◌≢◌, ◌⊎◌, inl, inr, ℕ, ◌+◌, ◌-◌, ◌^◌, ◌<◌, ◌≤◌, max, Bool, true, false, true≢false, List, [], ◌∷◌, ◌++◌, length, Option, Some, None, refl, sym, ap, ◌∙◌, subst, arith}
use Rattle.std.specs.Prelude.{◌==◌, if◌then◌else◌, is_some, IsSome, slice_get, slice_set, slice_index_or}
use Rattle.std.specs.Option.{option_and_then, option_map, option_map_or}
use Rattle.std.proofs.lemmas.Bool.{ne_eqb, eq-eqb, cases_eq}
use Rattle.std.proofs.lemmas.List.{length-set, get_or-set_same, get_or-set_other}
use Rattle.std.proofs.lemmas.Option.{slice_get_within}
use Rattle.ro_event.specs.declared.stops.Stop.{Stop}
use Rattle.ro_journal.specs.declared.Entry.{Entry}
use Rattle.ro_journal.specs.declared.Entry.TheVariants.{Put, Part}
use Rattle.ro_journal.specs.declared.Lease.{Lease}
use Rattle.ro_exec.specs.Next.{Layout}
use Rattle.ro_kernel.specs.Kernel.{Kernel}
use Rattle.ro_plain.specs.Machine.{layout_in}
use Rattle.ro_plain.proofs.Calls.{some-injective}
use Rattle.ro_settings.specs.Ranges.{InRange}
use Rattle.ro_thread.specs.declared.Thread.{Thread}
use Rattle.ro_replica.specs.Replica.{Replica}
use Rattle.ro_replica.specs.Runs.{standing_in, standing_at, with_stop}
use Rattle.ro_peer.specs.declared.mutexes.Mutex.{Mutex}
use Rattle.ro_peer.specs.declared.running.Came.{Came}
use Rattle.ro_peer.specs.declared.running.Came.TheVariants.{Quantum, Stopped, Owned, Row, Full}
use Rattle.ro_peer.specs.Peers.{Peer}
use Rattle.ro_peer.specs.Gets.{Get, got_in, voted}
use Rattle.ro_takers.specs.Recalls.{Recalls}
use Rattle.ro_legal.specs.declared.parkings.Parking.{Parking}
use Rattle.ro_legal.specs.Sides.{Side, peer_with, threads_of}
use Rattle.ro_legal.specs.Core.{Job, Core, is_out}
use Rattle.ro_legal.specs.Cooperative.{after, arrival, parking_at, parking_of, stopped, done_in, most_done, side_after, core_after_lease, core_after_put, core_after_part, lease_gets, lease_run, peer_in, IsAllowed, MayPut, MayPart}
use Rattle.ro_legal.specs.Kept.{KeepsReplicas, addresses_of}
use Rattle.ro_legal.proofs.Lists.{get-set-same, changed-is-set, length-mapped, length-changed}
use Rattle.ro_legal.proofs.Together.{keeps-replicas as every-keeps-replicas}
use Rattle.ro_legal.proofs.TogetherRuns.{LentParts, lent-parts}
use Rattle.ro_legal.proofs.TogetherCounts.{most-bounds}
use Rattle.ro_legal.proofs.MutexRuns.{RunKeeps, run-keeps}
use Rattle.ro_coop_core.specs.declared.seats.Seat.{Seat}
use Rattle.ro_coop_core.specs.declared.seats.Partner.{Partner}
use Rattle.ro_coop_core.specs.Seats.{IsSeated, Knows, noted, takers_of}
use Rattle.ro_coop_core.specs.Seen.{return_of}
use Rattle.ro_coop_core.specs.Fields.{Fields, core_in, Holds}
use Rattle.ro_legal.proofs.TogetherJournals.{replay_more, legal_more}
use Rattle.ro_coop_core.proofs.Keeping.{keeps-mutexes}
use Rattle.ro_coop_core.proofs.Retired.{Retires, run-retires, stopped-done, most-more, most-same, retired-there}
use Rattle.ro_coop_core.proofs.Distinct.{AreDistinct, table-distinct, cooperative-distinct}
use Rattle.ro_coop_core.proofs.Taken.{AreBy, got-by, run-noted}

-- ---- what the entry of a return leaves

-- the run of a lease that came back, and the core behind it
pub record Back (job : Job) (core : Core) (lease : Lease) (count : ℕ) (entry : Entry) : Type 0 where
  pub last : Peer
  pub runs : lease_run job core lease count ≡ Some last
  pub out : is_out core lease ≡ true
  pub not_ended : core.ended ≡ None
  pub stop : Option Stop
  pub parking : Option Parking
  pub is : after job core entry ≡ core_after_lease core lease last (lease_gets job core lease count) stop parking
  pub thread : Thread
  pub there : slice_get last.replica.threads lease.thread ≡ Some thread

-- a thread that stands at a stop is there
stands-there : (layout : Layout) (watchdog : ℕ) (replica : Replica) (t : ℕ) (Q : Option Stop → Bool) → Q None ≡ false → Q (standing_at layout watchdog replica t) ≡ true → (thread : Thread) × (slice_get replica.threads t ≡ Some thread)
stands-there layout watchdog replica t Q none some = by (slice_get replica.threads t) refl some
  where
    by : (o : Option Thread) → slice_get replica.threads t ≡ o → Q (option_and_then (standing_in layout watchdog replica) o) ≡ true → (thread : Thread) × (slice_get replica.threads t ≡ Some thread)
    by None e f = absurd (true≢false (sym f ∙ none))
    by (Some thread) e f = (thread, e)

-- one that has run is there
ran-there : (job : Job) (core : Core) (lease : Lease) (count : ℕ) (last : Peer) → lease_run job core lease count ≡ Some last → 0 < count → (thread : Thread) × (slice_get last.replica.threads lease.thread ≡ Some thread)
ran-there job core lease count last runs some =
    let p = lent-parts job core lease count last runs in
    let r = run-retires _ _ _ lease.thread count (peer_with p.lent p.side) last p.runs in
    retired-there last.replica lease.thread (let more = r.more in omega arith)

arrives-there : (job : Job) (kernel : Kernel) (thread count : ℕ) (peer : Peer) → is_some (arrival job kernel thread count peer) ≡ true → (t : Thread) × (slice_get peer.replica.threads thread ≡ Some t)
arrives-there job kernel thread count peer e = stands-there (layout_in job.program kernel) job.settings.watchdog peer.replica thread (λ o. is_some (if count == job.settings.quantum then None else voted peer.mutexes o)) (none (count == job.settings.quantum)) e
  where
    none : (b : Bool) → is_some (if b then None else voted peer.mutexes None) ≡ false
    none true = refl
    none false = refl

put-back : (job : Job) (core : Core) (lease : Lease) (count : ℕ) → InRange job.settings → MayPut job core lease count 0 → Back job core lease count (Put lease count 0)
unfolding after
put-back job core lease count range may = record {
  last = may.ran.peer;
  runs = may.ran.runs;
  out = may.ran.out;
  not_ended = may.ran.not_ended;
  stop = arrival job core.kernel lease.thread count may.ran.peer;
  parking = None;
  is = ap (core_after_put job core lease count) may.ran.runs;
  thread = (there may.arrives).0;
  there = (there may.arrives).1;
}
  where
    there : (count ≡ job.settings.quantum) ⊎ ((count < job.settings.quantum) × IsSome (arrival job core.kernel lease.thread count may.ran.peer)) → (t : Thread) × (slice_get may.ran.peer.replica.threads lease.thread ≡ Some t)
    there (inl e) = ran-there job core lease count may.ran.peer may.ran.runs (let least : 1 ≤ job.settings.quantum = range.quantum.0 in omega arith)
    there (inr e) = arrives-there job core.kernel lease.thread count may.ran.peer e.1

part-back : (job : Job) (core : Core) (lease : Lease) (count : ℕ) → MayPart job core lease count 0 → Back job core lease count (Part lease count 0)
unfolding after
part-back job core lease count may =
    let there = stands-there (layout_in job.program core.kernel) job.settings.watchdog may.ran.peer.replica lease.thread (λ o. is_some (parking_at lease.thread may.ran.peer.mutexes o)) refl may.waits in
    record {
      last = may.ran.peer;
      runs = may.ran.runs;
      out = may.ran.out;
      not_ended = may.ran.not_ended;
      stop = None;
      parking = parking_of job core.kernel lease.thread may.ran.peer;
      is = ap (core_after_part job core lease count) may.ran.runs;
      thread = there.0;
      there = there.1;
    }

pub return-back : (job : Job) (core : Core) (lease : Lease) (count : ℕ) → InRange job.settings → (came : Came) → IsAllowed job core (return_of lease count came) → Back job core lease count (return_of lease count came)
return-back job core lease count range Quantum may = put-back job core lease count range may
return-back job core lease count range (Stopped stop) may = put-back job core lease count range may
return-back job core lease count range (Owned number) may = part-back job core lease count may
return-back job core lease count range (Row number) may = part-back job core lease count may
return-back job core lease count range (Full number) may = part-back job core lease count may

-- a return writes nothing
pub return-output : (job : Job) (core : Core) (lease : Lease) (count : ℕ) (entry : Entry) → Back job core lease count entry → (after job core entry).output ≡ core.output
return-output job core lease count entry b = ap (λ (c : Core). c.output) b.is

-- ---- the core behind it

module _ (f : Fields) (h : Holds f) (lease : Lease) (count : ℕ) (entry : Entry) (allowed : IsAllowed f.job (core_in f) entry) (b : Back f.job (core_in f) lease count entry) where
  abbrev pub last : Peer
  last = b.last

  abbrev pub stop : Option Stop
  stop = b.stop

  abbrev pub parking : Option Parking
  parking = b.parking

  pub parts : LentParts f.job (core_in f) lease count last
  parts = lent-parts f.job (core_in f) lease count last b.runs

  abbrev pub gets : List Get
  gets = lease_gets f.job (core_in f) lease count

  abbrev pub behind : Core
  behind = core_after_lease (core_in f) lease last gets stop parking

  abbrev pub came : Replica
  came = stopped lease.thread stop last.replica

  abbrev pub side : Side
  side = side_after lease.thread last gets parking parts.side

  pub came-there : slice_get behind.replicas lease.replica ≡ Some came
  came-there = get-set-same (core_in f).replicas lease.replica parts.lent came parts.there

  pub sides-are : behind.sides ≡ slice_set (core_in f).sides lease.replica side
  sides-are = changed-is-set (side_after lease.thread last gets parking) (core_in f).sides lease.replica parts.side parts.beside

  pub side-there : slice_get behind.sides lease.replica ≡ Some side
  side-there = ap (λ (ds : List Side). slice_get ds lease.replica) sides-are ∙ get-set-same (core_in f).sides lease.replica parts.side side parts.beside

  -- ---- what was retired

  pub retires : Retires lease.thread count parts.lent last.replica
  retires = run-retires _ _ _ lease.thread count (peer_with parts.lent parts.side) last parts.runs

  pub came-done : (u : ℕ) → done_in came u ≡ done_in last.replica u
  came-done u = stopped-done lease.thread stop last.replica u

  pub done-own : done_in came lease.thread ≡ done_in parts.lent lease.thread + count
  done-own = came-done lease.thread ∙ retires.more

  pub done-other : (u : ℕ) → u ≢ lease.thread → done_in came u ≡ done_in parts.lent u
  done-other u d = came-done u ∙ retires.others u d

  pub most-own : most_done behind.replicas lease.thread ≡ max (most_done (core_in f).replicas lease.thread) (done_in came lease.thread)
  most-own = most-more (core_in f).replicas lease.replica parts.lent came lease.thread parts.there (let more = done-own in omega arith)

  pub most-other : (u : ℕ) → u ≢ lease.thread → most_done behind.replicas u ≡ most_done (core_in f).replicas u
  most-other u d = most-same (core_in f).replicas lease.replica parts.lent came u parts.there (done-other u d)

  -- ---- bounds

  pub kept-behind : KeepsReplicas f.job behind
  kept-behind = subst (KeepsReplicas f.job) (replay_more f.job f.journal entry ∙ b.is) (every-keeps-replicas f.job (f.journal ++ entry ∷ []) h.calm.unstruck (legal_more f.job f.journal entry h.legal allowed))

  pub came-few : lease.thread < 16
  came-few =
      let within = slice_get_within last.replica.threads lease.thread b.thread b.there in
      let made = (kept-behind.unstruck lease.replica came came-there).all_made in
      let same = length-changed (with_stop stop) last.replica.threads lease.thread in
      let few = kept-behind.few_lives in
      omega arith

  pub few-steps : behind.steps < 2 ^ 63
  few-steps =
      let within = kept-behind.steps_within in
      let limit : f.job.settings.limit ≤ 1000000000000 = h.calm.in_range.limit.1 in
      let watchdog : f.job.settings.watchdog ≤ 1000000 = h.calm.in_range.watchdog.1 in
      omega arith

  pub more-steps : behind.steps ≡ (core_in f).steps + (done_in came lease.thread - most_done (core_in f).replicas lease.thread)
  more-steps = ap (λ (n : ℕ). (core_in f).steps + (n - most_done (core_in f).replicas lease.thread)) (sym (came-done lease.thread))

  -- ---- its seat

  pub back-within : lease.replica < length f.seats
  back-within = let less = slice_get_within (core_in f).replicas lease.replica parts.lent parts.there in let many = h.seats_are.count in omega arith

  module _ (seat : Seat) (there : slice_get f.seats lease.replica ≡ Some seat) where
    pub s : IsSeated f.job (core_in f) lease.replica seat
    s = h.seats_are.each lease.replica seat there

    pub same-replica : s.replica ≡ parts.lent
    same-replica = some-injective (sym s.replica_there ∙ parts.there)

    pub same-side : s.side ≡ parts.side
    same-side = some-injective (sym s.side_there ∙ parts.beside)

    pub knows-lent : Knows seat parts.lent parts.side
    knows-lent = subst (λ (r : Replica). Knows seat r parts.side) same-replica (subst (Knows seat s.replica) same-side s.knows)

    pub in-core : peer_in (core_in f) lease.replica ≡ Some (peer_with parts.lent parts.side)
    in-core = ap (option_and_then (λ replica. option_map (peer_with replica) (slice_get (core_in f).sides lease.replica))) parts.there ∙ ap (option_map (peer_with parts.lent)) parts.beside

    pub keeps : RunKeeps (peer_with parts.lent parts.side) last gets
    keeps = subst (λ (o : Option Peer). RunKeeps (peer_with parts.lent parts.side) last (option_map_or (λ peer. got_in (layout_in f.job.program (core_in f).kernel) f.job.settings.watchdog count peer lease.thread) o [])) (sym in-core)
        (run-keeps (layout_in f.job.program (core_in f).kernel) f.job.settings.watchdog count (peer_with parts.lent parts.side) last lease.thread parts.runs)

    pub gets-by : AreBy lease.thread gets
    gets-by = subst (λ (o : Option Peer). AreBy lease.thread (option_map_or (λ peer. got_in (layout_in f.job.program (core_in f).kernel) f.job.settings.watchdog count peer lease.thread) o [])) (sym in-core)
        (got-by (layout_in f.job.program (core_in f).kernel) f.job.settings.watchdog count (peer_with parts.lent parts.side) lease.thread)

    pub as-many : length (takers_of parts.side) ≡ length last.mutexes
    as-many =
        let old = length-mapped (λ (m : Mutex). threads_of m.address parts.side.gets) parts.side.mutexes in
        let addresses = length-mapped (λ (m : Mutex). m.address) parts.side.mutexes in
        let others = length-mapped (λ (m : Mutex). m.address) last.mutexes in
        let same : length (addresses_of last.mutexes) ≡ length (addresses_of parts.side.mutexes) = ap length keeps.addresses_are in
        omega arith

    -- what the seat counts is counted
    pub seat-counts : slice_index_or seat.done lease.thread 0 + count ≡ done_in came lease.thread
    seat-counts = let old = knows-lent.done lease.thread in let new = done-own in omega arith

    pub seat-counted : slice_index_or seat.done lease.thread 0 + count < 2 ^ 64
    seat-counted =
        let same = seat-counts in
        let bound = most-bounds behind.replicas lease.replica came lease.thread came-there in
        let within = kept-behind.done_within lease.thread in
        let few = few-steps in
        omega arith

    pub new-steps : (done : ℕ) → done ≡ slice_index_or seat.done lease.thread 0 + count → f.steps + (done - slice_index_or f.most_done lease.thread 0) ≡ behind.steps
    new-steps done e =
        ap (λ (n : ℕ). n + (done - slice_index_or f.most_done lease.thread 0)) h.steps_are
        ∙ (ap (λ (n : ℕ). (core_in f).steps + (done - n)) (h.most_are lease.thread)
        ∙ (ap (λ (n : ℕ). (core_in f).steps + (n - most_done (core_in f).replicas lease.thread)) (e ∙ seat-counts) ∙ sym more-steps))

    pub steps-counted : (done : ℕ) → done ≡ slice_index_or seat.done lease.thread 0 + count → f.steps + (done - slice_index_or f.most_done lease.thread 0) < 2 ^ 64
    steps-counted done e = let same = new-steps done e in let few = few-steps in omega arith

    pub new-most : (done : ℕ) → done ≡ slice_index_or seat.done lease.thread 0 + count → (u : ℕ) → slice_index_or (slice_set f.most_done lease.thread (max (slice_index_or f.most_done lease.thread 0) done)) u 0 ≡ most_done behind.replicas u
    new-most done e u = by (cases_eq u lease.thread)
      where
        by : (u ≡ lease.thread) ⊎ (u ≢ lease.thread) → slice_index_or (slice_set f.most_done lease.thread (max (slice_index_or f.most_done lease.thread 0) done)) u 0 ≡ most_done behind.replicas u
        by (inl same) =
            ap (λ (n : ℕ). slice_index_or (slice_set f.most_done lease.thread (max (slice_index_or f.most_done lease.thread 0) done)) n 0) same
            ∙ (get_or-set_same f.most_done lease.thread (max (slice_index_or f.most_done lease.thread 0) done) 0 (let few = came-few in let many = h.most_count in omega arith)
            ∙ (ap (λ (n : ℕ). max n done) (h.most_are lease.thread)
            ∙ (ap (max (most_done (core_in f).replicas lease.thread)) (e ∙ seat-counts)
            ∙ (sym most-own ∙ ap (most_done behind.replicas) (sym same)))))
        by (inr other) = get_or-set_other f.most_done lease.thread u (max (slice_index_or f.most_done lease.thread 0) done) 0 other ∙ (h.most_are u ∙ sym (most-other u other))

    -- what the seat knows then
    module _ (partner : Partner) (mutexes : partner.peer.mutexes ≡ last.mutexes) (seat' : Seat) (parked : seat'.parked ≡ slice_set seat.parked lease.thread parking) (done : seat'.done ≡ slice_set seat.done lease.thread (slice_index_or seat.done lease.thread 0 + count))
        (takers : (lists : List (List ℕ)) → Recalls lists seat.takers → Recalls (noted lease.thread partner.peer.mutexes lists) seat'.takers) where
      pub parked-there : (t : ℕ) → slice_index_or seat'.parked t None ≡ side.parked t
      parked-there t = ap (λ (ps : List (Option Parking)). slice_index_or ps t None) parked ∙ by (cases_eq t lease.thread)
        where
          by : (t ≡ lease.thread) ⊎ (t ≢ lease.thread) → slice_index_or (slice_set seat.parked lease.thread parking) t None ≡ (if t == lease.thread then parking else parts.side.parked t)
          by (inl same) =
              ap (λ (n : ℕ). slice_index_or (slice_set seat.parked lease.thread parking) n None) same
              ∙ (get_or-set_same seat.parked lease.thread parking None (let few = came-few in let many = knows-lent.parked_count in omega arith)
              ∙ ap (λ (d : Bool). if d then parking else parts.side.parked t) (sym (eq-eqb t lease.thread same)))
          by (inr other) =
              get_or-set_other seat.parked lease.thread t parking None other
              ∙ (knows-lent.parked t ∙ ap (λ (d : Bool). if d then parking else parts.side.parked t) (sym (ne_eqb t lease.thread other)))

      pub done-there : (t : ℕ) → slice_index_or seat'.done t 0 ≡ done_in came t
      done-there t = ap (λ (ns : List ℕ). slice_index_or ns t 0) done ∙ by (cases_eq t lease.thread)
        where
          by : (t ≡ lease.thread) ⊎ (t ≢ lease.thread) → slice_index_or (slice_set seat.done lease.thread (slice_index_or seat.done lease.thread 0 + count)) t 0 ≡ done_in came t
          by (inl same) =
              ap (λ (n : ℕ). slice_index_or (slice_set seat.done lease.thread (slice_index_or seat.done lease.thread 0 + count)) n 0) same
              ∙ (get_or-set_same seat.done lease.thread (slice_index_or seat.done lease.thread 0 + count) 0 (let few = came-few in let many = knows-lent.done_count in omega arith)
              ∙ (seat-counts ∙ ap (done_in came) (sym same)))
          by (inr other) = get_or-set_other seat.done lease.thread t (slice_index_or seat.done lease.thread 0 + count) 0 other ∙ (knows-lent.done t ∙ sym (done-other t other))

      pub takers-there : Recalls (takers_of side) seat'.takers
      takers-there =
          let counted = (keeps-mutexes f h).counted lease.replica parts.lent parts.side parts.there parts.beside in
          let distinct : AreDistinct (addresses_of parts.side.mutexes) = subst AreDistinct (sym counted.answers_for) (cooperative-distinct f.job.program (core_in f).kernel.owners (table-distinct f.job f.journal h.legal)) in
          let by : AreBy lease.thread gets = gets-by in
          subst (λ (ls : List (List ℕ)). Recalls ls seat'.takers)
          (ap (λ (ms : List Mutex). noted lease.thread ms (takers_of parts.side)) mutexes ∙ run-noted lease.thread parts.side last (peer_with parts.lent parts.side) gets parking refl keeps counted.ranks_are distinct by)
          (takers (takers_of parts.side) knows-lent.takers)

      pub knows-there : Knows seat' came side
      knows-there = record {
        parked_count = ap length parked ∙ (length-set seat.parked lease.thread parking ∙ knows-lent.parked_count);
        parked = parked-there;
        done_count = ap length done ∙ (length-set seat.done lease.thread (slice_index_or seat.done lease.thread 0 + count) ∙ knows-lent.done_count);
        done = done-there;
        takers = takers-there;
      }
