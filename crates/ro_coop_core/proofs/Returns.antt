-- A lease that comes back: its seat, and the fields.
use Rattle.std.proofs.Common.{◌≡◌, ℕ, ◌+◌, ◌-◌, ◌^◌, ◌<◌, ◌≤◌, max, get_or, Bool, true, not, List, [], ◌∷◌, ◌++◌, length, Option, Some, None, refl, sym, ap, ◌∙◌, subst, arith}
use Rattle.std.specs.Prelude.{◌==◌, IfSome, if◌then◌else◌, is_none, is_some, slice_get, slice_set, slice_index_or}
use Rattle.std.specs.List.{filter, find, list_any}
use Rattle.std.specs.Option.{option_and_then, option_map}
use Rattle.std.proofs.lemmas.Bool.{eq-eqb}
use Rattle.std.proofs.lemmas.List.{length-set}
use Rattle.ro_event.specs.declared.calls.Call.{Call}
use Rattle.ro_journal.specs.declared.Entry.{Entry}
use Rattle.ro_journal.specs.declared.Entry.TheVariants.{Put, Part}
use Rattle.ro_journal.specs.declared.Lease.{Lease}
use Rattle.ro_journal.specs.Plan.{outcome_of}
use Rattle.ro_kernel.specs.State.{State}
use Rattle.ro_kernel.proofs.Kept.{slice_get-set_other}
use Rattle.ro_plain.proofs.Calls.{some-injective}
use Rattle.ro_replica.specs.Replica.{Replica}
use Rattle.ro_peer.specs.declared.mutexes.Mutex.{Mutex}
use Rattle.ro_peer.specs.declared.running.Came.{Came}
use Rattle.ro_peer.specs.declared.running.Came.TheVariants.{Quantum, Stopped, Owned, Row, Full}
use Rattle.ro_peer.specs.Leases.{waiting_at}
use Rattle.ro_peer.specs.Peers.{Peer}
use Rattle.ro_peer.specs.Seen.{peer_of}
use Rattle.ro_takers.specs.Recalls.{Recalls}
use Rattle.ro_legal.specs.declared.parkings.Parking.{Parking}
use Rattle.ro_legal.specs.Sides.{Side, peer_with}
use Rattle.ro_legal.specs.Core.{Core, is_home, is_lease, lease_of}
use Rattle.ro_legal.specs.Cooperative.{after, most_done, peer_in, IsAllowed, replay}
use Rattle.ro_legal.specs.Lent.{IsOfJob}
use Rattle.ro_legal.proofs.Leases.{gone, others_stay, fewer}
use Rattle.ro_legal.proofs.Lists.{get-within}
use Rattle.ro_legal.proofs.Journals.{outcome_of-append}
use Rattle.ro_coop_core.specs.declared.seats.Seat.{Seat}
use Rattle.ro_coop_core.specs.declared.seats.Partner.{Partner}
use Rattle.ro_coop_core.specs.Seats.{Homed, AreSeated, IsPartner, noted, takers_of}
use Rattle.ro_coop_core.specs.Seen.{MayReturn, return_of, parking_at, parked_in}
use Rattle.ro_coop_core.specs.Runs.{seen_of}
use Rattle.ro_coop_core.specs.Fields.{one_end, Fields, core_in, blocked_at, Holds}
use Rattle.ro_legal.proofs.TogetherJournals.{replay_more}
use Rattle.ro_coop_core.proofs.Held.{no-views, no-outcome, same-counts, same-waits, length-more, holds-step}
use Rattle.ro_coop_core.proofs.Homes.{seat-changes}
use Rattle.ro_coop_core.proofs.Apart.{leases-apart}
use Rattle.ro_coop_core.proofs.Takes.{Rest, read-seat}
use Rattle.ro_coop_core.proofs.Puts.{Back, return-back}
use Rattle.ro_coop_core.proofs.Puts as put

-- ---- what may be put back

-- the lease that a driver holds is the one that is found
pub held-lease : (f : Fields) → Holds f → (driver : ℕ) (lease : Lease) → lease_of (core_in f) driver ≡ Some lease → find (λ l. l.driver == driver) f.leases ≡ Some lease
held-lease f h driver lease e = ap (find (λ (l : Lease). l.driver == driver)) h.leases_are ∙ e

pub same-lease : (f : Fields) → Holds f → (driver : ℕ) (held found : Lease) → lease_of (core_in f) driver ≡ Some held → find (λ l. l.driver == driver) f.leases ≡ Some found → held ≡ found
same-lease f h driver held found e g = some-injective (sym (held-lease f h driver held e) ∙ g)

-- what may be put back, by its lease
pub record Returned (f : Fields) (lease : Lease) (partner : Partner) (count : ℕ) (came : Came) : Type 0 where
  pub allowed : IsAllowed f.job (core_in f) (return_of lease count came)
  pub program : IsOfJob f.job (core_in f).kernel partner.peer.replica
  pub became : peer_in (after f.job (core_in f) (return_of lease count came)) lease.replica ≡ Some (peer_of partner.peer)
  pub as_many : length partner.ceilings.items ≡ length partner.peer.mutexes
  pub waits : parked_in (after f.job (core_in f) (return_of lease count came)) lease.replica lease.thread ≡ parking_at partner.peer.mutexes came

pub returned : (f : Fields) → Holds f → (driver : ℕ) (partner : Partner) (count : ℕ) (came : Came) → MayReturn (seen_of f) driver partner count came → (lease : Lease) → find (λ l. l.driver == driver) f.leases ≡ Some lease → Returned f lease partner count came
returned f h driver partner count came r lease found =
    subst (λ (l : Lease). Returned f l partner count came) (same-lease f h driver r.lease lease r.held found) (record { allowed = r.allowed; program = r.program; became = r.became; as_many = r.ceilings; waits = r.waits })

abbrev no_parking : Option Parking
no_parking = None

abbrev parking_by : Mutex → Parking
parking_by mutex = record { mutex = mutex.address; rank = mutex.rank; asked = is_none mutex.owner }

waits : (mutexes : List Mutex) (number : ℕ) → number < length mutexes → option_map (λ (mutex : Mutex). record { mutex = mutex.address; rank = mutex.rank; asked = is_none mutex.owner }) (slice_get mutexes number) ≡ no_parking → ⊥
waits mutexes number within e =
    let m = get-within mutexes number within in
    let f : Some (parking_by m.0) ≡ None = sym (ap (option_map parking_by) m.1) ∙ e in
    cc

-- the entry by where the thread waits
pub entry-is : (lease : Lease) (count : ℕ) (mutexes : List Mutex) (came : Came) → IfSome (waiting_at came) (λ number. number < length mutexes)
    → (parking_at mutexes came ≡ None → return_of lease count came ≡ Put lease count 0) × ((p : Parking) → parking_at mutexes came ≡ Some p → return_of lease count came ≡ Part lease count 0)
entry-is lease count mutexes Quantum within = (λ e. refl, λ p e. absurd (let f : None ≡ Some p = e in cc))
entry-is lease count mutexes (Stopped stop) within = (λ e. refl, λ p e. absurd (let f : None ≡ Some p = e in cc))
entry-is lease count mutexes (Owned number) within = (λ e. absurd (waits mutexes number within e), λ p e. refl)
entry-is lease count mutexes (Row number) within = (λ e. absurd (waits mutexes number within e), λ p e. refl)
entry-is lease count mutexes (Full number) within = (λ e. absurd (waits mutexes number within e), λ p e. refl)

pub entry-by : (lease : Lease) (count : ℕ) (mutexes : List Mutex) (came : Came) → IfSome (waiting_at came) (λ number. number < length mutexes) → (o : Option Parking) → o ≡ parking_at mutexes came
    → (entry : Entry) → (o ≡ None → entry ≡ Put lease count 0) → ((p : Parking) → o ≡ Some p → entry ≡ Part lease count 0) → entry ≡ return_of lease count came
entry-by lease count mutexes came within None e entry none some = none refl ∙ sym ((entry-is lease count mutexes came within).0 (sym e))
entry-by lease count mutexes came within (Some p) e entry none some = some p refl ∙ sym ((entry-is lease count mutexes came within).1 p (sym e))

-- a return is no end
no-end : (lease : Lease) (count : ℕ) (came : Came) → outcome_of (return_of lease count came ∷ []) ≡ None
no-end lease count Quantum = refl
no-end lease count (Stopped stop) = refl
no-end lease count (Owned number) = refl
no-end lease count (Row number) = refl
no-end lease count (Full number) = refl

-- ---- its seat

module _ (f : Fields) (h : Holds f) (lease : Lease) (partner : Partner) (count : ℕ) (came : Came) (r : Returned f lease partner count came) where
  abbrev pub entry : Entry
  entry = return_of lease count came

  pub back : Back f.job (core_in f) lease count entry
  back = return-back f.job (core_in f) lease count h.calm.in_range came r.allowed

  abbrev behind : Core
  behind = put.behind f h lease count entry r.allowed back

  abbrev replica : Replica
  replica = put.came f h lease count entry r.allowed back

  abbrev side : Side
  side = put.side f h lease count entry r.allowed back

  -- the peer is what the run makes of it
  same-peer : peer_with replica side ≡ peer_of partner.peer
  same-peer = some-injective (sym in-behind ∙ (ap (λ (c : Core). peer_in c lease.replica) (sym back.is) ∙ r.became))
    where
      in-behind : peer_in behind lease.replica ≡ Some (peer_with replica side)
      in-behind = ap (option_and_then (λ x. option_map (peer_with x) (slice_get behind.sides lease.replica))) (put.came-there f h lease count entry r.allowed back) ∙ ap (option_map (peer_with replica)) (put.side-there f h lease count entry r.allowed back)

  pub same-mutexes : partner.peer.mutexes ≡ back.last.mutexes
  same-mutexes = sym (ap (λ (p : Peer). p.mutexes) same-peer)

  -- it waits where the core has it
  pub same-parking : parking_at partner.peer.mutexes came ≡ back.parking
  same-parking =
      sym r.waits
      ∙ (ap (λ (c : Core). parked_in c lease.replica lease.thread) back.is
      ∙ (ap (option_and_then (λ (d : Side). d.parked lease.thread)) (put.side-there f h lease count entry r.allowed back)
      ∙ ap (λ (b : Bool). if b then back.parking else (put.parts f h lease count entry r.allowed back).side.parked lease.thread) (eq-eqb lease.thread lease.thread refl)))

  pub seat-read : (seat : Seat) → seat ≡ get_or f.seats lease.replica seat → slice_get f.seats lease.replica ≡ Some seat
  seat-read seat e = read-seat f.seats lease.replica seat (put.back-within f h lease count entry r.allowed back) e

  pub back-within : lease.replica < length f.seats
  back-within = put.back-within f h lease count entry r.allowed back

  pub few-threads : lease.thread < 16
  few-threads = put.came-few f h lease count entry r.allowed back

  pub seat-known : (seat : Seat) → slice_get f.seats lease.replica ≡ Some seat → (lists : List (List ℕ)) × Recalls lists seat.takers × (length lists ≡ length partner.peer.mutexes)
  seat-known seat there = (
    takers_of (put.parts f h lease count entry r.allowed back).side,
    (put.knows-lent f h lease count entry r.allowed back seat there).takers,
    put.as-many f h lease count entry r.allowed back seat there ∙ ap length (sym same-mutexes),
  )

  pub seat-counted : (seat : Seat) → slice_get f.seats lease.replica ≡ Some seat → slice_index_or seat.done lease.thread 0 + count < 2 ^ 64
  seat-counted seat there = put.seat-counted f h lease count entry r.allowed back seat there

  pub steps-counted : (seat : Seat) → slice_get f.seats lease.replica ≡ Some seat → (done : ℕ) → done ≡ slice_index_or seat.done lease.thread 0 + count → f.steps + (done - slice_index_or f.most_done lease.thread 0) < 2 ^ 64
  steps-counted seat there done e = put.steps-counted f h lease count entry r.allowed back seat there done e

  is-partner : IsPartner f.job behind.kernel replica side partner
  is-partner = record { of_job = r.program; peer_is = sym same-peer; ceilings = r.as_many ∙ ap length same-mutexes }

  come-seated : (seat seat' : Seat) → slice_get f.seats lease.replica ≡ Some seat → seat'.home ≡ Some partner → seat'.parked ≡ slice_set seat.parked lease.thread back.parking → seat'.done ≡ slice_set seat.done lease.thread (slice_index_or seat.done lease.thread 0 + count)
      → ((lists : List (List ℕ)) → Recalls lists seat.takers → Recalls (noted lease.thread partner.peer.mutexes lists) seat'.takers) → AreSeated f.job behind (slice_set f.seats lease.replica seat')
  come-seated seat seat' there home parked done takers = seat-changes f.job (core_in f) behind f.seats lease.replica seat seat' h.seats_are there (length-set (core_in f).replicas lease.replica replica) refl
      (λ other d. (ap not (others_stay lease other (core_in f).leases d), slice_get-set_other (core_in f).replicas lease.replica other replica (λ e. d (sym e)), ap (λ (ds : List Side). slice_get ds other) (put.sides-are f h lease count entry r.allowed back) ∙ slice_get-set_other (core_in f).sides lease.replica other side (λ e. d (sym e))))
      (record {
        replica = replica;
        side = side;
        replica_there = put.came-there f h lease count entry r.allowed back;
        side_there = put.side-there f h lease count entry r.allowed back;
        knows = put.knows-there f h lease count entry r.allowed back seat there partner same-mutexes seat' parked done takers;
        homed = subst (Homed f.job behind lease.replica replica side) (sym home) is-partner;
      })
      (ap is_some home ∙ sym at-home)
    where
      at-home : is_home behind lease.replica ≡ true
      at-home = ap not (gone lease (core_in f).leases (leases-apart f.job f.journal h.legal) back.out)

  put-fewer : length (filter (λ l. not (is_lease lease l)) f.leases) + 1 ≤ length f.leases
  put-fewer = fewer (is_lease lease) f.leases (ap (list_any (is_lease lease)) h.leases_are ∙ back.out)

  pub put-room : 0 < f.places
  put-room = let k = h.room in omega (arith, put-fewer)

  still : f.ended ≡ None
  still = h.ended_is ∙ back.not_ended

  -- the fields behind it
  pub put-holds : (f' : Fields) (seat seat' : Seat) (done : ℕ) → slice_get f.seats lease.replica ≡ Some seat → Rest f f' → f'.wrote ≡ 0 → f'.journal ≡ f.journal ++ entry ∷ [] → f'.leases ≡ filter (λ l. not (is_lease lease l)) f.leases
      → f'.seats ≡ slice_set f.seats lease.replica seat' → done ≡ slice_index_or seat.done lease.thread 0 + count
      → f'.steps ≡ f.steps + (done - slice_index_or f.most_done lease.thread 0) → f'.most_done ≡ slice_set f.most_done lease.thread (max (slice_index_or f.most_done lease.thread 0) done)
      → seat'.home ≡ Some partner → seat'.parked ≡ slice_set seat.parked lease.thread back.parking → seat'.done ≡ slice_set seat.done lease.thread (slice_index_or seat.done lease.thread 0 + count)
      → ((lists : List (List ℕ)) → Recalls lists seat.takers → Recalls (noted lease.thread partner.peer.mutexes lists) seat'.takers) → f.places ≡ f'.places + 1 → Holds f'
  put-holds f' seat seat' done there rest wrote journal leases seats done_is steps most home parked counted takers less =
      holds-step f f' entry h r.allowed (record {
        job = rest.job;
        journal = journal;
        leases = leases ∙ (ap (filter (λ l. not (is_lease lease l))) h.leases_are ∙ sym (ap (λ (c : Core). c.leases) back.is));
        setup = ap (λ (k : State). k.setup) rest.kernel;
        kernel = ap (λ (k : State). k.kernel) rest.kernel ∙ (h.kernel_is ∙ sym (ap (λ (c : Core). c.kernel) back.is));
        cooperates = rest.cooperates;
        blocked_count = ap length rest.blocked ∙ h.blocked_count;
        blocked = λ t. ap (λ (bs : List (Option Call)). blocked_at bs t) rest.blocked ∙ (h.blocked_are t ∙ sym (ap (λ (c : Core). c.blocked t) back.is));
        most_count = ap length most ∙ (length-set f.most_done lease.thread (max (slice_index_or f.most_done lease.thread 0) done) ∙ h.most_count);
        most = λ t. ap (λ (ns : List ℕ). slice_index_or ns t 0) most ∙ (put.new-most f h lease count entry r.allowed back seat there done done_is t ∙ sym (ap (λ (c : Core). most_done c.replicas t) back.is));
        steps = steps ∙ (put.new-steps f h lease count entry r.allowed back seat there done done_is ∙ sym (ap (λ (c : Core). c.steps) back.is));
        waits = same-waits f f' h (after f.job (core_in f) entry) (ap (λ (c : Core). c.waited) back.is) rest.waits (ap length journal ∙ length-more f.journal entry);
        counts = same-counts f f' h _ (ap (λ (c : Core). c.output) back.is) (ap (λ (c : Core). c.wrote) back.is) rest.sent wrote (let e = steps in omega arith);
        due = rest.due ∙ (h.due_is ∙ sym (ap (λ (c : Core). c.due) back.is));
        ended = rest.ended ∙ (h.ended_is ∙ sym (ap (λ (c : Core). c.ended) back.is));
        seats = subst (λ (c : Core). AreSeated f.job c f'.seats) (sym back.is) (subst (AreSeated f.job behind) (sym seats) (come-seated seat seat' there home parked counted takers));
        views_count = λ unended. ap length rest.views ∙ (h.views_count (sym rest.ended ∙ unended) ∙ (sym (length-set f.seats lease.replica seat') ∙ sym (ap length seats)));
        views_kept = no-views f.job (f.journal ++ entry ∷ []) f'.views (outcome_of-append f.journal (entry ∷ []) (no-outcome f h still) ∙ no-end lease count came);
        room = let k = h.room in let one : one_end f'.ended ≡ one_end f.ended = ap one_end rest.ended in let n : length f'.leases ≡ length (filter (λ l. not (is_lease lease l)) f.leases) = ap length leases in omega (arith, put-fewer);
      })

  -- a return writes nothing
  pub put-output : (replay f.job (f.journal ++ entry ∷ [])).output ≡ (core_in f).output
  put-output = ap (λ (c : Core). c.output) (replay_more f.job f.journal entry ∙ back.is)
