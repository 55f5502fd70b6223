-- A deadlock by a cooperative run's rules is real: what they keep along a legal journal, and the last core as one of this theory in which nothing can be done.
use Rattle.std.specs.Prelude.{◌≡◌, ◌≢◌, ◌⊎◌, ℕ, zero, suc, ◌+◌, ◌<◌, ◌≤◌, Bool, true, false, not, ◌&&◌, ◌||◌, cond, ◌==◌, nat_le, List, [], ◌∷◌, ◌++◌, length, map, replicate, Option, Some, None, is_some, is_none, slice_get}
use Rattle.std.specs.List.{list_all, list_any}
use Rattle.std.specs.Option.{option_and_then, option_map, option_map_or}
use Rattle.std.proofs.Common.{refl, sym, ap, ◌∙◌, subst, inl, inr, ⊎_elim, arith}
use Rattle.std.proofs.lemmas.Bool.{false≢true, true≢false, eqb-true, eq-eqb, ne_eqb, leb-true, and_parts, and_from, cases_eq}
use Rattle.std.proofs.lemmas.Option.{option_and_then_some, slice_get_within}
use Rattle.ro_event.specs.declared.calls.Call.{Call}
use Rattle.ro_event.specs.declared.calls.Which.{Which}
use Rattle.ro_event.specs.declared.calls.Which.TheVariants.{Function}
use Rattle.ro_event.specs.declared.functions.Function.TheVariants.{Lock}
use Rattle.ro_event.specs.declared.stops.Stop.{Stop}
use Rattle.ro_event.specs.declared.stops.Stop.TheVariants.{Calls}
use Rattle.ro_event.specs.Effects.{Effect}
use Rattle.ro_journal.specs.declared.How.{How}
use Rattle.ro_journal.specs.declared.Lease.{Lease}
use Rattle.ro_journal.specs.declared.Entry.{Entry}
use Rattle.ro_journal.specs.declared.Entry.TheVariants.{Take, Put, Part, Vote, Free, Scrub, End}
use Rattle.ro_kernel.specs.declared.Life.{Life}
use Rattle.ro_kernel.specs.Kernel.{Kernel, live_option, lives_on, released}
use Rattle.ro_kernel.specs.Serve.{Served, Done, Parked, Blocked, Ends, serve, is_blocked, is_served, blocks, serves}
use Rattle.ro_kernel.proofs.Kept.{slice_get-set_other}
use Rattle.ro_thread.specs.declared.Thread.{Thread}
use Rattle.ro_replica.specs.Replica.{Replica, stop_of}
use Rattle.ro_replica.specs.Views.{is_unstopped}
use Rattle.ro_settings.specs.Ranges.{InRange}
use Rattle.ro_plain.specs.Machine.{setup_of, layout_in, Machine, opening, step, run}
use Rattle.ro_plain.specs.Order.{RaceFree}
use Rattle.ro_plain.proofs.Calls.{some-injective}
use Rattle.ro_orders.specs.Answers.{Answers, Waits, answer_by}
use Rattle.ro_orders.specs.Turns.{is_lock_or_unlock}
use Rattle.ro_orders.specs.Choices.{chosen_of}
use Rattle.ro_orders.specs.Copies.{Rows}
use Rattle.ro_orders.proofs.Tables.{chosen-by-locks}
use Rattle.ro_peer.specs.declared.mutexes.Mutex.{Mutex}
use Rattle.ro_peer.specs.Peers.{Peer, mutex_in, is_row, leased_run}
use Rattle.ro_peer.specs.Gets.{Get, asker, got_in, InRows}
use Rattle.ro_legal.specs.Core.{Job as Asked, Core as Run, any_below, is_going, nothing_lent, is_out, is_awaited, is_barred, is_kept, is_parked, offers, is_awake, is_lendable, may_vote, may_free}
use Rattle.ro_legal.specs.declared.parkings.Parking.{Parking}
use Rattle.ro_legal.specs.Sides.{Side, opening_side, peer_with, peers_of, taker_of, rank_in, most_apart, is_ahead, has_asked}
use Rattle.ro_legal.specs.Event.{Event, call_event}
use Rattle.ro_legal.specs.Legal.{is_stuck, event_with}
use Rattle.ro_legal.specs.Cooperative as rules
use Rattle.ro_legal.proofs.Awaited.{Waiting, awaited-by}
use Rattle.ro_legal.proofs.Happens.{event-happens, call-happens}
use Rattle.ro_legal.proofs.Leases.{not_false, offers-home}
use Rattle.ro_legal.proofs.Lists.{MappedFrom, get-map, get-map-there, ChangedFrom, unchanged, changed_here, get-changed, changed-is-set, length-changed, get-set-same, get-all, get-within}
use Rattle.std.proofs.lemmas.List.{length-set}
use Rattle.ro_legal.proofs.Nexts.{never_below}
use Rattle.ro_legal.proofs.Ordered.{none-lent-is, free-parts}
use Rattle.ro_legal.proofs.TogetherEvents.{for-live}
use Rattle.ro_coop.specs.Core.{Core, opening_core, kernel_for, after, Steps, steps_after, first_of}
use Rattle.ro_coop.specs.Sound.{core_behind}
use Rattle.ro_coop.specs.Stuck.{Stopped, Lags, IsNotIts, WaitsAtLock, IsStuck}
use Rattle.ro_coop.proofs.Lists.{each-get}
use Rattle.ro_coop.proofs.Holds.{IsWaiting, not-again, lent-has, Going, Holds, is_on, is_over, thread-made}
use Rattle.ro_coop.proofs.Journal.{entry-holds, opening-holds, still-on, legal-stuck}
use Rattle.ro_coop.proofs.Turns.{InTurn, nothing-got, turn-append, run-turn, entered-rank}
use Rattle.ro_coop.proofs.Rowless.{in-front, run-so, entry-so}
use Rattle.ro_coop.proofs.Seen.{as-job, seen, as-put, IsPeerOf, peers-get, peer-parts, peer-of, kernel-same}
use Rattle.ro_coop.proofs.Rules.{released-blocks, entry-may, entry-same, got-same, is-end, over-none, event-many, nothing, steps-same, seen-opening, opening-many, opening-whole, opening-count, count-kept, some-replica, is-watched, its-legal, its-behind}
use Rattle.ro_coop.proofs.Parked.{IsParked, run-still, stopped-still, event-still, parked-now}
use Rattle.ro_coop.proofs.Taken.{AllTaken, taken-append, taken-below, Grown, grown-same, grown-twice, taken-grown, AllInTurn, run-grows, run-below, taker-below, takers-rows}

-- ---- what each entry keeps

-- Each lease is of a whole replica. Each replica has what it has beside, which got its mutexes at their ranks and by the rows. Where
-- a thread came back at a lock it stands there, and it lives as long as the run goes on.
pub record Kept (job : Asked) (rows : Rows) (core : Run) : Type 0 where
  pub as_many : length core.sides ≡ length core.replicas
  pub whole : core.sharing ≡ None
  pub turns : AllInTurn rows core.sides
  pub parks : (n : ℕ) (side : Side) (replica : Replica) → slice_get core.sides n ≡ Some side → slice_get core.replicas n ≡ Some replica → (t : ℕ) (p : Parking) → side.parked t ≡ Some p → IsParked job.program.image.calls replica side.mutexes t p.mutex
  pub alive : is_going core ≡ true → (n : ℕ) (side : Side) → slice_get core.sides n ≡ Some side → (t : ℕ) (p : Parking) → side.parked t ≡ Some p → lives_on core.kernel t ≡ true

-- and what it got has its places
pub record Goes (job : Asked) (rows : Rows) (core later : Run) (gets : List Get) : Type 0 where
  pub kept : Kept job rows later
  pub taken : AllTaken later.sides gets
  pub grown : Grown core.sides later.sides

-- ---- a lease

-- a lease's run in its replica
record LeaseRun (job : Asked) (core : Run) (lease : Lease) (count : ℕ) (peer : Peer) : Type 0 where
  replica : Replica
  side : Side
  here : slice_get core.replicas lease.replica ≡ Some replica
  beside : slice_get core.sides lease.replica ≡ Some side
  runs : leased_run (layout_in job.program core.kernel) (asker lease.thread) job.settings.watchdog count (peer_with replica side) lease.thread ≡ Some peer
  gets_are : rules.lease_gets job core lease count ≡ got_in (layout_in job.program core.kernel) job.settings.watchdog count (peer_with replica side) lease.thread

lease-run-of : (job : Asked) (core : Run) (lease : Lease) (count : ℕ) (last : Peer) → rules.lease_run job core lease count ≡ Some last → LeaseRun job core lease count last
lease-run-of job core lease count last e =
    option_and_then_some (λ peer. leased_run (layout_in job.program core.kernel) (asker lease.thread) job.settings.watchdog count peer lease.thread) (rules.peer_in core lease.replica) last e (λ peer f g.
    let p = peer-parts core lease.replica peer f in
    record {
      replica = p.replica;
      side = p.side;
      here = p.here;
      beside = p.beside;
      runs = ap (λ (x : Peer). leased_run (layout_in job.program core.kernel) (asker lease.thread) job.settings.watchdog count x lease.thread) p.is ∙ g;
      gets_are = ap (λ (o : Option Peer). option_map_or (λ peer. got_in (layout_in job.program core.kernel) job.settings.watchdog count peer lease.thread) o []) f
          ∙ ap (λ (x : Peer). got_in (layout_in job.program core.kernel) job.settings.watchdog count x lease.thread) (sym p.is);
    })

module _ (job : Asked) (rows : Rows) (core : Run) (k : Kept job rows core) (lease : Lease) (count : ℕ) (last : Peer) (r : LeaseRun job core lease count last) (in_rows : InRows rows (rules.lease_gets job core lease count)) (stop : Option Stop) (parking : Option Parking)
    (parks : (p : Parking) → parking ≡ Some p → IsParked job.program.image.calls (rules.stopped lease.thread stop last.replica) last.mutexes lease.thread p.mutex)
    (lives : is_going core ≡ true → (p : Parking) → parking ≡ Some p → lives_on core.kernel lease.thread ≡ true)
  where
    abbrev gets : List Get
    gets = rules.lease_gets job core lease count

    abbrev behind : Run
    behind = rules.core_after_lease core lease last gets stop parking

    abbrev changes : Side → Side
    changes = rules.side_after lease.thread last gets parking

    ran-turn : (m : ℕ) → InTurn rows m (rank_in r.side.mutexes m) (rank_in last.mutexes m) gets
    ran-turn m = subst (InTurn rows m (rank_in r.side.mutexes m) (rank_in last.mutexes m)) (sym r.gets_are)
        (run-turn (layout_in job.program core.kernel) rows job.settings.watchdog count (peer_with r.replica r.side) last lease.thread m
        (run-so (layout_in job.program core.kernel) rows job.settings.watchdog count (peer_with r.replica r.side) last lease.thread r.runs (subst (InRows rows) r.gets_are in_rows)))

    same-side : (n : ℕ) (x : Side) → n ≡ lease.replica → slice_get core.sides n ≡ Some x → r.side ≡ x
    same-side n x same e = some-injective (sym r.beside ∙ (ap (slice_get core.sides) (sym same) ∙ e))

    lease-turns : AllInTurn rows behind.sides
    lease-turns n side e m = by (get-changed changes core.sides lease.replica n side e)
      where
        by : ChangedFrom changes core.sides lease.replica n side → InTurn rows m 0 (rank_in side.mutexes m) side.gets
        by (unchanged d f) = k.turns n side f m
        by (changed_here x same f is) = subst (λ (s : Side). InTurn rows m 0 (rank_in s.mutexes m) s.gets) is
            (turn-append rows m 0 (rank_in x.mutexes m) (rank_in last.mutexes m) x.gets gets (k.turns n x f m)
            (subst (λ (s : Side). InTurn rows m (rank_in s.mutexes m) (rank_in last.mutexes m) gets) (same-side n x same f) (ran-turn m)))

    abbrev came : Replica
    came = rules.stopped lease.thread stop last.replica

    lease-parks : (n : ℕ) (side : Side) (replica : Replica) → slice_get behind.sides n ≡ Some side → slice_get behind.replicas n ≡ Some replica → (t : ℕ) (p : Parking) → side.parked t ≡ Some p → IsParked job.program.image.calls replica side.mutexes t p.mutex
    lease-parks n side replica e f t p h = by (get-changed changes core.sides lease.replica n side e)
      where
        at-thread : (b : Bool) → (t == lease.thread) ≡ b → cond b parking (r.side.parked t) ≡ Some p → IsParked job.program.image.calls came last.mutexes t p.mutex
        at-thread true q g = subst (λ (u : ℕ). IsParked job.program.image.calls came last.mutexes u p.mutex) (sym (eqb-true t lease.thread q)) (parks p g)
        at-thread false q g =
            let d : lease.thread ≢ t = λ s. true≢false (sym (own s) ∙ q) in
            stopped-still job.program.image.calls t p.mutex lease.thread d stop last.replica last.mutexes
            (run-still job.program.image.calls t p.mutex lease.thread d (layout_in job.program core.kernel) (asker lease.thread) job.settings.watchdog count (peer_with r.replica r.side) last r.runs
            (k.parks lease.replica r.side r.replica r.beside r.here t p g))
          where
            own : lease.thread ≡ t → (t == lease.thread) ≡ true
            own s = eq-eqb t lease.thread (sym s)

        by : ChangedFrom changes core.sides lease.replica n side → IsParked job.program.image.calls replica side.mutexes t p.mutex
        by (unchanged d g) = k.parks n side replica g (sym (slice_get-set_other core.replicas lease.replica n came (λ q. d (sym q))) ∙ f) t p h
        by (changed_here x same g is) =
            let mine : came ≡ replica = some-injective (sym (get-set-same core.replicas lease.replica r.replica came r.here) ∙ (ap (slice_get behind.replicas) (sym same) ∙ f)) in
            let its : changes r.side ≡ side = ap changes (same-side n x same g) ∙ is in
            subst (λ (y : Replica). IsParked job.program.image.calls y side.mutexes t p.mutex) mine
            (subst (λ (s : Side). IsParked job.program.image.calls came s.mutexes t p.mutex) its
            (at-thread (t == lease.thread) refl (ap (λ (s : Side). s.parked t) its ∙ h)))

    lease-alive : is_going core ≡ true → (n : ℕ) (side : Side) → slice_get behind.sides n ≡ Some side → (t : ℕ) (p : Parking) → side.parked t ≡ Some p → lives_on core.kernel t ≡ true
    lease-alive going n side e t p h = by (get-changed changes core.sides lease.replica n side e)
      where
        at-thread : (b : Bool) → (t == lease.thread) ≡ b → cond b parking (r.side.parked t) ≡ Some p → lives_on core.kernel t ≡ true
        at-thread true q g = ap (lives_on core.kernel) (eqb-true t lease.thread q) ∙ lives going p g
        at-thread false q g = k.alive going lease.replica r.side r.beside t p g

        by : ChangedFrom changes core.sides lease.replica n side → lives_on core.kernel t ≡ true
        by (unchanged d g) = k.alive going n side g t p h
        by (changed_here x same g is) = at-thread (t == lease.thread) refl (ap (λ (s : Side). s.parked t) (ap changes (same-side n x same g) ∙ is) ∙ h)

    lease-beside : slice_get behind.sides lease.replica ≡ Some (changes r.side)
    lease-beside = ap (λ (sides : List Side). slice_get sides lease.replica) (changed-is-set changes core.sides lease.replica r.side r.beside) ∙ get-set-same core.sides lease.replica r.side (changes r.side) r.beside

    lease-grown : Grown core.sides behind.sides
    lease-grown = record { each = λ n side e. by n side e (cases_eq n lease.replica) }
      where
        by : (n : ℕ) (side : Side) → slice_get core.sides n ≡ Some side → (n ≡ lease.replica) ⊎ (n ≢ lease.replica) → (other : Side) × (slice_get behind.sides n ≡ Some other) × ((m : ℕ) → rank_in side.mutexes m ≤ rank_in other.mutexes m)
        by n side e (inl same) = (
          changes r.side,
          ap (slice_get behind.sides) same ∙ lease-beside,
          λ m. subst (λ (s : Side). rank_in s.mutexes m ≤ rank_in last.mutexes m) (same-side n side same e)
              (run-grows (layout_in job.program core.kernel) job.settings.watchdog lease.thread count (peer_with r.replica r.side) last r.runs m),
        )
        by n side e (inr d) = (
          side,
          ap (λ (sides : List Side). slice_get sides n) (changed-is-set changes core.sides lease.replica r.side r.beside) ∙ (slice_get-set_other core.sides lease.replica n (changes r.side) (λ q. d (sym q)) ∙ e),
          λ m. omega arith,
        )

    lease-goes : Goes job rows core behind gets
    lease-goes = record {
      kept = record {
        as_many = length-changed changes core.sides lease.replica ∙ (k.as_many ∙ sym (length-set core.replicas lease.replica _));
        whole = k.whole;
        turns = lease-turns;
        parks = lease-parks;
        alive = lease-alive;
      };
      taken = subst (AllTaken behind.sides) (sym r.gets_are) (taken-below behind.sides lease.replica (changes r.side) lease-beside _
          (run-below (layout_in job.program core.kernel) job.settings.watchdog lease.thread count (peer_with r.replica r.side) last r.runs));
      grown = lease-grown;
    }

-- ---- an event

-- a replica behind an event
record EventFrom (effect : Effect) (entered : List Mutex) (replicas : List Replica) (sides : List Side) (n : ℕ) (replica : Replica) : Type 0 where
  before : Replica
  side : Side
  here : slice_get replicas n ≡ Some before
  beside : slice_get sides n ≡ Some side
  is : rules.replica_after effect entered side before ≡ replica

event-from : (effect : Effect) (entered : List Mutex) (replicas : List Replica) (sides : List Side) (n : ℕ) (replica : Replica) → slice_get (rules.replicas_after effect entered replicas sides) n ≡ Some replica → EventFrom effect entered replicas sides n replica
event-from effect entered [] sides n replica e = absurd (let f : None ≡ Some replica = e in cc)
event-from effect entered (r ∷ replicas) [] n replica e = absurd (let f : None ≡ Some replica = e in cc)
event-from effect entered (r ∷ replicas) (s ∷ sides) zero replica e = record { before = r; side = s; here = refl; beside = refl; is = some-injective e }
event-from effect entered (r ∷ replicas) (s ∷ sides) (suc n) replica e =
    let rest = event-from effect entered replicas sides n replica e in
    record { before = rest.before; side = rest.side; here = rest.here; beside = rest.beside; is = rest.is }

-- an event is of the thread, and the others live on unless the run ends
record OfThread (core : Run) (thread : ℕ) (event : Event) : Type 0 where
  its : event.effect.thread ≡ thread
  others_live : event.due ≡ None → (u : ℕ) → u ≢ thread → lives_on core.kernel u ≡ true → lives_on event.kernel u ≡ true

-- what is going has no end due
going-due : (due : Option How) (b : Bool) → (is_none due && b) ≡ true → due ≡ None
going-due None b e = refl
going-due (Some how) b e = absurd (false≢true e)

module _ (job : Asked) (rows : Rows) (core : Run) (k : Kept job rows core) (thread : ℕ) (stopped : (n : ℕ) (r : Replica) → slice_get core.replicas n ≡ Some r → is_some (stop_of r thread) ≡ true) (going : is_going core ≡ true) (stop : Option Stop) (event : Event) (own : OfThread core thread event) where
  abbrev done : Run
  done = rules.core_after job (rules.settled core thread) thread stop event

  abbrev entered : List Mutex
  entered = rules.entered_by (chosen_of job.program) (rules.kernel_for core thread) event.kernel stop

  same-ranks : (side : Side) (m : ℕ) → rank_in (side.mutexes ++ entered) m ≡ rank_in side.mutexes m
  same-ranks side m = entered-rank (chosen_of job.program) (rules.kernel_for core thread) event.kernel stop side.mutexes m

  event-turns : AllInTurn rows done.sides
  event-turns n side e m =
      let f : MappedFrom (rules.side_served thread entered) core.sides n side = get-map _ core.sides n side e in
      subst (λ (s : Side). InTurn rows m 0 (rank_in s.mutexes m) s.gets) f.gives
      (subst (λ (rank : ℕ). InTurn rows m 0 rank f.from.gets) (sym (same-ranks f.from m)) (k.turns n f.from f.there m))

  -- the event's own thread is stopped
  not-own : (n : ℕ) (r : Replica) → slice_get core.replicas n ≡ Some r → (mutexes : List Mutex) (t address : ℕ) → IsParked job.program.image.calls r mutexes t address → t ≢ thread
  not-own n r here mutexes t address old same =
      let none : stop_of r thread ≡ None = ap (stop_of r) (sym same) ∙ (ap (option_and_then (λ (x : Thread). x.stop)) old.there ∙ old.unstopped) in
      false≢true (sym (ap is_some none) ∙ stopped n r here)

  event-parks : (n : ℕ) (side : Side) (replica : Replica) → slice_get done.sides n ≡ Some side → slice_get done.replicas n ≡ Some replica → (t : ℕ) (p : Parking) → side.parked t ≡ Some p → IsParked job.program.image.calls replica side.mutexes t p.mutex
  event-parks n side replica e f t p h =
      let s : MappedFrom (rules.side_served thread entered) core.sides n side = get-map _ core.sides n side e in
      let r = event-from event.effect entered core.replicas core.sides n replica f in
      let old = k.parks n s.from r.before s.there r.here t p (ap (λ (x : Side). x.parked t) s.gives ∙ h) in
      let same : r.side ≡ s.from = some-injective (sym r.beside ∙ s.there) in
      let is : rules.replica_after event.effect entered s.from r.before ≡ replica = ap (λ (x : Side). rules.replica_after event.effect entered x r.before) (sym same) ∙ r.is in
      subst (λ (x : Side). IsParked job.program.image.calls replica x.mutexes t p.mutex) s.gives
      (subst (λ (y : Replica). IsParked job.program.image.calls y (s.from.mutexes ++ entered) t p.mutex) is
      (event-still job.program.image.calls t p.mutex event.effect entered s.from r.before (λ same. not-own n r.before r.here s.from.mutexes t p.mutex old (same ∙ own.its)) old))

  event-alive : is_going done ≡ true → (n : ℕ) (side : Side) → slice_get done.sides n ≡ Some side → (t : ℕ) (p : Parking) → side.parked t ≡ Some p → lives_on event.kernel t ≡ true
  event-alive on n side e t p h =
      let s : MappedFrom (rules.side_served thread entered) core.sides n side = get-map _ core.sides n side e in
      let parked : s.from.parked t ≡ Some p = ap (λ (x : Side). x.parked t) s.gives ∙ h in
      let within = slice_get_within core.sides n s.from s.there in
      let many = k.as_many in
      let r = get-within core.replicas n (omega arith) in
      own.others_live (going-due event.due _ on) t (not-own n r.0 r.1 s.from.mutexes t p.mutex (k.parks n s.from r.0 s.there r.1 t p parked)) (k.alive going n s.from s.there t p parked)

  event-grown : Grown core.sides done.sides
  event-grown = record {
    each = λ n side e. (rules.side_served thread entered side, get-map-there (rules.side_served thread entered) core.sides n side e, λ m. let same = same-ranks side m in omega arith);
  }

  event-goes : length done.sides ≡ length done.replicas → Goes job rows core done []
  event-goes many = record { kept = record { as_many = many; whole = k.whole; turns = event-turns; parks = event-parks; alive = event-alive }; taken = tt; grown = event-grown }

-- whose event it is
voted-own : (job : Asked) (core : Run) (thread : ℕ) (event : Event) → rules.voted_event job core thread ≡ Some event → OfThread core thread event
voted-own job core thread event e =
    option_and_then_some (λ (r : Replica). option_map (event_with job (rules.settled core thread) thread r) (stop_of r thread)) (slice_get core.replicas 0) event e (λ r here f. by r (stop_of r thread) f)
  where
    by : (r : Replica) (o : Option Stop) → option_map (event_with job (rules.settled core thread) thread r) o ≡ Some event → OfThread core thread event
    by r None f = absurd (let g : None ≡ Some event = f in cc)
    by r (Some stop) f =
        let happens = event-happens (setup_of job.program) (rules.kernel_for core thread) thread stop _ in
        subst (OfThread core thread) (some-injective f) (record { its = happens.thread_is; others_live = λ due u d lives. happens.others_live due u d (for-live core thread u ∙ lives) })

freed-own : (job : Asked) (core : Run) (thread : ℕ) (event : Event) → rules.freed_event job core thread ≡ Some event → OfThread core thread event
freed-own job core thread event e = by (core.blocked thread) e
  where
    by : (o : Option Call) → option_map (λ (call : Call). call_event (rules.kernel_for core thread) thread call [] (serve (setup_of job.program) (rules.kernel_for core thread) thread call)) o ≡ Some event → OfThread core thread event
    by None f = absurd (let g : None ≡ Some event = f in cc)
    by (Some call) f =
        let happens = call-happens (setup_of job.program) (rules.kernel_for core thread) thread call [] in
        subst (OfThread core thread) (some-injective f) (record { its = happens.thread_is; others_live = λ due u d lives. happens.others_live due u d (for-live core thread u ∙ lives) })

-- a vote comes while the run goes on
vote-going : (job : Asked) (core : Run) (thread : ℕ) → may_vote core thread ≡ true → is_going core ≡ true
vote-going job core thread e =
    let parts = and_parts (is_going core && nothing_lent core && lives_on core.kernel thread && is_none (core.blocked thread)) _ e in
    let alive = and_parts (is_going core && nothing_lent core && lives_on core.kernel thread) _ parts.0 in
    (and_parts (is_going core) (nothing_lent core) (and_parts (is_going core && nothing_lent core) _ alive.0).0).0

-- ---- an entry

module _ (job : Asked) (rows : Rows) (core : Run) (k : Kept job rows core) where
  event-done : (thread : ℕ) → ((n : ℕ) (r : Replica) → slice_get core.replicas n ≡ Some r → is_some (stop_of r thread) ≡ true) → is_going core ≡ true → (stop : Option Stop) (o : Option Event) → ((event : Event) → o ≡ Some event → OfThread core thread event)
      → Goes job rows core (rules.core_after_event job core thread stop o) []
  event-done thread stopped going stop None own = record { kept = k; taken = tt; grown = grown-same core.sides }
  event-done thread stopped going stop (Some event) own =
      event-goes job rows core k thread stopped going stop event (own event refl) (event-many job core thread stop (Some event) k.as_many)

  -- a thread that is blocked is stopped in each replica
  blocked-stopped : (s : Steps) → Going (as-job job) rows (seen core) s → (thread : ℕ) (call : Call) → core.blocked thread ≡ Some call → (n : ℕ) (r : Replica) → slice_get core.replicas n ≡ Some r → is_some (stop_of r thread) ≡ true
  blocked-stopped s g thread call blocked n r here =
      let p = peer-of job core k.as_many thread n r here in
      let h = each-get _ (seen core).peers g.copies g.each n (peer_with r p.0) p.2 in
      let w = h.2.waits thread call blocked in
      ap (λ (o : Option Thread). is_some (option_and_then (λ (x : Thread). x.stop) o)) w.1 ∙ ap is_some w.2

  -- a thread that is lent lives
  lent-lives : (s : Steps) → Holds (as-job job) rows (seen core) s → (lease : Lease) → is_out core lease ≡ true → is_going core ≡ true → lives_on core.kernel lease.thread ≡ true
  lent-lives s (is_on g) lease out going = (lent-has core.kernel core.blocked core.leases lease g.lent out).0
  lent-lives s (is_over o) lease out going = absurd (false≢true (sym o.stopped ∙ going))

  entry-goes : (s : Steps) → Holds (as-job job) rows (seen core) s → (entry : Entry) → ((how : How) → entry ≢ End how) → rules.IsAllowed job core entry → InRows rows (rules.gets_of job core entry) → Goes job rows core (rules.after job core entry) (rules.gets_of job core entry)
  unfolding rules.after
  entry-goes s h (Take lease) never m r = record { kept = record { as_many = k.as_many; whole = k.whole; turns = k.turns; parks = k.parks; alive = k.alive }; taken = tt; grown = grown-same core.sides }
  entry-goes s h (Put lease count hit) never m r =
      subst (λ (o : Option Peer). Goes job rows core (rules.core_after_put job core lease count o) (rules.lease_gets job core lease count)) (sym m.ran.runs)
      (lease-goes job rows core k lease count m.ran.peer (lease-run-of job core lease count m.ran.peer m.ran.runs) r (rules.arrival job core.kernel lease.thread count m.ran.peer) None (λ p e. absurd (let f : None ≡ Some p = e in cc)) (λ going p e. absurd (let f : None ≡ Some p = e in cc)))
  entry-goes s h (Part lease count hit) never m r =
      subst (λ (o : Option Peer). Goes job rows core (rules.core_after_part job core lease count o) (rules.lease_gets job core lease count)) (sym m.ran.runs)
      (lease-goes job rows core k lease count m.ran.peer (lease-run-of job core lease count m.ran.peer m.ran.runs) r None (rules.parking_of job core.kernel lease.thread m.ran.peer) (λ p e. parked-now job core.kernel lease.thread m.ran.peer p e) (λ going p e. lent-lives s h lease m.ran.out going))
  entry-goes s h (Vote thread count won lost did) never m r =
      event-done thread (λ n x e. get-all (λ (y : Replica). is_some (stop_of y thread)) core.replicas (and_parts _ _ m.may).1 n x e) (vote-going job core thread m.may) (rules.voted_stop core thread) (rules.voted_event job core thread) (λ event e. voted-own job core thread event e)
  entry-goes s (is_on g) (Free thread) never m r =
      let p = free-parts job core thread m.may in
      event-done thread (blocked-stopped s g thread p.call p.blocked_on) p.going (option_map Calls (core.blocked thread)) (rules.freed_event job core thread) (λ event e. freed-own job core thread event e)
  entry-goes s (is_over o) (Free thread) never m r = absurd (false≢true (sym o.stopped ∙ (free-parts job core thread m.may).going))
  entry-goes s h (Scrub won lost) never m r = absurd m
  entry-goes s h (End how) never m r = absurd (never how refl)

-- ---- a journal behind which the run goes on

pub record Along (job : Asked) (rows : Rows) (core : Run) (journal : List Entry) : Type 0 where
  pub steps : Steps
  pub holds : Holds (as-job job) rows (seen (rules.replay_from job core journal)) steps
  pub kept : Kept job rows (rules.replay_from job core journal)
  pub taken : AllTaken (rules.replay_from job core journal).sides (rules.gets_from job core journal)
  pub grown : Grown core.sides (rules.replay_from job core journal).sides

module _ (job : Asked) (rows : Rows) (free : RaceFree job.program) (range : InRange job.settings) where
  ends-it : (core : Run) (how : How) (later : List Entry) → rules.LegalFrom job (rules.after job core (End how)) later → is_going (rules.replay_from job (rules.after job core (End how)) later) ≡ true → ⊥
  unfolding rules.after
  ends-it core how [] legal going = false≢true going
  ends-it core how (next ∷ later) legal going = over-none job (rules.after job core (End how)) how refl next legal.0

  along : (core : Run) (s : Steps) → Holds (as-job job) rows (seen core) s → Kept job rows core → (journal : List Entry) → rules.LegalFrom job core journal → InRows rows (rules.gets_from job core journal) → is_going (rules.replay_from job core journal) ≡ true → Along job rows core journal
  along core s h k [] legal r going = record { steps = s; holds = h; kept = k; taken = tt; grown = grown-same core.sides }
  along core s h k (entry ∷ journal) legal r going = ⊎_elim ended (goes_on (λ t holds kept l q. along (rules.after job core entry) t holds kept journal l q going)) (is-end entry)
    where
      ended : (how : How) × (entry ≡ End how) → Along job rows core (entry ∷ journal)
      ended (how, e) =
          absurd (ends-it core how journal (subst (λ (x : Entry). rules.LegalFrom job (rules.after job core x) journal) e legal.1) (subst (λ (x : Entry). is_going (rules.replay_from job (rules.after job core x) journal) ≡ true) e going))

      goes_on : ((t : Steps) → Holds (as-job job) rows (seen (rules.after job core entry)) t → Kept job rows (rules.after job core entry) → rules.LegalFrom job (rules.after job core entry) journal → InRows rows (rules.gets_from job (rules.after job core entry) journal) → Along job rows (rules.after job core entry) journal)
          → ((how : How) → entry ≢ End how) → Along job rows core (entry ∷ journal)
      goes_on later never =
          let parts = in-front rows (rules.gets_of job core entry) _ r in
          let one = entry-so (as-job job) rows (seen core) (as-put entry) (entry-may job core k.as_many k.whole entry never legal.0) (subst (InRows rows) (sym (got-same job core k.as_many entry)) parts.0) in
          let same : after (as-job job) rows (seen core) (as-put entry) ≡ seen (rules.after job core entry) = sym one.1 ∙ entry-same job core k.as_many entry never legal.0 in
          let holds = subst (λ (c : Core). Holds (as-job job) rows c (steps_after s (as-put entry))) same (entry-holds (as-job job) rows free (chosen-by-locks job.program) (is-watched job range) (seen core) s (as-put entry) h one.0) in
          let goes = entry-goes job rows core k s h entry never legal.0 parts.0 in
          let rest = later (steps_after s (as-put entry)) holds goes.kept legal.1 parts.1 in
          record {
            steps = rest.steps;
            holds = rest.holds;
            kept = rest.kept;
            taken = taken-append _ (rules.gets_of job core entry) _ (taken-grown _ _ rest.grown (rules.gets_of job core entry) goes.taken) rest.taken;
            grown = grown-twice core.sides _ _ goes.grown rest.grown;
          }

-- ---- the opening

opening-side : (job : Asked) (n : ℕ) (side : Side) → slice_get (rules.opening_core job).sides n ≡ Some side → opening_side ≡ side
unfolding rules.opening_core
opening-side job n side e = from job.settings.replicas n e
  where
    from : (n i : ℕ) → slice_get (replicate n opening_side) i ≡ Some side → opening_side ≡ side
    from zero i f = absurd (let g : None ≡ Some side = f in cc)
    from (suc n) zero f = some-injective f
    from (suc n) (suc i) f = from n i f

kept-opening : (job : Asked) (rows : Rows) → Kept job rows (rules.opening_core job)
kept-opening job rows = record { as_many = opening-many job; whole = opening-whole job; turns = turns; parks = parks; alive = alive }
  where
    turns : AllInTurn rows (rules.opening_core job).sides
    turns n side e m = subst (λ (s : Side). InTurn rows m 0 (rank_in s.mutexes m) s.gets) (opening-side job n side e) (nothing-got rows m 0 0 refl)

    parks : (n : ℕ) (side : Side) (replica : Replica) → slice_get (rules.opening_core job).sides n ≡ Some side → slice_get (rules.opening_core job).replicas n ≡ Some replica → (t : ℕ) (p : Parking) → side.parked t ≡ Some p → IsParked job.program.image.calls replica side.mutexes t p.mutex
    parks n side replica e f t p h = absurd (let g : None ≡ Some p = ap (λ (s : Side). s.parked t) (opening-side job n side e) ∙ h in cc)

    alive : is_going (rules.opening_core job) ≡ true → (n : ℕ) (side : Side) → slice_get (rules.opening_core job).sides n ≡ Some side → (t : ℕ) (p : Parking) → side.parked t ≡ Some p → lives_on (rules.opening_core job).kernel t ≡ true
    alive going n side e t p h = absurd (let g : None ≡ Some p = ap (λ (s : Side). s.parked t) (opening-side job n side e) ∙ h in cc)

-- ---- where a thread waits

and-last : (a b : Bool) → a ≡ true → (a && b) ≡ false → b ≡ false
and-last true b e f = f
and-last false b e f = absurd (false≢true e)

-- an element that passes, and one that doesn't
any-at : {X : Type 0} (p : X → Bool) (xs : List X) → list_any p xs ≡ true → (n : ℕ) × (x : X) × (slice_get xs n ≡ Some x) × (p x ≡ true)
any-at p [] e = absurd (false≢true e)
any-at {X = X} p (x ∷ xs) e = by (p x) refl e (any-at p xs)
  where
    by : (b : Bool) → p x ≡ b → (b || list_any p xs) ≡ true → (list_any p xs ≡ true → (n : ℕ) × (y : X) × (slice_get xs n ≡ Some y) × (p y ≡ true)) → (n : ℕ) × (y : X) × (slice_get (x ∷ xs) n ≡ Some y) × (p y ≡ true)
    by true q f rest = (0, x, refl, q)
    by false q f rest = let r = rest f in (suc r.0, r.1, r.2, r.3)

not-all : {X : Type 0} (p : X → Bool) (xs : List X) → list_all p xs ≡ false → (n : ℕ) × (x : X) × (slice_get xs n ≡ Some x) × (p x ≡ false)
not-all p [] e = absurd (true≢false e)
not-all {X = X} p (x ∷ xs) e = by (p x) refl e (not-all p xs)
  where
    by : (b : Bool) → p x ≡ b → (b && list_all p xs) ≡ false → (list_all p xs ≡ false → (n : ℕ) × (y : X) × (slice_get xs n ≡ Some y) × (p y ≡ false)) → (n : ℕ) × (y : X) × (slice_get (x ∷ xs) n ≡ Some y) × (p y ≡ false)
    by false q f rest = (0, x, refl, q)
    by true q f rest = let r = rest f in (suc r.0, r.1, r.2, r.3)

lock-which : (which : Which) → rules.is_lock which ≡ true → which ≡ Function Lock
lock-which (Function Lock) e = refl
lock-which which e = absurd (false≢true e)

-- nobody else waits for a free mutex
abbrev NobodyAwaits : Run → Type 0
NobodyAwaits core =
    (n : ℕ) (side : Side) → slice_get core.sides n ≡ Some side → (t : ℕ) (p : Parking) (mutex : Mutex) → mutex_in side.mutexes p.mutex ≡ Some mutex → mutex.owner ≡ None → mutex.rank ≡ p.rank → is_awaited side t p.mutex p.rank ≡ false

module _ (job : Asked) (rows : Rows) (core : Run) (k : Kept job rows core) (alone : nothing_lent core ≡ true) (unawaited : NobodyAwaits core) where
  abbrev its_rows : Rows
  its_rows = taker_of core.sides

  -- a replica that lags
  lags : (mutex rank : ℕ) → is_ahead core.sides mutex rank ≡ true → Lags (peers_of core.replicas core.sides) mutex rank
  lags mutex rank e =
      let a = any-at (λ (side : Side). nat_le (rank_in side.mutexes mutex + most_apart) rank) core.sides e in
      let within = slice_get_within core.sides a.0 a.1 a.2 in
      let many = k.as_many in
      let r = get-within core.replicas a.0 (omega arith) in
      let most = leb-true _ _ a.3 in
      (a.0, peer_with r.0 a.1, peers-get core.replicas core.sides a.0 ∙ (ap (option_and_then (λ (x : Replica). option_map (peer_with x) (slice_get core.sides a.0))) r.1 ∙ ap (option_map (peer_with r.0)) a.2), omega arith)

  barred-not-its : (side : Side) (t mutex rank : ℕ) → is_awaited side t mutex rank ≡ false → is_barred core side t mutex rank ≡ true → IsNotIts its_rows (peers_of core.replicas core.sides) mutex rank t
  barred-not-its side t mutex rank nobody e = by (taker_of core.sides mutex rank) refl e
    where
      ahead : (a b c : Bool) → (a || b || not c) ≡ true → b ≡ false → c ≡ true → a ≡ true
      ahead true b c f g h = refl
      ahead false true c f g h = absurd (true≢false g)
      ahead false false c f g h = absurd (false≢true (sym (ap not h) ∙ f))

      by : (o : Option ℕ) → taker_of core.sides mutex rank ≡ o → option_map_or (λ taker. not (taker == t)) o (is_ahead core.sides mutex rank || is_awaited side t mutex rank || not (nothing_lent core)) ≡ true → IsNotIts its_rows (peers_of core.replicas core.sides) mutex rank t
      by (Some u) f g = (ap (λ (o : Option ℕ). is_row o t) f ∙ not_false (u == t) g, inl (u, f))
      by None f g = (ap (λ (o : Option ℕ). is_row o t) f, inr (lags mutex rank (ahead (is_ahead core.sides mutex rank) (is_awaited side t mutex rank) (nothing_lent core) g nobody alone)))

  -- a thread that came back at a lock and would again waits there
  kept-waits : (n : ℕ) (side : Side) (replica : Replica) → slice_get core.sides n ≡ Some side → slice_get core.replicas n ≡ Some replica → (t : ℕ) (p : Parking) → side.parked t ≡ Some p → is_kept core side t p ≡ true
      → WaitsAtLock (layout_in job.program core.kernel) its_rows (peers_of core.replicas core.sides) (peer_with replica side) t
  kept-waits n side replica e f t p parked kept = record {
    thread = w.thread;
    there = w.there;
    call = w.call;
    stands = w.stands _ replica.backed replica.memory;
    is_mutex = ap is_lock_or_unlock which;
    mutex = w.mutex;
    listed = ap (mutex_in side.mutexes) w.on ∙ w.listed;
    waits = by w.mutex.owner refl tests;
  }
    where
      w : IsParked job.program.image.calls replica side.mutexes t p.mutex
      w = k.parks n side replica e f t p parked

      which : w.call.which ≡ Function Lock
      which = lock-which w.call.which w.lock

      tests : (is_some w.mutex.owner || has_asked p w.mutex.rank && is_barred core side t p.mutex p.rank) ≡ true
      tests = ap (λ (o : Option Mutex). option_map_or (λ mutex. is_some mutex.owner || has_asked p mutex.rank && is_barred core side t p.mutex p.rank) o false) (sym w.listed) ∙ kept

      answer : (o : Option ℕ) → w.mutex.owner ≡ o → answer_by w.call.which t w.mutex.owner ≡ answer_by (Function Lock) t o
      answer o g = ap (λ (x : Which). answer_by x t w.mutex.owner) which ∙ ap (answer_by (Function Lock) t) g

      by : (o : Option ℕ) → w.mutex.owner ≡ o → (is_some o || has_asked p w.mutex.rank && is_barred core side t p.mutex p.rank) ≡ true
          → (answer_by w.call.which t w.mutex.owner ≡ Waits) ⊎ (IsNotIts its_rows (peers_of core.replicas core.sides) w.call.a0 w.mutex.rank t × ((value : ℕ) × (answer_by w.call.which t w.mutex.owner ≡ Answers (Some (Some t)) value)))
      by (Some owner) g h = inl (answer (Some owner) g ∙ ap (λ (b : Bool). cond b (Answers None 35) Waits) (ne_eqb owner t (λ s. w.not_own (g ∙ ap Some s))))
      by None g h =
          let parts = and_parts (has_asked p w.mutex.rank) (is_barred core side t p.mutex p.rank) h in
          let rank : w.mutex.rank ≡ p.rank = eqb-true w.mutex.rank p.rank (and_parts p.asked (w.mutex.rank == p.rank) parts.0).1 in
          inr (
            subst (λ (a : ℕ). IsNotIts its_rows (peers_of core.replicas core.sides) a w.mutex.rank t) (sym w.on)
                (subst (λ (i : ℕ). IsNotIts its_rows (peers_of core.replicas core.sides) p.mutex i t) (sym rank) (barred-not-its side t p.mutex p.rank (unawaited n side e t p w.mutex w.listed g rank) parts.1)),
            (0, answer None g),
          )

-- ---- a core in which nothing can be done any more

three : (a b c : Bool) → (a || b || c) ≡ false → (a ≡ false) × (b ≡ false) × (c ≡ false)
three false false c e = (refl, refl, e)
three false true c e = absurd (true≢false e)
three true b c e = absurd (true≢false e)

live-within : (lives : List Life) (t : ℕ) → live_option (slice_get lives t) ≡ true → t < length lives
live-within lives t e = by (slice_get lives t) refl e
  where
    by : (o : Option Life) → slice_get lives t ≡ o → live_option o ≡ true → t < length lives
    by None f g = absurd (false≢true g)
    by (Some life) f g = slice_get_within lives t life f

module _ (job : Asked) (rows : Rows) (others : ℕ) (core : Run) (replicas : length core.replicas ≡ suc others) (k : Kept job rows core) (s : Steps) (g : Going (as-job job) rows (seen core) s) (stuck : is_stuck job core ≡ true) (output : List ℕ) where
  parts : (is_going core ≡ true) × (nothing_lent core ≡ true)
  parts = and_parts _ _ (and_parts _ _ stuck).0

  nothing_there : core.leases ≡ []
  nothing_there = none-lent-is core parts.1

  -- each replica is at home
  all-offered : (n t : ℕ) → offers core n t ≡ true
  all-offered n t = offers-home core n t k.whole ∙ ap (λ (leases : List Lease). not (list_any (λ lease. lease.replica == n) leases)) nothing_there

  -- no vote, no free and no lease of a thread
  none-of : (t : ℕ) → lives_on core.kernel t ≡ true → (may_vote core t ≡ false) × (may_free job core t ≡ false) × (any_below (length core.replicas) (λ replica. is_lendable core replica t) ≡ false)
  none-of t lives =
      three (may_vote core t) (may_free job core t) (any_below (length core.replicas) (λ replica. is_lendable core replica t))
      (never_below (length core.kernel.lives) (λ thread. may_vote core thread || may_free job core thread || any_below (length core.replicas) (λ replica. is_lendable core replica thread)) (not_false _ (and_parts _ _ stuck).1) t (live-within core.kernel.lives t lives))

  abbrev seen_core : Core
  seen_core = record (seen core) { output = output }

  peer-is : (n : ℕ) (peer : Peer) → slice_get (peers_of core.replicas core.sides) n ≡ Some peer → IsPeerOf core n peer
  peer-is n peer e = peer-parts core n peer (sym (peers-get core.replicas core.sides n) ∙ e)

  -- whoever waits for a free mutex, and has not asked for its rank, could be lent
  unawaited : NobodyAwaits core
  unawaited n side e t p mutex listed free rank = by (is_awaited side t p.mutex p.rank) refl
    where
      by : (b : Bool) → is_awaited side t p.mutex p.rank ≡ b → b ≡ false
      by false f = refl
      by true f = absurd (lends (awaited-by side t p.mutex p.rank f))
        where
          lends : Waiting side p.mutex p.rank → ⊥
          lends w =
              let within = slice_get_within core.sides n side e in
              let many = k.as_many in
              let r = get-within core.replicas n (omega arith) in
              let parked = k.parks n side r.0 e r.1 w.other w.parking w.parked in
              let lives = k.alive parts.0 n side e w.other w.parking w.parked in
              let unstopped : is_unstopped w.other r.0 ≡ true = ap (λ (o : Option Thread). option_map_or (λ (x : Thread). is_none x.stop) o false) parked.there ∙ ap is_none parked.unstopped in
              let offered : offers core n w.other ≡ true = all-offered n w.other in
              let awake : is_awake core n w.other ≡ true = and_from (offers core n w.other && lives_on core.kernel w.other) _ (and_from _ _ offered lives) (ap (λ (o : Option Replica). option_map_or (is_unstopped w.other) o false) r.1 ∙ unstopped) in
              let asked : has_asked w.parking mutex.rank ≡ false = ap (has_asked w.parking) rank ∙ w.unasked in
              let kept : is_kept core side w.other w.parking ≡ false =
              ap (λ (a : ℕ). option_map_or (λ m. is_some m.owner || has_asked w.parking m.rank && is_barred core side w.other w.parking.mutex w.parking.rank) (mutex_in side.mutexes a) false) w.on
              ∙ (ap (λ (o : Option Mutex). option_map_or (λ m. is_some m.owner || has_asked w.parking m.rank && is_barred core side w.other w.parking.mutex w.parking.rank) o false) listed
              ∙ (ap (λ (o : Option ℕ). is_some o || has_asked w.parking mutex.rank && is_barred core side w.other w.parking.mutex w.parking.rank) free
              ∙ ap (λ (b : Bool). b && is_barred core side w.other w.parking.mutex w.parking.rank) asked)) in
              let unparked : is_parked core n w.other ≡ false =
              ap (λ (o : Option Side). option_map_or (λ s. option_map_or (is_kept core s w.other) (s.parked w.other) false) o false) e
              ∙ (ap (λ (o : Option Parking). option_map_or (is_kept core side w.other) o false) w.parked ∙ kept) in
              let lent : is_lendable core n w.other ≡ true = and_from (is_awake core n w.other) _ awake (ap not unparked) in
              false≢true (sym (never_below (length core.replicas) (λ replica. is_lendable core replica w.other) (none-of w.other lives).2 n (slice_get_within core.replicas n r.0 r.1)) ∙ lent)

  -- ---- a thread that is blocked

  module _ (t : ℕ) (call : Call) (blocked : core.blocked t ≡ Some call) where
    waiting : IsWaiting core.kernel t call
    waiting = g.waiting t call blocked

    unserved : serves (setup_of job.program) core.kernel t call ≡ false
    unserved =
        ap (λ (o : Option Call). option_map_or (λ (c : Call). serves (setup_of job.program) core.kernel t c) o false) (sym blocked)
        ∙ and-last (is_going core && nothing_lent core) _ (and_from _ _ parts.0 parts.1) (none-of t waiting.lives).1

    still-blocked : blocks (setup_of job.program) core.kernel t call ≡ true
    still-blocked = by (serve (setup_of job.program) core.kernel t call) refl unserved
      where
        by : (served : Served) → serve (setup_of job.program) core.kernel t call ≡ served → is_served served ≡ false → is_blocked served ≡ true
        by (Done kernel effect) e f = absurd (true≢false f)
        by (Parked kernel) e f = absurd (not-again (setup_of job.program) core.kernel kernel t call waiting e)
        by Blocked e f = refl
        by (Ends kernel how) e f = absurd (true≢false f)

    blocks-there : blocks (setup_of job.program) (kernel_for (seen core) t) t call ≡ true
    blocks-there = ap (λ (kernel : Kernel). blocks (setup_of job.program) kernel t call) (kernel-same job core k.as_many t) ∙ by (slice_get core.sides 0)
      where
        bit : (b : Bool) → blocks (setup_of job.program) (cond b (released core.kernel t) core.kernel) t call ≡ true
        bit true = released-blocks (setup_of job.program) core.kernel t call still-blocked
        bit false = still-blocked

        by : (o : Option Side) → blocks (setup_of job.program) (option_map_or (λ (side : Side). cond (side.answered t) (released core.kernel t) core.kernel) o core.kernel) t call ≡ true
        by None = still-blocked
        by (Some side) = bit (side.answered t)

  -- ---- a thread that lives and is not blocked

  module _ (t : ℕ) (lives : lives_on core.kernel t ≡ true) where
    asleep : (n : ℕ) (peer : Peer) → slice_get (peers_of core.replicas core.sides) n ≡ Some peer → Stopped peer t ⊎ WaitsAtLock (layout_in job.program core.kernel) (taker_of core.sides) (peers_of core.replicas core.sides) peer t
    asleep n peer e = subst (λ (x : Peer). Stopped x t ⊎ WaitsAtLock (layout_in job.program core.kernel) (taker_of core.sides) (peers_of core.replicas core.sides) x t) q.is (by (is_unstopped t q.replica) refl)
      where
        q : IsPeerOf core n peer
        q = peer-is n peer e

        unlent : is_lendable core n t ≡ false
        unlent = never_below (length core.replicas) (λ replica. is_lendable core replica t) (none-of t lives).2 n (slice_get_within core.replicas n q.replica q.here)

        made : (x : Thread) × (slice_get q.replica.threads t ≡ Some x)
        made =
            let h = each-get _ (seen core).peers g.copies g.each n peer e in
            thread-made core.kernel.lives q.replica.threads t (ap (λ (x : Peer). length x.replica.threads) q.is ∙ h.2.is.all_made) lives

        at-stop : (o : Option Stop) → is_none o ≡ false → (stop : Stop) × (o ≡ Some stop)
        at-stop (Some stop) f = (stop, refl)
        at-stop None f = absurd (true≢false f)

        stopped-there : is_unstopped t q.replica ≡ false → Stopped (peer_with q.replica q.side) t
        stopped-there f =
            let stop = at-stop made.0.stop (ap (λ (o : Option Thread). option_map_or (λ (x : Thread). is_none x.stop) o false) (sym made.1) ∙ f) in
            (made.0, made.1, stop.0, stop.1)

        awake : is_unstopped t q.replica ≡ true → is_awake core n t ≡ true
        awake f = and_from (offers core n t && lives_on core.kernel t) _ (and_from _ _ (all-offered n t) lives) (ap (λ (o : Option Replica). option_map_or (is_unstopped t) o false) q.here ∙ f)

        not-true : (b : Bool) → not b ≡ false → b ≡ true
        not-true true f = refl
        not-true false f = absurd (true≢false f)

        parked-there : is_unstopped t q.replica ≡ true → option_map_or (is_kept core q.side t) (q.side.parked t) false ≡ true
        parked-there f =
            ap (λ (o : Option Side). option_map_or (λ side. option_map_or (is_kept core side t) (side.parked t) false) o false) (sym q.beside)
            ∙ not-true (is_parked core n t) (and-last (is_awake core n t) _ (awake f) unlent)

        waits-there : (o : Option Parking) → q.side.parked t ≡ o → option_map_or (is_kept core q.side t) o false ≡ true → WaitsAtLock (layout_in job.program core.kernel) (taker_of core.sides) (peers_of core.replicas core.sides) (peer_with q.replica q.side) t
        waits-there None f h = absurd (false≢true h)
        waits-there (Some p) f h = kept-waits job rows core k parts.1 unawaited n q.side q.replica q.beside q.here t p f h

        by : (b : Bool) → is_unstopped t q.replica ≡ b → Stopped (peer_with q.replica q.side) t ⊎ WaitsAtLock (layout_in job.program core.kernel) (taker_of core.sides) (peers_of core.replicas core.sides) (peer_with q.replica q.side) t
        by true f = inr (waits-there (q.side.parked t) refl (parked-there f))
        by false f = inl (stopped-there f)

    -- in some replica it is not stopped
    awaits : core.blocked t ≡ None → (n : ℕ) × (peer : Peer) × (slice_get (peers_of core.replicas core.sides) n ≡ Some peer) × WaitsAtLock (layout_in job.program core.kernel) (taker_of core.sides) (peers_of core.replicas core.sides) peer t
    awaits blocked =
        let a = not-all (λ (r : Replica). is_some (stop_of r t)) core.replicas unstopped in
        let p = peer-of job core k.as_many t a.0 a.1 a.2 in
        (a.0, peer_with a.1 p.0, p.2, ⊎_elim (λ (x : Stopped (peer_with a.1 p.0) t). absurd (not-stopped a.1 a.3 p.0 x)) (λ (w : WaitsAtLock (layout_in job.program core.kernel) (taker_of core.sides) (peers_of core.replicas core.sides) (peer_with a.1 p.0) t). w) (asleep a.0 (peer_with a.1 p.0) p.2))
      where
        unstopped : list_all (λ (r : Replica). is_some (stop_of r t)) core.replicas ≡ false
        unstopped = and-last (is_going core && nothing_lent core && lives_on core.kernel t && is_none (core.blocked t)) _
            (and_from (is_going core && nothing_lent core && lives_on core.kernel t) _ (and_from (is_going core && nothing_lent core) _ (and_from _ _ parts.0 parts.1) lives) (ap is_none blocked)) (none-of t lives).0

        not-stopped : (r : Replica) → is_some (stop_of r t) ≡ false → (side : Side) → Stopped (peer_with r side) t → ⊥
        not-stopped r none side x = false≢true (sym none ∙ (ap (λ (o : Option Thread). is_some (option_and_then (λ (y : Thread). y.stop) o)) x.1 ∙ ap is_some x.3))

  taken-there : (mutex rank u : ℕ) → taker_of core.sides mutex rank ≡ Some u → (n : ℕ) × (peer : Peer) × (slice_get (peers_of core.replicas core.sides) n ≡ Some peer) × (rank < rank_in peer.mutexes mutex)
  taken-there mutex rank u e =
      let a = taker-below rows core.sides k.turns mutex rank u e in
      let within = slice_get_within core.sides a.0 a.1 a.2 in
      let many = k.as_many in
      let r = get-within core.replicas a.0 (omega arith) in
      (a.0, peer_with r.0 a.1, peers-get core.replicas core.sides a.0 ∙ (ap (option_and_then (λ (x : Replica). option_map (peer_with x) (slice_get core.sides a.0))) r.1 ∙ ap (option_map (peer_with r.0)) a.2), a.3)

  pub stuck-seen : IsStuck (as-job job) (taker_of core.sides) seen_core
  stuck-seen = record {
    going = parts.0;
    nothing_lent = nothing_there;
    none_free = λ t call e. blocks-there t call e;
    none_lent = λ t lives e n peer f. asleep t lives n peer f;
    none_voted = λ t lives e. awaits t lives e;
    all_taken = λ mutex rank u e. taken-there mutex rank u e;
  }

-- ---- a legal journal

module _ (job : Asked) (rows : Rows) (free : RaceFree job.program) (range : InRange job.settings) (unstruck : job.faults ≡ []) (journal : List Entry) (legal : rules.Legal job journal) (in_rows : InRows rows (rules.gets_from job (rules.opening_core job) journal)) (stuck : is_stuck job (rules.replay job journal) ≡ true) where
  abbrev last : Run
  last = rules.replay job journal

  some : (others : ℕ) × (job.settings.replicas ≡ suc others)
  some = some-replica job.settings range

  going : is_going last ≡ true
  going = (and_parts _ _ (and_parts _ _ stuck).0).0

  opening-on : Holds (as-job job) rows (seen (rules.opening_core job)) nothing
  opening-on = subst (λ (c : Core). Holds (as-job job) rows c nothing) (sym (seen-opening job unstruck)) (is_on (opening-holds (as-job job) rows free (chosen-by-locks job.program) (is-watched job range) some.0 some.1))

  its : Along job rows (rules.opening_core job) journal
  its = along job rows free range (rules.opening_core job) nothing opening-on (kept-opening job rows) journal legal in_rows going

  -- what was got has its takers as rows
  by_takers : InRows (taker_of last.sides) (rules.gets_from job (rules.opening_core job) journal)
  by_takers = takers-rows rows last.sides its.kept.turns (rules.gets_from job (rules.opening_core job) journal) in_rows its.taken

  pub real-deadlock : (machine : Machine) → run job.program (opening job.program) (first_of journal) ≡ Some machine → (machine.ended ≡ None) × ((t : ℕ) (later : Machine) → step job.program machine t ≡ Some later → ⊥)
  real-deadlock machine reached =
      let behind = its-behind job (taker_of last.sides) free range unstruck journal legal by_takers in
      let its_core = core_behind (as-job job) (taker_of last.sides) (opening_core (as-job job)) (map as-put journal) in
      let on : Going (as-job job) rows (seen last) its.steps = still-on (as-job job) rows free (chosen-by-locks job.program) (is-watched job range) (seen last) its.steps its.holds going in
      let nothing_goes : IsStuck (as-job job) (taker_of last.sides) (record (seen last) { output = its_core.output }) =
      stuck-seen job rows some.0 last (count-kept job (rules.opening_core job) (opening-many job) journal ∙ (opening-count job ∙ some.1)) its.kept its.steps on stuck its_core.output in
      legal-stuck (as-job job) (taker_of last.sides) free (chosen-by-locks job.program) (is-watched job range) some.0 some.1 (map as-put journal) (its-legal job (taker_of last.sides) free range unstruck journal legal by_takers)
      (subst (λ (c : Core). IsStuck (as-job job) (taker_of last.sides) c) (sym behind.same) nothing_goes)
      machine (ap (λ (steps : Steps). run job.program (opening job.program) steps.first) (steps-same nothing journal) ∙ reached)
