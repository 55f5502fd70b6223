-- Along a legal cooperative journal each replica answers for the mutexes that are cooperative, counts who gets them, and stands at no call that it answers itself; and no two replicas are far apart.
use Rattle.std.specs.Prelude.{◌≡◌, ℕ, zero, suc, ◌+◌, ◌<◌, ◌≤◌, Bool, true, false, not, ◌==◌, nat_le, if◌then◌else◌, List, [], ◌∷◌, ◌++◌, length, replicate, Option, Some, None, slice_get}
use Rattle.std.specs.List.{list_all}
use Rattle.std.specs.Option.{option_and_then, option_map, option_map_or}
use Rattle.std.proofs.Common.{refl, sym, ap, ◌∙◌, subst, arith}
use Rattle.std.proofs.lemmas.Bool.{leb-false, and_parts, not-true}
use Rattle.ro_event.specs.declared.calls.Call.{Call}
use Rattle.ro_event.specs.declared.stops.Stop.{Stop}
use Rattle.ro_event.specs.declared.stops.Stop.TheVariants.{Calls}
use Rattle.ro_event.specs.Effects.{Effect}
use Rattle.ro_event.specs.Functions.{functions}
use Rattle.ro_journal.specs.declared.Lease.{Lease}
use Rattle.ro_journal.specs.declared.Entry.{Entry}
use Rattle.ro_journal.specs.declared.Entry.TheVariants.{Take, Put, Part, Vote, Free, Scrub, End}
use Rattle.ro_mutex.specs.Owners.{Owners}
use Rattle.ro_kernel.specs.Kernel.{Kernel, released}
use Rattle.ro_kernel.specs.Serve.{serve}
use Rattle.ro_kernel.proofs.Kept.{slice_get-set_other}
use Rattle.ro_thread.specs.declared.Thread.{Thread}
use Rattle.ro_replica.specs.Replica.{Replica, opening_replica, applied, cancelled, stop_of}
use Rattle.ro_replica.specs.Runs.{standing_at, with_stop}
use Rattle.ro_plain.specs.Machine.{setup_of, layout_in}
use Rattle.ro_plain.proofs.Calls.{some-injective}
use Rattle.ro_orders.specs.Choices.{chosen_of, has_otherwise}
use Rattle.ro_peer.specs.declared.mutexes.Mutex.{Mutex}
use Rattle.ro_peer.specs.Peers.{Peer}
use Rattle.ro_peer.specs.Gets.{Get, voted}
use Rattle.ro_peer.specs.Events.{without_own}
use Rattle.ro_legal.specs.Sides.{Parking, Side, opening_side, rank_in, most_apart, is_ahead}
use Rattle.ro_legal.specs.Core.{Job, Core}
use Rattle.ro_legal.specs.Core.{opening_core as opening_voted}
use Rattle.ro_legal.specs.Event.{Event, call_event}
use Rattle.ro_legal.specs.Cooperative.{opening_core, lease_gets, arrival, parking_of, stopped, side_after, core_after_lease, core_after_put, core_after_part, kernel_for, entered_by, replica_after, replicas_after, side_served, core_after, settled, voted_stop, voted_event, freed_event, core_after_event, after, Ran, IsAllowed, Legal, replay}
use Rattle.ro_legal.specs.Kept.{cooperative_in, IsCounted, KeepsMutexes}
use Rattle.ro_legal.proofs.Lists.{MappedFrom, get-map, ChangedFrom, unchanged, changed_here, get-changed, get-set-same, get-none}
use Rattle.ro_legal.proofs.Ordered.{event-parts, free-parts, freed-is, get-opening, one-thread}
use Rattle.ro_legal.proofs.TogetherJournals.{legal-keeps}
use Rattle.ro_legal.proofs.MutexRuns.{AllBelow, count-append, LeaseParts, lease-parts}
use Rattle.ro_legal.proofs.MutexEvents.{StopTable, serve-table, call-table, event-table, few-after, entered-are, entered-rank, same-voted, voted-twice}

-- ---- where the core's replicas, mutexes and table are the same

counted-with : (job : Job) (core other : Core) (replica : Replica) (side : Side) → core.kernel.owners ≡ other.kernel.owners → IsCounted job core replica side → IsCounted job other replica side
counted-with job core other replica side same h = record {
  answers_for = h.answers_for ∙ ap (cooperative_in job.program) same;
  ranks_are = h.ranks_are;
  no_own_stops = h.no_own_stops;
}

-- an entry that changes none of them
kept-with : (job : Job) (core other : Core) → core.replicas ≡ other.replicas → core.sides ≡ other.sides → core.kernel.owners ≡ other.kernel.owners → KeepsMutexes job core → KeepsMutexes job other
kept-with job core other replicas sides owners h = record {
  counted = λ number replica side here beside. counted-with job core other replica side owners
      (h.counted number replica side (ap (λ (rs : List Replica). slice_get rs number) replicas ∙ here) (ap (λ (ss : List Side). slice_get ss number) sides ∙ beside));
  few = subst (λ (o : Owners). length o ≤ 256) owners h.few;
  apart = λ number other one another e f. h.apart number other one another (ap (λ (ss : List Side). slice_get ss number) sides ∙ e) (ap (λ (ss : List Side). slice_get ss other) sides ∙ f);
}

-- ---- a lease

-- what is not ahead was got below each replica's rank and the most that they may be apart
all-below : (sides : List Side) (n : ℕ) (side : Side) → slice_get sides n ≡ Some side → (a : ℕ) (gets : List Get) → list_all (λ get. not (is_ahead sides get.mutex get.rank)) gets ≡ true → AllBelow a (rank_in side.mutexes a + most_apart) gets
all-below sides n side e a [] h = tt
all-below sides n side e a (get ∷ gets) h =
    let p = and_parts _ _ h in
    let none = get-none (λ (s : Side). nat_le (rank_in s.mutexes get.mutex + most_apart) get.rank) sides (not-true _ p.0) n side e in (
      λ same. subst (λ (m : ℕ). get.rank < rank_in side.mutexes m + most_apart) same (leb-false (rank_in side.mutexes get.mutex + most_apart) get.rank none),
      all-below sides n side e a gets p.1,
    )

module _ (job : Job) (core : Core) (h : KeepsMutexes job core) (lease : Lease) (count : ℕ) (ran : Ran job core lease count) (stop : Option Stop) (parking : Option Parking) (stays : voted ran.peer.mutexes stop ≡ stop) where
  abbrev last : Peer
  last = ran.peer

  abbrev behind : Core
  behind = core_after_lease core lease last (lease_gets job core lease count) stop parking

  parts : LeaseParts job core lease count last
  parts = lease-parts job core lease count last ran.runs

  abbrev came : Replica
  came = stopped lease.thread stop last.replica

  abbrev changes : Side → Side
  changes = side_after lease.thread last (lease_gets job core lease count) parking

  same-side : (n : ℕ) (x : Side) → n ≡ lease.replica → slice_get core.sides n ≡ Some x → parts.side ≡ x
  same-side n x same e = some-injective (sym parts.beside ∙ (ap (slice_get core.sides) (sym same) ∙ e))

  was : IsCounted job core parts.replica parts.side
  was = h.counted lease.replica parts.replica parts.side parts.here parts.beside

  came-stops : (place : ℕ) (thread : Thread) → slice_get came.threads place ≡ Some thread → voted last.mutexes thread.stop ≡ thread.stop
  came-stops place thread e = by (get-changed (with_stop stop) last.replica.threads lease.thread place thread e)
    where
      by : ChangedFrom (with_stop stop) last.replica.threads lease.thread place thread → voted last.mutexes thread.stop ≡ thread.stop
      by (unchanged d f) =
          let old = parts.keeps.stops_are place thread f in
          same-voted last.mutexes parts.side.mutexes parts.keeps.addresses_are thread.stop
          ∙ subst (λ (o : Option Stop). voted parts.side.mutexes o ≡ o) old.2 (was.no_own_stops place old.0 old.1)
      by (changed_here x same f is) = subst (λ (t : Thread). voted last.mutexes t.stop ≡ t.stop) is stays

  came-counted : IsCounted job behind came (changes parts.side)
  came-counted = record {
    answers_for = parts.keeps.addresses_are ∙ was.answers_for;
    ranks_are = λ a.
        let old = was.ranks_are a in
        let more = parts.keeps.grows a in
        let all = count-append a parts.side.gets (lease_gets job core lease count) in
        omega arith;
    no_own_stops = came-stops;
  }

  lease-counted : (n : ℕ) (replica : Replica) (side : Side) → slice_get behind.replicas n ≡ Some replica → ChangedFrom changes core.sides lease.replica n side → IsCounted job behind replica side
  lease-counted n replica side e (unchanged d f) =
      counted-with job core behind replica side refl (h.counted n replica side (sym (slice_get-set_other core.replicas lease.replica n came (λ same. d (sym same))) ∙ e) f)
  lease-counted n replica side e (changed_here x same f is) =
      let mine : came ≡ replica = some-injective (sym (get-set-same core.replicas lease.replica parts.replica came parts.here) ∙ (ap (slice_get behind.replicas) (sym same) ∙ e)) in
      subst (λ (r : Replica). IsCounted job behind r side) mine
      (subst (IsCounted job behind came) (ap changes (same-side n x same f) ∙ is) came-counted)

  -- a replica's rank against what it was, and its own
  its-rank : (n : ℕ) (side x : Side) → n ≡ lease.replica → slice_get core.sides n ≡ Some x → changes x ≡ side → (a : ℕ) → (rank_in side.mutexes a ≡ rank_in last.mutexes a) × (rank_in x.mutexes a ≤ rank_in last.mutexes a)
  its-rank n side x same f is a =
      let grown = parts.keeps.grows a in
      let own : rank_in x.mutexes a ≡ rank_in parts.side.mutexes a = ap (λ (s : Side). rank_in s.mutexes a) (sym (same-side n x same f)) in
      (ap (λ (s : Side). rank_in s.mutexes a) (sym is), omega arith)

  lease-apart : (n m : ℕ) (one another : Side) → ChangedFrom changes core.sides lease.replica n one → ChangedFrom changes core.sides lease.replica m another → (a : ℕ) → rank_in one.mutexes a ≤ rank_in another.mutexes a + most_apart
  lease-apart n m one another (unchanged d e) (unchanged c f) a = h.apart n m one another e f a
  lease-apart n m one another (unchanged d e) (changed_here y s f g) a =
      let far = h.apart n m one y e f a in
      let own = its-rank m another y s f g a in
      let more = own.0 in
      let less = own.1 in
      omega arith
  lease-apart n m one another (changed_here x r e i) (unchanged c f) a =
      let own = (its-rank n one x r e i a).0 in
      let before = h.apart lease.replica m parts.side another parts.beside f a in
      let bound = parts.keeps.bounded a (rank_in another.mutexes a + most_apart) (all-below core.sides m another f a (lease_gets job core lease count) ran.within) before in
      omega arith
  lease-apart n m one another (changed_here x r e i) (changed_here y s f g) a =
      let own = (its-rank n one x r e i a).0 in
      let other = (its-rank m another y s f g a).0 in
      omega arith

  lease-keeps : KeepsMutexes job behind
  lease-keeps = record {
    counted = λ n replica side e f. lease-counted n replica side e (get-changed changes core.sides lease.replica n side f);
    few = h.few;
    apart = λ n m one another e f a. lease-apart n m one another (get-changed changes core.sides lease.replica n one e) (get-changed changes core.sides lease.replica m another f) a;
  }

-- what is arrived at is voted on
arrival-voted : (job : Job) (kernel : Kernel) (thread count : ℕ) (peer : Peer) → voted peer.mutexes (arrival job kernel thread count peer) ≡ arrival job kernel thread count peer
arrival-voted job kernel thread count peer = by (count == job.settings.quantum)
  where
    by : (b : Bool) → voted peer.mutexes (if b then None else voted peer.mutexes (standing_at (layout_in job.program kernel) job.settings.watchdog peer.replica thread)) ≡ (if b then None else voted peer.mutexes (standing_at (layout_in job.program kernel) job.settings.watchdog peer.replica thread))
    by true = refl
    by false = voted-twice peer.mutexes (standing_at (layout_in job.program kernel) job.settings.watchdog peer.replica thread)

-- ---- an event

-- a replica behind an event, and what it has beside
record EventFrom (effect : Effect) (entered : List Mutex) (replicas : List Replica) (sides : List Side) (n : ℕ) (replica : Replica) : Type 0 where
  before : Replica
  side : Side
  here : slice_get replicas n ≡ Some before
  beside : slice_get sides n ≡ Some side
  is : replica_after effect entered side before ≡ replica

event-from : (effect : Effect) (entered : List Mutex) (replicas : List Replica) (sides : List Side) (n : ℕ) (replica : Replica) → slice_get (replicas_after effect entered replicas sides) n ≡ Some replica → EventFrom effect entered replicas sides n replica
event-from effect entered [] sides n replica e = absurd (let f : None ≡ Some replica = e in cc)
event-from effect entered (r ∷ replicas) [] n replica e = absurd (let f : None ≡ Some replica = e in cc)
event-from effect entered (r ∷ replicas) (s ∷ sides) zero replica e = record { before = r; side = s; here = refl; beside = refl; is = some-injective e }
event-from effect entered (r ∷ replicas) (s ∷ sides) (suc n) replica e =
    let rest = event-from effect entered replicas sides n replica e in
    record { before = rest.before; side = rest.side; here = rest.here; beside = rest.beside; is = rest.is }

-- the kernel that serves has the core's table
same-owners : (core : Core) (thread : ℕ) → (kernel_for core thread).owners ≡ core.kernel.owners
same-owners core thread = by (slice_get core.sides 0)
  where
    bit : (b : Bool) → (if b then released core.kernel thread else core.kernel).owners ≡ core.kernel.owners
    bit true = refl
    bit false = refl

    by : (o : Option Side) → (option_map_or (λ (side : Side). if side.answered thread then released core.kernel thread else core.kernel) o core.kernel).owners ≡ core.kernel.owners
    by None = refl
    by (Some side) = bit (side.answered thread)

module _ (job : Job) (core : Core) (h : KeepsMutexes job core) (thread : ℕ) (stop : Option Stop) (event : Event) (table : StopTable (kernel_for core thread).owners stop event.kernel.owners) where
  abbrev done : Core
  done = core_after job (settled core thread) thread stop event

  abbrev entered : List Mutex
  entered = entered_by (chosen_of job.program) (kernel_for core thread) event.kernel stop

  same-ranks : (side : Side) (a : ℕ) → rank_in (side.mutexes ++ entered) a ≡ rank_in side.mutexes a
  same-ranks side a = entered-rank (chosen_of job.program) (kernel_for core thread) event.kernel stop side.mutexes a

  -- the stops that are left are voted on
  event-stops : (side : Side) (before : Replica) (place : ℕ) (t : Thread) → slice_get (replica_after event.effect entered side before).threads place ≡ Some t → voted (side.mutexes ++ entered) t.stop ≡ t.stop
  event-stops side before place t e =
      let from : MappedFrom (without_own (side.mutexes ++ entered)) (cancelled (applied event.effect before)).threads place t = get-map _ _ place t e in
      subst (λ (x : Thread). voted (side.mutexes ++ entered) x.stop ≡ x.stop) from.gives (voted-twice (side.mutexes ++ entered) from.from.stop)

  event-counted : (side : Side) (before : Replica) → IsCounted job core before side → IsCounted job done (replica_after event.effect entered side before) (side_served thread entered side)
  event-counted side before was = record {
    answers_for = entered-are job.program (kernel_for core thread) event.kernel stop side.mutexes table (was.answers_for ∙ ap (cooperative_in job.program) (sym (same-owners core thread)));
    ranks_are = λ a. was.ranks_are a ∙ sym (same-ranks side a);
    no_own_stops = event-stops side before;
  }

  counted-behind : (n : ℕ) (replica : Replica) (side : Side) → slice_get done.replicas n ≡ Some replica → slice_get done.sides n ≡ Some side → IsCounted job done replica side
  counted-behind n replica side e f =
      let s : MappedFrom (side_served thread entered) core.sides n side = get-map _ core.sides n side f in
      let r = event-from event.effect entered core.replicas core.sides n replica e in
      let same : r.side ≡ s.from = some-injective (sym r.beside ∙ s.there) in
      subst (λ (x : Replica). IsCounted job done x side) r.is
      (subst (λ (y : Side). IsCounted job done (replica_after event.effect entered y r.before) side) (sym same)
      (subst (IsCounted job done (replica_after event.effect entered s.from r.before)) s.gives
      (event-counted s.from r.before (h.counted n r.before s.from r.here s.there))))

  apart-behind : (n m : ℕ) (one another : Side) → slice_get done.sides n ≡ Some one → slice_get done.sides m ≡ Some another → (a : ℕ) → rank_in one.mutexes a ≤ rank_in another.mutexes a + most_apart
  apart-behind n m one another e f a =
      let s : MappedFrom (side_served thread entered) core.sides n one = get-map _ core.sides n one e in
      let t : MappedFrom (side_served thread entered) core.sides m another = get-map _ core.sides m another f in
      let far = h.apart n m s.from t.from s.there t.there a in
      let first : rank_in one.mutexes a ≡ rank_in s.from.mutexes a = ap (λ (x : Side). rank_in x.mutexes a) (sym s.gives) ∙ same-ranks s.from a in
      let second : rank_in another.mutexes a ≡ rank_in t.from.mutexes a = ap (λ (x : Side). rank_in x.mutexes a) (sym t.gives) ∙ same-ranks t.from a in
      omega arith

  event-keeps : KeepsMutexes job done
  event-keeps = record {
    counted = counted-behind;
    few = few-after (kernel_for core thread).owners event.kernel.owners stop table (subst (λ (o : Owners). length o ≤ 256) (sym (same-owners core thread)) h.few);
    apart = apart-behind;
  }

-- ---- an entry

module _ (job : Job) (core : Core) (h : KeepsMutexes job core) where
  vote-keeps : (thread : ℕ) (event : Event) → voted_event job core thread ≡ Some event → KeepsMutexes job (core_after_event job core thread (voted_stop core thread) (voted_event job core thread))
  vote-keeps thread event comes =
      let p = event-parts job (settled core thread) thread 0 event comes in
      let stands : voted_stop core thread ≡ Some p.stop = ap (option_and_then (λ (r : Replica). stop_of r thread)) p.there ∙ p.stands in
      let table : StopTable (kernel_for core thread).owners (Some p.stop) event.kernel.owners =
      subst (λ (e : Event). StopTable (kernel_for core thread).owners (Some p.stop) e.kernel.owners) p.is (event-table (setup_of job.program) (kernel_for core thread) thread p.stop _) in
      subst (λ (o : Option Event). KeepsMutexes job (core_after_event job core thread (voted_stop core thread) o)) (sym comes)
      (event-keeps job core h thread (voted_stop core thread) event (subst (λ (o : Option Stop). StopTable (kernel_for core thread).owners o event.kernel.owners) (sym stands) table))

  free-keeps : (thread : ℕ) (call : Call) → core.blocked thread ≡ Some call → KeepsMutexes job (core_after_event job core thread (option_map Calls (core.blocked thread)) (freed_event job core thread))
  free-keeps thread call blocked =
      let event : Event = call_event (kernel_for core thread) thread call [] (serve (setup_of job.program) (kernel_for core thread) thread call) in
      subst (λ (o : Option Event). KeepsMutexes job (core_after_event job core thread (option_map Calls (core.blocked thread)) o)) (sym (freed-is job (settled core thread) thread call blocked))
      (subst (λ (o : Option Call). KeepsMutexes job (core_after job (settled core thread) thread (option_map Calls o) event)) (sym blocked)
      (event-keeps job core h thread (Some (Calls call)) event (call-table (kernel_for core thread) thread call [] (serve (setup_of job.program) (kernel_for core thread) thread call) (serve-table (setup_of job.program) (kernel_for core thread) thread call))))

  entry-keeps : (entry : Entry) → IsAllowed job core entry → KeepsMutexes job (after job core entry)
  unfolding after
  entry-keeps (Take lease) may = kept-with job core (after job core (Take lease)) refl refl refl h
  entry-keeps (Put lease count hit) may =
      subst (λ (o : Option Peer). KeepsMutexes job (core_after_put job core lease count o)) (sym may.ran.runs)
      (lease-keeps job core h lease count may.ran (arrival job core.kernel lease.thread count may.ran.peer) None (arrival-voted job core.kernel lease.thread count may.ran.peer))
  entry-keeps (Part lease count hit) may =
      subst (λ (o : Option Peer). KeepsMutexes job (core_after_part job core lease count o)) (sym may.ran.runs)
      (lease-keeps job core h lease count may.ran None (parking_of job core.kernel lease.thread may.ran.peer) refl)
  entry-keeps (Vote thread count won lost did) may = vote-keeps thread may.event may.comes
  entry-keeps (Free thread) may = let p = free-parts job core thread may.may in free-keeps thread p.call p.blocked_on
  entry-keeps (Scrub won lost) may = absurd may
  entry-keeps (End how) may = kept-with job core (after job core (End how)) refl refl refl h

-- ---- a journal

each-same : {X : Type 0} (n i : ℕ) (x y : X) → slice_get (replicate n x) i ≡ Some y → x ≡ y
each-same zero i x y e = absurd (let f : None ≡ Some y = e in cc)
each-same (suc n) zero x y e = some-injective e
each-same (suc n) (suc i) x y e = each-same n i x y e

opening-counted : (job : Job) (number : ℕ) → IsCounted job (opening_core job) (opening_replica job.program.image job.faults number) opening_side
unfolding opening_core opening_voted opening_replica
opening-counted job number = record {
  answers_for = none (has_otherwise job.program.image.calls.addresses functions);
  ranks_are = λ a. refl;
  no_own_stops = λ place thread e. subst (λ (t : Thread). voted [] t.stop ≡ t.stop) (one-thread _ place thread e).1 refl;
}
  where
    empty : List ℕ
    empty = []

    none : (b : Bool) → [] ≡ (if b then empty else [])
    none true = refl
    none false = refl

opening-keeps : (job : Job) → KeepsMutexes job (opening_core job)
unfolding opening_core opening_voted
opening-keeps job = record {
  counted = λ number replica side e f.
      subst (λ (r : Replica). IsCounted job (opening_core job) r side) (get-opening job job.settings.replicas number replica e)
      (subst (IsCounted job (opening_core job) (opening_replica job.program.image job.faults number)) (each-same job.settings.replicas number opening_side side f) (opening-counted job number));
  few = omega arith;
  apart = λ n m one another e f a.
      let first : rank_in one.mutexes a ≡ 0 = ap (λ (s : Side). rank_in s.mutexes a) (sym (each-same job.settings.replicas n opening_side one e)) in
      omega arith;
}

-- what every legal cooperative journal keeps of them
pub mutexes-kept : (job : Job) (journal : List Entry) → Legal job journal → KeepsMutexes job (replay job journal)
mutexes-kept job journal legal = legal-keeps job (KeepsMutexes job) (λ core entry may h. entry-keeps job core h entry may) (opening_core job) journal legal (opening-keeps job)
