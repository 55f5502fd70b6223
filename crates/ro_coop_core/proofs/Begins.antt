-- The fields of a core at its opening.
use Rattle.std.proofs.Common.{◌≡◌, ◌⊎◌, inl, inr, ℕ, zero, suc, ◌<◌, ◌≤◌, Bool, false, not, ◌||◌, ◌&&◌, List, [], ◌∷◌, ◌++◌, length, replicate, Option, Some, None, refl, sym, ap, ◌∙◌, subst, arith}
use Rattle.std.specs.Prelude.{is_some, slice_get, slice_index_or}
use Rattle.std.proofs.lemmas.Option.{slice_get_within}
use Rattle.ro_event.specs.declared.calls.Call.{Call}
use Rattle.ro_event.specs.Functions.{functions}
use Rattle.ro_image.specs.Image.{Image}
use Rattle.ro_journal.specs.Plan.{outcome_of}
use Rattle.ro_kernel.specs.Kernel.{opening_kernel}
use Rattle.ro_plain.specs.Machine.{setup_of}
use Rattle.ro_orders.specs.Choices.{has_otherwise}
use Rattle.ro_orders.specs.Turns.{takes_otherwise}
use Rattle.ro_event.specs.declared.functions.Function.{Function as Posix}
use Rattle.ro_event.specs.declared.calls.Which.TheVariants.{Function}
use Rattle.ro_replica.specs.Replica.{Replica, opening_replica}
use Rattle.ro_replica.specs.Seen.{ReplicaOf, replica_of, IsOpening}
use Rattle.ro_peer.specs.declared.mutexes.Mutex.{Mutex}
use Rattle.ro_peer.specs.declared.peers.Peer.{Peer as PeerOf}
use Rattle.ro_peer.specs.Peers.{Peer}
use Rattle.ro_peer.specs.Seen.{peer_of}
use Rattle.ro_legal.specs.Waits.{AreWaits, NotesWaits}
use Rattle.ro_legal.specs.Sides.{opening_side, peer_with}
use Rattle.ro_legal.specs.Core.{Job, Core, opening_replicas}
use Rattle.ro_legal.specs.Core.{opening_core as opening_voted}
use Rattle.ro_legal.specs.Cooperative.{opening_core, most_done, done_in, Legal, replay}
use Rattle.ro_legal.specs.Lent.{IsOfJob}
use Rattle.ro_legal.proofs.Lists.{get-within, get-append-cases}
use Rattle.ro_legal.proofs.Ordered.{length-opening, get-opening}
use Rattle.ro_legal.proofs.TogetherCounts.{most-least}
use Rattle.ro_coop_core.specs.declared.seats.Seat.{Seat}
use Rattle.ro_coop_core.specs.Seats.{Homed, IsSeated, AreSeated, IsHomeSeat, HasDoneNothing}
use Rattle.ro_coop_core.specs.Fields.{one_end, Fields, blocked_at, IsCalm, Holds}
use Rattle.ro_coop_core.specs.Opening.{IsFirst, AreFirst}
use Rattle.ro_coop_core.proofs.Held.{no-views}

pub none-left : (addresses : List (Option ℕ)) → has_otherwise addresses [] ≡ false
none-left [] = refl
none-left (None ∷ addresses) = refl
none-left (Some address ∷ addresses) = refl

pub otherwise-cons : (address : Option ℕ) (others : List (Option ℕ)) (function : Posix) (rest : List Posix) → has_otherwise (address ∷ others) (function ∷ rest) ≡ ((is_some address && takes_otherwise (Function function)) || has_otherwise others rest)
otherwise-cons None others function rest = refl
otherwise-cons (Some address) others function rest = refl

-- ---- the seats

pub first-push : (image : Image) (watchdog : ℕ) (seats : List Seat) (seat : Seat) → AreFirst image watchdog seats → IsFirst image watchdog (length seats) seat → AreFirst image watchdog (seats ++ seat ∷ [])
first-push image watchdog seats seat h first number other e = by (get-append-cases seats seat number other e)
  where
    by : (slice_get seats number ≡ Some other) ⊎ ((number ≡ length seats) × (seat ≡ other)) → IsFirst image watchdog number other
    by (inl f) = h number other f
    by (inr f) = subst (λ (n : ℕ). IsFirst image watchdog n other) (sym f.0) (subst (IsFirst image watchdog (length seats)) f.1 first)

-- no thread of it has retired an instruction
opening-idle : (image : Image) (number : ℕ) → HasDoneNothing (opening_replica image [] number)
unfolding opening_replica
opening-idle image number zero = refl
opening-idle image number (suc thread) = refl

no-answer : (n thread : ℕ) → slice_index_or (replicate n false) thread false ≡ false
no-answer zero thread = refl
no-answer (suc n) zero = refl
no-answer (suc n) (suc thread) = no-answer n thread

never : ◌≡◌ {A = ℕ → Bool} (λ thread. slice_index_or (replicate 16 false) thread false) (λ thread. false)
never = λ i. λ thread. no-answer 16 thread i

-- a peer that is made of the opening's replica
pub opening-peer : (image : Image) (watchdog number : ℕ) (value : ReplicaOf) (peer : PeerOf) → IsOpening image number [] watchdog value → peer.replica ≡ value → peer.mutexes ≡ [] → peer.answered ≡ replicate 16 false → peer_of peer ≡ peer_with (opening_replica image [] number) opening_side
opening-peer image watchdog number value peer is replica mutexes answered =
    ap {B = Peer} (λ (r : Replica). record { replica = r; mutexes = peer.mutexes; answered = λ thread. slice_index_or peer.answered thread false }) (ap replica_of replica ∙ is.opening)
    ∙ (ap {B = Peer} (λ (ms : List Mutex). record { replica = opening_replica image [] number; mutexes = ms; answered = λ thread. slice_index_or peer.answered thread false }) mutexes
    ∙ (ap {B = Peer} (λ (bs : List Bool). record { replica = opening_replica image [] number; mutexes = []; answered = λ thread. slice_index_or bs thread false }) answered
    ∙ ap {B = Peer} (λ (none : ℕ → Bool). record { replica = opening_replica image [] number; mutexes = []; answered = none }) never))

opening-of-job : (job : Job) (number : ℕ) (value : ReplicaOf) → IsOpening job.program.image number [] job.settings.watchdog value → IsOfJob job (opening_kernel job.program.image.heap) value
opening-of-job job number value is = record { layout = is.layout; given = is.given; watchdog = is.watchdog_is }

pub first-seat : (image : Image) (watchdog number : ℕ) (value : ReplicaOf) (peer : PeerOf) (seat : Seat) → IsOpening image number [] watchdog value → peer.replica ≡ value → peer.mutexes ≡ [] → peer.answered ≡ replicate 16 false
    → ((job : Job) (replica : Replica) → IsOfJob job (opening_kernel job.program.image.heap) peer.replica → peer_of peer ≡ peer_with replica opening_side → HasDoneNothing replica → IsHomeSeat job (opening_kernel job.program.image.heap) replica opening_side seat)
    → IsFirst image watchdog number seat
first-seat image watchdog number value peer seat is replica mutexes answered gives job same_image same_watchdog =
    gives job (opening_replica image [] number)
    (subst (IsOfJob job (opening_kernel job.program.image.heap)) (sym replica) (opening-of-job job number value (subst (λ (i : Image). IsOpening i number [] job.settings.watchdog value) (sym same_image) (subst (λ (w : ℕ). IsOpening image number [] w value) (sym same_watchdog) is))))
    (opening-peer image watchdog number value peer is replica mutexes answered) (opening-idle image number)

-- ---- the core

-- the replica of each number below n
opening-there : (job : Job) (n number : ℕ) → number < n → slice_get (opening_replicas job n) number ≡ Some (opening_replica job.program.image job.faults number)
opening-there job n number less =
    let w = get-within (opening_replicas job n) number (let e = length-opening job n in omega arith) in
    w.1 ∙ ap (λ (r : Replica). Some r) (sym (get-opening job n number w.0 w.1))

side-there : (n number : ℕ) → number < n → slice_get (replicate n opening_side) number ≡ Some opening_side
side-there zero number less = absurd (omega arith)
side-there (suc n) zero less = refl
side-there (suc n) (suc number) less = side-there n number (omega arith)

first-seated : (job : Job) (seats : List Seat) → job.faults ≡ [] → AreFirst job.program.image job.settings.watchdog seats → length seats ≡ job.settings.replicas → AreSeated job (opening_core job) seats
unfolding opening_core opening_voted
first-seated job seats unstruck first count = record {
  count = count ∙ sym (length-opening job job.settings.replicas);
  each = λ number seat e. at number seat e (first number seat e job refl refl);
  at_home = λ number seat e. ap is_some (first number seat e job refl refl).home;
}
  where
    at : (number : ℕ) (seat : Seat) → slice_get seats number ≡ Some seat → IsHomeSeat job (opening_kernel job.program.image.heap) (opening_replica job.program.image [] number) opening_side seat → IsSeated job (opening_core job) number seat
    at number seat e s =
        let less : number < length seats = slice_get_within seats number seat e in
        record {
          replica = opening_replica job.program.image [] number;
          side = opening_side;
          replica_there = opening-there job job.settings.replicas number (omega arith) ∙ ap (λ fs. Some (opening_replica job.program.image fs number)) unstruck;
          side_there = side-there job.settings.replicas number (omega arith);
          knows = s.knows;
          homed = subst (Homed job (opening_core job) number (opening_replica job.program.image [] number) opening_side) (sym s.home) s.is;
        }

nothing-blocked : (n thread : ℕ) → blocked_at (replicate n None) thread ≡ None
nothing-blocked zero thread = refl
nothing-blocked (suc n) zero = refl
nothing-blocked (suc n) (suc thread) = nothing-blocked n thread

abbrev no_steps : ℕ
no_steps = 0

nothing-done : (n thread : ℕ) → slice_index_or (replicate n no_steps) thread 0 ≡ no_steps
nothing-done zero thread = refl
nothing-done (suc n) zero = refl
nothing-done (suc n) (suc thread) = nothing-done n thread

none-retired : (job : Job) (thread : ℕ) → job.faults ≡ [] → most_done (opening_replicas job job.settings.replicas) thread ≡ 0
none-retired job thread unstruck =
    let least = most-least (opening_replicas job job.settings.replicas) thread 0 (λ number replica e.
    subst (λ (r : Replica). done_in r thread ≤ 0) (sym (ap (λ fs. opening_replica job.program.image fs number) unstruck) ∙ get-opening job job.settings.replicas number replica e) (let idle = opening-idle job.program.image number thread in omega arith))
    in omega arith

pub opening-holds : (f : Fields) → IsCalm f.job → f.journal ≡ [] → AreFirst f.job.program.image f.job.settings.watchdog f.seats → length f.seats ≡ f.job.settings.replicas
    → f.leases ≡ [] → f.kernel.setup ≡ setup_of f.job.program → f.kernel.kernel ≡ opening_kernel f.job.program.image.heap → f.cooperates ≡ not (has_otherwise f.job.program.image.calls.addresses functions)
    → f.blocked ≡ replicate 16 None → f.most_done ≡ replicate 16 no_steps → f.steps ≡ 0 → AreWaits f.waits (λ thread. 0) × (f.waits.votes ≡ 0) → f.due ≡ None → f.ended ≡ None → f.sent ≡ 0 → f.wrote ≡ 0
    → length f.views ≡ f.job.settings.replicas → 1 ≤ f.places → Holds f
unfolding opening_core opening_voted
opening-holds f calm journal first count leases setup kernel cooperates blocked most steps waits due ended sent wrote views room =
    let core : replay f.job f.journal ≡ opening_core f.job = ap (replay f.job) journal in
    record {
      calm = calm;
      legal = subst (Legal f.job) (sym journal) tt;
      leases_are = leases ∙ sym (ap (λ (x : Core). x.leases) core);
      setup_is = setup;
      kernel_is = kernel ∙ sym (ap (λ (x : Core). x.kernel) core);
      cooperates_is = cooperates;
      blocked_count = ap length blocked;
      blocked_are = λ t. ap (λ (bs : List (Option Call)). blocked_at bs t) blocked ∙ (nothing-blocked 16 t ∙ sym (ap (λ (x : Core). x.blocked t) core));
      most_count = ap length most;
      most_are = λ t. ap (λ (ns : List ℕ). slice_index_or ns t 0) most ∙ (nothing-done 16 t ∙ (sym (none-retired f.job t calm.unstruck) ∙ sym (ap (λ (x : Core). most_done x.replicas t) core)));
      steps_are = steps ∙ sym (ap (λ (x : Core). x.steps) core);
      waits_are = subst (λ (x : Core). NotesWaits f.waits x.waited (length f.journal)) (sym core) (record { are = waits.0; few = let none = waits.1 in omega arith });
      counts = record {
        sent_are = sent ∙ ap (λ (x : Core). length x.output) (sym core);
        wrote_is = wrote ∙ ap (λ (x : Core). x.wrote) (sym core);
        within = omega arith;
        few = omega arith;
      };
      due_is = due ∙ sym (ap (λ (x : Core). x.due) core);
      ended_is = ended ∙ sym (ap (λ (x : Core). x.ended) core);
      seats_are = subst (λ (x : Core). AreSeated f.job x f.seats) (sym core) (first-seated f.job f.seats calm.unstruck first count);
      views_count = λ unended. views ∙ sym count;
      views_kept = no-views f.job f.journal f.views (ap outcome_of journal);
      room = let one : one_end f.ended ≡ 1 = ap one_end ended in let none : length f.leases ≡ 0 = ap length leases in omega arith;
    }
