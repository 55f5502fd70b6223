-- What the core's tests say, from its fields.
use Rattle.std.proofs.Common.{◌≡◌, ℕ, suc, ◌+◌, ◌<◌, ◌≤◌, Bool, true, false, true≢false, not, ◌&&◌, List, [], ◌∷◌, length, Option, Some, None, refl, sym, ap, ◌∙◌, subst, arith}
use Rattle.std.specs.Prelude.{◌==◌, nat_le, is_none, is_some, slice_get, slice_index_or, if◌then◌else◌}
use Rattle.std.proofs.lemmas.Bool.{and_parts, and_right}
use Rattle.std.proofs.lemmas.Option.{slice_get_past, slice_get_read}
use Rattle.std.specs.List.{list_all, list_any}
use Rattle.std.specs.Option.{option_and_then, option_map, option_map_or}
use Rattle.ro_event.specs.declared.calls.Call.{Call}
use Rattle.ro_journal.specs.declared.Lease.{Lease}
use Rattle.ro_kernel.specs.Kernel.{Kernel, lives_on}
use Rattle.ro_replica.specs.Replica.{Replica, stop_of}
use Rattle.ro_replica.specs.Views.{is_unstopped}
use Rattle.ro_replica.specs.Seen.{replica_of}
use Rattle.ro_peer.specs.Peers.{Peer}
use Rattle.ro_peer.specs.Seen.{peer_of}
use Rattle.ro_legal.specs.declared.parkings.Parking.{Parking}
use Rattle.ro_legal.specs.Sides.{Side, peer_with}
use Rattle.ro_legal.specs.Core.{Job, Core, is_going, nothing_lent, is_home, offers, is_awake, is_parked, is_kept, is_lendable, may_vote}
use Rattle.ro_legal.specs.Action.{threads_made, is_scrub_due}
use Rattle.ro_legal.specs.Cooperative.{peer_in}
use Rattle.ro_legal.proofs.Leases.{asleep-unlent, offers-home}
use Rattle.ro_legal.proofs.TogetherLeases.{lends-whole}
use Rattle.ro_legal.proofs.Ordered.{none-lent-is}
use Rattle.ro_coop_core.specs.declared.seats.Partner.{Partner}
use Rattle.ro_coop_core.specs.declared.seats.Seat.{Seat}
use Rattle.ro_coop_core.specs.Seats.{Homed, IsPartner, IsSeated, KnowsParked, Knows, seat_unstopped, seat_stopped}
use Rattle.ro_coop_core.specs.Fields.{Fields, core_in, Holds}
use Rattle.ro_coop_core.specs.Numbers.{HasMutexes}
use Rattle.ro_coop_core.proofs.Keeping.{keeps-replicas}

-- all pass here where all pass there
all-same : {X Y : Type 0} (p : X → Bool) (q : Y → Bool) (xs : List X) (ys : List Y) → length xs ≡ length ys → ((n : ℕ) (x : X) (y : Y) → slice_get xs n ≡ Some x → slice_get ys n ≡ Some y → p x ≡ q y) → list_all p xs ≡ list_all q ys
all-same p q [] [] same each = refl
all-same p q [] (y ∷ ys) same each = absurd (omega arith)
all-same p q (x ∷ xs) [] same each = absurd (omega arith)
all-same p q (x ∷ xs) (y ∷ ys) same each =
    ap (λ (b : Bool). b && list_all p xs) (each 0 x y refl refl) ∙ ap (λ (b : Bool). q y && b) (all-same p q xs ys (omega arith) (λ n. each (suc n)))

-- a seat whose partner is there
pub record IsHere (job : Job) (core : Core) (number : ℕ) (seat : Seat) (partner : Partner) : Type 0 where
  pub replica : Replica
  pub side : Side
  pub replica_there : slice_get core.replicas number ≡ Some replica
  pub side_there : slice_get core.sides number ≡ Some side
  pub knows : Knows seat replica side
  pub is : IsPartner job core.kernel replica side partner
  pub home : is_home core number ≡ true

module _ (f : Fields) (h : Holds f) where
  pub leases-are : (core_in f).leases ≡ f.leases
  leases-are = sym h.leases_are

  pub kernel-is : (core_in f).kernel ≡ f.kernel.kernel
  kernel-is = sym h.kernel_is

  -- no scrub comes
  pub unscrubbed : is_scrub_due f.job (core_in f) ≡ false
  unscrubbed = ap (λ (n : ℕ). not (n == 0) && nat_le ((core_in f).scrubbed + n) (core_in f).steps) h.calm.unscrubbed

  -- the run is over where its fields say so
  pub over-is : (b : Bool) → b ≡ is_some f.ended → is_some (core_in f).ended ≡ b
  over-is b e = ap is_some (sym h.ended_is) ∙ sym e

  pub made-is : threads_made (core_in f) ≡ length f.kernel.kernel.lives
  made-is = ap (λ (k : Kernel). length k.lives) kernel-is

  -- there are as many replicas as settings say
  pub count-is : length (core_in f).replicas ≡ f.job.settings.replicas
  count-is = (keeps-replicas f h).replica_count

  -- a replica of the core has a seat
  pub seat-within : (replica : ℕ) → replica < length (core_in f).replicas → replica < length f.seats
  seat-within replica less = let c = h.seats_are.count in omega arith

  -- ---- the seats

  -- what is read at a replica's place is its seat
  pub seat-at : (replica : ℕ) (seat : Seat) → replica < length (core_in f).replicas → seat ≡ slice_index_or f.seats replica seat → slice_get f.seats replica ≡ Some seat
  seat-at replica seat less is = slice_get_read f.seats (length f.seats) replica seat refl (seat-within replica less) is

  -- what a seat is whose partner is there
  pub here : (number : ℕ) (seat : Seat) (partner : Partner) → slice_get f.seats number ≡ Some seat → seat.home ≡ Some partner → IsHere f.job (core_in f) number seat partner
  here number seat partner there e = by seat.home s.homed (h.seats_are.at_home number seat there) e
    where
      s : IsSeated f.job (core_in f) number seat
      s = h.seats_are.each number seat there

      by : (o : Option Partner) → Homed f.job (core_in f) number s.replica s.side o → is_some o ≡ is_home (core_in f) number → o ≡ Some partner → IsHere f.job (core_in f) number seat partner
      by None homed home is = absurd (cc)
      by (Some p) homed home is =
          let same : p ≡ partner = cc in
          record {
            replica = s.replica;
            side = s.side;
            replica_there = s.replica_there;
            side_there = s.side_there;
            knows = s.knows;
            is = subst (IsPartner f.job (core_in f).kernel s.replica s.side) same homed;
            home = sym home;
          }

  -- and one whose partner is not there
  pub away : (number : ℕ) (seat : Seat) → slice_get f.seats number ≡ Some seat → seat.home ≡ None → is_home (core_in f) number ≡ false
  away number seat there e = sym (h.seats_are.at_home number seat there) ∙ ap is_some e

  -- ---- a lease

  -- its replica is at home, since each is of a whole one
  awake-by : (number thread : ℕ) → is_awake (core_in f) number thread ≡ (is_home (core_in f) number && lives_on (core_in f).kernel thread && option_map_or (is_unstopped thread) (slice_get (core_in f).replicas number) false)
  awake-by number thread =
      ap (λ (b : Bool). b && lives_on (core_in f).kernel thread && option_map_or (is_unstopped thread) (slice_get (core_in f).replicas number) false)
      (offers-home (core_in f) number thread (lends-whole f.job f.journal).none)

  -- what is left of its test but for the locks
  pub awake-is : (number thread : ℕ) (seat : Seat) → slice_get f.seats number ≡ Some seat → (seat_unstopped thread seat && lives_on f.kernel.kernel thread) ≡ is_awake (core_in f) number thread
  awake-is number thread seat there = by seat.home refl ∙ sym (awake-by number thread)
    where
      unstopped : Partner → Bool
      unstopped partner = is_unstopped thread (replica_of partner.peer.replica)

      swap : (a b : Bool) → (a && b) ≡ (true && b && a)
      swap true true = refl
      swap true false = refl
      swap false true = refl
      swap false false = refl

      by : (o : Option Partner) → seat.home ≡ o
          → (option_map_or unstopped seat.home false && lives_on f.kernel.kernel thread) ≡ (is_home (core_in f) number && lives_on (core_in f).kernel thread && option_map_or (is_unstopped thread) (slice_get (core_in f).replicas number) false)
      by None e =
          ap (λ (o : Option Partner). option_map_or unstopped o false && lives_on f.kernel.kernel thread) e
          ∙ sym (ap (λ (b : Bool). b && lives_on (core_in f).kernel thread && option_map_or (is_unstopped thread) (slice_get (core_in f).replicas number) false) (away number seat there e))
      by (Some partner) e =
          let at = here number seat partner there e in
          ap (λ (o : Option Partner). option_map_or unstopped o false && lives_on f.kernel.kernel thread) e
          ∙ swap (unstopped partner) (lives_on f.kernel.kernel thread)
          ∙ ap (λ (b : Bool). b && lives_on f.kernel.kernel thread && unstopped partner) (sym at.home)
          ∙ ap (λ (k : Kernel). is_home (core_in f) number && lives_on k thread && unstopped partner) h.kernel_is
          ∙ ap (λ (p : Peer). is_home (core_in f) number && lives_on (core_in f).kernel thread && is_unstopped thread p.replica) at.is.peer_is
          ∙ ap (λ (o : Option Replica). is_home (core_in f) number && lives_on (core_in f).kernel thread && option_map_or (is_unstopped thread) o false) (sym at.replica_there)

  pub awake-home : (number thread : ℕ) → is_awake (core_in f) number thread ≡ true → is_home (core_in f) number ≡ true
  awake-home number thread awake =
      let parts = and_parts (is_home (core_in f) number && lives_on (core_in f).kernel thread) (option_map_or (is_unstopped thread) (slice_get (core_in f).replicas number) false) (sym (awake-by number thread) ∙ awake) in
      (and_parts (is_home (core_in f) number) (lives_on (core_in f).kernel thread) parts.0).0

  -- where a thread is parked
  pub parked-is : (number thread : ℕ) (seat : Seat) (partner : Partner) → slice_get f.seats number ≡ Some seat → seat.home ≡ Some partner → (parked : Bool) (parking : Option Parking) → slice_index_or seat.parked thread None ≡ parking
      → ((side : Side) → side.mutexes ≡ partner.peer.mutexes → KnowsParked seat side → parked ≡ option_map_or (is_kept (core_in f) side thread) parking false) → parked ≡ is_parked (core_in f) number thread
  parked-is number thread seat partner there e parked parking parks kept =
      let at = here number seat partner there e in
      kept at.side (sym (ap (λ (p : Peer). p.mutexes) at.is.peer_is)) at.knows.parked
      ∙ ap (λ (o : Option Parking). option_map_or (is_kept (core_in f) at.side thread) o false) (sym parks ∙ at.knows.parked thread)
      ∙ ap (λ (o : Option Side). option_map_or (λ side. option_map_or (is_kept (core_in f) side thread) (side.parked thread) false) o false) (sym at.side_there)

  pub partner-has : (number : ℕ) (seat : Seat) (partner : Partner) → slice_get f.seats number ≡ Some seat → seat.home ≡ Some partner → HasMutexes (core_in f) partner.peer.mutexes
  partner-has number seat partner there e =
      let at = here number seat partner there e in
      record { place = number; side = at.side; there = at.side_there; are = sym (ap (λ (p : Peer). p.mutexes) at.is.peer_is) }

  -- ---- a vote and a free

  -- where nothing is lent every peer is there
  all-home : (core_in f).leases ≡ [] → (number : ℕ) → is_home (core_in f) number ≡ true
  all-home none number = ap (λ (ls : List Lease). not (list_any (λ lease. lease.replica == number) ls)) none

  stopped-at : (core_in f).leases ≡ [] → (thread number : ℕ) (seat : Seat) (replica : Replica) → slice_get f.seats number ≡ Some seat → slice_get (core_in f).replicas number ≡ Some replica → seat_stopped thread seat ≡ is_some (stop_of replica thread)
  stopped-at none thread number seat replica there is = by seat.home refl
    where
      stopped : Partner → Bool
      stopped partner = is_some (stop_of (replica_of partner.peer.replica) thread)

      by : (o : Option Partner) → seat.home ≡ o → option_map_or stopped seat.home false ≡ is_some (stop_of replica thread)
      by None e = absurd (true≢false (sym (all-home none number) ∙ away number seat there e))
      by (Some partner) e =
          let at = here number seat partner there e in
          let same : at.replica ≡ replica = let g : Some at.replica ≡ Some replica = sym at.replica_there ∙ is in cc in
          ap (λ (o : Option Partner). option_map_or stopped o false) e ∙ ap (λ (p : Peer). is_some (stop_of p.replica thread)) at.is.peer_is ∙ ap (λ (r : Replica). is_some (stop_of r thread)) same

  pub stopped-all : (is_going (core_in f) && nothing_lent (core_in f)) ≡ true → (thread : ℕ) → list_all (seat_stopped thread) f.seats ≡ list_all (λ replica. is_some (stop_of replica thread)) (core_in f).replicas
  stopped-all idle thread =
      all-same (seat_stopped thread) (λ replica. is_some (stop_of replica thread)) f.seats (core_in f).replicas h.seats_are.count
      (stopped-at (none-lent-is (core_in f) (and_parts (is_going (core_in f)) (nothing_lent (core_in f)) idle).1) thread)

  -- what is left of the test of a vote where the rest holds
  pub vote-test : (thread : ℕ) → (is_going (core_in f) && nothing_lent (core_in f)) ≡ true → lives_on f.kernel.kernel thread ≡ true → (core_in f).blocked thread ≡ None → list_all (seat_stopped thread) f.seats ≡ may_vote (core_in f) thread
  vote-test thread idle lives unblocked =
      let stopped : Bool = list_all (λ replica. is_some (stop_of replica thread)) (core_in f).replicas in
      stopped-all idle thread
      ∙ sym (ap (λ (b : Bool). b && lives_on (core_in f).kernel thread && is_none ((core_in f).blocked thread) && stopped) idle
      ∙ ap (λ (b : Bool). true && b && is_none ((core_in f).blocked thread) && stopped) (ap (λ (k : Kernel). lives_on k thread) kernel-is ∙ lives)
      ∙ ap (λ (o : Option Call). true && true && is_none o && stopped) unblocked)

  -- ---- what is asked for

  pub peer-is : (number : ℕ) (seat : Seat) (partner : Partner) → slice_get f.seats number ≡ Some seat → seat.home ≡ Some partner → peer_in (core_in f) number ≡ Some (peer_of partner.peer)
  peer-is number seat partner there e =
      let at = here number seat partner there e in
      ap (λ (o : Option Replica). option_and_then (λ replica. option_map (peer_with replica) (slice_get (core_in f).sides number)) o) at.replica_there
      ∙ ap (λ (o : Option Side). option_map (peer_with at.replica) o) at.side_there
      ∙ ap (λ (p : Peer). Some p) (sym at.is.peer_is)

  -- a replica that is not there is not lent
  pub lends-within : (replica thread : ℕ) → f.job.settings.replicas ≤ replica → false ≡ is_lendable (core_in f) replica thread
  lends-within replica thread far =
      let past : slice_get (core_in f).replicas replica ≡ None = slice_get_past (core_in f).replicas replica (omega (arith, count-is)) in
      let home : Bool = offers (core_in f) replica thread && lives_on (core_in f).kernel thread in
      sym (asleep-unlent (core_in f) replica thread (ap (λ (o : Option Replica). home && option_map_or (is_unstopped thread) o false) past ∙ and_right home false refl))
