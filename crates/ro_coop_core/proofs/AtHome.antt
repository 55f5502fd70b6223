-- Peers that are all in their seats.
use Rattle.std.proofs.Common.{◌≡◌, ℕ, zero, suc, Bool, true, false, true≢false, not, List, [], ◌∷◌, length, Option, Some, None, refl, sym, ap, ap₂, ◌∙◌, subst, arith}
use Rattle.std.specs.Prelude.{◌==◌, ◌&&◌, ◌||◌, is_some, slice_get, slice_index_or}
use Rattle.std.specs.List.{list_all, list_any}
use Rattle.std.specs.Option.{option_map_or}
use Rattle.std.proofs.lemmas.Bool.{and_parts, and_from}
use Rattle.ro_journal.specs.declared.Lease.{Lease}
use Rattle.ro_kernel.specs.Kernel.{Kernel}
use Rattle.ro_replica.specs.Replica.{Replica, stop_of}
use Rattle.ro_replica.specs.Seen.{replica_of}
use Rattle.ro_peer.specs.Peers.{Peer}
use Rattle.ro_plain.proofs.Calls.{some-injective}
use Rattle.ro_legal.specs.Sides.{Side}
use Rattle.ro_legal.specs.Core.{Job, Core, is_home}
use Rattle.ro_legal.specs.Cooperative.{answered_alike}
use Rattle.ro_coop_core.specs.declared.seats.Partner.{Partner}
use Rattle.ro_coop_core.specs.declared.seats.Seat.{Seat}
use Rattle.ro_coop_core.specs.Seats.{Homed, IsSeated, AreSeated, IsHomeSeat, AreHome, seat_answered, seat_stopped}
use Rattle.ro_coop_core.specs.Amid.{first_answered}

-- a seat among others, with its replica and what that has beside
pub record StandsAt (job : Job) (kernel : Kernel) (replicas : List Replica) (sides : List Side) (number : ℕ) (seat : Seat) : Type 0 where
  pub replica : Replica
  pub side : Side
  pub replica_there : slice_get replicas number ≡ Some replica
  pub side_there : slice_get sides number ≡ Some side
  pub home : IsHomeSeat job kernel replica side seat

home-from : (job : Job) (kernel : Kernel) (replicas : List Replica) (sides : List Side) (seats : List Seat) → length seats ≡ length replicas → length sides ≡ length replicas → ((number : ℕ) (seat : Seat) → slice_get seats number ≡ Some seat → StandsAt job kernel replicas sides number seat) → AreHome job kernel replicas sides seats
home-from job kernel [] [] [] as_many sides_many each = tt
home-from job kernel [] [] (t ∷ seats) as_many sides_many each = absurd (omega arith)
home-from job kernel [] (s ∷ sides) seats as_many sides_many each = absurd (omega arith)
home-from job kernel (r ∷ replicas) [] seats as_many sides_many each = absurd (omega arith)
home-from job kernel (r ∷ replicas) (s ∷ sides) [] as_many sides_many each = absurd (omega arith)
home-from job kernel (r ∷ replicas) (s ∷ sides) (t ∷ seats) as_many sides_many each = (
  first (each 0 t refl),
  home-from job kernel replicas sides seats (omega arith) (omega arith) (λ number seat e. rest number seat (each (suc number) seat e)),
)
  where
    first : StandsAt job kernel (r ∷ replicas) (s ∷ sides) 0 t → IsHomeSeat job kernel r s t
    first at = subst (λ (x : Replica). IsHomeSeat job kernel x s t) (sym (some-injective at.replica_there)) (subst (λ (x : Side). IsHomeSeat job kernel at.replica x t) (sym (some-injective at.side_there)) at.home)

    rest : (number : ℕ) (seat : Seat) → StandsAt job kernel (r ∷ replicas) (s ∷ sides) (suc number) seat → StandsAt job kernel replicas sides number seat
    rest number seat at = record { replica = at.replica; side = at.side; replica_there = at.replica_there; side_there = at.side_there; home = at.home }

-- behind one more
behind : (job : Job) (kernel : Kernel) (r : Replica) (s : Side) (replicas : List Replica) (sides : List Side) (number : ℕ) (seat : Seat) → StandsAt job kernel replicas sides number seat → StandsAt job kernel (r ∷ replicas) (s ∷ sides) (suc number) seat
behind job kernel r s replicas sides number seat at = record { replica = at.replica; side = at.side; replica_there = at.replica_there; side_there = at.side_there; home = at.home }

pub home-at : (job : Job) (kernel : Kernel) (replicas : List Replica) (sides : List Side) (seats : List Seat) → AreHome job kernel replicas sides seats → (number : ℕ) (seat : Seat) → slice_get seats number ≡ Some seat → StandsAt job kernel replicas sides number seat
home-at job kernel [] [] [] home number seat e = absurd (let f : None ≡ Some seat = e in cc)
home-at job kernel (r ∷ replicas) (s ∷ sides) (t ∷ seats) home zero seat e = record {
  replica = r;
  side = s;
  replica_there = refl;
  side_there = refl;
  home = subst (IsHomeSeat job kernel r s) (some-injective e) home.0;
}
home-at job kernel (r ∷ replicas) (s ∷ sides) (t ∷ seats) home (suc number) seat e = behind job kernel r s replicas sides number seat (home-at job kernel replicas sides seats home.1 number seat e)
home-at job kernel replicas sides seats home number seat e = absurd home

pub home-count : (job : Job) (kernel : Kernel) (replicas : List Replica) (sides : List Side) (seats : List Seat) → AreHome job kernel replicas sides seats → (length seats ≡ length replicas) × (length sides ≡ length replicas)
home-count job kernel [] [] [] home = (refl, refl)
home-count job kernel (r ∷ replicas) (s ∷ sides) (t ∷ seats) home = let rest = home-count job kernel replicas sides seats home.1 in (ap suc rest.0, ap suc rest.1)
home-count job kernel replicas sides seats home = absurd home

-- ---- of a core of which nothing is lent

nobody-out : (core : Core) (number : ℕ) → core.leases ≡ [] → is_home core number ≡ true
nobody-out core number alone = ap (λ (ls : List Lease). not (list_any (λ lease. lease.replica == number) ls)) alone

pub all-home : (job : Job) (core : Core) (seats : List Seat) → AreSeated job core seats → core.leases ≡ [] → length core.sides ≡ length core.replicas → AreHome job core.kernel core.replicas core.sides seats
all-home job core seats seated alone as_many = home-from job core.kernel core.replicas core.sides seats seated.count as_many (λ number seat e. at number seat (seated.each number seat e) seat.home refl (seated.at_home number seat e))
  where
    at : (number : ℕ) (seat : Seat) → IsSeated job core number seat → (home : Option Partner) → seat.home ≡ home → is_some seat.home ≡ is_home core number → StandsAt job core.kernel core.replicas core.sides number seat
    at number seat s None e there = absurd (true≢false (sym (nobody-out core number alone) ∙ (sym there ∙ ap is_some e)))
    at number seat s (Some partner) e there = record {
      replica = s.replica;
      side = s.side;
      replica_there = s.replica_there;
      side_there = s.side_there;
      home = record { knows = s.knows; partner = partner; home = e; is = subst (Homed job core number s.replica s.side) e s.homed };
    }

pub seated-home : (job : Job) (core : Core) (seats : List Seat) → AreHome job core.kernel core.replicas core.sides seats → core.leases ≡ [] → AreSeated job core seats
seated-home job core seats home alone = record {
  count = (home-count job core.kernel core.replicas core.sides seats home).0;
  each = λ number seat e. seated number seat (home-at job core.kernel core.replicas core.sides seats home number seat e);
  at_home = λ number seat e. there number seat (home-at job core.kernel core.replicas core.sides seats home number seat e);
}
  where
    seated : (number : ℕ) (seat : Seat) → StandsAt job core.kernel core.replicas core.sides number seat → IsSeated job core number seat
    seated number seat at = record {
      replica = at.replica;
      side = at.side;
      replica_there = at.replica_there;
      side_there = at.side_there;
      knows = at.home.knows;
      homed = subst (Homed job core number at.replica at.side) (sym at.home.home) at.home.is;
    }

    there : (number : ℕ) (seat : Seat) → StandsAt job core.kernel core.replicas core.sides number seat → is_some seat.home ≡ is_home core number
    there number seat at = ap is_some at.home.home ∙ sym (nobody-out core number alone)

-- ---- what the seats say of their peers

pub stopped-home : (job : Job) (kernel : Kernel) (thread : ℕ) (replicas : List Replica) (sides : List Side) (seats : List Seat) → AreHome job kernel replicas sides seats → list_all (λ replica. is_some (stop_of replica thread)) replicas ≡ true → list_all (seat_stopped thread) seats ≡ true
stopped-home job kernel thread [] [] [] home all = refl
stopped-home job kernel thread (r ∷ replicas) (s ∷ sides) (t ∷ seats) home all =
    let p = and_parts _ _ all in and_from _ _ (one ∙ p.0) (stopped-home job kernel thread replicas sides seats home.1 p.1)
  where
    one : seat_stopped thread t ≡ is_some (stop_of r thread)
    one = ap (λ (o : Option Partner). option_map_or (λ partner. is_some (stop_of (replica_of partner.peer.replica) thread)) o false) home.0.home ∙ ap (λ (p : Peer). is_some (stop_of p.replica thread)) home.0.is.peer_is
stopped-home job kernel thread replicas sides seats home all = absurd home

-- whether the first answered a call
pub answered-home : (job : Job) (kernel : Kernel) (thread : ℕ) (replicas : List Replica) (sides : List Side) (seats : List Seat) → AreHome job kernel replicas sides seats → first_answered thread seats ≡ option_map_or (λ (side : Side). side.answered thread) (slice_get sides 0) false
answered-home job kernel thread [] [] [] home = refl
answered-home job kernel thread (r ∷ replicas) (s ∷ sides) (t ∷ seats) home =
    ap (λ (o : Option Partner). option_map_or (λ partner. slice_index_or partner.peer.answered thread false) o false) home.0.home ∙ ap (λ (p : Peer). p.answered thread) home.0.is.peer_is
answered-home job kernel thread replicas sides seats home = absurd home

-- whether what is told of each peer's answers is so of all of them
all-answered-home : (told : Bool → Bool) (job : Job) (kernel : Kernel) (thread : ℕ) (replicas : List Replica) (sides : List Side) (seats : List Seat) → AreHome job kernel replicas sides seats → list_all (λ seat. told (seat_answered thread seat)) seats ≡ list_all (λ (side : Side). told (side.answered thread)) sides
all-answered-home told job kernel thread [] [] [] home = refl
all-answered-home told job kernel thread (r ∷ replicas) (s ∷ sides) (t ∷ seats) home =
    ap₂ (λ a b. a && b) (ap told one) (all-answered-home told job kernel thread replicas sides seats home.1)
  where
    one : seat_answered thread t ≡ s.answered thread
    one = ap (λ (o : Option Partner). option_map_or (λ partner. slice_index_or partner.peer.answered thread false) o false) home.0.home ∙ ap (λ (p : Peer). p.answered thread) home.0.is.peer_is
all-answered-home told job kernel thread replicas sides seats home = absurd home

-- all answered a call, or none did
pub alike-home : (job : Job) (kernel : Kernel) (thread : ℕ) (replicas : List Replica) (sides : List Side) (seats : List Seat) → AreHome job kernel replicas sides seats → (list_all (seat_answered thread) seats || list_all (λ seat. not (seat_answered thread seat)) seats) ≡ answered_alike thread sides
alike-home job kernel thread replicas sides seats home =
    ap₂ (λ a b. a || b) (all-answered-home (λ b. b) job kernel thread replicas sides seats home) (all-answered-home not job kernel thread replicas sides seats home)
