-- The seats of peers, of which one changes; and one at the opening.
use Rattle.std.proofs.Common.{◌≡◌, ◌≢◌, ◌⊎◌, inl, inr, ℕ, zero, suc, List, [], length, replicate, Option, Some, None, refl, sym, ap, ◌∙◌, subst, arith}
use Rattle.std.specs.Prelude.{is_some, slice_get, slice_set, slice_index_or}
use Rattle.std.proofs.lemmas.List.{length-set}
use Rattle.std.proofs.lemmas.Option.{slice_get_within}
use Rattle.ro_kernel.specs.Kernel.{Kernel}
use Rattle.ro_plain.proofs.Calls.{some-injective}
use Rattle.ro_replica.specs.Replica.{Replica}
use Rattle.ro_peer.specs.Seen.{peer_of}
use Rattle.ro_takers.specs.Recalls.{Recalls, StandIn, list_of}
use Rattle.ro_legal.specs.declared.parkings.Parking.{Parking}
use Rattle.ro_legal.specs.Sides.{Side, opening_side, peer_with}
use Rattle.ro_legal.specs.Core.{Job, Core, is_home}
use Rattle.ro_legal.specs.Lent.{IsOfJob}
use Rattle.ro_legal.proofs.Lists.{get-within, get-set-cases}
use Rattle.ro_coop_core.specs.declared.seats.Seat.{Seat}
use Rattle.ro_coop_core.specs.declared.seats.Partner.{Partner}
use Rattle.ro_coop_core.specs.Seats.{Homed, IsSeated, AreSeated, IsPartner, IsHomeSeat, HasDoneNothing, takers_of}

-- ---- one seat changes

-- a seat that the entry leaves alone
same-seat : (job : Job) (old new : Core) (number : ℕ) (seat : Seat) → new.kernel ≡ old.kernel → is_home new number ≡ is_home old number → slice_get new.replicas number ≡ slice_get old.replicas number → slice_get new.sides number ≡ slice_get old.sides number
    → IsSeated job old number seat → IsSeated job new number seat
same-seat job old new number seat kernel home replicas sides s = record {
  replica = s.replica;
  side = s.side;
  replica_there = replicas ∙ s.replica_there;
  side_there = sides ∙ s.side_there;
  knows = s.knows;
  homed = by seat.home s.homed;
}
  where
    by : (o : Option Partner) → Homed job old number s.replica s.side o → Homed job new number s.replica s.side o
    by None h = home ∙ h
    by (Some partner) h = subst (λ (k : Kernel). IsPartner job k s.replica s.side partner) (sym kernel) h

-- one seat changes, and nothing of any other
pub seat-changes : (job : Job) (old new : Core) (seats : List Seat) (number : ℕ) (seat seat' : Seat) → AreSeated job old seats → slice_get seats number ≡ Some seat
    → length new.replicas ≡ length old.replicas → new.kernel ≡ old.kernel
    → ((other : ℕ) → other ≢ number → (is_home new other ≡ is_home old other) × (slice_get new.replicas other ≡ slice_get old.replicas other) × (slice_get new.sides other ≡ slice_get old.sides other))
    → IsSeated job new number seat' → is_some seat'.home ≡ is_home new number → AreSeated job new (slice_set seats number seat')
seat-changes job old new seats number seat seat' seated there count kernel others its home = record {
  count = length-set seats number seat' ∙ (seated.count ∙ sym count);
  each = λ other s e. each-is other s (get-set-cases seats number other seat' s e);
  at_home = λ other s e. home-is other s (get-set-cases seats number other seat' s e);
}
  where
    each-is : (other : ℕ) (s : Seat) → ((other ≢ number) × (slice_get seats other ≡ Some s)) ⊎ ((other ≡ number) × (seat' ≡ s)) → IsSeated job new other s
    each-is other s (inl e) = let same = others other e.0 in same-seat job old new other s kernel same.0 same.1 same.2 (seated.each other s e.1)
    each-is other s (inr e) = subst (λ (n : ℕ). IsSeated job new n s) (sym e.0) (subst (IsSeated job new number) e.1 its)

    home-is : (other : ℕ) (s : Seat) → ((other ≢ number) × (slice_get seats other ≡ Some s)) ⊎ ((other ≡ number) × (seat' ≡ s)) → is_some s.home ≡ is_home new other
    home-is other s (inl e) = seated.at_home other s e.1 ∙ sym (others other e.0).0
    home-is other s (inr e) = ap (λ (x : Seat). is_some x.home) (sym e.1) ∙ (home ∙ ap (is_home new) (sym e.0))

-- the seat of a replica that is there
pub seat-there : (job : Job) (core : Core) (seats : List Seat) (number : ℕ) (replica : Replica) → AreSeated job core seats → slice_get core.replicas number ≡ Some replica → (seat : Seat) × (slice_get seats number ≡ Some seat)
seat-there job core seats number replica seated e =
    get-within seats number (let less = slice_get_within core.replicas number replica e in let count = seated.count in omega arith)

-- ---- one seat

-- a seat whose home alone changes, and what it has room for
pub kept-seat : (job : Job) (kernel : Kernel) (replica : Replica) (side : Side) (old new : Seat) (partner partner' : Partner) → new.parked ≡ old.parked → new.done ≡ old.done → new.takers.ranks ≡ old.takers.ranks → new.takers.rings ≡ old.takers.rings
    → old.home ≡ Some partner → new.home ≡ Some partner' → (IsPartner job kernel replica side partner → IsPartner job kernel replica side partner') → IsHomeSeat job kernel replica side old → IsHomeSeat job kernel replica side new
kept-seat job kernel replica side old new partner partner' parked done ranks rings was is keeps h = record {
  knows = record {
    parked_count = ap length parked ∙ h.knows.parked_count;
    parked = λ thread. ap (λ (ps : List (Option Parking)). slice_index_or ps thread None) parked ∙ h.knows.parked thread;
    done_count = ap length done ∙ h.knows.done_count;
    done = λ thread. ap (λ (ns : List ℕ). slice_index_or ns thread 0) done ∙ h.knows.done thread;
    takers = record {
      ranks = ranks ∙ h.knows.takers.ranks;
      last = λ number. subst (λ (rs : List ℕ). StandIn rs number (list_of (takers_of side) number)) (sym rings) (h.knows.takers.last number);
    };
  };
  partner = partner';
  home = is;
  is = keeps (subst (IsPartner job kernel replica side) (some-injective (sym h.home ∙ was)) h.is);
}

abbrev none : Option Parking
none = None

no-parking : (n thread : ℕ) → slice_index_or (replicate n none) thread None ≡ None
no-parking zero thread = refl
no-parking (suc n) zero = refl
no-parking (suc n) (suc thread) = no-parking n thread

abbrev no_steps : ℕ
no_steps = 0

nothing-done : (n thread : ℕ) → slice_index_or (replicate n no_steps) thread 0 ≡ no_steps
nothing-done zero thread = refl
nothing-done (suc n) zero = refl
nothing-done (suc n) (suc thread) = nothing-done n thread

-- the seat of a peer at the opening
pub opening-seat : (job : Job) (kernel : Kernel) (replica : Replica) (seat : Seat) (partner : Partner) → seat.parked ≡ replicate 16 none → seat.done ≡ replicate 16 no_steps → Recalls [] seat.takers → seat.home ≡ Some partner → partner.ceilings.items ≡ []
    → IsOfJob job kernel partner.peer.replica → peer_of partner.peer ≡ peer_with replica opening_side → HasDoneNothing replica → IsHomeSeat job kernel replica opening_side seat
opening-seat job kernel replica seat partner parked done takers home ceilings own peer idle = record {
  knows = record {
    parked_count = ap length parked;
    parked = λ thread. ap (λ (ps : List (Option Parking)). slice_index_or ps thread None) parked ∙ no-parking 16 thread;
    done_count = ap length done;
    done = λ thread. ap (λ (ns : List ℕ). slice_index_or ns thread 0) done ∙ (nothing-done 16 thread ∙ sym (idle thread));
    takers = takers;
  };
  partner = partner;
  home = home;
  is = record { of_job = own; peer_is = peer; ceilings = ap length ceilings };
}
