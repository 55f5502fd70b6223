-- An event that is done in every peer and noted: what it asks of their seats, and what threads have retired behind it.
use Rattle.std.proofs.Common.{◌≡◌, ℕ, zero, suc, ◌+◌, ◌<◌, ◌≤◌, max, Bool, true, false, List, [], ◌∷◌, ◌++◌, length, length-append, Option, Some, None, refl, sym, ap, ◌∙◌, subst, arith}
use Rattle.std.specs.Prelude.{◌==◌, ◌||◌, ◌^◌, IfSome, if◌then◌else◌, slice_get, vec_len, vec_capacity}
use Rattle.std.specs.List.{list_any}
use Rattle.std.specs.Option.{option_map}
use Rattle.ro_event.specs.declared.effects.Made.{Made}
use Rattle.ro_event.specs.Effects.{Effect}
use Rattle.ro_event.specs.Functions.{functions}
use Rattle.ro_mutex.specs.Owners.{Owners, owner_of}
use Rattle.ro_region.specs.declared.Range.{Range}
use Rattle.ro_thread.specs.declared.Thread.{Thread}
use Rattle.ro_replica.specs.Replica.{Replica}
use Rattle.ro_replica.specs.Seen.{CanApply}
use Rattle.ro_orders.specs.Choices.{has_otherwise}
use Rattle.ro_peer.specs.declared.mutexes.Mutex.{Mutex}
use Rattle.ro_peer.specs.Peers.{Peer}
use Rattle.ro_peer.specs.Seen.{number_of}
use Rattle.ro_peer.specs.Gets.{voted}
use Rattle.ro_plain.specs.Machine.{Program}
use Rattle.ro_plain.proofs.Calls.{some-injective}
use Rattle.ro_legal.specs.Sides.{Side}
use Rattle.ro_legal.specs.Core.{Job, Core}
use Rattle.ro_legal.specs.Cooperative.{done_in, most_done, replica_after, replicas_after}
use Rattle.ro_legal.specs.Kept.{table_of, addresses_of, cooperative_in}
use Rattle.ro_legal.proofs.Lists.{length-mapped}
use Rattle.ro_coop_core.specs.declared.seats.Partner.{Partner}
use Rattle.ro_coop_core.specs.declared.seats.Seat.{Seat}
use Rattle.ro_coop_core.specs.declared.seats.Entering.{Entering}
use Rattle.ro_coop_core.specs.Seats.{IsPartner, AreHome, AreSpared, CanTake, AllCanTake, entered_of}
use Rattle.ro_coop_core.specs.Amid.{entering_of}
use Rattle.ro_coop_core.proofs.Happening.{done-behind}

-- ---- what threads have retired

-- an event retires nothing
pub most-same : (effect : Effect) (entered : List Mutex) (replicas : List Replica) (sides : List Side) (u : ℕ) → length sides ≡ length replicas → most_done (replicas_after effect entered replicas sides) u ≡ most_done replicas u
most-same effect entered [] sides u as_many = refl
most-same effect entered (r ∷ replicas) [] u as_many = absurd (omega arith)
most-same effect entered (r ∷ replicas) (s ∷ sides) u as_many =
    ap (λ (n : ℕ). max n (most_done (replicas_after effect entered replicas sides) u)) (done-behind effect entered s r u)
    ∙ ap (max (done_in r u)) (most-same effect entered replicas sides u (omega arith))

-- ---- the mutex that enters

-- where the replica and its side come behind it
pub after-there : (effect : Effect) (entered : List Mutex) (replicas : List Replica) (sides : List Side) (number : ℕ) (replica : Replica) (side : Side) → slice_get replicas number ≡ Some replica → slice_get sides number ≡ Some side → slice_get (replicas_after effect entered replicas sides) number ≡ Some (replica_after effect entered side replica)
after-there effect entered [] sides number replica side e g = absurd (let f : None ≡ Some replica = e in cc)
after-there effect entered (r ∷ replicas) [] number replica side e g = absurd (let f : None ≡ Some side = g in cc)
after-there effect entered (r ∷ replicas) (s ∷ sides) zero replica side e g = ap (λ (x : Replica). Some (replica_after effect entered s x)) (some-injective e) ∙ ap (λ (x : Side). Some (replica_after effect entered x replica)) (some-injective g)
after-there effect entered (r ∷ replicas) (s ∷ sides) (suc number) replica side e g = after-there effect entered replicas sides number replica side e g

not-in-table : (owners : Owners) (a : ℕ) → owner_of owners a ≡ None → list_any (λ (n : ℕ). n == a) (table_of owners) ≡ false
not-in-table [] a none = refl
not-in-table (e ∷ owners) a none = by (e.0 == a) none (not-in-table owners a)
  where
    by : (b : Bool) → (if b then Some e.1 else owner_of owners a) ≡ None → (owner_of owners a ≡ None → list_any (λ (n : ℕ). n == a) (table_of owners) ≡ false) → (b || list_any (λ (n : ℕ). n == a) (table_of owners)) ≡ false
    by true g rest = absurd (let k : Some e.1 ≡ None = g in cc)
    by false g rest = rest g

pub not-numbered : (ms : List Mutex) (a : ℕ) → list_any (λ (n : ℕ). n == a) (addresses_of ms) ≡ false → number_of ms a ≡ None
not-numbered [] a none = refl
not-numbered (m ∷ ms) a none = by (m.address == a) none (not-numbered ms a)
  where
    by : (b : Bool) → (b || list_any (λ (n : ℕ). n == a) (addresses_of ms)) ≡ false → (list_any (λ (n : ℕ). n == a) (addresses_of ms) ≡ false → number_of ms a ≡ None) → (if b then Some 0 else option_map suc (number_of ms a)) ≡ None
    by true g rest = absurd (let k : true ≡ false = g in cc)
    by false g rest = ap (option_map suc) (rest g)

pub not-cooperative : (program : Program) (owners : Owners) (a : ℕ) → owner_of owners a ≡ None → list_any (λ (n : ℕ). n == a) (cooperative_in program owners) ≡ false
not-cooperative program owners a none = by (has_otherwise program.image.calls.addresses functions)
  where
    by : (b : Bool) → list_any (λ (n : ℕ). n == a) (if b then [] else table_of owners) ≡ false
    by true = refl
    by false = not-in-table owners a none

pub few-cooperative : (program : Program) (owners : Owners) → length owners ≤ 256 → length (cooperative_in program owners) ≤ 256
few-cooperative program owners few = by (has_otherwise program.image.calls.addresses functions)
  where
    by : (b : Bool) → length (if b then [] else table_of owners) ≤ 256
    by true = omega arith
    by false = let same = length-mapped (λ (e : ℕ × Option ℕ). e.0) owners in omega arith

-- the address of what enters is the newcomer's
pub entering-address : (owners : Owners) (newcomer : Option ℕ) (entered : Entering) → entering_of owners newcomer ≡ Some entered → newcomer ≡ Some entered.address
entering-address owners None entered e = absurd (let f : None ≡ Some entered = e in cc)
entering-address owners (Some address) entered e = by (owner_of owners address) e
  where
    by : (o : Option (Option ℕ)) → option_map (λ (owner : Option ℕ). record { address = address; owner = owner }) o ≡ Some entered → Some address ≡ Some entered.address
    by None f = absurd (let g : None ≡ Some entered = f in cc)
    by (Some owner) f = ap (λ (x : Entering). Some x.address) (some-injective f)

-- a mutex more is among those that are answered for by now
pub few-before : (ms : List Mutex) (entering : Option Entering) (entered : Entering) → entering ≡ Some entered → length (addresses_of (ms ++ entered_of entering)) ≤ 256 → length ms < 256
few-before ms entering entered e few =
    let more : length (addresses_of (ms ++ entered_of entering)) ≡ length ms + 1 = length-mapped (λ (m : Mutex). m.address) (ms ++ entered_of entering) ∙ length-append ms (entered_of entering) ∙ ap (λ (o : Option Entering). length ms + length (entered_of o)) e in
    omega arith

-- ---- the event can be given to each peer

-- what is known of the event, and of the kernel before it
pub record CanCome (job : Job) (core : Core) (effect : Effect) (thread : ℕ) : Type 0 where
  pub own : effect.thread ≡ thread
  pub live : thread < length core.kernel.lives
  pub few_lives : length core.kernel.lives ≤ 16
  pub creator : (made : Made) → effect.made ≡ Some made → (made.creator ≡ thread) × (length core.kernel.lives < 16)
  pub few : length effect.bytes ≤ 4096
  pub within : effect.place + length effect.bytes ≤ 2 ^ 32
  pub low : IfSome effect.page (λ page. page < 2 ^ 20)
  pub room : IfSome effect.range (λ range. length core.kernel.given < 4096)

-- what is known of a replica and its side, and of the mutex that enters
pub record CanEnter (core : Core) (entering : Option Entering) (replica : Replica) (side : Side) : Type 0 where
  pub made : length replica.threads ≡ length core.kernel.lives
  pub clean : (place : ℕ) (x : Thread) → slice_get replica.threads place ≡ Some x → voted side.mutexes x.stop ≡ x.stop
  pub few : (entered : Entering) → entering ≡ Some entered → length side.mutexes < 256
  pub new : (entered : Entering) → entering ≡ Some entered → number_of side.mutexes entered.address ≡ None

module _ (job : Job) (core : Core) (effect : Effect) (thread : ℕ) (comes : CanCome job core effect thread) where
  applies : (replica : Replica) (side : Side) (partner : Partner) → length replica.threads ≡ length core.kernel.lives → IsPartner job core.kernel replica side partner → 3 ≤ partner.peer.replica.held.spare → CanApply effect partner.peer.replica
  applies replica side partner made is spare = record {
    made = let own = comes.own in let live = comes.live in omega (arith, many);
    creator = creator effect.made refl;
    few = comes.few;
    within = comes.within;
    page = comes.low;
    spare = spare;
    room = subst (λ (given : List Range). IfSome effect.range (λ range. length given < 4096)) (sym is.of_job.given) comes.room;
  }
    where
      many : length partner.peer.replica.threads ≡ length core.kernel.lives
      many = ap (λ (p : Peer). length p.replica.threads) is.peer_is ∙ made

      creator : (o : Option Made) → effect.made ≡ o → IfSome o (λ m. (m.creator < length partner.peer.replica.threads) × (length partner.peer.replica.threads < 16))
      creator None e = tt
      creator (Some m) e = let c = comes.creator m e in let live = comes.live in (omega (arith, c.0, many), omega (arith, c.1, many))

  takes : (entering : Option Entering) (replica : Replica) (side : Side) (partner : Partner) → CanEnter core entering replica side → IsPartner job core.kernel replica side partner → 3 ≤ partner.peer.replica.held.spare → vec_len partner.ceilings < vec_capacity partner.ceilings → CanTake effect thread entering partner
  takes entering replica side partner can is spare room = record {
    applies = applies replica side partner can.made is spare;
    thread_made = let few = comes.few_lives in let live = comes.live in omega arith;
    clean = λ place x e. ap (λ (ms : List Mutex). voted ms x.stop) mutexes ∙ can.clean place x (ap (λ (xs : List Thread). slice_get xs place) (sym threads) ∙ e);
    few = λ entered e. let same = ap length mutexes in let less = can.few entered e in omega arith;
    new = λ entered e. ap (λ (ms : List Mutex). number_of ms entered.address) mutexes ∙ can.new entered e;
    room = λ entered e. room;
  }
    where
      mutexes : partner.peer.mutexes ≡ side.mutexes
      mutexes = ap (λ (p : Peer). p.mutexes) is.peer_is

      threads : partner.peer.replica.threads ≡ replica.threads
      threads = ap (λ (p : Peer). p.replica.threads) is.peer_is

  pub all-take : (entering : Option Entering) (replicas : List Replica) (sides : List Side) (seats : List Seat) → AreHome job core.kernel replicas sides seats → AreSpared seats → ((number : ℕ) (replica : Replica) (side : Side) → slice_get replicas number ≡ Some replica → slice_get sides number ≡ Some side → CanEnter core entering replica side) → AllCanTake effect thread entering seats
  all-take entering [] [] [] home spared each = tt
  all-take entering (r ∷ replicas) (s ∷ sides) (t ∷ seats) home spared each = (
    λ partner e. takes entering r s partner (each 0 r s refl refl) (subst (IsPartner job core.kernel r s) (some-injective (sym home.0.home ∙ e)) home.0.is) (spared.0.pages partner e) (spared.0.ceilings partner e),
    spared.0.takers,
    all-take entering replicas sides seats home.1 spared.1 (λ number replica side e g. each (suc number) replica side e g),
  )
  all-take entering replicas sides seats home spared each = absurd home
