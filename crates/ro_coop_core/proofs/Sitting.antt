-- Peers in their seats, one after another: views, memory, events, and who got the mutexes.
use Rattle.std.proofs.Common.{◌≡◌, ℕ, suc, ◌+◌, ◌^◌, ◌<◌, ◌≤◌, min, Bool, true, false, not, ◌&&◌, ◌||◌, List, [], ◌∷◌, length, map, Option, Some, None, refl, sym, ap, ◌∙◌, subst, arith}
use Rattle.std.specs.Prelude.{nat_lt, nat_le, slice_get}
use Rattle.std.specs.List.{filter_map, cons_option}
use Rattle.std.proofs.lemmas.Bool.{lt-ltb}
use Rattle.ro_event.specs.Effects.{Effect}
use Rattle.ro_event.specs.Views.{View}
use Rattle.ro_kernel.specs.Kernel.{Kernel}
use Rattle.ro_replica.specs.Replica.{Replica}
use Rattle.ro_takers.specs.Recalls.{Recalls, list_of}
use Rattle.ro_legal.specs.Sides.{Side, threads_of, taker_of, rank_in, most_apart, is_ahead}
use Rattle.ro_legal.specs.Core.{Job}
use Rattle.ro_legal.specs.Cooperative.{replica_after, replicas_after, side_served}
use Rattle.ro_coop_core.specs.declared.seats.Seat.{Seat}
use Rattle.ro_coop_core.specs.declared.seats.Entering.{Entering}
use Rattle.ro_coop_core.specs.Seats.{IsHomeSeat, AreHome, IsRanked, AreRanked, IsNumbered, AreNumbered, AreNear, KnowMutex, takers_of, entered_of}
use Rattle.ro_coop_core.proofs.Numbered.{its-list}

-- ---- nobody

no-seats : (seats : List Seat) → length seats ≡ 0 → seats ≡ []
no-seats [] e = refl
no-seats (s ∷ seats) e = absurd (omega arith)

no-views : (views : List View) → length views ≡ 0 → views ≡ []
no-views [] e = refl
no-views (v ∷ views) e = absurd (omega arith)

pub nobody-shown : (job : Job) (kernel : Kernel) (show : Replica → Option View) (replicas : List Replica) (sides : List Side) (seats : List Seat) (views : List View) → length seats ≡ 0 → length views ≡ length seats → AreHome job kernel replicas sides seats → views ≡ filter_map show replicas
nobody-shown job kernel show replicas sides seats views none count home = by replicas sides (subst (AreHome job kernel replicas sides) (no-seats seats none) home)
  where
    by : (rs : List Replica) (ds : List Side) → AreHome job kernel rs ds [] → views ≡ filter_map show rs
    by [] [] h = no-views views (count ∙ none)
    by (r ∷ rs) [] h = absurd h
    by (r ∷ rs) (d ∷ ds) h = absurd h
    by [] (d ∷ ds) h = absurd h

pub nobody-there : (job : Job) (before after : Kernel) (effect : Effect) (thread : ℕ) (entering : Option Entering) (replicas : List Replica) (sides : List Side) (seats : List Seat) → length seats ≡ 0 → AreHome job before replicas sides seats
    → AreHome job after (replicas_after effect (entered_of entering) replicas sides) (map (side_served thread (entered_of entering)) sides) seats
nobody-there job before after effect thread entering replicas sides seats none home =
    subst (AreHome job after (replicas_after effect (entered_of entering) replicas sides) (map (side_served thread (entered_of entering)) sides)) (sym (no-seats seats none))
    (by replicas sides (subst (AreHome job before replicas sides) (no-seats seats none) home))
  where
    by : (rs : List Replica) (ds : List Side) → AreHome job before rs ds [] → AreHome job after (replicas_after effect (entered_of entering) rs ds) (map (side_served thread (entered_of entering)) ds) []
    by [] [] h = tt
    by (r ∷ rs) [] h = absurd h
    by (r ∷ rs) (d ∷ ds) h = absurd h
    by [] (d ∷ ds) h = absurd h

-- ---- one more

module _ (job : Job) (kernel : Kernel) (seats : List Seat) (seat : Seat) (others : List Seat) (is : seats ≡ seat ∷ others) where
  -- what holds of one seat and of the others holds of all
  pub home-cons : (Q : List Replica → List Side → Type 0) → ((r : Replica) (d : Side) (rs : List Replica) (ds : List Side) → IsHomeSeat job kernel r d seat → AreHome job kernel rs ds others → Q (r ∷ rs) (d ∷ ds))
      → (replicas : List Replica) (sides : List Side) → AreHome job kernel replicas sides seats → Q replicas sides
  home-cons Q each replicas sides home = by replicas sides (subst (AreHome job kernel replicas sides) is home)
    where
      by : (rs : List Replica) (ds : List Side) → AreHome job kernel rs ds (seat ∷ others) → Q rs ds
      by (r ∷ rs) (d ∷ ds) h = each r d rs ds h.0 h.1
      by [] [] h = absurd h
      by [] (d ∷ ds) h = absurd h
      by (r ∷ rs) [] h = absurd h

  pub shown-cons : (show : Replica → Option View) (view : View) (views : List View) → ((r : Replica) (d : Side) → IsHomeSeat job kernel r d seat → show r ≡ Some view)
      → ((rs : List Replica) (ds : List Side) → AreHome job kernel rs ds others → views ≡ filter_map show rs)
      → (replicas : List Replica) (sides : List Side) → AreHome job kernel replicas sides seats → view ∷ views ≡ filter_map show replicas
  shown-cons show view views one rest = home-cons (λ replicas sides. view ∷ views ≡ filter_map show replicas) (λ r d rs ds h k.
      ap {B = List View} (λ (vs : List View). view ∷ vs) (rest rs ds k) ∙ sym (ap (λ (o : Option View). cons_option o (filter_map show rs)) (one r d h)))

ranked-head : (side : Side) (sides : List Side) → AreRanked (side ∷ sides) → IsRanked side
ranked-head side sides all = all 0 side refl

ranked-tail : (side : Side) (sides : List Side) → AreRanked (side ∷ sides) → AreRanked sides
ranked-tail side sides all number other e = all (suc number) other e

pub occurred-cons : (job : Job) (before after : Kernel) (effect : Effect) (thread : ℕ) (entering : Option Entering) (seats : List Seat) (seat seat' : Seat) (others others' : List Seat) → seats ≡ seat ∷ others
    → ((r : Replica) (d : Side) → IsRanked d → IsHomeSeat job before r d seat → IsHomeSeat job after (replica_after effect (entered_of entering) d r) (side_served thread (entered_of entering) d) seat')
    → ((rs : List Replica) (ds : List Side) → AreRanked ds → AreHome job before rs ds others → AreHome job after (replicas_after effect (entered_of entering) rs ds) (map (side_served thread (entered_of entering)) ds) others')
    → (replicas : List Replica) (sides : List Side) → AreRanked sides → AreHome job before replicas sides seats
    → AreHome job after (replicas_after effect (entered_of entering) replicas sides) (map (side_served thread (entered_of entering)) sides) (seat' ∷ others')
occurred-cons job before after effect thread entering seats seat seat' others others' is one rest replicas sides ranked home =
    home-cons job before seats seat others is (λ rs ds. AreRanked ds → AreHome job after (replicas_after effect (entered_of entering) rs ds) (map (side_served thread (entered_of entering)) ds) (seat' ∷ others'))
    (λ r d rs ds h k all. (one r d (ranked-head d ds all) h, rest rs ds (ranked-tail d ds all) k)) replicas sides home ranked

-- ---- who got a mutex

abbrev taken_by : Option ℕ → Option ℕ → Option ℕ
taken_by None others = others
taken_by here others = here

pub nobody-took : (number address rank : ℕ) (sides : List Side) (seats : List Seat) → length seats ≡ 0 → AreNumbered number address sides seats → None ≡ taker_of sides address rank
nobody-took number address rank sides seats none h = by sides (subst (AreNumbered number address sides) (no-seats seats none) h)
  where
    by : (ds : List Side) → AreNumbered number address ds [] → None ≡ taker_of ds address rank
    by [] k = refl
    by (d ∷ ds) k = absurd k

module _ (number : ℕ) (seats : List Seat) (seat : Seat) (others : List Seat) (is : seats ≡ seat ∷ others) where
  pub known-head : KnowMutex number seats → number < length seat.takers.ranks
  known-head known = known 0 seat (ap (λ (ss : List Seat). slice_get ss 0) is)

  pub known-tail : KnowMutex number seats → KnowMutex number others
  known-tail known place other e = known (suc place) other (ap (λ (ss : List Seat). slice_get ss (suc place)) is ∙ e)

  numbered-cons : (address : ℕ) (Q : List Side → Type 0) → ((d : Side) (ds : List Side) → IsNumbered number address d seat → AreNumbered number address ds others → Q (d ∷ ds)) → (sides : List Side) → AreNumbered number address sides seats → Q sides
  numbered-cons address Q each sides numbered = by sides (subst (AreNumbered number address sides) is numbered)
    where
      by : (ds : List Side) → AreNumbered number address ds (seat ∷ others) → Q ds
      by (d ∷ ds) h = each d ds h.0 h.1
      by [] h = absurd h

  module _ (rank : ℕ) (taker : Option ℕ) (asks : (lists : List (List ℕ)) → Recalls lists seat.takers → length (list_of lists number) ≤ rank + 1024 → taker ≡ slice_get (list_of lists number) rank) where
    its-taker : (address : ℕ) (side : Side) → IsNumbered number address side seat → rank_in side.mutexes address ≤ rank + 1024 → taker ≡ slice_get (threads_of address side.gets) rank
    its-taker address side h near =
        let list = its-list number address side seat h in
        let long : length (list_of (takers_of side) number) ≤ rank + 1024 = subst (λ (l : List ℕ). length l ≤ rank + 1024) (sym list) (let same = h.ranked in omega arith) in
        asks (takers_of side) h.recalls long ∙ ap (λ (l : List ℕ). slice_get l rank) list

    -- this seat knows who
    pub took-here : (thread : ℕ) → taker ≡ Some thread → (sides : List Side) (address : ℕ) → AreNumbered number address sides seats → AreNear address rank sides → Some thread ≡ taker_of sides address rank
    took-here thread e sides address numbered = numbered-cons address (λ ds. AreNear address rank ds → Some thread ≡ taker_of ds address rank)
        (λ d ds h k near. sym (ap (λ (o : Option ℕ). taken_by o (taker_of ds address rank)) (sym (its-taker address d h (near 0 d refl)) ∙ e))) sides numbered

    -- or another one may
    pub took-later : taker ≡ None → (result : Option ℕ) → ((ds : List Side) (address : ℕ) → AreNumbered number address ds others → AreNear address rank ds → result ≡ taker_of ds address rank)
        → (sides : List Side) (address : ℕ) → AreNumbered number address sides seats → AreNear address rank sides → result ≡ taker_of sides address rank
    took-later e result rest sides address numbered = numbered-cons address (λ ds. AreNear address rank ds → result ≡ taker_of ds address rank)
        (λ d ds h k near. rest ds address k (λ place other f. near (suc place) other f) ∙ sym (ap (λ (o : Option ℕ). taken_by o (taker_of ds address rank)) (sym (its-taker address d h (near 0 d refl)) ∙ e))) sides numbered

  -- ---- how far the mutex may go

  lt-min : (r a b : ℕ) → nat_lt r (min a b) ≡ (nat_lt r a && nat_lt r b)
  lt-min r a b = grind arith

  not-le : (a b : ℕ) → nat_lt b a ≡ not (nat_le a b)
  not-le a b = grind arith

  not-or : (a b : Bool) → (not a && not b) ≡ not (a || b)
  not-or true b = refl
  not-or false b = refl

  pub ceiling-cons : (own rest result : ℕ) → result ≡ min own rest → ((lists : List (List ℕ)) → Recalls lists seat.takers → own ≡ length (list_of lists number) + most_apart)
      → ((ds : List Side) (address : ℕ) → AreNumbered number address ds others → (rank : ℕ) → rank < 2 ^ 32 → nat_lt rank rest ≡ not (is_ahead ds address rank))
      → (sides : List Side) (address : ℕ) → AreNumbered number address sides seats → (rank : ℕ) → rank < 2 ^ 32 → nat_lt rank result ≡ not (is_ahead sides address rank)
  ceiling-cons own rest result least its later sides address numbered rank small = numbered-cons address (λ ds. nat_lt rank result ≡ not (is_ahead ds address rank)) (λ d ds h k.
      let ahead : own ≡ rank_in d.mutexes address + most_apart = its (takers_of d) h.recalls ∙ ap (λ (n : ℕ). n + most_apart) (ap length (its-list number address d seat h) ∙ h.ranked) in
      ap (nat_lt rank) least
      ∙ (lt-min rank own rest
      ∙ (ap (λ (b : Bool). b && nat_lt rank rest) (not-le own rank ∙ ap (λ (n : ℕ). not (nat_le n rank)) ahead)
      ∙ (ap (λ (b : Bool). not (nat_le (rank_in d.mutexes address + most_apart) rank) && b) (later ds address k rank small)
      ∙ not-or (nat_le (rank_in d.mutexes address + most_apart) rank) (is_ahead ds address rank))))) sides numbered

pub ceiling-none : (number address : ℕ) (sides : List Side) (seats : List Seat) → length seats ≡ 0 → AreNumbered number address sides seats → (rank : ℕ) → rank < 2 ^ 32 → nat_lt rank 18446744073709551615 ≡ not (is_ahead sides address rank)
ceiling-none number address sides seats none h rank small = by sides (subst (AreNumbered number address sides) (no-seats seats none) h)
  where
    by : (ds : List Side) → AreNumbered number address ds [] → nat_lt rank 18446744073709551615 ≡ not (is_ahead ds address rank)
    by [] k = lt-ltb rank 18446744073709551615 (omega arith)
    by (d ∷ ds) k = absurd k
