-- Replicas in their seats that are changed one at a time.
use Rattle.std.proofs.Common.{◌≡◌, ◌≢◌, ◌⊎◌, inl, inr, ℕ, zero, suc, ◌<◌, ◌≤◌, List, [], ◌∷◌, length, Option, Some, None, get_or, refl, sym, ap, ◌∙◌, subst}
use Rattle.std.specs.Prelude.{Bool, true, is_some, nat_lt, slice_get, slice_set}
use Rattle.std.specs.Option.{option_map_or}
use Rattle.std.proofs.lemmas.Bool.{cases_eq, ltb-true, true≢false}
use Rattle.ro_pages.specs.Held.{has_page}
use Rattle.std.proofs.lemmas.Option.{get_or_from_slice_get, slice_get_read, slice_get_within}
use Rattle.ro_kernel.proofs.Kept.{slice_get-set_other}
use Rattle.ro_plain.proofs.Calls.{some-injective}
use Rattle.ro_replica.specs.Replica.{Replica, recovered}
use Rattle.ro_region.specs.declared.Range.{Range}
use Rattle.ro_region.specs.Permission.{with_range}
use Rattle.ro_plain.proofs.Wider.{widen, layout-widens}
use Rattle.ro_replica.specs.Seen.{ReplicaOf, replica_of, Recovers, AreTwins, Widens}
use Rattle.ro_kernel.specs.Kernel.{Kernel}
use Rattle.ro_legal.specs.Core.{Job}
use Rattle.ro_event.specs.Effects.{Effect}
use Rattle.ro_legal.specs.Event.{all_applied, with_copy}
use Rattle.ro_core.specs.Seen.{IsOfJob}
use Rattle.ro_legal.proofs.Lists.{get-set-same, get-set-cases}
use Rattle.ro_legal.proofs.Copies.{length-copied}
use Rattle.ro_core.specs.Fields.{IsSeat, AreHome, AreSpared, AreAllTwins}

pub home-count : (job : Job) (kernel : Kernel) (seats : List (Option ReplicaOf)) (replicas : List Replica) → AreHome job kernel seats replicas → length seats ≡ length replicas
home-count job kernel [] [] h = refl
home-count job kernel (Some value ∷ seats) (r ∷ replicas) h = ap suc (home-count job kernel seats replicas h.2)
home-count job kernel seats replicas h = absurd h

-- a seat is one of the seats
pub seat-within : (seats : List (Option ReplicaOf)) (place : ℕ) → IsSeat seats place → place < length seats
seat-within seats place s = slice_get_within seats place (Some s.0) s.1

-- a seat at home has its replica
pub home-get : (job : Job) (kernel : Kernel) (seats : List (Option ReplicaOf)) (replicas : List Replica) (i : ℕ) (value : ReplicaOf) → AreHome job kernel seats replicas → slice_get seats i ≡ Some (Some value) → IsOfJob job kernel value × (slice_get replicas i ≡ Some (replica_of value))
home-get job kernel [] replicas i value h e = absurd (let f : None ≡ Some (Some value) = e in cc)
home-get job kernel (None ∷ seats) replicas i value h e = absurd h
home-get job kernel (Some v ∷ seats) [] i value h e = absurd h
home-get job kernel (Some v ∷ seats) (r ∷ replicas) zero value h e =
    let same : v ≡ value = some-injective (some-injective e) in
    (subst (IsOfJob job kernel) same h.0, ap (λ (x : Replica). Some x) (sym h.1 ∙ ap replica_of same))
home-get job kernel (Some v ∷ seats) (r ∷ replicas) (suc i) value h e = home-get job kernel seats replicas i value h.2 e

-- one replica changes
pub home-set : (job : Job) (kernel : Kernel) (seats : List (Option ReplicaOf)) (replicas : List Replica) (i : ℕ) (value : ReplicaOf) (replica : Replica) → AreHome job kernel seats replicas → IsOfJob job kernel value → replica_of value ≡ replica → AreHome job kernel (slice_set seats i (Some value)) (slice_set replicas i replica)
home-set job kernel [] [] i value replica h own same = tt
home-set job kernel (Some v ∷ seats) (r ∷ replicas) zero value replica h own same = (own, same, h.2)
home-set job kernel (Some v ∷ seats) (r ∷ replicas) (suc i) value replica h own same = (h.0, h.1, home-set job kernel seats replicas i value replica h.2 own same)
home-set job kernel seats replicas i value replica h own same = absurd h

pub spared-get : (seats : List (Option ReplicaOf)) (i : ℕ) (value : ReplicaOf) → AreSpared seats → slice_get seats i ≡ Some (Some value) → 3 ≤ value.held.spare
spared-get [] i value h e = absurd (let f : None ≡ Some (Some value) = e in cc)
spared-get (None ∷ seats) zero value h e = absurd (let f : Some None ≡ Some (Some value) = e in cc)
spared-get (None ∷ seats) (suc i) value h e = spared-get seats i value h e
spared-get (Some v ∷ seats) zero value h e = subst (λ (x : ReplicaOf). 3 ≤ x.held.spare) (some-injective (some-injective e)) h.0
spared-get (Some v ∷ seats) (suc i) value h e = spared-get seats i value h.1 e

pub spared-set : (seats : List (Option ReplicaOf)) (i : ℕ) (value : ReplicaOf) → AreSpared seats → 3 ≤ value.held.spare → AreSpared (slice_set seats i (Some value))
spared-set [] i value h few = tt
spared-set (None ∷ seats) zero value h few = (few, h)
spared-set (None ∷ seats) (suc i) value h few = spared-set seats i value h few
spared-set (Some v ∷ seats) zero value h few = (few, h.1)
spared-set (Some v ∷ seats) (suc i) value h few = (h.0, spared-set seats i value h.1 few)

-- one that left and came back
pub set-back : {X : Type 0} (xs : List X) (i j : ℕ) (x y z : X) → i ≢ j → slice_get xs i ≡ Some x → slice_set (slice_set (slice_set xs i y) j z) i x ≡ slice_set xs j z
set-back [] i j x y z differ e = refl
set-back (w ∷ xs) zero zero x y z differ e = absurd (differ refl)
set-back (w ∷ xs) zero (suc j) x y z differ e = ap {B = List _} (λ v. v ∷ slice_set xs j z) (some-injective (sym e))
set-back {X = X} (w ∷ xs) (suc i) zero x y z differ e = ap {B = List _} (λ r. z ∷ r) (back xs i e)
  where
    back : (xs : List X) (i : ℕ) → slice_get xs i ≡ Some x → slice_set (slice_set xs i y) i x ≡ xs
    back [] i f = refl
    back (v ∷ xs) zero f = ap {B = List _} (λ u. u ∷ xs) (some-injective (sym f))
    back (v ∷ xs) (suc i) f = ap {B = List _} (λ r. v ∷ r) (back xs i f)
set-back (w ∷ xs) (suc i) (suc j) x y z differ e = ap {B = List _} (λ r. w ∷ r) (set-back xs i j x y z (λ f. differ (ap suc f)) e)

-- ---- a recovery

-- the loser's seat while the winner is away
pub loser-there : (seats : List (Option ReplicaOf)) (won lost : ℕ) (loser : ReplicaOf) (d : Option ReplicaOf) → won ≢ lost → slice_get seats lost ≡ Some (Some loser) → get_or (slice_set seats won None) lost d ≡ Some loser
loser-there seats won lost loser d differ e = get_or_from_slice_get (slice_set seats won None) lost (Some loser) d (slice_get-set_other seats won lost None differ ∙ e)

recovered-is : (won lost : ℕ) (replicas : List Replica) (winner loser : Replica) → slice_get replicas won ≡ Some winner → slice_get replicas lost ≡ Some loser → with_copy won lost replicas ≡ slice_set replicas lost (recovered winner loser)
recovered-is won lost replicas winner loser a b =
    ap (λ (o : Option Replica). option_map_or (λ w. option_map_or (λ l. slice_set replicas lost (recovered w l)) (slice_get replicas lost) replicas) o replicas) a
    ∙ ap (λ (o : Option Replica). option_map_or (λ l. slice_set replicas lost (recovered winner l)) o replicas) b

pub recovery-home : (job : Job) (kernel : Kernel) (seats : List (Option ReplicaOf)) (replicas : List Replica) (won lost : ℕ) (winner loser other : ReplicaOf) → won ≢ lost → slice_get seats won ≡ Some (Some winner) → slice_get seats lost ≡ Some (Some loser)
    → Recovers winner loser other → AreHome job kernel seats replicas → AreHome job kernel (slice_set (slice_set (slice_set seats won None) lost (Some other)) won (Some winner)) (with_copy won lost replicas)
recovery-home job kernel seats replicas won lost winner loser other differ a b r home =
    let w = home-get job kernel seats replicas won winner home a in
    let l = home-get job kernel seats replicas lost loser home b in
    let own : IsOfJob job kernel other = record { layout = r.program.layout ∙ l.0.layout; given = r.program.given ∙ l.0.given; watchdog = r.program.watchdog ∙ l.0.watchdog } in
    subst (λ (xs : List (Option ReplicaOf)). AreHome job kernel xs (with_copy won lost replicas)) (sym (set-back seats won lost (Some winner) None (Some other) differ a))
    (subst (AreHome job kernel (slice_set seats lost (Some other))) (sym (recovered-is won lost replicas (replica_of winner) (replica_of loser) w.1 l.1))
    (home-set job kernel seats replicas lost other (recovered (replica_of winner) (replica_of loser)) home own r.recovered))

pub recovery-spared : (seats : List (Option ReplicaOf)) (won lost : ℕ) (winner loser other : ReplicaOf) → won ≢ lost → slice_get seats won ≡ Some (Some winner) → slice_get seats lost ≡ Some (Some loser)
    → Recovers winner loser other → AreSpared seats → AreSpared (slice_set (slice_set (slice_set seats won None) lost (Some other)) won (Some winner))
recovery-spared seats won lost winner loser other differ a b r spared =
    subst AreSpared (sym (set-back seats won lost (Some winner) None (Some other) differ a))
    (spared-set seats lost other spared (subst (λ (n : ℕ). 3 ≤ n) (sym r.spare) (spared-get seats lost loser spared b)))

-- the copy is as much a twin of each as the loser was
other-twin : (winner loser other value : ReplicaOf) → Recovers winner loser other → AreTwins winner loser → AreTwins winner value → AreTwins other value
unfolding recovered
other-twin winner loser other value r t u =
    let b : (page : ℕ) → has_page other.held.pages page ≡ has_page winner.held.pages page = λ page. ap (λ (x : Replica). x.backed page) r.recovered in
    record {
      program = record { layout = r.program.layout ∙ (sym t.program.layout ∙ u.program.layout); given = r.program.given ∙ (sym t.program.given ∙ u.program.given); watchdog = r.program.watchdog ∙ (sym t.program.watchdog ∙ u.program.watchdog) };
      pages = λ page. b page ∙ u.pages page;
      threads = ap {B = ℕ} (λ (x : Replica). length x.threads) r.recovered ∙ (length-copied winner.threads loser.threads t.threads ∙ u.threads);
    }

turned-twin : (one other : ReplicaOf) → AreTwins one other → AreTwins other one
turned-twin one other t = record {
  program = record { layout = sym t.program.layout; given = sym t.program.given; watchdog = sym t.program.watchdog };
  pages = λ page. sym (t.pages page);
  threads = sym t.threads;
}

-- what is in a seat after one was set
set-case : (seats : List (Option ReplicaOf)) (lost place : ℕ) (other value : ReplicaOf) → slice_get (slice_set seats lost (Some other)) place ≡ Some (Some value) → (slice_get seats place ≡ Some (Some value)) ⊎ (other ≡ value)
set-case seats lost place other value e = by (get-set-cases seats lost place (Some other) (Some value) e)
  where
    by : ((place ≢ lost) × (slice_get seats place ≡ Some (Some value))) ⊎ ((place ≡ lost) × (Some other ≡ Some value)) → (slice_get seats place ≡ Some (Some value)) ⊎ (other ≡ value)
    by (inl g) = inl g.1
    by (inr g) = inr (some-injective g.1)

-- all are twins after a recovery
pub recovery-twins : (seats : List (Option ReplicaOf)) (won lost : ℕ) (winner loser other : ReplicaOf) → won ≢ lost → slice_get seats won ≡ Some (Some winner) → slice_get seats lost ≡ Some (Some loser)
    → Recovers winner loser other → AreAllTwins seats → AreAllTwins (slice_set (slice_set (slice_set seats won None) lost (Some other)) won (Some winner))
recovery-twins seats won lost winner loser other differ a b r all =
    subst AreAllTwins (sym (set-back seats won lost (Some winner) None (Some other) differ a))
    (λ place elsewhere one two e f. by place elsewhere one two (set-case seats lost place other one e) (set-case seats lost elsewhere other two f))
  where
    mate : (value : ReplicaOf) (place : ℕ) → slice_get seats place ≡ Some (Some value) → AreTwins other value
    mate value place e = other-twin winner loser other value r (all won lost winner loser a b) (all won place winner value a e)

    itself : AreTwins other other
    itself = record { program = record { layout = refl; given = refl; watchdog = refl }; pages = λ page. refl; threads = refl }

    by : (place elsewhere : ℕ) (one two : ReplicaOf) → (slice_get seats place ≡ Some (Some one)) ⊎ (other ≡ one) → (slice_get seats elsewhere ≡ Some (Some two)) ⊎ (other ≡ two) → AreTwins one two
    by place elsewhere one two (inl e) (inl f) = all place elsewhere one two e f
    by place elsewhere one two (inl e) (inr g) = subst (AreTwins one) g (turned-twin other one (mate one place e))
    by place elsewhere one two (inr g) (inl f) = subst (λ (x : ReplicaOf). AreTwins x two) g (mate two elsewhere f)
    by place elsewhere one two (inr g) (inr k) = subst (λ (x : ReplicaOf). AreTwins x two) g (subst (AreTwins other) k itself)

-- and each is in its seat
pub recovery-seats : (seats : List (Option ReplicaOf)) (won lost : ℕ) (winner loser other : ReplicaOf) → won ≢ lost → slice_get seats won ≡ Some (Some winner) → slice_get seats lost ≡ Some (Some loser)
    → (place : ℕ) → IsSeat seats place → IsSeat (slice_set (slice_set (slice_set seats won None) lost (Some other)) won (Some winner)) place
recovery-seats seats won lost winner loser other differ a b place s =
    subst (λ (xs : List (Option ReplicaOf)). IsSeat xs place) (sym (set-back seats won lost (Some winner) None (Some other) differ a)) (by (cases_eq lost place))
  where
    by : (lost ≡ place) ⊎ (lost ≢ place) → IsSeat (slice_set seats lost (Some other)) place
    by (inl e) = (other, ap (slice_get (slice_set seats lost (Some other))) (sym e) ∙ get-set-same seats lost (Some loser) (Some other) b)
    by (inr d) = (s.0, slice_get-set_other seats lost place (Some other) d ∙ s.1)

-- what is of the job before an event is of it behind
pub widens-own : (job : Job) (before after : Kernel) (range : Option Range) (value value' : ReplicaOf) → after.given ≡ with_range range before.given → Widens range value' value → IsOfJob job before value → IsOfJob job after value'
widens-own job before after range value value' gives w own = record {
  layout = w.layout ∙ ap (widen range) own.layout ∙ sym (layout-widens job.program before after range gives);
  given = w.given ∙ ap (with_range range) own.given ∙ sym gives;
  watchdog = w.watchdog ∙ own.watchdog;
}

-- one replica more that an event has reached
pub applied-cons : (job : Job) (before after : Kernel) (effect : Effect) (seats : List (Option ReplicaOf)) (replicas : List Replica) (seat seat' : Option ReplicaOf) (others others' : List (Option ReplicaOf)) → seats ≡ seat ∷ others → AreHome job before seats replicas
    → ((replica : Replica) → AreHome job before (seat ∷ []) (replica ∷ []) → AreHome job after (seat' ∷ []) (all_applied effect (replica ∷ [])))
    → ((rest : List Replica) → AreHome job before others rest → AreHome job after others' (all_applied effect rest))
    → AreHome job after (seat' ∷ others') (all_applied effect replicas)
applied-cons job before after effect seats replicas seat seat' others others' is home first rest = by seat seat' replicas (subst (λ (xs : List (Option ReplicaOf)). AreHome job before xs replicas) is home) first
  where
    by : (seat seat' : Option ReplicaOf) (replicas : List Replica) → AreHome job before (seat ∷ others) replicas → ((replica : Replica) → AreHome job before (seat ∷ []) (replica ∷ []) → AreHome job after (seat' ∷ []) (all_applied effect (replica ∷ []))) → AreHome job after (seat' ∷ others') (all_applied effect replicas)
    by None seat' replicas h f = absurd h
    by (Some value) seat' [] h f = absurd h
    by (Some value) None (r ∷ replicas) h f = absurd (f r (h.0, h.1, tt))
    by (Some value) (Some value') (r ∷ replicas) h f = let one = f r (h.0, h.1, tt) in (one.0, one.1, rest replicas h.2)

-- what an index finds in a seat in which a replica is
pub seat-found : (seats : List (Option ReplicaOf)) (place : ℕ) (value : ReplicaOf) (found : Option ReplicaOf) → slice_get seats place ≡ Some (Some value) → found ≡ get_or seats place found → found ≡ Some value
seat-found seats place value found there is = is ∙ get_or_from_slice_get seats place (Some value) found there

-- whether a replica is in the seat that is found in this place
pub seat-shown : (seats : List (Option ReplicaOf)) (place : ℕ) (shown : List (Option ReplicaOf)) (found : Option ReplicaOf) (some : Bool) → shown ≡ seats → true ≡ nat_lt place (length shown) → found ≡ get_or shown place found → some ≡ is_some found
    → (some ≡ true → IsSeat seats place) × (IsSeat seats place → some ≡ true)
seat-shown seats place shown found some same less is so = (λ e. by found at (sym so ∙ e), λ seat. so ∙ ap is_some (some-injective (sym at ∙ seat.1)))
  where
    at : slice_get seats place ≡ Some found
    at = sym (ap (λ (xs : List (Option ReplicaOf)). slice_get xs place) same) ∙ slice_get_read shown (length shown) place found refl (ltb-true place (length shown) (sym less)) is

    by : (o : Option ReplicaOf) → slice_get seats place ≡ Some o → is_some o ≡ true → IsSeat seats place
    by None there e = absurd (true≢false (sym e))
    by (Some value) there e = (value, there)
