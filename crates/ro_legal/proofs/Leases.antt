-- The leases that are out: no two of them are of one replica, nor of one driver.
use Rattle.std.proofs.Common.{◌≡◌, ℕ, ◌+◌, ◌≤◌, Bool, true, false, true≢false, not, cond, ◌&&◌, ◌||◌, List, [], ◌∷◌, length, Option, Some, None, refl, sym, ap, ◌∙◌, subst, arith, eqb-true, eq-eqb}
use Rattle.std.specs.Prelude.{◌==◌, slice_get, take}
use Rattle.std.specs.List.{filter, find, list_any}
use Rattle.std.specs.Option.{option_map_or}
use Rattle.std.proofs.lemmas.Bool.{and_parts, and_from}
use Rattle.std.proofs.lemmas.List.Filters.{length-filter_both}
use Rattle.ro_event.specs.declared.stops.Stop.{Stop}
use Rattle.ro_journal.specs.Losers.{numbers}
use Rattle.ro_journal.specs.declared.Entry.{Entry}
use Rattle.ro_journal.specs.declared.Entry.TheVariants.{Take, Put, Part, Vote, Free, Scrub, End}
use Rattle.ro_replica.specs.Replica.{Replica}
use Rattle.ro_replica.specs.Runs.{RanTo}
use Rattle.ro_replica.specs.Views.{is_unstopped}
use Rattle.ro_journal.specs.declared.Lease.{Lease}
use Rattle.ro_journal.specs.Leases.{lease_to}
use Rattle.ro_legal.specs.Sides.{Side}
use Rattle.ro_legal.specs.Parts.{Sharing, is_lent}
use Rattle.ro_legal.specs.Core.{Job, Core, opening_core, is_home, is_lease, is_kept, is_parked, is_taken, is_free, bars, is_open, shares, offers, offers_by, is_awake, is_lendable}
use Rattle.ro_kernel.specs.Kernel.{lives_on, ranges_in}
use Rattle.ro_legal.specs.Event.{Event, with_recovered}
use Rattle.ro_legal.specs.Legal.{arrival, faulted, wishing, missing, wanted_by, core_after_lease, core_after_put, core_after_part, core_after_event, lease_run, event_in, freed_event, after, MayTake, MayPut, MayPart, IsAllowed, Legal, replay}
use Rattle.ro_region.specs.Permission.{is_writable}
use Rattle.ro_legal.proofs.Journals.{legal-keeps}
use Rattle.ro_legal.proofs.Lists.{all-from}

-- ---- what may be lent

-- what may be lent is awake
pub lendable-awake : (core : Core) (replica thread : ℕ) → is_lendable core replica thread ≡ true → is_awake core replica thread ≡ true
lendable-awake core replica thread e = (and_parts (is_awake core replica thread) (not (is_parked core replica thread)) e).0

-- what is not awake may not be lent
pub asleep-unlent : (core : Core) (replica thread : ℕ) → is_awake core replica thread ≡ false → is_lendable core replica thread ≡ false
asleep-unlent core replica thread e = ap (λ (b : Bool). b && not (is_parked core replica thread)) e

-- where no replica answers calls by itself, what is awake may be lent
pub awake-lendable : (core : Core) (replica thread : ℕ) → core.sides ≡ [] → is_awake core replica thread ≡ is_lendable core replica thread
awake-lendable core replica thread none = by (is_awake core replica thread) (is_parked core replica thread) unparked
  where
    unparked : is_parked core replica thread ≡ false
    unparked = ap (λ (sides : List Side). option_map_or (λ side. option_map_or (is_kept core side thread) (side.parked thread) false) (slice_get sides replica) false) none

    by : (awake parked : Bool) → parked ≡ false → awake ≡ (awake && not parked)
    by true false e = refl
    by false false e = refl
    by awake true e = absurd (true≢false e)

-- ---- leases by their numbers

-- whether a lease with this number is in the list, by what its number is
abbrev pub has_number : (key : Lease → ℕ) → ℕ → List Lease → Bool
has_number key n leases = list_any (λ lease. key lease == n) leases

abbrev pub has_replica : ℕ → List Lease → Bool
has_replica replica leases = has_number (λ lease. lease.replica) replica leases

abbrev pub has_driver : ℕ → List Lease → Bool
has_driver driver leases = has_number (λ lease. lease.driver) driver leases

-- no two leases have one number
abbrev pub Differ : (key : Lease → ℕ) → List Lease → Type 0
Differ key [] = Unit {0}
Differ key (lease ∷ leases) = (has_number key (key lease) leases ≡ false) × Differ key leases

-- each replica is lent once at the most
abbrev pub Apart : List Lease → Type 0
Apart leases = Differ (λ lease. lease.replica) leases

-- each driver holds one lease at the most
abbrev pub OneEach : List Lease → Type 0
OneEach leases = Differ (λ lease. lease.driver) leases

or_false_parts : (a b : Bool) → (a || b) ≡ false → (a ≡ false) × (b ≡ false)
or_false_parts true b e = absurd (true≢false e)
or_false_parts false b e = (refl, e)

pub or_true : (a b : Bool) → b ≡ true → (a || b) ≡ true
or_true true b f = refl
or_true false b f = f

pub not_false : (b : Bool) → not b ≡ true → b ≡ false
not_false true e = absurd (true≢false (sym e))
not_false false e = refl

pub same-lease : (lease other : Lease) → is_lease lease other ≡ true → other ≡ lease
same-lease lease other e =
    let p = and_parts (other.driver == lease.driver && (other.replica == lease.replica)) (other.thread == lease.thread) e in
    let q = and_parts (other.driver == lease.driver) (other.replica == lease.replica) p.0 in
    (λ t. lease_to (eqb-true other.driver lease.driver q.0 t) (eqb-true other.replica lease.replica q.1 t) (eqb-true other.thread lease.thread p.1 t))

-- a lease that is found is out
pub out_found : (driver : ℕ) (lease : Lease) (leases : List Lease) → find (λ l. l.driver == driver) leases ≡ Some lease → list_any (is_lease lease) leases ≡ true
out_found driver lease [] e = absurd (let f : None ≡ Some lease = e in cc)
out_found driver lease (l ∷ leases) e = by (l.driver == driver) e (λ f. out_found driver lease leases f)
  where
    own : is_lease lease lease ≡ true
    own = and_from _ _ (and_from _ _ (eq-eqb lease.driver lease.driver refl) (eq-eqb lease.replica lease.replica refl)) (eq-eqb lease.thread lease.thread refl)

    by : (b : Bool) → cond b (Some l) (find (λ x. x.driver == driver) leases) ≡ Some lease → (find (λ x. x.driver == driver) leases ≡ Some lease → list_any (is_lease lease) leases ≡ true)
        → (is_lease lease l || list_any (is_lease lease) leases) ≡ true
    by true f rest = let its : l ≡ lease = (let x : Some l ≡ Some lease = f in cc) in ap (λ (b : Bool). b || list_any (is_lease lease) leases) (ap (is_lease lease) its ∙ own)
    by false f rest = or_true (is_lease lease l) (list_any (is_lease lease) leases) (rest f)

-- ---- leases by a number of theirs

module _ (key : Lease → ℕ) where
  -- fewer leases have fewer numbers
  pub has-filter : (p : Lease → Bool) (n : ℕ) (leases : List Lease) → has_number key n leases ≡ false → has_number key n (filter p leases) ≡ false
  has-filter p n [] e = refl
  has-filter p n (lease ∷ leases) e =
      let parts = or_false_parts (key lease == n) (has_number key n leases) e in
      by (p lease) parts.0 (has-filter p n leases parts.1)
    where
      by : (b : Bool) → (key lease == n) ≡ false → has_number key n (filter p leases) ≡ false → has_number key n (cond b (lease ∷ filter p leases) (filter p leases)) ≡ false
      by true one rest = ap (λ (b : Bool). b || has_number key n (filter p leases)) one ∙ rest
      by false one rest = rest

  pub differ-filter : (p : Lease → Bool) (leases : List Lease) → Differ key leases → Differ key (filter p leases)
  differ-filter p [] h = tt
  differ-filter p (lease ∷ leases) h = by (p lease) (has-filter p (key lease) leases h.0) (differ-filter p leases h.1)
    where
      by : (b : Bool) → has_number key (key lease) (filter p leases) ≡ false → Differ key (filter p leases) → Differ key (cond b (lease ∷ filter p leases) (filter p leases))
      by true one rest = (one, rest)
      by false one rest = rest

  module _ (own : Lease) where
    -- where a lease is out its number is there
    pub out_number : (leases : List Lease) → list_any (is_lease own) leases ≡ true → has_number key (key own) leases ≡ true
    out_number [] e = absurd (true≢false (sym e))
    out_number (lease ∷ leases) e = by (is_lease own lease) refl (λ later. out_number leases later)
      where
        by : (b : Bool) → is_lease own lease ≡ b → (list_any (is_lease own) leases ≡ true → has_number key (key own) leases ≡ true) → ((key lease == key own) || has_number key (key own) leases) ≡ true
        by true is rest = ap (λ (b : Bool). b || has_number key (key own) leases) (eq-eqb (key lease) (key own) (ap key (same-lease own lease is)))
        by false is rest = or_true (key lease == key own) (has_number key (key own) leases) (rest (sym (ap (λ (b : Bool). b || list_any (is_lease own) leases) is) ∙ e))

    gone_by : (lease : Lease) (leases : List Lease) → Differ key (lease ∷ leases) → list_any (is_lease own) (lease ∷ leases) ≡ true
        → (list_any (is_lease own) leases ≡ true → has_number key (key own) (filter (λ l. not (is_lease own l)) leases) ≡ false)
        → (b : Bool) → is_lease own lease ≡ b → has_number key (key own) (cond (not b) (lease ∷ filter (λ l. not (is_lease own l)) leases) (filter (λ l. not (is_lease own l)) leases)) ≡ false
    gone_by lease leases h e rest true is = has-filter (λ l. not (is_lease own l)) (key own) leases (ap (λ (m : ℕ). has_number key m leases) (sym (ap key (same-lease own lease is))) ∙ h.0)
    gone_by lease leases h e rest false is =
        let later : list_any (is_lease own) leases ≡ true = sym (ap (λ (b : Bool). b || list_any (is_lease own) leases) is) ∙ e in
        ap (λ (b : Bool). b || has_number key (key own) (filter (λ l. not (is_lease own l)) leases)) (differs (key lease == key own) refl (out_number leases later)) ∙ rest later
      where
        differs : (b : Bool) → (key lease == key own) ≡ b → has_number key (key own) leases ≡ true → b ≡ false
        differs false f there = refl
        differs true f there = absurd (true≢false (sym there ∙ ap (λ (m : ℕ). has_number key m leases) (sym (eqb-true (key lease) (key own) f)) ∙ h.0))

    -- and once it came back its number is gone
    pub gone_number : (leases : List Lease) → Differ key leases → list_any (is_lease own) leases ≡ true → has_number key (key own) (filter (λ l. not (is_lease own l)) leases) ≡ false
    gone_number [] h e = refl
    gone_number (lease ∷ leases) h e = gone_by lease leases h e (λ later. gone_number leases h.1 later) (is_lease own lease) refl

-- ---- along a journal

-- the leases after an event are those before it
pub event_leases : (core : Core) (thread count : ℕ) (replicas : List Replica) (event : Option Event) → (core_after_event core thread count replicas event).leases ≡ core.leases
event_leases core thread count replicas None = refl
event_leases core thread count replicas (Some event) = refl

-- a lease that comes back changes no more than the replicas, the leases, what is wished and missed, and how much the last entry wrote
abbrev pub Leased : (core after : Core) → Type 0
Leased core after = after ≡ record core { replicas = after.replicas; leases = after.leases; wishes = after.wishes; misses = after.misses; wrote = after.wrote }

pub put-only : (job : Job) (core : Core) (lease : Lease) (count : ℕ) (ran : Option RanTo) → Leased core (core_after_put job core lease count ran)
put-only job core lease count None = refl
put-only job core lease count (Some ran) = refl

pub part-only : (job : Job) (core : Core) (lease : Lease) (ran : Option RanTo) → Leased core (core_after_part job core lease ran)
part-only job core lease None = refl
part-only job core lease (Some ran) = refl

-- the core behind it
pub put-is : (job : Job) (core : Core) (lease : Lease) (count hit : ℕ) (may : MayPut job core lease count hit)
    → after job core (Put lease count hit) ≡ core_after_lease core lease (arrival job core.kernel lease.thread count may.returns.ran.replica)
    (wishing lease.replica lease.thread (faulted (arrival job core.kernel lease.thread count may.returns.ran.replica)) core.wishes) core.misses may.returns.ran.replica
unfolding after
put-is job core lease count hit may = ap (core_after_put job core lease count) may.returns.runs

pub part-is : (job : Job) (core : Core) (lease : Lease) (count hit : ℕ) (may : MayPart job core lease count hit)
    → after job core (Part lease count hit) ≡ core_after_lease core lease None
    (wishing lease.replica lease.thread (wanted_by job core lease may.returns.ran.replica) core.wishes) (missing lease.replica lease.thread core.misses) may.returns.ran.replica
unfolding after
part-is job core lease count hit may = ap (core_after_part job core lease) may.returns.runs

-- what holds of the core behind a lease that came back, whatever stands, is wished and was missed then
abbrev pub Behind : (Core → Type 0) → Core → Lease → Replica → Type 0
Behind P core lease replica = (stop : Option Stop) (wishes : (replica thread : ℕ) → List ℕ) (misses : (replica thread : ℕ) → ℕ) → P (core_after_lease core lease stop wishes misses replica)

pub put-by : (job : Job) (core : Core) (lease : Lease) (count hit : ℕ) (may : MayPut job core lease count hit) (P : Core → Type 0) → Behind P core lease may.returns.ran.replica → P (after job core (Put lease count hit))
put-by job core lease count hit may P each = subst P (sym (put-is job core lease count hit may)) (each _ _ _)

pub part-by : (job : Job) (core : Core) (lease : Lease) (count hit : ℕ) (may : MayPart job core lease count hit) (P : Core → Type 0) → Behind P core lease may.returns.ran.replica → P (after job core (Part lease count hit))
part-by job core lease count hit may P each = subst P (sym (part-is job core lease count hit may)) (each _ _ _)

-- what fewer leases keep, and a take keeps, each entry keeps
pub leases_keep : (job : Job) (Q : List Lease → Type 0) → ((p : Lease → Bool) (leases : List Lease) → Q leases → Q (filter p leases))
    → ((core : Core) (lease : Lease) → MayTake job core lease → Q core.leases → Q (lease ∷ core.leases))
    → (core : Core) (entry : Entry) → IsAllowed job core entry → Q core.leases → Q (after job core entry).leases
unfolding after
leases_keep job Q fewer takes core (Take lease) m h = takes core lease m h
leases_keep job Q fewer takes core (Put lease count hit) m h = by (lease_run job core lease count)
  where
    by : (ran : Option RanTo) → Q (core_after_put job core lease count ran).leases
    by None = h
    by (Some ran) = fewer (λ other. not (is_lease lease other)) core.leases h
leases_keep job Q fewer takes core (Part lease count hit) m h = by (lease_run job core lease count)
  where
    by : (ran : Option RanTo) → Q (core_after_part job core lease ran).leases
    by None = h
    by (Some ran) = fewer (λ other. not (is_lease lease other)) core.leases h
leases_keep job Q fewer takes core (Vote thread count won lost did) m h = subst Q (sym (event_leases core thread count (with_recovered won (numbers lost) core.replicas) (event_in job core thread won))) h
leases_keep job Q fewer takes core (Free thread) m h = subst Q (sym (event_leases core thread 0 core.replicas (freed_event job core thread))) h
leases_keep job Q fewer takes core (Scrub won lost) m h = h
leases_keep job Q fewer takes core (End how) m h = h

-- what may be lent is there
pub record IsThere (core : Core) (replica thread : ℕ) : Type 0 where
  pub offered : offers core replica thread ≡ true
  pub lives : lives_on core.kernel thread ≡ true
  pub value : Replica
  pub there : slice_get core.replicas replica ≡ Some value
  pub unstopped : is_unstopped thread value ≡ true

pub lendable-is : (core : Core) (replica thread : ℕ) → is_lendable core replica thread ≡ true → IsThere core replica thread
lendable-is core replica thread e =
    let p = and_parts (offers core replica thread && lives_on core.kernel thread) (option_map_or (is_unstopped thread) (slice_get core.replicas replica) false) (lendable-awake core replica thread e) in
    let q = and_parts (offers core replica thread) (lives_on core.kernel thread) p.0 in
    some q.0 q.1 (slice_get core.replicas replica) refl p.1
  where
    some : offers core replica thread ≡ true → lives_on core.kernel thread ≡ true → (o : Option Replica) → slice_get core.replicas replica ≡ o → option_map_or (is_unstopped thread) o false ≡ true → IsThere core replica thread
    some offered lives None f g = absurd (true≢false (sym g))
    some offered lives (Some r) f g = record { offered = offered; lives = lives; value = r; there = f; unstopped = g }

-- where each lease is of a whole replica, its replica is at home
pub record AtHome (core : Core) (replica : ℕ) : Type 0 where
  pub home : is_home core replica ≡ true
  pub value : Replica
  pub there : slice_get core.replicas replica ≡ Some value

pub offers-home : (core : Core) (replica thread : ℕ) → core.sharing ≡ None → offers core replica thread ≡ is_home core replica
offers-home core replica thread none = ap (λ (sharing : Option Sharing). offers_by sharing core replica thread) none

pub lendable_there : (core : Core) (replica thread : ℕ) → core.sharing ≡ None → is_lendable core replica thread ≡ true → AtHome core replica
lendable_there core replica thread none e =
    let is = lendable-is core replica thread e in
    record { home = sym (offers-home core replica thread none) ∙ is.offered; value = is.value; there = is.there }

-- where each lease is of a whole replica, no take lends one twice
pub apart_take : (job : Job) (core : Core) (lease : Lease) → core.sharing ≡ None → MayTake job core lease → Apart core.leases → Apart (lease ∷ core.leases)
apart_take job core lease none m h = (not_false (has_replica lease.replica core.leases) (lendable_there core lease.replica lease.thread none m.lendable).home, h)

-- nor to a driver twice
pub one_take : (job : Job) (core : Core) (lease : Lease) → MayTake job core lease → OneEach core.leases → OneEach (lease ∷ core.leases)
one_take job core lease m h = (not_false (has_driver lease.driver core.leases) m.driver_is_idle, h)

-- each entry keeps them so
pub one-after : (job : Job) (core : Core) (entry : Entry) → IsAllowed job core entry → OneEach core.leases → OneEach (after job core entry).leases
one-after job core entry m h = leases_keep job (λ leases. OneEach leases) (differ-filter (λ lease. lease.driver)) (one_take job) core entry m h

-- in a legal journal no two leases are of one driver
pub one_each : (job : Job) (journal : List Entry) → Legal job journal → OneEach (replay job journal).leases
unfolding opening_core
one_each job journal legal = legal-keeps job (λ core. OneEach core.leases) (one-after job) (opening_core job) journal legal tt

-- a lease that is out is of its replica
pub out_has : (lease : Lease) (leases : List Lease) → list_any (is_lease lease) leases ≡ true → has_replica lease.replica leases ≡ true
out_has lease = out_number (λ lease. lease.replica) lease

-- a lease that came back leaves its replica at home
pub gone : (lease : Lease) (leases : List Lease) → Apart leases → list_any (is_lease lease) leases ≡ true
    → has_replica lease.replica (filter (λ l. not (is_lease lease l)) leases) ≡ false
gone lease = gone_number (λ lease. lease.replica) lease

-- and every other replica as it was
pub others_stay : (own : Lease) (other : ℕ) (leases : List Lease) → (other ≡ own.replica → ⊥)
    → has_replica other (filter (λ l. not (is_lease own l)) leases) ≡ has_replica other leases
others_stay own other [] ne = refl
others_stay own other (lease ∷ leases) ne = by (is_lease own lease) refl (others_stay own other leases ne)
  where
    kept : List Lease
    kept = filter (λ l. not (is_lease own l)) leases

    not_other : (b : Bool) → (lease.replica == other) ≡ b → lease ≡ own → b ≡ false
    not_other false f same = refl
    not_other true f same = absurd (ne (sym (eqb-true lease.replica other f) ∙ ap (λ (l : Lease). l.replica) same))

    by : (b : Bool) → is_lease own lease ≡ b → has_replica other kept ≡ has_replica other leases → has_replica other (cond (not b) (lease ∷ kept) kept) ≡ ((lease.replica == other) || has_replica other leases)
    by true is rest =
        let other_is : (lease.replica == other) ≡ false = not_other (lease.replica == other) refl (same-lease own lease is) in
        rest ∙ sym (ap (λ (b : Bool). b || has_replica other leases) other_is)
    by false is rest = ap (λ (b : Bool). (lease.replica == other) || b) rest

pub fewer : {X : Type 0} (p : X → Bool) (xs : List X) → list_any p xs ≡ true → length (filter (λ x. not (p x)) xs) + 1 ≤ length xs
fewer p [] e = absurd (true≢false (sym e))
fewer p (x ∷ xs) e = by (p x) refl (λ later. fewer p xs later)
  where
    by : (b : Bool) → p x ≡ b → (list_any p xs ≡ true → length (filter (λ x. not (p x)) xs) + 1 ≤ length xs) → length (cond (not b) (x ∷ filter (λ x. not (p x)) xs) (filter (λ x. not (p x)) xs)) + 1 ≤ length (x ∷ xs)
    by true is rest = omega (arith, length-filter_both p (λ x. not (p x)) (λ x. refl) xs)
    by false is rest = let h : length (filter (λ x. not (p x)) xs) + 1 ≤ length xs = rest (sym (ap (λ (b : Bool). b || list_any p xs) is) ∙ e) in omega arith

-- ---- where nothing is lent

module _ (core : Core) (replica thread : ℕ) (none : core.leases ≡ []) where
  -- no lease has a page
  untaken : (sharing : Sharing) (page : ℕ) → is_free sharing core replica page ≡ true
  untaken sharing page = by (is_writable (ranges_in sharing.setup core.kernel) page) (is_taken core replica page) (ap (list_any (λ lease. (lease.replica == replica) && is_lent (core.lent lease.driver) page)) none)
    where
      by : (b c : Bool) → c ≡ false → not (b && c) ≡ true
      by true c e = ap not e
      by false c e = refl

  -- so all that a lease needs is there, be it of a whole replica or of pages
  pub offers-none : offers core replica thread ≡ true
  offers-none = by core.sharing
    where
      home : is_home core replica ≡ true
      home = ap (λ (leases : List Lease). not (list_any (λ lease. lease.replica == replica) leases)) none

      opens : (sharing : Sharing) → is_open sharing core replica thread ≡ true
      opens sharing = and_from _ _ (ap (λ (leases : List Lease). not (list_any (bars core replica thread) leases)) none)
          (all-from (is_free sharing core replica) (take 2 (core.wishes replica thread)) (λ i page e. untaken sharing page))

      either : (b one other : Bool) → one ≡ true → other ≡ true → cond b one other ≡ true
      either true one other e f = e
      either false one other e f = f

      by : (sharing : Option Sharing) → offers_by sharing core replica thread ≡ true
      by None = home
      by (Some sharing) = either (shares sharing core replica thread) _ _ (opens sharing) home
