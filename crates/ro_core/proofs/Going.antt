-- A thread that goes on in a replica that is in its seat, and what can be lent to it.
use Rattle.std.proofs.Common.{◌≡◌, ◌≢◌, ℕ, zero, suc, ◌+◌, ◌<◌, ◌≤◌, Bool, true, false, true≢false, not, ◌&&◌, ◌||◌, cond, List, [], ◌∷◌, ◌++◌, length, Option, Some, None, refl, sym, ap, ap₂, ◌∙◌, subst, arith, inl, inr}
use Rattle.std.specs.Prelude.{◌⊎◌, ◌==◌, IsSome, is_none, is_some, nat_le, slice_get, slice_index_or, take}
use Rattle.std.specs.List.{All, filter, list_all, list_any}
use Rattle.std.specs.Option.{option_map_or}
use Rattle.std.proofs.lemmas.Bool.{or_parts, eq-eqb, ne_eqb, cases_eq, false_from_ne_true, le-leb, leb-true}
use Rattle.std.proofs.lemmas.List.{get_or_append_left, length-append}
use Rattle.std.proofs.lemmas.Option.{slice_get_within, slice_get-get_or, get_or_from_slice_get}
use Rattle.ro_region.specs.declared.Range.{Range}
use Rattle.ro_region.specs.Permission.{Ranges, is_writable, ranges_of}
use Rattle.ro_settings.proofs.Counts.{few-replicas}
use Rattle.ro_kernel.specs.Kernel.{Kernel, lives_on, ranges_in}
use Rattle.ro_plain.specs.Machine.{setup_of}
use Rattle.ro_plain.proofs.Calls.{some-injective}
use Rattle.ro_journal.specs.declared.Entry.{Entry}
use Rattle.ro_journal.specs.declared.Lease.{Lease}
use Rattle.ro_thread.specs.declared.Thread.{Thread}
use Rattle.ro_replica.specs.Replica.{Replica}
use Rattle.ro_replica.specs.Views.{is_unstopped}
use Rattle.ro_replica.specs.Seen.{ReplicaOf, replica_of}
use Rattle.ro_legal.specs.Parts.{Lent, Whole, Pages, Sharing, is_all, is_calm, is_lent, most_misses}
use Rattle.ro_legal.specs.Core.{Job, any_below, another_goes, bars, gains, is_free, is_home, is_open, lent_by, lent_to, offers, offers_by, shares, sharing_of, opening_core}
use Rattle.ro_legal.specs.Legal.{Legal, replay}
use Rattle.ro_legal.proofs.Beside.{lends-whole, sharing-is, sharing-stays}
use Rattle.ro_legal.proofs.Journals.{legal-keeps}
use Rattle.ro_legal.proofs.Leases.{leases_keep}
use Rattle.ro_legal.proofs.Lists.{get-append-last}
use Rattle.ro_legal.proofs.Ordered.{ordered}
use Rattle.ro_core.specs.declared.wishing.Wish.{Wish}
use Rattle.ro_core.specs.Wishing.{few_misses, wish_place}
use Rattle.ro_core.specs.Fields.{Fields, core_in, lent_at, is_free_page, seat_unstopped, IsAtHome, IsSeat, IsWish, lanes_for, GoesThere, Seated, Holds}
use Rattle.ro_core.proofs.Away.{whole-home}
use Rattle.ro_core.proofs.Tests.{kernel-is}

-- each lease that is out is of a driver that there is
abbrev AreOfDrivers : ℕ → List Lease → Type 0
AreOfDrivers drivers [] = Unit {0}
AreOfDrivers drivers (lease ∷ leases) = (lease.driver < drivers) × AreOfDrivers drivers leases

of-filter : (drivers : ℕ) (p : Lease → Bool) (leases : List Lease) → AreOfDrivers drivers leases → AreOfDrivers drivers (filter p leases)
of-filter drivers p [] h = tt
of-filter drivers p (lease ∷ leases) h = by (p lease) (of-filter drivers p leases h.1)
  where
    by : (b : Bool) → AreOfDrivers drivers (filter p leases) → AreOfDrivers drivers (cond b (lease ∷ filter p leases) (filter p leases))
    by true rest = (h.0, rest)
    by false rest = rest

of-drivers : (job : Job) (journal : List Entry) → Legal job journal → AreOfDrivers job.settings.drivers (replay job journal).leases
unfolding opening_core
of-drivers job journal legal =
    legal-keeps job (λ core. AreOfDrivers job.settings.drivers core.leases) (leases_keep job (AreOfDrivers job.settings.drivers) (of-filter job.settings.drivers) (λ core lease m h. (m.driver_exists, h))) (opening_core job) journal legal tt

-- tests that say the same of each
pub filter-same : (p q : ℕ → Bool) → ((n : ℕ) → p n ≡ q n) → (xs : List ℕ) → filter p xs ≡ filter q xs
filter-same p q same [] = refl
filter-same p q same (x ∷ xs) = ap₂ (λ (b : Bool) (rest : List ℕ). cond b (x ∷ rest) rest) (same x) (filter-same p q same xs)

all-same : (p q : ℕ → Bool) → ((n : ℕ) → p n ≡ q n) → (xs : List ℕ) → list_all p xs ≡ list_all q xs
all-same p q same [] = refl
all-same p q same (x ∷ xs) = ap₂ (λ (a b : Bool). a && b) (same x) (all-same p q same xs)

module _ (f : Fields) (h : Holds f) (replica : ℕ) (value : ReplicaOf) (there : slice_get f.seats replica ≡ Some (Some value)) where
  pub seat-home : IsAtHome f.job (core_in f) replica value
  seat-home = subst (λ (o : Option (Option ReplicaOf)). Seated f.job (core_in f) replica o) there (h.seats_are.each replica)

  pub seat-few : replica < 5
  seat-few =
      let s = slice_get_within f.seats replica (Some value) there in
      let c = h.seats_are.count in
      let n = (ordered f.job f.journal h.legal).replica_count in
      let range = few-replicas f.job.settings.replicas h.in_range.replicas in
      omega arith

-- ---- what is noted of leases

module _ (f : Fields) (h : Holds f) (sharing : Sharing) (shares_so : (core_in f).sharing ≡ Some sharing) where
  pub setup-here : sharing ≡ record { setup = setup_of f.job.program; quantum = f.job.settings.quantum }
  setup-here = sharing-is f.job sharing (sym (sharing-stays f.job f.journal) ∙ shares_so)

  noted-same : (replica page : ℕ) (leases : List Lease) → AreOfDrivers f.job.settings.drivers leases → list_any (λ lease. (lease.replica == replica) && is_lent (lent_at f.lent lease.driver) page) leases ≡ list_any (λ lease. (lease.replica == replica) && is_lent ((core_in f).lent lease.driver) page) leases
  noted-same replica page [] are = refl
  noted-same replica page (l ∷ leases) are = ap₂ (λ (x : Lent) (b : Bool). ((l.replica == replica) && is_lent x page) || b) (h.noted.0 l.driver are.0) (noted-same replica page leases are.1)

  -- a page that is free, by what is noted
  pub free-is : (ranges : List Range) → ranges ≡ ranges_in (setup_of f.job.program) (core_in f).kernel → (replica page : ℕ) → is_free_page ranges f.leases f.lent replica page ≡ is_free sharing (core_in f) replica page
  free-is ranges are replica page =
      ap₂ (λ (rs : List Range) (b : Bool). not (is_writable rs page && b))
      (are ∙ ap (λ (s : Sharing). ranges_in s.setup (core_in f).kernel) (sym setup-here))
      (ap (list_any (λ lease. (lease.replica == replica) && is_lent (lent_at f.lent lease.driver) page)) h.leases_are ∙ noted-same replica page (core_in f).leases (of-drivers f.job f.journal h.legal))

-- ---- a thread

module _ (f : Fields) (h : Holds f) (replica thread : ℕ) (goes : GoesThere f replica thread) where
  abbrev value : ReplicaOf
  value = goes.0

  pub going-home : IsAtHome f.job (core_in f) replica goes.0
  going-home = seat-home f h replica goes.0 goes.1

  going-thread : (t : Thread) × (slice_get goes.0.threads thread ≡ Some t)
  going-thread = by (slice_get goes.0.threads thread) refl goes.2
    where
      by : (o : Option Thread) → slice_get goes.0.threads thread ≡ o → option_map_or (λ (t : Thread). is_none t.stop) o false ≡ true → (t : Thread) × (slice_get goes.0.threads thread ≡ Some t)
      by None e unstopped = absurd (true≢false (sym unstopped))
      by (Some t) e unstopped = (t, e)

  pub going-made : thread < 16
  going-made =
      let order = ordered f.job f.journal h.legal in
      let s = going-home in
      let made = (order.sound replica s.replica s.there).all_made in
      let within = slice_get_within s.replica.threads thread going-thread.0 (ap (λ (ts : List Thread). slice_get ts thread) (sym s.home.threads) ∙ going-thread.1) in
      let few = order.few_lives in
      omega arith

  pub going-few : replica < 5
  going-few = seat-few f h replica goes.0 goes.1

  pub going-within : replica < length (core_in f).replicas
  going-within = let s = going-home in slice_get_within (core_in f).replicas replica s.replica s.there

  -- its wish
  module _ (lends : IsSome (core_in f).sharing) where
    pub wish-within : wish_place replica thread < length f.wishes
    wish-within = let c = (h.noted.1 lends).0.count in let n = going-within in let m = going-made in omega arith

    pub wish-is : (wish : Wish) → slice_get f.wishes (wish_place replica thread) ≡ Some wish → IsWish (core_in f) replica thread wish
    wish-is wish there = (h.noted.1 lends).0.each replica thread wish going-made there

  -- how often it missed a page
  pub misses-are : (misses count : ℕ) → misses ≡ few_misses count → nat_le misses most_misses ≡ nat_le count most_misses
  misses-are misses count same = by (nat_le count most_misses) refl
    where
      by : (b : Bool) → nat_le count most_misses ≡ b → nat_le misses most_misses ≡ nat_le count most_misses
      by true e = ap (λ (n : ℕ). nat_le n most_misses) (same ∙ ap (λ (b : Bool). cond b count (most_misses + 1)) e)
      by false e = ap (λ (n : ℕ). nat_le n most_misses) (same ∙ ap (λ (b : Bool). cond b count (most_misses + 1)) e) ∙ sym e

  -- whether it is lent with pages
  pub shares-are : (sharing : Sharing) → (core_in f).sharing ≡ Some sharing → (wish : Wish) → slice_get f.wishes (wish_place replica thread) ≡ Some wish
      → (another calm : Bool) → another ≡ another_goes (core_in f) going-home.replica thread → calm ≡ option_map_or (is_calm f.job.settings.quantum thread (replica_of goes.0)) (slice_get goes.0.threads thread) true
      → (nat_le wish.misses most_misses && (another && calm)) ≡ shares sharing (core_in f) replica thread
  shares-are sharing is wish there another calm goes-on due =
      let w = wish-is (subst (λ (o : Option Sharing). IsSome o) (sym is) refl) wish there in
      let s = going-home in
      ap₂ (λ (a b : Bool). a && b) (misses-are wish.misses ((core_in f).misses replica thread) w.misses)
      (ap₂ (λ (a b : Bool). a && b) goes-on (due ∙ calm-is going-thread)
      ∙ ap (λ (q : ℕ). another_goes (core_in f) s.replica thread && option_map_or (is_calm q thread s.replica) (slice_get s.replica.threads thread) false) (ap (λ (x : Sharing). x.quantum) (sym (setup-here f h sharing is)))
      ∙ ap (λ (o : Option Replica). option_map_or (gains (core_in f) sharing.quantum thread) o false) (sym s.there))
    where
      -- the same faults wait
      same-calm : (t : Thread) → is_calm f.job.settings.quantum thread (replica_of goes.0) t ≡ is_calm f.job.settings.quantum thread going-home.replica t
      same-calm t = ap (λ (ws : _). not (list_any (λ fault. (fault.thread == thread) && (nat_le t.done fault.at && nat_le fault.at (t.done + f.job.settings.quantum))) ws)) going-home.home.waiting

      calm-is : (t : Thread) × (slice_get goes.0.threads thread ≡ Some t)
          → option_map_or (is_calm f.job.settings.quantum thread (replica_of goes.0)) (slice_get goes.0.threads thread) true ≡ option_map_or (is_calm f.job.settings.quantum thread going-home.replica) (slice_get going-home.replica.threads thread) false
      calm-is (t, e) =
          ap (λ (o : Option Thread). option_map_or (is_calm f.job.settings.quantum thread (replica_of goes.0)) o true) e
          ∙ same-calm t
          ∙ sym (ap (λ (o : Option Thread). option_map_or (is_calm f.job.settings.quantum thread going-home.replica) o false) (ap (λ (ts : List Thread). slice_get ts thread) (sym going-home.home.threads) ∙ e))

  -- no lease has all of the replica, so what bars the thread is a lease of it
  bars-are : (leases : List Lease) → list_any (λ l. (l.replica == replica) && is_all ((core_in f).lent l.driver)) leases ≡ false → list_any (λ l. (l.replica == replica) && (l.thread == thread)) leases ≡ list_any (bars (core_in f) replica thread) leases
  bars-are [] none = refl
  bars-are (l ∷ leases) none =
      let parts = or_parts ((l.replica == replica) && is_all ((core_in f).lent l.driver)) _ none in
      ap₂ (λ (a b : Bool). a || b) (one (l.replica == replica) (l.thread == thread) (is_all ((core_in f).lent l.driver)) parts.0) (bars-are leases parts.1)
    where
      one : (a b c : Bool) → (a && c) ≡ false → (a && b) ≡ (a && (b || c))
      one true true c e = refl
      one true false c e = sym e
      one false b c e = refl

  -- whether it and the pages that it wishes most can be lent
  pub open-is : (sharing : Sharing) → (core_in f).sharing ≡ Some sharing → (wish : Wish) → slice_get f.wishes (wish_place replica thread) ≡ Some wish → (ranges : List Range) → ranges ≡ ranges_in (setup_of f.job.program) (core_in f).kernel
      → (not (list_any (λ l. (l.replica == replica) && (l.thread == thread)) f.leases) && list_all (is_free_page ranges f.leases f.lent replica) (take 2 wish.pages.items)) ≡ is_open sharing (core_in f) replica thread
  open-is sharing is wish there ranges are =
      let w = wish-is (subst (λ (o : Option Sharing). IsSome o) (sym is) refl) wish there in
      ap₂ (λ (a b : Bool). not a && b)
      (ap (list_any (λ l. (l.replica == replica) && (l.thread == thread))) h.leases_are ∙ bars-are (core_in f).leases going-home.stays)
      (all-same (is_free_page ranges f.leases f.lent replica) (is_free sharing (core_in f) replica) (free-is f h sharing is ranges are replica) (take 2 wish.pages.items) ∙ ap (λ (ps : List ℕ). list_all (is_free sharing (core_in f) replica) (take 2 ps)) w.pages)

  pub open-out : (sharing : Sharing) → list_any (λ l. (l.replica == replica) && (l.thread == thread)) f.leases ≡ true → is_open sharing (core_in f) replica thread ≡ false
  open-out sharing out =
      ap (λ (b : Bool). not b && list_all (is_free sharing (core_in f) replica) (take 2 ((core_in f).wishes replica thread)))
      (sym (ap (list_any (λ l. (l.replica == replica) && (l.thread == thread))) h.leases_are ∙ bars-are (core_in f).leases going-home.stays) ∙ out)

  pub free-are : (sharing : Sharing) → (core_in f).sharing ≡ Some sharing → (wish : Wish) → slice_get f.wishes (wish_place replica thread) ≡ Some wish → (ranges : List Range) → ranges ≡ ranges_in (setup_of f.job.program) (core_in f).kernel
      → filter (is_free_page ranges f.leases f.lent replica) wish.pages.items ≡ filter (is_free sharing (core_in f) replica) ((core_in f).wishes replica thread)
  free-are sharing is wish there ranges are =
      let w = wish-is (subst (λ (o : Option Sharing). IsSome o) (sym is) refl) wish there in
      filter-same (is_free_page ranges f.leases f.lent replica) (is_free sharing (core_in f) replica) (free-is f h sharing is ranges are replica) wish.pages.items ∙ ap (filter (is_free sharing (core_in f) replica)) w.pages

  -- ---- what is offered

  -- where no pages are lent, what stands in its seat is offered
  pub offers-whole : (core_in f).sharing ≡ None → offers (core_in f) replica thread ≡ true
  offers-whole none =
      ap (λ (o : Option Sharing). offers_by o (core_in f) replica thread) none
      ∙ whole-home (core_in f) replica (lends-whole f.job f.journal (sym (sharing-stays f.job f.journal) ∙ none)) going-home.stays

  pub offers-open : (sharing : Sharing) → (core_in f).sharing ≡ Some sharing → shares sharing (core_in f) replica thread ≡ true → is_open sharing (core_in f) replica thread ≡ offers (core_in f) replica thread
  offers-open sharing is shared =
      sym (ap (λ (o : Option Sharing). offers_by o (core_in f) replica thread) is ∙ ap (λ (b : Bool). cond b (is_open sharing (core_in f) replica thread) (is_home (core_in f) replica)) shared)

  pub offers-home : (sharing : Sharing) → (core_in f).sharing ≡ Some sharing → shares sharing (core_in f) replica thread ≡ false → is_home (core_in f) replica ≡ offers (core_in f) replica thread
  offers-home sharing is unshared =
      sym (ap (λ (o : Option Sharing). offers_by o (core_in f) replica thread) is ∙ ap (λ (b : Bool). cond b (is_open sharing (core_in f) replica thread) (is_home (core_in f) replica)) unshared)

  -- ---- what is lent

  pub lent-pages : (sharing : Sharing) → (core_in f).sharing ≡ Some sharing → shares sharing (core_in f) replica thread ≡ true → lent_to (core_in f) replica thread ≡ Pages (filter (is_free sharing (core_in f) replica) ((core_in f).wishes replica thread))
  lent-pages sharing is shared =
      ap (λ (o : Option Sharing). lent_by o (core_in f) replica thread) is
      ∙ ap (λ (b : Bool). cond b (Pages (filter (is_free sharing (core_in f) replica) ((core_in f).wishes replica thread))) Whole) shared

  pub lent-whole : (sharing : Sharing) → (core_in f).sharing ≡ Some sharing → shares sharing (core_in f) replica thread ≡ false → lent_to (core_in f) replica thread ≡ Whole
  lent-whole sharing is unshared =
      ap (λ (o : Option Sharing). lent_by o (core_in f) replica thread) is
      ∙ ap (λ (b : Bool). cond b (Pages (filter (is_free sharing (core_in f) replica) ((core_in f).wishes replica thread))) Whole) unshared

-- ---- whether a run lends pages

pub lends-is : (f : Fields) → (lends : Bool) → lends ≡ is_some (sharing_of f.job) → (lends ≡ true → IsSome (core_in f).sharing) × (lends ≡ false → (core_in f).sharing ≡ None)
lends-is f lends e = by (sharing_of f.job) refl
  where
    by : (o : Option Sharing) → sharing_of f.job ≡ o → (lends ≡ true → IsSome (core_in f).sharing) × (lends ≡ false → (core_in f).sharing ≡ None)
    by None g = (λ t. absurd (true≢false (sym t ∙ e ∙ ap (λ (o : Option Sharing). is_some o) g)), λ t. sharing-stays f.job f.journal ∙ g)
    by (Some s) g = (λ t. subst (λ (o : Option Sharing). IsSome o) (sym (sharing-stays f.job f.journal ∙ g)) refl, λ t. absurd (true≢false (sym (ap (λ (o : Option Sharing). is_some o) g) ∙ sym e ∙ t)))

-- the sharing of a run that lends pages
pub the-sharing : (o : Option Sharing) → IsSome o → (s : Sharing) × (o ≡ Some s)
the-sharing None some = absurd (true≢false (sym some))
the-sharing (Some s) some = (s, refl)

-- ---- another thread

-- of the numbers below one, one that passes
pub any-found : (n k : ℕ) (test : ℕ → Bool) → k < n → test k ≡ true → any_below n test ≡ true
any-found zero k test less e = absurd (omega arith)
any-found (suc n) k test less e = by (cases_eq k n) (λ below. any-found n k test below e)
  where
    by : (k ≡ n) ⊎ (k ≢ n) → (k < n → any_below n test ≡ true) → (any_below n test || test n) ≡ true
    by (inl same) later-found = later (any_below n test) (ap test (sym same) ∙ e)
      where
        later : (a : Bool) → test n ≡ true → (a || test n) ≡ true
        later true g = refl
        later false g = g
    by (inr apart) found = ap (λ (b : Bool). b || test n) (found (omega arith))

pub any-none : (n : ℕ) (test : ℕ → Bool) → ((k : ℕ) → k < n → test k ≡ false) → any_below n test ≡ false
any-none zero test none = refl
any-none (suc n) test none = ap₂ (λ (a b : Bool). a || b) (any-none n test (λ k less. none k (omega arith))) (none n (omega arith))

pub any-same : (n : ℕ) (p q : ℕ → Bool) → ((k : ℕ) → p k ≡ q k) → any_below n p ≡ any_below n q
any-same zero p q same = refl
any-same (suc n) p q same = ap₂ (λ (a b : Bool). a || b) (any-same n p q same) (same n)

-- it goes on, by its seat
abbrev pub goes_by : List (Option ReplicaOf) → Kernel → (replica thread other : ℕ) → Bool
goes_by seats kernel replica thread other = not (other == thread) && (lives_on kernel other && seat_unstopped other (slice_index_or seats replica None))

module _ (f : Fields) (h : Holds f) (replica thread : ℕ) (seat : IsSeat f.seats replica) (r : Replica) (there : slice_get (core_in f).replicas replica ≡ Some r) where
  goes-same : (k : ℕ) → goes_by f.seats f.kernel.kernel replica thread k ≡ (not (k == thread) && (lives_on (core_in f).kernel k && is_unstopped k r))
  goes-same k =
      let home = seat-home f h replica seat.0 seat.1 in
      let same : home.replica ≡ r = some-injective (sym home.there ∙ there) in
      ap (λ (o : Option ReplicaOf). not (k == thread) && (lives_on f.kernel.kernel k && seat_unstopped k o)) (get_or_from_slice_get f.seats replica (Some seat.0) None seat.1)
      ∙ ap (λ (x : Kernel). not (k == thread) && (lives_on x k && is_unstopped k (replica_of seat.0))) (sym (kernel-is f h))
      ∙ ap (λ (ts : List Thread). not (k == thread) && (lives_on (core_in f).kernel k && option_map_or (λ (t : Thread). is_none t.stop) (slice_get ts k) false)) home.home.threads
      ∙ ap (λ (x : Replica). not (k == thread) && (lives_on (core_in f).kernel k && is_unstopped k x)) same

  another-is : any_below (length f.kernel.kernel.lives) (goes_by f.seats f.kernel.kernel replica thread) ≡ another_goes (core_in f) r thread
  another-is = any-same (length f.kernel.kernel.lives) _ _ goes-same ∙ ap (λ (x : Kernel). any_below (length x.lives) (λ other. not (other == thread) && (lives_on (core_in f).kernel other && is_unstopped other r))) (sym (kernel-is f h))

  pub another-found : (k : ℕ) → k < length f.kernel.kernel.lives → goes_by f.seats f.kernel.kernel replica thread k ≡ true → true ≡ another_goes (core_in f) r thread
  another-found k less goes = sym (any-found (length f.kernel.kernel.lives) k (goes_by f.seats f.kernel.kernel replica thread) less goes) ∙ another-is

  pub another-none : ((k : ℕ) → k < length f.kernel.kernel.lives → goes_by f.seats f.kernel.kernel replica thread k ≡ false) → false ≡ another_goes (core_in f) r thread
  another-none none = sym (any-none (length f.kernel.kernel.lives) (goes_by f.seats f.kernel.kernel replica thread) none) ∙ another-is

-- a number more of which the test fails
pub none-more : (test : ℕ → Bool) (n : ℕ) → ((k : ℕ) → k < n → test k ≡ false) → test n ≡ false → (k : ℕ) → k < n + 1 → test k ≡ false
none-more test n none its k less = by (cases_eq k n)
  where
    by : (k ≡ n) ⊎ (k ≢ n) → test k ≡ false
    by (inl same) = ap test same ∙ its
    by (inr apart) = none k (omega arith)

-- a thread, of which one of the three tests fails
pub not-another : (other thread : ℕ) (a b : Bool) → other ≡ thread → (not (other == thread) && (a && b)) ≡ false
not-another other thread a b same = ap (λ (x : Bool). not x && (a && b)) (eq-eqb other thread same)

pub is-another : (other thread : ℕ) (a b : Bool) → other ≢ thread → a ≡ true → b ≡ true → (not (other == thread) && (a && b)) ≡ true
is-another other thread a b apart e f = ap (λ (x : Bool). not x && (a && b)) (ne_eqb other thread apart) ∙ ap₂ (λ (x y : Bool). x && y) e f

-- a thread that goes on, by its seat
pub goes-there : (f : Fields) → Holds f → (replica thread : ℕ) → replica < length (core_in f).replicas → seat_unstopped thread (slice_index_or f.seats replica None) ≡ true → GoesThere f replica thread
goes-there f h replica thread less e =
    by (slice_index_or f.seats replica None) (slice_get-get_or f.seats replica None (let c = h.seats_are.count in omega arith)) e
  where
    by : (o : Option ReplicaOf) → slice_get f.seats replica ≡ Some o → seat_unstopped thread o ≡ true → GoesThere f replica thread
    by None s unstopped = absurd (true≢false (sym unstopped))
    by (Some value) s unstopped = (value, s, unstopped)

-- the ranges that may be accessed by now
pub ranges-here : (f : Fields) → Holds f → (regions : Ranges) → regions ≡ record { given = f.kernel.kernel.given; first = f.kernel.setup.ranges } → ranges_of regions ≡ ranges_in (setup_of f.job.program) (core_in f).kernel
ranges-here f h regions is = ap ranges_of is ∙ ap₂ ranges_in h.setup_is h.kernel_is

-- at most as many, or more
pub few-is : (n most : ℕ) → n ≤ most → nat_le n most ≡ true
few-is n most less = le-leb n most less

pub many-is : (n most : ℕ) → most < n → nat_le n most ≡ false
many-is n most more = false_from_ne_true (nat_le n most) (λ e. let less : n ≤ most = leb-true n most e in omega arith)

-- where no pages are lent a lease has the whole replica
pub lent-alone : (f : Fields) (replica thread : ℕ) → (core_in f).sharing ≡ None → lent_to (core_in f) replica thread ≡ Whole
lent-alone f replica thread none = ap (λ (o : Option Sharing). lent_by o (core_in f) replica thread) none

-- where pages are lent there is a lane for a lease that can be taken
pub lanes-here : (f : Fields) → IsSome (core_in f).sharing → 0 < lanes_for (sharing_of f.job) f.lanes → 0 < length f.lanes
lanes-here f lends some =
    let s = the-sharing (sharing_of f.job) (subst (λ (o : Option Sharing). IsSome o) (sharing-stays f.job f.journal) lends) in
    subst (λ (o : Option Sharing). 0 < lanes_for o f.lanes) s.1 some

-- what holds of all holds of the last, and of those before it
pub all-but-last : {X : Type 0} (P : X → Type 0) (xs : List X) (x : X) (ys : List X) → ys ≡ xs ++ x ∷ [] → All P ys → All P xs × P x
all-but-last P xs x ys is all =
    let both = subst (All P) is all in
    let long = length-append xs (x ∷ []) in (
      λ k d less. subst P (get_or_append_left xs (x ∷ []) d k less) (both k d (omega arith)),
      subst P (get_or_from_slice_get (xs ++ x ∷ []) (length xs) x x (get-append-last xs x)) (both (length xs) x (omega arith)),
    )
