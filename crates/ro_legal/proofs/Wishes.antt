-- While a lease of pages is out, it has the two that its thread wishes most, and the thread missed few.
use Rattle.std.specs.Prelude.{◌≡◌, ◌+◌, ◌≤◌, ◌==◌, ◌&&◌, ◌||◌, ℕ, zero, suc, Bool, true, false, cond, List, [], ◌∷◌, take, Option, Some, None}
use Rattle.std.specs.List.{filter, list_all, list_any}
use Rattle.std.proofs.Common.{refl, sym, ap, ◌∙◌, subst}
use Rattle.std.proofs.lemmas.Bool.{true≢false, and_parts, and_left, and_right, ne_eqb, leb-true}
use Rattle.ro_event.specs.declared.stops.Stop.{Stop}
use Rattle.ro_region.specs.declared.Range.{Range}
use Rattle.ro_pages.specs.Directories.{is_listed}
use Rattle.ro_kernel.specs.Kernel.{ranges_in}
use Rattle.ro_plain.specs.Machine.{setup_of}
use Rattle.ro_journal.specs.Losers.{numbers}
use Rattle.ro_journal.specs.declared.Lease.{Lease}
use Rattle.ro_journal.specs.declared.Entry.{Entry}
use Rattle.ro_journal.specs.declared.Entry.TheVariants.{Take, Put, Part, Vote, Free, Scrub, End}
use Rattle.ro_legal.specs.Parts.{Lent, Whole, Pages, Sharing, most_misses, wish_with, is_all, is_lent}
use Rattle.ro_legal.specs.Core.{Job, Core, opening_core, is_lease, is_out, is_home, is_free, is_open, shares, lent_by, offers_by}
use Rattle.ro_legal.specs.Event.{with_recovered}
use Rattle.ro_legal.specs.Legal.{arrival, core_after_take, core_after_lease, core_after_event, wishing, missing, event_in, freed_event, after, MayTake, Returns, IsAllowed, Legal, replay}
use Rattle.ro_legal.specs.Laws.{AreBeside, elsewhere, sharing}
use Rattle.ro_legal.proofs.Journals.{legal-keeps}
use Rattle.ro_legal.proofs.Leases.{or_true, lendable-is, same-lease, event_leases, put-is, part-is}
use Rattle.ro_legal.proofs.Beside.{beside-both, take-keeps, take-lends}
use Rattle.ro_legal.proofs.Grants.{was-out, is-another, GoesOn, goes-after, goes-opening}
use Rattle.ro_legal.proofs.Ordered.{vote-parts, free-parts, scrub-parts}

-- what a lease has, by what its thread wishes and how often it missed a page
pub record IsWellLent (lent : Lent) (wish : List ℕ) (misses : ℕ) : Type 0 where
  pub few : is_all lent ≡ false → misses ≤ most_misses
  pub first : (page : ℕ) → is_listed (take 2 wish) page ≡ true → is_lent lent page ≡ true

-- each lease that is out has so
abbrev pub AreWellLent : Core → Type 0
AreWellLent core = (lease : Lease) → is_out core lease ≡ true
    → IsWellLent (core.lent lease.driver) (core.wishes lease.replica lease.thread) (core.misses lease.replica lease.thread)

-- ---- a take

-- where the first of a list pass a test, they are among those that pass
passed-first : (p : ℕ → Bool) (n : ℕ) (pages : List ℕ) (page : ℕ) → list_all p (take n pages) ≡ true → is_listed (take n pages) page ≡ true → is_listed (filter p pages) page ≡ true
passed-first p zero pages page all e = absurd (true≢false (sym e))
passed-first p (suc n) [] page all e = absurd (true≢false (sym e))
passed-first p (suc n) (x ∷ pages) page all e =
    let parts = and_parts (p x) (list_all p (take n pages)) all in
    by (p x) parts.0 (x == page) refl e (passed-first p n pages page parts.1)
  where
    by : (b : Bool) → b ≡ true → (c : Bool) → (x == page) ≡ c → (c || is_listed (take n pages) page) ≡ true → (is_listed (take n pages) page ≡ true → is_listed (filter p pages) page ≡ true)
        → is_listed (cond b (x ∷ filter p pages) (filter p pages)) page ≡ true
    by true passes true same f later = ap (λ (d : Bool). d || is_listed (filter p pages) page) same
    by true passes false other f later = or_true (x == page) (is_listed (filter p pages) page) (later f)
    by false passes c same f later = absurd (true≢false (sym passes))

whole-well : (wish : List ℕ) (misses : ℕ) → IsWellLent Whole wish misses
whole-well wish misses = record { few = λ e. absurd (true≢false e); first = λ page e. refl }

-- so is what is lent where it is there
well-by : (core : Core) (replica thread : ℕ) (o : Option Sharing) → offers_by o core replica thread ≡ true → IsWellLent (lent_by o core replica thread) (core.wishes replica thread) (core.misses replica thread)
well-by core replica thread None offers = whole-well (core.wishes replica thread) (core.misses replica thread)
well-by core replica thread (Some s) offers = by (shares s core replica thread) refl offers
  where
    by : (b : Bool) → shares s core replica thread ≡ b → cond b (is_open s core replica thread) (is_home core replica) ≡ true
        → IsWellLent (cond b (Pages (filter (is_free s core replica) (core.wishes replica thread))) Whole) (core.wishes replica thread) (core.misses replica thread)
    by true is opens = record {
      few = λ e. leb-true (core.misses replica thread) most_misses (and_parts _ _ is).0;
      first = λ page e. passed-first (is_free s core replica) 2 (core.wishes replica thread) page (and_parts _ _ opens).1 e;
    }
    by false is home = whole-well (core.wishes replica thread) (core.misses replica thread)

well-take : (job : Job) (core : Core) (lease : Lease) → MayTake job core lease → AreWellLent core → AreWellLent (core_after_take core lease)
well-take job core lease may h other e = by (is_lease other lease) refl e
  where
    own : IsWellLent ((core_after_take core lease).lent lease.driver) (core.wishes lease.replica lease.thread) (core.misses lease.replica lease.thread)
    own = subst (λ (lent : Lent). IsWellLent lent (core.wishes lease.replica lease.thread) (core.misses lease.replica lease.thread)) (sym (take-lends job core lease may))
        (well-by core lease.replica lease.thread core.sharing (lendable-is core lease.replica lease.thread may.lendable).offered)

    by : (b : Bool) → is_lease other lease ≡ b → (b || is_out core other) ≡ true → IsWellLent ((core_after_take core lease).lent other.driver) (core.wishes other.replica other.thread) (core.misses other.replica other.thread)
    by true is f = subst (λ (l : Lease). IsWellLent ((core_after_take core lease).lent l.driver) (core.wishes l.replica l.thread) (core.misses l.replica l.thread)) (same-lease other lease is) own
    by false is f = subst (λ (lent : Lent). IsWellLent lent (core.wishes other.replica other.thread) (core.misses other.replica other.thread)) (sym (take-keeps job core lease may other f)) (h other f)

-- ---- a lease that comes back

-- the test for a thread of a replica, where it is another
apart-thread : (ranges : List Range) (lent : ℕ → Lent) (one other : Lease) → AreBeside ranges lent one other → ((other.replica == one.replica) && (other.thread == one.thread)) ≡ false
apart-thread ranges lent one other (elsewhere apart) = and_left (other.replica == one.replica) (other.thread == one.thread) (ne_eqb other.replica one.replica (λ e. apart (sym e)))
apart-thread ranges lent one other (sharing ones others apart has have both) = and_right (other.replica == one.replica) (other.thread == one.thread) (ne_eqb other.thread one.thread (λ e. apart (sym e)))

-- what another thread wishes stays
pub wishing-other : (replica thread r t : ℕ) (o : Option ℕ) (wishes : (replica thread : ℕ) → List ℕ) → ((r == replica) && (t == thread)) ≡ false → wishing replica thread o wishes r t ≡ wishes r t
wishing-other replica thread r t None wishes e = refl
wishing-other replica thread r t (Some page) wishes e = ap (λ (b : Bool). cond b (wish_with page (wishes r t)) (wishes r t)) e

module _ (job : Job) (core : Core) (lease : Lease) (count hit : ℕ) (back : Returns job core lease count hit) (goes : GoesOn job core) (h : AreWellLent core) (stop : Option Stop) (page : Option ℕ) (misses : (replica thread : ℕ) → ℕ)
    (missed_else : (r t : ℕ) → ((r == lease.replica) && (t == lease.thread)) ≡ false → misses r t ≡ core.misses r t) where
  abbrev wishes : (replica thread : ℕ) → List ℕ
  wishes = wishing lease.replica lease.thread page core.wishes

  well-back : AreWellLent (core_after_lease core lease stop wishes misses back.ran.replica)
  well-back other e =
      subst (λ (wish : List ℕ). IsWellLent (core.lent other.driver) wish (misses other.replica other.thread)) (sym (wishing-other lease.replica lease.thread other.replica other.thread page core.wishes differs))
      (subst (IsWellLent (core.lent other.driver) (core.wishes other.replica other.thread)) (sym (missed_else other.replica other.thread differs)) (h other out))
    where
      out : is_out core other ≡ true
      out = was-out core lease other goes.one back.out e

      differs : ((other.replica == lease.replica) && (other.thread == lease.thread)) ≡ false
      differs =
          let ranges = ranges_in (setup_of job.program) core.kernel in
          apart-thread ranges core.lent lease other (beside-both ranges core.lent lease other core.leases goes.well.beside back.out out (is-another core lease other goes.one back.out e))

-- ---- along a journal

well-none : (core : Core) → core.leases ≡ [] → AreWellLent core
well-none core none lease e = absurd (true≢false (sym e ∙ ap (list_any (is_lease lease)) none))

pub well-after : (job : Job) (core : Core) (entry : Entry) → IsAllowed job core entry → GoesOn job core → AreWellLent core → AreWellLent (after job core entry)
unfolding after
well-after job core (Take lease) may goes h = well-take job core lease may h
well-after job core (Put lease count hit) may goes h =
    subst AreWellLent (sym (put-is job core lease count hit may)) (well-back job core lease count hit may.returns goes h (arrival job core.kernel lease.thread count may.returns.ran.replica) _ core.misses (λ r t e. refl))
well-after job core (Part lease count hit) may goes h =
    subst AreWellLent (sym (part-is job core lease count hit may))
    (well-back job core lease count hit may.returns goes h None _ (missing lease.replica lease.thread core.misses) (λ r t e. ap (λ (b : Bool). cond b (core.misses r t + 1) (core.misses r t)) e))
well-after job core (Vote thread count won lost did) may goes h =
    well-none (core_after_event core thread count (with_recovered won (numbers lost) core.replicas) (event_in job core thread won))
    (event_leases core thread count (with_recovered won (numbers lost) core.replicas) (event_in job core thread won) ∙ (vote-parts core thread may.may).alone)
well-after job core (Free thread) may goes h =
    well-none (core_after_event core thread 0 core.replicas (freed_event job core thread)) (event_leases core thread 0 core.replicas (freed_event job core thread) ∙ (free-parts job core thread may.may).alone)
well-after job core (Scrub won lost) may goes h = well-none (after job core (Scrub won lost)) (scrub-parts core may.may).alone
well-after job core (End how) may goes h = h

-- so each lease that is out is well lent in a legal journal
pub record LendsByWish (job : Job) (core : Core) : Type 0 where
  pub goes : GoesOn job core
  pub well : AreWellLent core

pub by-wish-after : (job : Job) (core : Core) (entry : Entry) → IsAllowed job core entry → LendsByWish job core → LendsByWish job (after job core entry)
by-wish-after job core entry may h = record { goes = goes-after job core entry may h.goes; well = well-after job core entry may h.goes h.well }

pub by-wish-opening : (job : Job) → LendsByWish job (opening_core job)
unfolding opening_core
by-wish-opening job = record { goes = goes-opening job; well = well-none (opening_core job) refl }

pub lends-by-wish : (job : Job) (journal : List Entry) → Legal job journal → LendsByWish job (replay job journal)
lends-by-wish job journal legal = legal-keeps job (LendsByWish job) (by-wish-after job) (opening_core job) journal legal (by-wish-opening job)
