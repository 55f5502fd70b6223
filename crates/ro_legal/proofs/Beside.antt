-- Which leases can be out at once.
use Rattle.std.specs.Prelude.{◌≡◌, ◌≢◌, ◌⊎◌, ◌≤◌, nat_lt, ℕ, Bool, true, false, not, cond, ◌&&◌, ◌||◌, ◌==◌, List, [], ◌∷◌, Option, Some, None}
use Rattle.std.specs.List.{filter, list_any}
use Rattle.std.proofs.Common.{refl, sym, ap, ◌∙◌, subst, inl, inr, eqb-true, eq-eqb}
use Rattle.std.proofs.lemmas.Bool.{true≢false, and_parts, and_from, or_parts, cases_eq, le-ltb}
use Rattle.ro_region.specs.declared.Range.{Range}
use Rattle.ro_region.specs.Permission.{is_writable}
use Rattle.ro_pages.specs.Directories.{is_listed}
use Rattle.ro_journal.specs.declared.Lease.{Lease}
use Rattle.ro_journal.specs.declared.Entry.{Entry}
use Rattle.ro_journal.specs.declared.Entry.TheVariants.{Take, Put, Part, Vote, Free, Scrub, End}
use Rattle.ro_kernel.specs.Kernel.{ranges_in}
use Rattle.ro_plain.specs.Machine.{setup_of}
use Rattle.ro_legal.specs.Parts.{Lent, Whole, Pages, Sharing, is_all, is_lent}
use Rattle.ro_legal.specs.Core.{Job, Core, opening_core, sharing_of, is_home, is_lease, is_taken, is_free, bars, shares, is_open, lent_by, lent_to, offers_by}
use Rattle.ro_replica.specs.Replica.{Replica}
use Rattle.ro_replica.specs.Runs.{RanTo}
use Rattle.ro_journal.specs.Losers.{numbers}
use Rattle.ro_legal.specs.Event.{Event, with_recovered}
use Rattle.ro_legal.specs.Legal.{core_after_take, core_after_put, core_after_part, core_after_event, lease_run, event_in, freed_event, after, MayTake, IsAllowed, Legal, replay_from, replay}
use Rattle.ro_legal.specs.Laws.{AreBeside, elsewhere, sharing}
use Rattle.ro_legal.proofs.Journals.{legal-keeps}
use Rattle.ro_legal.proofs.Leases.{same-lease, lendable-is, Behind, put-by, part-by, event_leases}
use Rattle.ro_legal.proofs.Ordered.{vote-parts, free-parts}

-- ---- each beside each

abbrev pub BesideAll : List Range → (ℕ → Lent) → Lease → List Lease → Type 0
BesideAll ranges lent one [] = Unit {0}
BesideAll ranges lent one (other ∷ leases) = AreBeside ranges lent one other × BesideAll ranges lent one leases

abbrev pub AllBeside : List Range → (ℕ → Lent) → List Lease → Type 0
AllBeside ranges lent [] = Unit {0}
AllBeside ranges lent (lease ∷ leases) = BesideAll ranges lent lease leases × AllBeside ranges lent leases

pub own-lease : (lease : Lease) → is_lease lease lease ≡ true
own-lease lease = and_from _ _ (and_from _ _ (eq-eqb lease.driver lease.driver refl) (eq-eqb lease.replica lease.replica refl)) (eq-eqb lease.thread lease.thread refl)

later-true : (a b : Bool) → b ≡ true → (a || b) ≡ true
later-true true b e = refl
later-true false b e = e

pub turned : (ranges : List Range) (lent : ℕ → Lent) (one other : Lease) → AreBeside ranges lent one other → AreBeside ranges lent other one
turned ranges lent one other (elsewhere apart) = elsewhere (λ e. apart (sym e))
turned ranges lent one other (sharing ones others apart has have both) = sharing others ones (λ e. apart (sym e)) have has (λ page a b. both page b a)

module _ (ranges : List Range) (lent : ℕ → Lent) where
  beside-each : (one : Lease) (leases : List Lease) → ((other : Lease) → list_any (is_lease other) leases ≡ true → AreBeside ranges lent one other) → BesideAll ranges lent one leases
  beside-each one [] each = tt
  beside-each one (lease ∷ leases) each =
      (each lease (ap (λ (b : Bool). b || list_any (is_lease lease) leases) (own-lease lease)), beside-each one leases (λ other e. each other (later-true (is_lease other lease) (list_any (is_lease other) leases) e)))

  pub beside-at : (one other : Lease) (leases : List Lease) → BesideAll ranges lent one leases → list_any (is_lease other) leases ≡ true → AreBeside ranges lent one other
  beside-at one other [] h e = absurd (true≢false (sym e))
  beside-at one other (lease ∷ leases) h e = by (is_lease other lease) refl e (beside-at one other leases h.1)
    where
      by : (b : Bool) → is_lease other lease ≡ b → (b || list_any (is_lease other) leases) ≡ true → (list_any (is_lease other) leases ≡ true → AreBeside ranges lent one other) → AreBeside ranges lent one other
      by true is f later = subst (AreBeside ranges lent one) (same-lease other lease is) h.0
      by false is f later = later f

  -- of two leases that are out, which are two
  pub beside-both : (one other : Lease) (leases : List Lease) → AllBeside ranges lent leases → list_any (is_lease one) leases ≡ true → list_any (is_lease other) leases ≡ true → one ≢ other → AreBeside ranges lent one other
  beside-both one other [] h e f apart = absurd (true≢false (sym e))
  beside-both one other (lease ∷ leases) h e f apart = by (is_lease one lease) (is_lease other lease) refl refl e f (λ x y. beside-both one other leases h.1 x y apart)
    where
      by : (b c : Bool) → is_lease one lease ≡ b → is_lease other lease ≡ c → (b || list_any (is_lease one) leases) ≡ true → (c || list_any (is_lease other) leases) ≡ true
          → (list_any (is_lease one) leases ≡ true → list_any (is_lease other) leases ≡ true → AreBeside ranges lent one other) → AreBeside ranges lent one other
      by true true is also e f later = absurd (apart (sym (same-lease one lease is) ∙ same-lease other lease also))
      by true false is also e f later = subst (λ (l : Lease). AreBeside ranges lent l other) (same-lease one lease is) (beside-at lease other leases h.0 f)
      by false true is also e f later = turned ranges lent other one (subst (λ (l : Lease). AreBeside ranges lent l one) (same-lease other lease also) (beside-at lease one leases h.0 e))
      by false false is also e f later = later e f

  beside-fewer : (one : Lease) (p : Lease → Bool) (leases : List Lease) → BesideAll ranges lent one leases → BesideAll ranges lent one (filter p leases)
  beside-fewer one p [] h = tt
  beside-fewer one p (lease ∷ leases) h = by (p lease) (beside-fewer one p leases h.1)
    where
      by : (b : Bool) → BesideAll ranges lent one (filter p leases) → BesideAll ranges lent one (cond b (lease ∷ filter p leases) (filter p leases))
      by true rest = (h.0, rest)
      by false rest = rest

  all-fewer : (p : Lease → Bool) (leases : List Lease) → AllBeside ranges lent leases → AllBeside ranges lent (filter p leases)
  all-fewer p [] h = tt
  all-fewer p (lease ∷ leases) h = by (p lease) (all-fewer p leases h.1)
    where
      by : (b : Bool) → AllBeside ranges lent (filter p leases) → AllBeside ranges lent (cond b (lease ∷ filter p leases) (filter p leases))
      by true rest = (beside-fewer lease p leases h.0, rest)
      by false rest = rest

-- what other drivers have doesn't matter
same-beside : (ranges : List Range) (lent new : ℕ → Lent) (one other : Lease) → new one.driver ≡ lent one.driver → new other.driver ≡ lent other.driver → AreBeside ranges lent one other → AreBeside ranges new one other
same-beside ranges lent new one other same too (elsewhere apart) = elsewhere apart
same-beside ranges lent new one other same too (sharing ones others apart has have both) = sharing ones others apart (same ∙ has) (too ∙ have) both

module _ (ranges : List Range) (lent new : ℕ → Lent) where
  same-all : (one : Lease) (leases : List Lease) → new one.driver ≡ lent one.driver → ((l : Lease) → list_any (is_lease l) leases ≡ true → new l.driver ≡ lent l.driver) → BesideAll ranges lent one leases → BesideAll ranges new one leases
  same-all one [] own each h = tt
  same-all one (lease ∷ leases) own each h = (
    same-beside ranges lent new one lease own (each lease (ap (λ (b : Bool). b || list_any (is_lease lease) leases) (own-lease lease))) h.0,
    same-all one leases own (λ l e. each l (later-true (is_lease l lease) (list_any (is_lease l) leases) e)) h.1,
  )

  same-each : (leases : List Lease) → ((l : Lease) → list_any (is_lease l) leases ≡ true → new l.driver ≡ lent l.driver) → AllBeside ranges lent leases → AllBeside ranges new leases
  same-each [] each h = tt
  same-each (lease ∷ leases) each h =
      let rest : (l : Lease) → list_any (is_lease l) leases ≡ true → new l.driver ≡ lent l.driver = λ l e. each l (later-true (is_lease l lease) (list_any (is_lease l) leases) e) in
      (same-all lease leases (each lease (ap (λ (b : Bool). b || list_any (is_lease lease) leases) (own-lease lease))) rest h.0, same-each leases rest h.1)

-- ---- a take

-- a lease in a list passes no test that none of the list passes
none-passes : (p : Lease → Bool) (lease : Lease) (leases : List Lease) → not (list_any p leases) ≡ true → list_any (is_lease lease) leases ≡ true → p lease ≡ false
none-passes p lease [] none e = absurd (true≢false (sym e))
none-passes p lease (l ∷ leases) none e = by (is_lease lease l) refl e (λ x y. none-passes p lease leases x y)
  where
    unnot : (b : Bool) → not b ≡ true → b ≡ false
    unnot true f = absurd (true≢false (sym f))
    unnot false f = refl

    parts : (p l ≡ false) × (list_any p leases ≡ false)
    parts = or_parts (p l) (list_any p leases) (unnot _ none)

    by : (b : Bool) → is_lease lease l ≡ b → (b || list_any (is_lease lease) leases) ≡ true → (not (list_any p leases) ≡ true → list_any (is_lease lease) leases ≡ true → p lease ≡ false) → p lease ≡ false
    by true is f later = ap p (sym (same-lease lease l is)) ∙ parts.0
    by false is f later = later (ap not parts.1) f

-- one in a list makes it pass a test that it passes
some-passes : (p : Lease → Bool) (lease : Lease) (leases : List Lease) → list_any (is_lease lease) leases ≡ true → p lease ≡ true → list_any p leases ≡ true
some-passes p lease [] e f = absurd (true≢false (sym e))
some-passes p lease (l ∷ leases) e f = by (is_lease lease l) refl e (λ g. some-passes p lease leases g f)
  where
    by : (b : Bool) → is_lease lease l ≡ b → (b || list_any (is_lease lease) leases) ≡ true → (list_any (is_lease lease) leases ≡ true → list_any p leases ≡ true) → (p l || list_any p leases) ≡ true
    by true is g later = ap (λ (b : Bool). b || list_any p leases) (ap p (same-lease lease l is) ∙ f)
    by false is g later = later-true (p l) (list_any p leases) (later g)

-- what is listed behind a filter passes it
pub listed-passes : (p : ℕ → Bool) (pages : List ℕ) (page : ℕ) → is_listed (filter p pages) page ≡ true → p page ≡ true
listed-passes p [] page e = absurd (true≢false (sym e))
listed-passes p (n ∷ pages) page e = by (listed-passes p pages page) (p n) refl e
  where
    first : (is_listed (filter p pages) page ≡ true → p page ≡ true) → p n ≡ true → (b : Bool) → (n == page) ≡ b → (b || is_listed (filter p pages) page) ≡ true → p page ≡ true
    first later passes true same f = ap p (sym (eqb-true n page same)) ∙ passes
    first later passes false other f = later f

    by : (is_listed (filter p pages) page ≡ true → p page ≡ true) → (b : Bool) → p n ≡ b → is_listed (cond b (n ∷ filter p pages) (filter p pages)) page ≡ true → p page ≡ true
    by later true is f = first later is (n == page) refl f
    by later false is f = later f

module _ (job : Job) (core : Core) (lease : Lease) where
  abbrev ranges : List Range
  ranges = ranges_in (setup_of job.program) core.kernel

  -- a lease that is out while the whole replica is offered
  home-beside : (lent : ℕ → Lent) → is_home core lease.replica ≡ true → (other : Lease) → list_any (is_lease other) core.leases ≡ true → AreBeside ranges lent lease other
  home-beside lent home other e = elsewhere (λ same.
      true≢false (sym (eq-eqb other.replica lease.replica (sym same)) ∙ none-passes (λ l. l.replica == lease.replica) other core.leases home e))

  module _ (s : Sharing) (setup : s.setup ≡ setup_of job.program) (lent : ℕ → Lent) (own : lent lease.driver ≡ Pages (filter (is_free s core lease.replica) (core.wishes lease.replica lease.thread))) (opens : not (list_any (bars core lease.replica lease.thread) core.leases) ≡ true) (other : Lease) (out : list_any (is_lease other) core.leases ≡ true) (kept : lent other.driver ≡ core.lent other.driver) where
    unbarred : bars core lease.replica lease.thread other ≡ false
    unbarred = none-passes (bars core lease.replica lease.thread) other core.leases opens out

    -- a free page that the other has may not be written
    both-free : (others : List ℕ) → core.lent other.driver ≡ Pages others → other.replica ≡ lease.replica → (page : ℕ) → is_free s core lease.replica page ≡ true → is_listed others page ≡ true → is_writable ranges page ≡ false
    both-free others has same page free listed =
        let lends : is_lent (core.lent other.driver) page ≡ true = ap (λ (l : Lent). is_lent l page) has ∙ listed in
        let taken : is_taken core lease.replica page ≡ true = some-passes (λ l. (l.replica == lease.replica) && is_lent (core.lent l.driver) page) other core.leases out (and_from _ _ (eq-eqb other.replica lease.replica same) lends) in
        ap (λ (x : _). is_writable (ranges_in x core.kernel) page) (sym setup) ∙ unwritable (is_writable (ranges_in s.setup core.kernel) page) (is_taken core lease.replica page) free taken
      where
        unwritable : (w t : Bool) → not (w && t) ≡ true → t ≡ true → w ≡ false
        unwritable true true f g = absurd (true≢false (sym f))
        unwritable true false f g = absurd (true≢false (sym g))
        unwritable false t f g = refl

    open-beside : AreBeside ranges lent lease other
    open-beside = by (cases_eq other.replica lease.replica)
      where
        pages : (same : other.replica ≡ lease.replica) → other.thread ≢ lease.thread → (l : Lent) → core.lent other.driver ≡ l → is_all l ≡ false → AreBeside ranges lent lease other
        pages same apart Whole has none = absurd (true≢false none)
        pages same apart (Pages others) has none =
            sharing _ others (λ e. apart (sym e)) own (kept ∙ has) (λ page a b. both-free others has same page (listed-passes (is_free s core lease.replica) (core.wishes lease.replica lease.thread) page a) b)

        here : other.replica ≡ lease.replica → AreBeside ranges lent lease other
        here same =
            let none : ((other.thread == lease.thread) || is_all (core.lent other.driver)) ≡ false = sym (ap (λ (b : Bool). b && ((other.thread == lease.thread) || is_all (core.lent other.driver))) (eq-eqb other.replica lease.replica same)) ∙ unbarred in
            let parts = or_parts (other.thread == lease.thread) (is_all (core.lent other.driver)) none in
            pages same (λ e. true≢false (sym (eq-eqb other.thread lease.thread e) ∙ parts.0)) (core.lent other.driver) refl parts.1

        by : (other.replica ≡ lease.replica) ⊎ (other.replica ≢ lease.replica) → AreBeside ranges lent lease other
        by (inl same) = here same
        by (inr apart) = elsewhere (λ e. apart (sym e))

-- ---- along a journal

event-sharing : (core : Core) (thread count : ℕ) (replicas : List Replica) (o : Option Event) → (core_after_event core thread count replicas o).sharing ≡ core.sharing
event-sharing core thread count replicas None = refl
event-sharing core thread count replicas (Some event) = refl

put-sharing : (job : Job) (core : Core) (lease : Lease) (count : ℕ) (o : Option RanTo) → (core_after_put job core lease count o).sharing ≡ core.sharing
put-sharing job core lease count None = refl
put-sharing job core lease count (Some ran) = refl

part-sharing : (job : Job) (core : Core) (lease : Lease) (o : Option RanTo) → (core_after_part job core lease o).sharing ≡ core.sharing
part-sharing job core lease None = refl
part-sharing job core lease (Some ran) = refl

sharing-after : (job : Job) (core : Core) (entry : Entry) → (after job core entry).sharing ≡ core.sharing
unfolding after
sharing-after job core (Take lease) = refl
sharing-after job core (Put lease count hit) = put-sharing job core lease count (lease_run job core lease count)
sharing-after job core (Part lease count hit) = part-sharing job core lease (lease_run job core lease count)
sharing-after job core (Vote thread count won lost did) = event-sharing core thread count (with_recovered won (numbers lost) core.replicas) (event_in job core thread won)
sharing-after job core (Free thread) = event-sharing core thread 0 core.replicas (freed_event job core thread)
sharing-after job core (Scrub won lost) = refl
sharing-after job core (End how) = refl

sharing-from : (job : Job) (core : Core) (journal : List Entry) → (replay_from job core journal).sharing ≡ core.sharing
sharing-from job core [] = refl
sharing-from job core (entry ∷ journal) = sharing-from job (after job core entry) journal ∙ sharing-after job core entry

-- whether pages are lent is the same all along
pub sharing-stays : (job : Job) (journal : List Entry) → (replay job journal).sharing ≡ sharing_of job
unfolding opening_core
sharing-stays job journal = sharing-from job (opening_core job) journal

-- The leases that are out can be out at once, by what the job's run goes by.
pub record LendsWell (job : Job) (core : Core) : Type 0 where
  pub setup_is : (s : Sharing) → core.sharing ≡ Some s → s.setup ≡ setup_of job.program
  pub beside : AllBeside (ranges_in (setup_of job.program) core.kernel) core.lent core.leases

lends-none : (job : Job) (core : Core) → core.leases ≡ [] → ((s : Sharing) → core.sharing ≡ Some s → s.setup ≡ setup_of job.program) → LendsWell job core
lends-none job core none setup = record { setup_is = setup; beside = subst (λ (leases : List Lease). AllBeside (ranges_in (setup_of job.program) core.kernel) core.lent leases) (sym none) tt }

-- what each lease has behind a take
module _ (job : Job) (core : Core) (lease : Lease) (m : MayTake job core lease) where
  -- the others have what they had
  pub take-keeps : (other : Lease) → list_any (is_lease other) core.leases ≡ true → (core_after_take core lease).lent other.driver ≡ core.lent other.driver
  take-keeps other e =
      ap (λ (b : Bool). cond b (lent_to core lease.replica lease.thread) (core.lent other.driver))
      (none-passes (λ l. l.driver == lease.driver) other core.leases m.driver_is_idle e)

  pub take-lends : (core_after_take core lease).lent lease.driver ≡ lent_to core lease.replica lease.thread
  take-lends = ap (λ (b : Bool). cond b (lent_to core lease.replica lease.thread) (core.lent lease.driver)) (eq-eqb lease.driver lease.driver refl)

module _ (job : Job) (core : Core) (lease : Lease) (m : MayTake job core lease) (h : LendsWell job core) where
  abbrev lent : ℕ → Lent
  lent = (core_after_take core lease).lent

  module _ (other : Lease) (e : list_any (is_lease other) core.leases ≡ true) where
    by-sharing : (s : Sharing) → core.sharing ≡ Some s → (b : Bool) → shares s core lease.replica lease.thread ≡ b → cond b (is_open s core lease.replica lease.thread) (is_home core lease.replica) ≡ true
        → lent lease.driver ≡ cond b (Pages (filter (is_free s core lease.replica) (core.wishes lease.replica lease.thread))) Whole → AreBeside (ranges job core lease) lent lease other
    by-sharing s is true f opens has = open-beside job core lease s (h.setup_is s is) lent has (and_parts _ _ opens).0 other e (take-keeps job core lease m other e)
    by-sharing s is false f home has = home-beside job core lease lent home other e

    by-offer : (o : Option Sharing) → core.sharing ≡ o → offers_by o core lease.replica lease.thread ≡ true → lent lease.driver ≡ lent_by o core lease.replica lease.thread → AreBeside (ranges job core lease) lent lease other
    by-offer None is home has = home-beside job core lease lent home other e
    by-offer (Some s) is f has = by-sharing s is (shares s core lease.replica lease.thread) refl f has

    new-beside : AreBeside (ranges job core lease) lent lease other
    new-beside = by-offer core.sharing refl (lendable-is core lease.replica lease.thread m.lendable).offered (take-lends job core lease m)

  lends-take : LendsWell job (core_after_take core lease)
  lends-take = record {
    setup_is = h.setup_is;
    beside = (beside-each (ranges job core lease) lent lease core.leases new-beside, same-each (ranges job core lease) core.lent lent core.leases (take-keeps job core lease m) h.beside);
  }

lends-back : (job : Job) (core : Core) (lease : Lease) (replica : Replica) → LendsWell job core → Behind (LendsWell job) core lease replica
lends-back job core lease replica h stop wishes misses = record {
  setup_is = h.setup_is;
  beside = all-fewer (ranges_in (setup_of job.program) core.kernel) core.lent (λ other. not (is_lease lease other)) core.leases h.beside;
}

pub lends-after : (job : Job) (core : Core) (entry : Entry) → IsAllowed job core entry → LendsWell job core → LendsWell job (after job core entry)
unfolding after
lends-after job core (Take lease) may h = lends-take job core lease may h
lends-after job core (Put lease count hit) may h = put-by job core lease count hit may (LendsWell job) (λ stop wishes misses. lends-back job core lease may.returns.ran.replica h stop wishes misses)
lends-after job core (Part lease count hit) may h = part-by job core lease count hit may (LendsWell job) (λ stop wishes misses. lends-back job core lease may.returns.ran.replica h stop wishes misses)
lends-after job core (Vote thread count won lost did) may h =
    lends-none job _ (event_leases core thread count (with_recovered won (numbers lost) core.replicas) (event_in job core thread won) ∙ (vote-parts core thread may.may).alone)
    (λ s e. h.setup_is s (sym (event-sharing core thread count (with_recovered won (numbers lost) core.replicas) (event_in job core thread won)) ∙ e))
lends-after job core (Free thread) may h =
    lends-none job _ (event_leases core thread 0 core.replicas (freed_event job core thread) ∙ (free-parts job core thread may.may).alone)
    (λ s e. h.setup_is s (sym (event-sharing core thread 0 core.replicas (freed_event job core thread)) ∙ e))
lends-after job core (Scrub won lost) may h = record { setup_is = h.setup_is; beside = h.beside }
lends-after job core (End how) may h = record { setup_is = h.setup_is; beside = h.beside }

-- how the job's run lends pages, if it does
pub sharing-is : (job : Job) (s : Sharing) → sharing_of job ≡ Some s → s ≡ record { setup = setup_of job.program; quantum = job.settings.quantum }
unfolding sharing_of
sharing-is job s = by (nat_lt 1 job.settings.drivers)
  where
    by : (b : Bool) → cond b (Some (record { setup = setup_of job.program; quantum = job.settings.quantum })) None ≡ Some s → s ≡ record { setup = setup_of job.program; quantum = job.settings.quantum }
    by true e = cc
    by false e = absurd (let f : None ≡ Some s = e in cc)

-- one driver lends none
pub sharing-one : (job : Job) → job.settings.drivers ≤ 1 → sharing_of job ≡ None
unfolding sharing_of
sharing-one job few = ap (λ (b : Bool). cond b (Some (record { setup = setup_of job.program; quantum = job.settings.quantum })) None) (le-ltb 1 job.settings.drivers few)

pub lends-opening : (job : Job) → LendsWell job (opening_core job)
unfolding opening_core
lends-opening job = record { setup_is = λ s e. ap (λ (x : Sharing). x.setup) (sharing-is job s e); beside = tt }

-- in a legal journal the leases that are out can be out at once
pub lends-well : (job : Job) (journal : List Entry) → Legal job journal → LendsWell job (replay job journal)
lends-well job journal legal = legal-keeps job (LendsWell job) (lends-after job) (opening_core job) journal legal (lends-opening job)

-- ---- leases of whole replicas

-- each lease is of a whole replica
pub record LendsWhole (core : Core) : Type 0 where
  pub none : core.sharing ≡ None
  pub whole : (driver : ℕ) → core.lent driver ≡ Whole

pub whole-take : (core : Core) (lease : Lease) → LendsWhole core → LendsWhole (core_after_take core lease)
whole-take core lease h = record { none = h.none; whole = λ driver. by driver (driver == lease.driver) }
  where
    by : (driver : ℕ) (b : Bool) → cond b (lent_to core lease.replica lease.thread) (core.lent driver) ≡ Whole
    by driver true = ap (λ (o : Option Sharing). lent_by o core lease.replica lease.thread) h.none
    by driver false = h.whole driver

whole-put : (job : Job) (core : Core) (lease : Lease) (count : ℕ) (o : Option RanTo) → LendsWhole core → LendsWhole (core_after_put job core lease count o)
whole-put job core lease count None h = h
whole-put job core lease count (Some ran) h = record { none = h.none; whole = h.whole }

whole-part : (job : Job) (core : Core) (lease : Lease) (o : Option RanTo) → LendsWhole core → LendsWhole (core_after_part job core lease o)
whole-part job core lease None h = h
whole-part job core lease (Some ran) h = record { none = h.none; whole = h.whole }

whole-event : (core : Core) (thread count : ℕ) (replicas : List Replica) (o : Option Event) → LendsWhole core → LendsWhole (core_after_event core thread count replicas o)
whole-event core thread count replicas None h = h
whole-event core thread count replicas (Some event) h = record { none = h.none; whole = h.whole }

whole-after : (job : Job) (core : Core) (entry : Entry) → LendsWhole core → LendsWhole (after job core entry)
unfolding after
whole-after job core (Take lease) h = whole-take core lease h
whole-after job core (Put lease count hit) h = whole-put job core lease count (lease_run job core lease count) h
whole-after job core (Part lease count hit) h = whole-part job core lease (lease_run job core lease count) h
whole-after job core (Vote thread count won lost did) h = whole-event core thread count (with_recovered won (numbers lost) core.replicas) (event_in job core thread won) h
whole-after job core (Free thread) h = whole-event core thread 0 core.replicas (freed_event job core thread) h
whole-after job core (Scrub won lost) h = record { none = h.none; whole = h.whole }
whole-after job core (End how) h = record { none = h.none; whole = h.whole }

whole-from : (job : Job) (core : Core) (journal : List Entry) → LendsWhole core → LendsWhole (replay_from job core journal)
whole-from job core [] h = h
whole-from job core (entry ∷ journal) h = whole-from job (after job core entry) journal (whole-after job core entry h)

pub lends-whole : (job : Job) (journal : List Entry) → sharing_of job ≡ None → LendsWhole (replay job journal)
unfolding opening_core
lends-whole job journal none = whole-from job (opening_core job) journal (record { none = none; whole = λ driver. refl })

-- and behind a take
pub taken-whole : (core : Core) (lease : Lease) → LendsWhole core → (core_after_take core lease).lent lease.driver ≡ Whole
taken-whole core lease h = (whole-take core lease h).whole lease.driver
