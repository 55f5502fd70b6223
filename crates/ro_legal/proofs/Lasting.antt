-- A lease stays out, and what it has as it was, until its own driver puts it back.
use Rattle.std.proofs.Common.{◌≡◌, ◌≢◌, ℕ, ◌<◌, ◌==◌, Bool, true, false, true≢false, not, cond, ◌||◌, List, [], ◌∷◌, ◌++◌, Option, Some, None, refl, sym, ap, ◌∙◌, subst, inl, inr, eqb-true, eq-eqb, ne_eqb}
use Rattle.std.specs.Prelude.{◌⊎◌, slice_get}
use Rattle.std.specs.List.{filter, find, list_any}
use Rattle.std.specs.Option.{option_and_then}
use Rattle.std.proofs.lemmas.Bool.{and_parts, cases_eq}
use Rattle.ro_event.specs.declared.stops.Stop.{Stop}
use Rattle.ro_region.specs.Permission.{is_writable}
use Rattle.ro_region.proofs.Writable.{no-byte}
use Rattle.ro_pages.specs.Bytes.{page_of}
use Rattle.ro_pages.specs.Directories.{is_listed}
use Rattle.ro_journal.specs.Losers.{numbers}
use Rattle.ro_journal.specs.declared.Entry.{Entry}
use Rattle.ro_journal.specs.declared.Entry.TheVariants.{Take, Put, Part, Vote, Free, Scrub, End}
use Rattle.ro_kernel.specs.Kernel.{ranges_in}
use Rattle.ro_kernel.proofs.Kept.{slice_get-set_other}
use Rattle.ro_replica.specs.Replica.{Replica}
use Rattle.ro_replica.specs.Runs.{RanTo, with_stop}
use Rattle.ro_plain.specs.Machine.{setup_of, layout_in}
use Rattle.ro_journal.specs.declared.Lease.{Lease}
use Rattle.ro_legal.specs.Parts.{Lent, Pages, seen_pages, run_with}
use Rattle.ro_legal.specs.Core.{Job, Core, opening_core, is_idle, is_lease, lease_of, lent_to}
use Rattle.ro_legal.specs.Event.{with_recovered}
use Rattle.ro_legal.specs.Legal.{lease_run, stopped, core_after_lease, core_after_put, core_after_part, event_in, freed_event, after, IsAllowed, Returns, Legal, replay}
use Rattle.ro_legal.specs.Laws.{Names, IsKept, IsStill, HasLease, AreBeside, elsewhere, sharing}
use Rattle.ro_legal.specs.Sound.{IsOrdered}
use Rattle.ro_legal.proofs.Lists.{get-set-same, changed-other}
use Rattle.ro_legal.proofs.Journals.{LegalFrom-parts, legal-keeps, replay_more}
use Rattle.ro_legal.proofs.Leases.{has_replica, has_driver, Apart, OneEach, or_true, not_false, same-lease, has-filter, gone_number, out_found, event_leases, leases_keep, one_each, out_has, put-only, part-only, Behind, put-by, part-by}
use Rattle.ro_legal.proofs.Beside.{beside-both, LendsWell, lends-well}
use Rattle.ro_legal.proofs.PageRuns.{LeavesRest, leaves-rest}
use Rattle.ro_legal.proofs.Ordered.{ordered, vote-parts, free-parts, scrub-parts, end-alone}

-- ---- leases of one driver

-- a driver whose lease came back holds none
idle-back : (job : Job) (core : Core) (lease : Lease) (count hit : ℕ) → OneEach core.leases → (back : Returns job core lease count hit) → Behind (λ c. is_idle c lease.driver ≡ true) core lease back.ran.replica
idle-back job core lease count hit one back stop wishes misses = ap not (gone_number (λ lease. lease.driver) lease core.leases one back.out)

-- and so in a legal journal
pub put_idles : (job : Job) (journal : List Entry) (lease : Lease) (count hit : ℕ) → Legal job (journal ++ Put lease count hit ∷ []) → is_idle (replay job (journal ++ Put lease count hit ∷ [])) lease.driver ≡ true
put_idles job journal lease count hit legal =
    let parts = LegalFrom-parts job (opening_core job) journal (Put lease count hit ∷ []) legal in
    ap (λ (c : Core). is_idle c lease.driver) (replay_more job journal (Put lease count hit))
    ∙ put-by job (replay job journal) lease count hit parts.1.0 (λ c. is_idle c lease.driver ≡ true) (idle-back job (replay job journal) lease count hit (one_each job journal parts.0) parts.1.0.returns)

pub part-idles : (job : Job) (journal : List Entry) (lease : Lease) (count hit : ℕ) → Legal job (journal ++ Part lease count hit ∷ []) → is_idle (replay job (journal ++ Part lease count hit ∷ [])) lease.driver ≡ true
part-idles job journal lease count hit legal =
    let parts = LegalFrom-parts job (opening_core job) journal (Part lease count hit ∷ []) legal in
    ap (λ (c : Core). is_idle c lease.driver) (replay_more job journal (Part lease count hit))
    ∙ part-by job (replay job journal) lease count hit parts.1.0 (λ c. is_idle c lease.driver ≡ true) (idle-back job (replay job journal) lease count hit (one_each job journal parts.0) parts.1.0.returns)

-- ---- what another driver's entry leaves

pub none_found : (driver : ℕ) (lease : Lease) (leases : List Lease) → leases ≡ [] → find (λ l. l.driver == driver) leases ≡ Some lease → ⊥
none_found driver lease leases none e = let f : None ≡ Some lease = sym (ap (find (λ (l : Lease). l.driver == driver)) none) ∙ e in cc

-- a lease that is not of the driver may go
pub found_in_rest : (driver : ℕ) (lease : Lease) (p : Lease → Bool) (leases : List Lease) → ((l : Lease) → (l.driver == driver) ≡ true → p l ≡ true) → find (λ l. l.driver == driver) leases ≡ Some lease → find (λ l. l.driver == driver) (filter p leases) ≡ Some lease
found_in_rest driver lease p [] keeps e = e
found_in_rest driver lease p (l ∷ leases) keeps e = by (l.driver == driver) refl (p l) refl e (λ f. found_in_rest driver lease p leases keeps f)
  where
    by : (b : Bool) → (l.driver == driver) ≡ b → (k : Bool) → p l ≡ k → cond b (Some l) (find (λ x. x.driver == driver) leases) ≡ Some lease
        → (find (λ x. x.driver == driver) leases ≡ Some lease → find (λ x. x.driver == driver) (filter p leases) ≡ Some lease)
        → find (λ x. x.driver == driver) (cond k (l ∷ filter p leases) (filter p leases)) ≡ Some lease
    by true is true k f rest = ap (λ (b : Bool). cond b (Some l) (find (λ x. x.driver == driver) (filter p leases))) is ∙ f
    by true is false k f rest = absurd (true≢false (sym (keeps l is) ∙ k))
    by false is true k f rest = ap (λ (b : Bool). cond b (Some l) (find (λ x. x.driver == driver) (filter p leases))) is ∙ rest f
    by false is false k f rest = rest f

has_found : (driver : ℕ) (lease : Lease) (leases : List Lease) → find (λ l. l.driver == driver) leases ≡ Some lease → has_replica lease.replica leases ≡ true
has_found driver lease [] e = absurd (let f : None ≡ Some lease = e in cc)
has_found driver lease (l ∷ leases) e = by (l.driver == driver) e (λ f. has_found driver lease leases f)
  where
    by : (b : Bool) → cond b (Some l) (find (λ x. x.driver == driver) leases) ≡ Some lease → (find (λ x. x.driver == driver) leases ≡ Some lease → has_replica lease.replica leases ≡ true)
        → ((l.replica == lease.replica) || has_replica lease.replica leases) ≡ true
    by true f rest = let same : l ≡ lease = (let x : Some l ≡ Some lease = f in cc) in ap (λ (b : Bool). b || has_replica lease.replica leases) (eq-eqb l.replica lease.replica (ap (λ (x : Lease). x.replica) same))
    by false f rest = or_true (l.replica == lease.replica) (has_replica lease.replica leases) (rest f)

-- the leases of two drivers are of two replicas
pub other_replica : (driver : ℕ) (other lease : Lease) (leases : List Lease) → Apart leases → other.driver ≢ driver → find (λ l. l.driver == driver) leases ≡ Some lease → list_any (is_lease other) leases ≡ true → other.replica ≢ lease.replica
other_replica driver other lease [] apart ne e out = absurd (let f : None ≡ Some lease = e in cc)
other_replica driver other lease (l ∷ leases) apart ne e out =
    by (l.driver == driver) refl e (is_lease other l) refl out (λ f g. other_replica driver other lease leases apart.1 ne f g)
  where
    by : (b : Bool) → (l.driver == driver) ≡ b → cond b (Some l) (find (λ x. x.driver == driver) leases) ≡ Some lease
        → (k : Bool) → is_lease other l ≡ k → (k || list_any (is_lease other) leases) ≡ true
        → (find (λ x. x.driver == driver) leases ≡ Some lease → list_any (is_lease other) leases ≡ true → other.replica ≢ lease.replica)
        → other.replica ≢ lease.replica
    by true is f true k g rest = absurd (ne (ap (λ (x : Lease). x.driver) (sym (same-lease other l k)) ∙ eqb-true l.driver driver is))
    by true is f false k g rest = λ same.
        let its : l ≡ lease = (let x : Some l ≡ Some lease = f in cc) in
        let there : has_replica other.replica leases ≡ true = out_has other leases g in
        let equal : l.replica ≡ other.replica = ap (λ (x : Lease). x.replica) its ∙ sym same in
        true≢false (sym there ∙ ap (λ (n : ℕ). has_replica n leases) (sym equal) ∙ apart.0)
    by false is f true k g rest = λ same.
        let here : l.replica ≡ other.replica = ap (λ (x : Lease). x.replica) (same-lease other l k) in
        let there : has_replica lease.replica leases ≡ true = has_found driver lease leases f in
        true≢false (sym there ∙ ap (λ (n : ℕ). has_replica n leases) (sym (here ∙ same)) ∙ apart.0)
    by false is f false k g rest = rest f g

-- a lease that is found is of the driver
found-driver : (driver : ℕ) (lease : Lease) (leases : List Lease) → find (λ l. l.driver == driver) leases ≡ Some lease → lease.driver ≡ driver
found-driver driver lease [] e = absurd (let f : None ≡ Some lease = e in cc)
found-driver driver lease (l ∷ leases) e = by (l.driver == driver) refl e (found-driver driver lease leases)
  where
    by : (b : Bool) → (l.driver == driver) ≡ b → cond b (Some l) (find (λ x. x.driver == driver) leases) ≡ Some lease → (find (λ x. x.driver == driver) leases ≡ Some lease → lease.driver ≡ driver) → lease.driver ≡ driver
    by true is f later = let its : l ≡ lease = (let x : Some l ≡ Some lease = f in cc) in ap (λ (x : Lease). x.driver) (sym its) ∙ eqb-true l.driver driver is
    by false is f later = later f

-- another driver's lease comes back
module _ (job : Job) (core : Core) (well : LendsWell job core) (driver : ℕ) (lease : Lease) (lent : Lent) (taken : Replica) (out : HasLease core driver lease lent taken) (other : Lease) (count hit : ℕ) (back : Returns job core other count hit) (differs : other.driver ≢ driver) (stop : Option Stop) (wishes : (replica thread : ℕ) → List ℕ) (misses : (replica thread : ℕ) → ℕ) where
  abbrev behind : Core
  behind = core_after_lease core other stop wishes misses back.ran.replica

  own : lease.driver ≡ driver
  own = found-driver driver lease core.leases out.held

  beside : AreBeside (ranges_in (setup_of job.program) core.kernel) core.lent lease other
  beside = beside-both (ranges_in (setup_of job.program) core.kernel) core.lent lease other core.leases well.beside (out_found driver lease core.leases out.held) back.out
      (λ same. differs (ap (λ (l : Lease). l.driver) (sym same) ∙ own))

  still_held : find (λ l. l.driver == driver) behind.leases ≡ Some lease
  still_held = found_in_rest driver lease (λ l. not (is_lease other l)) core.leases keeps out.held
    where
      not_other : (l : Lease) → (l.driver == driver) ≡ true → (b : Bool) → is_lease other l ≡ b → not b ≡ true
      not_other l is false k = refl
      not_other l is true k = absurd (differs (ap (λ (x : Lease). x.driver) (sym (same-lease other l k)) ∙ eqb-true l.driver driver is))

      keeps : (l : Lease) → (l.driver == driver) ≡ true → not (is_lease other l) ≡ true
      keeps l is = not_other l is (is_lease other l) refl

  away : other.replica ≢ lease.replica → HasLease behind driver lease lent taken
  away apart = record {
    held = still_held;
    has = out.has;
    now = out.now;
    there = slice_get-set_other core.replicas other.replica lease.replica _ apart ∙ out.there;
    still = out.still;
    not_ended = out.not_ended;
  }

  -- in the same replica both were lent pages
  module _ (same : other.replica ≡ lease.replica) (ones others : List ℕ) (apart : lease.thread ≢ other.thread) (has : core.lent driver ≡ Pages ones) (have : core.lent other.driver ≡ Pages others) (both : (page : ℕ) → is_listed ones page ≡ true → is_listed others page ≡ true → is_writable (ranges_in (setup_of job.program) core.kernel) page ≡ false) where
    there_now : slice_get core.replicas other.replica ≡ Some out.now
    there_now = ap (slice_get core.replicas) same ∙ out.there

    runs : run_with (layout_in job.program core.kernel) job.settings.watchdog (Pages others) count out.now other.thread ≡ Some back.ran
    runs =
        ap (λ (l : Lent). run_with (layout_in job.program core.kernel) job.settings.watchdog l count out.now other.thread) (sym have)
        ∙ ap (option_and_then (λ r. run_with (layout_in job.program core.kernel) job.settings.watchdog (core.lent other.driver) count r other.thread)) (sym there_now) ∙ back.runs

    rest : LeavesRest (layout_in job.program core.kernel) others other.thread out.now back.ran.replica
    rest = leaves-rest (layout_in job.program core.kernel) job.settings.watchdog others count other.thread out.now back.ran runs

    kept : IsKept ones lease.thread taken out.now
    kept = subst (λ (l : Lent). IsStill l lease.thread taken out.now) (sym out.has ∙ has) out.still

    -- a byte of a page of this lease
    byte : (a : ℕ) → seen_pages (Pages ones) taken.backed (page_of a) ≡ true → (b : Bool) → seen_pages (Pages others) out.now.backed (page_of a) ≡ b → out.now.memory a ≡ back.ran.replica.memory a
    byte a seen true is =
        rest.bytes.unwritable.same a (no-byte (ranges_in (setup_of job.program) core.kernel) (page_of a) a
        (both (page_of a) (and_parts (is_listed ones (page_of a)) (taken.backed (page_of a)) seen).0 (and_parts (is_listed others (page_of a)) (out.now.backed (page_of a)) is).0) refl)
    byte a seen false is = rest.bytes.beside.same a is

    still : IsKept ones lease.thread taken (stopped other.thread stop back.ran.replica)
    still = record {
      same_thread = changed-other (with_stop stop) back.ran.replica.threads other.thread lease.thread apart ∙ rest.others lease.thread (λ e. apart (sym e)) ∙ kept.same_thread;
      backed = rest.backed ∙ kept.backed;
      bytes = record { same = λ a seen. kept.bytes.same a seen ∙ byte a seen (seen_pages (Pages others) out.now.backed (page_of a)) refl };
      waiting = rest.waiting ∙ kept.waiting;
    }

    here : HasLease behind driver lease lent taken
    here = record {
      held = still_held;
      has = out.has;
      now = stopped other.thread stop back.ran.replica;
      there = ap (slice_get behind.replicas) (sym same) ∙ get-set-same core.replicas other.replica out.now (stopped other.thread stop back.ran.replica) there_now;
      still = subst (λ (l : Lent). IsStill l lease.thread taken (stopped other.thread stop back.ran.replica)) (sym has ∙ out.has) still;
      not_ended = out.not_ended;
    }

  out-back : HasLease (core_after_lease core other stop wishes misses back.ran.replica) driver lease lent taken
  out-back = by beside
    where
      by : AreBeside (ranges_in (setup_of job.program) core.kernel) core.lent lease other → HasLease behind driver lease lent taken
      by (elsewhere apart) = away (λ e. apart (sym e))
      by (sharing ones others apart has have both) = either (cases_eq other.replica lease.replica)
        where
          either : (other.replica ≡ lease.replica) ⊎ (other.replica ≢ lease.replica) → HasLease behind driver lease lent taken
          either (inl same) = here same ones others apart (ap core.lent (sym own) ∙ has) have both
          either (inr differ) = away differ

-- an entry of another driver leaves the lease
pub out_after : (job : Job) (core : Core) (driver : ℕ) (lease : Lease) (lent : Lent) (taken : Replica) (by : ℕ) (entry : Entry) → IsOrdered job core → LendsWell job core → IsAllowed job core entry → Names by entry → by ≢ driver → HasLease core driver lease lent taken → HasLease (after job core entry) driver lease lent taken
unfolding after
out_after job core driver lease lent taken by (Take other) o well m names ne out = record {
  held = ap (λ (b : Bool). cond b (Some other) (find (λ (l : Lease). l.driver == driver) core.leases)) (ne_eqb other.driver driver (λ e. ne (sym names ∙ e))) ∙ out.held;
  has = ap (λ (b : Bool). cond b (lent_to core other.replica other.thread) (core.lent driver)) (ne_eqb driver other.driver (λ e. ne (sym names ∙ sym e))) ∙ out.has;
  now = out.now;
  there = out.there;
  still = out.still;
  not_ended = out.not_ended;
}
out_after job core driver lease lent taken by (Put other count hit) o well m names ne out =
    put-by job core other count hit m (λ c. HasLease c driver lease lent taken) (out-back job core well driver lease lent taken out other count hit m.returns (λ e. ne (sym names ∙ e)))
out_after job core driver lease lent taken by (Part other count hit) o well m names ne out =
    part-by job core other count hit m (λ c. HasLease c driver lease lent taken) (out-back job core well driver lease lent taken out other count hit m.returns (λ e. ne (sym names ∙ e)))
out_after job core driver lease lent taken by (Vote thread count won lost did) o well m names ne out = absurd (none_found driver lease core.leases (vote-parts core thread m.may).alone out.held)
out_after job core driver lease lent taken by (Free thread) o well m names ne out = absurd (none_found driver lease core.leases (free-parts job core thread m.may).alone out.held)
out_after job core driver lease lent taken by (Scrub won lost) o well m names ne out = absurd (none_found driver lease core.leases (scrub-parts core m.may).alone out.held)
out_after job core driver lease lent taken by (End how) o well m names ne out = absurd (none_found driver lease core.leases (end-alone job core how m.1 o) out.held)

-- and so in a legal journal
pub lease-stays : (job : Job) (journal : List Entry) (entry : Entry) → Legal job (journal ++ entry ∷ []) → (driver by : ℕ) → Names by entry → by ≢ driver → (lease : Lease) (lent : Lent) (taken : Replica) → HasLease (replay job journal) driver lease lent taken → HasLease (replay job (journal ++ entry ∷ [])) driver lease lent taken
lease-stays job journal entry legal driver by names ne lease lent taken out =
    let parts = LegalFrom-parts job (opening_core job) journal (entry ∷ []) legal in
    subst (λ (c : Core). HasLease c driver lease lent taken) (sym (replay_more job journal entry))
    (out_after job (replay job journal) driver lease lent taken by entry (ordered job journal parts.0) (lends-well job journal parts.0) parts.1.0 names ne out)

-- while a lease is out, no entry changes the kernel
pub out_kernel : (job : Job) (core : Core) (driver : ℕ) (lease : Lease) (entry : Entry) → IsAllowed job core entry → lease_of core driver ≡ Some lease → (after job core entry).kernel ≡ core.kernel
unfolding after
out_kernel job core driver lease (Take other) m held = refl
out_kernel job core driver lease (Put other count hit) m held = ap (λ (c : Core). c.kernel) (put-only job core other count (lease_run job core other count))
out_kernel job core driver lease (Part other count hit) m held = ap (λ (c : Core). c.kernel) (part-only job core other (lease_run job core other count))
out_kernel job core driver lease (Vote thread count won lost did) m held = absurd (none_found driver lease core.leases (vote-parts core thread m.may).alone held)
out_kernel job core driver lease (Free thread) m held = absurd (none_found driver lease core.leases (free-parts job core thread m.may).alone held)
out_kernel job core driver lease (Scrub won lost) m held = refl
out_kernel job core driver lease (End how) m held = refl

-- and so in a legal journal
pub kernel_lasts : (job : Job) (journal : List Entry) (entry : Entry) → Legal job (journal ++ entry ∷ []) → (driver : ℕ) (lease : Lease) → lease_of (replay job journal) driver ≡ Some lease → (replay job (journal ++ entry ∷ [])).kernel ≡ (replay job journal).kernel
kernel_lasts job journal entry legal driver lease held =
    let parts = LegalFrom-parts job (opening_core job) journal (entry ∷ []) legal in
    ap (λ (c : Core). c.kernel) (replay_more job journal entry)
    ∙ out_kernel job (replay job journal) driver lease entry parts.1.0 held

-- an entry of another driver lends nothing to the driver
idle-fewer : (core : Core) (driver : ℕ) (other : Lease) (leases : List Lease) → is_idle core driver ≡ true → (leases ≡ core.leases) ⊎ (leases ≡ filter (λ l. not (is_lease other l)) core.leases) → not (has_driver driver leases) ≡ true
idle-fewer core driver other leases idle (inl e) = ap (λ (ls : List Lease). not (has_driver driver ls)) e ∙ idle
idle-fewer core driver other leases idle (inr e) =
    ap (λ (ls : List Lease). not (has_driver driver ls)) e ∙ ap not (has-filter (λ lease. lease.driver) (λ l. not (is_lease other l)) driver core.leases (not_false (has_driver driver core.leases) idle))

put-leases : (job : Job) (core : Core) (other : Lease) (count : ℕ) (o : Option RanTo) → ((core_after_put job core other count o).leases ≡ core.leases) ⊎ ((core_after_put job core other count o).leases ≡ filter (λ l. not (is_lease other l)) core.leases)
put-leases job core other count None = inl refl
put-leases job core other count (Some ran) = inr refl

part-leases : (job : Job) (core : Core) (other : Lease) (o : Option RanTo) → ((core_after_part job core other o).leases ≡ core.leases) ⊎ ((core_after_part job core other o).leases ≡ filter (λ l. not (is_lease other l)) core.leases)
part-leases job core other None = inl refl
part-leases job core other (Some ran) = inr refl

pub idle_after : (job : Job) (core : Core) (driver by : ℕ) (entry : Entry) → Names by entry → by ≢ driver → is_idle core driver ≡ true → is_idle (after job core entry) driver ≡ true
unfolding after
idle_after job core driver by (Take other) names ne idle = ap (λ (b : Bool). not (b || has_driver driver core.leases)) (ne_eqb other.driver driver (λ e. ne (sym names ∙ e))) ∙ idle
idle_after job core driver by (Put other count hit) names ne idle = idle-fewer core driver other _ idle (put-leases job core other count (lease_run job core other count))
idle_after job core driver by (Part other count hit) names ne idle = idle-fewer core driver other _ idle (part-leases job core other (lease_run job core other count))
idle_after job core driver by (Vote thread count won lost did) names ne idle = ap (λ (ls : List Lease). not (has_driver driver ls)) (event_leases core thread count (with_recovered won (numbers lost) core.replicas) (event_in job core thread won)) ∙ idle
idle_after job core driver by (Free thread) names ne idle = ap (λ (ls : List Lease). not (has_driver driver ls)) (event_leases core thread 0 core.replicas (freed_event job core thread)) ∙ idle
idle_after job core driver by (Scrub won lost) names ne idle = idle
idle_after job core driver by (End how) names ne idle = idle

-- ---- where every driver is at rest no lease is out

-- the leases are of drivers below a number
abbrev pub AreBelow : ℕ → List Lease → Type 0
AreBelow n [] = Unit {0}
AreBelow n (lease ∷ leases) = (lease.driver < n) × AreBelow n leases

pub below-filter : (n : ℕ) (p : Lease → Bool) (leases : List Lease) → AreBelow n leases → AreBelow n (filter p leases)
below-filter n p [] h = tt
below-filter n p (lease ∷ leases) h = by (p lease) (below-filter n p leases h.1)
  where
    by : (b : Bool) → AreBelow n (filter p leases) → AreBelow n (cond b (lease ∷ filter p leases) (filter p leases))
    by true rest = (h.0, rest)
    by false rest = rest

leases_below : (job : Job) (journal : List Entry) → Legal job journal → AreBelow job.settings.drivers (replay job journal).leases
unfolding opening_core
leases_below job journal legal =
    legal-keeps job (λ core. AreBelow job.settings.drivers core.leases) (leases_keep job (λ leases. AreBelow job.settings.drivers leases) (below-filter job.settings.drivers) (λ core lease m h. (m.driver_exists, h))) (opening_core job) journal legal tt

pub none_left : (n : ℕ) (leases : List Lease) → AreBelow n leases → ((k : ℕ) → k < n → not (has_driver k leases) ≡ true) → leases ≡ []
none_left n [] below idle = refl
none_left n (lease ∷ leases) below idle =
    let held : has_driver lease.driver (lease ∷ leases) ≡ true = ap (λ (b : Bool). b || has_driver lease.driver leases) (eq-eqb lease.driver lease.driver refl) in
    absurd (true≢false (sym held ∙ not_false (has_driver lease.driver (lease ∷ leases)) (idle lease.driver below.0)))

-- where every driver is idle nothing is lent
pub all_idle : (job : Job) (journal : List Entry) → Legal job journal → ((k : ℕ) → k < job.settings.drivers → is_idle (replay job journal) k ≡ true) → (replay job journal).leases ≡ []
all_idle job journal legal idle = none_left job.settings.drivers (replay job journal).leases (leases_below job journal legal) idle
