-- A thread that came back for the want of a page, and then for that of another, is lent both, and wants no third one.
use Rattle.std.specs.Prelude.{◌≡◌, ◌≢◌, ◌⊎◌, ℕ, ◌==◌, ◌||◌, Bool, true, false, not, cond, List, [], ◌∷◌, ◌++◌, take, Option, Some, None, is_some, slice_get}
use Rattle.std.specs.List.{All, filter}
use Rattle.std.specs.Option.{option_map, option_and_then}
use Rattle.std.proofs.Common.{refl, sym, ap, ◌∙◌, subst, inl, inr}
use Rattle.std.proofs.lemmas.Bool.{true≢false, and_from, and_left, and_right, cases_eq, eq-eqb, ne_eqb}
use Rattle.std.proofs.lemmas.Option.{option_and_then_some}
use Rattle.std.proofs.lemmas.List.Elements.{All-head, All-tail}
use Rattle.ro_event.specs.declared.stops.Stop.{Stop}
use Rattle.ro_event.specs.declared.stops.Stop.TheVariants.{Calls, Trap, PageFault, Watchdog}
use Rattle.ro_pages.specs.Bytes.{Memory}
use Rattle.ro_pages.specs.Directories.{is_listed}
use Rattle.ro_exec.specs.declared.Cpu.{Cpu}
use Rattle.ro_exec.specs.Next.{Layout, Backed, stop_in, next}
use Rattle.ro_exec.proofs.Wants.{next-wants, no-third}
use Rattle.ro_kernel.proofs.Kept.{slice_get-set_other}
use Rattle.ro_thread.specs.declared.Thread.{Thread}
use Rattle.ro_thread.specs.Stops.{standing}
use Rattle.ro_thread.specs.Parts.{missed}
use Rattle.ro_replica.specs.Replica.{Replica}
use Rattle.ro_replica.specs.Runs.{RanTo, struck, with_stop}
use Rattle.ro_replica.proofs.Elements.{get_changed}
use Rattle.ro_plain.specs.Machine.{layout_in}
use Rattle.ro_plain.proofs.Calls.{some-injective}
use Rattle.ro_journal.specs.declared.Lease.{Lease}
use Rattle.ro_journal.specs.Leases.{lease_to}
use Rattle.ro_journal.specs.declared.Entry.{Entry}
use Rattle.ro_journal.specs.declared.Entry.TheVariants.{Take, Put, Part, Vote, Free, Scrub, End}
use Rattle.ro_legal.specs.Parts.{Lent, Whole, Pages, wish_with, seen_pages, is_lent, run_with}
use Rattle.ro_legal.specs.Core.{Job, Core, opening_core, is_out}
use Rattle.ro_legal.specs.Legal.{lease_run, wanted_by, stopped, wishing, missing, core_after_lease, after, Returns, MayPart, IsAllowed, LegalFrom, Legal, replay_from, replay}
use Rattle.ro_legal.specs.Laws.{ReturnLeaves, LeavesThread}
use Rattle.ro_legal.proofs.Lists.{get-set-same, changed-other}
use Rattle.ro_legal.proofs.Journals.{LegalFrom-parts}
use Rattle.ro_legal.proofs.Sound.{SameButWaiting, none-struck}
use Rattle.ro_legal.proofs.PageRuns.{pages-run}
use Rattle.ro_legal.proofs.Leases.{or_true, put-is, part-is}
use Rattle.ro_legal.proofs.Ordered.{PutParts, put-parts}
use Rattle.ro_legal.proofs.FaultStops.{whole-wants}
use Rattle.ro_legal.proofs.Wishes.{wishing-other, LendsByWish, by-wish-after, lends-by-wish}

-- ---- what a thread sees, and the page that it lacks

-- what decides what a thread does next, but for the pages that it was lent
pub record Scene : Type 0 where
  pub layout : Layout
  pub memory : Memory
  pub backed : Backed
  pub cpu : Cpu

abbrev pub scene_of : Job → Core → Replica → Thread → Scene
scene_of job core replica thread = record { layout = layout_in job.program core.kernel; memory = replica.memory; backed = replica.backed; cpu = thread.cpu }

-- with the pages that it was lent, it stands at the fault of a page that its replica has
pub record Lacks (scene : Scene) (lent : Lent) (page : ℕ) : Type 0 where
  pub at : stop_in (next scene.layout (seen_pages lent scene.backed) scene.memory scene.cpu) ≡ Some (PageFault page)
  pub has : scene.backed page ≡ true

-- the page that is missed is that of the stop
page-missed : (backed : Backed) (o : Option Stop) (page : ℕ) → missed backed o ≡ Some page → (o ≡ Some (PageFault page)) × (backed page ≡ true)
page-missed backed None page e = absurd (let f : None ≡ Some page = e in cc)
page-missed backed (Some (Calls call)) page e = absurd (let f : None ≡ Some page = e in cc)
page-missed backed (Some (Trap cause)) page e = absurd (let f : None ≡ Some page = e in cc)
page-missed backed (Some Watchdog) page e = absurd (let f : None ≡ Some page = e in cc)
page-missed backed (Some (PageFault other)) page e = by (backed other) refl e
  where
    by : (b : Bool) → backed other ≡ b → cond b (Some other) None ≡ Some page → (Some (PageFault other) ≡ Some (PageFault page)) × (backed page ≡ true)
    by true is f = let same : other ≡ page = some-injective f in (ap (λ (n : ℕ). Some (PageFault n)) same, ap backed (sym same) ∙ is)
    by false is f = absurd (let g : None ≡ Some page = f in cc)

-- no watchdog's turn is a page fault
not-watched : (page : ℕ) (b : Bool) (o : Option Stop) → cond b (Some Watchdog) o ≡ Some (PageFault page) → o ≡ Some (PageFault page)
not-watched page true o e = absurd (let f : Some Watchdog ≡ Some (PageFault page) = e in cc)
not-watched page false o e = e

-- the thread of a lease that wants a page, and that it lacks it
pub record Wanting (job : Job) (core : Core) (lease : Lease) (replica : Replica) (page : ℕ) : Type 0 where
  pub is : wanted_by job core lease replica ≡ Some page
  pub thread : Thread
  pub there : slice_get replica.threads lease.thread ≡ Some thread
  pub lacks : Lacks (scene_of job core replica thread) (core.lent lease.driver) page

wanting : (job : Job) (core : Core) (lease : Lease) (replica : Replica) (page : ℕ) → wanted_by job core lease replica ≡ Some page → Wanting job core lease replica page
wanting job core lease replica page e = by (slice_get replica.threads lease.thread) refl (page-missed replica.backed _ page e)
  where
    stop : Thread → Option Stop
    stop thread = standing (layout_in job.program core.kernel) job.settings.watchdog (seen_pages (core.lent lease.driver) replica.backed) replica.memory thread.cpu thread.since

    by : (o : Option Thread) → slice_get replica.threads lease.thread ≡ o → (option_and_then stop o ≡ Some (PageFault page)) × (replica.backed page ≡ true) → Wanting job core lease replica page
    by None there h = absurd (let f : None ≡ Some (PageFault page) = h.0 in cc)
    by (Some thread) there h = record {
      is = e;
      thread = thread;
      there = there;
      lacks = record { at = not-watched page (thread.since == job.settings.watchdog) _ h.0; has = h.1 };
    }

-- the page of a part
pub record Parted (job : Job) (core : Core) (lease : Lease) (replica : Replica) : Type 0 where
  pub page : ℕ
  pub wants : Wanting job core lease replica page

parted : (job : Job) (core : Core) (lease : Lease) (count hit : ℕ) (may : MayPart job core lease count hit) → Parted job core lease may.returns.ran.replica
parted job core lease count hit may = by (wanted_by job core lease may.returns.ran.replica) refl may.wants
  where
    by : (o : Option ℕ) → wanted_by job core lease may.returns.ran.replica ≡ o → is_some o ≡ true → Parted job core lease may.returns.ran.replica
    by None e f = absurd (true≢false (sym f))
    by (Some page) e f = record { page = page; wants = wanting job core lease may.returns.ran.replica page e }

-- ---- where a thread stands

-- the thread of the replica sees this, and has this wish
pub record Stands (job : Job) (core : Core) (replica thread : ℕ) (scene : Scene) (wish : List ℕ) : Type 0 where
  pub value : Replica
  pub in_core : slice_get core.replicas replica ≡ Some value
  pub its : Thread
  pub there : slice_get value.threads thread ≡ Some its
  pub sees : scene_of job core value its ≡ scene
  pub wishes : core.wishes replica thread ≡ wish

-- a part leaves its thread where it stands, and the page that it wants comes first in its wish
stands-parted : (job : Job) (core : Core) (lease : Lease) (count hit : ℕ) (may : MayPart job core lease count hit) (p : Parted job core lease may.returns.ran.replica)
    → Stands job (after job core (Part lease count hit)) lease.replica lease.thread (scene_of job core may.returns.ran.replica p.wants.thread) (wish_with p.page (core.wishes lease.replica lease.thread))
stands-parted job core lease count hit may p =
    subst (λ (c : Core). Stands job c lease.replica lease.thread (scene_of job core ran.replica p.wants.thread) (wish_with p.page (core.wishes lease.replica lease.thread))) (sym (part-is job core lease count hit may)) (record {
      value = stopped lease.thread None ran.replica;
      in_core = let lent = put-parts job core lease count ran may.returns.runs in get-set-same core.replicas lease.replica lent.lent (stopped lease.thread None ran.replica) lent.there;
      its = with_stop None p.wants.thread;
      there = get_changed (with_stop None) ran.replica.threads lease.thread ∙ ap (option_map (with_stop None)) p.wants.there;
      sees = refl;
      wishes = ap (λ (o : Option ℕ). wishing lease.replica lease.thread o core.wishes lease.replica lease.thread) p.wants.is
          ∙ ap (λ (b : Bool). cond b (wish_with p.page (core.wishes lease.replica lease.thread)) (core.wishes lease.replica lease.thread))
          (and_from _ _ (eq-eqb lease.replica lease.replica refl) (eq-eqb lease.thread lease.thread refl));
    })
  where
    ran : RanTo
    ran = may.returns.ran

-- a run of no instruction in which no fault is struck leaves its replica as it was
idle-run : (job : Job) (core : Core) (lease : Lease) (count hit : ℕ) (back : Returns job core lease count hit) → count ≡ 0 → hit ≡ 0 → (value : Replica) → slice_get core.replicas lease.replica ≡ Some value → SameButWaiting value back.ran.replica
idle-run job core lease count hit back none unstruck value there =
    let parts : PutParts job core lease 0 back.ran = put-parts job core lease 0 back.ran (ap (lease_run job core lease) (sym none) ∙ back.runs) in
    let runs : struck (layout_in job.program core.kernel).ranges parts.lent lease.thread ≡ back.ran = some-injective parts.runs in
    let its : parts.lent ≡ value = some-injective (sym parts.there ∙ there) in
    subst (λ (r : Replica). SameButWaiting r back.ran.replica) its
    (subst (λ (r : RanTo). SameButWaiting parts.lent r.replica) runs
    (none-struck (layout_in job.program core.kernel).ranges lease.thread parts.lent (ap (λ (r : RanTo). r.hit) runs ∙ back.struck ∙ unstruck)))

-- no fault is struck in a lease that comes back for the want of a page
part-unstruck : (job : Job) (core : Core) (lease : Lease) (count hit : ℕ) → MayPart job core lease count hit → hit ≡ 0
part-unstruck job core lease count hit may = by (core.lent lease.driver) refl
  where
    run : (lent : Lent) → Replica → Option RanTo
    run lent replica = run_with (layout_in job.program core.kernel) job.settings.watchdog lent count replica lease.thread

    by : (lent : Lent) → core.lent lease.driver ≡ lent → hit ≡ 0
    by Whole has = absurd (true≢false (sym may.wants ∙ ap is_some (whole-wants job core lease may.returns.ran.replica has)))
    by (Pages pages) has =
        sym may.returns.struck
        ∙ option_and_then_some (run (core.lent lease.driver)) (slice_get core.replicas lease.replica) may.returns.ran may.returns.runs
        (λ value there runs. (pages-run (layout_in job.program core.kernel) job.settings.watchdog pages count lease.thread value may.returns.ran (ap (λ (lent : Lent). run lent value) (sym has) ∙ runs)).1)

-- a part of no instruction, of a thread that stands so
pub record PartedAgain (job : Job) (core new : Core) (lease : Lease) (scene : Scene) (wish : List ℕ) : Type 0 where
  pub page : ℕ
  pub lacks : Lacks scene (core.lent lease.driver) page
  pub stands : Stands job new lease.replica lease.thread scene (wish_with page wish)

parted-again : (job : Job) (core : Core) (lease : Lease) (hit : ℕ) (scene : Scene) (wish : List ℕ) → MayPart job core lease 0 hit → Stands job core lease.replica lease.thread scene wish → PartedAgain job core (after job core (Part lease 0 hit)) lease scene wish
parted-again job core lease hit scene wish may s = record {
  page = p.page;
  lacks = subst (λ (seen : Scene). Lacks seen (core.lent lease.driver) p.page) same p.wants.lacks;
  stands = subst (λ (w : List ℕ). Stands job new lease.replica lease.thread scene (wish_with p.page w)) s.wishes
      (subst (λ (seen : Scene). Stands job new lease.replica lease.thread seen (wish_with p.page (core.wishes lease.replica lease.thread))) same (stands-parted job core lease 0 hit may p));
}
  where
    ran : Replica
    ran = may.returns.ran.replica

    new : Core
    new = after job core (Part lease 0 hit)

    p : Parted job core lease may.returns.ran.replica
    p = parted job core lease 0 hit may

    idle : SameButWaiting s.value may.returns.ran.replica
    idle = idle-run job core lease 0 hit may.returns refl (part-unstruck job core lease 0 hit may) s.value s.in_core

    its : p.wants.thread ≡ s.its
    its = some-injective (sym p.wants.there ∙ ap (λ (r : Replica). slice_get r.threads lease.thread) idle.is ∙ s.there)

    same : scene_of job core may.returns.ran.replica p.wants.thread ≡ scene
    same = ap (λ (r : Replica). scene_of job core r p.wants.thread) idle.is ∙ ap (scene_of job core s.value) its ∙ s.sees

-- ---- what leaves the thread

module _ (job : Job) (core : Core) (lease : Lease) (count hit : ℕ) (back : Returns job core lease count hit) (replica thread : ℕ) (scene : Scene) (wish : List ℕ) (s : Stands job core replica thread scene wish) (stop : Option Stop) (page : Option ℕ) (misses : (replica thread : ℕ) → ℕ) where
  abbrev behind : Core
  behind = core_after_lease core lease stop (wishing lease.replica lease.thread page core.wishes) misses back.ran.replica

  -- a lease of another replica
  away : lease.replica ≢ replica → Stands job behind replica thread scene wish
  away apart = record {
    value = s.value;
    in_core = slice_get-set_other core.replicas lease.replica replica (stopped lease.thread stop back.ran.replica) apart ∙ s.in_core;
    its = s.its;
    there = s.there;
    sees = s.sees;
    wishes = wishing-other lease.replica lease.thread replica thread page core.wishes (and_left (replica == lease.replica) (thread == lease.thread) (ne_eqb replica lease.replica (λ e. apart (sym e)))) ∙ s.wishes;
  }

  -- one of another thread, in which nothing happened
  beside : lease.replica ≡ replica → lease.thread ≢ thread → count ≡ 0 → hit ≡ 0 → Stands job behind replica thread scene wish
  beside same apart none unstruck =
      let there : slice_get core.replicas lease.replica ≡ Some s.value = ap (slice_get core.replicas) same ∙ s.in_core in
      let idle = idle-run job core lease count hit back none unstruck s.value there in
      record {
        value = stopped lease.thread stop back.ran.replica;
        in_core = ap (slice_get behind.replicas) (sym same) ∙ get-set-same core.replicas lease.replica s.value (stopped lease.thread stop back.ran.replica) there;
        its = s.its;
        there = changed-other (with_stop stop) back.ran.replica.threads lease.thread thread (λ e. apart (sym e)) ∙ ap (λ (r : Replica). slice_get r.threads thread) idle.is ∙ s.there;
        sees = ap (λ (r : Replica). scene_of job core r s.its) idle.is ∙ s.sees;
        wishes = wishing-other lease.replica lease.thread replica thread page core.wishes (and_right (replica == lease.replica) (thread == lease.thread) (ne_eqb thread lease.thread (λ e. apart (sym e)))) ∙ s.wishes;
      }

  idle-back : ReturnLeaves replica thread lease count hit → Stands job (core_after_lease core lease stop (wishing lease.replica lease.thread page core.wishes) misses back.ran.replica) replica thread scene wish
  idle-back (inl apart) = away apart
  idle-back (inr h) = by (cases_eq lease.replica replica)
    where
      by : (lease.replica ≡ replica) ⊎ (lease.replica ≢ replica) → Stands job behind replica thread scene wish
      by (inl same) = beside same h.0 h.1 h.2
      by (inr apart) = away apart

stands-after : (job : Job) (core : Core) (entry : Entry) → IsAllowed job core entry → (replica thread : ℕ) (scene : Scene) (wish : List ℕ) → LeavesThread replica thread entry → Stands job core replica thread scene wish → Stands job (after job core entry) replica thread scene wish
unfolding after
stands-after job core (Take lease) may replica thread scene wish leaves s = record { value = s.value; in_core = s.in_core; its = s.its; there = s.there; sees = s.sees; wishes = s.wishes }
stands-after job core (Put lease count hit) may replica thread scene wish leaves s =
    subst (λ (c : Core). Stands job c replica thread scene wish) (sym (put-is job core lease count hit may)) (idle-back job core lease count hit may.returns replica thread scene wish s _ _ core.misses leaves)
stands-after job core (Part lease count hit) may replica thread scene wish leaves s =
    subst (λ (c : Core). Stands job c replica thread scene wish) (sym (part-is job core lease count hit may))
    (idle-back job core lease count hit may.returns replica thread scene wish s None _ (missing lease.replica lease.thread core.misses) leaves)
stands-after job core (Vote voted count won lost did) may replica thread scene wish leaves s = absurd leaves
stands-after job core (Free freed) may replica thread scene wish leaves s = absurd leaves
stands-after job core (Scrub won lost) may replica thread scene wish leaves s = absurd leaves
stands-after job core (End how) may replica thread scene wish leaves s = absurd leaves

-- the thread stands so in a core whose leases are well lent
pub record StandsWell (job : Job) (core : Core) (replica thread : ℕ) (scene : Scene) (wish : List ℕ) : Type 0 where
  pub lends : LendsByWish job core
  pub stands : Stands job core replica thread scene wish

stands-from : (job : Job) (core : Core) (entries : List Entry) → LegalFrom job core entries → (replica thread : ℕ) (scene : Scene) (wish : List ℕ) → All (LeavesThread replica thread) entries → StandsWell job core replica thread scene wish → StandsWell job (replay_from job core entries) replica thread scene wish
stands-from job core [] legal replica thread scene wish leave s = s
stands-from job core (entry ∷ entries) legal replica thread scene wish leave s =
    stands-from job (after job core entry) entries legal.1 replica thread scene wish (All-tail (LeavesThread replica thread) entry entries leave) (record {
      lends = by-wish-after job core entry legal.0 s.lends;
      stands = stands-after job core entry legal.0 replica thread scene wish (All-head (LeavesThread replica thread) entry entries leave) s.stands;
    })

-- ---- the third part

-- the page that was missed last is the first of a wish
first-listed : (page : ℕ) (wish : List ℕ) → is_listed (take 2 (wish_with page wish)) page ≡ true
first-listed page wish = ap (λ (b : Bool). b || is_listed (take 1 (take 15 (filter (λ other. not (other == page)) wish))) page) (eq-eqb page page refl)

-- and the one before that the second
second-listed : (page last : ℕ) (wish : List ℕ) → page ≢ last → is_listed (take 2 (wish_with last (wish_with page wish))) page ≡ true
second-listed page last wish apart =
    subst (λ (b : Bool). is_listed (take 2 (take 16 (last ∷ cond (not b) (page ∷ rest) rest))) page ≡ true) (sym (ne_eqb page last apart))
    (or_true (last == page) _ (ap (λ (b : Bool). b || false) (eq-eqb page page refl)))
  where
    rest : List ℕ
    rest = filter (λ other. not (other == last)) (take 15 (filter (λ other. not (other == page)) wish))

-- a page that was lent is seen, where it is backed
seen-lent : (lent : Lent) (backed : Backed) (page : ℕ) → is_lent lent page ≡ true → backed page ≡ true → seen_pages lent backed page ≡ true
seen-lent Whole backed page e has = has
seen-lent (Pages pages) backed page e has = and_from _ _ e has

-- a lease of the thread sees the first two of its wish that are backed
wish-seen : (job : Job) (core : Core) (driver replica thread : ℕ) (scene : Scene) (wish : List ℕ) → StandsWell job core replica thread scene wish → is_out core (lease_to driver replica thread) ≡ true
    → (page : ℕ) → is_listed (take 2 wish) page ≡ true → scene.backed page ≡ true → seen_pages (core.lent driver) scene.backed page ≡ true
wish-seen job core driver replica thread scene wish s out page first has =
    seen-lent (core.lent driver) scene.backed page ((s.lends.well (lease_to driver replica thread) out).first page (ap (λ (w : List ℕ). is_listed (take 2 w) page) s.stands.wishes ∙ first)) has

-- what a lease sees it doesn't lack
seen-apart : (scene : Scene) (lent : Lent) (page lacked : ℕ) → seen_pages lent scene.backed page ≡ true → Lacks scene lent lacked → page ≢ lacked
seen-apart scene lent page lacked seen lacks same =
    true≢false (sym seen ∙ ap (seen_pages lent scene.backed) same ∙ (next-wants scene.layout (seen_pages lent scene.backed) scene.memory scene.cpu).unbacked lacked lacks.at)

-- two parts of no instruction, with entries between them
abbrev two-parts : (replica thread two three more last : ℕ) → List Entry → List Entry
two-parts replica thread two three more last second = Part (lease_to two replica thread) 0 more ∷ (second ++ Part (lease_to three replica thread) 0 last ∷ [])

module _ (job : Job) (replica thread : ℕ) (scene : Scene) where
  -- where one lease lacked a page, the next one had it and lacked another, and both are the first of the wish, a third one lacks none
  third-part : (core : Core) (wish : List ℕ) (one two : Lent) (driver hit page other : ℕ) → StandsWell job core replica thread scene wish → MayPart job core (lease_to driver replica thread) 0 hit
      → Lacks scene one page → Lacks scene two other → seen_pages two scene.backed page ≡ true → is_listed (take 2 wish) page ≡ true → is_listed (take 2 wish) other ≡ true → ⊥
  third-part core wish one two driver hit page other s may lacks lacks_too seen listed listed_too =
      let last = parted-again job core (lease_to driver replica thread) hit scene wish may s.stands in
      no-third scene.layout (seen_pages one scene.backed) (seen_pages two scene.backed) (seen_pages (core.lent driver) scene.backed) scene.memory scene.cpu page other last.page
      lacks.at lacks_too.at last.lacks.at seen
      (wish-seen job core driver replica thread scene wish s may.returns.out page listed lacks.has)
      (wish-seen job core driver replica thread scene wish s may.returns.out other listed_too lacks_too.has)

  -- behind a part of no instruction comes no further one, where a part came before it
  second-part : (core : Core) (wish : List ℕ) (one : Lent) (two three more last page : ℕ) (second : List Entry) → StandsWell job core replica thread scene (wish_with page wish)
      → LegalFrom job core (two-parts replica thread two three more last second) → All (LeavesThread replica thread) second → Lacks scene one page → ⊥
  second-part core wish one two three more last page second s legal leave lacks =
      third-part (replay_from job new second) (wish_with again.page (wish_with page wish)) one (core.lent two) three last page again.page
      (stands-from job new second parts.0 replica thread scene (wish_with again.page (wish_with page wish)) leave (record { lends = by-wish-after job core (Part (lease_to two replica thread) 0 more) legal.0 s.lends; stands = again.stands }))
      parts.1.0 lacks again.lacks seen (second-listed page again.page wish (seen-apart scene (core.lent two) page again.page seen again.lacks)) (first-listed again.page (wish_with page wish))
    where
      new : Core
      new = after job core (Part (lease_to two replica thread) 0 more)

      parts : LegalFrom job (after job core (Part (lease_to two replica thread) 0 more)) second × LegalFrom job (replay_from job (after job core (Part (lease_to two replica thread) 0 more)) second) (Part (lease_to three replica thread) 0 last ∷ [])
      parts = LegalFrom-parts job (after job core (Part (lease_to two replica thread) 0 more)) second (Part (lease_to three replica thread) 0 last ∷ []) legal.1

      again : PartedAgain job core (after job core (Part (lease_to two replica thread) 0 more)) (lease_to two replica thread) scene (wish_with page wish)
      again = parted-again job core (lease_to two replica thread) more scene (wish_with page wish) legal.0 s.stands

      seen : seen_pages (core.lent two) scene.backed page ≡ true
      seen = wish-seen job core two replica thread scene (wish_with page wish) s legal.0.returns.out page (first-listed page wish) lacks.has

-- of a thread no three parts come in a row of which the second and the third executed nothing
pub no-three : (job : Job) (replica thread : ℕ) (before first second : List Entry) (one two three count hit_one hit_two hit_three : ℕ)
    → Legal job (before ++ Part (lease_to one replica thread) count hit_one ∷ (first ++ two-parts replica thread two three hit_two hit_three second))
    → All (LeavesThread replica thread) first → All (LeavesThread replica thread) second → ⊥
no-three job replica thread before first second one two three count hit_one hit_two hit_three legal leave leave_too =
    second-part job replica thread scene (replay_from job new first) (core.wishes replica thread) (core.lent one) two three hit_two hit_three p.page second
    (stands-from job new first rest.0 replica thread scene (wish_with p.page (core.wishes replica thread)) leave (record { lends = by-wish-after job core (Part lease count hit_one) parts.1.0 (lends-by-wish job before parts.0); stands = stands-parted job core lease count hit_one parts.1.0 p }))
    rest.1 leave_too p.wants.lacks
  where
    lease : Lease
    lease = lease_to one replica thread

    core : Core
    core = replay job before

    new : Core
    new = after job core (Part lease count hit_one)

    parts : LegalFrom job (opening_core job) before × LegalFrom job core (Part (lease_to one replica thread) count hit_one ∷ (first ++ two-parts replica thread two three hit_two hit_three second))
    parts = LegalFrom-parts job (opening_core job) before (Part (lease_to one replica thread) count hit_one ∷ (first ++ two-parts replica thread two three hit_two hit_three second)) legal

    rest : LegalFrom job new first × LegalFrom job (replay_from job new first) (two-parts replica thread two three hit_two hit_three second)
    rest = LegalFrom-parts job new first (two-parts replica thread two three hit_two hit_three second) parts.1.1

    p : Parted job core lease parts.1.0.returns.ran.replica
    p = parted job core lease count hit_one parts.1.0

    scene : Scene
    scene = scene_of job core parts.1.0.returns.ran.replica p.wants.thread
