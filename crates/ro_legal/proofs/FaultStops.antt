-- Every stop for a page that stands in a legal journal's replicas is for one of the 2^20 pages, which is not backed.
use Rattle.std.specs.Prelude.{◌≡◌, ◌≢◌, ◌<◌, ◌^◌, ℕ, zero, suc, ◌⊎◌, ◌||◌, Bool, true, false, cond, ◌==◌, List, [], ◌∷◌, length, map, not, Option, Some, None, slice_get, slice_set, is_some}
use Rattle.std.specs.List.{filter, fold}
use Rattle.std.specs.Option.{option_and_then}
use Rattle.std.proofs.Common.{refl, sym, ap, ◌∙◌, subst, inl, inr}
use Rattle.std.proofs.lemmas.Bool.{true≢false}
use Rattle.ro_event.specs.declared.effects.Made.{Made}
use Rattle.ro_event.specs.declared.stops.Stop.{Stop}
use Rattle.ro_event.specs.declared.stops.Stop.TheVariants.{Calls, Trap, PageFault, Watchdog}
use Rattle.ro_event.specs.Effects.{Effect}
use Rattle.ro_region.specs.declared.Range.{Range}
use Rattle.ro_journal.specs.Losers.{numbers}
use Rattle.ro_journal.specs.declared.Lease.{Lease}
use Rattle.ro_journal.specs.declared.Entry.{Entry}
use Rattle.ro_journal.specs.declared.Entry.TheVariants.{Take, Put, Part, Vote, Free, Scrub, End}
use Rattle.ro_exec.specs.Next.{Layout, Backed}
use Rattle.ro_pages.specs.Bytes.{covers_page}
use Rattle.ro_exec.specs.Threads.{made_cpu}
use Rattle.ro_thread.specs.declared.Thread.{Thread}
use Rattle.ro_faults.specs.declared.Fault.{Fault}
use Rattle.ro_faults.specs.declared.Target.{Target}
use Rattle.ro_faults.specs.declared.Target.TheVariants.{Register, Pc, Byte}
use Rattle.ro_replica.specs.Replica.{Replica, unstopped, changed_at, thread_after, creator_of, with_made, is_cancelled, without_cancelled, is_page, applied, cancelled, copied_threads, recovered, stop_of, opening_replica}
use Rattle.ro_replica.specs.Runs.{is_due, struck_by, RanTo, strike_in, struck, run_of, with_stop, standing_in, standing_at}
use Rattle.ro_plain.specs.Machine.{layout_in}
use Rattle.ro_plain.proofs.Calls.{some-injective}
use Rattle.ro_legal.specs.Core.{Job, Core, opening_core}
use Rattle.ro_legal.specs.Event.{Event, with_copy, with_recovered}
use Rattle.ro_thread.specs.Parts.{missed}
use Rattle.ro_legal.specs.Parts.{Lent, Whole, wanted}
use Rattle.ro_legal.specs.Legal.{Returns, MayPart, wanted_by, stopped, arrival, core_after_event, event_in, freed_event, after, IsAllowed, Legal, replay}
use Rattle.ro_legal.specs.Sound.{IsFault, HasFaults, BacksNone, FaultsWait}
use Rattle.ro_legal.proofs.Journals.{legal-keeps}
use Rattle.ro_legal.proofs.Lists.{ChangedFrom, unchanged, changed_here, get-changed, get-set-cases, MappedFrom, get-map, get-append-cases}
use Rattle.ro_legal.proofs.Sound.{Instructs, instructs, instructed, RunParts, run-parts}
use Rattle.ro_legal.proofs.Copies.{AfterCopy, not_lost, is_copy, after-copy, still-there}
use Rattle.ro_legal.proofs.Effects.{backed_after, threads_after}
use Rattle.ro_legal.proofs.Beside.{LendsWhole}
use Rattle.ro_legal.proofs.Leases.{put-is, part-is}
use Rattle.ro_legal.proofs.Ordered.{put-parts, get-opening, one-thread, event-parts, scrub-winner}
use Rattle.ro_legal.proofs.FaultPages.{fault-standing}
use Rattle.ro_kernel.specs.Kernel.{Kernel}

pub fault-changed : (backed : Backed) (f : Thread → Thread) → ((x : Thread) → IsFault backed x.stop → IsFault backed (f x).stop) → (threads : List Thread) (t : ℕ) → ((place : ℕ) (x : Thread) → slice_get threads place ≡ Some x → IsFault backed x.stop) → (place : ℕ) (x : Thread) → slice_get (changed_at f threads t) place ≡ Some x → IsFault backed x.stop
fault-changed backed f keeps threads t low place x e = by (get-changed f threads t place x e)
  where
    by : ChangedFrom f threads t place x → IsFault backed x.stop
    by (unchanged d g) = low place x g
    by (changed_here y d g k) = subst (λ (z : Thread). IsFault backed z.stop) k (keeps y (low place y g))

-- ---- strikes

fault-struck-by : (ranges : List Range) (t : ℕ) (replica : Replica) (target : Target) → HasFaults replica → HasFaults (struck_by ranges t replica target)
fault-struck-by ranges t replica (Register r bit) h = fault-changed replica.backed _ (λ x k. k) replica.threads t h
fault-struck-by ranges t replica (Pc bit) h = fault-changed replica.backed _ (λ x k. k) replica.threads t h
fault-struck-by ranges t replica (Byte address bit) h = h

fault-fold : (ranges : List Range) (t : ℕ) (due : List Fault) (replica : Replica) → HasFaults replica → HasFaults (fold (λ r fault. struck_by ranges t r fault.target) replica due)
fault-fold ranges t [] replica h = h
fault-fold ranges t (fault ∷ due) replica h = fault-fold ranges t due _ (fault-struck-by ranges t replica fault.target h)

fault-strike : (ranges : List Range) (t : ℕ) (replica : Replica) (o : Option Thread) → HasFaults replica → HasFaults (strike_in ranges t replica o).replica
fault-strike ranges t replica None h = h
fault-strike ranges t replica (Some thread) h = fault-fold ranges t (filter (is_due t thread.done) replica.waiting) (record replica { waiting = filter (λ fault. not (is_due t thread.done fault)) replica.waiting }) h

fault-struck : (ranges : List Range) (t : ℕ) (replica : Replica) → HasFaults replica → HasFaults (struck ranges replica t).replica
unfolding struck
fault-struck ranges t replica h = fault-strike ranges t replica (slice_get replica.threads t) h

-- ---- instructions

fault-executed : (layout : Layout) (watchdog : ℕ) (replica : Replica) (t : ℕ) (after : Replica) → Instructs layout watchdog replica t after → HasFaults replica → HasFaults after
fault-executed layout watchdog replica t after step h = subst HasFaults (sym step.is) (λ place thread e. by place thread (get-set-cases replica.threads t place (instructed replica step.thread step.instr) thread e))
  where
    by : (place : ℕ) (thread : Thread) → ((place ≢ t) × (slice_get replica.threads place ≡ Some thread)) ⊎ ((place ≡ t) × (instructed replica step.thread step.instr ≡ thread)) → IsFault replica.backed thread.stop
    by place thread (inl e) = h place thread e.1
    by place thread (inr e) = subst (λ (x : Thread). IsFault replica.backed x.stop) e.1 (h t step.thread step.there)

fault-run : (layout : Layout) (watchdog n t : ℕ) (replica : Replica) (ran : RanTo) → run_of layout watchdog n replica t ≡ Some ran → HasFaults replica → HasFaults ran.replica
fault-run layout watchdog zero t replica ran e h = subst (λ (r : RanTo). HasFaults r.replica) (some-injective e) (fault-struck layout.ranges t replica h)
fault-run layout watchdog (suc n) t replica ran e h =
    let parts : RunParts layout watchdog n replica t ran = run-parts layout watchdog n replica t ran e in
    let one = fault-executed layout watchdog (struck layout.ranges replica t).replica t parts.after (instructs layout watchdog (struck layout.ranges replica t).replica t parts.after parts.executes) (fault-struck layout.ranges t replica h) in
    subst (λ (r : RanTo). HasFaults r.replica) parts.sum (fault-run layout watchdog n t parts.after parts.rest parts.runs one)

-- the stop that stands at a thread
pub fault-standing-at : (job : Job) (kernel : Kernel) (thread : ℕ) (replica : Replica) → IsFault replica.backed (standing_at (layout_in job.program kernel) job.settings.watchdog replica thread)
fault-standing-at job kernel thread replica = by (slice_get replica.threads thread)
  where
    by : (o : Option Thread) → IsFault replica.backed (option_and_then (standing_in (layout_in job.program kernel) job.settings.watchdog replica) o)
    by None = λ page e. absurd (let f : None ≡ Some (PageFault page) = e in cc)
    by (Some t) = fault-standing (layout_in job.program kernel) job.settings.watchdog replica.backed replica.memory t.cpu t.since

-- ---- effects and copies

fault-made : (backed : Backed) (made : Option Made) (threads : List Thread) → ((place : ℕ) (x : Thread) → slice_get threads place ≡ Some x → IsFault backed x.stop) → (place : ℕ) (x : Thread) → slice_get (with_made made threads) place ≡ Some x → IsFault backed x.stop
fault-made backed None threads all place x e = all place x e
fault-made backed (Some made) [] all place x e = absurd (let f : None ≡ Some x = e in cc)
fault-made backed (Some made) (y ∷ threads) all place x e = by (get-append-cases (y ∷ threads) (unstopped (made_cpu made (creator_of made (y ∷ threads) y) (length (y ∷ threads)))) place x e)
  where
    by : (slice_get (y ∷ threads) place ≡ Some x) ⊎ ((place ≡ length (y ∷ threads)) × (unstopped (made_cpu made (creator_of made (y ∷ threads) y) (length (y ∷ threads))) ≡ x)) → IsFault backed x.stop
    by (inl f) = all place x f
    by (inr f) = subst (λ (z : Thread). IsFault backed z.stop) f.1 (λ page g. absurd (let k : None ≡ Some (PageFault page) = g in cc))

-- a stop that goes or stays
pub fault-cond : (backed : Backed) (b : Bool) (o : Option Stop) → IsFault backed o → IsFault backed (cond b None o)
fault-cond backed true o h = λ page e. absurd (let f : None ≡ Some (PageFault page) = e in cc)
fault-cond backed false o h = h

-- the stop at which a run arrives
fault-arrival : (job : Job) (kernel : Kernel) (thread count : ℕ) (replica : Replica) → IsFault replica.backed (arrival job kernel thread count replica)
fault-arrival job kernel thread count replica = fault-cond replica.backed (count == job.settings.quantum) _ (fault-standing-at job kernel thread replica)

-- the fault of a page that is backed is no stop
none-missed : (backed : Backed) (o : Option Stop) → IsFault backed o → missed backed o ≡ None
none-missed backed None h = refl
none-missed backed (Some (Calls call)) h = refl
none-missed backed (Some (Trap code)) h = refl
none-missed backed (Some Watchdog) h = refl
none-missed backed (Some (PageFault page)) h = ap (λ (b : Bool). cond b (Some page) None) (h page refl).1

-- so a lease of a whole replica wants no page
pub whole-wants-none : (job : Job) (kernel : Kernel) (thread : ℕ) (replica : Replica) → wanted (layout_in job.program kernel) job.settings.watchdog Whole replica thread ≡ None
whole-wants-none job kernel thread replica =
    none-missed replica.backed (standing_at (layout_in job.program kernel) job.settings.watchdog replica thread) (fault-standing-at job kernel thread replica)

pub whole-wants : (job : Job) (core : Core) (lease : Lease) (replica : Replica) → core.lent lease.driver ≡ Whole → wanted_by job core lease replica ≡ None
whole-wants job core lease replica whole =
    ap (λ (lent : Lent). wanted (layout_in job.program core.kernel) job.settings.watchdog lent replica lease.thread) whole
    ∙ whole-wants-none job core.kernel lease.thread replica

-- and no part comes back of one
pub no-part : (job : Job) (core : Core) (lease : Lease) (count hit : ℕ) → LendsWhole core → MayPart job core lease count hit → ⊥
no-part job core lease count hit h may =
    true≢false (sym may.wants ∙ ap is_some (whole-wants job core lease may.returns.ran.replica (h.whole lease.driver)))

-- stops for pages that are backed by now are gone
kept-fault : (old new : Backed) (o : Option Stop) → IsFault old o → IsFault new (cond (is_cancelled new o) None o)
kept-fault old new None h page e = absurd (let f : None ≡ Some (PageFault page) = e in cc)
kept-fault old new (Some (Calls call)) h page e = absurd (let f : Some (Calls call) ≡ Some (PageFault page) = e in cc)
kept-fault old new (Some (Trap code)) h page e = absurd (let f : Some (Trap code) ≡ Some (PageFault page) = e in cc)
kept-fault old new (Some Watchdog) h page e = absurd (let f : Some Watchdog ≡ Some (PageFault page) = e in cc)
kept-fault old new (Some (PageFault place)) h page e = by (new place) refl e
  where
    by : (b : Bool) → new place ≡ b → cond b None (Some (PageFault place)) ≡ Some (PageFault page) → (page < 2 ^ 20) × (new page ≡ false)
    by true k f = absurd (let g : None ≡ Some (PageFault page) = f in cc)
    by false k f =
        let same : place ≡ page = (let g : Some (PageFault place) ≡ Some (PageFault page) = f in cc) in
        (subst (λ (n : ℕ). n < 2 ^ 20) same (h place refl).0, subst (λ (n : ℕ). new n ≡ false) same k)

-- an effect leaves each stop where it stands, but for its own thread's, which may go
stops-wait : (effect : Effect) (replica : Replica) → HasFaults replica → (place : ℕ) (x : Thread) → slice_get (threads_after effect replica.threads) place ≡ Some x → IsFault replica.backed x.stop
stops-wait effect replica h =
    fault-made replica.backed effect.made (changed_at (thread_after effect) replica.threads effect.thread)
    (fault-changed replica.backed (thread_after effect) (λ x k. fault-cond replica.backed effect.releases x.stop k) replica.threads effect.thread h)

pub fault-applied : (effect : Effect) (replica : Replica) → HasFaults replica → HasFaults (cancelled (applied effect replica))
unfolding applied cancelled
fault-applied effect replica h place thread e = by (get-map (without_cancelled (backed_after effect replica.backed)) (threads_after effect replica.threads) place thread e)
  where
    by : MappedFrom (without_cancelled (backed_after effect replica.backed)) (threads_after effect replica.threads) place thread → IsFault (backed_after effect replica.backed) thread.stop
    by m = subst (λ (x : Thread). IsFault (backed_after effect replica.backed) x.stop) m.gives
        (kept-fault replica.backed (backed_after effect replica.backed) m.from.stop (stops-wait effect replica h place m.from m.there))

-- a stop that is for no backed page stays
uncancelled : (backed : Backed) (o : Option Stop) → IsFault backed o → cond (is_cancelled backed o) None o ≡ o
uncancelled backed None h = refl
uncancelled backed (Some (Calls call)) h = refl
uncancelled backed (Some (Trap code)) h = refl
uncancelled backed (Some Watchdog) h = refl
uncancelled backed (Some (PageFault page)) h = ap (λ (b : Bool). cond b None (Some (PageFault page))) (h page refl).1

all-uncancelled : (backed : Backed) (threads : List Thread) → ((place : ℕ) (x : Thread) → slice_get threads place ≡ Some x → IsFault backed x.stop) → (thread : ℕ)
    → option_and_then (λ (t : Thread). t.stop) (slice_get (map (without_cancelled backed) threads) thread) ≡ option_and_then (λ (t : Thread). t.stop) (slice_get threads thread)
all-uncancelled backed [] h thread = refl
all-uncancelled backed (t ∷ threads) h zero = uncancelled backed t.stop (h 0 t refl)
all-uncancelled backed (t ∷ threads) h (suc thread) = all-uncancelled backed threads (λ place x e. h (suc place) x e) thread

none-backed : (effect : Effect) → BacksNone effect → (backed : Backed) (page : ℕ) → backed_after effect backed page ≡ backed page
none-backed effect none backed page =
    ap (λ (o : Option ℕ). backed page || is_page o page || covers_page (record { place = effect.place; count = length effect.bytes }) page) none.page
    ∙ ap (λ (bytes : List ℕ). backed page || false || covers_page (record { place = effect.place; count = length bytes }) page) none.bytes
    ∙ or_false (backed page)
  where
    or_false : (b : Bool) → (b || false || false) ≡ b
    or_false true = refl
    or_false false = refl

-- where no page is backed more, no page fault is settled
pub none-settled : (effect : Effect) (replica : Replica) → BacksNone effect → HasFaults replica → (thread : ℕ) → stop_of (cancelled (applied effect replica)) thread ≡ stop_of (applied effect replica) thread
unfolding applied cancelled
none-settled effect replica none h =
    all-uncancelled (backed_after effect replica.backed) (threads_after effect replica.threads)
    (λ place x e page f. let waits = stops-wait effect replica h place x e page f in (waits.0, none-backed effect none replica.backed page ∙ waits.1))

fault-copied : (backed : Backed) (winners losers : List Thread) → ((place : ℕ) (x : Thread) → slice_get winners place ≡ Some x → IsFault backed x.stop) → (place : ℕ) (x : Thread) → slice_get (copied_threads winners losers) place ≡ Some x → IsFault backed x.stop
fault-copied backed [] losers all place x e = absurd (let f : None ≡ Some x = e in cc)
fault-copied backed (w ∷ winners) [] all place x e = absurd (let f : None ≡ Some x = e in cc)
fault-copied backed (w ∷ winners) (l ∷ losers) all zero x e = subst (λ (y : Thread). IsFault backed y.stop) (some-injective e) (all 0 w refl)
fault-copied backed (w ∷ winners) (l ∷ losers) all (suc place) x e = fault-copied backed winners losers (λ p y f. all (suc p) y f) place x e

fault-recovered : (winner loser : Replica) → HasFaults winner → HasFaults (recovered winner loser)
unfolding recovered
fault-recovered winner loser h = fault-copied winner.backed winner.threads loser.threads h

-- ---- entries

pub each-copied : (won : ℕ) (winner : Replica) (lost : List ℕ) (replicas : List Replica) → slice_get replicas won ≡ Some winner → FaultsWait replicas → FaultsWait (with_recovered won lost replicas)
each-copied won winner [] replicas there h = h
each-copied won winner (lost ∷ losers) replicas there h =
    let w = still-there won lost replicas winner there in
    each-copied won w.0 losers (with_copy won lost replicas) w.1 (λ number r e. by number r (after-copy won lost replicas winner number r there e))
  where
    by : (number : ℕ) (r : Replica) → AfterCopy won lost replicas number r → HasFaults r
    by number r (not_lost d e) = h number r e
    by number r (is_copy w l same a b e) = subst HasFaults e (fault-recovered w l (h won w a))

fault-event : (core : Core) (thread count : ℕ) (replicas : List Replica) (o : Option Event) → FaultsWait replicas → FaultsWait core.replicas → FaultsWait (core_after_event core thread count replicas o).replicas
fault-event core thread count replicas None each h = h
fault-event core thread count replicas (Some event) each h = λ number r e. by r number (get-map (λ x. cancelled (applied event.effect x)) replicas number r e)
  where
    by : (r : Replica) (number : ℕ) → MappedFrom (λ x. cancelled (applied event.effect x)) replicas number r → HasFaults r
    by r number m = subst HasFaults m.gives (fault-applied event.effect m.from (each number m.from m.there))

-- a lease that came back
module _ (job : Job) (core : Core) (lease : Lease) (count hit : ℕ) (back : Returns job core lease count hit) (h : FaultsWait core.replicas) (stop : Option Stop) (waits : IsFault back.ran.replica.backed stop) where
  came : HasFaults back.ran.replica
  came =
      let parts = put-parts job core lease count back.ran back.runs in
      fault-run (layout_in job.program core.kernel) job.settings.watchdog count lease.thread parts.lent back.ran parts.runs (h lease.replica parts.lent parts.there)

  fault-back : FaultsWait (slice_set core.replicas lease.replica (stopped lease.thread stop back.ran.replica))
  fault-back = λ number r e. by number r (get-set-cases core.replicas lease.replica number (stopped lease.thread stop back.ran.replica) r e)
    where
      by : (number : ℕ) (r : Replica) → ((number ≢ lease.replica) × (slice_get core.replicas number ≡ Some r)) ⊎ ((number ≡ lease.replica) × (stopped lease.thread stop back.ran.replica ≡ r)) → HasFaults r
      by number r (inl e) = h number r e.1
      by number r (inr e) = subst HasFaults e.1 (fault-changed back.ran.replica.backed (with_stop stop) (λ x k. waits) back.ran.replica.threads lease.thread came)

fault-after : (job : Job) (core : Core) (entry : Entry) → IsAllowed job core entry → FaultsWait core.replicas → FaultsWait (after job core entry).replicas
unfolding after
fault-after job core (Take lease) may h = h
fault-after job core (Put lease count hit) may h =
    subst (λ (c : Core). FaultsWait c.replicas) (sym (put-is job core lease count hit may))
    (fault-back job core lease count hit may.returns h (arrival job core.kernel lease.thread count may.returns.ran.replica) (fault-arrival job core.kernel lease.thread count may.returns.ran.replica))
fault-after job core (Part lease count hit) may h =
    subst (λ (c : Core). FaultsWait c.replicas) (sym (part-is job core lease count hit may))
    (fault-back job core lease count hit may.returns h None (λ page e. absurd (let f : None ≡ Some (PageFault page) = e in cc)))
fault-after job core (Vote thread count won lost did) may h =
    let e = event-parts job core thread won may.event may.comes in
    fault-event core thread count (with_recovered won (numbers lost) core.replicas) (event_in job core thread won) (each-copied won e.winner (numbers lost) core.replicas e.there h) h
fault-after job core (Free thread) may h = fault-event core thread 0 core.replicas (freed_event job core thread) h h
fault-after job core (Scrub won lost) may h = let w = scrub-winner core won lost may in each-copied won w.0 (numbers lost) core.replicas w.1 h
fault-after job core (End how) may h = h

pub opening-faults : (job : Job) (number : ℕ) → HasFaults (opening_replica job.program.image job.faults number)
unfolding opening_replica
opening-faults job number place thread e = λ page f. absurd (let g : None ≡ Some (PageFault page) = ap (λ (x : Thread). x.stop) (one-thread _ place thread e).1 ∙ f in cc)

pub fault-stops : (job : Job) (journal : List Entry) → Legal job journal → FaultsWait (replay job journal).replicas
unfolding opening_core
fault-stops job journal legal = legal-keeps job (λ core. FaultsWait core.replicas) (fault-after job) (opening_core job) journal legal (λ number r e. subst HasFaults (get-opening job job.settings.replicas number r e) (opening-faults job number))

-- a thread that stands at a page fault
pub fault-at : (job : Job) (journal : List Entry) → Legal job journal → (number thread page : ℕ) (replica : Replica) → slice_get (replay job journal).replicas number ≡ Some replica → stop_of replica thread ≡ Some (PageFault page)
    → (page < 2 ^ 20) × (replica.backed page ≡ false)
fault-at job journal legal number thread page replica there stands = by (slice_get replica.threads thread) refl stands
  where
    by : (o : Option Thread) → slice_get replica.threads thread ≡ o → option_and_then (λ t. t.stop) o ≡ Some (PageFault page) → (page < 2 ^ 20) × (replica.backed page ≡ false)
    by None e f = absurd (let g : None ≡ Some (PageFault page) = f in cc)
    by (Some t) e f = fault-stops job journal legal number replica there thread t e page f
