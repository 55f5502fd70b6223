-- What threads wish: pages that there can be.
use Rattle.std.proofs.Common.{◌≡◌, ℕ, ◌+◌, ◌^◌, ◌<◌, ◌≤◌, Bool, true, false, not, ◌&&◌, cond, List, ◌∷◌, Option, Some, None, refl, sym, ap, ◌∙◌, arith, inl, inr}
use Rattle.std.specs.Prelude.{◌==◌, ◌⊎◌, IfSome, slice_get}
use Rattle.std.specs.List.{All, filter}
use Rattle.std.specs.Option.{option_and_then}
use Rattle.std.proofs.lemmas.List.Elements.{All-cons, All-filter, All-take}
use Rattle.std.proofs.lemmas.Bool.{and_from, eq-eqb, le-leb, lt-leb, cases_lt}
use Rattle.ro_event.specs.declared.stops.Stop.{Stop}
use Rattle.ro_event.specs.declared.stops.Stop.TheVariants.{Calls, PageFault, Trap, Watchdog}
use Rattle.ro_exec.specs.Next.{Backed}
use Rattle.ro_thread.specs.declared.Thread.{Thread}
use Rattle.ro_thread.specs.Parts.{missed}
use Rattle.ro_thread.specs.Stops.{standing}
use Rattle.ro_journal.specs.declared.Entry.{Entry}
use Rattle.ro_journal.specs.declared.Entry.TheVariants.{Take, Put, Part, Vote, Free, Scrub, End}
use Rattle.ro_journal.specs.declared.Lease.{Lease}
use Rattle.ro_journal.specs.Losers.{numbers}
use Rattle.ro_plain.specs.Machine.{layout_in}
use Rattle.ro_replica.specs.Replica.{Replica}
use Rattle.ro_replica.specs.Runs.{RanTo}
use Rattle.ro_legal.specs.Parts.{most_wishes, most_misses, wish_with, seen_pages}
use Rattle.ro_legal.specs.Core.{Job, Core, opening_core}
use Rattle.ro_legal.specs.Event.{Event, with_recovered}
use Rattle.ro_legal.specs.Legal.{lease_run, arrival, faulted, wishing, wanted_by, core_after_put, core_after_part, core_after_event, event_in, freed_event, after, IsAllowed, Legal, replay}
use Rattle.ro_legal.proofs.Journals.{legal-keeps}
use Rattle.ro_legal.specs.Sound.{IsFault}
use Rattle.ro_legal.proofs.FaultPages.{fault-standing}
use Rattle.ro_core.specs.Wishing.{few_misses, wished_behind, missed_behind}

abbrev pub IsLow : List ℕ → Type 0
IsLow = All (λ page. page < 2 ^ 20)

-- a wish with such a page first
pub low-with : (page : ℕ) (wish : List ℕ) → page < 2 ^ 20 → IsLow wish → IsLow (wish_with page wish)
low-with page wish low h =
    All-take (λ page. page < 2 ^ 20) most_wishes (page ∷ filter (λ other. not (other == page)) wish)
    (All-cons (λ page. page < 2 ^ 20) page (filter (λ other. not (other == page)) wish) low (All-filter (λ other. not (other == page)) (λ page. page < 2 ^ 20) wish h))

abbrev AreLow : ((replica thread : ℕ) → List ℕ) → Type 0
AreLow wishes = (replica thread : ℕ) → IsLow (wishes replica thread)

low-wishing : (replica thread : ℕ) (page : Option ℕ) (wishes : (replica thread : ℕ) → List ℕ) → IfSome page (λ p. p < 2 ^ 20) → AreLow wishes → AreLow (wishing replica thread page wishes)
low-wishing replica thread None wishes low h = h
low-wishing replica thread (Some page) wishes low h = λ r t. by r t ((r == replica) && (t == thread))
  where
    by : (r t : ℕ) (b : Bool) → IsLow (cond b (wish_with page (wishes r t)) (wishes r t))
    by r t true = low-with page (wishes r t) low (h r t)
    by r t false = h r t

-- a page at whose fault a thread stands
low-fault : (backed : Backed) (stop : Option Stop) → IsFault backed stop → IfSome (faulted stop) (λ page. page < 2 ^ 20)
low-fault backed None is = tt
low-fault backed (Some (Calls call)) is = tt
low-fault backed (Some (Trap code)) is = tt
low-fault backed (Some Watchdog) is = tt
low-fault backed (Some (PageFault page)) is = (is page refl).0

low-missed : (backed whole : Backed) (stop : Option Stop) → IsFault backed stop → IfSome (missed whole stop) (λ page. page < 2 ^ 20)
low-missed backed whole None is = tt
low-missed backed whole (Some (Calls call)) is = tt
low-missed backed whole (Some (Trap code)) is = tt
low-missed backed whole (Some Watchdog) is = tt
low-missed backed whole (Some (PageFault page)) is = by (whole page)
  where
    by : (b : Bool) → IfSome (cond b (Some page) None) (λ page. page < 2 ^ 20)
    by true = (is page refl).0
    by false = tt

low-arrival : (job : Job) (core : Core) (thread count : ℕ) (replica : Replica) → IfSome (faulted (arrival job core.kernel thread count replica)) (λ page. page < 2 ^ 20)
low-arrival job core thread count replica = by (count == job.settings.quantum) (slice_get replica.threads thread)
  where
    at : (o : Option Thread) → IfSome (faulted (option_and_then (λ t. standing (layout_in job.program core.kernel) job.settings.watchdog replica.backed replica.memory t.cpu t.since) o)) (λ page. page < 2 ^ 20)
    at None = tt
    at (Some t) = low-fault replica.backed _ (fault-standing (layout_in job.program core.kernel) job.settings.watchdog replica.backed replica.memory t.cpu t.since)

    by : (b : Bool) (o : Option Thread) → IfSome (faulted (cond b None (option_and_then (λ t. standing (layout_in job.program core.kernel) job.settings.watchdog replica.backed replica.memory t.cpu t.since) o))) (λ page. page < 2 ^ 20)
    by true o = tt
    by false o = at o

low-wanted : (job : Job) (core : Core) (lease : Lease) (replica : Replica) → IfSome (wanted_by job core lease replica) (λ page. page < 2 ^ 20)
low-wanted job core lease replica = by (slice_get replica.threads lease.thread)
  where
    by : (o : Option Thread) → IfSome (missed replica.backed (option_and_then (λ t. standing (layout_in job.program core.kernel) job.settings.watchdog (seen_pages (core.lent lease.driver) replica.backed) replica.memory t.cpu t.since) o)) (λ page. page < 2 ^ 20)
    by None = tt
    by (Some t) = low-missed (seen_pages (core.lent lease.driver) replica.backed) replica.backed _ (fault-standing (layout_in job.program core.kernel) job.settings.watchdog (seen_pages (core.lent lease.driver) replica.backed) replica.memory t.cpu t.since)

low-put : (job : Job) (core : Core) (lease : Lease) (count : ℕ) (o : Option RanTo) → AreLow core.wishes → AreLow (core_after_put job core lease count o).wishes
low-put job core lease count None h = h
low-put job core lease count (Some ran) h = low-wishing lease.replica lease.thread (faulted (arrival job core.kernel lease.thread count ran.replica)) core.wishes (low-arrival job core lease.thread count ran.replica) h

low-part : (job : Job) (core : Core) (lease : Lease) (o : Option RanTo) → AreLow core.wishes → AreLow (core_after_part job core lease o).wishes
low-part job core lease None h = h
low-part job core lease (Some ran) h = low-wishing lease.replica lease.thread (wanted_by job core lease ran.replica) core.wishes (low-wanted job core lease ran.replica) h

low-event : (core : Core) (thread count : ℕ) (replicas : List Replica) (o : Option Event) → AreLow core.wishes → AreLow (core_after_event core thread count replicas o).wishes
low-event core thread count replicas None h = h
low-event core thread count replicas (Some event) h = h

low-after : (job : Job) (core : Core) (entry : Entry) → IsAllowed job core entry → AreLow core.wishes → AreLow (after job core entry).wishes
unfolding after
low-after job core (Take lease) may h = h
low-after job core (Put lease count hit) may h = low-put job core lease count (lease_run job core lease count) h
low-after job core (Part lease count hit) may h = low-part job core lease (lease_run job core lease count) h
low-after job core (Vote thread count won lost did) may h = low-event core thread count (with_recovered won (numbers lost) core.replicas) (event_in job core thread won) h
low-after job core (Free thread) may h = low-event core thread 0 core.replicas (freed_event job core thread) h
low-after job core (Scrub won lost) may h = h
low-after job core (End how) may h = h

low-opening : (job : Job) → AreLow (opening_core job).wishes
unfolding opening_core
low-opening job replica thread = λ k d less. absurd (omega arith)

-- in a legal journal each page that is wished is one that there can be
pub wishes-low : (job : Job) (journal : List Entry) → Legal job journal → (replica thread : ℕ) → IsLow ((replay job journal).wishes replica thread)
wishes-low job journal legal = legal-keeps job (λ core. AreLow core.wishes) (low-after job) (opening_core job) journal legal (low-opening job)

-- ---- as it is noted

-- the wish behind a stop
pub wished-is : (replica thread : ℕ) (stop : Option Stop) (wishes : (replica thread : ℕ) → List ℕ) (pages : List ℕ) → pages ≡ wishes replica thread → wished_behind stop pages ≡ wishing replica thread (faulted stop) wishes replica thread
wished-is replica thread None wishes pages same = same
wished-is replica thread (Some (Calls call)) wishes pages same = same
wished-is replica thread (Some (Trap code)) wishes pages same = same
wished-is replica thread (Some Watchdog) wishes pages same = same
wished-is replica thread (Some (PageFault page)) wishes pages same =
    ap (wish_with page) same ∙ sym (ap (λ (b : Bool). cond b (wish_with page (wishes replica thread)) (wishes replica thread)) (and_from (replica == replica) (thread == thread) (eq-eqb replica replica refl) (eq-eqb thread thread refl)))

-- of no other thread's
pub unwished-is : (replica thread r t : ℕ) (page : Option ℕ) (wishes : (replica thread : ℕ) → List ℕ) → ((r == replica) && (t == thread)) ≡ false → wishing replica thread page wishes r t ≡ wishes r t
unwished-is replica thread r t None wishes other = refl
unwished-is replica thread r t (Some page) wishes other = ap (λ (b : Bool). cond b (wish_with page (wishes r t)) (wishes r t)) other

-- the count of misses, up to one past those that are too many
pub missed-is : (missed : Bool) (misses count : ℕ) → misses ≡ few_misses count → missed_behind missed misses ≡ few_misses (cond missed (count + 1) count)
missed-is false misses count same = same
missed-is true misses count same = by (cases_lt most_misses count)
  where
    by : (most_misses < count) ⊎ (count ≤ most_misses) → missed_behind true misses ≡ few_misses (count + 1)
    by (inr few) =
        let is : misses ≡ count = same ∙ ap (λ (b : Bool). cond b count (most_misses + 1)) (le-leb count most_misses few) in
        ap (λ (b : Bool). cond b (misses + 1) misses) (le-leb misses most_misses (omega arith)) ∙ ap (λ (n : ℕ). n + 1) is ∙ one (cases_lt most_misses (count + 1))
      where
        one : (most_misses < count + 1) ⊎ (count + 1 ≤ most_misses) → count + 1 ≡ few_misses (count + 1)
        one (inl last) = let e : count + 1 ≡ most_misses + 1 = omega arith in e ∙ sym (ap (λ (b : Bool). cond b (count + 1) (most_misses + 1)) (lt-leb (count + 1) most_misses last))
        one (inr more) = sym (ap (λ (b : Bool). cond b (count + 1) (most_misses + 1)) (le-leb (count + 1) most_misses more))
    by (inl many) =
        let is : misses ≡ most_misses + 1 = same ∙ ap (λ (b : Bool). cond b count (most_misses + 1)) (lt-leb count most_misses many) in
        ap (λ (b : Bool). cond b (misses + 1) misses) (lt-leb misses most_misses (omega arith)) ∙ is ∙ sym (ap (λ (b : Bool). cond b (count + 1) (most_misses + 1)) (lt-leb (count + 1) most_misses (omega arith)))
