-- What an event leaves of a replica that agrees: after a release or a mapped page, after a call that blocks, after the first step of a call, and after a served call.
use Rattle.std.specs.Prelude.{◌≡◌, ◌≢◌, ℕ, Bool, true, false, IsTrue, cond, List, ◌++◌, replicate, length, Option, Some, None, is_none, slice_get, slice_set, slice_index_or}
use Rattle.std.proofs.Common.{refl, sym, ap, ap₂, ◌∙◌, arith}
use Rattle.std.proofs.lemmas.Bool.{true≢false}
use Rattle.std.proofs.lemmas.List.{length-set}
use Rattle.std.proofs.lemmas.Option.{get_or_from_slice_get, slice_get_within}
use Rattle.ro_event.specs.declared.calls.Call.{Call}
use Rattle.ro_event.specs.declared.effects.Made.{Made}
use Rattle.ro_event.specs.declared.stops.Stop.{Stop}
use Rattle.ro_event.specs.declared.stops.Stop.TheVariants.{Calls}
use Rattle.ro_event.specs.Effects.{Effect}
use Rattle.ro_pages.specs.Bytes.{Memory, stored}
use Rattle.ro_kernel.specs.declared.Life.{Life}
use Rattle.ro_kernel.specs.Kernel.{Kernel, live_option, lives_on}
use Rattle.ro_kernel.specs.Serve.{Done, Parked, serve, put_out, asked}
use Rattle.ro_kernel.proofs.Kept.{IsOwn, slice_get-set_other}
use Rattle.ro_exec.specs.declared.Cpu.{Cpu}
use Rattle.ro_exec.specs.Next.{Backed, all_backed, Stands, next, Layout}
use Rattle.ro_exec.specs.Threads.{made_cpu, cpu_after}
use Rattle.ro_thread.specs.declared.Thread.{Thread}
use Rattle.ro_thread.specs.Stops.{standing}
use Rattle.ro_replica.specs.Replica.{Replica, applied, cancelled}
use Rattle.ro_plain.specs.Machine.{setup_of, Machine, opening, with_made, affected, called, step_by, next_of, steppable, step, run, layout_in, payload_in, served_in}
use Rattle.ro_plain.specs.Order.{RaceFree}
use Rattle.ro_plain.proofs.Backed.{backed-is-plain}
use Rattle.ro_plain.proofs.Calls.{some-injective, slice_get-append, steppable-from, step-at}
use Rattle.ro_plain.proofs.Stays.{steppable-along, payload-stays}
use Rattle.ro_legal.specs.Core.{Job}
use Rattle.ro_legal.specs.Event.{quiet_effect}
use Rattle.ro_simulation.specs.Invariant.{StopStands, Agrees}
use Rattle.ro_plain.proofs.StaysAfter.{Stays, stays}
use Rattle.ro_plain.proofs.Wider.{layout-same}
use Rattle.ro_simulation.proofs.Ahead.{KeepsRest, BackedRun-keeps, reach-run, TakenAfter, take-after, stays-along}
use Rattle.ro_legal.proofs.Lists.{get-set-same, get-append-last}
use Rattle.ro_legal.proofs.Served.{IsTidy}
use Rattle.ro_simulation.proofs.Views.{Comes}
use Rattle.ro_legal.proofs.Effects.{backed_after}
use Rattle.ro_simulation.proofs.Effects.{more-after, KeptStop, IsOf, ThreadAfter, as_before, its_own, newly_made, agrees-applied, stands-later}

-- a stop that is left was not released
if-released : (releases : Bool) (o : Option Stop) (stop : Stop) → cond releases None o ≡ Some stop → (releases ≡ false) × (o ≡ Some stop)
if-released true o stop e = absurd (let f : None ≡ Some stop = e in cc)
if-released false o stop e = (refl, e)

-- a quiet effect is about its thread
pub quiet-is-of : (t : ℕ) (page : Option ℕ) (releases : Bool) → IsOf (quiet_effect t page releases) t
quiet-is-of t page releases = record { thread_is = refl; creator_is = λ made (e : None ≡ Some made). cc }

module _ (job : Job) (free : RaceFree job.program) (before : List ℕ) (backed : Backed) (machine middle : Machine) (reached : run job.program (opening job.program) before ≡ Some machine) (going : machine.ended ≡ None) (replica : Replica) (same : replica.backed ≡ backed) (t : ℕ) (live : IsTrue (lives_on machine.kernel t)) (thread : Thread) (there : slice_get replica.threads t ≡ Some thread) (comes : Comes job backed machine middle replica t thread) (stops : (number : ℕ) → StopStands job machine replica number) where
  -- the thread's own steps keep the kernel
  own_kept : KeepsRest machine middle
  own_kept = BackedRun-keeps job.program backed comes.own

  -- the others' steps keep the kernel
  back_kept : KeepsRest middle comes.end
  back_kept = BackedRun-keeps job.program backed comes.back

  -- a thread that lives in the middle lives in the machine
  live-machine : (number : ℕ) → IsTrue (lives_on middle.kernel number) → IsTrue (lives_on machine.kernel number)
  live-machine number alive = ap (λ (k : Kernel). lives_on k number) (sym own_kept.same_kernel) ∙ alive

  -- ---- nothing is stored and no register changes

  module _ (page : Option ℕ) (releases : Bool) (own_stop : (stop : Stop) → releases ≡ false → thread.stop ≡ Some stop → standing (layout_in job.program machine.kernel) job.settings.watchdog replica.backed replica.memory thread.cpu 0 ≡ Some stop) where
    -- registers after a quiet effect
    quiet-cpus : (number : ℕ) (other : Thread) → IsTrue (lives_on middle.kernel number) → ThreadAfter (quiet_effect t page releases) replica.threads t thread number other → slice_get comes.end.cpus number ≡ Some other.cpu
    quiet-cpus number other alive (as_before d e) = comes.same_cpus number other (live-machine number alive) e
    quiet-cpus number other alive (its_own d g) = ap (slice_get comes.end.cpus) d ∙ (comes.same_cpus t thread live there ∙ ap (λ (y : Thread). Some y.cpu) g)
    quiet-cpus number other alive (newly_made made e n g) = absurd (let f : None ≡ Some made = e in cc)

    -- stops after a quiet effect
    quiet-stops : (number : ℕ) (other : Thread) (stop : Stop) → IsTrue (lives_on middle.kernel number) → ThreadAfter (quiet_effect t page releases) replica.threads t thread number other → KeptStop (backed_after (quiet_effect t page releases) replica.backed) other.stop stop
        → standing (layout_in job.program middle.kernel) job.settings.watchdog (backed_after (quiet_effect t page releases) replica.backed) comes.end.memory other.cpu other.since ≡ Some stop
    quiet-stops number other stop alive (as_before d e) kept =
        stands-later (layout_in job.program machine.kernel) (layout_in job.program middle.kernel) job.settings.watchdog replica.backed _ replica.memory comes.end.memory other.cpu other.since stop (more-after (quiet_effect t page releases) replica.backed)
        (ap₂ (λ (k : Kernel) (m : Memory). next (layout_in job.program k) replica.backed m other.cpu) (sym own_kept.same_kernel) comes.same_memory) kept.unbacked ((stops number).stands other stop (live-machine number alive) e kept.was)
    quiet-stops number other stop alive (its_own d g) kept =
        let parts = if-released releases thread.stop stop (ap (λ (y : Thread). y.stop) g ∙ kept.was) in
        ap (λ (y : Thread). standing (layout_in job.program middle.kernel) job.settings.watchdog (backed_after (quiet_effect t page releases) replica.backed) comes.end.memory y.cpu y.since) (sym g)
        ∙ stands-later (layout_in job.program machine.kernel) (layout_in job.program middle.kernel) job.settings.watchdog replica.backed _ replica.memory comes.end.memory thread.cpu 0 stop (more-after (quiet_effect t page releases) replica.backed)
        (ap₂ (λ (k : Kernel) (m : Memory). next (layout_in job.program k) replica.backed m thread.cpu) (sym own_kept.same_kernel) comes.same_memory) kept.unbacked (own_stop stop parts.0 parts.1)
    quiet-stops number other stop alive (newly_made made e n g) kept = absurd (let f : None ≡ Some made = e in cc)

    -- a replica that agreed agrees after a quiet effect
    pub agrees-quiet : Agrees job middle (cancelled (applied (quiet_effect t page releases) replica))
    agrees-quiet = agrees-applied job free backed machine middle replica same t thread there comes (quiet_effect t page releases) (quiet-is-of t page releases) middle comes.end comes.back comes.same_memory quiet-cpus quiet-stops

  -- ---- a call finds the same behind what others ran ahead

  -- so the same comes of it
  served-at-end : (call : Call) → next_of job.program middle thread.cpu ≡ Stands (Calls call) → served_in job.program comes.end t call ≡ served_in job.program middle t call
  served-at-end call stands =
      ap₂ (λ (k : Kernel) (p : List ℕ). serve (setup_of job.program) k t (asked call p)) back_kept.same_kernel
      (sym (payload-stays job.program free (before ++ replicate thread.since t) t thread.cpu call (comes.reached_middle before reached) (backed-is-plain comes.back) comes.apart comes.live stands))

  -- ---- the first step of a call

  module _ (call : Call) (kernel : Kernel) (stands : next_of job.program middle thread.cpu ≡ Stands (Calls call)) (parks : served_in job.program middle t call ≡ Parked kernel) (same_given : kernel.given ≡ middle.kernel.given) (same_lives : kernel.lives ≡ middle.kernel.lives)
      (own_stop : (stop : Stop) → false ≡ false → thread.stop ≡ Some stop → standing (layout_in job.program machine.kernel) job.settings.watchdog replica.backed replica.memory thread.cpu 0 ≡ Some stop) where
    -- the machine after the step
    parked : Machine
    parked = record middle { kernel = kernel }

    -- the program goes on in the middle
    parked_going : middle.ended ≡ None
    parked_going = own_kept.same_end ∙ going

    -- the step behind what others ran ahead
    taken_parked : TakenAfter job.program free backed parked t (comes.among.front ++ comes.among.back) comes.end
    unfolding parked
    taken_parked = take-after job.program free backed (before ++ replicate thread.since t) t _ (comes.reached_middle before reached) comes.back comes.apart
        (step-at job.program middle t thread.cpu comes.live
        ∙ (ap (step_by job.program middle t thread.cpu) stands
        ∙ ap (called middle thread.cpu (put_out call.which (payload_in job.program middle call))) parks)) parked_going

    -- the thread stands at the same call at the end, which does its first step there
    end_is : taken_parked.last ≡ record comes.end { kernel = kernel }
    end_is = some-injective (sym taken_parked.step_t
        ∙ (step-at job.program comes.end t thread.cpu (steppable-along job.program t (backed-is-plain comes.back) comes.apart ∙ comes.live)
        ∙ (ap (step_by job.program comes.end t thread.cpu)
        (sym ((stays-along job.program free backed (before ++ replicate thread.since t) t thread.cpu (comes.reached_middle before reached) comes.back comes.apart comes.live).next_stays all_backed) ∙ stands)
        ∙ ap (called comes.end thread.cpu (put_out call.which (payload_in job.program comes.end call))) (served-at-end call stands ∙ parks))))

    -- who lives after the step lived before it
    lived : (number : ℕ) → IsTrue (lives_on kernel number) → IsTrue (lives_on middle.kernel number)
    lived number alive = ap (λ (l : List Life). live_option (slice_get l number)) (sym same_lives) ∙ alive

    -- a replica that agreed agrees after the first step
    pub agrees-parked : Agrees job (record middle { kernel = kernel }) (cancelled (applied (quiet_effect t None false) replica))
    unfolding parked
    agrees-parked = agrees-applied job free backed machine middle replica same t thread there comes (quiet_effect t None false) (quiet-is-of t None false) (record middle { kernel = kernel }) taken_parked.last taken_parked.runs
        (comes.same_memory ∙ ap (λ (m : Machine). m.memory) (sym end_is))
        (λ number other alive h. ap (λ (m : Machine). slice_get m.cpus number) end_is ∙ quiet-cpus None false own_stop number other (lived number alive) h)
        (λ number other stop alive h kept.
        ap (λ (m : Machine). standing (layout_in job.program kernel) job.settings.watchdog (backed_after (quiet_effect t None false) replica.backed) m.memory other.cpu other.since) end_is
        ∙ (ap (λ (l : Layout). standing l job.settings.watchdog (backed_after (quiet_effect t None false) replica.backed) comes.end.memory other.cpu other.since) (layout-same job.program kernel middle.kernel same_given)
        ∙ quiet-stops None false own_stop number other stop (lived number alive) h kept))

  -- ---- a served call

  module _ (call : Call) (kernel : Kernel) (effect : Effect) (stands : next_of job.program middle thread.cpu ≡ Stands (Calls call)) (served : served_in job.program middle t call ≡ Done kernel effect) (own : IsOwn middle.kernel t kernel effect) (tidy : IsTidy middle.kernel t kernel effect) (all_made : length replica.threads ≡ length machine.kernel.lives) (as_many : length machine.cpus ≡ length machine.kernel.lives) where
    -- the effect is about the thread
    is_of : IsOf effect t
    is_of = record { thread_is = own.thread_is; creator_is = own.creator_is }

    -- the call's step in the middle machine
    step-middle : step job.program middle t ≡ Some (affected middle thread.cpu kernel effect (put_out call.which (payload_in job.program middle call)))
    step-middle = step-at job.program middle t thread.cpu comes.live
        ∙ (ap (step_by job.program middle t thread.cpu) stands
        ∙ ap (called middle thread.cpu (put_out call.which (payload_in job.program middle call))) served)

    -- the program goes on in the middle
    going_middle : middle.ended ≡ None
    going_middle = own_kept.same_end ∙ going

    -- the middle machine is reached
    reached_middle : run job.program (opening job.program) (before ++ replicate thread.since t) ≡ Some middle
    reached_middle = comes.reached_middle before reached

    -- the call's step behind what others ran ahead
    taken : TakenAfter job.program free backed (affected middle thread.cpu kernel effect (put_out call.which (payload_in job.program middle call))) t (comes.among.front ++ comes.among.back) comes.end
    taken = take-after job.program free backed (before ++ replicate thread.since t) t _ reached_middle comes.back comes.apart step-middle going_middle

    -- the thread may step at the end
    live_end : steppable comes.end t ≡ Some thread.cpu
    live_end = steppable-along job.program t (backed-is-plain comes.back) comes.apart ∙ comes.live

    -- it stands at the same call there
    stands_end : next_of job.program comes.end thread.cpu ≡ Stands (Calls call)
    stands_end = sym ((stays-along job.program free backed (before ++ replicate thread.since t) t thread.cpu reached_middle comes.back comes.apart comes.live).next_stays all_backed) ∙ stands

    -- the call is served alike there
    served_end : served_in job.program comes.end t call ≡ Done kernel effect
    served_end = served-at-end call stands ∙ served

    -- the machine after the call at the end
    last_is : taken.last ≡ affected comes.end thread.cpu kernel effect (put_out call.which (payload_in job.program comes.end call))
    last_is = some-injective (sym taken.step_t
        ∙ (step-at job.program comes.end t thread.cpu live_end
        ∙ (ap (step_by job.program comes.end t thread.cpu) stands_end
        ∙ ap (called comes.end thread.cpu (put_out call.which (payload_in job.program comes.end call))) served_end)))

    -- another thread that lives after the call lived before it
    alive-before : (number : ℕ) (other : Thread) → number ≢ t → slice_get replica.threads number ≡ Some other → IsTrue (lives_on kernel number) → IsTrue (lives_on machine.kernel number)
    alive-before number other d e alive =
        let short = slice_get_within replica.threads number other e in
        let lengths : length middle.kernel.lives ≡ length machine.kernel.lives = ap (λ (k : Kernel). length k.lives) own_kept.same_kernel in
        live-machine number (tidy.stays_dead number d (omega arith) alive)

    -- a made thread leaves the others' registers
    keeps-made : (made : Option Made) (cpus : List Cpu) (number : ℕ) (x : Cpu) → slice_get cpus number ≡ Some x → slice_get (with_made made thread.cpu cpus) number ≡ Some x
    keeps-made None cpus number x e = e
    keeps-made (Some made) cpus number x e = slice_get-append cpus _ number x e

    -- the thread's registers at the end
    at_t : slice_get comes.end.cpus t ≡ Some thread.cpu
    at_t = comes.same_cpus t thread live there

    -- the thread's registers after the call
    set_at_t : slice_get (slice_set comes.end.cpus t (cpu_after effect thread.cpu)) t ≡ Some (cpu_after effect thread.cpu)
    set_at_t = get-set-same comes.end.cpus t thread.cpu _ at_t

    -- the made thread's registers
    new-cpu : (made : Made) → made.creator ≡ t → (number : ℕ) → number ≡ length replica.threads → slice_get (with_made (Some made) thread.cpu (slice_set comes.end.cpus t (cpu_after effect thread.cpu))) number ≡ Some (made_cpu made (cpu_after effect thread.cpu) (length replica.threads))
    new-cpu made creator number n =
        let long : length replica.threads ≡ length (slice_set comes.end.cpus t (cpu_after effect thread.cpu)) = all_made ∙ (sym as_many ∙ (sym (back_kept.same_length ∙ own_kept.same_length) ∙ sym (length-set comes.end.cpus t _))) in
        ap (slice_get (with_made (Some made) thread.cpu (slice_set comes.end.cpus t (cpu_after effect thread.cpu)))) (n ∙ long)
        ∙ (get-append-last (slice_set comes.end.cpus t (cpu_after effect thread.cpu)) _
        ∙ ap₂ (λ (c : Cpu) (k : ℕ). Some (made_cpu made c k)) (ap (λ (i : ℕ). slice_index_or (slice_set comes.end.cpus t (cpu_after effect thread.cpu)) i thread.cpu) creator ∙ get_or_from_slice_get (slice_set comes.end.cpus t (cpu_after effect thread.cpu)) t _ thread.cpu set_at_t) (sym long))

    -- registers after the call
    cpus-at : (number : ℕ) (other : Thread) → IsTrue (lives_on kernel number) → ThreadAfter effect replica.threads t thread number other → slice_get (with_made effect.made thread.cpu (slice_set comes.end.cpus t (cpu_after effect thread.cpu))) number ≡ Some other.cpu
    cpus-at number other alive (as_before d e) =
        keeps-made effect.made _ number other.cpu (slice_get-set_other comes.end.cpus t number _ (λ f. d (sym f)) ∙ comes.same_cpus number other (alive-before number other d e alive) e)
    cpus-at number other alive (its_own d g) =
        keeps-made effect.made _ number other.cpu (ap (slice_get (slice_set comes.end.cpus t (cpu_after effect thread.cpu))) d ∙ (set_at_t ∙ ap (λ (y : Thread). Some y.cpu) g))
    cpus-at number other alive (newly_made made e n g) =
        ap (λ (o : Option Made). slice_get (with_made o thread.cpu (slice_set comes.end.cpus t (cpu_after effect thread.cpu))) number) e
        ∙ (new-cpu made (own.creator_is made e) number n ∙ ap (λ (y : Thread). Some y.cpu) g)

    -- registers in the machine after the call
    served-cpus : (number : ℕ) (other : Thread) → IsTrue (lives_on kernel number) → ThreadAfter effect replica.threads t thread number other → slice_get taken.last.cpus number ≡ Some other.cpu
    served-cpus number other alive h =
        ap (λ (m : Machine). slice_get m.cpus number) last_is
        ∙ (ap (λ (n : ℕ). slice_get (with_made effect.made thread.cpu (slice_set comes.end.cpus n (cpu_after effect thread.cpu))) number) own.thread_is
        ∙ cpus-at number other alive h)

    -- what another thread does next stays
    other-stays : (number : ℕ) (other : Thread) → number ≢ t → slice_get replica.threads number ≡ Some other → IsTrue (lives_on machine.kernel number) → Stays job.program comes.end taken.last number other.cpu
    other-stays number other d e alive =
        stays job.program free ((before ++ replicate thread.since t) ++ (comes.among.front ++ comes.among.back)) comes.end (reach-run job.program backed (before ++ replicate thread.since t) reached_middle comes.back) t number (λ f. d (sym f)) taken.last taken.step_t taken.goes_on other.cpu
        (steppable-from comes.end number other.cpu (record {
          going = ap is_none (back_kept.same_end ∙ going_middle);
          live = ap (λ (k : Kernel). lives_on k number) (back_kept.same_kernel ∙ own_kept.same_kernel) ∙ alive;
          there = comes.same_cpus number other alive e;
        }))

    -- stops after the call
    served-stops : (number : ℕ) (other : Thread) (stop : Stop) → IsTrue (lives_on kernel number) → ThreadAfter effect replica.threads t thread number other → KeptStop (backed_after effect replica.backed) other.stop stop
        → standing (layout_in job.program kernel) job.settings.watchdog (backed_after effect replica.backed) taken.last.memory other.cpu other.since ≡ Some stop
    served-stops number other stop alive (as_before d e) kept =
        let alive_before = alive-before number other d e alive in
        stands-later (layout_in job.program machine.kernel) (layout_in job.program kernel) job.settings.watchdog replica.backed _ replica.memory taken.last.memory other.cpu other.since stop (more-after effect replica.backed)
        (ap₂ (λ (k : Kernel) (m : Memory). next (layout_in job.program k) replica.backed m other.cpu) (sym (back_kept.same_kernel ∙ own_kept.same_kernel)) comes.same_memory
        ∙ ((other-stays number other d e alive_before).next_stays replica.backed
        ∙ ap (λ (m : Machine). next (layout_in job.program m.kernel) replica.backed taken.last.memory other.cpu) last_is))
        kept.unbacked ((stops number).stands other stop alive_before e kept.was)
    served-stops number other stop alive (its_own d g) kept =
        let parts = if-released effect.releases thread.stop stop (ap (λ (y : Thread). y.stop) g ∙ kept.was) in absurd (true≢false (sym tidy.goes_on ∙ parts.0))
    served-stops number other stop alive (newly_made made e n g) kept =
        absurd (let f : None ≡ Some stop = ap (λ (y : Thread). y.stop) g ∙ kept.was in cc)

    -- a replica that agreed agrees after a served call
    pub agrees-served : Agrees job (affected middle thread.cpu kernel effect (put_out call.which (payload_in job.program middle call))) (cancelled (applied effect replica))
    agrees-served = agrees-applied job free backed machine middle replica same t thread there comes effect is_of _ taken.last taken.runs
        (ap (λ (m : Memory). stored m effect.place effect.bytes) comes.same_memory ∙ ap (λ (m : Machine). m.memory) (sym last_is))
        served-cpus served-stops
