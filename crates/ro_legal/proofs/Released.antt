-- A thread whose call is answered goes on in every replica.
use Rattle.std.proofs.Common.{◌≡◌, ℕ, zero, suc, true, cond, List, [], ◌∷◌, ◌++◌, Option, Some, None, refl, sym, ap, ◌∙◌, subst}
use Rattle.std.specs.Prelude.{map, slice_get, if◌then◌else◌}
use Rattle.std.specs.Option.{option_and_then}
use Rattle.ro_event.specs.declared.calls.Call.{Call}
use Rattle.ro_event.specs.declared.stops.Stop.{Stop}
use Rattle.ro_event.specs.declared.stops.Stop.TheVariants.{Calls, Trap, PageFault, Watchdog}
use Rattle.ro_journal.specs.declared.Did.TheVariants.{Served as WasServed, Blocked as WasBlocked, Parked as WasParked, PageBacked, Watch, Trapped}
use Rattle.ro_journal.specs.declared.Entry.{Entry}
use Rattle.ro_journal.specs.declared.Entry.TheVariants.{Take, Put, Part, Vote, Free, Scrub, End}
use Rattle.ro_journal.specs.Losers.{numbers}
use Rattle.ro_kernel.specs.Kernel.{Setup, Kernel}
use Rattle.ro_kernel.specs.Serve.{Served, Done, Parked, Blocked, Ends, serve, put_out, asked}
use Rattle.ro_exec.specs.Next.{Backed}
use Rattle.ro_thread.specs.declared.Thread.{Thread}
use Rattle.ro_replica.specs.Replica.{Replica, applied, cancelled, is_cancelled, without_cancelled, stop_of}
use Rattle.ro_plain.specs.Machine.{setup_of}
use Rattle.ro_legal.specs.Core.{Job, Core}
use Rattle.ro_legal.specs.Event.{Event, call_event, event_of, with_recovered, all_applied}
use Rattle.ro_legal.specs.Legal.{IsAllowed, Legal, core_after_event, after, replay}
use Rattle.ro_legal.specs.Laws.{Answers}
use Rattle.ro_legal.proofs.Lists.{MappedFrom, get-map}
use Rattle.ro_legal.proofs.Served.{Tidy, tidy_done, serve-tidy}
use Rattle.ro_legal.proofs.Happens.{Happens, event-happens, call-happens}
use Rattle.ro_legal.proofs.Ordered.{event-parts, free-parts, freed-is, freed-steps as freed-served}
use Rattle.ro_legal.proofs.Stops.{applied-own}
use Rattle.ro_legal.proofs.Journals.{replay_more}
use Rattle.ro_legal.proofs.Grants.{last-entry}

-- what a call that was served does to its thread, where the program goes on
call-releases : (kernel : Kernel) (thread : ℕ) (call : Call) (payload : List ℕ) (served : Served) → Tidy kernel thread served → (call_event kernel thread call payload served).did ≡ WasServed → (call_event kernel thread call payload served).due ≡ None
    → (call_event kernel thread call payload served).effect.releases ≡ true
call-releases kernel thread call payload (Done after effect) (tidy_done t) did due = t.goes_on
call-releases kernel thread call payload (Parked after) t did due = absurd (let e : WasParked ≡ WasServed = did in cc)
call-releases kernel thread call payload Blocked t did due = absurd (let e : WasBlocked ≡ WasServed = did in cc)
call-releases kernel thread call payload (Ends after how) t did due = absurd (let e : Some how ≡ None = due in cc)

-- the event of a vote that served a call
vote-releases : (setup : Setup) (kernel : Kernel) (thread : ℕ) (stop : Stop) (payload : List ℕ) → (event_of setup kernel thread stop payload).did ≡ WasServed → (event_of setup kernel thread stop payload).due ≡ None → (event_of setup kernel thread stop payload).effect.releases ≡ true
unfolding event_of
vote-releases setup kernel thread (Calls call) payload did due = call-releases kernel thread call (put_out call.which payload) (serve setup kernel thread (asked call payload)) (serve-tidy setup kernel thread (asked call payload)) did due
vote-releases setup kernel thread (PageFault page) payload did due = absurd (let e : PageBacked ≡ WasServed = did in cc)
vote-releases setup kernel thread Watchdog payload did due = absurd (let e : Watch ≡ WasServed = did in cc)
vote-releases setup kernel thread (Trap code) payload did due = absurd (let e : Trapped ≡ WasServed = did in cc)

-- who does not stand still does not after page faults are settled
settled-none : (backed : Backed) (threads : List Thread) (thread : ℕ) → option_and_then (λ (t : Thread). t.stop) (slice_get threads thread) ≡ None → option_and_then (λ (t : Thread). t.stop) (slice_get (map (without_cancelled backed) threads) thread) ≡ None
settled-none backed [] thread e = refl
settled-none backed (t ∷ threads) zero e = ap (λ (o : Option Stop). cond (is_cancelled backed o) None o) e
settled-none backed (t ∷ threads) (suc thread) e = settled-none backed threads thread e

-- a released thread stands still in no replica
released : (core : Core) (thread count : ℕ) (replicas : List Replica) (event : Event) → event.effect.thread ≡ thread → event.effect.releases ≡ true → (number : ℕ) (replica : Replica) → slice_get (all_applied event.effect replicas) number ≡ Some replica → stop_of replica thread ≡ None
unfolding cancelled
released core thread count replicas event own releases number replica e = by (get-map (λ r. cancelled (applied event.effect r)) replicas number replica e)
  where
    by : MappedFrom (λ r. cancelled (applied event.effect r)) replicas number replica → stop_of replica thread ≡ None
    by m =
        ap (λ (r : Replica). stop_of r thread) (sym m.gives)
        ∙ settled-none (applied event.effect m.from).backed (applied event.effect m.from).threads thread
        (ap (stop_of (applied event.effect m.from)) (sym own) ∙ (applied-own event.effect m.from ∙ ap (λ b. if b then None else stop_of m.from event.effect.thread) releases))

-- in the core behind the entry that answers it
goes-on : (job : Job) (core : Core) (entry : Entry) → IsAllowed job core entry → (thread : ℕ) → Answers entry thread → (after job core entry).due ≡ None → (number : ℕ) (replica : Replica) → slice_get (after job core entry).replicas number ≡ Some replica → stop_of replica thread ≡ None
unfolding after
goes-on job core (Take lease) may thread answers due number replica e = absurd answers
goes-on job core (Put lease count hit) may thread answers due number replica e = absurd answers
goes-on job core (Part lease count hit) may thread answers due number replica e = absurd answers
goes-on job core (Scrub won lost) may thread answers due number replica e = absurd answers
goes-on job core (End how) may thread answers due number replica e = absurd answers
goes-on job core (Vote voted count won lost did) may thread answers due number replica e =
    let p = event-parts job core voted won may.event may.comes in
    let own : may.event.effect.thread ≡ voted = (subst (Happens core.kernel voted) p.is (event-happens (setup_of job.program) core.kernel voted p.stop _)).thread_is in
    let is = ap (core_after_event core voted count (with_recovered won (numbers lost) core.replicas)) may.comes in
    let due' : may.event.due ≡ None = sym (ap (λ (c : Core). c.due) is) ∙ due in
    let releases : may.event.effect.releases ≡ true =
    subst (λ (v : Event). v.did ≡ WasServed → v.due ≡ None → v.effect.releases ≡ true) p.is (vote-releases (setup_of job.program) core.kernel voted p.stop _) (may.did_is ∙ answers.1) due' in
    ap (stop_of replica) (sym answers.0)
    ∙ released core voted count (with_recovered won (numbers lost) core.replicas) may.event own releases number replica (sym (ap (λ (c : Core). slice_get c.replicas number) is) ∙ e)
goes-on job core (Free freed) may thread answers due number replica e =
    let p = free-parts job core freed may.may in
    let event : Event = call_event core.kernel freed p.call [] (serve (setup_of job.program) core.kernel freed p.call) in
    let is = ap (core_after_event core freed 0 core.replicas) (freed-is job core freed p.call p.blocked_on) in
    let due' : event.due ≡ None = sym (ap (λ (c : Core). c.due) is) ∙ due in
    ap (stop_of replica) (sym answers)
    ∙ released core freed 0 core.replicas event (call-happens (setup_of job.program) core.kernel freed p.call []).thread_is
    (call-releases core.kernel freed p.call [] (serve (setup_of job.program) core.kernel freed p.call) (serve-tidy (setup_of job.program) core.kernel freed p.call) (freed-served job core.kernel freed p.call p.goes_on) due')
    number replica (sym (ap (λ (c : Core). slice_get c.replicas number) is) ∙ e)

-- of a legal journal
pub goes-on-everywhere : (job : Job) (journal : List Entry) (entry : Entry) → Legal job (journal ++ entry ∷ []) → (thread : ℕ) → Answers entry thread → (replay job (journal ++ entry ∷ [])).due ≡ None
    → (number : ℕ) (replica : Replica) → slice_get (replay job (journal ++ entry ∷ [])).replicas number ≡ Some replica → stop_of replica thread ≡ None
goes-on-everywhere job journal entry legal thread answers due number replica e =
    let p = last-entry job journal entry legal in
    let same = replay_more job journal entry in
    goes-on job (replay job journal) entry p.allowed thread answers (sym (ap (λ (c : Core). c.due) same) ∙ due) number replica (sym (ap (λ (c : Core). slice_get c.replicas number) same) ∙ e)
