-- A blocked call that is served, in the fields of a run.
use Rattle.std.proofs.Common.{◌≡◌, ℕ, ◌+◌, ◌<◌, ◌≤◌, Bool, true, false, List, [], length, Option, Some, None, refl, sym, ap, ◌∙◌, subst, arith}
use Rattle.std.specs.Prelude.{◌^◌, if◌then◌else◌, IfSome, slice_get}
use Rattle.ro_journal.specs.declared.How.TheVariants.{Limit}
use Rattle.ro_journal.specs.declared.Did.TheVariants.{Served as WasServed}
use Rattle.ro_journal.specs.declared.Entry.TheVariants.{Free}
use Rattle.ro_event.specs.declared.calls.Call.{Call}
use Rattle.ro_journal.specs.Plan.{event_steps}
use Rattle.ro_kernel.specs.Kernel.{Setup, Kernel, lives_on}
use Rattle.ro_kernel.specs.Serve.{serve}
use Rattle.ro_plain.specs.Machine.{setup_of}
use Rattle.ro_replica.specs.Replica.{Replica}
use Rattle.ro_core.specs.declared.cores.Core.{Core as Run}
use Rattle.ro_serving.specs.declared.events.Event.{Event as Happening}
use Rattle.ro_legal.specs.Core.{Job, Core, is_going, may_free}
use Rattle.ro_legal.specs.Event.{Event, call_event, core_after}
use Rattle.ro_legal.specs.Legal.{core_after_event, after, MayFree, MayEnd, for_free, EndsFree}
use Rattle.ro_core.specs.Fields.{AreSpared, Fields, blocked_at, core_in, Holds}
use Rattle.ro_core.specs.Grouped.{AreMade}
use Rattle.ro_core.specs.Seated.{Stands}
use Rattle.ro_serving.specs.Happening.{event_by, ComesOf, of_blocked, LeavesWaiting}
use Rattle.ro_core.specs.Runs.{IsAmid, MakesRoom, CanOccur}
use Rattle.ro_legal.proofs.FaultStops.{fault-stops}
use Rattle.ro_core.proofs.Held.{Goes, goes}
use Rattle.ro_legal.proofs.Happens.{Happens, call-happens}
use Rattle.ro_legal.proofs.Ordered.{FreeParts, free-parts, freed-is, freed-steps, ordered}
use Rattle.ro_core.proofs.Tests.{lives-within}
use Rattle.ro_core.proofs.Votes.{call-low, same-state}

module _ (f : Fields) (h : Holds f) (thread : ℕ) (may : may_free f.job (core_in f) thread ≡ true) where
  pub parts : FreeParts f.job (core_in f) thread
  parts = free-parts f.job (core_in f) thread may

  pub free-going : is_going (core_in f) ≡ true
  free-going = parts.going

  pub free-not-over : (core_in f).ended ≡ None
  free-not-over = parts.not_ended

  pub free-goes : Goes f
  free-goes = goes f h parts.going

  pub free-alone : f.leases ≡ []
  free-alone = h.leases_are ∙ parts.alone

  -- the call that the code has for it
  pub free-call : (call : Call) → blocked_at f.blocked thread ≡ Some call → (core_in f).blocked thread ≡ Some call
  free-call call e = sym (h.blocked_are thread) ∙ e

  pub free-live : lives_on f.kernel.kernel thread ≡ true
  free-live = ap (λ (k : Kernel). lives_on k thread) h.kernel_is ∙ (ordered f.job f.journal h.legal).blocked_live parts.not_due parts.not_ended thread parts.call parts.blocked_on

  pub free-made : thread < length (core_in f).kernel.lives
  free-made = lives-within (core_in f).kernel thread ((ordered f.job f.journal h.legal).blocked_live parts.not_due parts.not_ended thread parts.call parts.blocked_on)

  pub free-few : thread < 16
  free-few = let few = (ordered f.job f.journal h.legal).few_lives in let m = free-made in omega arith

  pub free-steps : f.steps ≤ f.job.settings.limit
  free-steps = let e = h.steps_are in let l = (ordered f.job f.journal h.legal).within_limit in omega arith

  pub free-threads : (number : ℕ) (replica : Replica) → slice_get (core_in f).replicas number ≡ Some replica → length replica.threads ≡ length (core_in f).kernel.lives
  free-threads number replica e = ((ordered f.job f.journal h.legal).sound number replica e).all_made

  pub free-made-all : AreMade (length f.kernel.kernel.lives) (core_in f).replicas
  free-made-all number replica e = free-threads number replica e ∙ ap (λ (k : Kernel). length k.lives) (sym h.kernel_is)

  -- the end in its place
  pub free-ends : f.steps ≡ f.job.settings.limit → EndsFree f.job (core_in f) (Limit f.steps 1)
  free-ends e = (h.steps_are, refl, omega arith)

  pub free-may-end : f.steps ≡ f.job.settings.limit → MayEnd f.job (core_in f) (Limit f.steps 1)
  free-may-end e = for_free thread may (free-ends e)

  module _ (call : Call) (there : blocked_at f.blocked thread ≡ Some call) where
    abbrev pub the-event : Event
    the-event = call_event f.kernel.kernel thread call [] (serve f.kernel.setup f.kernel.kernel thread call)

    same-call : parts.call ≡ call
    same-call = let e : Some parts.call ≡ Some call = sym parts.blocked_on ∙ free-call call there in cc

    pub free-happens : Happens (core_in f).kernel thread the-event
    free-happens = subst (λ (k : Kernel). Happens k thread the-event) h.kernel_is (call-happens f.kernel.setup f.kernel.kernel thread call [])

    pub free-low : IfSome the-event.effect.page (λ page. page < 2 ^ 20)
    free-low = call-low f.kernel.setup f.kernel.kernel thread call call []

    pub free-came : after f.job (core_in f) (Free thread) ≡ core_after (core_in f) thread 0 (core_in f).replicas the-event
    unfolding after
    free-came =
        ap (core_after_event (core_in f) thread 0 (core_in f).replicas) (freed-is f.job (core_in f) thread call (free-call call there)
        ∙ ap (λ (s : Setup). Some (call_event (core_in f).kernel thread call [] (serve s (core_in f).kernel thread call))) (sym h.setup_is)
        ∙ ap (λ (k : Kernel). Some (call_event k thread call [] (serve f.kernel.setup k thread call))) (sym h.kernel_is))

    pub free-did : the-event.did ≡ WasServed
    free-did =
        ap (λ (k : Kernel). (call_event k thread call [] (serve f.kernel.setup k thread call)).did) h.kernel_is
        ∙ ap (λ (s : Setup). (call_event (core_in f).kernel thread call [] (serve s (core_in f).kernel thread call)).did) h.setup_is
        ∙ ap (λ (x : Call). (call_event (core_in f).kernel thread x [] (serve (setup_of f.job.program) (core_in f).kernel thread x)).did) (sym same-call)
        ∙ freed-steps f.job (core_in f).kernel thread parts.call parts.goes_on

    pub free-allowed : f.steps + 1 ≤ f.job.settings.limit → MayFree f.job (core_in f) thread
    free-allowed fits = record { may = may; fits = let e = h.steps_are in omega arith }

    -- the event that the code has for it can be done
    pub free-can : (r : Run) (e : Happening) (threads : ℕ) → the-event ≡ event_by e r.kernel.kernel (if e.writes then [] else []) → f.steps + 1 ≤ f.job.settings.limit → IsAmid f r → IfSome e.effect.range (λ range. length f.kernel.kernel.given < 4096) → Stands f.job (core_in f).kernel r.seats (core_in f).replicas → AreSpared r.seats.homes.items → threads ≡ length f.kernel.kernel.lives → (e.moves ≡ false → LeavesWaiting f.kernel.kernel r.kernel.kernel)
        → CanOccur r (record { thread = thread; event = e; entry = Free thread; steps = 1; writer = None; threads = threads })
    free-can r e threads is fits amid room stands spared threads_are leaves = record {
      before = f;
      holds = h;
      going = free-going;
      alone = free-alone;
      amid = amid;
      count = 0;
      replicas = (core_in f).replicas;
      allowed = free-allowed fits;
      came = free-came ∙ ap (core_after (core_in f) thread 0 (core_in f).replicas) is-by;
      no_end = refl;
      comes = subst (ComesOf f.kernel.setup f.kernel.kernel thread) is-by (of_blocked call);
      live = free-live;
      own = sym (ap (λ (x : Event). x.effect.thread) is) ∙ free-happens.thread_is;
      low = subst (λ (o : Option ℕ). IfSome o (λ page. page < 2 ^ 20)) (ap (λ (x : Event). x.effect.page) is) free-low;
      room = room;
      stands = stands;
      spared = spared;
      made = λ number replica g. free-made-all number replica g ∙ sym threads_are;
      wait = fault-stops f.job f.journal h.legal;
      threads_are = threads_are;
      counted = let k : 1 ≡ event_steps e.did = ap event_steps (sym free-did ∙ ap (λ (x : Event). x.did) is) in omega arith;
      writes = tt;
      leaves = leaves;
    }
      where
        nothing : List ℕ
        nothing = []

        none : (b : Bool) → (if b then nothing else nothing) ≡ nothing
        none true = refl
        none false = refl

        is-by : the-event ≡ event_by e r.kernel.kernel []
        is-by = is ∙ ap (event_by e r.kernel.kernel) (none e.writes)

-- a call that can be served stays so where room is made
pub free-room : (f f' : Fields) (thread : ℕ) → may_free f.job (core_in f) thread ≡ true → MakesRoom f f' → may_free f'.job (core_in f') thread ≡ true
free-room f f' thread may m = ap (λ (j : Job). may_free j (core_in f') thread) m.job ∙ ap (λ (c : Core). may_free f.job c thread) (same-state f f' m) ∙ may
