-- A blocked call that is served, in the fields of a run.
use Rattle.std.proofs.Common.{◌≡◌, ℕ, ◌<◌, ◌≤◌, Bool, true, false, List, [], length, Option, Some, None, refl, sym, ap, ◌∙◌, subst, arith}
use Rattle.std.specs.Prelude.{◌^◌, if◌then◌else◌, IfSome}
use Rattle.std.specs.Option.{option_map}
use Rattle.ro_journal.specs.declared.How.TheVariants.{Limit}
use Rattle.ro_journal.specs.declared.Did.TheVariants.{Served as WasServed}
use Rattle.ro_journal.specs.declared.Entry.TheVariants.{Free}
use Rattle.ro_journal.specs.Plan.{event_steps}
use Rattle.ro_event.specs.declared.calls.Call.{Call}
use Rattle.ro_event.specs.declared.stops.Stop.TheVariants.{Calls}
use Rattle.ro_kernel.specs.Kernel.{Setup, Kernel, lives_on}
use Rattle.ro_kernel.specs.Serve.{serve, serves}
use Rattle.ro_plain.specs.Machine.{setup_of}
use Rattle.ro_serving.specs.declared.events.Event.{Event as Happening}
use Rattle.ro_serving.specs.Happening.{event_by, ComesOf, of_blocked}
use Rattle.ro_serving.proofs.Leaves.{serves-same}
use Rattle.ro_legal.specs.Core.{is_going, may_free}
use Rattle.ro_legal.specs.Event.{Event, call_event}
use Rattle.ro_legal.specs.Legal.{EndsFree}
use Rattle.ro_legal.specs.Cooperative.{MayFree, MayEnd, for_free, after, core_after, core_after_event, freed_event, kernel_for, settled}
use Rattle.ro_legal.proofs.Ordered.{FreeParts, free-parts, freed-is, freed-steps}
use Rattle.ro_coop_core.specs.declared.cores.Core.{Core as Run}
use Rattle.ro_coop_core.specs.Seats.{AreSpared, entered_of}
use Rattle.ro_coop_core.specs.Fields.{Fields, core_in, blocked_at, Holds}
use Rattle.ro_coop_core.specs.Runs.{fields_of}
use Rattle.ro_coop_core.specs.Amid.{CanOccur, entering_of, newcomer_at}
use Rattle.ro_coop_core.proofs.Keeping.{keeps-replicas}
use Rattle.ro_coop_core.proofs.Held.{goes}
use Rattle.ro_coop_core.proofs.Lapsing.{for-either}
use Rattle.ro_coop_core.proofs.Comes.{call-low}
use Rattle.ro_coop_core.proofs.Enters.{newcomer-absent, call-enters}
use Rattle.ro_coop_core.proofs.Votes.{serving-owners}

module _ (f : Fields) (h : Holds f) (thread : ℕ) (may : may_free f.job (core_in f) thread ≡ true) where
  pub parts : FreeParts f.job (core_in f) thread
  parts = free-parts f.job (core_in f) thread may

  pub free-going : is_going (core_in f) ≡ true
  free-going = parts.going

  pub free-not-over : (core_in f).ended ≡ None
  free-not-over = parts.not_ended

  pub free-still : f.ended ≡ None
  free-still = (goes f h parts.going).not_ended

  pub free-alone : f.leases ≡ []
  free-alone = h.leases_are ∙ parts.alone

  pub free-live : lives_on f.kernel.kernel thread ≡ true
  free-live = ap (λ (k : Kernel). lives_on k thread) h.kernel_is ∙ (keeps-replicas f h).blocked_live parts.not_due parts.not_ended thread parts.call parts.blocked_on

  -- the call is there
  pub free-blocked : blocked_at f.blocked thread ≡ Some parts.call
  free-blocked = h.blocked_are thread ∙ parts.blocked_on

  -- the end in its place
  pub free-ends : f.job.settings.limit ≤ f.steps → EndsFree f.job (core_in f) (Limit f.steps 1)
  free-ends e = (h.steps_are, refl, omega arith)

  pub free-may-end : f.job.settings.limit ≤ f.steps → MayEnd f.job (core_in f) (Limit f.steps 1)
  free-may-end e = for_free thread may (free-ends e)

  pub free-allowed : f.steps < f.job.settings.limit → MayFree f.job (core_in f) thread
  free-allowed fits = record { may = may; fits = let e = h.steps_are in omega arith }

  module _ (call : Call) (there : blocked_at f.blocked thread ≡ Some call) where
    abbrev pub free-event : Event
    free-event = call_event (kernel_for (core_in f) thread) thread call [] (serve f.kernel.setup (kernel_for (core_in f) thread) thread call)

    blocked-on : (core_in f).blocked thread ≡ Some call
    blocked-on = sym (h.blocked_are thread) ∙ there

    same-call : parts.call ≡ call
    same-call = let e : Some parts.call ≡ Some call = sym parts.blocked_on ∙ blocked-on in cc

    free-comes : freed_event f.job (core_in f) thread ≡ Some free-event
    free-comes =
        freed-is f.job (settled (core_in f) thread) thread call blocked-on
        ∙ ap (λ (s : Setup). Some (call_event (kernel_for (core_in f) thread) thread call [] (serve s (kernel_for (core_in f) thread) thread call))) (sym h.setup_is)

    free-came : after f.job (core_in f) (Free thread) ≡ core_after f.job (settled (core_in f) thread) thread (Some (Calls call)) free-event
    unfolding after
    free-came =
        ap (λ (o : Option Call). core_after_event f.job (core_in f) thread (option_map Calls o) (freed_event f.job (core_in f) thread)) blocked-on
        ∙ ap (core_after_event f.job (core_in f) thread (Some (Calls call))) free-comes

    -- its reservation is nothing to it
    serves-on : serves (setup_of f.job.program) (kernel_for (core_in f) thread) thread call ≡ true
    serves-on =
        for-either (core_in f) thread (λ k. serves (setup_of f.job.program) k thread call ≡ serves (setup_of f.job.program) (core_in f).kernel thread call) refl
        (serves-same (setup_of f.job.program) (core_in f).kernel _ (record { lives = refl; owners = refl; waiters = refl; given = refl }) thread call)
        ∙ ap (serves (setup_of f.job.program) (core_in f).kernel thread) (sym same-call) ∙ parts.goes_on

    free-did : free-event.did ≡ WasServed
    free-did =
        ap (λ (s : Setup). (call_event (kernel_for (core_in f) thread) thread call [] (serve s (kernel_for (core_in f) thread) thread call)).did) h.setup_is
        ∙ freed-steps f.job (kernel_for (core_in f) thread) thread call serves-on

-- the event that the code has for it can be done
pub free-can : (before r : Run) (h : Holds (fields_of before)) (thread : ℕ) (may : may_free (fields_of before).job (core_in (fields_of before)) thread ≡ true) (call : Call) (there : blocked_at before.blocked thread ≡ Some call) (e : Happening) (newcomer : Option ℕ)
    → free-event (fields_of before) h thread may call there ≡ event_by e r.kernel.kernel (if e.writes then [] else []) → before.steps < before.settings.limit → r ≡ record before { kernel = r.kernel } → r.kernel.setup ≡ before.kernel.setup → newcomer ≡ newcomer_at before.cooperates before.kernel.kernel.owners call.a0 → IfSome e.effect.range (λ range. length before.kernel.kernel.given < 4096) → AreSpared before.seats.items → 2 ≤ (fields_of before).places
    → CanOccur r (record { thread = thread; event = e; entry = Free thread; steps = 1; writes = false; newcomer = newcomer })
free-can before r h thread may call there e newcomer is fits kept setup new room spared places = record {
  before = before;
  holds = h;
  is = kept;
  setup = setup;
  going = free-going f h thread may;
  alone = free-alone f h thread may;
  stop = Some (Calls call);
  allowed = free-allowed f h thread may fits;
  came = free-came f h thread may call there ∙ ap (core_after f.job (settled (core_in f) thread) thread (Some (Calls call))) is-by;
  no_end = refl;
  comes = subst (ComesOf f.kernel.setup (kernel_for (core_in f) thread) thread) is-by (of_blocked call);
  live = free-live f h thread may;
  low = subst (λ (o : Option ℕ). IfSome o (λ page. page < 2 ^ 20)) (ap (λ (x : Event). x.effect.page) is) (call-low f.kernel.setup (kernel_for (core_in f) thread) thread call call []);
  room = room;
  enters = ap (λ (o : Option ℕ). entered_of (entering_of r.kernel.kernel.owners o)) new
      ∙ call-enters f.job.program before.cooperates before.kernel.kernel.owners (kernel_for (core_in f) thread) r.kernel.kernel call h.cooperates_is (serving-owners (core_in f) thread ∙ ap (λ (k : Kernel). k.owners) (sym h.kernel_is));
  absent = λ address q. newcomer-absent before.cooperates before.kernel.kernel.owners call.a0 address (sym new ∙ q);
  spared = spared;
  places = places;
  counted = ap event_steps (sym (free-did f h thread may call there) ∙ ap (λ (x : Event). x.did) is);
}
  where
    f : Fields
    f = fields_of before

    nothing : List ℕ
    nothing = []

    none : (b : Bool) → (if b then nothing else nothing) ≡ nothing
    none true = refl
    none false = refl

    is-by : free-event f h thread may call there ≡ event_by e r.kernel.kernel []
    is-by = is ∙ ap (event_by e r.kernel.kernel) (none e.writes)
