-- An event that is done in every replica and noted, in the fields of a run.
use Rattle.std.proofs.Common.{◌≡◌, ℕ, ◌+◌, ◌*◌, ◌<◌, ◌≤◌, List, [], ◌∷◌, ◌++◌, length, Bool, true, true≢false, Option, Some, None, refl, sym, ap, ◌∙◌, subst, arith}
use Rattle.std.specs.Prelude.{◌^◌, false, is_none, is_some, slice_set, IfSome}
use Rattle.std.proofs.lemmas.Bool.{and_from}
use Rattle.ro_journal.specs.Plan.{event_steps}
use Rattle.ro_event.specs.declared.calls.Call.{Call}
use Rattle.ro_kernel.specs.Kernel.{Kernel, lives_on}
use Rattle.ro_kernel.specs.State.{State}
use Rattle.ro_region.specs.Permission.{with_range}
use Rattle.ro_settings.proofs.Counts.{few-replicas}
use Rattle.ro_core.specs.declared.cores.Core.{Core as Run}
use Rattle.ro_legal.specs.declared.actions.Waits.{Waits}
use Rattle.ro_legal.specs.Waits.{Notes}
use Rattle.ro_legal.specs.Core.{Job, Core, is_going}
use Rattle.ro_legal.specs.Event.{Event, all_applied, core_after}
use Rattle.ro_legal.specs.Legal.{replay, output_of}
use Rattle.ro_legal.specs.Sound.{IsOrdered}
use Rattle.ro_core.specs.Fields.{Fields, core_in, blocked_at, first_unblocked, IsCalm, AreHome, CanTake, Holds}
use Rattle.ro_core.specs.Grouped.{AreGrouped}
use Rattle.ro_serving.specs.Happening.{event_by}
use Rattle.ro_core.specs.Runs.{job_of, payload_by, LastWrote, Occurrence, CanOccur}
use Rattle.ro_legal.proofs.Journals.{replay_more, legal_more}
use Rattle.ro_core.proofs.Held.{Goes, goes, still-calm}
use Rattle.ro_legal.proofs.Happens.{Happens}
use Rattle.ro_legal.proofs.Ordered.{ordered}
use Rattle.ro_core.proofs.Sitting.{home-count}
use Rattle.ro_core.proofs.Behind.{Forgiven, happened-holds, all-can-take}
use Rattle.ro_core.proofs.Waits.{first-same, still-unblocked}
use Rattle.ro_core.proofs.Tests.{lives-within}
use Rattle.ro_core.proofs.Votes.{live-few, payload-due, payload-few, writes-step, comes-happens, length-applied}

-- a thread that was not blocked was so on no call
pub unblocked : (call : Option Call) (was_blocked : Bool) → was_blocked ≡ is_some call → was_blocked ≡ false → call ≡ None
unblocked None was_blocked e f = refl
unblocked (Some call) was_blocked e f = absurd (true≢false (sym e ∙ f))

module _ (r : Run) (o : Occurrence) (can : CanOccur r o) where
  abbrev pub f : Fields
  f = can.before

  abbrev h : Holds f
  h = can.holds

  abbrev payload : List ℕ
  payload = payload_by r.views.items o.writer

  abbrev event : Event
  event = event_by o.event r.kernel.kernel payload

  goes-on : Goes f
  goes-on = goes f h can.going

  happens : Happens (core_in f).kernel o.thread event
  happens = subst (λ (k : Kernel). Happens k o.thread event) h.kernel_is (comes-happens f.kernel.setup f.kernel.kernel o.thread event can.comes)

  pub occurs-given : r.kernel.kernel.given ≡ with_range o.event.effect.range (core_in f).kernel.given
  occurs-given = happens.given_are

  pub occurs-few : o.thread < 16
  occurs-few = live-few f h o.thread can.live

  -- ---- what it asks of the seats

  pub occurs-can : CanTake o.event.effect r.seats.homes.items
  occurs-can =
      all-can-take f.job (core_in f) o.thread event r.seats.homes.items can.replicas happens (lives-within (core_in f).kernel o.thread (ap (λ (k : Kernel). lives_on k o.thread) (sym h.kernel_is) ∙ can.live)) can.low (subst (λ (k : Kernel). IfSome o.event.effect.range (λ range. length k.given < 4096)) h.kernel_is can.room) can.stands.home can.spared
      (λ number replica g. can.made number replica g ∙ can.threads_are ∙ ap (λ (k : Kernel). length k.lives) h.kernel_is)

  pub occurs-thread : o.event.effect.thread < 16
  occurs-thread = let own = can.own in let f = occurs-few in omega arith

  pub occurs-threads : o.threads ≤ 16
  occurs-threads =
      let lives = (ordered f.job f.journal h.legal).few_lives in
      let same : length f.kernel.kernel.lives ≡ length (core_in f).kernel.lives = ap (λ (k : Kernel). length k.lives) h.kernel_is in
      let are = can.threads_are in
      omega arith

  new : replay f.job (f.journal ++ o.entry ∷ []) ≡ core_after (core_in f) o.thread can.count can.replicas event
  new = replay_more f.job f.journal o.entry ∙ can.came

  order : IsOrdered f.job (replay f.job (f.journal ++ o.entry ∷ []))
  order = ordered f.job (f.journal ++ o.entry ∷ []) (legal_more f.job f.journal o.entry h.legal can.allowed)

  many : length can.replicas ≡ f.job.settings.replicas
  many = sym (length-applied event.effect can.replicas) ∙ ap (λ (c : Core). length c.replicas) (sym new) ∙ order.replica_count

  occurs-many : length (all_applied event.effect can.replicas) ≡ length (core_in f).replicas
  occurs-many = length-applied event.effect can.replicas ∙ many ∙ sym (ordered f.job f.journal h.legal).replica_count

  pub occurs-seats : length r.seats.homes.items ≤ 5
  occurs-seats = let count = home-count f.job (core_in f).kernel r.seats.homes.items can.replicas can.stands.home in let m = many in let range = few-replicas f.job.settings.replicas h.in_range.replicas in omega arith

  -- ---- its counts

  pub occurs-steps : r.steps + o.steps ≤ f.job.settings.limit
  occurs-steps =
      let within = order.within_limit in
      let are : (replay f.job (f.journal ++ o.entry ∷ [])).steps ≡ (core_in f).steps + can.count + event_steps o.event.did = ap (λ (c : Core). c.steps) new in
      let before = h.steps_are in
      let same = can.amid.steps in
      let counted = can.counted in
      omega arith

  pub occurs-short : length payload ≤ 4096
  occurs-short = payload-few f.kernel.setup f.kernel.kernel o.thread event can.comes

  fits : length payload ≤ 4096 * event_steps o.event.did
  fits = writes-step f.kernel.setup f.kernel.kernel o.thread event can.comes

  pub occurs-sent : r.sent + length payload < 2 ^ 64
  occurs-sent =
      let counts = h.counts.few in
      let limit = occurs-steps in
      let range = h.in_range.limit in
      let most = occurs-short in
      let same = can.amid.steps in
      let sent = can.amid.sent in
      omega arith

  -- ---- who may go on

  -- the thread that was the lowest to go on still is
  pub occurs-unblocked : (o.event.moves ≡ false) × (o.event.blocked ≡ None) × (blocked_at r.blocked o.thread ≡ None) → r.unblocked ≡ first_unblocked r.kernel (slice_set r.blocked o.thread o.event.blocked)
  occurs-unblocked stays =
      can.amid.unblocked ∙ h.unblocked_is ∙ sym (first-same f.kernel r.kernel f.blocked can.amid.setup (can.leaves stays.0))
      ∙ ap (first_unblocked r.kernel) (sym can.amid.blocked ∙ sym (still-unblocked r.blocked o.thread o.event.blocked stays.2 stays.1))

  -- ---- how long threads wait

  -- so many votes were held at most
  pub occurs-votes : r.waits.votes ≤ length r.journal.items
  occurs-votes = let few = h.waits_are.few in let same = ap (λ (w : Waits). w.votes) can.amid.waits in let long = ap length can.amid.journal in omega arith

  -- until when none was overdue none is
  pub occurs-calm : (after : Waits) → Notes r.waits after o.thread (blocked_at r.blocked o.thread) → (o.event.moves ≡ false) × (o.event.blocked ≡ None) × (blocked_at r.blocked o.thread ≡ None) → IsCalm r.kernel.kernel (slice_set r.blocked o.thread o.event.blocked) after r.calm
  occurs-calm after notes stays =
      subst (λ (bs : List (Option Call)). IsCalm r.kernel.kernel bs after r.calm) (sym (still-unblocked r.blocked o.thread o.event.blocked stays.2 stays.1))
      (subst (λ (bs : List (Option Call)). IsCalm r.kernel.kernel bs after r.calm) (sym can.amid.blocked)
      (subst (IsCalm r.kernel.kernel f.blocked after) (sym can.amid.calm)
      (still-calm f.kernel.kernel r.kernel.kernel f.blocked f.waits after f.calm o.thread (blocked_at r.blocked o.thread) (can.leaves stays.0).lives
      (subst (λ (w : Waits). Notes w after o.thread (blocked_at r.blocked o.thread)) can.amid.waits notes) h.calm_is)))

  -- ---- the fields behind it

  module _ (f' : Fields) (job : f'.job ≡ f.job) (journal : f'.journal ≡ f.journal ++ o.entry ∷ []) (due : f'.due ≡ o.event.due) where
    pub occurs-holds : AreHome f.job r.kernel.kernel f'.seats (all_applied o.event.effect can.replicas) → AreGrouped (all_applied o.event.effect can.replicas) f'.groups → f'.leases ≡ f.leases → Forgiven f f' o.thread → f'.kernel ≡ r.kernel → f'.blocked ≡ slice_set r.blocked o.thread o.event.blocked → f'.unblocked ≡ first_unblocked f'.kernel f'.blocked
        → IsCalm f'.kernel.kernel f'.blocked f'.waits f'.calm → f'.steps ≡ r.steps + o.steps → f'.scrubbed ≡ r.scrubbed → Notes r.waits f'.waits o.thread (blocked_at r.blocked o.thread) → f'.ended ≡ f.ended → f'.views ≡ f.views → f'.sent ≡ r.sent + length payload → f'.wrote ≡ length payload → 1 ≤ f'.places → Holds f'
    occurs-holds home groups leases lending kernel blocked unblocked calm counted scrubbed waits ended views sent wrote room =
        happened-holds f f' h o.entry can.allowed o.thread can.count can.replicas event can.came goes-on can.alone happens occurs-few occurs-many journal
        job home groups leases lending (ap (λ (k : State). k.setup) kernel ∙ can.amid.setup) (ap (λ (k : State). k.kernel) kernel)
        (blocked ∙ ap (λ bs. slice_set bs o.thread o.event.blocked) can.amid.blocked) unblocked calm
        (let a = can.counted in let b = can.amid.steps in omega arith) (scrubbed ∙ can.amid.scrubbed)
        (subst (λ (w : Waits). Notes w f'.waits o.thread (blocked_at f.blocked o.thread)) can.amid.waits (subst (λ (bs : List (Option Call)). Notes r.waits f'.waits o.thread (blocked_at bs o.thread)) can.amid.blocked waits)) due ended
        (ap length views ∙ h.views_count goes-on.not_ended ∙ h.seats_are.count ∙ (ordered f.job f.journal h.legal).replica_count ∙ sym many ∙ sym (length-applied o.event.effect can.replicas) ∙ sym (home-count f.job r.kernel.kernel f'.seats (all_applied o.event.effect can.replicas) home))
        fits (let b = can.amid.sent in omega arith) wrote can.no_end room

    pub occurs-wrote : LastWrote f' (output_of (job_of r) r.journal.items) payload
    occurs-wrote =
        let core : core_in f' ≡ core_after (core_in f) o.thread can.count can.replicas event = ap (λ (j : Job). replay j f'.journal) job ∙ ap (replay f.job) journal ∙ new in
        let before : (core_in f).output ≡ output_of (job_of r) r.journal.items = ap (output_of f.job) (sym can.amid.journal) ∙ ap (λ (j : Job). output_of j r.journal.items) (sym can.amid.job) in
        record {
          few = occurs-short;
          output = ap (λ (c : Core). c.output) core ∙ ap (λ (xs : List ℕ). xs ++ payload) before;
          wrote = ap (λ (c : Core). c.wrote) core;
          goes_on = λ some. ap is_going core ∙ and_from _ _ (ap is_none (none some)) (ap is_none (sym h.ended_is ∙ goes-on.not_ended));
        }
      where
        none : 0 < length payload → o.event.due ≡ None
        none some = payload-due f.kernel.setup f.kernel.kernel o.thread event can.comes some
