-- The fields of a run of which nothing is lent, where only room is made.
use Rattle.std.proofs.Common.{◌≡◌, ℕ, ◌≤◌, not, true, List, [], length, Option, sym, ap, ◌∙◌, subst, arith}
use Rattle.std.specs.Prelude.{slice_index_or}
use Rattle.ro_event.specs.declared.calls.Call.{Call}
use Rattle.ro_event.specs.Functions.{functions}
use Rattle.ro_event.specs.Views.{View}
use Rattle.ro_journal.specs.declared.Entry.{Entry}
use Rattle.ro_kernel.specs.State.{State}
use Rattle.ro_plain.specs.Machine.{setup_of}
use Rattle.ro_orders.specs.Choices.{has_otherwise}
use Rattle.ro_legal.specs.Core.{Job, Core, may_vote, may_free, views_of}
use Rattle.ro_legal.specs.Cooperative.{AgreeOn, Legal, replay, most_done}
use Rattle.ro_coop_core.specs.Seen.{KeepsViews}
use Rattle.ro_coop_core.specs.Seats.{AreSeated, AreHome}
use Rattle.ro_coop_core.specs.Fields.{one_end, Fields, core_in, blocked_at, IsCalm, Holds}
use Rattle.ro_coop_core.specs.Runs.{IsAgreed}
use Rattle.ro_coop_core.specs.Amid.{MakesRoom}
use Rattle.ro_coop_core.proofs.Held.{kept-waits}
use Rattle.ro_coop_core.proofs.Keeping.{keeps-replicas}
use Rattle.ro_coop_core.proofs.AtHome.{all-home, seated-home, home-count}

-- each replica has a side
pub sides-many : (f : Fields) → Holds f → length (core_in f).sides ≡ length (core_in f).replicas
sides-many f h = let k = keeps-replicas f h in k.side_count ∙ sym k.replica_count

-- where nothing is lent every replica is at home
pub ready-home : (f : Fields) → Holds f → f.leases ≡ [] → AreHome f.job (core_in f).kernel (core_in f).replicas (core_in f).sides f.seats
ready-home f h alone = all-home f.job (core_in f) f.seats h.seats_are (sym h.leases_are ∙ alone) (sides-many f h)

module _ (f f' : Fields) (h : Holds f) (alone : f.leases ≡ []) (job : f'.job ≡ f.job) (journal : f'.journal ≡ f.journal) (home : AreHome f.job (core_in f).kernel (core_in f).replicas (core_in f).sides f'.seats) (leases : f'.leases ≡ f.leases) (kernel : f'.kernel ≡ f.kernel) (cooperates : f'.cooperates ≡ f.cooperates)
    (blocked : f'.blocked ≡ f.blocked) (most : f'.most_done ≡ f.most_done) (steps : f'.steps ≡ f.steps) (waits : f'.waits ≡ f.waits) (due : f'.due ≡ f.due) (ended : f'.ended ≡ f.ended) (views : f'.views ≡ f.views) (sent : f'.sent ≡ f.sent) (wrote : f'.wrote ≡ f.wrote) (places : f.places ≤ f'.places) where
  core-same : core_in f' ≡ core_in f
  core-same = ap (λ (j : Job). replay j f'.journal) job ∙ ap (replay f.job) journal

  kept-holds : Holds f'
  kept-holds = record {
    calm = subst IsCalm (sym job) h.calm;
    legal = subst (λ (j : Job). Legal j f'.journal) (sym job) (subst (Legal f.job) (sym journal) h.legal);
    leases_are = leases ∙ h.leases_are ∙ sym (ap (λ (c : Core). c.leases) core-same);
    setup_is = ap (λ (k : State). k.setup) kernel ∙ h.setup_is ∙ ap (λ (j : Job). setup_of j.program) (sym job);
    kernel_is = ap (λ (k : State). k.kernel) kernel ∙ h.kernel_is ∙ sym (ap (λ (c : Core). c.kernel) core-same);
    cooperates_is = cooperates ∙ h.cooperates_is ∙ ap (λ (j : Job). not (has_otherwise j.program.image.calls.addresses functions)) (sym job);
    blocked_count = ap length blocked ∙ h.blocked_count;
    blocked_are = λ t. ap (λ (bs : List (Option Call)). blocked_at bs t) blocked ∙ h.blocked_are t ∙ sym (ap (λ (c : Core). c.blocked t) core-same);
    most_count = ap length most ∙ h.most_count;
    most_are = λ t. ap (λ (ns : List ℕ). slice_index_or ns t 0) most ∙ h.most_are t ∙ sym (ap (λ (c : Core). most_done c.replicas t) core-same);
    steps_are = steps ∙ h.steps_are ∙ sym (ap (λ (c : Core). c.steps) core-same);
    waits_are = kept-waits f f' h (core_in f') (ap (λ (c : Core). c.waited) core-same) waits (ap length journal);
    counts = record {
      sent_are = sent ∙ h.counts.sent_are ∙ ap (λ (c : Core). length c.output) (sym core-same);
      wrote_is = wrote ∙ h.counts.wrote_is ∙ ap (λ (c : Core). c.wrote) (sym core-same);
      within = let k = h.counts.within in omega arith;
      few = let k = h.counts.few in omega arith;
    };
    due_is = due ∙ h.due_is ∙ sym (ap (λ (c : Core). c.due) core-same);
    ended_is = ended ∙ h.ended_is ∙ sym (ap (λ (c : Core). c.ended) core-same);
    seats_are = subst (λ (j : Job). AreSeated j (core_in f') f'.seats) (sym job) (subst (λ (c : Core). AreSeated f.job c f'.seats) (sym core-same) (seated-home f.job (core_in f) f'.seats home (sym h.leases_are ∙ alone)));
    views_count = λ unended. ap length views ∙ h.views_count (sym ended ∙ unended) ∙ h.seats_are.count ∙ sym (home-count f.job (core_in f).kernel (core_in f).replicas (core_in f).sides f'.seats home).0;
    views_kept = subst (λ (j : Job). KeepsViews j f'.journal f'.views) (sym job) (subst (λ (js : List Entry). KeepsViews f.job js f'.views) (sym journal) (subst (KeepsViews f.job f.journal) (sym views) h.views_kept));
    room = let k = h.room in let n : length f'.leases ≡ length f.leases = ap length leases in let e : one_end f'.ended ≡ one_end f.ended = ap one_end ended in omega arith;
  }

  pub made-room : MakesRoom f f'
  made-room = record { holds = kept-holds; job = job; journal = journal; leases = leases; kernel = kernel; cooperates = cooperates; blocked = blocked; steps = steps; views = views }

-- the core stays the same
pub same-state : (f f' : Fields) → MakesRoom f f' → core_in f' ≡ core_in f
same-state f f' m = ap (λ (j : Job). replay j f'.journal) m.job ∙ ap (replay f.job) m.journal

-- a vote on which the views agree stays so
pub agreed-room : (f f' : Fields) (thread : ℕ) (view : View) → IsAgreed f thread view → MakesRoom f f' → IsAgreed f' thread view
agreed-room f f' thread view v m =
    let state = same-state f f' m in
    record {
      holds = m.holds;
      may = ap (λ (c : Core). may_vote c thread) state ∙ v.may;
      views_are = m.views ∙ v.views_are ∙ ap (λ (j : Job). views_of j (core_in f) thread) (sym m.job) ∙ ap (λ (c : Core). views_of f'.job c thread) (sym state);
      agreed = subst (λ (j : Job). AgreeOn j (core_in f') thread view) (sym m.job) (subst (λ (c : Core). AgreeOn f.job c thread view) (sym state) v.agreed);
    }

-- and so does a call that can be served
pub free-room : (f f' : Fields) (thread : ℕ) → may_free f.job (core_in f) thread ≡ true → MakesRoom f f' → may_free f'.job (core_in f') thread ≡ true
free-room f f' thread may m = ap (λ (j : Job). may_free j (core_in f') thread) m.job ∙ ap (λ (c : Core). may_free f.job c thread) (same-state f f' m) ∙ may
