-- What a lease's run keeps of the replica in a cooperative run: one thread goes on and all others stay, none past the watchdog.
use Rattle.std.specs.Prelude.{◌≡◌, ◌≢◌, ℕ, zero, suc, ◌+◌, ◌≤◌, ◌⊎◌, Bool, true, false, not, ◌&&◌, cond, ◌==◌, List, length, Option, Some, None, slice_get, slice_set}
use Rattle.std.specs.Option.{option_map}
use Rattle.std.proofs.Common.{refl, sym, ap, ◌∙◌, subst, arith, inl, inr}
use Rattle.std.proofs.lemmas.Bool.{true≢false, eq-eqb}
use Rattle.std.proofs.lemmas.List.{length-set}
use Rattle.std.proofs.lemmas.Option.{option_and_then_some}
use Rattle.ro_event.specs.declared.calls.Call.{Call}
use Rattle.ro_event.specs.declared.stops.Stop.{Stop}
use Rattle.ro_event.specs.declared.stops.Stop.TheVariants.{Calls, Trap, PageFault, Watchdog}
use Rattle.ro_journal.specs.declared.Lease.{Lease}
use Rattle.ro_exec.specs.declared.Cpu.{Cpu}
use Rattle.ro_exec.specs.Next.{Layout, Backed, Next, Stands, Executes, next}
use Rattle.ro_thread.specs.declared.Thread.{Thread}
use Rattle.ro_kernel.specs.Kernel.{Kernel}
use Rattle.ro_replica.specs.Replica.{Replica}
use Rattle.ro_replica.specs.Runs.{with_stop}
use Rattle.ro_plain.specs.Machine.{layout_in}
use Rattle.ro_plain.proofs.Calls.{some-injective}
use Rattle.ro_orders.specs.Turns.{is_lock_or_unlock}
use Rattle.ro_orders.specs.Answers.{Answer, Answers, Waits, answer_by}
use Rattle.ro_orders.specs.Copies.{Rows}
use Rattle.ro_peer.specs.declared.mutexes.Mutex.{Mutex}
use Rattle.ro_peer.specs.Peers.{Peer, mutex_in, is_row, is_got, peer_after, leased_answer, leased_call, leased_next, leased_at, leased, leased_run}
use Rattle.ro_peer.specs.Gets.{asker, is_own_call, voted}
use Rattle.ro_legal.specs.Core.{Job, Core}
use Rattle.ro_legal.specs.Sides.{Side, peer_with}
use Rattle.ro_legal.specs.Sound.{IsFault}
use Rattle.ro_legal.specs.Kept.{IsUnstruck}
use Rattle.ro_legal.specs.Cooperative.{peer_in, lease_run, arrival, stopped}
use Rattle.ro_legal.proofs.Lists.{ChangedFrom, unchanged, changed_here, get-changed, length-changed, get-set-cases}
use Rattle.ro_legal.proofs.FaultStops.{fault-changed, fault-cond, fault-standing-at}

-- ---- one step

-- the thread after its step
abbrev pub moved : Thread → Cpu → Thread
moved thread cpu = record { cpu = cpu; since = thread.since + 1; done = thread.done + 1; stop = thread.stop }

-- the thread goes on by one step, and of what is kept nothing else changes
pub record GoesOn (watchdog number : ℕ) (before after : Replica) : Type 0 where
  pub thread : Thread
  pub there : slice_get before.threads number ≡ Some thread
  pub unwatched : (thread.since == watchdog) ≡ false
  pub cpu : Cpu
  pub threads_are : after.threads ≡ slice_set before.threads number (moved thread cpu)
  pub same_backed : after.backed ≡ before.backed
  pub same_waiting : after.waiting ≡ before.waiting

module _ (layout : Layout) (rows : Rows) (watchdog : ℕ) (peer : Peer) (number : ℕ) (after : Peer) where
  module _ (thread : Thread) (there : slice_get peer.replica.threads number ≡ Some thread) (unwatched : (thread.since == watchdog) ≡ false) where
    gone : (next : Peer) (cpu : Cpu) → next.replica.threads ≡ slice_set peer.replica.threads number (moved thread cpu) → next.replica.backed ≡ peer.replica.backed → next.replica.waiting ≡ peer.replica.waiting → Some next ≡ Some after → GoesOn watchdog number peer.replica after.replica
    gone next cpu threads backed waiting e = subst (λ (p : Peer). GoesOn watchdog number peer.replica p.replica) (some-injective e)
        (record { thread = thread; there = there; unwatched = unwatched; cpu = cpu; threads_are = threads; same_backed = backed; same_waiting = waiting })

    by-answer : (call : Call) (m : Mutex) (answer : Answer) → leased_answer rows peer number thread call m answer ≡ Some after → GoesOn watchdog number peer.replica after.replica
    by-answer call m Waits e = absurd (let f : None ≡ Some after = e in cc)
    by-answer call m (Answers change value) e = by (is_got change && not (is_row (rows call.a0 m.rank) number)) e
      where
        by : (b : Bool) → cond b None (Some (peer_after peer number thread call change value)) ≡ Some after → GoesOn watchdog number peer.replica after.replica
        by true f = absurd (let g : None ≡ Some after = f in cc)
        by false f = gone (peer_after peer number thread call change value) _ refl refl refl f

    by-call : (call : Call) (o : Option Mutex) → leased_call rows peer number thread call o ≡ Some after → GoesOn watchdog number peer.replica after.replica
    by-call call None e = absurd (let f : None ≡ Some after = e in cc)
    by-call call (Some m) e = by-answer call m (answer_by call.which number m.owner) e

    by-next : (n : Next) → leased_next rows peer number thread n ≡ Some after → GoesOn watchdog number peer.replica after.replica
    by-next (Executes instr) e = gone _ _ refl refl refl e
    by-next (Stands (Calls call)) e = by (is_lock_or_unlock call.which) e
      where
        by : (b : Bool) → cond b (leased_call rows peer number thread call (mutex_in peer.mutexes call.a0)) None ≡ Some after → GoesOn watchdog number peer.replica after.replica
        by true f = by-call call (mutex_in peer.mutexes call.a0) f
        by false f = absurd (let g : None ≡ Some after = f in cc)
    by-next (Stands (Trap code)) e = absurd (let f : None ≡ Some after = e in cc)
    by-next (Stands (PageFault page)) e = absurd (let f : None ≡ Some after = e in cc)
    by-next (Stands Watchdog) e = absurd (let f : None ≡ Some after = e in cc)

  by-watchdog : (thread : Thread) → slice_get peer.replica.threads number ≡ Some thread → (b : Bool) → (thread.since == watchdog) ≡ b → cond b None (leased_next rows peer number thread (next layout peer.replica.backed peer.replica.memory thread.cpu)) ≡ Some after → GoesOn watchdog number peer.replica after.replica
  by-watchdog thread there true w e = absurd (let f : None ≡ Some after = e in cc)
  by-watchdog thread there false w e = by-next thread there w _ e

  -- a step of a lease
  pub goes-on : leased layout rows watchdog peer number ≡ Some after → GoesOn watchdog number peer.replica after.replica
  unfolding leased
  goes-on e = option_and_then_some (leased_at layout rows watchdog peer number) (slice_get peer.replica.threads number) after e (λ thread there f. by-watchdog thread there (thread.since == watchdog) refl f)

-- ---- a run

-- what each step keeps, a run keeps
pub run-keeps : (layout : Layout) (rows : Rows) (watchdog number : ℕ) (P : Replica → Type 0) → ((before after : Replica) → GoesOn watchdog number before after → P before → P after)
    → (count : ℕ) (peer after : Peer) → leased_run layout rows watchdog count peer number ≡ Some after → P peer.replica → P after.replica
run-keeps layout rows watchdog number P keeps zero peer after e h = subst (λ (p : Peer). P p.replica) (some-injective e) h
run-keeps layout rows watchdog number P keeps (suc n) peer after e h =
    option_and_then_some (λ next. leased_run layout rows watchdog n next number) (leased layout rows watchdog peer number) after e
    (λ next f g. run-keeps layout rows watchdog number P keeps n next after g (keeps peer.replica next.replica (goes-on layout rows watchdog peer number next f) h))

-- a thread after a step of one of them
pub after-step : {watchdog number : ℕ} {before after : Replica} (step : GoesOn watchdog number before after) (place : ℕ) (thread : Thread) → slice_get after.threads place ≡ Some thread
    → ((place ≢ number) × (slice_get before.threads place ≡ Some thread)) ⊎ ((place ≡ number) × (moved step.thread step.cpu ≡ thread))
after-step {number = number} {before = before} step place thread e =
    get-set-cases before.threads number place (moved step.thread step.cpu) thread (ap (λ (ts : List Thread). slice_get ts place) (sym step.threads_are) ∙ e)

-- ---- what holds of every replica

module _ (job : Job) (core : Core) where
  -- a step keeps it
  pub unstruck-step : (number : ℕ) (before after : Replica) → GoesOn job.settings.watchdog number before after → IsUnstruck job core before → IsUnstruck job core after
  unstruck-step number before after step h = record {
    all_made = ap length step.threads_are ∙ (length-set before.threads number _ ∙ h.all_made);
    within_watch = λ place thread e. watched place thread (after-step step place thread e);
    no_faults = step.same_waiting ∙ h.no_faults;
    faults_wait = λ place thread e. subst (λ (backed : Backed). IsFault backed thread.stop) (sym step.same_backed) (waits place thread (after-step step place thread e));
  }
    where
      more : step.thread.since + 1 ≤ job.settings.watchdog
      more =
          let low = h.within_watch number step.thread step.there in
          let other : step.thread.since ≢ job.settings.watchdog = λ e. true≢false (sym (eq-eqb step.thread.since job.settings.watchdog e) ∙ step.unwatched) in
          omega arith

      watched : (place : ℕ) (thread : Thread) → ((place ≢ number) × (slice_get before.threads place ≡ Some thread)) ⊎ ((place ≡ number) × (moved step.thread step.cpu ≡ thread)) → thread.since ≤ job.settings.watchdog
      watched place thread (inl e) = h.within_watch place thread e.1
      watched place thread (inr e) = subst (λ (x : Thread). x.since ≤ job.settings.watchdog) e.1 more

      waits : (place : ℕ) (thread : Thread) → ((place ≢ number) × (slice_get before.threads place ≡ Some thread)) ⊎ ((place ≡ number) × (moved step.thread step.cpu ≡ thread)) → IsFault before.backed thread.stop
      waits place thread (inl e) = h.faults_wait place thread e.1
      waits place thread (inr e) = subst (λ (x : Thread). IsFault before.backed x.stop) e.1 (h.faults_wait number step.thread step.there)

  -- and so does the stop at which it comes back
  pub unstruck-stopped : (number : ℕ) (stop : Option Stop) (replica : Replica) → IsFault replica.backed stop → IsUnstruck job core replica → IsUnstruck job core (stopped number stop replica)
  unstruck-stopped number stop replica waits h = record {
    all_made = length-changed (with_stop stop) replica.threads number ∙ h.all_made;
    within_watch = λ place thread e. watched place thread (get-changed (with_stop stop) replica.threads number place thread e);
    no_faults = h.no_faults;
    faults_wait = fault-changed replica.backed (with_stop stop) (λ x k. waits) replica.threads number h.faults_wait;
  }
    where
      watched : (place : ℕ) (thread : Thread) → ChangedFrom (with_stop stop) replica.threads number place thread → thread.since ≤ job.settings.watchdog
      watched place thread (unchanged d e) = h.within_watch place thread e
      watched place thread (changed_here x d e g) = subst (λ (y : Thread). y.since ≤ job.settings.watchdog) g (h.within_watch place x e)

  -- what holds of a replica depends on the kernel's lives alone
  pub unstruck-with : (other : Core) (replica : Replica) → length core.kernel.lives ≡ length other.kernel.lives → IsUnstruck job core replica → IsUnstruck job other replica
  unstruck-with other replica same h = record { all_made = h.all_made ∙ same; within_watch = h.within_watch; no_faults = h.no_faults; faults_wait = h.faults_wait }

-- where a stop for a page waits for it, what of the stop needs a vote does too
pub fault-voted : (backed : Backed) (mutexes : List Mutex) (o : Option Stop) → IsFault backed o → IsFault backed (voted mutexes o)
fault-voted backed mutexes None h = h
fault-voted backed mutexes (Some stop) h = fault-cond backed (is_own_call mutexes stop) (Some stop) h

-- the stop at which a lease arrives
pub fault-arrives : (job : Job) (kernel : Kernel) (thread count : ℕ) (peer : Peer) → IsFault peer.replica.backed (arrival job kernel thread count peer)
fault-arrives job kernel thread count peer =
    fault-cond peer.replica.backed (count == job.settings.quantum) _ (fault-voted peer.replica.backed peer.mutexes _ (fault-standing-at job kernel thread peer.replica))

-- ---- the replica of a lease

pub record LentParts (job : Job) (core : Core) (lease : Lease) (count : ℕ) (peer : Peer) : Type 0 where
  pub lent : Replica
  pub side : Side
  pub there : slice_get core.replicas lease.replica ≡ Some lent
  pub beside : slice_get core.sides lease.replica ≡ Some side
  pub runs : leased_run (layout_in job.program core.kernel) (asker lease.thread) job.settings.watchdog count (peer_with lent side) lease.thread ≡ Some peer

pub lent-parts : (job : Job) (core : Core) (lease : Lease) (count : ℕ) (peer : Peer) → lease_run job core lease count ≡ Some peer → LentParts job core lease count peer
lent-parts job core lease count peer e =
    option_and_then_some (λ p. leased_run (layout_in job.program core.kernel) (asker lease.thread) job.settings.watchdog count p lease.thread) (peer_in core lease.replica) peer e
    (λ p f runs. option_and_then_some (λ replica. option_map (peer_with replica) (slice_get core.sides lease.replica)) (slice_get core.replicas lease.replica) p f
    (λ lent there g. beside lent p there runs (slice_get core.sides lease.replica) refl g))
  where
    beside : (lent : Replica) (p : Peer) → slice_get core.replicas lease.replica ≡ Some lent
        → leased_run (layout_in job.program core.kernel) (asker lease.thread) job.settings.watchdog count p lease.thread ≡ Some peer
        → (o : Option Side) → slice_get core.sides lease.replica ≡ o → option_map (peer_with lent) o ≡ Some p → LentParts job core lease count peer
    beside lent p there runs None f g = absurd (let k : None ≡ Some p = g in cc)
    beside lent p there runs (Some side) f g = record {
      lent = lent;
      side = side;
      there = there;
      beside = f;
      runs = ap (λ (q : Peer). leased_run (layout_in job.program core.kernel) (asker lease.thread) job.settings.watchdog count q lease.thread) (some-injective g) ∙ runs;
    }

-- a lease's run keeps what each step keeps
pub lease-keeps : (job : Job) (core : Core) (lease : Lease) (count : ℕ) (peer : Peer) (parts : LentParts job core lease count peer) (P : Replica → Type 0)
    → ((before after : Replica) → GoesOn job.settings.watchdog lease.thread before after → P before → P after) → P parts.lent → P peer.replica
lease-keeps job core lease count peer parts P keeps h =
    run-keeps (layout_in job.program core.kernel) (asker lease.thread) job.settings.watchdog lease.thread P keeps count (peer_with parts.lent parts.side) peer parts.runs h
