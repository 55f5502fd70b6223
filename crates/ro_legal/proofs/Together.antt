-- What each entry of a legal cooperative journal keeps of replicas, kernel and counts.
use Rattle.std.specs.Prelude.{◌≡◌, ◌≢◌, ℕ, ◌+◌, ◌≤◌, ◌<◌, ◌⊎◌, ◌==◌, List, [], length, Option, Some, None, slice_get}
use Rattle.std.specs.List.{filter}
use Rattle.std.specs.Option.{option_map}
use Rattle.std.proofs.Common.{refl, sym, ap, ◌∙◌, subst, arith, inl, inr}
use Rattle.std.proofs.lemmas.Bool.{and_parts}
use Rattle.std.proofs.lemmas.List.{length-set, length-replicate}
use Rattle.ro_event.specs.declared.stops.Stop.{Stop}
use Rattle.ro_event.specs.declared.stops.Stop.TheVariants.{Calls, PageFault}
use Rattle.ro_faults.specs.declared.Fault.{Fault}
use Rattle.ro_journal.specs.declared.Did.{Did}
use Rattle.ro_journal.specs.declared.How.{How}
use Rattle.ro_journal.specs.declared.Lease.{Lease}
use Rattle.ro_journal.specs.declared.losers.Lost.{Lost}
use Rattle.ro_journal.specs.declared.Entry.{Entry}
use Rattle.ro_journal.specs.declared.Entry.TheVariants.{Take, Put, Part, Vote, Free, Scrub, End}
use Rattle.ro_journal.specs.Plan.{event_steps}
use Rattle.ro_kernel.specs.Kernel.{Kernel}
use Rattle.ro_kernel.specs.Serve.{serve}
use Rattle.ro_thread.specs.declared.Thread.{Thread}
use Rattle.ro_replica.specs.Replica.{Replica, opening_replica}
use Rattle.ro_plain.specs.Machine.{setup_of}
use Rattle.ro_plain.proofs.Ahead.{is-none-from}
use Rattle.ro_peer.specs.Peers.{Peer}
use Rattle.ro_peer.specs.Gets.{Get}
use Rattle.ro_legal.specs.Core.{Job, Core}
use Rattle.ro_legal.specs.Core.{opening_core as opening_voted}
use Rattle.ro_legal.specs.Sides.{Parking, opening_side}
use Rattle.ro_legal.specs.Event.{Event, call_event}
use Rattle.ro_legal.specs.Legal.{MayTake}
use Rattle.ro_legal.specs.Sound.{IsFault}
use Rattle.ro_legal.specs.Kept.{IsUnstruck, KeepsReplicas}
use Rattle.ro_legal.specs.Cooperative.{opening_core, lease_gets, arrival, parking_of, stopped, core_after_lease, core_after_put, core_after_part, kernel_for, settled, voted_stop, core_after_event, after, MayPut, MayPart, MayVote, MayFree, IsAllowed, Legal, replay}
use Rattle.ro_legal.proofs.Lists.{get-set-cases, length-changed}
use Rattle.ro_legal.proofs.Happens.{Happens, event-happens, call-happens}
use Rattle.ro_legal.proofs.FaultStops.{opening-faults}
use Rattle.ro_legal.proofs.Ordered.{none-left, vote-parts, free-parts, event-parts, freed-is, length-opening, get-opening, one-thread}
use Rattle.ro_legal.proofs.TogetherJournals.{legal-keeps}
use Rattle.ro_legal.proofs.TogetherRuns.{unstruck-step, unstruck-stopped, unstruck-with, fault-arrives, LentParts, lent-parts, lease-keeps}
use Rattle.ro_legal.proofs.TogetherCounts.{KeepsCounts, counted-fits, steps-bounded, done-least, most-least, counted-lease}
use Rattle.ro_legal.proofs.TogetherEvents.{IsKept, AllUnstruck, kept-event, for-live, kept-settled, event-steps-few}

-- ---- a take

kept-take : (job : Job) (core : Core) (lease : Lease) → MayTake job core lease → IsKept job core → IsKept job (after job core (Take lease))
unfolding after
kept-take job core lease may k = let h = k.kept in record {
  kept = record {
    replica_count = h.replica_count;
    side_count = h.side_count;
    unstruck = λ number r e. unstruck-with job core (after job core (Take lease)) r refl (h.unstruck number r e);
    some_life = h.some_life;
    few_lives = h.few_lives;
    blocked_live = h.blocked_live;
    waits_begun = h.waits_begun;
    due_alone = λ how e. absurd (let none : core.due ≡ None = is-none-from core.due (and_parts _ _ may.going).0 in let f : None ≡ Some how = sym none ∙ e in cc);
    due_over = h.due_over;
    wrote_alone = λ (some : 0 < 0). absurd (omega arith);
    done_within = h.done_within;
    steps_within = h.steps_within;
  };
  counted = record { within = k.counted.within; behind = k.counted.behind; since = k.counted.since; fits = k.counted.fits };
}

-- ---- a lease that comes back

module _ (job : Job) (core : Core) (lease : Lease) (count : ℕ) (peer : Peer) (parts : LentParts job core lease count peer) (k : IsKept job core) (gets : List Get) (stop : Option Stop) (waits : IsFault peer.replica.backed stop) (parking : Option Parking) where
  new : Core
  new = core_after_lease core lease peer gets stop parking

  ran : IsUnstruck job core peer.replica
  ran = lease-keeps job core lease count peer parts (IsUnstruck job core) (unstruck-step job core lease.thread) (k.kept.unstruck lease.replica parts.lent parts.there)

  unstruck-new : AllUnstruck job new new.replicas
  unfolding new
  unstruck-new number r e = by (get-set-cases core.replicas lease.replica number (stopped lease.thread stop peer.replica) r e)
    where
      by : ((number ≢ lease.replica) × (slice_get core.replicas number ≡ Some r)) ⊎ ((number ≡ lease.replica) × (stopped lease.thread stop peer.replica ≡ r)) → IsUnstruck job new r
      by (inl f) = unstruck-with job core new r refl (k.kept.unstruck number r f.1)
      by (inr f) = subst (IsUnstruck job new) f.1 (unstruck-with job core new (stopped lease.thread stop peer.replica) refl (unstruck-stopped job core lease.thread stop peer.replica waits ran))

  counted-new : KeepsCounts job (core_after_lease core lease peer gets stop parking)
  counted-new = counted-lease job core lease count peer parts (let made = ran.all_made in let few = k.kept.few_lives in omega arith) k.counted gets stop parking

  pub kept-lease : IsKept job (core_after_lease core lease peer gets stop parking)
  unfolding new
  kept-lease = let h = k.kept in record {
    kept = record {
      replica_count = length-set core.replicas lease.replica _ ∙ h.replica_count;
      side_count = length-changed _ core.sides lease.replica ∙ h.side_count;
      unstruck = unstruck-new;
      some_life = h.some_life;
      few_lives = h.few_lives;
      blocked_live = h.blocked_live;
      waits_begun = h.waits_begun;
      due_alone = λ how e. none-left _ core.leases (h.due_alone how e);
      due_over = h.due_over;
      wrote_alone = λ (some : 0 < 0). absurd (omega arith);
      done_within = counted-new.within;
      steps_within = steps-bounded job new unstruck-new counted-new;
    };
    counted = counted-new;
  }

kept-put : (job : Job) (core : Core) (lease : Lease) (count hit : ℕ) → MayPut job core lease count hit → IsKept job core → IsKept job (after job core (Put lease count hit))
unfolding after
kept-put job core lease count hit may k =
    let peer : Peer = may.ran.peer in
    subst (λ (o : Option Peer). IsKept job (core_after_put job core lease count o)) (sym may.ran.runs)
    (kept-lease job core lease count peer (lent-parts job core lease count peer may.ran.runs) k (lease_gets job core lease count) (arrival job core.kernel lease.thread count peer) (fault-arrives job core.kernel lease.thread count peer) None)

kept-part : (job : Job) (core : Core) (lease : Lease) (count hit : ℕ) → MayPart job core lease count hit → IsKept job core → IsKept job (after job core (Part lease count hit))
unfolding after
kept-part job core lease count hit may k =
    let peer : Peer = may.ran.peer in
    subst (λ (o : Option Peer). IsKept job (core_after_part job core lease count o)) (sym may.ran.runs)
    (kept-lease job core lease count peer (lent-parts job core lease count peer may.ran.runs) k (lease_gets job core lease count) None (λ page e. absurd (let f : None ≡ Some (PageFault page) = e in cc)) (parking_of job core.kernel lease.thread peer))

-- ---- a vote and a free

kept-vote : (job : Job) (core : Core) (thread count won : ℕ) (lost : Lost) (did : Did) → MayVote job core thread count won lost did → IsKept job core → IsKept job (after job core (Vote thread count won lost did))
unfolding after
kept-vote job core thread count won lost did may k =
    let p = vote-parts core thread may.may in
    let e = event-parts job (settled core thread) thread 0 may.event may.comes in
    subst (λ (o : Option Event). IsKept job (core_after_event job core thread (voted_stop core thread) o)) (sym may.comes)
    (kept-event job (settled core thread) (kept-settled core thread job k) thread (voted_stop core thread) may.event (for-live core thread thread ∙ p.live) p.alone p.not_due p.not_ended
    (subst (Happens (kernel_for core thread) thread) e.is (event-happens (setup_of job.program) (kernel_for core thread) thread e.stop _))
    (subst (λ (d : Did). core.steps + event_steps d ≤ job.settings.limit) (sym may.did_is) may.fits))

kept-free : (job : Job) (core : Core) (thread : ℕ) → MayFree job core thread → IsKept job core → IsKept job (after job core (Free thread))
unfolding after
kept-free job core thread may k =
    let p = free-parts job core thread may.may in
    let kernel : Kernel = kernel_for core thread in
    let event : Event = call_event kernel thread p.call [] (serve (setup_of job.program) kernel thread p.call) in
    let live = k.kept.blocked_live p.not_due p.not_ended thread p.call p.blocked_on in
    subst (λ (o : Option Event). IsKept job (core_after_event job core thread (option_map Calls (core.blocked thread)) o)) (sym (freed-is job (settled core thread) thread p.call p.blocked_on))
    (kept-event job (settled core thread) (kept-settled core thread job k) thread (option_map Calls (core.blocked thread)) event (for-live core thread thread ∙ live) p.alone p.not_due p.not_ended
    (call-happens (setup_of job.program) kernel thread p.call [])
    (let few = event-steps-few event.did in let fits : core.steps + 1 ≤ job.settings.limit = may.fits in omega arith))

-- ---- an end, and the opening

kept-end : (job : Job) (core : Core) (how : How) → IsKept job core → IsKept job (after job core (End how))
unfolding after
kept-end job core how k = let h = k.kept in record {
  kept = record {
    replica_count = h.replica_count;
    side_count = h.side_count;
    unstruck = λ number r e. unstruck-with job core (after job core (End how)) r refl (h.unstruck number r e);
    some_life = h.some_life;
    few_lives = h.few_lives;
    blocked_live = λ e (f : Some how ≡ None) thread call g. absurd cc;
    waits_begun = λ e (f : Some how ≡ None) thread call g w. absurd cc;
    due_alone = λ other e. absurd (let f : None ≡ Some other = e in cc);
    due_over = λ other e. absurd (let f : None ≡ Some other = e in cc);
    wrote_alone = λ (some : 0 < 0). absurd (omega arith);
    done_within = h.done_within;
    steps_within = h.steps_within;
  };
  counted = record { within = k.counted.within; behind = k.counted.behind; since = k.counted.since; fits = k.counted.fits };
}

module _ (job : Job) (unstruck : job.faults ≡ []) where
  opening-unstruck : (core : Core) (number : ℕ) → length core.kernel.lives ≡ 1 → IsUnstruck job core (opening_replica job.program.image job.faults number)
  unfolding opening_replica
  opening-unstruck core number one = record {
    all_made = sym one;
    within_watch = λ place thread e. subst (λ (x : Thread). x.since ≤ job.settings.watchdog) (one-thread _ place thread e).1 (omega arith);
    no_faults = ap (λ (faults : List Fault). filter (λ fault. fault.replica == number) faults) unstruck;
    faults_wait = opening-faults job number;
  }

  opening-done : (number u : ℕ) (thread : Thread) → slice_get (opening_replica job.program.image job.faults number).threads u ≡ Some thread → thread.done ≤ 0
  unfolding opening_replica
  opening-done number u thread e = subst (λ (x : Thread). x.done ≤ 0) (one-thread _ u thread e).1 (omega arith)

  -- each replica of the opening
  opened : (P : Replica → Type 0) → ((number : ℕ) → P (opening_replica job.program.image job.faults number)) → (number : ℕ) (r : Replica) → slice_get (opening_core job).replicas number ≡ Some r → P r
  unfolding opening_core opening_voted
  opened P each number r e = subst P (get-opening job job.settings.replicas number r e) (each number)

  each-opened : AllUnstruck job (opening_core job) (opening_core job).replicas
  unfolding opening_core opening_voted
  each-opened = opened (IsUnstruck job (opening_core job)) (λ number. opening-unstruck (opening_core job) number refl)

  opening-counted : KeepsCounts job (opening_core job)
  unfolding opening_core opening_voted
  opening-counted = counted-fits job (opening_core job)
      (λ u. most-least (opening_core job).replicas u 0 (λ number r e. done-least r u 0 (opened (λ x. (thread : Thread) → slice_get x.threads u ≡ Some thread → thread.done ≤ 0) (λ n. opening-done n u) number r e)))
      (omega arith)

  kept-opening : IsKept job (opening_core job)
  unfolding opening_core opening_voted
  kept-opening = record {
    kept = record {
      replica_count = length-opening job job.settings.replicas;
      side_count = length-replicate job.settings.replicas opening_side;
      unstruck = each-opened;
      some_life = omega arith;
      few_lives = omega arith;
      blocked_live = λ on still thread call e. absurd (let f : None ≡ Some call = e in cc);
      waits_begun = λ on still thread call e w. absurd (let f : None ≡ Some call = e in cc);
      due_alone = λ how e. absurd (let f : None ≡ Some how = e in cc);
      due_over = λ how e. absurd (let f : None ≡ Some how = e in cc);
      wrote_alone = λ (some : 0 < 0). absurd (omega arith);
      done_within = opening-counted.within;
      steps_within = steps-bounded job (opening_core job) each-opened opening-counted;
    };
    counted = opening-counted;
  }

-- ---- all entries

kept-after : (job : Job) (core : Core) (entry : Entry) → IsAllowed job core entry → IsKept job core → IsKept job (after job core entry)
kept-after job core (Take lease) may k = kept-take job core lease may k
kept-after job core (Put lease count hit) may k = kept-put job core lease count hit may k
kept-after job core (Part lease count hit) may k = kept-part job core lease count hit may k
kept-after job core (Vote thread count won lost did) may k = kept-vote job core thread count won lost did may k
kept-after job core (Free thread) may k = kept-free job core thread may k
kept-after job core (Scrub won lost) may k = absurd may
kept-after job core (End how) may k = kept-end job core how k

-- what every legal cooperative journal keeps
pub keeps-replicas : (job : Job) (journal : List Entry) → job.faults ≡ [] → Legal job journal → KeepsReplicas job (replay job journal)
keeps-replicas job journal unstruck legal = (legal-keeps job (IsKept job) (kept-after job) (opening_core job) journal legal (kept-opening job unstruck)).kept
