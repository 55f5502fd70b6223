-- What every legal journal keeps, whatever becomes of a replica.
use Rattle.std.specs.Prelude.{◌≡◌, ◌≢◌, ℕ, ◌+◌, ◌<◌, ◌≤◌, ◌⊎◌, List, [], ◌∷◌, Some, slice_get}
use Rattle.std.proofs.Common.{refl, sym, ◌∙◌, subst, inl, inr, arith}
use Rattle.std.proofs.lemmas.List.{length-set}
use Rattle.ro_journal.specs.declared.Lease.{Lease}
use Rattle.ro_exec.specs.Next.{Backed}
use Rattle.ro_replica.specs.Replica.{Replica}
use Rattle.ro_replica.specs.Runs.{with_stop}
use Rattle.ro_legal.specs.Core.{Job, Core, opening_core}
use Rattle.ro_legal.specs.Legal.{stopped}
use Rattle.ro_legal.specs.Sound.{IsSound, IsOrdered}
use Rattle.ro_legal.specs.Upsets.{HasShape, Return, Moment, Comes, Upsets, Gives, MayUpset, upset, given, behind, behind_all, core_of, IsPossible, PossibleFrom, Possible, AreNextFrom}
use Rattle.ro_legal.proofs.InTime.{InTime, in-time-after}
use Rattle.ro_legal.proofs.Lists.{get-set-cases}
use Rattle.ro_legal.proofs.Ordered.{sound-with, none-left, ordered-after, ordered-opening}
use Rattle.ro_legal.proofs.Sound.{sound-changed}

-- what has the shape of a sound replica is sound
pub sound-shaped : (job : Job) (core : Core) (backed : Backed) (number : ℕ) (old now : Replica) → HasShape job.settings.watchdog old now → IsSound job core backed number old → IsSound job core backed number now
sound-shaped job core backed number old now shape h = record {
  same_backed = shape.backed ∙ h.same_backed;
  all_made = shape.made ∙ h.all_made;
  within_watch = shape.watched;
  own_faults = λ fault e. h.own_faults fault (shape.waiting fault e);
}

module _ (job : Job) (core : Core) (h : IsOrdered job core) (number : ℕ) (now : Replica) (may : MayUpset job core number now) where
  shaped : IsSound job core h.backed number now
  shaped = sound-shaped job core h.backed number may.old now may.shape (h.sound number may.old may.there)

  -- the replicas with this one in the place of another
  sound-now : (other : Core) → core.kernel ≡ other.kernel → (put : Replica) → IsSound job core h.backed number put → (n : ℕ) (r : Replica)
      → ((n ≢ number) × (slice_get core.replicas n ≡ Some r)) ⊎ ((n ≡ number) × (put ≡ r)) → IsSound job other h.backed n r
  sound-now other same put s n r (inl e) = sound-with job core other h.backed n r same (h.sound n r e.1)
  sound-now other same put s n r (inr e) =
      sound-with job core other h.backed n r same (subst (λ (m : ℕ). IsSound job core h.backed m r) (sym e.0) (subst (IsSound job core h.backed number) e.1 s))

  ordered-upset : IsOrdered job (upset core number now)
  ordered-upset = record {
    replica_count = length-set core.replicas number now ∙ h.replica_count;
    no_sides = h.no_sides;
    backed = h.backed;
    sound = λ n r e. sound-now (upset core number now) refl now shaped n r (get-set-cases core.replicas number n now r e);
    some_life = h.some_life;
    few_lives = h.few_lives;
    within_limit = h.within_limit;
    blocked_live = h.blocked_live;
    waits_begun = h.waits_begun;
    due_alone = h.due_alone;
    due_over = h.due_over;
    wrote_alone = h.wrote_alone;
  }

module _ (job : Job) (core : Core) (h : IsOrdered job core) (lease : Lease) (back : Return) (now : Replica) (may : MayUpset job core lease.replica now) where
  abbrev came : Replica
  came = stopped lease.thread back.stop now

  came-sound : IsSound job core h.backed lease.replica came
  came-sound = sound-changed job core h.backed lease.replica now (with_stop back.stop) lease.thread (λ x k. k) (shaped job core h lease.replica now may)

  ordered-given : IsOrdered job (given core lease back now)
  ordered-given = record {
    replica_count = length-set core.replicas lease.replica _ ∙ h.replica_count;
    no_sides = h.no_sides;
    backed = h.backed;
    sound = λ n r e. sound-now job core h lease.replica now may (given core lease back now) refl came came-sound n r (get-set-cases core.replicas lease.replica n came r e);
    some_life = h.some_life;
    few_lives = h.few_lives;
    within_limit = h.within_limit;
    blocked_live = h.blocked_live;
    waits_begun = h.waits_begun;
    due_alone = λ how e. none-left _ core.leases (h.due_alone how e);
    due_over = h.due_over;
    wrote_alone = λ (some : 0 < 0). absurd (omega arith);
  }

-- each moment keeps it
ordered-behind : (job : Job) (core : Core) (moment : Moment) → IsPossible job core moment → IsOrdered job core → IsOrdered job (behind job core moment)
ordered-behind job core (Comes entry) may h = ordered-after job core entry may h
ordered-behind job core (Upsets number now) may h = ordered-upset job core h number now may
ordered-behind job core (Gives lease back now) may h = ordered-given job core h lease back now may.upsets

ordered-from : (job : Job) (core : Core) (moments : List Moment) → PossibleFrom job core moments → IsOrdered job core → IsOrdered job (behind_all job core moments)
ordered-from job core [] possible h = h
ordered-from job core (moment ∷ moments) possible h = ordered-from job (behind job core moment) moments possible.1 (ordered-behind job core moment possible.0 h)

-- what every legal journal keeps, moments keep
pub ordered-moments : (job : Job) (moments : List Moment) → Possible job moments → IsOrdered job (core_of job moments)
ordered-moments job moments possible = ordered-from job (opening_core job) moments possible (ordered-opening job)

module _ (job : Job) (some : 0 < job.settings.scrub) where
  given-time : (core : Core) (lease : Lease) (back : Return) (now : Replica) → InTime job core → InTime job (given core lease back now)
  unfolding InTime
  given-time core lease back now h = h

  upset-time : (core : Core) (number : ℕ) (now : Replica) → InTime job core → InTime job (upset core number now)
  unfolding InTime
  upset-time core number now h = h

  in-time-from : (core : Core) (moments : List Moment) → IsOrdered job core → PossibleFrom job core moments → AreNextFrom job core moments → InTime job core → InTime job (behind_all job core moments)
  in-time-from core [] o possible next h = h
  in-time-from core (Comes entry ∷ moments) o possible next h =
      in-time-from (behind job core (Comes entry)) moments (ordered-behind job core (Comes entry) possible.0 o) possible.1 next.1 (in-time-after job some core entry o possible.0 next.0 h)
  in-time-from core (Upsets number now ∷ moments) o possible next h =
      in-time-from (upset core number now) moments (ordered-behind job core (Upsets number now) possible.0 o) possible.1 next (upset-time core number now h)
  in-time-from core (Gives lease back now ∷ moments) o possible next h =
      in-time-from (given core lease back now) moments (ordered-behind job core (Gives lease back now) possible.0 o) possible.1 next (given-time core lease back now h)

  -- scrubs come in time
  pub in-time-moments : (moments : List Moment) → Possible job moments → AreNextFrom job (opening_core job) moments → (core_of job moments).steps ≤ (core_of job moments).scrubbed + job.settings.scrub + job.settings.watchdog
  unfolding opening_core InTime
  in-time-moments moments possible next = in-time-from (opening_core job) moments (ordered-opening job) possible next (omega arith)
