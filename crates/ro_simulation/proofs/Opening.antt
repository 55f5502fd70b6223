-- The invariant at the opening.
use Rattle.std.specs.Prelude.{◌≡◌, ℕ, zero, suc, ◌≤◌, ◌⊎◌, ◌==◌, List, [], ◌∷◌, length, Some, None, slice_get}
use Rattle.std.proofs.Common.{refl, sym, ap, ◌∙◌, subst, arith, inl, inr, length-append}
use Rattle.std.proofs.lemmas.Bool.{false≢true, eqb-true}
use Rattle.ro_image.specs.Image.{holds_file_byte}
use Rattle.ro_exec.specs.Threads.{first_cpu}
use Rattle.ro_thread.specs.declared.Thread.{Thread}
use Rattle.ro_replica.specs.Replica.{Replica, unstopped, opening_replica}
use Rattle.ro_plain.specs.Machine.{opening, nothing_left}
use Rattle.ro_plain.proofs.Calls.{some-injective}
use Rattle.ro_legal.specs.Core.{Job, Core, opening_replicas, opening_core}
use Rattle.ro_legal.specs.Sound.{IsSound}
use Rattle.ro_vote.specs.Numbers.{AtMostHalf}
use Rattle.ro_simulation.specs.Invariant.{Agrees, TracksIdeal}
use Rattle.ro_legal.proofs.Lists.{get-append-cases, listed-filter}

-- so many replicas are made
length-opening : (job : Job) (n : ℕ) → length (opening_replicas job n) ≡ n
length-opening job zero = refl
length-opening job (suc n) =
    length-append (opening_replicas job n) _ ∙ (let e = length-opening job n in omega arith)

-- each replica of the opening is its own
get-opening : (job : Job) (n number : ℕ) (r : Replica) → slice_get (opening_replicas job n) number ≡ Some r → opening_replica job.program.image job.faults number ≡ r
get-opening job zero number r e = absurd (let f : None ≡ Some r = e in cc)
get-opening job (suc n) number r e = opened-cases job n number r (get-opening job n number r) (get-append-cases (opening_replicas job n) (opening_replica job.program.image job.faults n) number r e)
  where
    opened-cases : (job : Job) (n number : ℕ) (r : Replica) → (slice_get (opening_replicas job n) number ≡ Some r → opening_replica job.program.image job.faults number ≡ r) → (slice_get (opening_replicas job n) number ≡ Some r) ⊎ ((number ≡ length (opening_replicas job n)) × (opening_replica job.program.image job.faults n ≡ r)) → opening_replica job.program.image job.faults number ≡ r
    opened-cases job n number r rec (inl f) = rec f
    opened-cases job n number r rec (inr f) = ap (opening_replica job.program.image job.faults) (f.0 ∙ length-opening job n) ∙ f.1

-- the only thread of the opening
one-thread : (x : Thread) (place : ℕ) (thread : Thread) → slice_get (x ∷ []) place ≡ Some thread → (place ≡ 0) × (x ≡ thread)
one-thread x zero thread e = (refl, some-injective e)
one-thread x (suc place) thread e = absurd (let f : None ≡ Some thread = e in cc)

-- what holds of every replica at the opening
opening-sound : (job : Job) (core : Core) (number : ℕ) → length core.kernel.lives ≡ 1 → IsSound job core (holds_file_byte job.program.image.pieces) number (opening_replica job.program.image job.faults number)
unfolding opening_replica
opening-sound job core number one = record {
  same_backed = refl;
  all_made = sym one;
  within_watch = λ place thread e. subst (λ (x : Thread). x.since ≤ job.settings.watchdog) (one-thread _ place thread e).1 (omega arith);
  own_faults = λ fault e. let l = listed-filter (λ f. f.replica == number) job.faults fault e in (eqb-true fault.replica number l.1, l.0);
}

-- each replica agrees at the opening
opening-agrees : (job : Job) (number : ℕ) → Agrees job (opening job.program) (opening_replica job.program.image job.faults number)
unfolding opening_replica opening
opening-agrees job number = record {
  runs_ahead = record {
    end = opening job.program;
    runs = nothing_left;
    same_memory = refl;
    same_cpus = λ place thread alive e. let o = one-thread (unstopped (first_cpu job.program.image.entry)) place thread e in
        ap (slice_get (first_cpu job.program.image.entry ∷ [])) o.0 ∙ ap (λ (x : Thread). Some x.cpu) o.1;
  };
  stops = λ place. record {
    stands = λ thread stop alive e stopped. let o = one-thread (unstopped (first_cpu job.program.image.entry)) place thread e in
        absurd (let f : None ≡ Some stop = ap (λ (x : Thread). x.stop) o.1 ∙ stopped in cc);
  };
}

-- the invariant, whichever replicas, at most half, may be odd
pub opening-holds : (job : Job) (odds : List ℕ) → AtMostHalf job.settings.replicas odds → TracksIdeal job odds [] (opening_core job)
unfolding opening_core opening
opening-holds job odds few = record {
  few = few;
  machine = opening job.program;
  ideal_is = refl;
  same_kernel = refl;
  same_output = refl;
  same_end = refl;
  steps_are = refl;
  ends_well = λ how (e : None ≡ Some how). absurd cc;
  not_ended = refl;
  as_many = refl;
  replica_count = length-opening job job.settings.replicas;
  no_sides = refl;
  backed = holds_file_byte job.program.image.pieces;
  sound = λ number r e. subst (IsSound job _ (holds_file_byte job.program.image.pieces) number) (get-opening job job.settings.replicas number r e) (opening-sound job _ number refl);
  lent_live = λ lease e. absurd (false≢true e);
  blocked_stands = λ thread call (e : None ≡ Some call) on. absurd cc;
  others_agree = λ on number r d e. subst (Agrees job (opening job.program)) (get-opening job job.settings.replicas number r e) (opening-agrees job number);
}
