-- Whatever becomes of a replica, its shape is all that the invariant asks of it.
use Rattle.std.specs.Prelude.{◌≡◌, ◌≢◌, ℕ, ◌⊎◌, Bool, true, false, not, cond, List, [], ◌∷◌, ◌++◌, length, Some, None, slice_get, slice_set}
use Rattle.std.proofs.Common.{refl, sym, ap, ◌∙◌, subst, inl, inr}
use Rattle.std.proofs.lemmas.Bool.{true≢false}
use Rattle.std.proofs.lemmas.List.{length-set}
use Rattle.ro_journal.specs.declared.Lease.{Lease}
use Rattle.ro_journal.specs.declared.Entry.{Entry}
use Rattle.ro_journal.specs.declared.Entry.TheVariants.{Put, Part}
use Rattle.ro_journal.specs.Plan.{entry_plan}
use Rattle.ro_replica.specs.Replica.{Replica}
use Rattle.ro_replica.specs.Runs.{with_stop}
use Rattle.ro_vote.specs.Numbers.{is_among, AtMostHalf}
use Rattle.ro_legal.specs.Core.{Job, Core, is_lease}
use Rattle.ro_legal.specs.Legal.{stopped}
use Rattle.ro_legal.specs.Sound.{IsSound}
use Rattle.ro_legal.proofs.Upsets.{sound-shaped}
use Rattle.ro_legal.proofs.Lists.{get-set-cases}
use Rattle.ro_legal.proofs.Ordered.{sound-with}
use Rattle.ro_legal.proofs.Sound.{sound-changed}
use Rattle.ro_legal.proofs.Grants.{any-filter}
use Rattle.ro_simulation.specs.Invariant.{Agrees, TracksIdeal}
use Rattle.ro_legal.specs.Upsets.{Return, MayUpset, return_entry, upset, given}
use Rattle.ro_simulation.proofs.Kept.{ideal-same, plan-same}

module _ (job : Job) (odds : List ℕ) (journal : List Entry) (core : Core) (h : TracksIdeal job odds journal core) (number : ℕ) (now : Replica) (may : MayUpset job core number now)
    (odds' : List ℕ) (few' : AtMostHalf job.settings.replicas odds') (odd : h.machine.ended ≡ None → is_among odds' number ≡ true)
    (others : h.machine.ended ≡ None → (n : ℕ) (r : Replica) → is_among odds' n ≡ false → slice_get core.replicas n ≡ Some r → Agrees job h.machine r) where
  shaped : IsSound job core h.backed number now
  shaped = sound-shaped job core h.backed number may.old now may.shape (h.sound number may.old may.there)

  -- a replica of the core with this one in its place
  abbrev IsNow : (now : Replica) (n : ℕ) → Replica → Type 0
  IsNow now n r = ((n ≢ number) × (slice_get core.replicas n ≡ Some r)) ⊎ ((n ≡ number) × (now ≡ r))

  sound-now : (other : Core) → core.kernel ≡ other.kernel → (put : Replica) → IsSound job core h.backed number put → (n : ℕ) (r : Replica) → IsNow put n r → IsSound job other h.backed n r
  sound-now other same put s n r (inl e) = sound-with job core other h.backed n r same (h.sound n r e.1)
  sound-now other same put s n r (inr e) =
      sound-with job core other h.backed n r same (subst (λ (m : ℕ). IsSound job core h.backed m r) (sym e.0) (subst (IsSound job core h.backed number) e.1 s))

  agrees-now : (put : Replica) → h.machine.ended ≡ None → (n : ℕ) (r : Replica) → is_among odds' n ≡ false → IsNow put n r → Agrees job h.machine r
  agrees-now put on n r d (inl e) = others on n r d e.1
  agrees-now put on n r d (inr e) = absurd (true≢false (sym (odd on) ∙ (ap (is_among odds') (sym e.0) ∙ d)))

  -- the invariant behind an upset
  pub after-upset : TracksIdeal job odds' journal (upset core number now)
  after-upset = record {
    machine = h.machine;
    ideal_is = h.ideal_is;
    same_kernel = h.same_kernel;
    same_output = h.same_output;
    same_end = h.same_end;
    steps_are = h.steps_are;
    ends_well = h.ends_well;
    not_ended = h.not_ended;
    as_many = h.as_many;
    few = few';
    replica_count = length-set core.replicas number now ∙ h.replica_count;
    no_sides = h.no_sides;
    backed = h.backed;
    sound = λ n r e. sound-now (upset core number now) refl now shaped n r (get-set-cases core.replicas number n now r e);
    lent_live = h.lent_live;
    blocked_stands = h.blocked_stands;
    others_agree = λ on n r d e. agrees-now now on n r d (get-set-cases core.replicas number n now r e);
  }

  -- the invariant behind a lease of that replica, whatever it gave
  pub after-given : (lease : Lease) → lease.replica ≡ number → (back : Return) → entry_plan (return_entry lease back) ≡ [] → TracksIdeal job odds' (journal ++ return_entry lease back ∷ []) (given core lease back now)
  after-given lease own back no_steps = record {
    machine = h.machine;
    ideal_is = ideal-same job journal (return_entry lease back) no_steps ∙ h.ideal_is;
    same_kernel = h.same_kernel;
    same_output = h.same_output;
    same_end = h.same_end;
    steps_are = h.steps_are ∙ ap length (sym (plan-same journal (return_entry lease back) no_steps));
    ends_well = h.ends_well;
    not_ended = h.not_ended;
    as_many = h.as_many;
    few = few';
    replica_count = length-set core.replicas lease.replica _ ∙ h.replica_count;
    no_sides = h.no_sides;
    backed = h.backed;
    sound = λ n r e. sound-now (given core lease back now) refl behind still n r (cases n r e);
    lent_live = λ other e. h.lent_live other (any-filter (is_lease other) (λ l. not (is_lease lease l)) core.leases e);
    blocked_stands = h.blocked_stands;
    others_agree = λ on n r d e. agrees-now behind on n r d (cases n r e);
  }
    where
      behind : Replica
      behind = stopped lease.thread back.stop now

      still : IsSound job core h.backed number behind
      still = sound-changed job core h.backed number now (with_stop back.stop) lease.thread (λ x k. k) shaped

      cases : (n : ℕ) (r : Replica) → slice_get (slice_set core.replicas lease.replica behind) n ≡ Some r → IsNow behind n r
      cases n r e = get-set-cases core.replicas number n behind r (ap (λ (m : ℕ). slice_get (slice_set core.replicas m behind) n) (sym own) ∙ e)

-- a lease that comes back adds nothing to the plan
pub gives-no-steps : (lease : Lease) (back : Return) → entry_plan (return_entry lease back) ≡ []
gives-no-steps lease back = by back.parts
  where
    by : (b : Bool) → entry_plan (cond b (Part lease back.count back.hit) (Put lease back.count back.hit)) ≡ []
    by true = refl
    by false = refl
