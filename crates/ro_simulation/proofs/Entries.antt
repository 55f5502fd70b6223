-- The invariant after a take, and after a lease that came back.
use Rattle.std.specs.Prelude.{◌≡◌, ◌≢◌, ℕ, ◌<◌, ◌⊎◌, Bool, true, false, not, IsTrue, ◌||◌, List, [], ◌∷◌, ◌++◌, length, Option, Some, None, slice_get}
use Rattle.std.proofs.Common.{refl, sym, ap, ap₂, ◌∙◌, subst, inl, inr}
use Rattle.std.proofs.lemmas.Bool.{true≢false, false≢true, and_parts}
use Rattle.std.proofs.lemmas.List.{length-set}
use Rattle.ro_event.specs.declared.stops.Stop.{Stop}
use Rattle.ro_journal.specs.declared.Entry.{Entry}
use Rattle.ro_journal.specs.declared.Entry.TheVariants.{Take, Put}
use Rattle.ro_journal.specs.Plan.{plan_of, entry_plan}
use Rattle.ro_kernel.specs.Kernel.{Kernel, lives_on}
use Rattle.ro_replica.specs.Replica.{Replica}
use Rattle.ro_replica.specs.Runs.{with_stop, run_of}
use Rattle.ro_plain.specs.Machine.{layout_in}
use Rattle.ro_plain.specs.Order.{RaceFree}
use Rattle.ro_journal.specs.declared.Lease.{Lease}
use Rattle.ro_legal.specs.Core.{Job, Core, is_lease, is_out}
use Rattle.ro_legal.specs.Legal.{stopped, arrived, arrival, core_after_lease, core_after_take, after, MayTake, Returns, MayPut}
use Rattle.ro_legal.specs.Sound.{IsSound}
use Rattle.ro_vote.specs.Numbers.{is_among, AtMostHalf}
use Rattle.ro_simulation.specs.Invariant.{Agrees, TracksIdeal}
use Rattle.ro_legal.proofs.Lists.{get-set-cases}
use Rattle.ro_legal.proofs.Leases.{lendable-awake, same-lease, put-is}
use Rattle.ro_legal.proofs.Ordered.{sound-with, PutParts, put-parts}
use Rattle.ro_legal.proofs.Grants.{any-filter}
use Rattle.ro_legal.proofs.Sound.{HasFault, StruckWell, run-well, sound-changed}
use Rattle.ro_simulation.proofs.Put.{AgreesBut, but-ran, agrees-arrived}
use Rattle.ro_simulation.proofs.Kept.{going-from, ideal-same, plan-same}

-- one of two tests passed
pub or-cases : (b c : Bool) → (b || c) ≡ true → (b ≡ true) ⊎ (c ≡ true)
or-cases true c e = inl refl
or-cases false c e = inr e

-- the first test passed
pub or-left : (b c : Bool) → b ≡ true → (b || c) ≡ true
or-left true c e = refl
or-left false c e = absurd (false≢true e)

-- the second test passed
pub or-right : (b c : Bool) → c ≡ true → (b || c) ≡ true
or-right true c e = refl
or-right false c e = e

-- ---- take

module _ (job : Job) (odds : List ℕ) (journal : List Entry) (core : Core) (h : TracksIdeal job odds journal core) (lease : Lease) (may : MayTake job core lease) where
  -- the taken thread lives
  live : IsTrue (lives_on core.kernel lease.thread)
  live = (and_parts _ _ (and_parts _ _ (lendable-awake core lease.replica lease.thread may.lendable)).0).1

  -- the program goes on at a take
  going : h.machine.ended ≡ None
  going = sym h.same_end ∙ (going-from core may.going).not_due

  -- what is lent after a take lives
  lent-after : (other : Lease) → (is_lease other lease ≡ true) ⊎ (is_out core other ≡ true) → (h.machine.ended ≡ None) × IsTrue (lives_on h.machine.kernel other.thread)
  lent-after other (inl e) = (going, ap₂ (λ (k : Kernel) (l : Lease). lives_on k l.thread) (sym h.same_kernel) (sym (same-lease other lease e)) ∙ live)
  lent-after other (inr e) = h.lent_live other e

  -- the invariant after a take
  pub after-take : TracksIdeal job odds (journal ++ Take lease ∷ []) (after job core (Take lease))
  unfolding after
  after-take = record {
    machine = h.machine;
    ideal_is = ideal-same job journal (Take lease) refl ∙ h.ideal_is;
    same_kernel = h.same_kernel;
    same_output = h.same_output;
    same_end = h.same_end;
    steps_are = h.steps_are ∙ ap length (sym (plan-same journal (Take lease) refl));
    ends_well = h.ends_well;
    not_ended = h.not_ended;
    as_many = h.as_many;
    few = h.few;
    replica_count = h.replica_count;
    no_sides = h.no_sides;
    backed = h.backed;
    sound = λ number r e. sound-with job core (core_after_take core lease) h.backed number r refl (h.sound number r e);
    lent_live = λ other e. lent-after other (or-cases (is_lease other lease) (is_out core other) e);
    blocked_stands = h.blocked_stands;
    others_agree = h.others_agree;
  }

-- ---- a lease that came back

module _ (job : Job) (odds : List ℕ) (journal : List Entry) (core : Core) (h : TracksIdeal job odds journal core) (lease : Lease) (count hit : ℕ) (back : Returns job core lease count hit) where
  -- its replica, and its run
  parts : PutParts job core lease count back.ran
  parts = put-parts job core lease count back.ran back.runs

  -- the run keeps what holds of every replica
  well : StruckWell job core h.backed lease.replica back.ran
  well = run-well job core h.backed lease.replica (layout_in job.program core.kernel) count lease.thread parts.lent back.ran parts.runs (h.sound lease.replica parts.lent parts.there)

  -- a fault that strikes is one that names this replica
  own-fault : 0 < hit → HasFault job lease.replica
  own-fault some = well.own (subst (λ (n : ℕ). 0 < n) (sym back.struck) some)

  -- the program goes on while something is lent
  pub back-going : (h.machine.ended ≡ None) × IsTrue (lives_on h.machine.kernel lease.thread)
  back-going = h.lent_live lease back.out

  -- where no fault is struck, a replica that agreed still does, but for the thread's stop
  agrees-but : RaceFree job.program → hit ≡ 0 → is_among odds lease.replica ≡ false → AgreesBut job h.machine back.ran.replica lease.thread
  agrees-but free none even =
      let agrees : Agrees job h.machine parts.lent = h.others_agree back-going.0 lease.replica parts.lent even parts.there in
      but-ran job free (plan_of journal) h.machine h.ideal_is back-going.0 lease.thread back-going.1 count parts.lent back.ran
      (ap (λ (k : Kernel). run_of (layout_in job.program k) job.settings.watchdog count parts.lent lease.thread) (sym h.same_kernel) ∙ parts.runs) (back.struck ∙ none)
      (record { runs_ahead = agrees.runs_ahead; stops = λ number apart. agrees.stops number })

  module _ (stop : Option Stop) (wishes : (replica thread : ℕ) → List ℕ) (misses : (replica thread : ℕ) → ℕ) (entry : Entry) (no_steps : entry_plan entry ≡ []) where
    -- the core behind it
    abbrev behind : Core
    behind = core_after_lease core lease stop wishes misses back.ran.replica

    -- a replica of that: another one, or that of the lease
    abbrev IsBehind : (number : ℕ) → Replica → Type 0
    IsBehind number r = ((number ≢ lease.replica) × (slice_get core.replicas number ≡ Some r)) ⊎ ((number ≡ lease.replica) × (stopped lease.thread stop back.ran.replica ≡ r))

    is-behind : (number : ℕ) (r : Replica) → slice_get behind.replicas number ≡ Some r → IsBehind number r
    is-behind number r e = get-set-cases core.replicas lease.replica number (stopped lease.thread stop back.ran.replica) r e

    -- what holds of every replica
    sound-at : (number : ℕ) (r : Replica) → IsBehind number r → IsSound job core h.backed number r
    sound-at number r (inl e) = h.sound number r e.1
    sound-at number r (inr e) =
        subst (λ (n : ℕ). IsSound job core h.backed n r) (sym e.0)
        (subst (IsSound job core h.backed lease.replica) e.1 (sound-changed job core h.backed lease.replica back.ran.replica (with_stop stop) lease.thread (λ x k. k) well.sound))

    -- the invariant, where the replicas but some agree behind it
    back-with : (odds' : List ℕ) → AtMostHalf job.settings.replicas odds' → ((number : ℕ) (r : Replica) → is_among odds' number ≡ false → IsBehind number r → Agrees job h.machine r) → TracksIdeal job odds' (journal ++ entry ∷ []) behind
    back-with odds' few' agree = record {
      machine = h.machine;
      ideal_is = ideal-same job journal entry no_steps ∙ h.ideal_is;
      same_kernel = h.same_kernel;
      same_output = h.same_output;
      same_end = h.same_end;
      steps_are = h.steps_are ∙ ap length (sym (plan-same journal entry no_steps));
      ends_well = h.ends_well;
      not_ended = h.not_ended;
      as_many = h.as_many;
      few = few';
      replica_count = length-set core.replicas lease.replica _ ∙ h.replica_count;
      no_sides = h.no_sides;
      backed = h.backed;
      sound = λ number r e. sound-with job core behind h.backed number r refl (sound-at number r (is-behind number r e));
      lent_live = λ other e. h.lent_live other (any-filter (is_lease other) (λ l. not (is_lease lease l)) core.leases e);
      blocked_stands = h.blocked_stands;
      others_agree = λ on number r d e. agree number r d (is-behind number r e);
    }

    -- no fault was struck, and its replica agrees with this stop if it does but for that
    pub after-calm : RaceFree job.program → hit ≡ 0 → (AgreesBut job h.machine back.ran.replica lease.thread → Agrees job h.machine (stopped lease.thread stop back.ran.replica)) → TracksIdeal job odds (journal ++ entry ∷ []) (core_after_lease core lease stop wishes misses back.ran.replica)
    after-calm free none stands = back-with odds h.few by
      where
        by : (number : ℕ) (r : Replica) → is_among odds number ≡ false → IsBehind number r → Agrees job h.machine r
        by number r d (inl e) = h.others_agree back-going.0 number r d e.1
        by number r d (inr e) = subst (Agrees job h.machine) e.1 (stands (agrees-but free none (ap (is_among odds) (sym e.0) ∙ d)))

    -- faults were struck while all replicas but a few, of which the struck one is, agreed
    after-struck : (odds' : List ℕ) → AtMostHalf job.settings.replicas odds' → is_among odds' lease.replica ≡ true → ((number : ℕ) (r : Replica) → is_among odds' number ≡ false → slice_get core.replicas number ≡ Some r → Agrees job h.machine r) → TracksIdeal job odds' (journal ++ entry ∷ []) (core_after_lease core lease stop wishes misses back.ran.replica)
    after-struck odds' few' struck others = back-with odds' few' by
      where
        by : (number : ℕ) (r : Replica) → is_among odds' number ≡ false → IsBehind number r → Agrees job h.machine r
        by number r d (inl e) = others number r d e.1
        by number r d (inr e) = absurd (true≢false (sym struck ∙ (ap (is_among odds') (sym e.0) ∙ d)))

-- ---- put

module _ (job : Job) (odds : List ℕ) (journal : List Entry) (core : Core) (h : TracksIdeal job odds journal core) (lease : Lease) (count hit : ℕ) (may : MayPut job core lease count hit) where
  -- a fault that strikes is one that names this replica
  pub put-fault : 0 < hit → HasFault job lease.replica
  put-fault some = own-fault job odds journal core h lease count hit may.returns some

  -- the program goes on while something is lent
  pub put-going : (h.machine.ended ≡ None) × IsTrue (lives_on h.machine.kernel lease.thread)
  put-going = back-going job odds journal core h lease count hit may.returns

  -- no fault was struck
  pub after-calm-put : RaceFree job.program → hit ≡ 0 → TracksIdeal job odds (journal ++ Put lease count hit ∷ []) (after job core (Put lease count hit))
  after-calm-put free none =
      subst (TracksIdeal job odds (journal ++ Put lease count hit ∷ [])) (sym (put-is job core lease count hit may))
      (after-calm job odds journal core h lease count hit may.returns (arrival job core.kernel lease.thread count may.returns.ran.replica) _ _ (Put lease count hit) refl free none (λ but.
      subst (λ (k : Kernel). Agrees job h.machine (arrived job k lease.thread count may.returns.ran.replica)) (sym h.same_kernel)
      (agrees-arrived job free (plan_of journal) h.machine h.ideal_is put-going.0 lease.thread put-going.1 count may.returns.ran.replica but)))

  -- faults were struck while all replicas but a few, of which the struck one is, agreed
  pub after-struck-put : (odds' : List ℕ) → AtMostHalf job.settings.replicas odds' → is_among odds' lease.replica ≡ true → ((number : ℕ) (r : Replica) → is_among odds' number ≡ false → slice_get core.replicas number ≡ Some r → Agrees job h.machine r) → TracksIdeal job odds' (journal ++ Put lease count hit ∷ []) (after job core (Put lease count hit))
  after-struck-put odds' few' struck others =
      subst (TracksIdeal job odds' (journal ++ Put lease count hit ∷ [])) (sym (put-is job core lease count hit may))
      (after-struck job odds journal core h lease count hit may.returns (arrival job core.kernel lease.thread count may.returns.ran.replica) _ _ (Put lease count hit) refl odds' few' struck others)
