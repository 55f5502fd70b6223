-- The run that shows the weaker form of alike to be too weak.
use Rattle.std.specs.Prelude.{◌≡◌, ◌≢◌, ℕ, zero, suc, List, [], ◌∷◌, Some, None, slice_get}
use Rattle.std.proofs.Common.{inl, refl, sym, ap, ◌∙◌, subst, inr}
use Rattle.std.proofs.Math.Dec.{lit<, lit≤}
use Rattle.ro_decode.specs.Table.{instruction_of}
use Rattle.ro_event.specs.Table.{call_at}
use Rattle.ro_event.specs.declared.stops.Stop.{Stop}
use Rattle.ro_region.specs.Permission.{permits_of}
use Rattle.ro_alu.specs.Results.{alu_of}
use Rattle.ro_exec.specs.Meaning.{meaning}
use Rattle.ro_exec.specs.Next.{fetch_stop, instruction_stop, next}
use Rattle.ro_exec.specs.Threads.{first_cpu, made_cpu}
use Rattle.ro_kernel.specs.Serve.{serve, payload_of}
use Rattle.ro_journal.specs.declared.How.TheVariants.{NoMajority}
use Rattle.ro_journal.specs.declared.Entry.{Entry}
use Rattle.ro_vote.specs.Verdict.{verdict_of}
use Rattle.ro_thread.specs.declared.Thread.{Thread}
use Rattle.ro_replica.specs.Replica.{Replica, opening_replica, applied, cancelled, recovered}
use Rattle.ro_replica.specs.Runs.{struck, execute, standing_in}
use Rattle.ro_plain.specs.Machine.{Machine, opening, steppable, step, PlainRun, done, then_plain, layout_in}
use Rattle.ro_plain.proofs.Calls.{some-injective}
use Rattle.ro_legal.specs.Core.{Job, sharing_of, opening_core}
use Rattle.ro_legal.specs.Event.{event_of}
use Rattle.ro_legal.specs.Legal.{Legal, after, replay, for_vote}
use Rattle.ro_plain.specs.Order.{RaceFree}
use Rattle.ro_legal.specs.Ideal.{ideal, ahead, StaysApart}
use Rattle.ro_simulation.specs.Theorem.{StaysAlone}
use Rattle.ro_simulation.specs.Guests.{usual_job}
use Rattle.ro_simulation.specs.Weaker.{IsNearlyAlike, StaysNearlyApart, loading_guest, slipping, until_first, until_second, slipped}
use Rattle.ro_simulation.proofs.Strikes.{EachStrike, strike-at}
use Rattle.ro_simulation.proofs.Simulates.{simulates}
use Rattle.ro_simulation.proofs.Laws.{alone-race-free}
use Rattle.ro_simulation.proofs.RowsStruck.{one-life, no-run}

-- no execution of the guest makes a thread
pub loading-alone : StaysAlone loading_guest
unfolding opening first_cpu steppable step next fetch_stop instruction_stop instruction_of call_at permits_of alu_of meaning serve payload_of
loading-alone [] machine e = one-life machine _ e refl
loading-alone (zero ∷ []) machine e = one-life machine _ e refl
loading-alone (zero ∷ zero ∷ []) machine e = one-life machine _ e refl
loading-alone (zero ∷ zero ∷ zero ∷ []) machine e = one-life machine _ e refl
loading-alone (zero ∷ zero ∷ zero ∷ zero ∷ []) machine e = one-life machine _ e refl
loading-alone (zero ∷ zero ∷ zero ∷ zero ∷ zero ∷ []) machine e = one-life machine _ e refl
loading-alone (zero ∷ zero ∷ zero ∷ zero ∷ zero ∷ zero ∷ []) machine e = one-life machine _ e refl
loading-alone (zero ∷ zero ∷ zero ∷ zero ∷ zero ∷ zero ∷ zero ∷ []) machine e = one-life machine _ e refl
loading-alone (zero ∷ zero ∷ zero ∷ zero ∷ zero ∷ zero ∷ zero ∷ zero ∷ []) machine e = one-life machine _ e refl
loading-alone (zero ∷ zero ∷ zero ∷ zero ∷ zero ∷ zero ∷ zero ∷ zero ∷ x ∷ rest) machine e = no-run machine _ e refl
loading-alone (zero ∷ zero ∷ zero ∷ zero ∷ zero ∷ zero ∷ zero ∷ suc x ∷ rest) machine e = no-run machine _ e refl
loading-alone (zero ∷ zero ∷ zero ∷ zero ∷ zero ∷ zero ∷ suc x ∷ rest) machine e = no-run machine _ e refl
loading-alone (zero ∷ zero ∷ zero ∷ zero ∷ zero ∷ suc x ∷ rest) machine e = no-run machine _ e refl
loading-alone (zero ∷ zero ∷ zero ∷ zero ∷ suc x ∷ rest) machine e = no-run machine _ e refl
loading-alone (zero ∷ zero ∷ zero ∷ suc x ∷ rest) machine e = no-run machine _ e refl
loading-alone (zero ∷ zero ∷ suc x ∷ rest) machine e = no-run machine _ e refl
loading-alone (zero ∷ suc x ∷ rest) machine e = no-run machine _ e refl
loading-alone (suc x ∷ rest) machine e = no-run machine _ e refl

-- the job of the run
abbrev slip : Job
slip = usual_job loading_guest slipping

-- the journal is legal
pub slipped-legal : Legal (usual_job loading_guest slipping) slipped
unfolding opening opening_core sharing_of opening_replica struck execute applied cancelled recovered verdict_of event_of after first_cpu made_cpu steppable step next fetch_stop instruction_stop instruction_of call_at permits_of alu_of meaning serve payload_of
slipped-legal = (record { going = refl; driver_exists = lit< tt; driver_is_idle = refl; lendable = refl }, (record { returns = record { not_ended = refl; out = refl; ran = _; runs = refl; struck = refl }; arrives = inr (lit< tt, refl, refl) }, (record { going = refl; driver_exists = lit< tt; driver_is_idle = refl; lendable = refl }, (record { returns = record { not_ended = refl; out = refl; ran = _; runs = refl; struck = refl }; arrives = inr (lit< tt, refl, refl) }, (record { going = refl; driver_exists = lit< tt; driver_is_idle = refl; lendable = refl }, (record { returns = record { not_ended = refl; out = refl; ran = _; runs = refl; struck = refl }; arrives = inr (lit< tt, refl, refl) }, (record { may = refl; verdict = refl; count_is = refl; event = _; comes = refl; did_is = refl; fits = lit≤ tt }, (record { going = refl; driver_exists = lit< tt; driver_is_idle = refl; lendable = refl }, (record { returns = record { not_ended = refl; out = refl; ran = _; runs = refl; struck = refl }; arrives = inr (lit< tt, refl, refl) }, (record { going = refl; driver_exists = lit< tt; driver_is_idle = refl; lendable = refl }, (record { returns = record { not_ended = refl; out = refl; ran = _; runs = refl; struck = refl }; arrives = inr (lit< tt, refl, refl) }, (record { going = refl; driver_exists = lit< tt; driver_is_idle = refl; lendable = refl }, (record { returns = record { not_ended = refl; out = refl; ran = _; runs = refl; struck = refl }; arrives = inr (lit< tt, refl, refl) }, ((refl, for_vote 0 refl (refl, lit≤ tt)), tt))))))))))))))

-- ---- replicas of one thread

module _ (job : Job) (journal : List Entry) (machine end : Machine) (r : Replica) (thread : Thread) (ideal_is : ideal job journal ≡ Some machine) (on : machine.ended ≡ None) (runs : PlainRun job.program machine (ahead r) end) (same_memory : r.memory ≡ end.memory) (one : r.threads ≡ thread ∷ []) (same_cpu : slice_get end.cpus 0 ≡ Some thread.cpu) (stands : (stop : Stop) → thread.stop ≡ Some stop → standing_in (layout_in job.program machine.kernel) job.settings.watchdog r thread ≡ Some stop) where
  -- the only thread
  the-thread : (number : ℕ) (other : Thread) → slice_get (thread ∷ []) number ≡ Some other → (number ≡ 0) × (thread ≡ other)
  the-thread zero other e = (refl, some-injective e)
  the-thread (suc number) other e = absurd (let f : None ≡ Some other = e in cc)

  -- a replica of one thread that is nearly alike
  nearly-by : IsNearlyAlike job journal r
  nearly-by = record {
    machine = machine;
    ideal_is = ideal_is;
    goes_on = on;
    end = end;
    runs = runs;
    same_memory = same_memory;
    same_cpus = λ number other alive e. let t = the-thread number other (ap (λ (ts : List Thread). slice_get ts number) (sym one) ∙ e) in
        ap (slice_get end.cpus) t.0 ∙ (same_cpu ∙ ap (λ (x : Thread). Some x.cpu) t.1);
    stops_stand = λ number other stop alive e stopped. let t = the-thread number other (ap (λ (ts : List Thread). slice_get ts number) (sym one) ∙ e) in
        ap (standing_in (layout_in job.program machine.kernel) job.settings.watchdog r) (sym t.1) ∙ stands stop (ap (λ (x : Thread). x.stop) t.1 ∙ stopped);
  }

-- ---- the others at the first strike, and at the second

-- the others are nearly alike at the first strike
nearly-first : (number : ℕ) (r : Replica) → number ≢ 0 → slice_get (replay slip until_first).replicas number ≡ Some r → IsNearlyAlike slip until_first r
unfolding opening opening_core sharing_of opening_replica struck execute applied cancelled recovered verdict_of event_of after first_cpu made_cpu steppable step next fetch_stop instruction_stop instruction_of call_at permits_of alu_of meaning serve payload_of
nearly-first zero r d e = absurd (d refl)
nearly-first (suc zero) r d e = subst (IsNearlyAlike slip until_first) (some-injective e) (nearly-by slip until_first _ _ _ _ refl refl done refl refl refl (λ stop (f : None ≡ Some stop). absurd cc))
nearly-first (suc (suc zero)) r d e = subst (IsNearlyAlike slip until_first) (some-injective e) (nearly-by slip until_first _ _ _ _ refl refl done refl refl refl (λ stop (f : None ≡ Some stop). absurd cc))
nearly-first (suc (suc (suc number))) r d e = absurd (let f : None ≡ Some r = e in cc)

-- and at the second
nearly-struck : (r : Replica) → slice_get (replay slip until_second).replicas 0 ≡ Some r → IsNearlyAlike slip until_second r
unfolding opening opening_core sharing_of opening_replica struck execute applied cancelled recovered verdict_of event_of after first_cpu made_cpu steppable step next fetch_stop instruction_stop instruction_of call_at permits_of alu_of meaning serve payload_of
nearly-struck r e = subst (IsNearlyAlike slip until_second) (some-injective e) (nearly-by slip until_second _ _ _ _ refl refl (then_plain (record { cpu = _; instr = _; live = refl; executes = refl }) refl (then_plain (record { cpu = _; instr = _; live = refl; executes = refl }) refl (then_plain (record { cpu = _; instr = _; live = refl; executes = refl }) refl (then_plain (record { cpu = _; instr = _; live = refl; executes = refl }) refl (then_plain (record { cpu = _; instr = _; live = refl; executes = refl }) refl (then_plain (record { cpu = _; instr = _; live = refl; executes = refl }) refl (done))))))) refl refl refl (λ stop f. f))

nearly-third : (r : Replica) → slice_get (replay slip until_second).replicas 2 ≡ Some r → IsNearlyAlike slip until_second r
unfolding opening opening_core sharing_of opening_replica struck execute applied cancelled recovered verdict_of event_of after first_cpu made_cpu steppable step next fetch_stop instruction_stop instruction_of call_at permits_of alu_of meaning serve payload_of
nearly-third r e = subst (IsNearlyAlike slip until_second) (some-injective e) (nearly-by slip until_second _ _ _ _ refl refl done refl refl refl (λ stop (f : None ≡ Some stop). absurd cc))

nearly-second : (number : ℕ) (r : Replica) → number ≢ 1 → slice_get (replay slip until_second).replicas number ≡ Some r → IsNearlyAlike slip until_second r
unfolding opening opening_core sharing_of opening_replica struck execute applied cancelled recovered verdict_of event_of after first_cpu made_cpu steppable step next fetch_stop instruction_stop instruction_of call_at permits_of alu_of meaning serve payload_of
nearly-second zero r d e = nearly-struck r e
nearly-second (suc zero) r d e = absurd (d refl)
nearly-second (suc (suc zero)) r d e = nearly-third r e
nearly-second (suc (suc (suc number))) r d e = absurd (let f : None ≡ Some r = e in cc)

-- these are the strikes
each-strike : EachStrike (λ past replica. (other : ℕ) (r : Replica) → other ≢ replica → slice_get (replay slip past).replicas other ≡ Some r → IsNearlyAlike slip past r) [] slipped
each-strike = (nearly-first, (nearly-second, tt))

-- faults stay nearly apart
pub nearly-apart : StaysNearlyApart (usual_job loading_guest slipping) slipped
nearly-apart before rest lease count hit e some other r d there =
    strike-at (λ past replica. (other : ℕ) (r : Replica) → other ≢ replica → slice_get (replay slip past).replicas other ≡ Some r → IsNearlyAlike slip past r) [] slipped before rest lease count hit each-strike e some other r d there

-- the guest has no races
pub loading-free : RaceFree loading_guest
loading-free = alone-race-free loading_guest loading-alone

-- with alike as it is faults do not stay apart there
pub slipped-not-apart : StaysApart (usual_job loading_guest slipping) slipped → ⊥
slipped-not-apart apart = (simulates (usual_job loading_guest slipping) slipped loading-free (inr (inl refl)) slipped-legal apart).ends_as NoMajority refl
