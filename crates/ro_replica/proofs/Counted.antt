-- What instructions count, and where nothing is due.
use Rattle.std.specs.Prelude.{◌≡◌, ◌⊎◌, ℕ, zero, suc, ◌+◌, ◌<◌, ◌≤◌, Bool, true, false, cond, List, [], ◌∷◌, length, Option, Some, None, IsSome, ◌==◌, slice_get}
use Rattle.std.specs.List.{filter}
use Rattle.std.specs.Option.{option_map, option_and_then}
use Rattle.std.proofs.Common.{refl, sym, ap, ◌∙◌, subst, arith, inl, inr}
use Rattle.std.proofs.lemmas.Bool.{eqb-false}
use Rattle.ro_event.specs.declared.stops.Stop.{Stop}
use Rattle.ro_exec.specs.Next.{Layout, Backed, Next, Stands, Executes, next}
use Rattle.ro_faults.specs.declared.Fault.{Fault}
use Rattle.ro_thread.specs.declared.Thread.{Thread}
use Rattle.ro_thread.specs.Stops.{standing}
use Rattle.ro_thread.specs.Runs.{Running, IsRun, after_instruction, after_next, one_instruction, instructions}
use Rattle.ro_replica.specs.Replica.{Replica}
use Rattle.ro_replica.specs.Runs.{RanTo, is_due}
use Rattle.ro_replica.specs.Rounds.{IsStruck}
use Rattle.ro_replica.proofs.Strikes.{NoneDue, strike_at, struck_is}
use Rattle.ro_replica.proofs.Segments.{one_is_done}

-- instructions are counted
pub instructions_done : (layout : Layout) (watchdog : ℕ) (backed : Backed) (count : ℕ) (running after : Running) → instructions layout watchdog backed count running ≡ Some after → after.thread.done ≡ running.thread.done + count
instructions_done layout watchdog backed zero running after e =
    let same : running ≡ after = cc in
    let z : running.thread.done ≡ running.thread.done + 0 = omega arith in
    ap (λ (r : Running). r.thread.done) (sym same) ∙ z
instructions_done layout watchdog backed (suc n) running after e = by (one_instruction layout watchdog backed running) refl e (instructions_done layout watchdog backed n)
  where
    by : (o : Option Running) → one_instruction layout watchdog backed running ≡ o → option_and_then (instructions layout watchdog backed n) o ≡ Some after
        → ((running after : Running) → instructions layout watchdog backed n running ≡ Some after → after.thread.done ≡ running.thread.done + n) → after.thread.done ≡ running.thread.done + suc n
    by None one h more = absurd (cc)
    by (Some mid) one h more =
        let first : mid.thread.done ≡ running.thread.done + 1 = one_is_done layout watchdog backed running mid one in
        let rest : after.thread.done ≡ mid.thread.done + n = more mid after h in
        omega arith

-- one instruction stays within the watchdog
one_watched : (layout : Layout) (watchdog : ℕ) (backed : Backed) (running after : Running) → running.thread.since ≤ watchdog → one_instruction layout watchdog backed running ≡ Some after → after.thread.since ≤ watchdog
one_watched layout watchdog backed running after watched e = by (running.thread.since == watchdog) refl (next layout backed running.memory running.thread.cpu) e
  where
    by : (b : Bool) → (running.thread.since == watchdog) ≡ b → (n : Next) → cond b None (after_next running n) ≡ Some after → after.thread.since ≤ watchdog
    by true f n h = absurd (cc)
    by false f (Stands stop) h = absurd (cc)
    by false f (Executes instr) h =
        let same : after_instruction running instr ≡ after = cc in
        let since : running.thread.since + 1 ≡ after.thread.since = ap (λ (r : Running). r.thread.since) same in
        let apart : running.thread.since ≡ watchdog → ⊥ = eqb-false running.thread.since watchdog f in
        omega arith

pub instructions_watched : (layout : Layout) (watchdog : ℕ) (backed : Backed) (count : ℕ) (running after : Running) → running.thread.since ≤ watchdog → instructions layout watchdog backed count running ≡ Some after → after.thread.since ≤ watchdog
instructions_watched layout watchdog backed zero running after watched e =
    let same : running ≡ after = cc in subst (λ (r : Running). r.thread.since ≤ watchdog) same watched
instructions_watched layout watchdog backed (suc n) running after watched e = by (one_instruction layout watchdog backed running) refl e (instructions_watched layout watchdog backed n)
  where
    by : (o : Option Running) → one_instruction layout watchdog backed running ≡ o → option_and_then (instructions layout watchdog backed n) o ≡ Some after
        → ((running after : Running) → running.thread.since ≤ watchdog → instructions layout watchdog backed n running ≡ Some after → after.thread.since ≤ watchdog) → after.thread.since ≤ watchdog
    by None one h more = absurd (cc)
    by (Some mid) one h more = more mid after (one_watched layout watchdog backed running mid watched one) h

-- where a strike strikes nothing, no fault is due
pub none_due : (layout : Layout) (replica : Replica) (thread : ℕ) (x : Thread) → slice_get replica.threads thread ≡ Some x → IsStruck layout replica thread → NoneDue thread x.done replica
none_due layout replica thread x there is =
    empty (filter (is_due thread x.done) replica.waiting)
    (ap (λ (ran : RanTo). ran.hit) (sym (struck_is layout.ranges replica thread ∙ ap (strike_at layout.ranges thread replica) (ap (option_map (λ (t : Thread). t.done)) there)) ∙ is))
  where
    empty : (faults : List Fault) → length faults ≡ 0 → faults ≡ []
    empty [] h = refl
    empty (fault ∷ faults) h = absurd (omega arith)

pub run_count : (layout : Layout) (watchdog : ℕ) (backed : Backed) (most count : ℕ) (stop : Option Stop) (old new : Running) → IsRun layout watchdog backed most count stop old new → count ≤ most
run_count layout watchdog backed most count stop old new run = by run.arrives
  where
    by : ((count ≡ most) × (stop ≡ None)) ⊎ ((count < most) × IsSome stop × (stop ≡ standing layout watchdog backed new.memory new.thread.cpu new.thread.since)) → count ≤ most
    by (inl (all, _)) = omega arith
    by (inr (early, _, _)) = omega arith
