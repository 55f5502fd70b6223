-- A run of one thread, with its faults: it keeps what holds of every replica.
use Rattle.std.specs.Prelude.{◌≡◌, ◌≢◌, ℕ, zero, suc, ◌+◌, ◌<◌, ◌≤◌, ◌⊎◌, Bool, true, false, not, cond, ◌==◌, List, [], ◌∷◌, length, Option, Some, None, slice_get}
use Rattle.std.specs.List.{filter, fold}
use Rattle.std.specs.Option.{option_map, option_and_then}
use Rattle.std.proofs.Common.{refl, sym, ap, ◌∙◌, subst, arith, inl, inr, ⊎_elim}
use Rattle.std.proofs.lemmas.Bool.{true≢false, eq-eqb}
use Rattle.std.proofs.lemmas.List.{length-set, nil_from_length}
use Rattle.std.proofs.lemmas.Option.{option_and_then_some}
use Rattle.ro_decode.specs.declared.Instr.{Instr}
use Rattle.ro_region.specs.declared.Range.{Range}
use Rattle.ro_exec.specs.Next.{Layout, Backed, Next, Stands, Executes, next, change_of}
use Rattle.ro_thread.specs.declared.Thread.{Thread}
use Rattle.ro_faults.specs.declared.Fault.{Fault}
use Rattle.ro_faults.specs.declared.Target.{Target}
use Rattle.ro_faults.specs.declared.Target.TheVariants.{Register, Pc, Byte}
use Rattle.ro_replica.specs.Replica.{Replica, changed_at}
use Rattle.ro_replica.specs.Runs.{is_due, struck_by, RanTo, strike, strike_in, struck, executed, execute_next, execute_at, execute, plus_hit, run_of}
use Rattle.ro_legal.specs.Core.{Job, Core}
use Rattle.ro_plain.proofs.Calls.{some-injective}
use Rattle.ro_legal.specs.Sound.{Listed, IsSound}
use Rattle.ro_legal.proofs.Lists.{ChangedFrom, unchanged, changed_here, get-changed, length-changed, get-set-cases, listed-filter, get-within}

-- ---- one instruction

-- an instruction that a replica executes
pub record Instructs (layout : Layout) (watchdog : ℕ) (replica : Replica) (t : ℕ) (after : Replica) : Type 0 where
  pub thread : Thread
  pub instr : Instr
  pub there : slice_get replica.threads t ≡ Some thread
  pub unwatched : (thread.since == watchdog) ≡ false
  pub executes : next layout replica.backed replica.memory thread.cpu ≡ Executes instr
  pub is : after ≡ executed t replica thread instr

module _ (layout : Layout) (watchdog : ℕ) (replica : Replica) (t : ℕ) (after : Replica) where
  -- by what the thread does next
  by-next : (thread : Thread) → slice_get replica.threads t ≡ Some thread → (thread.since == watchdog) ≡ false → (n : Next) → next layout replica.backed replica.memory thread.cpu ≡ n → execute_next t replica thread n ≡ Some after → Instructs layout watchdog replica t after
  by-next thread there w (Stands stop) e f = absurd (let g : None ≡ Some after = f in cc)
  by-next thread there w (Executes instr) e f = record { thread = thread; instr = instr; there = there; unwatched = w; executes = e; is = some-injective (sym f) }

  -- by the watchdog
  by-watchdog : (thread : Thread) → slice_get replica.threads t ≡ Some thread → (b : Bool) → (thread.since == watchdog) ≡ b → cond b None (execute_next t replica thread (next layout replica.backed replica.memory thread.cpu)) ≡ Some after → Instructs layout watchdog replica t after
  by-watchdog thread there true w e = absurd (let g : None ≡ Some after = e in cc)
  by-watchdog thread there false w e = by-next thread there w _ refl e

  -- where a replica executes, this is its instruction
  pub instructs : execute layout watchdog replica t ≡ Some after → Instructs layout watchdog replica t after
  unfolding execute
  instructs e = option_and_then_some (execute_at layout watchdog t replica) (slice_get replica.threads t) after e (λ thread there f. by-watchdog thread there (thread.since == watchdog) refl f)

-- the thread after its instruction
abbrev pub instructed : Replica → Thread → Instr → Thread
instructed replica thread instr =
    record { cpu = (change_of replica.memory thread.cpu instr).cpu; since = thread.since + 1; done = thread.done + 1; stop = thread.stop }

-- ---- a run in parts

-- the first instruction of a run, and the others
pub record RunParts (layout : Layout) (watchdog n : ℕ) (replica : Replica) (t : ℕ) (ran : RanTo) : Type 0 where
  pub after : Replica
  pub rest : RanTo
  pub executes : execute layout watchdog (struck layout.ranges replica t).replica t ≡ Some after
  pub runs : run_of layout watchdog n after t ≡ Some rest
  pub sum : plus_hit (struck layout.ranges replica t).hit rest ≡ ran

-- a run of one instruction and more has both
pub run-parts : (layout : Layout) (watchdog n : ℕ) (replica : Replica) (t : ℕ) (ran : RanTo) → run_of layout watchdog (suc n) replica t ≡ Some ran → RunParts layout watchdog n replica t ran
run-parts layout watchdog n replica t ran e = by (option_and_then (λ after. run_of layout watchdog n after t) (execute layout watchdog (struck layout.ranges replica t).replica t)) refl e
  where
    by : (o : Option RanTo) → option_and_then (λ after. run_of layout watchdog n after t) (execute layout watchdog (struck layout.ranges replica t).replica t) ≡ o → option_map (plus_hit (struck layout.ranges replica t).hit) o ≡ Some ran → RunParts layout watchdog n replica t ran
    by None f g = absurd (let h : None ≡ Some ran = g in cc)
    by (Some rest) f g = option_and_then_some (λ after. run_of layout watchdog n after t) (execute layout watchdog (struck layout.ranges replica t).replica t) rest f
        (λ after h k. record { after = after; rest = rest; executes = h; runs = k; sum = some-injective g })

-- ---- what every replica keeps

-- a fault of the list that names this replica
abbrev pub HasFault : Job → ℕ → Type 0
HasFault job number = (fault : Fault) × (fault.replica ≡ number) × Listed job.faults fault

module _ (job : Job) (core : Core) (backed : Backed) (number : ℕ) where
  -- a change of a thread keeps it
  pub sound-changed : (replica : Replica) (f : Thread → Thread) (t : ℕ) → ((x : Thread) → x.since ≤ job.settings.watchdog → (f x).since ≤ job.settings.watchdog) → IsSound job core backed number replica → IsSound job core backed number (record replica { threads = changed_at f replica.threads t })
  sound-changed replica f t keeps h = record {
    same_backed = h.same_backed;
    all_made = length-changed f replica.threads t ∙ h.all_made;
    within_watch = λ place thread e. by place thread (get-changed f replica.threads t place thread e);
    own_faults = h.own_faults;
  }
    where
      by : (place : ℕ) (thread : Thread) → ChangedFrom f replica.threads t place thread → thread.since ≤ job.settings.watchdog
      by place thread (unchanged d e) = h.within_watch place thread e
      by place thread (changed_here x d e g) = subst (λ (y : Thread). y.since ≤ job.settings.watchdog) g (keeps x (h.within_watch place x e))

  -- a strike keeps it
  sound-struck-by : (ranges : List Range) (t : ℕ) (replica : Replica) (target : Target) → IsSound job core backed number replica → IsSound job core backed number (struck_by ranges t replica target)
  sound-struck-by ranges t replica (Register r bit) h = sound-changed replica _ t (λ x k. k) h
  sound-struck-by ranges t replica (Pc bit) h = sound-changed replica _ t (λ x k. k) h
  sound-struck-by ranges t replica (Byte address bit) h = record { same_backed = h.same_backed; all_made = h.all_made; within_watch = h.within_watch; own_faults = h.own_faults }

  -- strikes keep it
  sound-fold : (ranges : List Range) (t : ℕ) (due : List Fault) (replica : Replica) → IsSound job core backed number replica → IsSound job core backed number (fold (λ r fault. struck_by ranges t r fault.target) replica due)
  sound-fold ranges t [] replica h = h
  sound-fold ranges t (fault ∷ due) replica h = sound-fold ranges t due _ (sound-struck-by ranges t replica fault.target h)

  -- the due faults keep it
  sound-strike : (ranges : List Range) (t done : ℕ) (replica : Replica) → IsSound job core backed number replica → IsSound job core backed number (strike ranges t done replica).replica
  sound-strike ranges t done replica h = sound-fold ranges t (filter (is_due t done) replica.waiting) (record replica { waiting = filter (λ fault. not (is_due t done fault)) replica.waiting })
      (record { same_backed = h.same_backed; all_made = h.all_made; within_watch = h.within_watch; own_faults = λ fault e. h.own_faults fault (listed-filter (λ f. not (is_due t done f)) replica.waiting fault e).0 })

  -- a due fault is the replica's own
  has-fault : (t done : ℕ) (replica : Replica) → IsSound job core backed number replica → 0 < length (filter (is_due t done) replica.waiting) → HasFault job number
  has-fault t done replica h some =
      let first = get-within (filter (is_due t done) replica.waiting) 0 some in
      let own = h.own_faults first.0 (listed-filter (is_due t done) replica.waiting first.0 (0, first.1)).0 in
      (first.0, own.0, own.1)

  -- faults that are struck keep it, and each is one of the replica's own
  pub record StruckWell (ran : RanTo) : Type 0 where
    pub sound : IsSound job core backed number ran.replica
    pub own : 0 < ran.hit → HasFault job number

  -- by whether the thread was made
  struck-in : (ranges : List Range) (t : ℕ) (replica : Replica) (o : Option Thread) → IsSound job core backed number replica → StruckWell (strike_in ranges t replica o)
  struck-in ranges t replica None h = record { sound = h; own = λ (k : 0 < 0). absurd (omega arith) }
  struck-in ranges t replica (Some thread) h = record { sound = sound-strike ranges t thread.done replica h; own = λ k. has-fault t thread.done replica h k }

  -- due faults are struck well
  struck-well : (ranges : List Range) (t : ℕ) (replica : Replica) → IsSound job core backed number replica → StruckWell (struck ranges replica t)
  unfolding struck
  struck-well ranges t replica h = struck-in ranges t replica (slice_get replica.threads t) h

  -- an instruction keeps it
  sound-executed : (layout : Layout) (t : ℕ) (replica after : Replica) → Instructs layout job.settings.watchdog replica t after → IsSound job core backed number replica → IsSound job core backed number after
  sound-executed layout t replica after step h = subst (IsSound job core backed number) (sym step.is) (record {
    same_backed = h.same_backed;
    all_made = length-set replica.threads t _ ∙ h.all_made;
    within_watch = λ place thread e. by place thread (get-set-cases replica.threads t place (instructed replica step.thread step.instr) thread e);
    own_faults = h.own_faults;
  })
    where
      more : step.thread.since + 1 ≤ job.settings.watchdog
      more =
          let low = h.within_watch t step.thread step.there in
          let other : step.thread.since ≢ job.settings.watchdog = λ e. true≢false (sym (eq-eqb step.thread.since job.settings.watchdog e) ∙ step.unwatched) in
          omega arith

      by : (place : ℕ) (thread : Thread) → ((place ≢ t) × (slice_get replica.threads place ≡ Some thread)) ⊎ ((place ≡ t) × (instructed replica step.thread step.instr ≡ thread)) → thread.since ≤ job.settings.watchdog
      by place thread (inl e) = h.within_watch place thread e.1
      by place thread (inr e) = subst (λ (x : Thread). x.since ≤ job.settings.watchdog) e.1 more

  -- some fault in all is some in one part
  hit-cases : (m n : ℕ) → 0 < m + n → (0 < m) ⊎ (0 < n)
  hit-cases zero n h = inr (omega arith)
  hit-cases (suc m) n h = inl (omega arith)

  -- a run with its faults
  pub run-well : (layout : Layout) (n t : ℕ) (replica : Replica) (ran : RanTo) → run_of layout job.settings.watchdog n replica t ≡ Some ran → IsSound job core backed number replica → StruckWell ran
  run-well layout zero t replica ran e h = subst StruckWell (some-injective e) (struck-well layout.ranges t replica h)
  run-well layout (suc n) t replica ran e h =
      let parts = run-parts layout job.settings.watchdog n replica t ran e in
      let first = struck-well layout.ranges t replica h in
      let rest = run-well layout n t parts.after parts.rest parts.runs
      (sound-executed layout t (struck layout.ranges replica t).replica parts.after (instructs layout job.settings.watchdog (struck layout.ranges replica t).replica t parts.after parts.executes) first.sound) in
      subst StruckWell parts.sum (record { sound = rest.sound; own = λ k. ⊎_elim first.own rest.own (hit-cases (struck layout.ranges replica t).hit parts.rest.hit k) })

-- ---- where no fault is struck

-- the replica is the same but for the faults that wait
pub record SameButWaiting (replica other : Replica) : Type 0 where
  pub waiting : List Fault
  pub is : other ≡ record replica { waiting = waiting }

-- no strike changes nothing
none-struck-by : (ranges : List Range) (t : ℕ) (replica : Replica) (due : List Fault) → length due ≡ 0 → fold (λ r fault. struck_by ranges t r fault.target) replica due ≡ replica
none-struck-by ranges t replica due e = ap (fold (λ r fault. struck_by ranges t r fault.target) replica) (nil_from_length due e)

-- by whether the thread was made
none-struck-in : (ranges : List Range) (t : ℕ) (replica : Replica) (o : Option Thread) → (strike_in ranges t replica o).hit ≡ 0 → SameButWaiting replica (strike_in ranges t replica o).replica
none-struck-in ranges t replica None e = record { waiting = replica.waiting; is = refl }
none-struck-in ranges t replica (Some thread) e = record {
  waiting = filter (λ fault. not (is_due t thread.done fault)) replica.waiting;
  is = none-struck-by ranges t _ (filter (is_due t thread.done) replica.waiting) e;
}

-- where no fault is due the replica is the same but for those that wait
pub none-struck : (ranges : List Range) (t : ℕ) (replica : Replica) → (struck ranges replica t).hit ≡ 0 → SameButWaiting replica (struck ranges replica t).replica
unfolding struck
none-struck ranges t replica e = none-struck-in ranges t replica (slice_get replica.threads t) e
