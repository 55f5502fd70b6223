-- A lease comes back by one entry: behind a run at whose end its thread stands, by what it sees, no longer run is there.
use Rattle.std.proofs.Common.{◌≡◌, ◌⊎◌, inl, inr, ℕ, zero, suc, ◌+◌, ◌-◌, ◌<◌, Bool, true, false, true≢false, cond, Option, Some, None, refl, sym, ap, ◌∙◌, subst, arith}
use Rattle.std.specs.Prelude.{◌==◌, IsSome, is_some, slice_get, if◌then◌else◌}
use Rattle.std.specs.Option.{option_map, option_and_then}
use Rattle.std.proofs.lemmas.Bool.{cases_order, ne_eqb}
use Rattle.std.proofs.lemmas.Option.{option_and_then_some}
use Rattle.ro_event.specs.declared.stops.Stop.{Stop}
use Rattle.ro_event.specs.declared.stops.Stop.TheVariants.{Watchdog}
use Rattle.ro_journal.specs.declared.Entry.{Entry}
use Rattle.ro_journal.specs.declared.Entry.TheVariants.{Put, Part}
use Rattle.ro_journal.specs.declared.Lease.{Lease}
use Rattle.ro_pages.specs.Bytes.{Memory}
use Rattle.ro_exec.specs.declared.Cpu.{Cpu}
use Rattle.ro_exec.specs.Next.{Layout, Backed, Next, Stands, Executes, next, stop_in}
use Rattle.ro_exec.specs.Parts.{IsMore}
use Rattle.ro_exec.proofs.MorePages.{executes-more}
use Rattle.ro_thread.specs.declared.Thread.{Thread}
use Rattle.ro_thread.specs.Stops.{standing}
use Rattle.ro_thread.specs.Runs.{Running, after_next, one_instruction, instructions}
use Rattle.ro_thread.specs.Parts.{missed}
use Rattle.ro_thread.proofs.Parts.{running}
use Rattle.ro_plain.specs.Machine.{layout_in}
use Rattle.ro_plain.proofs.Calls.{some-injective}
use Rattle.ro_replica.specs.Replica.{Replica}
use Rattle.ro_replica.specs.Runs.{RanTo, struck, standing_in, standing_at, execute_next, execute_at, execute, plus_hit, run_of}
use Rattle.ro_replica.proofs.Elements.{get_set}
use Rattle.ro_legal.specs.Parts.{Lent, Whole, Pages, seen_pages, run_with}
use Rattle.ro_legal.specs.Core.{Job, Core}
use Rattle.ro_legal.specs.Legal.{Returns, MayPut, MayPart, HasArrived, IsAllowed, arrival, wanted_by}
use Rattle.ro_legal.proofs.PageRuns.{seen-backed, calm-run}
use Rattle.ro_cores.specs.Loans.{Returns as Brings}

module _ (layout : Layout) (watchdog thread : ℕ) where
  -- where a stop stands no instruction is executed
  stands-none : (replica : Replica) → IsSome (standing_at layout watchdog replica thread) → execute layout watchdog replica thread ≡ None
  unfolding execute
  stands-none replica stands = by (slice_get replica.threads thread) stands
    where
      at : (its : Thread) (b : Bool) (n : Next) → IsSome (cond b (Some Watchdog) (stop_in n)) → cond b None (execute_next thread replica its n) ≡ None
      at its true n s = refl
      at its false (Stands stop) s = refl
      at its false (Executes instr) s = absurd (true≢false (sym s))

      by : (o : Option Thread) → IsSome (option_and_then (standing_in layout watchdog replica) o) → option_and_then (execute_at layout watchdog thread replica) o ≡ None
      by None s = absurd (true≢false (sym s))
      by (Some its) s = at its (its.since == watchdog) (next layout replica.backed replica.memory its.cpu) s

  -- a run of one instruction and more, by its first one
  record Steps (n : ℕ) (replica : Replica) (ran : RanTo) : Type 0 where
    pub after : Replica
    pub executes : execute layout watchdog (struck layout.ranges replica thread).replica thread ≡ Some after
    pub rest : RanTo
    pub runs : run_of layout watchdog n after thread ≡ Some rest
    pub same : rest.replica ≡ ran.replica

  steps : (n : ℕ) (replica : Replica) (ran : RanTo) → run_of layout watchdog (suc n) replica thread ≡ Some ran → Steps n replica ran
  steps n replica ran e = by (execute layout watchdog (struck layout.ranges replica thread).replica thread) refl e
    where
      hit : ℕ
      hit = (struck layout.ranges replica thread).hit

      ends : (after : Replica) → execute layout watchdog (struck layout.ranges replica thread).replica thread ≡ Some after → (o : Option RanTo) → run_of layout watchdog n after thread ≡ o → option_map (plus_hit hit) o ≡ Some ran → Steps n replica ran
      ends after f None g h = absurd (let k : None ≡ Some ran = h in cc)
      ends after f (Some rest) g h = record { after = after; executes = f; rest = rest; runs = g; same = ap (λ (r : RanTo). r.replica) (some-injective h) }

      by : (o : Option Replica) → execute layout watchdog (struck layout.ranges replica thread).replica thread ≡ o → option_map (plus_hit hit) (option_and_then (λ after. run_of layout watchdog n after thread) o) ≡ Some ran → Steps n replica ran
      by None f g = absurd (let k : None ≡ Some ran = g in cc)
      by (Some after) f g = ends after f (run_of layout watchdog n after thread) refl g

  -- behind a run at whose end a stop stands there is no longer one
  no-longer : (n k : ℕ) (replica : Replica) (ran other : RanTo) → run_of layout watchdog n replica thread ≡ Some ran → IsSome (standing_at layout watchdog ran.replica thread) → run_of layout watchdog (n + suc k) replica thread ≡ Some other → ⊥
  no-longer zero k replica ran other e stands f =
      let m : 0 + suc k ≡ suc k = omega arith in
      let s = steps k replica other (sym (ap (λ (j : ℕ). run_of layout watchdog j replica thread) m) ∙ f) in
      let same : struck layout.ranges replica thread ≡ ran = some-injective e in
      let none = stands-none (struck layout.ranges replica thread).replica (subst (λ (r : RanTo). IsSome (standing_at layout watchdog r.replica thread)) (sym same) stands) in
      let g : None ≡ Some s.after = sym none ∙ s.executes in
      cc
  no-longer (suc n) k replica ran other e stands f =
      let m : suc n + suc k ≡ suc (n + suc k) = omega arith in
      let s = steps n replica ran e in
      let t = steps (n + suc k) replica other (sym (ap (λ (j : ℕ). run_of layout watchdog j replica thread) m) ∙ f) in
      let same : t.after ≡ s.after = some-injective (sym t.executes ∙ s.executes) in
      no-longer n k s.after s.rest t.rest s.runs (subst (λ (r : Replica). IsSome (standing_at layout watchdog r thread)) (sym s.same) stands) (ap (λ (r : Replica). run_of layout watchdog (n + suc k) r thread) (sym same) ∙ t.runs)

-- ---- a thread that sees some pages

module _ (layout : Layout) (watchdog : ℕ) (seen : Backed) where
  -- where it stands it does no instruction
  stands-still : (now : Running) → IsSome (standing layout watchdog seen now.memory now.thread.cpu now.thread.since) → one_instruction layout watchdog seen now ≡ None
  stands-still now s = by (now.thread.since == watchdog) (next layout seen now.memory now.thread.cpu) s
    where
      by : (b : Bool) (n : Next) → IsSome (cond b (Some Watchdog) (stop_in n)) → cond b None (after_next now n) ≡ None
      by true n s = refl
      by false (Stands stop) s = refl
      by false (Executes instr) s = absurd (true≢false (sym s))

  -- behind instructions at whose end it stands there are no more
  no-more : (n k : ℕ) (now end other : Running) → instructions layout watchdog seen n now ≡ Some end → IsSome (standing layout watchdog seen end.memory end.thread.cpu end.thread.since) → instructions layout watchdog seen (n + suc k) now ≡ Some other → ⊥
  no-more zero k now end other e stands f =
      let m : 0 + suc k ≡ suc k = omega arith in
      let same : now ≡ end = some-injective e in
      let none = stands-still now (subst (λ (r : Running). IsSome (standing layout watchdog seen r.memory r.thread.cpu r.thread.since)) (sym same) stands) in
      let g : None ≡ Some other = sym (ap (option_and_then (instructions layout watchdog seen k)) none) ∙ sym (ap (λ (j : ℕ). instructions layout watchdog seen j now) m) ∙ f in
      cc
  no-more (suc n) k now end other e stands f =
      let m : suc n + suc k ≡ suc (n + suc k) = omega arith in
      by (λ after g h. no-more n k after end other g stands h) (one_instruction layout watchdog seen now) e (sym (ap (λ (j : ℕ). instructions layout watchdog seen j now) m) ∙ f)
    where
      by : ((after : Running) → instructions layout watchdog seen n after ≡ Some end → instructions layout watchdog seen (n + suc k) after ≡ Some other → ⊥)
          → (o : Option Running) → option_and_then (instructions layout watchdog seen n) o ≡ Some end → option_and_then (instructions layout watchdog seen (n + suc k)) o ≡ Some other → ⊥
      by rest None g h = let x : None ≡ Some end = g in cc
      by rest (Some after) g h = rest after g h

  -- and where a stop stands with more pages, one stands with these
  stands-less : (more : Backed) → IsMore seen more → (m : Memory) (cpu : Cpu) (since : ℕ) → IsSome (standing layout watchdog more m cpu since) → IsSome (standing layout watchdog seen m cpu since)
  stands-less more h m cpu since s = by (since == watchdog) (next layout seen m cpu) refl s
    where
      by : (b : Bool) (n : Next) → next layout seen m cpu ≡ n → IsSome (cond b (Some Watchdog) (stop_in (next layout more m cpu))) → IsSome (cond b (Some Watchdog) (stop_in n))
      by true n e t = refl
      by false (Stands stop) e t = refl
      by false (Executes instr) e t = subst (λ (x : Next). IsSome (stop_in x)) (executes-more seen more h layout m cpu instr e) t

-- ---- a lease

-- where the thread stands by what it was lent
abbrev seen_stop : Layout → (watchdog : ℕ) → Lent → Replica → (thread : ℕ) → Option Stop
seen_stop layout watchdog lent replica number =
    option_and_then (λ (t : Thread). standing layout watchdog (seen_pages lent replica.backed) replica.memory t.cpu t.since) (slice_get replica.threads number)

-- a run that may come back: of a whole quantum, or one at whose end it stands
abbrev Arrives : Layout → (watchdog : ℕ) → Lent → (quantum count : ℕ) → Replica → (thread : ℕ) → Type 0
Arrives layout watchdog lent quantum count replica number = (count ≡ quantum) ⊎ ((count < quantum) × IsSome (seen_stop layout watchdog lent replica number))

module _ (layout : Layout) (watchdog : ℕ) (replica : Replica) (number : ℕ) where
  -- behind a run at whose end it stands there is no longer one
  no-longer-with : (lent : Lent) (n k : ℕ) (ran other : RanTo) → run_with layout watchdog lent n replica number ≡ Some ran → IsSome (seen_stop layout watchdog lent ran.replica number) → run_with layout watchdog lent (n + suc k) replica number ≡ Some other → ⊥
  no-longer-with Whole n k ran other e stands f = no-longer layout watchdog number n k replica ran other e stands f
  no-longer-with (Pages pages) n k ran other e stands f =
      let c = calm-run layout watchdog pages n number replica ran e in
      let d = calm-run layout watchdog pages (n + suc k) number replica other f in
      let same : d.thread ≡ c.thread = some-injective (sym d.there ∙ c.there) in
      let its = ap (option_and_then (λ (t : Thread). standing layout watchdog (seen_pages (Pages pages) replica.backed) c.end.memory t.cpu t.since)) (get_set replica.threads number c.thread c.end.thread c.there) in
      let stood = subst (λ (r : RanTo). IsSome (seen_stop layout watchdog (Pages pages) r.replica number)) (sym c.ran_is) stands in
      no-more layout watchdog (seen_pages (Pages pages) replica.backed) n k (running c.thread replica.memory) c.end d.end c.runs (subst (λ (o : Option Stop). IsSome o) its stood)
      (subst (λ (t : Thread). instructions layout watchdog (seen_pages (Pages pages) replica.backed) (n + suc k) (running t replica.memory) ≡ Some d.end) same d.runs)

  not-shorter : (lent : Lent) (quantum count other : ℕ) (ran ran' : RanTo) → run_with layout watchdog lent count replica number ≡ Some ran → run_with layout watchdog lent other replica number ≡ Some ran'
      → Arrives layout watchdog lent quantum count ran.replica number → Arrives layout watchdog lent quantum other ran'.replica number → count < other → ⊥
  not-shorter lent quantum count other ran ran' e f a b less = by a
    where
      longer : other ≡ count + suc (other - suc count)
      longer = omega arith

      most : Arrives layout watchdog lent quantum other ran'.replica number → count < quantum
      most (inl whole) = omega arith
      most (inr early) = let h = early.0 in omega arith

      by : Arrives layout watchdog lent quantum count ran.replica number → ⊥
      by (inl whole) = let m = most b in omega arith
      by (inr early) = no-longer-with lent count (other - suc count) ran ran' e early.1 (sym (ap (λ (j : ℕ). run_with layout watchdog lent j replica number) longer) ∙ f)

  -- two runs that may come back are one
  one-count : (lent : Lent) (quantum count other : ℕ) (ran ran' : RanTo) → run_with layout watchdog lent count replica number ≡ Some ran → run_with layout watchdog lent other replica number ≡ Some ran'
      → Arrives layout watchdog lent quantum count ran.replica number → Arrives layout watchdog lent quantum other ran'.replica number → count ≡ other
  one-count lent quantum count other ran ran' e f a b = by (cases_order count other)
    where
      by : (count ≡ other) ⊎ ((count < other) ⊎ (other < count)) → count ≡ other
      by (inl equal) = equal
      by (inr (inl less)) = absurd (not-shorter lent quantum count other ran ran' e f a b less)
      by (inr (inr more)) = absurd (not-shorter lent quantum other count ran' ran f e b a more)

-- ---- the entry by which it comes back

-- a lease that comes back, for the want of a page or not
record ComesBack (job : Job) (core : Core) (lease : Lease) (count hit : ℕ) (wants : Bool) : Type 0 where
  pub replica : Replica
  pub there : slice_get core.replicas lease.replica ≡ Some replica
  pub ran : RanTo
  pub runs : run_with (layout_in job.program core.kernel) job.settings.watchdog (core.lent lease.driver) count replica lease.thread ≡ Some ran
  pub struck : ran.hit ≡ hit
  pub arrives : Arrives (layout_in job.program core.kernel) job.settings.watchdog (core.lent lease.driver) job.settings.quantum count ran.replica lease.thread
  pub late : count ≡ job.settings.quantum → wants ≡ false
  pub early : count < job.settings.quantum → is_some (wanted_by job core lease ran.replica) ≡ wants

abbrev entry_by : Lease → (count hit : ℕ) → (wants : Bool) → Entry
entry_by lease count hit wants = if wants then Part lease count hit else Put lease count hit

module _ (job : Job) (core : Core) (lease : Lease) where
  abbrev layout : Layout
  layout = layout_in job.program core.kernel

  abbrev lent : Lent
  lent = core.lent lease.driver

  -- who wants a page stands, by what it sees
  wanting-stands : (backed : Backed) (o : Option Stop) → IsSome (missed backed o) → IsSome o
  wanting-stands backed None s = absurd (true≢false (sym s))
  wanting-stands backed (Some stop) s = refl

  -- and so does who arrives
  arriving-stands : (count : ℕ) (r : Replica) → count < job.settings.quantum → IsSome (arrival job core.kernel lease.thread count r) → IsSome (seen_stop layout job.settings.watchdog lent r lease.thread)
  arriving-stands count r less s = by (slice_get r.threads lease.thread) (subst (λ (b : Bool). IsSome (cond b None (standing_at layout job.settings.watchdog r lease.thread))) (ne_eqb count job.settings.quantum (λ e. omega arith)) s)
    where
      by : (o : Option Thread) → IsSome (option_and_then (standing_in layout job.settings.watchdog r) o) → IsSome (option_and_then (λ (t : Thread). standing layout job.settings.watchdog (seen_pages lent r.backed) r.memory t.cpu t.since) o)
      by None t = absurd (true≢false (sym t))
      by (Some its) t = stands-less layout job.settings.watchdog (seen_pages lent r.backed) r.backed (seen-backed lent r.backed) r.memory its.cpu its.since t

  returned : (count hit : ℕ) (wants : Bool) (back : Returns job core lease count hit)
      → Arrives layout job.settings.watchdog lent job.settings.quantum count back.ran.replica lease.thread → (count ≡ job.settings.quantum → wants ≡ false) → (count < job.settings.quantum → is_some (wanted_by job core lease back.ran.replica) ≡ wants)
      → ComesBack job core lease count hit wants
  returned count hit wants back arrives late early =
      option_and_then_some (λ r. run_with layout job.settings.watchdog lent count r lease.thread) (slice_get core.replicas lease.replica) back.ran back.runs
      (λ r there runs. record { replica = r; there = there; ran = back.ran; runs = runs; struck = back.struck; arrives = arrives; late = late; early = early })

  by-put : (count hit : ℕ) → MayPut job core lease count hit → ComesBack job core lease count hit false
  by-put count hit m = by m.arrives
    where
      by : HasArrived job core lease count m.returns.ran.replica → ComesBack job core lease count hit false
      by (inl all) = returned count hit false m.returns (inl all) (λ e. refl) (λ less. absurd (omega arith))
      by (inr stands) = returned count hit false m.returns (inr (stands.0, arriving-stands count m.returns.ran.replica stands.0 stands.1)) (λ e. refl) (λ less. ap is_some stands.2)

  by-part : (count hit : ℕ) → MayPart job core lease count hit → ComesBack job core lease count hit true
  by-part count hit m =
      returned count hit true m.returns (inr (m.early, stands)) (λ e. absurd (let h = m.early in omega arith)) (λ less. m.wants)
    where
      stands : IsSome (seen_stop layout job.settings.watchdog lent m.returns.ran.replica lease.thread)
      stands = wanting-stands m.returns.ran.replica.backed (seen_stop layout job.settings.watchdog lent m.returns.ran.replica lease.thread) m.wants

  one-entry : (count hit other struck : ℕ) (wants wanting : Bool) → ComesBack job core lease count hit wants → ComesBack job core lease other struck wanting → entry_by lease count hit wants ≡ entry_by lease other struck wanting
  one-entry count hit other struck wants wanting c d =
      let its : c.replica ≡ d.replica = some-injective (sym c.there ∙ d.there) in
      let runs = subst (λ (r : Replica). run_with layout job.settings.watchdog lent count r lease.thread ≡ Some c.ran) its c.runs in
      let same = one-count layout job.settings.watchdog d.replica lease.thread lent job.settings.quantum count other c.ran d.ran runs d.runs c.arrives d.arrives in
      let ran : c.ran ≡ d.ran = some-injective (sym runs ∙ ap (λ (j : ℕ). run_with layout job.settings.watchdog lent j d.replica lease.thread) same ∙ d.runs) in
      let hits : hit ≡ struck = sym c.struck ∙ ap (λ (r : RanTo). r.hit) ran ∙ d.struck in
      ap (λ (n : ℕ). entry_by lease n hit wants) same ∙ ap (λ (h : ℕ). entry_by lease other h wants) hits ∙ ap (entry_by lease other struck) (kind same ran c.arrives)
    where
      kind : count ≡ other → c.ran ≡ d.ran → Arrives layout job.settings.watchdog lent job.settings.quantum count c.ran.replica lease.thread → wants ≡ wanting
      kind same ran (inl all) = c.late all ∙ sym (d.late (sym same ∙ all))
      kind same ran (inr stands) = sym (c.early stands.0) ∙ ap (λ (r : RanTo). is_some (wanted_by job core lease r.replica)) ran ∙ d.early (subst (λ (n : ℕ). n < job.settings.quantum) same stands.0)

  -- a lease comes back by one entry
  came-by : (entry : Entry) → Brings lease entry → IsAllowed job core entry → (count : ℕ) × (hit : ℕ) × (wants : Bool) × ComesBack job core lease count hit wants × (entry ≡ entry_by lease count hit wants)
  came-by entry (count, hit, inl e) allowed = (count, hit, false, by-put count hit (subst (IsAllowed job core) e allowed), e)
  came-by entry (count, hit, inr e) allowed = (count, hit, true, by-part count hit (subst (IsAllowed job core) e allowed), e)

  pub one-return : (entry other : Entry) → Brings lease entry → Brings lease other → IsAllowed job core entry → IsAllowed job core other → entry ≡ other
  one-return entry other brings brought allowed allows =
      let c = came-by entry brings allowed in
      let d = came-by other brought allows in
      c.4 ∙ one-entry c.0 c.1 d.0 d.1 c.2 d.2 c.3 d.3 ∙ sym d.4
