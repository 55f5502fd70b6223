-- A stopped thread of a replica that agrees with the machine: the machine comes to the same stop by the thread's own steps, and so replicas that agree have equal views of it.
use Rattle.std.specs.Prelude.{◌≡◌, ◌≢◌, ℕ, zero, suc, ◌+◌, ◌<◌, ◌≤◌, Bool, true, false, IsTrue, cond, ◌==◌, List, [], ◌++◌, replicate, Option, Some, None, is_none, slice_get}
use Rattle.std.specs.Option.{option_map, option_and_then}
use Rattle.std.proofs.Common.{refl, sym, ap, ap₂, ◌∙◌, subst, arith, append_assoc}
use Rattle.std.proofs.lemmas.Bool.{eqb-true}
use Rattle.ro_decode.specs.declared.Instr.{Instr}
use Rattle.ro_event.specs.declared.stops.Stop.{Stop}
use Rattle.ro_event.specs.declared.stops.Stop.TheVariants.{Calls, Trap, PageFault, Watchdog}
use Rattle.ro_event.specs.Views.{View}
use Rattle.ro_pages.specs.Bytes.{Memory}
use Rattle.ro_kernel.specs.Kernel.{Kernel, lives_on, ranges_in}
use Rattle.ro_kernel.specs.Serve.{payload_of}
use Rattle.ro_exec.specs.declared.Cpu.{Cpu}
use Rattle.ro_exec.specs.Next.{Backed, Next, Stands, Executes, next, stop_in}
use Rattle.ro_exec.proofs.Backing.{IsNoFault, a_call, a_trap, stands-backed}
use Rattle.ro_thread.specs.declared.Thread.{Thread}
use Rattle.ro_thread.specs.Stops.{standing}
use Rattle.ro_replica.specs.Replica.{Replica}
use Rattle.ro_plain.specs.Machine.{Program, Machine, opening, next_of, steppable, run, BackedRun, nothing_left, setup_of, layout_in}
use Rattle.ro_plain.specs.Order.{RaceFree}
use Rattle.ro_plain.proofs.Backed.{backed-is-plain}
use Rattle.ro_plain.proofs.Calls.{some-injective, steppable-from}
use Rattle.ro_plain.proofs.Stays.{steppable-along, payload-stays}
use Rattle.ro_plain.proofs.Ahead.{Without, Without-append}
use Rattle.ro_legal.specs.Core.{Job}
use Rattle.ro_replica.specs.Views.{payload_at, view_with, view_of}
use Rattle.ro_legal.specs.Ideal.{ahead_from, ahead}
use Rattle.ro_simulation.specs.Invariant.{RunsAhead, StopStands}
use Rattle.ro_plain.proofs.StaysAfter.{Stays}
use Rattle.ro_simulation.proofs.Ahead.{BackedParts, BackedRun-split, BackedRun-join, BackedHead, BackedRun-head, KeepsRest, BackedRun-keeps, reach-run, pull, stays-along}
use Rattle.ro_legal.proofs.Lists.{set-same}
use Rattle.ro_simulation.proofs.Around.{Around, around}

-- ---- the stop that stands

-- with what a thread does next given
abbrev pub standing_by : Bool → Next → Option Stop
standing_by watched n = cond watched (Some Watchdog) (stop_in n)

-- a stop that is not the watchdog's
pub record StandsNext (watched : Bool) (n : Next) (stop : Stop) : Type 0 where
  pub unwatched : watched ≡ false
  pub next_is : n ≡ Stands stop

-- what a thread does next, by its stop
next-stands : (n : Next) (stop : Stop) → stop_in n ≡ Some stop → n ≡ Stands stop
next-stands (Stands other) stop e = ap Stands (some-injective e)
next-stands (Executes instr) stop e = absurd (let f : None ≡ Some stop = e in cc)

-- a stop other than the watchdog's is what the thread does next
pub stands-next : (watched : Bool) (n : Next) (stop : Stop) → standing_by watched n ≡ Some stop → stop ≢ Watchdog → StandsNext watched n stop
stands-next true n stop e other = absurd (other (let f : Some Watchdog ≡ Some stop = e in cc))
stands-next false n stop e other = record { unwatched = refl; next_is = next-stands n stop e }

-- a call or a trap is not the watchdog's
pub no-watchdog : (stop : Stop) → IsNoFault stop → stop ≢ Watchdog
no-watchdog (Calls call) a_call e = let f : Calls call ≡ Watchdog = e in cc
no-watchdog (Trap code) a_trap e = let f : Trap code ≡ Watchdog = e in cc
no-watchdog (PageFault page) h e = elim h [ ]
no-watchdog Watchdog h e = elim h [ ]

-- a thread that executes does not stand
executes-not-stands : (watched : Bool) (n : Next) (instr : Instr) (stop : Stop) → watched ≡ false → n ≡ Executes instr → standing_by watched n ≡ Some stop → ⊥
executes-not-stands watched n instr stop w e h =
    let f : None ≡ Some stop = sym (ap₂ standing_by w e) ∙ h in cc

-- a smaller number is another one
pub not-equal : (m n : ℕ) → m < n → (m == n) ≡ false
not-equal m n h = by (m == n) refl
  where
    by : (b : Bool) → (m == n) ≡ b → (m == n) ≡ false
    by true e = let f = eqb-true m n e in absurd (omega arith)
    by false e = e

-- ---- a stopped thread

-- The thread comes to the middle machine by its own steps, and the other threads' steps come behind.
pub record Comes (job : Job) (backed : Backed) (machine middle : Machine) (replica : Replica) (t : ℕ) (thread : Thread) : Type 0 where
  pub among : Around 0 replica.threads t t
  pub end : Machine
  pub own : BackedRun job.program backed machine (replicate thread.since t) middle
  pub back : BackedRun job.program backed middle (among.front ++ among.back) end
  pub apart : Without t (among.front ++ among.back)
  pub live : steppable middle t ≡ Some thread.cpu
  pub same_memory : replica.memory ≡ end.memory
  pub same_cpus : (number : ℕ) (other : Thread) → IsTrue (lives_on machine.kernel number) → slice_get replica.threads number ≡ Some other → slice_get end.cpus number ≡ Some other.cpu
  pub reached_middle : (before : List ℕ) → run job.program (opening job.program) before ≡ Some machine → run job.program (opening job.program) (before ++ replicate thread.since t) ≡ Some middle

-- The thread stands at the stop: in the machine after its own steps already.
pub record Arrives (job : Job) (backed : Backed) (machine : Machine) (replica : Replica) (t : ℕ) (thread : Thread) (stop : Stop) : Type 0 where
  pub middle : Machine
  pub comes : Comes job backed machine middle replica t thread
  pub stands : standing (layout_in job.program middle.kernel) job.settings.watchdog backed middle.memory thread.cpu thread.since ≡ Some stop

-- what was run ahead, round a thread's steps
pub ahead-is : (replica : Replica) (t : ℕ) (thread : Thread) (there : slice_get replica.threads t ≡ Some thread) (among : Around 0 replica.threads t t) → ahead replica ≡ among.front ++ (replicate thread.since t ++ among.back)
ahead-is replica t thread there among = sym (ap (ahead_from 0) (set-same replica.threads t thread there)) ∙ among.with_set thread

module _ (job : Job) (free : RaceFree job.program) (before : List ℕ) (machine : Machine) (reached : run job.program (opening job.program) before ≡ Some machine) (going : machine.ended ≡ None) where
  -- the registers of a live thread, at the end of what the replica has run ahead
  pub live-at-end : (replica : Replica) (h : RunsAhead job machine replica) (t : ℕ) (thread : Thread) → IsTrue (lives_on machine.kernel t) → slice_get replica.threads t ≡ Some thread → steppable h.end t ≡ Some thread.cpu
  live-at-end replica h t thread live there =
      let kept : KeepsRest machine h.end = BackedRun-keeps job.program replica.backed h.runs in
      steppable-from h.end t thread.cpu (record {
        going = ap is_none (kept.same_end ∙ going);
        live = ap (λ (k : Kernel). lives_on k t) kept.same_kernel ∙ live;
        there = h.same_cpus t thread live there;
      })

  -- a live thread's own steps come first
  pub comes-by : (backed : Backed) (replica : Replica) → replica.backed ≡ backed → (h : RunsAhead job machine replica) (t : ℕ) (thread : Thread) → IsTrue (lives_on machine.kernel t) → slice_get replica.threads t ≡ Some thread → (middle : Machine) × Comes job backed machine middle replica t thread
  comes-by backed replica same h t thread live there = (
    own.middle,
    record {
      among = among;
      end = h.end;
      own = own.front;
      back = back;
      apart = apart;
      live = live_middle;
      same_memory = h.same_memory;
      same_cpus = h.same_cpus;
      reached_middle = λ b r. reach-run job.program backed b r own.front;
    },
  )
    where
      among : Around 0 replica.threads t t
      among = around 0 replica.threads t t thread there (omega arith)

      runs : BackedRun job.program backed machine ((among.front ++ replicate thread.since t) ++ among.back) h.end
      runs = subst (λ (b : Backed). BackedRun job.program b machine ((among.front ++ replicate thread.since t) ++ among.back) h.end) same
          (subst (λ (xs : List ℕ). BackedRun job.program replica.backed machine xs h.end) (ahead-is replica t thread there among ∙ sym (append_assoc among.front (replicate thread.since t) among.back)) h.runs)

      parts : BackedParts job.program backed machine (among.front ++ replicate thread.since t) among.back h.end
      parts = BackedRun-split job.program backed machine h.end (among.front ++ replicate thread.since t) among.back runs

      own : BackedParts job.program backed machine (replicate thread.since t) among.front parts.middle
      own = BackedRun-split job.program backed machine parts.middle (replicate thread.since t) among.front
          (pull job.program free backed before t among.front thread.since machine parts.middle reached among.front_without parts.front)

      back : BackedRun job.program backed own.middle (among.front ++ among.back) h.end
      back = BackedRun-join job.program backed own.back parts.back

      apart : Without t (among.front ++ among.back)
      apart = Without-append t among.front among.back among.front_without among.back_without

      live_middle : steppable own.middle t ≡ Some thread.cpu
      live_middle = sym (steppable-along job.program t (backed-is-plain back) apart) ∙ live-at-end replica h t thread live there

  -- a stopped thread arrives at its stop
  pub arrives : (backed : Backed) (replica : Replica) → replica.backed ≡ backed → (h : RunsAhead job machine replica) (t : ℕ) (thread : Thread) (stop : Stop) → IsTrue (lives_on machine.kernel t) → slice_get replica.threads t ≡ Some thread → thread.stop ≡ Some stop → StopStands job machine replica t → Arrives job backed machine replica t thread stop
  arrives backed replica same h t thread stop live there stopped s =
      let by = comes-by backed replica same h t thread live there in
      let along : Stays job.program by.0 by.1.end t thread.cpu = stays-along job.program free backed (before ++ replicate thread.since t) t thread.cpu (by.1.reached_middle before reached) by.1.back by.1.apart by.1.live in
      record {
        middle = by.0;
        comes = by.1;
        stands = ap (standing_by (thread.since == job.settings.watchdog))
            (along.next_stays backed ∙ ap (λ (k : Kernel). next (layout_in job.program k) backed by.1.end.memory thread.cpu) ((BackedRun-keeps job.program backed by.1.back).same_kernel ∙ (BackedRun-keeps job.program backed by.1.own).same_kernel))
            ∙ (sym (ap₂ (λ (b : Backed) (m : Memory). standing (layout_in job.program machine.kernel) job.settings.watchdog b m thread.cpu thread.since) same by.1.same_memory)
            ∙ s.stands thread stop live there stopped);
      }

-- a run of no steps stays
pub none-left : (program : Program) (backed : Backed) {machine end : Machine} → BackedRun program backed machine [] end → machine ≡ end
none-left program backed nothing_left = refl

-- ---- two stopped threads

-- the same count and the same machine
pub record SameCount (m n : ℕ) (middle middle' : Machine) : Type 0 where
  pub same_count : m ≡ n
  pub same_middle : middle ≡ middle'

module _ (job : Job) (backed : Backed) (t : ℕ) where
  -- a thread that stands goes no further
  cannot-go-on : (k n : ℕ) (machine middle : Machine) (cpu : Cpu) (stop : Stop) (after end : Machine) → machine ≡ middle → (steppable middle t ≡ Some cpu) × (standing (layout_in job.program middle.kernel) job.settings.watchdog backed middle.memory cpu (k + 0) ≡ Some stop) → k + suc n ≤ job.settings.watchdog → BackedHead job.program backed machine t (replicate n t) end → ⊥
  cannot-go-on k n machine middle cpu stop after end here h below head =
      let step_here : steppable middle t ≡ Some head.backed_step.cpu = ap (λ (m : Machine). steppable m t) (sym here) ∙ head.backed_step.live in
      let same : cpu ≡ head.backed_step.cpu = some-injective (sym h.0 ∙ step_here) in
      executes-not-stands (k + 0 == job.settings.watchdog) (next (layout_in job.program middle.kernel) backed middle.memory cpu) head.backed_step.instr stop
      (not-equal (k + 0) job.settings.watchdog (omega arith))
      (ap₂ (λ (m : Machine) (c : Cpu). next (layout_in job.program m.kernel) backed m.memory c) (sym here) same ∙ head.backed_step.executes)
      h.1

  -- two runs to a stop are equally long
  same-counts : (k m n : ℕ) (machine middle middle' : Machine) (cpu cpu' : Cpu) (stop stop' : Stop) → BackedRun job.program backed machine (replicate m t) middle → BackedRun job.program backed machine (replicate n t) middle'
      → (steppable middle t ≡ Some cpu) × (standing (layout_in job.program middle.kernel) job.settings.watchdog backed middle.memory cpu (k + m) ≡ Some stop)
      → (steppable middle' t ≡ Some cpu') × (standing (layout_in job.program middle'.kernel) job.settings.watchdog backed middle'.memory cpu' (k + n) ≡ Some stop')
      → k + m ≤ job.settings.watchdog → k + n ≤ job.settings.watchdog → SameCount m n middle middle'
  same-counts k zero zero machine middle middle' cpu cpu' stop stop' r r' h h' low low' =
      record { same_count = refl; same_middle = sym (none-left job.program backed r) ∙ none-left job.program backed r' }
  same-counts k zero (suc n) machine middle middle' cpu cpu' stop stop' r r' h h' low low' =
      absurd (cannot-go-on k n machine middle cpu stop machine middle' (none-left job.program backed r) h low' (BackedRun-head job.program backed machine middle' t (replicate n t) r'))
  same-counts k (suc m) zero machine middle middle' cpu cpu' stop stop' r r' h h' low low' =
      absurd (cannot-go-on k m machine middle' cpu' stop' machine middle (none-left job.program backed r') h' low (BackedRun-head job.program backed machine middle t (replicate m t) r))
  same-counts k (suc m) (suc n) machine middle middle' cpu cpu' stop stop' r r' h h' low low' =
      let head = BackedRun-head job.program backed machine middle t (replicate m t) r in
      let head' = BackedRun-head job.program backed machine middle' t (replicate n t) r' in
      let same : head'.after ≡ head.after = some-injective (sym head'.steps ∙ head.steps) in
      let one : k + suc m ≡ suc k + m = omega arith in
      let other : k + suc n ≡ suc k + n = omega arith in
      let rest = same-counts (suc k) m n head.after middle middle' cpu cpu' stop stop' head.runs (subst (λ (x : Machine). BackedRun job.program backed x (replicate n t) middle') same head'.runs)
      (h.0, ap (λ (c : ℕ). standing (layout_in job.program middle.kernel) job.settings.watchdog backed middle.memory cpu c) (sym one) ∙ h.1)
      (h'.0, ap (λ (c : ℕ). standing (layout_in job.program middle'.kernel) job.settings.watchdog backed middle'.memory cpu' c) (sym other) ∙ h'.1)
      (omega arith) (omega arith) in
      record { same_count = ap suc rest.same_count; same_middle = rest.same_middle }

-- two replicas that agree bring a thread to the same count, registers and stop
pub record SameArrival (job : Job) (backed : Backed) (machine : Machine) (one other : Replica) (t : ℕ) (thread thread' : Thread) (stop stop' : Stop) (a : Arrives job backed machine one t thread stop) (b : Arrives job backed machine other t thread' stop') : Type 0 where
  pub same_since : thread.since ≡ thread'.since
  pub same_middle : a.middle ≡ b.middle
  pub same_cpu : thread.cpu ≡ thread'.cpu
  pub same_stop : stop ≡ stop'

-- nothing is added
zero-plus : (n : ℕ) → n ≡ 0 + n
zero-plus n = omega arith

-- two replicas that agree bring a thread to the same stop
pub same-arrival : (job : Job) (backed : Backed) (machine : Machine) (one other : Replica) (t : ℕ) (thread thread' : Thread) (stop stop' : Stop) (a : Arrives job backed machine one t thread stop) (b : Arrives job backed machine other t thread' stop') → thread.since ≤ job.settings.watchdog → thread'.since ≤ job.settings.watchdog → SameArrival job backed machine one other t thread thread' stop stop' a b
same-arrival job backed machine one other t thread thread' stop stop' a b low low' =
    let s = same-counts job backed t 0 thread.since thread'.since machine a.middle b.middle thread.cpu thread'.cpu stop stop' a.comes.own b.comes.own
    (a.comes.live, ap (λ (c : ℕ). standing (layout_in job.program a.middle.kernel) job.settings.watchdog backed a.middle.memory thread.cpu c) (sym (zero-plus thread.since)) ∙ a.stands)
    (b.comes.live, ap (λ (c : ℕ). standing (layout_in job.program b.middle.kernel) job.settings.watchdog backed b.middle.memory thread'.cpu c) (sym (zero-plus thread'.since)) ∙ b.stands)
    (omega arith) (omega arith) in
    let same_cpus : thread.cpu ≡ thread'.cpu = some-injective (sym a.comes.live ∙ (ap (λ (m : Machine). steppable m t) s.same_middle ∙ b.comes.live)) in
    record {
      same_since = s.same_count;
      same_middle = s.same_middle;
      same_cpu = same_cpus;
      same_stop = some-injective (sym a.stands ∙ ((λ i. standing (layout_in job.program (s.same_middle i).kernel) job.settings.watchdog backed (s.same_middle i).memory (same_cpus i) (s.same_count i)) ∙ b.stands));
    }

-- ---- the view

-- the view that the machine itself gives
abbrev pub machine_view : Program → Machine → Cpu → (count : ℕ) → Stop → View
machine_view program machine cpu count stop =
    record { registers = cpu.registers; pc = cpu.pc; since = count; stop = stop; payload = payload_at (ranges_in (setup_of program) machine.kernel) machine.memory stop }

module _ (job : Job) (free : RaceFree job.program) (before : List ℕ) (machine : Machine) (reached : run job.program (opening job.program) before ≡ Some machine) (backed : Backed) (replica : Replica) (t : ℕ) (thread : Thread) where
  -- a call or a trap is what the machine's thread does next after its own steps
  pub next-at-middle : (stop : Stop) → IsNoFault stop → (a : Arrives job backed machine replica t thread stop) → next_of job.program a.middle thread.cpu ≡ Stands stop
  next-at-middle stop kind a =
      stands-backed (layout_in job.program a.middle.kernel) backed a.middle.memory thread.cpu stop kind
      (stands-next _ _ stop a.stands (no-watchdog stop kind)).next_is

  -- the bytes that are about to be written
  pub same-payload : (stop : Stop) (a : Arrives job backed machine replica t thread stop) → payload_at (ranges_in (setup_of job.program) machine.kernel) replica.memory stop ≡ payload_at (ranges_in (setup_of job.program) a.middle.kernel) a.middle.memory stop
  same-payload (Calls call) a =
      ap₂ (λ (k : Kernel) (m : Memory). payload_of (ranges_in (setup_of job.program) k) m call)
      (sym ((BackedRun-keeps job.program backed a.comes.back).same_kernel ∙ (BackedRun-keeps job.program backed a.comes.own).same_kernel)) a.comes.same_memory
      ∙ sym (payload-stays job.program free (before ++ replicate thread.since t) t thread.cpu call (a.comes.reached_middle before reached) (backed-is-plain a.comes.back) a.comes.apart a.comes.live (next-at-middle (Calls call) a_call a))
  same-payload (Trap code) a = refl
  same-payload (PageFault page) a = refl
  same-payload Watchdog a = refl

  -- the replica's view is the machine's
  pub view-is : (stop : Stop) (a : Arrives job backed machine replica t thread stop) → slice_get replica.threads t ≡ Some thread → thread.stop ≡ Some stop → view_of (ranges_in (setup_of job.program) machine.kernel) t replica ≡ Some (machine_view job.program a.middle thread.cpu thread.since stop)
  view-is stop a there stopped =
      ap (option_and_then (λ (u : Thread). option_map (view_with (ranges_in (setup_of job.program) machine.kernel) replica u) u.stop)) there
      ∙ (ap (option_map (view_with (ranges_in (setup_of job.program) machine.kernel) replica thread)) stopped
      ∙ ap (λ (p : List ℕ). Some (record { registers = thread.cpu.registers; pc = thread.cpu.pc; since = thread.since; stop = stop; payload = p })) (same-payload stop a))

-- replicas that agree have equal views
pub equal-views : (job : Job) (free : RaceFree job.program) (before : List ℕ) (machine : Machine) (reached : run job.program (opening job.program) before ≡ Some machine) (backed : Backed) (one other : Replica) (t : ℕ) (thread thread' : Thread) (stop stop' : Stop) (a : Arrives job backed machine one t thread stop) (b : Arrives job backed machine other t thread' stop') → thread.since ≤ job.settings.watchdog → thread'.since ≤ job.settings.watchdog
    → slice_get one.threads t ≡ Some thread → thread.stop ≡ Some stop → slice_get other.threads t ≡ Some thread' → thread'.stop ≡ Some stop' → view_of (ranges_in (setup_of job.program) machine.kernel) t one ≡ view_of (ranges_in (setup_of job.program) machine.kernel) t other
equal-views job free before machine reached backed one other t thread thread' stop stop' a b low low' there stopped there' stopped' =
    let s = same-arrival job backed machine one other t thread thread' stop stop' a b low low' in
    view-is job free before machine reached backed one t thread stop a there stopped
    ∙ ((λ i. Some (machine_view job.program (s.same_middle i) (s.same_cpu i) (s.same_since i) (s.same_stop i)))
    ∙ sym (view-is job free before machine reached backed other t thread' stop' b there' stopped'))
