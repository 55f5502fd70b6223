-- A thread of a peer that stands for a vote stands so in the machine, for the kernel.
use Rattle.std.specs.Prelude.{◌≡◌, ◌≢◌, ℕ, Bool, true, false, ◌&&◌, cond, List, [], ◌∷◌, Option, Some, None, is_some, ◌==◌, slice_get}
use Rattle.std.proofs.Common.{refl, sym, ap, ap₂, ◌∙◌, subst}
use Rattle.std.proofs.lemmas.Bool.{true≢false, false≢true, eq-eqb, false_from_ne_true}
use Rattle.ro_event.specs.declared.calls.Which.{Which}
use Rattle.ro_event.specs.declared.calls.Which.TheVariants.{Function}
use Rattle.ro_event.specs.declared.functions.Function.TheVariants.{Lock, TryLock, Unlock, Wait}
use Rattle.ro_event.specs.declared.calls.Call.{Call}
use Rattle.ro_event.specs.declared.stops.Stop.{Stop}
use Rattle.ro_event.specs.declared.stops.Stop.TheVariants.{Calls, Trap, PageFault, Watchdog}
use Rattle.ro_pages.specs.Bytes.{Memory}
use Rattle.ro_exec.specs.declared.Cpu.{Cpu}
use Rattle.ro_exec.specs.Next.{Layout, Backed, Next, Stands, Executes, next, stop_in}
use Rattle.ro_exec.proofs.Backing.{IsNoFault, a_call, a_trap, stands-backed}
use Rattle.ro_kernel.specs.Kernel.{Kernel, lives_on}
use Rattle.ro_kernel.specs.Serve.{serve}
use Rattle.ro_thread.specs.declared.Thread.{Thread}
use Rattle.ro_thread.specs.Stops.{standing}
use Rattle.ro_replica.specs.Runs.{standing_in}
use Rattle.ro_plain.specs.Machine.{layout_in, setup_of, next_of, steppable}
use Rattle.ro_plain.proofs.Calls.{some-injective}
use Rattle.ro_orders.specs.Turns.{Chosen, is_cooperative, is_lock_or_unlock, Serves, turn_served, turn_by, turn_of, takes_otherwise, TakesByLocks}
use Rattle.ro_orders.specs.Copies.{Copy}
use Rattle.ro_orders.proofs.Served.{avoids_by}
use Rattle.ro_orders.proofs.Steps.{turn-at}
use Rattle.ro_peer.specs.declared.mutexes.Mutex.{Mutex}
use Rattle.ro_peer.specs.Peers.{Peer, mutex_in, kernel_in, machine_of}
use Rattle.ro_peer.specs.Gets.{is_own_call, voted}
use Rattle.ro_coop.specs.Core.{Job}
use Rattle.ro_coop.proofs.Tables.{AllCooperative, AllAvoid, layout-in, coop-in}
use Rattle.ro_coop.proofs.Leases.{live-in}
use Rattle.ro_coop.proofs.Puts.{IsCopy, StopsStand, AnyThread}

-- ---- stops

voted-bit : (mutexes : List Mutex) (s stop : Stop) (b : Bool) → is_own_call mutexes s ≡ b → cond b None (Some s) ≡ Some stop → (Some s ≡ Some stop) × (is_own_call mutexes stop ≡ false)
voted-bit mutexes s stop true q e = absurd (let f : None ≡ Some stop = e in cc)
voted-bit mutexes s stop false q e = (e, ap (is_own_call mutexes) (some-injective (sym e)) ∙ q)

-- a stop that is voted on
pub voted-parts : (mutexes : List Mutex) (o : Option Stop) (stop : Stop) → voted mutexes o ≡ Some stop → (o ≡ Some stop) × (is_own_call mutexes stop ≡ false)
voted-parts mutexes None stop e = absurd (let f : None ≡ Some stop = e in cc)
voted-parts mutexes (Some s) stop e = voted-bit mutexes s stop (is_own_call mutexes s) refl e

pub voted-from : (mutexes : List Mutex) (o : Option Stop) (stop : Stop) → o ≡ Some stop → is_own_call mutexes stop ≡ false → voted mutexes o ≡ Some stop
voted-from mutexes o stop e f = ap (voted mutexes) e ∙ ap (λ (b : Bool). cond b None (Some stop)) f

-- a call or a trap that stands is what comes next
pub standing-next : (layout : Layout) (watchdog : ℕ) (backed : Backed) (m : Memory) (cpu : Cpu) (since : ℕ) (stop : Stop) → IsNoFault stop → standing layout watchdog backed m cpu since ≡ Some stop → next layout backed m cpu ≡ Stands stop
standing-next layout watchdog backed m cpu since stop kind e = by (since == watchdog) e
  where
    no-watch : (s : Stop) → IsNoFault s → Some Watchdog ≡ Some s → ⊥
    no-watch (Calls call) a_call f = let g : Some Watchdog ≡ Some (Calls call) = f in cc
    no-watch (Trap code) a_trap f = let g : Some Watchdog ≡ Some (Trap code) = f in cc
    no-watch (PageFault page) k f = elim k [ ]
    no-watch Watchdog k f = elim k [ ]

    at : (n : Next) → stop_in n ≡ Some stop → n ≡ Stands stop
    at (Stands other) f = ap Stands (some-injective f)
    at (Executes instr) f = absurd (let g : None ≡ Some stop = f in cc)

    by : (b : Bool) → cond b (Some Watchdog) (stop_in (next layout backed m cpu)) ≡ Some stop → next layout backed m cpu ≡ Stands stop
    by true f = absurd (no-watch stop kind f)
    by false f = at _ f

-- ---- a call that no peer answers is on none of its mutexes

listed-not : (m : Mutex) (mutexes : List Mutex) (a : ℕ) → mutex_in (m ∷ mutexes) a ≡ None → (a ≢ m.address) × (mutex_in mutexes a ≡ None)
listed-not m mutexes a e = by (m.address == a) refl e
  where
    by : (b : Bool) → (m.address == a) ≡ b → cond b (Some m) (mutex_in mutexes a) ≡ None → (a ≢ m.address) × (mutex_in mutexes a ≡ None)
    by true q f = absurd (let g : Some m ≡ None = f in cc)
    by false q f = (λ s. true≢false (sym (eq-eqb m.address a (sym s)) ∙ q), f)

pub all-avoid : (chosen : Chosen) (kernel : Kernel) (call : Call) (mutexes : List Mutex) → AllCooperative chosen kernel mutexes → (is_lock_or_unlock call.which ≡ true → mutex_in mutexes call.a0 ≡ None) → ((m : ℕ) → is_cooperative chosen kernel m ≡ true → takes_otherwise call.which ≡ false) → AllAvoid call mutexes
all-avoid chosen kernel call [] all h other = tt
all-avoid chosen kernel call (m ∷ mutexes) all h other = (by call.which refl, all-avoid chosen kernel call mutexes all.1 (λ w. (listed-not m mutexes call.a0 (h w)).1) other)
  where
    by : (which : Which) → call.which ≡ which → avoids_by which call.a0 m.address
    by (Function Lock) w = (listed-not m mutexes call.a0 (h (ap is_lock_or_unlock w))).0
    by (Function TryLock) w = absurd (true≢false (sym (ap takes_otherwise w) ∙ other m.address all.0))
    by (Function Unlock) w = (listed-not m mutexes call.a0 (h (ap is_lock_or_unlock w))).0
    by (Function Wait) w = absurd (true≢false (sym (ap takes_otherwise w) ∙ other m.address all.0))
    by which w = tt

not-some : (o : Option Mutex) → is_some o ≡ false → o ≡ None
not-some None e = refl
not-some (Some x) e = absurd (true≢false e)

unlisted : (b : Bool) (o : Option Mutex) → (b && is_some o) ≡ false → b ≡ true → o ≡ None
unlisted true o e f = not-some o e
unlisted false o e f = absurd (false≢true f)

-- where a call on a mutex is not answered, its mutex is not listed
pub not-listed : (mutexes : List Mutex) (call : Call) → is_own_call mutexes (Calls call) ≡ false → is_lock_or_unlock call.which ≡ true → mutex_in mutexes call.a0 ≡ None
not-listed mutexes call e w = unlisted (is_lock_or_unlock call.which) (mutex_in mutexes call.a0) e w

-- ---- the thread

module _ (job : Job) (lacks : TakesByLocks job.program job.chosen) (kernel : Kernel) (output : List ℕ) (peer : Peer) (copy : Copy) (c : IsCopy job kernel output peer copy) (stops : StopsStand job kernel AnyThread peer) (t : ℕ) (alive : lives_on kernel t ≡ true) (x : Thread) (there : slice_get peer.replica.threads t ≡ Some x) (stop : Stop) (stopped : x.stop ≡ Some stop) where
  stands-parts : (standing_in (layout_in job.program kernel) job.settings.watchdog peer.replica x ≡ Some stop) × (is_own_call peer.mutexes stop ≡ false)
  stands-parts = voted-parts peer.mutexes _ stop (stops t x stop tt alive there stopped)

  pub not-own : is_own_call peer.mutexes stop ≡ false
  not-own = stands-parts.1

  pub next-here : IsNoFault stop → next_of job.program (machine_of kernel output peer) x.cpu ≡ Stands stop
  next-here kind = stands-backed (layout_in job.program (kernel_in kernel peer)) peer.replica.backed peer.replica.memory x.cpu stop kind
      (ap (λ (l : Layout). next l peer.replica.backed peer.replica.memory x.cpu) (layout-in job.program kernel peer)
      ∙ standing-next (layout_in job.program kernel) job.settings.watchdog peer.replica.backed peer.replica.memory x.cpu x.since stop kind stands-parts.0)

  pub live-here : steppable (machine_of kernel output peer) t ≡ Some x.cpu
  live-here = live-in kernel output peer t x there alive

  -- the kernel serves it
  serves-bit : (call : Call) → is_own_call peer.mutexes (Calls call) ≡ false → (b : Bool) → is_lock_or_unlock call.which ≡ b → turn_by job.program job.chosen (kernel_in kernel peer) t (Stands (Calls call)) ≡ Serves
  serves-bit call own false w = ap (λ (b : Bool). cond (b && is_cooperative job.chosen (kernel_in kernel peer) call.a0) (turn_served call (serve (setup_of job.program) (kernel_in kernel peer) t call)) Serves) w
  serves-bit call own true w =
      ap₂ (λ (a b : Bool). cond (a && b) (turn_served call (serve (setup_of job.program) (kernel_in kernel peer) t call)) Serves) w
      (coop-in job.chosen job.one_enters kernel peer c.all call.a0 ∙ false_from_ne_true _ (λ h.
      let listed = c.complete call.a0 h in
      let none = not-listed peer.mutexes call own w in
      let f : None ≡ Some listed.0 = sym none ∙ listed.1 in cc))

  serves-stop : (s : Stop) → IsNoFault s → is_own_call peer.mutexes s ≡ false → turn_by job.program job.chosen (kernel_in kernel peer) t (Stands s) ≡ Serves
  serves-stop (Calls call) kind own = serves-bit call own (is_lock_or_unlock call.which) refl
  serves-stop (Trap code) kind own = refl
  serves-stop (PageFault page) kind own = refl
  serves-stop Watchdog kind own = refl

  pub turn-here : IsNoFault stop → turn_of job.program job.chosen (machine_of kernel output peer) t ≡ Serves
  turn-here kind =
      turn-at job.program job.chosen (machine_of kernel output peer) t x.cpu live-here
      ∙ (ap (turn_by job.program job.chosen (kernel_in kernel peer) t) (next-here kind) ∙ serves-stop stop kind not-own)

  -- and a call is on none of the peer's mutexes
  pub avoids-here : (call : Call) → stop ≡ Calls call → AllAvoid call peer.mutexes
  avoids-here call e =
      all-avoid job.chosen kernel call peer.mutexes c.all (not-listed peer.mutexes call (ap (is_own_call peer.mutexes) (sym e) ∙ not-own))
      (λ m coop. lacks (kernel_in kernel peer) peer.replica.memory x.cpu call (next-here (subst IsNoFault (sym e) a_call) ∙ ap Stands e) m (coop-in job.chosen job.one_enters kernel peer c.all m ∙ coop))
