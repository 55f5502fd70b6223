-- Where every peer has stopped a thread, all have stopped it at the same place: a vote finds equal views.
use Rattle.std.specs.Prelude.{◌≡◌, ℕ, suc, ◌+◌, ◌<◌, Bool, true, false, not, cond, if◌then◌else◌, ◌==◌, List, [], ◌∷◌, Option, Some, None, slice_get}
use Rattle.std.specs.Option.{option_map, option_and_then, option_map_or}
use Rattle.std.proofs.Common.{refl, sym, ap, ap₂, ◌∙◌, arith}
use Rattle.std.proofs.lemmas.Bool.{eqb-true}
use Rattle.ro_event.specs.declared.stops.Stop.{Stop}
use Rattle.ro_event.specs.declared.stops.Stop.TheVariants.{Calls, Trap, PageFault, Watchdog}
use Rattle.ro_event.specs.Views.{View}
use Rattle.ro_exec.specs.declared.Cpu.{Cpu}
use Rattle.ro_exec.specs.Next.{Layout, Backed, all_backed, Next, Stands, Executes, next, stop_in}
use Rattle.ro_exec.proofs.Backing.{SameNext, same_next, stands_at_page, next-same-backed, a_call, a_trap}
use Rattle.ro_kernel.specs.Kernel.{ranges_in, lives_on}
use Rattle.ro_thread.specs.declared.Thread.{Thread}
use Rattle.ro_thread.specs.Stops.{standing}
use Rattle.ro_replica.specs.Views.{payload_at, view_with, view_of}
use Rattle.ro_plain.specs.Machine.{layout_in, setup_of, Machine, payload_in, next_of, steppable}
use Rattle.ro_plain.specs.Order.{RaceFree}
use Rattle.ro_plain.proofs.Ahead.{Without}
use Rattle.ro_plain.proofs.Calls.{some-injective}
use Rattle.ro_plain.proofs.StaysAfter.{Stays}
use Rattle.ro_orders.specs.Turns.{Serves, turn_by, turn_of, times, TakesByLocks}
use Rattle.ro_orders.specs.Copies.{Copy, Rows, is_fault, is_backed, IsBehind, IsFirst}
use Rattle.ro_orders.proofs.Steps.{turn-at}
use Rattle.ro_orders.proofs.Orders.{stays-through}
use Rattle.ro_orders.proofs.Copies.{without-none, served-not-behind, runs-first}
use Rattle.ro_orders.proofs.Stands.{call-first}
use Rattle.ro_orders.proofs.Attained.{Attained, runs-attained, fault-at-front}
use Rattle.ro_peer.specs.Peers.{Peer, machine_of}
use Rattle.ro_coop.specs.Core.{Job, Core, layout_here, ranges_here, Steps}
use Rattle.ro_coop.specs.Stuck.{Stopped}
use Rattle.ro_coop.proofs.Tables.{layout-in}
use Rattle.ro_coop.proofs.Leases.{live-in}
use Rattle.ro_coop.proofs.Standing.{voted-parts, next-here, turn-here}
use Rattle.ro_coop.proofs.Lists.{each-get, each-back}
use Rattle.ro_coop.proofs.Events.{payload-in}
use Rattle.ro_coop.proofs.Holds.{Tied, Going, thread-made}

-- the view that the machine of the first steps has of the thread
abbrev first_view : Job → Machine → Cpu → (since : ℕ) → Stop → View
first_view job machine cpu since stop =
    record { registers = cpu.registers; pc = cpu.pc; since = since; stop = stop; payload = payload_at (ranges_in (setup_of job.program) machine.kernel) machine.memory stop }

abbrev first_standing : Job → Backed → Machine → Cpu → (since : ℕ) → Option Stop
first_standing job backed machine cpu since = if since == job.settings.watchdog then Some Watchdog else stop_in (next (layout_in job.program machine.kernel) backed machine.memory cpu)

-- two of them are the same
two-views : (job : Job) (backed : Backed) (machine : Machine) (base n t : ℕ) (one other : Peer) → (cpu cpu' : Cpu) (since since' : ℕ) (stop stop' : Stop) → steppable machine t ≡ Some cpu → steppable machine t ≡ Some cpu' → n ≡ base + since → n ≡ base + since'
    → first_standing job backed machine cpu since ≡ Some stop → first_standing job backed machine cpu' since' ≡ Some stop' → first_view job machine cpu since stop ≡ first_view job machine cpu' since' stop'
two-views job backed machine base n t one other cpu cpu' since since' stop stop' live live' count count' stands stands' =
    let cpus : cpu ≡ cpu' = some-injective (sym live ∙ live') in
    let sinces : since ≡ since' = same-since n base since since' count count' in
    let stops : stop ≡ stop' = some-injective (sym stands ∙ (ap₂ (first_standing job backed machine) cpus sinces ∙ stands')) in
    ap₂ (λ (c : Cpu) (k : ℕ). first_view job machine c k stop) cpus sinces ∙ ap (first_view job machine cpu' since') stops
  where
    same-since : (n b k l : ℕ) → n ≡ b + k → n ≡ b + l → k ≡ l
    same-since n b k l e f = omega arith

module _ (job : Job) (rows : Rows) (free : RaceFree job.program) (lacks : TakesByLocks job.program job.chosen) (core : Core) (s : Steps) (g : Going job rows core s) (t : ℕ) (lives : lives_on core.kernel t ≡ true) where
  abbrev pub first : IsFirst job.program job.chosen g.common.backed rows g.copies s.first
  first = runs-first job.program job.chosen free lacks g.common.backed rows g.runs

  module _ (n : ℕ) (r : Peer) (c : Copy) (k : slice_get g.copies n ≡ Some c) (p : Tied job g.common core.kernel core.output core.blocked s.taken n r c) (x : Thread) (there : slice_get r.replica.threads t ≡ Some x) (stop : Stop) (at : x.stop ≡ Some stop) where
    abbrev pub b : IsBehind job.program job.chosen g.common.backed s.first first.machine c
    b = first.behind n c k

    memory_is : c.machine.memory ≡ r.replica.memory
    memory_is = ap (λ (m : Machine). m.memory) p.is.machine_is

    live : steppable c.machine t ≡ Some x.cpu
    live = ap (λ (m : Machine). steppable m t) p.is.machine_is ∙ live-in core.kernel core.output r t x there lives

    stands : standing (layout_here job core) job.settings.watchdog r.replica.backed r.replica.memory x.cpu x.since ≡ Some stop
    stands = (voted-parts r.mutexes _ stop (p.stops t x stop tt lives there at)).0

    -- a thread at the watchdog is behind by no step, since no peer's passes it
    watch-apart : (x.since == job.settings.watchdog) ≡ true → Without t b.rest
    watch-apart e =
        let a : Attained g.copies s.first t = runs-attained job.program job.chosen g.common.backed rows g.runs t in
        let h = each-back _ core.peers g.copies g.each a.number a.copy a.there in
        let y = thread-made core.kernel.lives h.0.replica.threads t h.2.is.all_made lives in
        let q = h.2.counted t y.0 y.1 in
        without-none t b.rest (none (times t s.first) (times t a.copy.taken) (times t c.taken) (times t b.rest) (g.common.base t) y.0.since x.since job.settings.watchdog (sym a.all) q.0 q.1 (p.counted t x there).0 (b.counts t) (eqb-true x.since job.settings.watchdog e))
      where
        none : (f a c r base y x w : ℕ) → f ≡ a → a ≡ base + y → y < suc w → c ≡ base + x → f ≡ c + r → x ≡ w → r ≡ 0
        none f a c r base y x w e1 e2 e3 e4 e5 e6 = omega arith

    -- nor is one at a page fault
    at-fault : (page : ℕ) → next (layout_here job core) r.replica.backed r.replica.memory x.cpu ≡ Stands (PageFault page) → is_backed job.program g.common.backed c.machine t ≡ false
    unfolding is_backed
    at-fault page e =
        ap (λ (o : Option Cpu). option_map_or (λ cpu. not (is_fault (next (layout_in job.program c.machine.kernel) g.common.backed c.machine.memory cpu))) o false) live
        ∙ (ap₂ (λ (w : Backed) (m : Machine). not (is_fault (next (layout_in job.program m.kernel) w m.memory x.cpu))) (sym p.backed_is) p.is.machine_is
        ∙ (ap (λ (l : Layout). not (is_fault (next l r.replica.backed r.replica.memory x.cpu))) (layout-in job.program core.kernel r)
        ∙ ap (λ (w : Next). not (is_fault w)) e))

    fault-apart : (page : ℕ) → next (layout_here job core) r.replica.backed r.replica.memory x.cpu ≡ Stands (PageFault page) → Without t b.rest
    fault-apart page e =
        without-none t b.rest (none-left (times t c.taken) (times t b.rest) (times t s.first) (b.counts t) (fault-at-front job.program job.chosen free lacks g.common.backed s.first first.machine first.goes_on c b t x.cpu live (at-fault page e)))
      where
        none-left : (n m f : ℕ) → f ≡ n + m → n ≡ f → m ≡ 0
        none-left n m f e h = omega arith

    turn-apart : turn_of job.program job.chosen (machine_of core.kernel core.output r) t ≡ Serves → Without t b.rest
    turn-apart e = served-not-behind job.program job.chosen free lacks g.common.backed s.first first.machine first.goes_on c b t x.cpu live (ap (λ (m : Machine). turn_of job.program job.chosen m t) p.is.machine_is ∙ e)

    -- whatever the machine's own watchdog is
    watch-next : (w z : Next) → SameNext r.replica.backed w z → w ≡ Stands Watchdog → z ≡ Stands Watchdog
    watch-next w z same_next e = e
    watch-next (Stands (PageFault page)) z (stands_at_page h) e = absurd (let f : Stands (PageFault page) ≡ Stands Watchdog = e in cc)

    next-is : (x.since == job.settings.watchdog) ≡ false → next (layout_here job core) r.replica.backed r.replica.memory x.cpu ≡ Stands stop
    next-is e = from (next (layout_here job core) r.replica.backed r.replica.memory x.cpu) (sym (ap (λ (z : Bool). cond z (Some Watchdog) (stop_in (next (layout_here job core) r.replica.backed r.replica.memory x.cpu))) e) ∙ stands)
      where
        from : (w : Next) → stop_in w ≡ Some stop → w ≡ Stands stop
        from (Stands z) f = ap Stands (some-injective f)
        from (Executes instr) f = absurd (let h : None ≡ Some stop = f in cc)

    by-stop : (z : Stop) → stop ≡ z → (x.since == job.settings.watchdog) ≡ false → Without t b.rest
    by-stop (Calls call) e q = turn-apart (turn-here job lacks core.kernel core.output r c p.is p.stops t lives x there (Calls call) (at ∙ ap Some e) a_call)
    by-stop (Trap code) e q = turn-apart (turn-here job lacks core.kernel core.output r c p.is p.stops t lives x there (Trap code) (at ∙ ap Some e) a_trap)
    by-stop (PageFault page) e q = fault-apart page (next-is q ∙ ap Stands e)
    by-stop Watchdog e q =
        turn-apart (turn-at job.program job.chosen (machine_of core.kernel core.output r) t x.cpu (live-in core.kernel core.output r t x there lives)
        ∙ ap (turn_by job.program job.chosen (machine_of core.kernel core.output r).kernel t) (ap (λ (l : Layout). next l all_backed r.replica.memory x.cpu) (layout-in job.program core.kernel r)
        ∙ watch-next _ _ (next-same-backed (layout_here job core) r.replica.backed r.replica.memory x.cpu) (next-is q ∙ ap Stands e)))

    pub apart : Without t b.rest
    apart = by (x.since == job.settings.watchdog) refl
      where
        by : (z : Bool) → (x.since == job.settings.watchdog) ≡ z → Without t b.rest
        by true q = watch-apart q
        by false q = by-stop stop refl q

    through : Stays job.program c.machine first.machine t x.cpu
    through = stays-through job.program job.chosen free lacks c.taken c.machine first.machine t b.rest x.cpu b.reached apart b.runs first.goes_on live

    first-count : times t s.first ≡ g.common.base t + x.since
    first-count = b.counts t ∙ none-more (times t s.first) (times t c.taken) (times t b.rest) (g.common.base t + x.since) (none-of t b.rest apart) (p.counted t x there).0
      where
        none-more : (f c r d : ℕ) → r ≡ 0 → c ≡ d → c + r ≡ d
        none-more f c r d e h = omega arith

        none-of : (t : ℕ) (xs : List ℕ) → Without t xs → times t xs ≡ 0
        none-of t [] h = refl
        none-of t (y ∷ xs) h = zero-more (cond (y == t) 1 0) (times t xs) (bit (y == t) refl) (none-of t xs h.1)
          where
            bit : (z : Bool) → (y == t) ≡ z → cond {A = ℕ} z 1 0 ≡ 0
            bit true q = absurd (h.0 (eqb-true y t q))
            bit false q = refl

            zero-more : (i j : ℕ) → i ≡ 0 → j ≡ 0 → i + j ≡ 0
            zero-more i j e f = omega arith

    first-stands : first_standing job g.common.backed first.machine x.cpu x.since ≡ Some stop
    first-stands =
        sym (ap (λ (w : Next). cond (x.since == job.settings.watchdog) (Some Watchdog) (stop_in w))
        (ap₂ (λ (w : Backed) (l : Layout). next l w r.replica.memory x.cpu) p.backed_is (sym (layout-in job.program core.kernel r))
        ∙ (ap (λ (m : Machine). next (layout_in job.program m.kernel) g.common.backed m.memory x.cpu) (sym p.is.machine_is)
        ∙ through.next_stays g.common.backed)))
        ∙ stands

    -- what it is about to write
    same-payload : (z : Stop) → stop ≡ z → payload_at (ranges_here job core) r.replica.memory z ≡ payload_at (ranges_in (setup_of job.program) first.machine.kernel) first.machine.memory z
    same-payload (Calls call) e =
        sym (payload-in job core.kernel core.output r call)
        ∙ (ap (λ (m : Machine). payload_in job.program m call) (sym p.is.machine_is)
        ∙ (call-first job.program job.chosen free lacks g.common.backed s.first first.machine first.goes_on c b t x.cpu (Calls call) live
        (ap (λ (m : Machine). next_of job.program m x.cpu) p.is.machine_is ∙ next-here job lacks core.kernel core.output r c p.is p.stops t lives x there (Calls call) (at ∙ ap Some e) a_call)
        (ap (λ (m : Machine). turn_of job.program job.chosen m t) p.is.machine_is ∙ turn-here job lacks core.kernel core.output r c p.is p.stops t lives x there (Calls call) (at ∙ ap Some e) a_call) call refl).payload)
    same-payload (Trap code) e = refl
    same-payload (PageFault page) e = refl
    same-payload Watchdog e = refl

    view-is : view_of (ranges_here job core) t r.replica ≡ Some (first_view job first.machine x.cpu x.since stop)
    view-is =
        ap (option_and_then (λ y. option_map (view_with (ranges_here job core) r.replica y) y.stop)) there
        ∙ (ap (option_map (view_with (ranges_here job core) r.replica x)) at
        ∙ ap (λ (bytes : List ℕ). Some (record { registers = x.cpu.registers; pc = x.cpu.pc; since = x.since; stop = stop; payload = bytes })) (same-payload stop refl))

  -- any two peers
  pub views-alike : ((n : ℕ) (peer : Peer) → slice_get core.peers n ≡ Some peer → Stopped peer t) → (n m : ℕ) (one other : Peer) → slice_get core.peers n ≡ Some one → slice_get core.peers m ≡ Some other → view_of (ranges_here job core) t one.replica ≡ view_of (ranges_here job core) t other.replica
  views-alike stopped n m one other e f =
      let h = each-get _ core.peers g.copies g.each n one e in
      let k = each-get _ core.peers g.copies g.each m other f in
      let x = stopped n one e in
      let y = stopped m other f in
      view-is n one h.0 h.1 h.2 x.0 x.1 x.2 x.3
      ∙ (ap Some (two-views job g.common.backed first.machine (g.common.base t) (times t s.first) t one other x.0.cpu y.0.cpu x.0.since y.0.since x.2 y.2
      (through n one h.0 h.1 h.2 x.0 x.1 x.2 x.3).live (through m other k.0 k.1 k.2 y.0 y.1 y.2 y.3).live
      (first-count n one h.0 h.1 h.2 x.0 x.1 x.2 x.3) (first-count m other k.0 k.1 k.2 y.0 y.1 y.2 y.3)
      (first-stands n one h.0 h.1 h.2 x.0 x.1 x.2 x.3) (first-stands m other k.0 k.1 k.2 y.0 y.1 y.2 y.3))
      ∙ sym (view-is m other k.0 k.1 k.2 y.0 y.1 y.2 y.3))
