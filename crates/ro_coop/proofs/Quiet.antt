-- An event that serves no call leaves each copy as it is.
use Rattle.std.specs.Prelude.{◌≡◌, ℕ, Bool, true, false, cond, List, [], length, map, Option, Some, None, ◌==◌, slice_get}
use Rattle.std.proofs.Common.{refl, sym, ap, ◌∙◌, subst, append-nil}
use Rattle.ro_event.specs.declared.calls.Call.{Call}
use Rattle.ro_event.specs.declared.stops.Stop.{Stop}
use Rattle.ro_event.specs.declared.stops.Stop.TheVariants.{Calls, Watchdog}
use Rattle.ro_event.specs.Effects.{Effect}
use Rattle.ro_exec.specs.declared.Cpu.{Cpu}
use Rattle.ro_exec.specs.Next.{next, stop_in}
use Rattle.ro_exec.proofs.Backing.{a_call}
use Rattle.ro_kernel.specs.Kernel.{Kernel, lives_on}
use Rattle.ro_thread.specs.declared.Thread.{Thread}
use Rattle.ro_thread.specs.Stops.{standing}
use Rattle.ro_replica.specs.Replica.{thread_after, is_cancelled, without_cancelled, applied, cancelled}
use Rattle.ro_plain.specs.Machine.{layout_in}
use Rattle.ro_legal.specs.Event.{quiet_effect}
use Rattle.ro_simulation.proofs.Effects.{more-after, IsOf, ThreadAfter, as_before, its_own, newly_made, thread-cases, stands-later}
use Rattle.ro_legal.proofs.Effects.{backed_after, threads_after}
use Rattle.ro_legal.proofs.Lists.{get-map, MappedFrom, length-mapped, length-changed}
use Rattle.ro_orders.specs.Copies.{Copy}
use Rattle.ro_peer.specs.declared.mutexes.Mutex.{Mutex}
use Rattle.ro_peer.specs.Peers.{Peer, cpu_in, machine_of}
use Rattle.ro_peer.specs.Events.{without_own}
use Rattle.ro_coop.specs.Core.{Job, peer_after_event}
use Rattle.ro_coop.proofs.Puts.{IsCopy, StopsStand, AnyThread, kept-cpus}
use Rattle.ro_coop.proofs.Standing.{voted-parts, voted-from, standing-next}
use Rattle.ro_coop.proofs.Events.{cpus-kept, kept-bit, unbacked}

-- the peer behind the event, with its mutexes
abbrev quiet_peer : Effect → List Mutex → Peer → Peer
quiet_peer effect mutexes peer = record {
  replica = record (cancelled (applied effect peer.replica)) { threads = map (without_own mutexes) (cancelled (applied effect peer.replica)).threads };
  mutexes = mutexes;
  answered = peer.answered;
}

module _ (job : Job) (kernel : Kernel) (output : List ℕ) (peer : Peer) (copy : Copy) (c : IsCopy job kernel output peer copy) (stops : StopsStand job kernel AnyThread peer) (t : ℕ) (page : Option ℕ) (releases : Bool) where
  same-cpus : map cpu_in (quiet_peer (quiet_effect t page releases) peer.mutexes peer).replica.threads ≡ map cpu_in peer.replica.threads
  unfolding applied cancelled
  same-cpus =
      cpus-kept (without_own peer.mutexes) (λ y. refl) (map (without_cancelled (backed_after (quiet_effect t page releases) peer.replica.backed)) (threads_after (quiet_effect t page releases) peer.replica.threads))
      ∙ (cpus-kept (without_cancelled (backed_after (quiet_effect t page releases) peer.replica.backed)) (λ y. refl) (threads_after (quiet_effect t page releases) peer.replica.threads)
      ∙ kept-cpus (thread_after (quiet_effect t page releases)) (λ x. refl) peer.replica.threads t)

  same-machine : machine_of kernel output (quiet_peer (quiet_effect t page releases) peer.mutexes peer) ≡ machine_of kernel output peer
  unfolding applied cancelled
  same-machine = ap (λ (cpus : List Cpu). record (machine_of kernel output peer) { cpus = cpus }) same-cpus

  same-length : length (quiet_peer (quiet_effect t page releases) peer.mutexes peer).replica.threads ≡ length peer.replica.threads
  unfolding applied cancelled
  same-length =
      length-mapped _ (map (without_cancelled (backed_after (quiet_effect t page releases) peer.replica.backed)) (threads_after (quiet_effect t page releases) peer.replica.threads))
      ∙ (length-mapped _ (threads_after (quiet_effect t page releases) peer.replica.threads)
      ∙ length-changed (thread_after (quiet_effect t page releases)) peer.replica.threads t)

  copy-of : IsCopy job kernel output (quiet_peer (quiet_effect t page releases) peer.mutexes peer) copy
  copy-of = record { machine_is = c.machine_is ∙ sym same-machine; ranks = c.ranks; fresh = c.fresh; all = c.all; complete = c.complete; all_made = same-length ∙ c.all_made }

  -- no mutex is entered
  pub copy-quiet : IsCopy job kernel output (peer_after_event (quiet_effect t page releases) [] peer) copy
  copy-quiet = subst (λ (ms : List Mutex). IsCopy job kernel output (quiet_peer (quiet_effect t page releases) ms peer) copy) (sym (append-nil peer.mutexes)) copy-of

  module _ (watched : (0 == job.settings.watchdog) ≡ false) (alive : lives_on kernel t ≡ true) (x : Thread) (there : slice_get peer.replica.threads t ≡ Some x) (at_call : releases ≡ false → (call : Call) × (x.stop ≡ Some (Calls call))) where
    is_of : IsOf (quiet_effect t page releases) t
    is_of = record { thread_is = refl; creator_is = λ made (e : None ≡ Some made). absurd cc }

    -- a call that is left stands at a count that begins anew
    anew : (call : Call) → x.stop ≡ Some (Calls call) → standing (layout_in job.program kernel) job.settings.watchdog peer.replica.backed peer.replica.memory x.cpu 0 ≡ Some (Calls call)
    anew call e =
        ap (λ (b : Bool). cond b (Some Watchdog) (stop_in (next (layout_in job.program kernel) peer.replica.backed peer.replica.memory x.cpu))) watched
        ∙ ap stop_in (standing-next (layout_in job.program kernel) job.settings.watchdog peer.replica.backed peer.replica.memory x.cpu x.since (Calls call) a_call (voted-parts peer.mutexes _ (Calls call) (stops t x (Calls call) tt alive there e)).0)

    own-left : (b : Bool) → releases ≡ b → (stop : Stop) → cond b None x.stop ≡ Some stop → standing (layout_in job.program kernel) job.settings.watchdog peer.replica.backed peer.replica.memory x.cpu 0 ≡ Some stop
    own-left true e stop f = absurd (let g : None ≡ Some stop = f in cc)
    own-left false e stop f = let a = at_call e in anew a.0 a.1 ∙ (sym a.1 ∙ f)

    module _ (number : ℕ) (stop : Stop) (living : lives_on kernel number ≡ true) where
      by-thread : (y : Thread) → ThreadAfter (quiet_effect t page releases) peer.replica.threads t x number y → y.stop ≡ Some stop → is_cancelled (backed_after (quiet_effect t page releases) peer.replica.backed) y.stop ≡ false
          → standing (layout_in job.program kernel) job.settings.watchdog (backed_after (quiet_effect t page releases) peer.replica.backed) peer.replica.memory y.cpu y.since ≡ Some stop
      by-thread y (as_before d e) was uncancelled =
          stands-later (layout_in job.program kernel) (layout_in job.program kernel) job.settings.watchdog peer.replica.backed (backed_after (quiet_effect t page releases) peer.replica.backed) peer.replica.memory peer.replica.memory y.cpu y.since stop (more-after (quiet_effect t page releases) peer.replica.backed) refl
          (unbacked (backed_after (quiet_effect t page releases) peer.replica.backed) y.stop stop uncancelled was)
          (voted-parts peer.mutexes _ stop (stops number y stop tt living e was)).0
      by-thread y (its_own d g) was uncancelled =
          ap (λ (z : Thread). standing (layout_in job.program kernel) job.settings.watchdog (backed_after (quiet_effect t page releases) peer.replica.backed) peer.replica.memory z.cpu z.since) (sym g)
          ∙ stands-later (layout_in job.program kernel) (layout_in job.program kernel) job.settings.watchdog peer.replica.backed (backed_after (quiet_effect t page releases) peer.replica.backed) peer.replica.memory peer.replica.memory x.cpu 0 stop (more-after (quiet_effect t page releases) peer.replica.backed) refl
          (unbacked (backed_after (quiet_effect t page releases) peer.replica.backed) y.stop stop uncancelled was)
          (own-left releases refl stop (ap (λ (z : Thread). z.stop) g ∙ was))
      by-thread y (newly_made made e n g) was uncancelled = absurd (let f : None ≡ Some made = e in cc)

    stops-of : StopsStand job kernel AnyThread (quiet_peer (quiet_effect t page releases) peer.mutexes peer)
    unfolding applied cancelled
    stops-of number thread stop any living at was =
        let one : MappedFrom (without_own peer.mutexes) (map (without_cancelled (backed_after (quiet_effect t page releases) peer.replica.backed)) (threads_after (quiet_effect t page releases) peer.replica.threads)) number thread = get-map (without_own peer.mutexes) _ number thread at in
        let two : MappedFrom (without_cancelled (backed_after (quiet_effect t page releases) peer.replica.backed)) (threads_after (quiet_effect t page releases) peer.replica.threads) number one.from = get-map (without_cancelled (backed_after (quiet_effect t page releases) peer.replica.backed)) _ number one.from one.there in
        let y = two.from in
        let parts = voted-parts peer.mutexes one.from.stop stop (ap (λ (z : Thread). z.stop) one.gives ∙ was) in
        let kept = kept-bit (is_cancelled (backed_after (quiet_effect t page releases) peer.replica.backed) y.stop) y.stop stop (ap (λ (z : Thread). z.stop) two.gives ∙ parts.0) in
        voted-from peer.mutexes _ stop
        (ap (λ (z : Thread). standing (layout_in job.program kernel) job.settings.watchdog (backed_after (quiet_effect t page releases) peer.replica.backed) peer.replica.memory z.cpu z.since) (sym one.gives)
        ∙ (ap (λ (z : Thread). standing (layout_in job.program kernel) job.settings.watchdog (backed_after (quiet_effect t page releases) peer.replica.backed) peer.replica.memory z.cpu z.since) (sym two.gives)
        ∙ by-thread number stop living y (thread-cases (quiet_effect t page releases) peer.replica.threads t x number y is_of there two.there) kept.1 kept.0)) parts.1

    pub stops-quiet : StopsStand job kernel AnyThread (peer_after_event (quiet_effect t page releases) [] peer)
    stops-quiet = subst (λ (ms : List Mutex). StopsStand job kernel AnyThread (quiet_peer (quiet_effect t page releases) ms peer)) (sym (append-nil peer.mutexes)) stops-of
