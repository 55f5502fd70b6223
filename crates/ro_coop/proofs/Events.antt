-- A call that the kernel serves is a step of each copy that it serves, and each peer is its copy afterwards.
use Rattle.std.specs.Prelude.{◌≡◌, ◌≢◌, ℕ, zero, suc, ◌+◌, ◌<◌, Bool, true, false, cond, List, [], ◌∷◌, ◌++◌, length, map, Option, Some, None, slice_get, slice_set, slice_index_or}
use Rattle.std.proofs.Common.{refl, sym, ap, ap₂, ◌∙◌, subst, arith, length-append}
use Rattle.std.proofs.lemmas.List.{map-set}
use Rattle.std.proofs.lemmas.Option.{slice_get_within, get_or_from_slice_get}
use Rattle.ro_event.specs.declared.calls.Call.{Call}
use Rattle.ro_event.specs.declared.effects.Made.{Made}
use Rattle.ro_event.specs.declared.stops.Stop.{Stop}
use Rattle.ro_event.specs.declared.stops.Stop.TheVariants.{Calls, PageFault}
use Rattle.ro_event.specs.Effects.{Effect}
use Rattle.ro_pages.specs.Bytes.{Memory, stored}
use Rattle.ro_exec.specs.declared.Cpu.{Cpu}
use Rattle.ro_exec.specs.Next.{Layout, Backed, next}
use Rattle.ro_exec.specs.Threads.{made_cpu, cpu_after}
use Rattle.ro_exec.proofs.Backing.{a_call}
use Rattle.ro_kernel.specs.Kernel.{Kernel, ranges_in, lives_on}
use Rattle.ro_kernel.specs.Serve.{Served, Done, serve, payload_of, put_out, asked}
use Rattle.ro_kernel.proofs.Kept.{IsOwn}
use Rattle.ro_thread.specs.declared.Thread.{Thread}
use Rattle.ro_thread.specs.Stops.{standing}
use Rattle.ro_replica.specs.Replica.{changed_at, thread_after, with_made, is_cancelled, without_cancelled, applied, cancelled}
use Rattle.ro_plain.specs.Machine.{layout_in, setup_of, payload_in, Machine, opening, with_made as machine_made, called, step_by, step, run}
use Rattle.ro_plain.specs.Order.{RaceFree}
use Rattle.ro_plain.proofs.Calls.{some-injective, step-at}
use Rattle.ro_plain.proofs.StaysAfter.{Stays, stays}
use Rattle.ro_simulation.proofs.Effects.{more-after, made-is, IsOf, ThreadAfter, as_before, its_own, newly_made, thread-cases, stands-later}
use Rattle.ro_legal.proofs.Effects.{backed_after, threads_after}
use Rattle.ro_legal.proofs.Lists.{get-set-same, get-map, MappedFrom, changed-is-set, length-mapped, length-changed}
use Rattle.ro_legal.proofs.Served.{IsTidy, made_count}
use Rattle.ro_orders.specs.Turns.{turn_of, TakesByLocks}
use Rattle.ro_orders.specs.Copies.{Copy, IsServed}
use Rattle.ro_peer.specs.declared.mutexes.Mutex.{Mutex}
use Rattle.ro_peer.specs.Peers.{Peer, with_mutexes, cpu_in, kernel_in, machine_of}
use Rattle.ro_peer.specs.Gets.{is_own_call}
use Rattle.ro_peer.specs.Events.{without_own}
use Rattle.ro_coop.specs.Core.{Job, entered_by, peer_after_event}
use Rattle.ro_coop.proofs.Ended.{ended, ended_served}
use Rattle.ro_coop.proofs.Tables.{AllAvoid, served_with, kernel-in, layout-in, serve-in}
use Rattle.ro_coop.proofs.Leases.{live-in}
use Rattle.ro_coop.proofs.Puts.{IsCopy, StopsStand, AnyThread}
use Rattle.ro_coop.proofs.Standing.{voted-parts, voted-from, next-here, live-here, turn-here, avoids-here}
use Rattle.ro_coop.proofs.Entered.{InBoth, in_first, in_second, in-both, in-none, with-append, entered-kernel, entered-coop, entered-rank, entered-complete}

-- ---- registers

pub changed-there : (effect : Effect) (threads : List Thread) (t : ℕ) (x : Thread) → slice_get threads t ≡ Some x → slice_get (changed_at (thread_after effect) threads t) t ≡ Some (thread_after effect x)
changed-there effect threads t x there =
    ap (λ (xs : List Thread). slice_get xs t) (changed-is-set (thread_after effect) threads t x there) ∙ get-set-same threads t x _ there

map-last : (xs : List Thread) (y : Thread) → map cpu_in (xs ++ y ∷ []) ≡ map cpu_in xs ++ y.cpu ∷ []
map-last [] y = refl
map-last (x ∷ xs) y = ap {B = List Cpu} (λ (r : List Cpu). x.cpu ∷ r) (map-last xs y)

module _ (effect : Effect) (threads : List Thread) (t : ℕ) (x : Thread) (there : slice_get threads t ≡ Some x) where
  cpus-changed : map cpu_in (changed_at (thread_after effect) threads t) ≡ slice_set (map cpu_in threads) t (cpu_after effect x.cpu)
  cpus-changed = ap (map cpu_in) (changed-is-set (thread_after effect) threads t x there) ∙ map-set cpu_in threads t (thread_after effect x)

  get-cpu : slice_get (map cpu_in (changed_at (thread_after effect) threads t)) t ≡ Some (cpu_after effect x.cpu)
  get-cpu = at (changed_at (thread_after effect) threads t) t (thread_after effect x) (changed-there effect threads t x there)
    where
      at : (xs : List Thread) (i : ℕ) (y : Thread) → slice_get xs i ≡ Some y → slice_get (map cpu_in xs) i ≡ Some y.cpu
      at [] i y e = absurd (let f : None ≡ Some y = e in cc)
      at (z ∷ xs) zero y e = ap (λ (w : Thread). Some w.cpu) (some-injective e)
      at (z ∷ xs) (suc i) y e = at xs i y e

  cpus-made : (made : Option Made) → ((m : Made) → made ≡ Some m → m.creator ≡ t) → map cpu_in (with_made made (changed_at (thread_after effect) threads t)) ≡ machine_made made x.cpu (slice_set (map cpu_in threads) t (cpu_after effect x.cpu))
  cpus-made None creator = cpus-changed
  cpus-made (Some made) creator =
      ap (map cpu_in) (made-is made (changed_at (thread_after effect) threads t) t (thread_after effect x) (changed-there effect threads t x there) (creator made refl))
      ∙ (map-last (changed_at (thread_after effect) threads t) _
      ∙ (ap₂ (λ (c : Cpu) (n : ℕ). map cpu_in (changed_at (thread_after effect) threads t) ++ made_cpu made c n ∷ [])
      (sym (ap (λ (i : ℕ). slice_index_or (map cpu_in (changed_at (thread_after effect) threads t)) i x.cpu) (creator made refl) ∙ get_or_from_slice_get (map cpu_in (changed_at (thread_after effect) threads t)) t (cpu_after effect x.cpu) x.cpu get-cpu))
      (sym (length-mapped cpu_in (changed_at (thread_after effect) threads t)))
      ∙ ap (machine_made (Some made) x.cpu) cpus-changed))

-- what is cancelled or forgotten keeps its registers
pub cpus-kept : (f : Thread → Thread) → ((x : Thread) → (f x).cpu ≡ x.cpu) → (xs : List Thread) → map cpu_in (map f xs) ≡ map cpu_in xs
cpus-kept f h [] = refl
cpus-kept f h (x ∷ xs) = ap₂ (λ (c : Cpu) (r : List Cpu). c ∷ r) (h x) (cpus-kept f h xs)

-- ---- stops

-- a stop that is neither cancelled nor forgotten
pub kept-bit : (b : Bool) (o : Option Stop) (stop : Stop) → cond b None o ≡ Some stop → (b ≡ false) × (o ≡ Some stop)
kept-bit true o stop e = absurd (let f : None ≡ Some stop = e in cc)
kept-bit false o stop e = (refl, e)

pub unbacked : (backed : Backed) (o : Option Stop) (stop : Stop) → is_cancelled backed o ≡ false → o ≡ Some stop → (page : ℕ) → stop ≡ PageFault page → backed page ≡ false
unbacked backed o stop e f page g = ap (is_cancelled backed) (sym (f ∙ ap Some g)) ∙ e

-- ---- what a call asks

-- it is on the same mutexes with the word that it finds
pub avoid-asked : (call : Call) (bytes : List ℕ) (mutexes : List Mutex) → AllAvoid call mutexes → AllAvoid (asked call bytes) mutexes
avoid-asked call bytes [] h = tt
avoid-asked call bytes (m ∷ mutexes) h = (h.0, avoid-asked call bytes mutexes h.1)

-- the bytes that are compared of it are those of the machine
pub payload-in : (job : Job) (kernel : Kernel) (output : List ℕ) (peer : Peer) (call : Call) → payload_in job.program (machine_of kernel output peer) call ≡ payload_of (ranges_in (setup_of job.program) kernel) peer.replica.memory call
payload-in job kernel output peer call = ap (λ (l : Layout). payload_of l.ranges peer.replica.memory call) (layout-in job.program kernel peer)

-- ---- one peer

module _ (job : Job) (free : RaceFree job.program) (lacks : TakesByLocks job.program job.chosen) (kernel : Kernel) (output : List ℕ) (peer : Peer) (copy : Copy) (c : IsCopy job kernel output peer copy) (stops : StopsStand job kernel AnyThread peer) (reached : run job.program (opening job.program) copy.taken ≡ Some copy.machine) (t : ℕ) (alive : lives_on kernel t ≡ true) (x : Thread) (there : slice_get peer.replica.threads t ≡ Some x) (call : Call) (stopped : x.stop ≡ Some (Calls call)) (none : peer.answered t ≡ false) (bytes : List ℕ) (reads : payload_of (ranges_in (setup_of job.program) kernel) peer.replica.memory call ≡ bytes) (after : Kernel) (effect : Effect) (served : serve (setup_of job.program) kernel t (asked call bytes) ≡ Done after effect) (own : IsOwn kernel t after effect) (tidy : IsTidy kernel t after effect) where
  abbrev entered : List Mutex
  entered = entered_by job.chosen kernel after (Some (Calls call))

  abbrev written : List ℕ
  written = put_out call.which bytes

  served-here : serve (setup_of job.program) (kernel_in kernel peer) t (asked call bytes) ≡ Done (with_mutexes (ended peer.answered after) peer.mutexes) effect
  served-here =
      serve-in job.chosen job.one_enters kernel peer c.all (setup_of job.program) t (asked call bytes) (avoid-asked call bytes peer.mutexes (avoids-here job lacks kernel output peer copy c stops t alive x there (Calls call) stopped call refl)) none
      ∙ ap (λ (s : Served). served_with peer.mutexes (ended_served peer.answered s)) served

  same-kernel : with_mutexes (ended peer.answered after) peer.mutexes ≡ kernel_in after (peer_after_event effect entered peer)
  same-kernel =
      sym (kernel-in after (peer_after_event effect entered peer)
      ∙ (with-append (ended peer.answered after) peer.mutexes entered
      ∙ ap (λ (k : Kernel). with_mutexes k peer.mutexes) (entered-kernel job.chosen job.one_enters (setup_of job.program) kernel after t (asked call bytes) effect served peer.answered)))

  same-cpus : machine_made effect.made x.cpu (slice_set (map cpu_in peer.replica.threads) effect.thread (cpu_after effect x.cpu)) ≡ map cpu_in (peer_after_event effect entered peer).replica.threads
  unfolding applied cancelled
  same-cpus =
      sym (cpus-kept (without_own (peer.mutexes ++ entered)) (λ y. refl) (map (without_cancelled (backed_after effect peer.replica.backed)) (threads_after effect peer.replica.threads))
      ∙ (cpus-kept (without_cancelled (backed_after effect peer.replica.backed)) (λ y. refl) (threads_after effect peer.replica.threads)
      ∙ (ap (λ (n : ℕ). map cpu_in (with_made effect.made (changed_at (thread_after effect) peer.replica.threads n))) own.thread_is
      ∙ (cpus-made effect peer.replica.threads t x there effect.made own.creator_is
      ∙ ap (λ (n : ℕ). machine_made effect.made x.cpu (slice_set (map cpu_in peer.replica.threads) n (cpu_after effect x.cpu))) (sym own.thread_is)))))

  same-memory : stored peer.replica.memory effect.place effect.bytes ≡ (peer_after_event effect entered peer).replica.memory
  unfolding applied cancelled
  same-memory = refl

  read-here : payload_in job.program (machine_of kernel output peer) call ≡ bytes
  read-here = payload-in job kernel output peer call ∙ reads

  pub served-step : step job.program (machine_of kernel output peer) t ≡ Some (machine_of after (output ++ written) (peer_after_event effect entered peer))
  served-step =
      step-at job.program (machine_of kernel output peer) t x.cpu (live-here job lacks kernel output peer copy c stops t alive x there (Calls call) stopped)
      ∙ (ap (step_by job.program (machine_of kernel output peer) t x.cpu) (next-here job lacks kernel output peer copy c stops t alive x there (Calls call) stopped a_call)
      ∙ (ap (λ (xs : List ℕ). called (machine_of kernel output peer) x.cpu (put_out call.which xs) (serve (setup_of job.program) (kernel_in kernel peer) t (asked call xs))) read-here
      ∙ (ap (called (machine_of kernel output peer) x.cpu written) served-here
      ∙ (ap₂ (λ (cpus : List Cpu) (k : Kernel). Some (record { memory = stored peer.replica.memory effect.place effect.bytes; cpus = cpus; kernel = k; output = output ++ written; ended = None })) same-cpus same-kernel
      ∙ ap (λ (m : Memory). Some (record { memory = m; cpus = map cpu_in (peer_after_event effect entered peer).replica.threads; kernel = kernel_in after (peer_after_event effect entered peer); output = output ++ written; ended = None })) same-memory))))

  abbrev pub copy_after : Copy
  copy_after = record { taken = copy.taken ++ t ∷ []; machine = machine_of after (output ++ written) (peer_after_event effect entered peer); got = copy.got }

  pub is-served : IsServed job.program job.chosen t copy copy_after
  is-served = record {
    steps = ap (λ (m : Machine). step job.program m t) c.machine_is ∙ served-step;
    served = ap (λ (m : Machine). turn_of job.program job.chosen m t) c.machine_is ∙ turn-here job lacks kernel output peer copy c stops t alive x there (Calls call) stopped a_call;
    goes_on = refl;
    taken = refl;
    got = λ m. refl;
  }

  length-made : (made : Option Made) (threads : List Thread) → 0 < length threads → length (with_made made threads) ≡ length threads + made_count made
  length-made None threads h = omega arith
  length-made (Some made) [] h = absurd (omega arith)
  length-made (Some made) (thread ∷ threads) h = length-append (thread ∷ threads) _

  some-thread : 0 < length peer.replica.threads
  some-thread = let short = slice_get_within peer.replica.threads t x there in omega arith

  made-after : length (peer_after_event effect entered peer).replica.threads ≡ length after.lives
  unfolding applied cancelled
  made-after =
      length-mapped _ (map (without_cancelled (backed_after effect peer.replica.backed)) (threads_after effect peer.replica.threads))
      ∙ (length-mapped _ (threads_after effect peer.replica.threads)
      ∙ (length-made effect.made (changed_at (thread_after effect) peer.replica.threads effect.thread) (subst (λ (n : ℕ). 0 < n) (sym (length-changed (thread_after effect) peer.replica.threads effect.thread)) some-thread)
      ∙ (ap (λ (n : ℕ). n + made_count effect.made) (length-changed (thread_after effect) peer.replica.threads effect.thread ∙ c.all_made)
      ∙ sym tidy.one_life_each)))

  ranks-by : (m : ℕ) (y : Mutex) → InBoth peer.mutexes entered m y → length (copy.got m) ≡ y.rank
  ranks-by m y (in_first e) = c.ranks m y e
  ranks-by m y (in_second none e) = ap length (c.fresh m none) ∙ sym (entered-rank job.chosen job.one_enters (setup_of job.program) kernel after t (asked call bytes) effect served m y e)

  pub copy-served : IsCopy job after (output ++ written) (peer_after_event effect entered peer) copy_after
  copy-served = record {
    machine_is = refl;
    ranks = λ m y e. ranks-by m y (in-both peer.mutexes entered m y e);
    fresh = λ m e. c.fresh m (in-none peer.mutexes entered m e);
    all = entered-coop job.chosen job.one_enters (setup_of job.program) kernel after t (asked call bytes) effect served peer.mutexes c.all;
    complete = entered-complete job.chosen job.one_enters (setup_of job.program) kernel after t (asked call bytes) effect served peer.mutexes c.complete;
    all_made = made-after;
  }

  -- ---- the stops that are left

  is_of : IsOf effect t
  is_of = record { thread_is = own.thread_is; creator_is = own.creator_is }

  stays-other : (number : ℕ) (y : Thread) → number ≢ t → slice_get peer.replica.threads number ≡ Some y → lives_on kernel number ≡ true → Stays job.program (machine_of kernel output peer) (machine_of after (output ++ written) (peer_after_event effect entered peer)) number y.cpu
  stays-other number y different at living =
      stays job.program free copy.taken (machine_of kernel output peer) (reached ∙ ap Some c.machine_is) t number (λ e. different (sym e)) (machine_of after (output ++ written) (peer_after_event effect entered peer)) served-step refl y.cpu
      (live-in kernel output peer number y at living)

  -- another thread that lives after the call lived before it
  alive-before : (number : ℕ) (y : Thread) → number ≢ t → slice_get peer.replica.threads number ≡ Some y → lives_on after number ≡ true → lives_on kernel number ≡ true
  alive-before number y different at living =
      let short = slice_get_within peer.replica.threads number y at in
      let many = c.all_made in
      tidy.stays_dead number different (omega arith) living

  next-other : (number : ℕ) (y : Thread) → number ≢ t → slice_get peer.replica.threads number ≡ Some y → lives_on kernel number ≡ true → next (layout_in job.program kernel) peer.replica.backed peer.replica.memory y.cpu ≡ next (layout_in job.program after) peer.replica.backed (peer_after_event effect entered peer).replica.memory y.cpu
  next-other number y different at living =
      ap (λ (l : Layout). next l peer.replica.backed peer.replica.memory y.cpu) (sym (layout-in job.program kernel peer))
      ∙ ((stays-other number y different at living).next_stays peer.replica.backed
      ∙ ap (λ (l : Layout). next l peer.replica.backed (peer_after_event effect entered peer).replica.memory y.cpu) (layout-in job.program after (peer_after_event effect entered peer)))

  module _ (number : ℕ) (stop : Stop) (living : lives_on after number ≡ true) (free_of : is_own_call (peer.mutexes ++ entered) stop ≡ false) where
    by-thread : (y : Thread) → ThreadAfter effect peer.replica.threads t x number y → y.stop ≡ Some stop → is_cancelled (backed_after effect peer.replica.backed) y.stop ≡ false
        → standing (layout_in job.program after) job.settings.watchdog (backed_after effect peer.replica.backed) (peer_after_event effect entered peer).replica.memory y.cpu y.since ≡ Some stop
    by-thread y (as_before d e) was uncancelled =
        let old = alive-before number y d e living in
        stands-later (layout_in job.program kernel) (layout_in job.program after) job.settings.watchdog peer.replica.backed (backed_after effect peer.replica.backed) peer.replica.memory (peer_after_event effect entered peer).replica.memory y.cpu y.since stop (more-after effect peer.replica.backed)
        (next-other number y d e old) (unbacked (backed_after effect peer.replica.backed) y.stop stop uncancelled was)
        (voted-parts peer.mutexes _ stop (stops number y stop tt old e was)).0
    by-thread y (its_own d g) was uncancelled =
        absurd (let f : None ≡ Some stop = sym (ap (λ (b : Bool). cond b None x.stop) tidy.goes_on) ∙ (ap (λ (z : Thread). z.stop) g ∙ was) in cc)
    by-thread y (newly_made made e n g) was uncancelled =
        absurd (let f : None ≡ Some stop = ap (λ (z : Thread). z.stop) g ∙ was in cc)

  pub stops-served : StopsStand job after AnyThread (peer_after_event effect entered peer)
  unfolding applied cancelled
  stops-served number thread stop any living at was =
      let one : MappedFrom (without_own (peer.mutexes ++ entered)) (map (without_cancelled (backed_after effect peer.replica.backed)) (threads_after effect peer.replica.threads)) number thread = get-map (without_own (peer.mutexes ++ entered)) _ number thread at in
      let two : MappedFrom (without_cancelled (backed_after effect peer.replica.backed)) (threads_after effect peer.replica.threads) number one.from = get-map (without_cancelled (backed_after effect peer.replica.backed)) _ number one.from one.there in
      let y = two.from in
      let parts = voted-parts (peer.mutexes ++ entered) one.from.stop stop (ap (λ (z : Thread). z.stop) one.gives ∙ was) in
      let kept = kept-bit (is_cancelled (backed_after effect peer.replica.backed) y.stop) y.stop stop (ap (λ (z : Thread). z.stop) two.gives ∙ parts.0) in
      voted-from (peer.mutexes ++ entered) _ stop
      (ap (λ (z : Thread). standing (layout_in job.program after) job.settings.watchdog (backed_after effect peer.replica.backed) (peer_after_event effect entered peer).replica.memory z.cpu z.since) (sym one.gives)
      ∙ (ap (λ (z : Thread). standing (layout_in job.program after) job.settings.watchdog (backed_after effect peer.replica.backed) (peer_after_event effect entered peer).replica.memory z.cpu z.since) (sym two.gives)
      ∙ by-thread number stop living parts.1 y (thread-cases effect peer.replica.threads t x number y is_of there two.there) kept.1 kept.0)) parts.1
