-- What holds behind the first step of a wait: where a thread stands at one no mutex is cooperative, and the step is one of each copy.
use Rattle.std.specs.Prelude.{◌≡◌, ◌≢◌, ℕ, suc, ◌+◌, Bool, true, false, not, ◌&&◌, ◌==◌, cond, List, [], ◌∷◌, ◌++◌, length, map, Some, None, if◌then◌else◌, slice_get}
use Rattle.std.proofs.Common.{refl, sym, ap, ◌∙◌, subst, arith, ⊎_elim, append-nil}
use Rattle.std.proofs.lemmas.Bool.{true≢false, false≢true, eq-eqb, cases_eq, false_from_ne_true}
use Rattle.ro_event.specs.declared.calls.Which.TheVariants.{Function}
use Rattle.ro_event.specs.declared.functions.Function.TheVariants.{Wait}
use Rattle.ro_event.specs.declared.calls.Call.{Call}
use Rattle.ro_event.specs.declared.stops.Stop.TheVariants.{Calls}
use Rattle.ro_journal.specs.declared.Did.TheVariants.{Blocked as WasBlocked}
use Rattle.ro_condition.proofs.Whose.{is_waiting}
use Rattle.ro_mutex.specs.Owners.{Owners}
use Rattle.ro_exec.specs.Next.{Layout}
use Rattle.ro_exec.proofs.Backing.{a_call}
use Rattle.ro_kernel.specs.declared.Life.{Life}
use Rattle.ro_kernel.specs.Kernel.{Kernel, live_option, lives_on}
use Rattle.ro_kernel.specs.Serve.{Served, Parked, serve, is_write, is_atomic, put_out, asked}
use Rattle.ro_kernel.proofs.Given.{given-parked}
use Rattle.ro_kernel.proofs.InTable.{InTable, stays-in-table, OwnersAfter, one_freed, owners-after}
use Rattle.ro_kernel.proofs.Kept.{Own, parked, serve-own}
use Rattle.ro_kernel.proofs.Waiting.{parked-waits, begun-others, begun-now}
use Rattle.ro_thread.specs.declared.Thread.{Thread}
use Rattle.ro_replica.specs.Runs.{standing_in}
use Rattle.ro_replica.specs.Views.{payload_at}
use Rattle.ro_plain.specs.Machine.{setup_of, layout_in, Machine, called, step_by, step}
use Rattle.ro_plain.specs.Order.{RaceFree}
use Rattle.ro_plain.proofs.Calls.{step-at}
use Rattle.ro_plain.proofs.Wider.{layout-same}
use Rattle.ro_legal.specs.Event.{Event, quiet_effect, call_event}
use Rattle.ro_orders.specs.Turns.{is_cooperative, is_lock_or_unlock, turn_of, times, takes_otherwise, TakesByLocks}
use Rattle.ro_orders.specs.Copies.{Copy, Rows, IsServed, Runs, then_served, IsFirst}
use Rattle.ro_orders.proofs.Owners.{differs}
use Rattle.ro_orders.proofs.Copies.{runs-first}
use Rattle.ro_peer.specs.declared.mutexes.Mutex.{Mutex}
use Rattle.ro_peer.specs.Peers.{Peer, kernel_in, machine_of}
use Rattle.ro_peer.specs.Gets.{voted}
use Rattle.ro_coop.specs.Core.{Job, Core, ranges_here, entered_by, peer_after_event, core_after, Steps, served_all}
use Rattle.ro_coop.proofs.Ended.{ended_served}
use Rattle.ro_coop.proofs.Tables.{AllCooperative, served_with, kernel-in, coop-in, serve-in}
use Rattle.ro_coop.proofs.Puts.{StopsStand, AnyThread}
use Rattle.ro_coop.proofs.Standing.{next-here, live-here, turn-here, avoids-here}
use Rattle.ro_coop.proofs.Entered.{entered-none}
use Rattle.ro_coop.proofs.Events.{avoid-asked, payload-in}
use Rattle.ro_coop.proofs.Counts.{Counted, Unmade, count-other, count-own}
use Rattle.ro_coop.proofs.Lists.{Each, each-back, each-so, each-served, ServedAll}
use Rattle.ro_coop.proofs.Holds.{Common, Tied, IsWaiting, AllLent, Going}
use Rattle.ro_coop.proofs.Votes.{StandsAt, it_waits, quiet-holds}
use Rattle.ro_coop.proofs.Begins.{begins-keeps}

-- what holds hangs on which steps were taken, and not on how they are listed
other-steps : (job : Job) (rows : Rows) (core : Core) (s other : Steps) → Going job rows core s → ((n : ℕ) → s.taken n ≡ other.taken n) → s.first ≡ other.first → Going job rows core other
other-steps job rows core s other g taken first = record {
  common = g.common;
  copies = g.copies;
  runs = subst (Runs job.program job.chosen g.common.backed rows g.copies) first g.runs;
  each = each-so _ _ core.peers g.copies g.each (λ n r c p. record { is = p.is; taken_is = p.taken_is ∙ taken n; stops = p.stops; waits = p.waits; backed_is = p.backed_is; counted = p.counted; unmade = p.unmade });
  waiting = g.waiting;
  lent = g.lent;
  not_due = g.not_due;
  no_outcome = g.no_outcome;
}

-- peers that stay as they are
abbrev as_it_is : Peer → Peer
as_it_is peer = peer

all-same : (peers : List Peer) → map as_it_is peers ≡ peers
all-same [] = refl
all-same (peer ∷ peers) = ap (λ (rest : List Peer). peer ∷ rest) (all-same peers)

module _ (job : Job) (rows : Rows) (free : RaceFree job.program) (lacks : TakesByLocks job.program job.chosen) (watched : (0 == job.settings.watchdog) ≡ false) (core : Core) (s : Steps) (g : Going job rows core s) (nothing_lent : core.leases ≡ []) (not_ended : core.ended ≡ None) (t : ℕ) (lives : lives_on core.kernel t ≡ true) (call : Call) (payload : List ℕ)
    (at : (number : ℕ) (peer : Peer) → slice_get core.peers number ≡ Some peer → StandsAt (ranges_here job core) peer t (Calls call) payload) (clear : (number : ℕ) (peer : Peer) → slice_get core.peers number ≡ Some peer → peer.answered t ≡ false) (after : Kernel) (begins : serve (setup_of job.program) core.kernel t (asked call payload) ≡ Parked after) where
  is_wait : call.which ≡ Function Wait
  is_wait = parked-waits (setup_of job.program) core.kernel t (asked call payload) after begins

  -- ---- no mutex is cooperative

  none-before : (m : ℕ) → is_cooperative job.chosen core.kernel m ≡ false
  none-before m = false_from_ne_true _ (λ coop. true≢false (sym (ap takes_otherwise is_wait) ∙ taken coop))
    where
      first : IsFirst job.program job.chosen g.common.backed rows g.copies s.first
      first = runs-first job.program job.chosen free lacks g.common.backed rows g.runs

      taken : is_cooperative job.chosen core.kernel m ≡ true → takes_otherwise call.which ≡ false
      taken coop =
          let h = each-back _ core.peers g.copies g.each 0 first.some_copy.0 first.some_copy.1 in
          let a = at 0 h.0 h.1 in
          lacks (kernel_in core.kernel h.0) h.0.replica.memory a.0.cpu call (next-here job lacks core.kernel core.output h.0 first.some_copy.0 h.2.is h.2.stops t lives a.0 a.1 (Calls call) a.2 a_call)
          m (coop-in job.chosen job.one_enters core.kernel h.0 h.2.is.all m ∙ coop)

  none-after : (m : ℕ) → is_cooperative job.chosen after m ≡ false
  none-after m = begins-keeps job.chosen job.one_enters (setup_of job.program) core.kernel after t (asked call payload) begins m (none-before m)

  none-listed : (mutexes : List Mutex) → AllCooperative job.chosen core.kernel mutexes → mutexes ≡ []
  none-listed [] all = refl
  none-listed (m ∷ mutexes) all = absurd (true≢false (sym all.0 ∙ none-before m.address))

  -- ---- what stays

  same_lives : after.lives ≡ core.kernel.lives
  same_lives = its (subst (Own core.kernel t) begins (serve-own (setup_of job.program) core.kernel t (asked call payload)))
    where
      its : Own core.kernel t (Parked after) → after.lives ≡ core.kernel.lives
      its (parked same) = same

  same_layout : layout_in job.program after ≡ layout_in job.program core.kernel
  same_layout = layout-same job.program after core.kernel (given-parked (setup_of job.program) core.kernel t (asked call payload) after begins)

  lived : (u : ℕ) → lives_on after u ≡ lives_on core.kernel u
  lived u = ap (λ (l : List Life). live_option (slice_get l u)) same_lives

  still-in-table : (a : ℕ) → InTable core.kernel.owners a → InTable after.owners a
  still-in-table a = by (subst (OwnersAfter core.kernel (asked call payload)) begins (owners-after (setup_of job.program) core.kernel t (asked call payload)))
    where
      by : OwnersAfter core.kernel (asked call payload) (Parked after) → InTable core.kernel.owners a → InTable after.owners a
      by (one_freed w same) inside = subst (λ (owners : Owners). InTable owners a) (sym same) (stays-in-table core.kernel.owners a call.a1 None inside)

  -- who waits goes on, and the thread waits too
  still-waits : (u : ℕ) → is_waiting core.kernel.waiters u ≡ true → is_waiting after.waiters u ≡ true
  still-waits u h =
      ⊎_elim
      (λ (same : u ≡ t). ap (is_waiting after.waiters) same ∙ begun-now (setup_of job.program) core.kernel t (asked call payload) after begins)
      (λ (other : u ≢ t). begun-others (setup_of job.program) core.kernel t (asked call payload) after begins u other ∙ h)
      (cases_eq u t)

  waiting-then : (u : ℕ) (other : Call) → core.blocked u ≡ Some other → IsWaiting after u other
  waiting-then u other e =
      let w = g.waiting u other e in
      record { lives = lived u ∙ w.lives; no_write = w.no_write; no_atomic = w.no_atomic; in_table = λ k. still-in-table other.a0 (w.in_table k); begun = λ k. still-waits u (w.begun k) }

  -- ---- the step

  abbrev common_then : Common
  common_then = record { backed = g.common.backed; base = λ u. if u == t then suc (g.common.base t) else g.common.base u }

  abbrev taken_then : ℕ → List ℕ
  taken_then = λ n. s.taken n ++ t ∷ []

  module _ (n : ℕ) (r : Peer) (c : Copy) (e : slice_get core.peers n ≡ Some r) (p : Tied job g.common core.kernel core.output core.blocked s.taken n r c) where
    abbrev its : StandsAt (ranges_here job core) r t (Calls call) payload
    its = at n r e

    steps-so : step job.program (machine_of core.kernel core.output r) t ≡ Some (machine_of after core.output r)
    steps-so =
        step-at job.program (machine_of core.kernel core.output r) t its.0.cpu (live-here job lacks core.kernel core.output r c p.is p.stops t lives its.0 its.1 (Calls call) its.2)
        ∙ (ap (step_by job.program (machine_of core.kernel core.output r) t its.0.cpu) (next-here job lacks core.kernel core.output r c p.is p.stops t lives its.0 its.1 (Calls call) its.2 a_call)
        ∙ (ap (λ (xs : List ℕ). called (machine_of core.kernel core.output r) its.0.cpu (put_out call.which xs) (serve (setup_of job.program) (kernel_in core.kernel r) t (asked call xs))) (payload-in job core.kernel core.output r call ∙ its.3)
        ∙ (ap (called (machine_of core.kernel core.output r) its.0.cpu (put_out call.which payload))
        (serve-in job.chosen job.one_enters core.kernel r p.is.all (setup_of job.program) t (asked call payload) (avoid-asked call payload r.mutexes (avoids-here job lacks core.kernel core.output r c p.is p.stops t lives its.0 its.1 (Calls call) its.2 call refl)) (clear n r e)
        ∙ ap (λ (x : Served). served_with r.mutexes (ended_served r.answered x)) begins)
        ∙ ap (λ (k : Kernel). Some (record (machine_of core.kernel core.output r) { kernel = k })) (sym (kernel-in after r)))))

    abbrev later : Copy
    later = record { taken = c.taken ++ t ∷ []; machine = machine_of after core.output r; got = c.got }

    is-served : IsServed job.program job.chosen t c later
    is-served = record {
      steps = ap (λ (m : Machine). step job.program m t) p.is.machine_is ∙ steps-so;
      served = ap (λ (m : Machine). turn_of job.program job.chosen m t) p.is.machine_is ∙ turn-here job lacks core.kernel core.output r c p.is p.stops t lives its.0 its.1 (Calls call) its.2 a_call;
      goes_on = refl;
      taken = refl;
      got = λ m. refl;
    }

    stops-then : StopsStand job after AnyThread r
    stops-then number thread stop any living there was =
        ap (λ (l : Layout). voted r.mutexes (standing_in l job.settings.watchdog r.replica thread)) same_layout ∙ p.stops number thread stop tt (sym (lived number) ∙ living) there was

    counted-then : Counted job.settings.watchdog (λ u. times u (c.taken ++ t ∷ [])) common_then.base r.replica.threads
    counted-then u x there = (⊎_elim own other (cases_eq u t), (p.counted u x there).1)
      where
        one-more : (a b c : ℕ) → a ≡ b + c → suc a ≡ suc b + c
        one-more a b c e = omega arith

        own : u ≡ t → times u (c.taken ++ t ∷ []) ≡ common_then.base u + x.since
        own same =
            ap (λ (i : ℕ). times i (c.taken ++ t ∷ [])) same
            ∙ (count-own t c.taken
            ∙ (one-more (times t c.taken) (g.common.base t) x.since (p.counted t x (ap (slice_get r.replica.threads) (sym same) ∙ there)).0
            ∙ ap (λ (b : Bool). cond b (suc (g.common.base t)) (g.common.base u) + x.since) (sym (eq-eqb u t same))))

        other : u ≢ t → times u (c.taken ++ t ∷ []) ≡ common_then.base u + x.since
        other d = count-other t u c.taken d ∙ ((p.counted u x there).0 ∙ ap (λ (b : Bool). cond b (suc (g.common.base t)) (g.common.base u) + x.since) (sym (differs u t d)))

    unmade-then : Unmade (λ u. times u (c.taken ++ t ∷ [])) common_then.base r.replica.threads
    unmade-then u none =
        let d : u ≢ t = λ same. (let f : None ≡ Some its.0 = sym none ∙ (ap (slice_get r.replica.threads) same ∙ its.1) in cc) in
        (count-other t u c.taken d ∙ (p.unmade u none).0, ap (λ (b : Bool). cond b (suc (g.common.base t)) (g.common.base u)) (differs u t d) ∙ (p.unmade u none).1)

    tied-then : Tied job common_then after core.output core.blocked taken_then n r later
    tied-then = record {
      is = record {
        machine_is = refl;
        ranks = p.is.ranks;
        fresh = p.is.fresh;
        all = subst (AllCooperative job.chosen after) (sym (none-listed r.mutexes p.is.all)) tt;
        complete = λ a h. absurd (true≢false (sym h ∙ none-after a));
        all_made = p.is.all_made ∙ ap length (sym same_lives);
      };
      taken_is = ap (λ (xs : List ℕ). xs ++ t ∷ []) p.taken_is;
      stops = stops-then;
      waits = p.waits;
      backed_is = p.backed_is;
      counted = counted-then;
      unmade = unmade-then;
    }

  -- ---- the core behind the step, and behind the event

  abbrev stepped : Core
  stepped = record core { kernel = after }

  going-then : Going job rows stepped (served_all t 1 s)
  going-then =
      let all : ServedAll job.program job.chosen t (Tied job common_then after core.output core.blocked taken_then) as_it_is core.peers g.copies = each-served job.program job.chosen t _ _ as_it_is core.peers g.copies g.each (λ n r c e k p. (later n r c e p, is-served n r c e p, tied-then n r c e p)) in
      record {
        common = common_then;
        copies = all.afters;
        runs = then_served g.runs t all.all;
        each = subst (λ (peers : List Peer). Each (Tied job common_then after core.output core.blocked taken_then) peers all.afters) (all-same core.peers) all.each;
        waiting = waiting-then;
        lent = subst (AllLent after core.blocked) (sym nothing_lent) tt;
        not_due = g.not_due;
        no_outcome = g.no_outcome;
      }

  at-then : (number : ℕ) (peer : Peer) → slice_get core.peers number ≡ Some peer → StandsAt (ranges_here job stepped) peer t (Calls call) payload
  at-then number peer e = let a = at number peer e in (a.0, a.1, a.2, ap (λ (l : Layout). payload_at l.ranges peer.replica.memory (Calls call)) same_layout ∙ a.3)

  own-wait : IsWaiting after t call
  own-wait = record {
    lives = lived t ∙ lives;
    no_write = ap is_write is_wait;
    no_atomic = ap is_atomic is_wait;
    in_table = λ k. absurd (false≢true (sym (ap is_lock_or_unlock is_wait) ∙ k));
    begun = λ w. begun-now (setup_of job.program) core.kernel t (asked call payload) after begins;
  }

  abbrev waits : Event
  waits = record { did = WasBlocked; kernel = after; effect = quiet_effect t None false; payload = []; blocked = Some call; due = None }

  none-entered : entered_by job.chosen core.kernel after (Some (Calls call)) ≡ []
  none-entered = by _ (is_cooperative job.chosen core.kernel call.a0) _ (none-after call.a0)
    where
      by : (b c : Bool) (mutexes : List Mutex) → b ≡ false → cond (b && not c) mutexes [] ≡ []
      by true c mutexes e = absurd (true≢false e)
      by false c mutexes e = refl

  module _ (since : ℕ) (alike : (n : ℕ) (r : Peer) → slice_get core.peers n ≡ Some r → (x : Thread) → slice_get r.replica.threads t ≡ Some x → x.since ≡ since) where
    left : Going job rows (core_after job.chosen stepped t (Some (Calls call)) waits) (served_all t 0 (served_all t 1 s))
    left = quiet-holds job rows free lacks watched stepped (served_all t 1 s) going-then nothing_lent not_ended t (lived t ∙ lives) (Calls call) payload at-then clear None false (Some call) (it_waits call refl own-wait) WasBlocked refl since alike

    abbrev with_entered : List Mutex → Core
    with_entered entered = record (core_after job.chosen core t (Some (Calls call)) waits) { peers = map (peer_after_event (quiet_effect t None false) entered) core.peers }

    pub begun-holds : Going job rows (core_after job.chosen core t (Some (Calls call)) (call_event core.kernel t call (put_out call.which payload) (Parked after))) (served_all t 1 s)
    begun-holds =
        subst (λ (entered : List Mutex). Going job rows (with_entered entered) (served_all t 1 s)) (entered-none job.chosen after (Some (Calls call)) ∙ sym none-entered)
        (other-steps job rows (core_after job.chosen stepped t (Some (Calls call)) waits) (served_all t 0 (served_all t 1 s)) (served_all t 1 s) left (λ n. append-nil (s.taken n ++ t ∷ [])) (append-nil (s.first ++ t ∷ [])))
