-- What a thread of a peer does next, by where it stands, and a run that goes on from there.
use Rattle.std.specs.Prelude.{◌≡◌, ◌≢◌, ◌<◌, ◌+◌, ◌-◌, ℕ, suc, Bool, true, false, cond, ◌&&◌, ◌==◌, List, [], ◌∷◌, ◌++◌, Option, Some, None, is_some, slice_get}
use Rattle.std.specs.Option.{option_and_then, option_map_or}
use Rattle.std.proofs.Common.{refl, sym, ap, ◌∙◌, subst, arith}
use Rattle.std.proofs.lemmas.Bool.{ne_eqb}
use Rattle.ro_event.specs.declared.calls.Call.{Call}
use Rattle.ro_event.specs.declared.calls.Which.{Which}
use Rattle.ro_event.specs.declared.calls.Which.TheVariants.{Function}
use Rattle.ro_event.specs.declared.functions.Function.TheVariants.{Lock}
use Rattle.ro_event.specs.declared.stops.Stop.{Stop}
use Rattle.ro_event.specs.declared.stops.Stop.TheVariants.{Calls, Watchdog}
use Rattle.ro_exec.specs.Next.{Layout, Next, Stands, Executes, next, stop_in}
use Rattle.ro_thread.specs.declared.Thread.{Thread}
use Rattle.ro_replica.specs.Runs.{standing_in, standing_at}
use Rattle.ro_orders.specs.Turns.{is_lock_or_unlock}
use Rattle.ro_orders.specs.Answers.{Answers, Waits, answer_by}
use Rattle.ro_peer.specs.declared.mutexes.Mutex.{Mutex}
use Rattle.ro_peer.specs.Peers.{Peer, mutex_in, leased_answer, leased_call, leased_next, leased_at, leased, leased_run}
use Rattle.ro_peer.specs.Gets.{Get, asker, get_answer, get_call, get_next, get_of, got_in, is_own_call}
use Rattle.ro_peer.proofs.Steps.{run_then}

module _ (layout : Layout) (watchdog thread : ℕ) (peer : Peer) where
  -- ---- at a stop for which a vote is held

  no-step : (x : Thread) (stop : Stop) → is_own_call peer.mutexes stop ≡ false → leased_next (asker thread) peer thread x (Stands stop) ≡ None
  no-step x (Calls call) other = by (is_lock_or_unlock call.which) (mutex_in peer.mutexes call.a0) other
    where
      by : (b : Bool) (o : Option Mutex) → (b && is_some o) ≡ false → cond b (leased_call (asker thread) peer thread x call o) None ≡ None
      by true (Some m) e = absurd (let f : true ≡ false = e in cc)
      by true None e = refl
      by false o e = refl
  no-step x stop other = refl

  -- its thread takes no step
  pub stays-at-stop : (stop : Stop) → standing_at layout watchdog peer.replica thread ≡ Some stop → is_own_call peer.mutexes stop ≡ false → leased layout (asker thread) watchdog peer thread ≡ None
  unfolding leased
  stays-at-stop stop stands other = by (slice_get peer.replica.threads thread) stands
    where
      at : (x : Thread) (b : Bool) (n : Next) → cond b (Some Watchdog) (stop_in n) ≡ Some stop → cond b None (leased_next (asker thread) peer thread x n) ≡ None
      at x true n e = refl
      at x false (Executes instr) e = absurd (let f : None ≡ Some stop = e in cc)
      at x false (Stands s) e = let same : s ≡ stop = cc in no-step x s (subst (λ (t : Stop). is_own_call peer.mutexes t ≡ false) (sym same) other)

      by : (o : Option Thread) → option_and_then (standing_in layout watchdog peer.replica) o ≡ Some stop → option_and_then (leased_at layout (asker thread) watchdog peer thread) o ≡ None
      by None e = refl
      by (Some x) e = at x (x.since == watchdog) (next layout peer.replica.backed peer.replica.memory x.cpu) e

  -- ---- at a lock

  -- a thread that is about to make a call
  record IsAbout (call : Call) : Type 0 where
    x : Thread
    there : slice_get peer.replica.threads thread ≡ Some x
    unwatched : (x.since == watchdog) ≡ false
    next_is : next layout peer.replica.backed peer.replica.memory x.cpu ≡ Stands (Calls call)

  about : (call : Call) → standing_at layout watchdog peer.replica thread ≡ Some (Calls call) → IsAbout call
  about call stands = by (slice_get peer.replica.threads thread) refl stands
    where
      at : (x : Thread) → slice_get peer.replica.threads thread ≡ Some x → (b : Bool) → (x.since == watchdog) ≡ b → (n : Next) → next layout peer.replica.backed peer.replica.memory x.cpu ≡ n → cond b (Some Watchdog) (stop_in n) ≡ Some (Calls call) → IsAbout call
      at x there true watched n is e = absurd (let f : Some Watchdog ≡ Some (Calls call) = e in cc)
      at x there false watched (Executes instr) is e = absurd (let f : None ≡ Some (Calls call) = e in cc)
      at x there false watched (Stands stop) is e = let same : stop ≡ Calls call = cc in record { x = x; there = there; unwatched = watched; next_is = is ∙ ap Stands same }

      by : (o : Option Thread) → slice_get peer.replica.threads thread ≡ o → option_and_then (standing_in layout watchdog peer.replica) o ≡ Some (Calls call) → IsAbout call
      by None there e = absurd (let f : None ≡ Some (Calls call) = e in cc)
      by (Some x) there e = at x there (x.since == watchdog) refl (next layout peer.replica.backed peer.replica.memory x.cpu) refl e

  module _ (call : Call) (mutex : Mutex) (stands : standing_at layout watchdog peer.replica thread ≡ Some (Calls call)) (locks : call.which ≡ Function Lock) (own : mutex_in peer.mutexes call.a0 ≡ Some mutex) where
    -- of a mutex that another owns
    pub stays-at-owned : (owner : ℕ) → mutex.owner ≡ Some owner → owner ≢ thread → leased layout (asker thread) watchdog peer thread ≡ None
    unfolding leased
    stays-at-owned owner owned other =
        let its = about call stands in
        ap (option_and_then (leased_at layout (asker thread) watchdog peer thread)) its.there
        ∙ (ap (λ (b : Bool). cond b None (leased_next (asker thread) peer thread its.x (next layout peer.replica.backed peer.replica.memory its.x.cpu))) its.unwatched
        ∙ (ap (leased_next (asker thread) peer thread its.x) its.next_is
        ∙ (ap (λ (which : Which). cond (is_lock_or_unlock which) (leased_call (asker thread) peer thread its.x call (mutex_in peer.mutexes call.a0)) None) locks
        ∙ (ap (leased_call (asker thread) peer thread its.x call) own
        ∙ (ap (λ (which : Which). leased_answer (asker thread) peer thread its.x call mutex (answer_by which thread mutex.owner)) locks
        ∙ (ap (λ (o : Option ℕ). leased_answer (asker thread) peer thread its.x call mutex (answer_by (Function Lock) thread o)) owned
        ∙ ap (λ (b : Bool). leased_answer (asker thread) peer thread its.x call mutex (cond b (Answers None 35) Waits)) (ne_eqb owner thread other)))))))

    -- of a free one it gets
    pub gets-free : mutex.owner ≡ None → get_of layout peer thread ≡ record { mutex = call.a0; rank = mutex.rank; thread = thread } ∷ []
    gets-free free =
        let its = about call stands in
        ap (λ (o : Option Thread). option_map_or (λ t. get_next peer thread (next layout peer.replica.backed peer.replica.memory t.cpu)) o []) its.there
        ∙ (ap (get_next peer thread) its.next_is
        ∙ (ap (λ (which : Which). cond (is_lock_or_unlock which) (get_call thread call (mutex_in peer.mutexes call.a0)) []) locks
        ∙ (ap (get_call thread call) own
        ∙ (ap (λ (which : Which). get_answer thread call mutex (answer_by which thread mutex.owner)) locks
        ∙ ap (λ (o : Option ℕ). get_answer thread call mutex (answer_by (Function Lock) thread o)) free))))

-- ---- a longer run

sum-is : (count more : ℕ) → count < more → more ≡ count + suc (more - count - 1)
sum-is count more longer = omega arith

module _ (layout : Layout) (watchdog thread count more : ℕ) (old end : Peer) (runs : leased_run layout (asker thread) watchdog count old thread ≡ Some end) (longer : count < more) where
  abbrev left : ℕ
  left = more - count - 1

  as-sum : more ≡ count + suc left
  as-sum = sum-is count more longer

  -- there is none where no step is taken from there
  pub no-longer : leased layout (asker thread) watchdog end thread ≡ None → leased_run layout (asker thread) watchdog more old thread ≡ None
  no-longer none =
      ap (λ (n : ℕ). leased_run layout (asker thread) watchdog n old thread) as-sum
      ∙ ((run_then layout watchdog count (suc left) old end thread runs).0
      ∙ ap (option_and_then (λ after. leased_run layout (asker thread) watchdog left after thread)) none)

  -- it gets what the shorter one got, and what is got from there
  pub got-on : (rest : List Get) × (got_in layout watchdog more old thread ≡ got_in layout watchdog count old thread ++ (get_of layout end thread ++ rest))
  got-on = (
    option_map_or (λ after. got_in layout watchdog left after thread) (leased layout (asker thread) watchdog end thread) [],
    ap (λ (n : ℕ). got_in layout watchdog n old thread) as-sum ∙ (run_then layout watchdog count (suc left) old end thread runs).1,
  )
