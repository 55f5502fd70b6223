-- Steps of a peer that need no other peer: what they keep, and that instructions of a replica without faults are some.
use Rattle.std.specs.Prelude.{◌≡◌, ℕ, zero, suc, ◌+◌, Bool, true, false, cond, not, ◌&&◌, ◌==◌, List, [], ◌++◌, Option, Some, None, is_none, slice_get, slice_set}
use Rattle.std.specs.Option.{option_map, option_map_or, option_and_then}
use Rattle.std.specs.List.{filter}
use Rattle.std.proofs.Common.{refl, sym, ap, ◌∙◌, subst, arith, append_assoc}
use Rattle.ro_event.specs.declared.calls.Call.{Call}
use Rattle.ro_event.specs.declared.stops.Stop.TheVariants.{Calls}
use Rattle.ro_region.specs.declared.Range.{Range}
use Rattle.ro_exec.specs.Next.{Layout, Next, Stands, Executes, next}
use Rattle.ro_thread.specs.declared.Thread.{Thread}
use Rattle.ro_replica.specs.Replica.{Replica, went_on}
use Rattle.ro_replica.specs.Runs.{RanTo, is_due, struck, execute_next, execute_at, execute, executed, plus_hit, run_of}
use Rattle.ro_replica.specs.Views.{is_unstopped}
use Rattle.ro_replica.proofs.Elements.{get_set}
use Rattle.ro_replica.proofs.Segments.{plus_none}
use Rattle.ro_replica.proofs.Strikes.{done_at, strike_at, struck_is, strike_none}
use Rattle.ro_orders.specs.Turns.{is_lock_or_unlock}
use Rattle.ro_orders.specs.Copies.{Rows}
use Rattle.ro_orders.specs.Answers.{Answer, Answers, Waits, answer_by}
use Rattle.ro_peer.specs.declared.mutexes.Mutex.{Mutex}
use Rattle.ro_peer.specs.Peers.{Peer, mutex_in, is_got, is_row, peer_after, leased_answer, leased_call, leased_next, leased_at, leased, leased_run}
use Rattle.ro_peer.specs.Gets.{Get, asker, get_next, get_of, got_in}
use Rattle.ro_peer.specs.Seen.{number_of}
use Rattle.ro_peer.proofs.Places.{numbers_kept}

-- where no fault waits none is struck
pub struck_free : (ranges : List Range) (replica : Replica) (thread : ℕ) → replica.waiting ≡ [] → struck ranges replica thread ≡ record { replica = replica; hit = 0 }
struck_free ranges replica thread free = struck_is ranges replica thread ∙ by (done_at thread replica)
  where
    by : (o : Option ℕ) → strike_at ranges thread replica o ≡ record { replica = replica; hit = 0 }
    by None = refl
    by (Some done) = strike_none ranges thread done replica (ap (filter (is_due thread done)) free)

-- what so many steps of a thread keep
pub record Kept (thread count : ℕ) (old new : Peer) : Type 0 where
  pub done : done_at thread new.replica ≡ option_map (λ done. done + count) (done_at thread old.replica)
  pub going : is_unstopped thread new.replica ≡ is_unstopped thread old.replica
  pub waiting : new.replica.waiting ≡ old.replica.waiting
  pub numbers : (address : ℕ) → number_of new.mutexes address ≡ number_of old.mutexes address

-- where a thread did one of its steps
thread_kept : (thread : ℕ) (old : Peer) (new : Peer) (x y : Thread) → slice_get old.replica.threads thread ≡ Some x → new.replica.threads ≡ slice_set old.replica.threads thread y → y.done ≡ x.done + 1 → y.stop ≡ x.stop
    → new.replica.waiting ≡ old.replica.waiting → ((address : ℕ) → number_of new.mutexes address ≡ number_of old.mutexes address) → Kept thread 1 old new
thread_kept thread old new x y there set done stop waits numbers =
    let now : slice_get new.replica.threads thread ≡ Some y = ap (λ (ts : List Thread). slice_get ts thread) set ∙ get_set old.replica.threads thread x y there in
    record {
      done = ap (option_map (λ (t : Thread). t.done)) now ∙ ap Some done ∙ sym (ap (λ (o : Option Thread). option_map (λ done. done + 1) (option_map (λ (t : Thread). t.done) o)) there);
      going = ap (λ (o : Option Thread). option_map_or (λ t. is_none t.stop) o false) now ∙ ap is_none stop ∙ sym (ap (λ (o : Option Thread). option_map_or (λ t. is_none t.stop) o false) there);
      waiting = waits;
      numbers = numbers;
    }

answer_kept : (rows : Rows) (peer after : Peer) (number : ℕ) (x : Thread) (call : Call) (m : Mutex) (a : Answer) → slice_get peer.replica.threads number ≡ Some x → leased_answer rows peer number x call m a ≡ Some after → Kept number 1 peer after
answer_kept rows peer after number x call m Waits there e = absurd (cc)
answer_kept rows peer after number x call m (Answers change value) there e = by (is_got change && not (is_row (rows call.a0 m.rank) number)) e
  where
    by : (b : Bool) → cond b None (Some (peer_after peer number x call change value)) ≡ Some after → Kept number 1 peer after
    by true e = absurd (cc)
    by false e =
        let same : peer_after peer number x call change value ≡ after = cc in
        subst (Kept number 1 peer) same (thread_kept number peer (peer_after peer number x call change value) x (went_on call number value x) there refl refl refl refl (numbers_kept change peer.mutexes call.a0))

call_kept : (rows : Rows) (peer after : Peer) (number : ℕ) (x : Thread) (call : Call) (o : Option Mutex) → slice_get peer.replica.threads number ≡ Some x → leased_call rows peer number x call o ≡ Some after → Kept number 1 peer after
call_kept rows peer after number x call None there e = absurd (cc)
call_kept rows peer after number x call (Some m) there e = answer_kept rows peer after number x call m (answer_by call.which number m.owner) there e

next_kept : (rows : Rows) (peer after : Peer) (number : ℕ) (x : Thread) (n : Next) → slice_get peer.replica.threads number ≡ Some x → leased_next rows peer number x n ≡ Some after → Kept number 1 peer after
next_kept rows peer after number x (Executes instr) there e =
    let same : record peer { replica = executed number peer.replica x instr } ≡ after = cc in
    subst (Kept number 1 peer) same (thread_kept number peer (record peer { replica = executed number peer.replica x instr }) x _ there refl refl refl refl (λ address. refl))
next_kept rows peer after number x (Stands (Calls call)) there e = by (is_lock_or_unlock call.which) e
  where
    by : (b : Bool) → cond b (leased_call rows peer number x call (mutex_in peer.mutexes call.a0)) None ≡ Some after → Kept number 1 peer after
    by true e = call_kept rows peer after number x call (mutex_in peer.mutexes call.a0) there e
    by false e = absurd (cc)
next_kept rows peer after number x (Stands _) there e = absurd (cc)

pub step_kept : (layout : Layout) (rows : Rows) (watchdog : ℕ) (peer after : Peer) (number : ℕ) → leased layout rows watchdog peer number ≡ Some after → Kept number 1 peer after
unfolding leased
step_kept layout rows watchdog peer after number e = by (slice_get peer.replica.threads number) refl e
  where
    by : (o : Option Thread) → slice_get peer.replica.threads number ≡ o → option_and_then (leased_at layout rows watchdog peer number) o ≡ Some after → Kept number 1 peer after
    by None there e = absurd (cc)
    by (Some x) there e = at (x.since == watchdog) e
      where
        at : (b : Bool) → cond b None (leased_next rows peer number x (next layout peer.replica.backed peer.replica.memory x.cpu)) ≡ Some after → Kept number 1 peer after
        at true e = absurd (cc)
        at false e = next_kept rows peer after number x (next layout peer.replica.backed peer.replica.memory x.cpu) there e

no_steps : (thread : ℕ) (peer : Peer) → Kept thread 0 peer peer
no_steps thread peer = record { done = by (done_at thread peer.replica); going = refl; waiting = refl; numbers = λ address. refl }
  where
    by : (o : Option ℕ) → o ≡ option_map (λ done. done + 0) o
    by None = refl
    by (Some n) = let e : n ≡ n + 0 = omega arith in ap Some e

more_steps : (thread count : ℕ) (one two three : Peer) → Kept thread 1 one two → Kept thread count two three → Kept thread (suc count) one three
more_steps thread count one two three first rest = record {
  done = rest.done ∙ ap (option_map (λ done. done + count)) first.done ∙ by (done_at thread one.replica);
  going = rest.going ∙ first.going;
  waiting = rest.waiting ∙ first.waiting;
  numbers = λ address. rest.numbers address ∙ first.numbers address;
}
  where
    by : (o : Option ℕ) → option_map (λ done. done + count) (option_map (λ done. done + 1) o) ≡ option_map (λ done. done + suc count) o
    by None = refl
    by (Some n) = let e : (n + 1) + count ≡ n + suc count = omega arith in ap Some e

pub run_kept : (layout : Layout) (rows : Rows) (watchdog count : ℕ) (peer after : Peer) (number : ℕ) → leased_run layout rows watchdog count peer number ≡ Some after → Kept number count peer after
run_kept layout rows watchdog zero peer after number e = let same : peer ≡ after = cc in subst (Kept number 0 peer) same (no_steps number peer)
run_kept layout rows watchdog (suc n) peer after number e = by (leased layout rows watchdog peer number) refl e (λ mid. run_kept layout rows watchdog n mid after number)
  where
    by : (o : Option Peer) → leased layout rows watchdog peer number ≡ o → option_and_then (λ mid. leased_run layout rows watchdog n mid number) o ≡ Some after → ((mid : Peer) → leased_run layout rows watchdog n mid number ≡ Some after → Kept number n mid after) → Kept number (suc n) peer after
    by None one e rest = absurd (cc)
    by (Some mid) one e rest = more_steps number n peer mid after (step_kept layout rows watchdog peer mid number one) (rest mid e)

-- ---- a run behind another

pub run_then : (layout : Layout) (watchdog m n : ℕ) (old mid : Peer) (number : ℕ) → leased_run layout (asker number) watchdog m old number ≡ Some mid
    → (leased_run layout (asker number) watchdog (m + n) old number ≡ leased_run layout (asker number) watchdog n mid number) × (got_in layout watchdog (m + n) old number ≡ got_in layout watchdog m old number ++ got_in layout watchdog n mid number)
run_then layout watchdog zero n old mid number e =
    let same : old ≡ mid = cc in
    let z : 0 + n ≡ n = omega arith in (
      ap (λ (k : ℕ). leased_run layout (asker number) watchdog k old number) z ∙ ap (λ (p : Peer). leased_run layout (asker number) watchdog n p number) same,
      ap (λ (k : ℕ). got_in layout watchdog k old number) z ∙ ap (λ (p : Peer). got_in layout watchdog n p number) same,
    )
run_then layout watchdog (suc m) n old mid number e =
    let s : suc m + n ≡ suc (m + n) = omega arith in
    let so = by (leased layout (asker number) watchdog old number) e (λ next. run_then layout watchdog m n next mid number) in (
      ap (λ (k : ℕ). leased_run layout (asker number) watchdog k old number) s ∙ so.0,
      ap (λ (k : ℕ). got_in layout watchdog k old number) s ∙ ap (λ (gets : List Get). get_of layout old number ++ gets) so.1 ∙ sym (append_assoc (get_of layout old number) _ _),
    )
  where
    by : (o : Option Peer) → option_and_then (λ next. leased_run layout (asker number) watchdog m next number) o ≡ Some mid
        → ((next : Peer) → leased_run layout (asker number) watchdog m next number ≡ Some mid → (leased_run layout (asker number) watchdog (m + n) next number ≡ leased_run layout (asker number) watchdog n mid number) × (got_in layout watchdog (m + n) next number ≡ got_in layout watchdog m next number ++ got_in layout watchdog n mid number))
        → (option_and_then (λ next. leased_run layout (asker number) watchdog (m + n) next number) o ≡ leased_run layout (asker number) watchdog n mid number)
        × (option_map_or (λ next. got_in layout watchdog (m + n) next number) o [] ≡ option_map_or (λ next. got_in layout watchdog m next number) o [] ++ got_in layout watchdog n mid number)
    by None e rest = absurd (cc)
    by (Some next) e rest = rest next e

-- ---- instructions

-- the peer with another replica
abbrev pub with_replica : Peer → Replica → Peer
with_replica peer replica = record peer { replica = replica }

-- an instruction of the replica is a step, by which nothing is got
pub step_of_instruction : (layout : Layout) (rows : Rows) (watchdog : ℕ) (peer : Peer) (after : Replica) (number : ℕ) → execute layout watchdog peer.replica number ≡ Some after
    → (leased layout rows watchdog peer number ≡ Some (with_replica peer after)) × (get_of layout peer number ≡ [])
unfolding leased execute
step_of_instruction layout rows watchdog peer after number e = by (slice_get peer.replica.threads number) e
  where
    by : (o : Option Thread) → option_and_then (execute_at layout watchdog number peer.replica) o ≡ Some after
        → (option_and_then (leased_at layout rows watchdog peer number) o ≡ Some (with_replica peer after)) × (option_map_or (λ thread. get_next peer number (next layout peer.replica.backed peer.replica.memory thread.cpu)) o [] ≡ [])
    by None e = absurd (cc)
    by (Some x) e = at (x.since == watchdog) (next layout peer.replica.backed peer.replica.memory x.cpu) e
      where
        at : (b : Bool) (n : Next) → cond b None (execute_next number peer.replica x n) ≡ Some after
            → (cond b None (leased_next rows peer number x n) ≡ Some (with_replica peer after)) × (get_next peer number n ≡ [])
        at true n e = absurd (cc)
        at false (Stands stop) e = absurd (cc)
        at false (Executes instr) e = let same : executed number peer.replica x instr ≡ after = cc in (ap (λ (r : Replica). Some (with_replica peer r)) same, refl)

-- so a run of a replica without faults is a run of steps, by which nothing is got
pub run_of_instructions : (layout : Layout) (watchdog count : ℕ) (peer : Peer) (end : RanTo) (number : ℕ) → peer.replica.waiting ≡ [] → run_of layout watchdog count peer.replica number ≡ Some end
    → (leased_run layout (asker number) watchdog count peer number ≡ Some (with_replica peer end.replica)) × (got_in layout watchdog count peer number ≡ [])
run_of_instructions layout watchdog zero peer end number free e =
    let same : struck layout.ranges peer.replica number ≡ end = cc in
    (ap (λ (ran : RanTo). Some (with_replica peer ran.replica)) (sym (struck_free layout.ranges peer.replica number free) ∙ same), refl)
run_of_instructions layout watchdog (suc n) peer end number free e =
    let goes : RanTo → Option RanTo = λ ran. option_map (plus_hit ran.hit) (option_and_then (λ after. run_of layout watchdog n after number) (execute layout watchdog ran.replica number)) in
    let now : option_and_then (λ after. run_of layout watchdog n after number) (execute layout watchdog peer.replica number) ≡ Some end =
    sym (plus_none (option_and_then (λ after. run_of layout watchdog n after number) (execute layout watchdog peer.replica number))) ∙ sym (ap goes (struck_free layout.ranges peer.replica number free)) ∙ e in
    by (execute layout watchdog peer.replica number) refl now (λ after. run_of_instructions layout watchdog n (with_replica peer after) end number)
  where
    by : (o : Option Replica) → execute layout watchdog peer.replica number ≡ o → option_and_then (λ after. run_of layout watchdog n after number) o ≡ Some end
        → ((after : Replica) → after.waiting ≡ [] → run_of layout watchdog n after number ≡ Some end → (leased_run layout (asker number) watchdog n (with_replica peer after) number ≡ Some (with_replica peer end.replica)) × (got_in layout watchdog n (with_replica peer after) number ≡ []))
        → (option_and_then (λ after. leased_run layout (asker number) watchdog n after number) (leased layout (asker number) watchdog peer number) ≡ Some (with_replica peer end.replica))
        × (get_of layout peer number ++ option_map_or (λ after. got_in layout watchdog n after number) (leased layout (asker number) watchdog peer number) [] ≡ [])
    by None one e rest = absurd (cc)
    by (Some after) one e rest =
        let step = step_of_instruction layout (asker number) watchdog peer after number one in
        let kept = step_kept layout (asker number) watchdog peer (with_replica peer after) number step.0 in
        let more = rest after (kept.waiting ∙ free) e in (
          ap (option_and_then (λ p. leased_run layout (asker number) watchdog n p number)) step.0 ∙ more.0,
          ap (λ (gets : List Get). gets ++ option_map_or (λ p. got_in layout watchdog n p number) (leased layout (asker number) watchdog peer number) []) step.1
              ∙ ap (λ (o : Option Peer). option_map_or (λ p. got_in layout watchdog n p number) o []) step.0 ∙ more.1,
        )
