-- Parts of a run: the replica's instructions to a stop, and a call that is answered there.
use Rattle.std.specs.Prelude.{◌≡◌, ◌⊎◌, ℕ, zero, suc, ◌+◌, ◌<◌, ◌≤◌, ◌^◌, Bool, true, false, cond, ◌==◌, List, [], ◌∷◌, ◌++◌, length, Option, Some, None, IsTrue, IsSome, IfSome, is_none, slice_get, slice_set}
use Rattle.std.specs.Option.{option_map, option_map_or, option_and_then}
use Rattle.std.proofs.Common.{refl, sym, ap, ◌∙◌, subst, arith, inl, inr, append-nil}
use Rattle.std.proofs.lemmas.Bool.{eq-eqb, eqb-true}
use Rattle.std.proofs.lemmas.Option.{slice_get_within}
use Rattle.ro_event.specs.declared.stops.Stop.{Stop}
use Rattle.ro_exec.specs.Next.{Layout}
use Rattle.ro_thread.specs.declared.Thread.{Thread}
use Rattle.ro_replica.specs.Replica.{Replica, changed_at}
use Rattle.ro_replica.specs.Runs.{standing_at, with_stop}
use Rattle.ro_replica.specs.Seen.{ReplicaOf, SameProgram, Runs}
use Rattle.ro_replica.specs.Views.{is_unstopped}
use Rattle.ro_replica.proofs.Elements.{changed_is_set, set_itself}
use Rattle.ro_replica.proofs.Strikes.{done_at}
use Rattle.ro_orders.specs.Copies.{Rows}
use Rattle.ro_peer.specs.declared.running.Came.{Came}
use Rattle.ro_peer.specs.declared.running.Came.TheVariants.{Quantum, Stopped, Owned, Row, Full}
use Rattle.ro_peer.specs.Peers.{Peer, leased, leased_run}
use Rattle.ro_peer.specs.Gets.{Get, InRows, asker, get_of, got_in, is_own_call}
use Rattle.ro_peer.specs.Seen.{by_address}
use Rattle.ro_peer.specs.Leases.{LockWaits, CameBy, stopped, PeerRuns, IsUnderWay, GoesOn, Meets}
use Rattle.ro_peer.proofs.Steps.{Kept, step_kept, run_kept, run_then, with_replica, run_of_instructions}

-- ---- stops

-- a thread that is not stopped is the same without a stop
pub unstopped_same : (thread : ℕ) (replica : Replica) → IsTrue (is_unstopped thread replica) → changed_at (with_stop None) replica.threads thread ≡ replica.threads
unstopped_same thread replica going = by (slice_get replica.threads thread) refl going
  where
    by : (o : Option Thread) → slice_get replica.threads thread ≡ o → option_map_or (λ t. is_none t.stop) o false ≡ true → changed_at (with_stop None) replica.threads thread ≡ replica.threads
    by None there e = absurd (cc)
    by (Some x) there e = changed_is_set (with_stop None) replica.threads thread x there ∙ ap (slice_set replica.threads thread) (at x.stop refl e) ∙ set_itself replica.threads thread x there
      where
        at : (stop : Option Stop) → x.stop ≡ stop → is_none stop ≡ true → with_stop None x ≡ x
        at None is e = ap (λ (s : Option Stop). with_stop s x) (sym is)
        at (Some stop) is e = absurd (cc)

-- the second stop counts
stop_twice : (one two : Option Stop) (threads : List Thread) (i : ℕ) → changed_at (with_stop two) (changed_at (with_stop one) threads i) i ≡ changed_at (with_stop two) threads i
stop_twice one two [] i = refl
stop_twice one two (x ∷ threads) zero = refl
stop_twice one two (x ∷ threads) (suc i) = ap {B = List _} (λ ts. x ∷ ts) (stop_twice one two threads i)

-- ---- a run of the replica

-- a run of a peer's replica without faults, as steps of the peer
pub record RanSteps (layout : Layout) (watchdog most thread : ℕ) (peer : Peer) (new : Replica) (count : ℕ) (stop : Option Stop) : Type 0 where
  pub end : Replica
  pub runs : leased_run layout (asker thread) watchdog count peer thread ≡ Some (with_replica peer end)
  pub nothing : got_in layout watchdog count peer thread ≡ []
  pub new_is : new ≡ record end { threads = changed_at (with_stop stop) end.threads thread }
  pub going : IsTrue (is_unstopped thread end)
  pub free : end.waiting ≡ []
  pub done : done_at thread end ≡ option_map (λ done. done + count) (done_at thread peer.replica)
  pub arrives : ((count ≡ most) × (stop ≡ None)) ⊎ ((s : Stop) × (count < most) × (stop ≡ Some s) × (standing_at layout watchdog end thread ≡ Some s))

pub ran_steps : (layout : Layout) (watchdog most thread : ℕ) (peer : Peer) (new : Replica) (count hit : ℕ) (stop : Option Stop) → Runs layout watchdog most thread peer.replica new count hit stop → peer.replica.waiting ≡ [] → IsTrue (is_unstopped thread peer.replica)
    → RanSteps layout watchdog most thread peer new count stop
ran_steps layout watchdog most thread peer new count hit stop ran free going =
    let steps = run_of_instructions layout watchdog count peer ran.end thread free ran.runs in
    let kept : Kept thread count peer (with_replica peer ran.end.replica) = run_kept layout (asker thread) watchdog count peer (with_replica peer ran.end.replica) thread steps.0 in
    record {
      end = ran.end.replica;
      runs = steps.0;
      nothing = steps.1;
      new_is = ran.new_is;
      going = kept.going ∙ going;
      free = kept.waiting ∙ free;
      done = kept.done;
      arrives = by ran.arrives;
    }
  where
    by : (count ≡ most) ⊎ ((count < most) × IsSome stop) → ((count ≡ most) × (stop ≡ None)) ⊎ ((s : Stop) × (count < most) × (stop ≡ Some s) × (standing_at layout watchdog ran.end.replica thread ≡ Some s))
    by (inl all) = inl (all, ran.stop_is ∙ ap (λ (b : Bool). cond b None (standing_at layout watchdog ran.end.replica thread)) (eq-eqb count most all))
    by (inr (early, some)) = at (count == most) refl stop ran.stop_is some
      where
        at : (b : Bool) → (count == most) ≡ b → (s : Option Stop) → s ≡ cond b None (standing_at layout watchdog ran.end.replica thread) → IsSome s → ((count ≡ most) × (s ≡ None)) ⊎ ((t : Stop) × (count < most) × (s ≡ Some t) × (standing_at layout watchdog ran.end.replica thread ≡ Some t))
        at true e s is some = absurd (let all : count ≡ most = eqb-true count most e in omega arith)
        at false e None is some = absurd (cc)
        at false e (Some t) is some = inr (t, early, refl, sym is)

-- the replica with the thread's stop forgotten
pub forgotten_is : (thread : ℕ) (end new forgot : Replica) (stop : Option Stop) → IsTrue (is_unstopped thread end) → new ≡ record end { threads = changed_at (with_stop stop) end.threads thread } → forgot ≡ record new { threads = changed_at (with_stop None) new.threads thread } → forgot ≡ end
forgotten_is thread end new forgot stop going is forgets =
    forgets ∙ ap (λ (r : Replica). record r { threads = changed_at (with_stop None) r.threads thread }) is
    ∙ ap (λ (ts : List Thread). record end { threads = ts }) (stop_twice stop None end.threads thread ∙ unstopped_same thread end going)

-- a run for a whole quantum
pub came_by_quantum : (layout : Layout) (watchdog most thread : ℕ) (rows : Rows) (peer : Peer) (new : Replica) (count : ℕ) (stop : Option Stop) → RanSteps layout watchdog most thread peer new count stop → ((s : Stop) → stop ≡ Some s → ⊥)
    → PeerRuns layout watchdog most thread rows peer (with_replica peer new) count Quantum × (count ≤ most)
came_by_quantum layout watchdog most thread rows peer new count stop ran none = by ran.arrives
  where
    by : ((count ≡ most) × (stop ≡ None)) ⊎ ((s : Stop) × (count < most) × (stop ≡ Some s) × (standing_at layout watchdog ran.end thread ≡ Some s)) → PeerRuns layout watchdog most thread rows peer (with_replica peer new) count Quantum × (count ≤ most)
    by (inr (s, early, is, at)) = absurd (none s is)
    by (inl (all, is)) = (
      record {
        end = with_replica peer ran.end;
        runs = ran.runs;
        new_is = ap (with_replica peer) (ran.new_is ∙ ap (λ (s : Option Stop). record ran.end { threads = changed_at (with_stop s) ran.end.threads thread }) is ∙ ap (λ (ts : List Thread). record ran.end { threads = ts }) (unstopped_same thread ran.end ran.going));
        gets = subst (InRows (by_address peer.mutexes rows)) (sym ran.nothing) tt;
        came_by = all;
      },
      omega arith,
    )

-- where it stands at a stop
pub stands_at : (layout : Layout) (watchdog most thread : ℕ) (peer : Peer) (new : Replica) (count : ℕ) (stop : Option Stop) (s : Stop) (ran : RanSteps layout watchdog most thread peer new count stop) → stop ≡ Some s → (count < most) × (standing_at layout watchdog ran.end thread ≡ Some s)
stands_at layout watchdog most thread peer new count stop s ran is = by ran.arrives
  where
    by : ((count ≡ most) × (stop ≡ None)) ⊎ ((t : Stop) × (count < most) × (stop ≡ Some t) × (standing_at layout watchdog ran.end thread ≡ Some t)) → (count < most) × (standing_at layout watchdog ran.end thread ≡ Some s)
    by (inl (all, none)) = absurd (let bad : None ≡ Some s = sym none ∙ is in cc)
    by (inr (t, early, some, at)) = let same : Some t ≡ Some s = sym some ∙ is in (early, at ∙ same)

-- a run to a stop that needs a vote
pub came_by_stop : (layout : Layout) (watchdog most thread : ℕ) (rows : Rows) (peer : Peer) (new : Replica) (count : ℕ) (stop : Option Stop) (s : Stop) → RanSteps layout watchdog most thread peer new count stop → stop ≡ Some s → is_own_call peer.mutexes s ≡ false
    → PeerRuns layout watchdog most thread rows peer (with_replica peer new) count (Stopped s) × (count ≤ most)
came_by_stop layout watchdog most thread rows peer new count stop s ran is voted =
    let stands = stands_at layout watchdog most thread peer new count stop s ran is in
    let early : count < most = stands.0 in (
      record {
        end = with_replica peer ran.end;
        runs = ran.runs;
        new_is = ap (with_replica peer) (ran.new_is ∙ ap (λ (o : Option Stop). record ran.end { threads = changed_at (with_stop o) ran.end.threads thread }) is);
        gets = subst (InRows (by_address peer.mutexes rows)) (sym ran.nothing) tt;
        came_by = (early, stands.1, voted);
      },
      omega arith,
    )

-- ---- a call that is answered behind it

-- one step more
pub one_more : (layout : Layout) (watchdog thread count : ℕ) (old mid new : Peer) → leased_run layout (asker thread) watchdog count old thread ≡ Some mid → leased layout (asker thread) watchdog mid thread ≡ Some new
    → (leased_run layout (asker thread) watchdog (count + 1) old thread ≡ Some new) × (got_in layout watchdog (count + 1) old thread ≡ got_in layout watchdog count old thread ++ get_of layout mid thread)
one_more layout watchdog thread count old mid new runs step =
    let more = run_then layout watchdog count 1 old mid thread runs in (
      more.0 ∙ ap (option_and_then (λ p. Some p)) step,
      more.1 ∙ ap (λ (gets : List Get). got_in layout watchdog count old thread ++ gets) (ap (λ (o : Option Peer). get_of layout mid thread ++ option_map_or (λ p. []) o []) step ∙ append-nil (get_of layout mid thread)),
    )

pub came_on : (layout : Layout) (watchdog most thread : ℕ) (rows : Rows) (peer mid new : Peer) (ran : Replica) (count : ℕ) (stop : Option Stop) (s : Stop) (steps : RanSteps layout watchdog most thread peer ran count stop) → stop ≡ Some s → mid ≡ with_replica peer steps.end
    → Meets layout watchdog thread rows mid new None → IsUnderWay layout watchdog thread rows peer new (count + 1) × (0 < count + 1) × (count + 1 ≤ most)
came_on layout watchdog most thread rows peer mid new ran count stop s steps is mid_is meets =
    let early : count < most = (stands_at layout watchdog most thread peer ran count stop s steps is).0 in
    let step : leased layout (asker thread) watchdog (with_replica peer steps.end) thread ≡ Some new = ap (λ (p : Peer). leased layout (asker thread) watchdog p thread) (sym mid_is) ∙ meets.0 in
    let all = one_more layout watchdog thread count peer (with_replica peer steps.end) new steps.runs step in (
      record {
        runs = all.0;
        gets = subst (InRows (by_address peer.mutexes rows)) (sym (all.1 ∙ ap (λ (gets : List Get). gets ++ get_of layout (with_replica peer steps.end) thread) steps.nothing))
            (subst (λ (p : Peer). InRows (by_address p.mutexes rows) (get_of layout p thread)) mid_is meets.1);
        going = (step_kept layout (asker thread) watchdog (with_replica peer steps.end) new thread step).going ∙ steps.going;
      },
      omega arith,
      omega arith,
    )

-- a lock that waits
waits_come : (layout : Layout) (watchdog most thread count : ℕ) (peer : Peer) (came : Came) → count < most → LockWaits layout watchdog thread peer came → CameBy layout watchdog most thread count peer came
waits_come layout watchdog most thread count peer (Owned number) early why = (early, why)
waits_come layout watchdog most thread count peer (Row number) early why = (early, why)
waits_come layout watchdog most thread count peer (Full number) early why = (early, why)
waits_come layout watchdog most thread count peer Quantum early why = absurd why
waits_come layout watchdog most thread count peer (Stopped s) early why = absurd why

waits_unstopped : (layout : Layout) (watchdog thread : ℕ) (peer : Peer) (came : Came) → LockWaits layout watchdog thread peer came → stopped thread came peer ≡ peer
waits_unstopped layout watchdog thread peer (Owned number) why = refl
waits_unstopped layout watchdog thread peer (Row number) why = refl
waits_unstopped layout watchdog thread peer (Full number) why = refl
waits_unstopped layout watchdog thread peer Quantum why = refl
waits_unstopped layout watchdog thread peer (Stopped s) why = absurd why

pub came_back : (layout : Layout) (watchdog most thread : ℕ) (rows : Rows) (peer mid new : Peer) (ran : Replica) (count : ℕ) (stop : Option Stop) (s : Stop) (came : Came) (steps : RanSteps layout watchdog most thread peer ran count stop) → stop ≡ Some s → mid ≡ with_replica peer steps.end
    → Meets layout watchdog thread rows mid new (Some came) → PeerRuns layout watchdog most thread rows peer new count came × (count ≤ most)
came_back layout watchdog most thread rows peer mid new ran count stop s came steps is mid_is meets =
    let early : count < most = (stands_at layout watchdog most thread peer ran count stop s steps is).0 in
    let why : LockWaits layout watchdog thread (with_replica peer steps.end) came = subst (λ (p : Peer). LockWaits layout watchdog thread p came) mid_is meets.1 in (
      record {
        end = with_replica peer steps.end;
        runs = steps.runs;
        new_is = meets.0 ∙ mid_is ∙ sym (waits_unstopped layout watchdog thread (with_replica peer steps.end) came why);
        gets = subst (InRows (by_address peer.mutexes rows)) (sym steps.nothing) tt;
        came_by = waits_come layout watchdog most thread count (with_replica peer steps.end) came early why;
      },
      omega arith,
    )

-- ---- what the parts need of each other

-- a thread that is not stopped was made
pub made_there : (thread : ℕ) (replica : Replica) → IsTrue (is_unstopped thread replica) → thread < length replica.threads
made_there thread replica going = by (slice_get replica.threads thread) refl going
  where
    by : (o : Option Thread) → slice_get replica.threads thread ≡ o → option_map_or (λ t. is_none t.stop) o false ≡ true → thread < length replica.threads
    by None there e = absurd (cc)
    by (Some x) there e = slice_get_within replica.threads thread x there

-- and was with another stop
changed_length : (f : Thread → Thread) (threads : List Thread) (i : ℕ) → length (changed_at f threads i) ≡ length threads
changed_length f [] i = refl
changed_length f (x ∷ threads) zero = refl
changed_length f (x ∷ threads) (suc i) = ap suc (changed_length f threads i)

pub made_stopped : (thread : ℕ) (end new : Replica) (stop : Option Stop) → IsTrue (is_unstopped thread end) → new ≡ record end { threads = changed_at (with_stop stop) end.threads thread } → thread < length new.threads
made_stopped thread end new stop going is =
    subst (λ (n : ℕ). thread < n) (sym (ap (λ (r : Replica). length r.threads) is ∙ changed_length (with_stop stop) end.threads thread)) (made_there thread end going)

-- the count has room for what is left
pub room_left : (thread count left most : ℕ) (old new : List Thread) → option_map (λ (t : Thread). t.done) (slice_get new thread) ≡ option_map (λ done. done + count) (option_map (λ (t : Thread). t.done) (slice_get old thread)) → count + left ≤ most
    → IfSome (slice_get old thread) (λ t. t.done + most < 2 ^ 128) → IfSome (slice_get new thread) (λ t. t.done + left < 2 ^ 128)
room_left thread count left most old new = by (slice_get old thread) (slice_get new thread)
  where
    by : (o p : Option Thread) → option_map (λ (t : Thread). t.done) p ≡ option_map (λ done. done + count) (option_map (λ (t : Thread). t.done) o) → count + left ≤ most → IfSome o (λ t. t.done + most < 2 ^ 128) → IfSome p (λ t. t.done + left < 2 ^ 128)
    by o None e few room = tt
    by None (Some y) e few room = absurd (cc)
    by (Some x) (Some y) e few room = let same : y.done ≡ x.done + count = cc in omega arith

-- the same by another replica of the program
pub meets_same : (one two : ReplicaOf) (thread : ℕ) (rows : Rows) (old new : Peer) (came : Option Came) → SameProgram one two → Meets one.layout one.watchdog thread rows old new came → Meets two.layout two.watchdog thread rows old new came
meets_same one two thread rows old new came same meets =
    subst (λ (w : ℕ). Meets two.layout w thread rows old new came) same.watchdog (subst (λ (l : Layout). Meets l one.watchdog thread rows old new came) same.layout meets)

pub stands_same : (one two : ReplicaOf) (thread : ℕ) (r s : Replica) (stop : Stop) → SameProgram one two → s ≡ r → standing_at two.layout two.watchdog r thread ≡ Some stop → standing_at one.layout one.watchdog s thread ≡ Some stop
stands_same one two thread r s stop same is stands =
    ap (λ (l : Layout). standing_at l one.watchdog s thread) same.layout ∙ ap (λ (w : ℕ). standing_at two.layout w s thread) same.watchdog ∙ ap (λ (x : Replica). standing_at two.layout two.watchdog x thread) is ∙ stands

pub same_twice : (one two three : ReplicaOf) → SameProgram one two → SameProgram two three → SameProgram one three
same_twice one two three first rest = record { layout = first.layout ∙ rest.layout; given = first.given ∙ rest.given; watchdog = first.watchdog ∙ rest.watchdog }

-- it goes on, or came back
pub came_either : (layout : Layout) (watchdog most thread : ℕ) (rows : Rows) (peer mid new : Peer) (ran : Replica) (count : ℕ) (stop : Option Stop) (s : Stop) (came : Option Came) (steps : RanSteps layout watchdog most thread peer ran count stop) → stop ≡ Some s → mid ≡ with_replica peer steps.end
    → (came ≡ None → ⊥) → Meets layout watchdog thread rows mid new came → GoesOn layout watchdog most thread rows peer new count came
came_either layout watchdog most thread rows peer mid new ran count stop s None steps is mid_is some meets = absurd (some refl)
came_either layout watchdog most thread rows peer mid new ran count stop s (Some came) steps is mid_is some meets = came_back layout watchdog most thread rows peer mid new ran count stop s came steps is mid_is meets
