-- A thread that goes on behind a call at which it stands.
use Rattle.std.specs.Prelude.{◌≡◌, ℕ, ◌+◌, ◌<◌, ◌≤◌, ◌^◌, Bool, true, false, cond, ◌==◌, List, length, Option, Some, None, IfSome, slice_get, slice_set, slice_index_or}
use Rattle.std.specs.Option.{option_and_then}
use Rattle.std.proofs.Common.{refl, sym, ap, ◌∙◌, subst, arith}
use Rattle.std.proofs.lemmas.Bool.{eq-eqb}
use Rattle.std.proofs.lemmas.List.{length-set}
use Rattle.std.proofs.lemmas.List.Elements.{All-set}
use Rattle.std.proofs.lemmas.Option.{slice_get_read, slice_get_within}
use Rattle.ro_event.specs.declared.calls.Call.{Call}
use Rattle.ro_event.specs.declared.stops.Stop.{Stop}
use Rattle.ro_event.specs.declared.stops.Stop.TheVariants.{Calls, Watchdog}
use Rattle.ro_exec.specs.Next.{Layout, stop_in, next}
use Rattle.ro_thread.specs.declared.Thread.{Thread}
use Rattle.ro_replica.specs.Replica.{Replica, changed_at}
use Rattle.ro_replica.specs.Runs.{standing_in, standing_at}
use Rattle.ro_replica.specs.Seen.{ReplicaOf, replica_of, CanCount, IsReplica}
use Rattle.ro_replica.proofs.Elements.{changed_is_set}

-- one that stands at a call may do an instruction more
pub stands_before : (layout : Layout) (watchdog : ℕ) (replica : Replica) (x : Thread) (call : Call) → standing_in layout watchdog replica x ≡ Some (Calls call) → x.since ≤ watchdog → x.since < watchdog
stands_before layout watchdog replica x call stands few = by (x.since == watchdog) refl stands
  where
    by : (b : Bool) → (x.since == watchdog) ≡ b → cond b (Some Watchdog) (stop_in (next layout replica.backed replica.memory x.cpu)) ≡ Some (Calls call) → x.since < watchdog
    by true e h = absurd (cc)
    by false e h = let other : x.since ≡ watchdog → ⊥ = λ same. let both : (x.since == watchdog) ≡ true = eq-eqb x.since watchdog same in cc in omega (arith, other)

-- a thread in its place becomes what a function makes of it
pub one_changed : (f : Thread → Thread) (value old : ReplicaOf) (thread : ℕ) (x y : Thread) → value ≡ old → thread < length old.threads → x ≡ slice_index_or value.threads thread x → y ≡ f x
    → record (replica_of value) { threads = slice_set value.threads thread y } ≡ record (replica_of old) { threads = changed_at f old.threads thread }
one_changed f value old thread x y same within read is =
    let inside : thread < length value.threads = subst (λ (v : ReplicaOf). thread < length v.threads) (sym same) within in
    ap (λ (z : Thread). record (replica_of value) { threads = slice_set value.threads thread z }) is
    ∙ ap (λ (threads : List Thread). record (replica_of value) { threads = threads }) (sym (changed_is_set f value.threads thread x (slice_get_read value.threads (length value.threads) thread x refl inside read)))
    ∙ ap (λ (v : ReplicaOf). record (replica_of v) { threads = changed_at f v.threads thread }) same

-- a thread that stands at a stop was made
pub stands_within : (layout : Layout) (watchdog thread : ℕ) (replica : Replica) (stop : Stop) → standing_at layout watchdog replica thread ≡ Some stop → thread < length replica.threads
stands_within layout watchdog thread replica stop stands = by (slice_get replica.threads thread) refl stands
  where
    by : (o : Option Thread) → slice_get replica.threads thread ≡ o → option_and_then (standing_in layout watchdog replica) o ≡ Some stop → thread < length replica.threads
    by None e h = absurd (cc)
    by (Some x) e h = slice_get_within replica.threads thread x e

-- the thread that stands there is the one that is read
pub stands_there : (value old : ReplicaOf) (thread : ℕ) (x : Thread) (call : Call) → value ≡ old → x ≡ slice_index_or value.threads thread x → standing_at old.layout old.watchdog (replica_of old) thread ≡ Some (Calls call)
    → (slice_get value.threads thread ≡ Some x) × (standing_in value.layout value.watchdog (replica_of value) x ≡ Some (Calls call))
stands_there value old thread x call same read stands =
    let now : standing_at value.layout value.watchdog (replica_of value) thread ≡ Some (Calls call) = subst (λ (v : ReplicaOf). standing_at v.layout v.watchdog (replica_of v) thread ≡ Some (Calls call)) (sym same) stands in
    let there : slice_get value.threads thread ≡ Some x = slice_get_read value.threads (length value.threads) thread x refl (stands_within value.layout value.watchdog thread (replica_of value) (Calls call) now) read in
    (there, sym (ap (option_and_then (standing_in value.layout value.watchdog (replica_of value))) there) ∙ now)

-- both of its counts have room for one instruction more
pub room_for_one : (value old : ReplicaOf) (thread places : ℕ) (x : Thread) (call : Call) → value ≡ old → x ≡ slice_index_or value.threads thread x → standing_at old.layout old.watchdog (replica_of old) thread ≡ Some (Calls call)
    → IsReplica value.watchdog value.threads places value.waiting → CanCount 1 old thread → (x.since < value.watchdog) × (x.done + 1 < 2 ^ 128)
room_for_one value old thread places x call same read stands is can =
    let at = stands_there value old thread x call same read stands in
    let few : x.since ≤ value.watchdog = subst (λ (t : Thread). t.since ≤ value.watchdog) (sym read) (is.watched thread x (slice_get_within value.threads thread x at.0)) in (
      stands_before value.layout value.watchdog (replica_of value) x call at.1 few,
      subst (λ (o : Option Thread). IfSome o (λ t. t.done + 1 < 2 ^ 128)) at.0 (subst (λ (v : ReplicaOf). CanCount 1 v thread) (sym same) can),
    )

-- what holds of every replica, behind the call
pub replica_answered : (value old : ReplicaOf) (thread places : ℕ) (x y : Thread) (call : Call) → value ≡ old → x ≡ slice_index_or value.threads thread x → standing_at old.layout old.watchdog (replica_of old) thread ≡ Some (Calls call)
    → y.since ≡ x.since + 1 → IsReplica value.watchdog value.threads places value.waiting → CanCount 1 old thread → IsReplica value.watchdog (slice_set value.threads thread y) places value.waiting
replica_answered value old thread places x y call same read stands counted is can =
    let length_is : length (slice_set value.threads thread y) ≡ length value.threads = length-set value.threads thread y in
    let first : 0 < length value.threads = is.first in
    let few : length value.threads ≤ 16 = is.few in
    let room = room_for_one value old thread places x call same read stands is can in
    let before : x.since < value.watchdog = room.0 in
    let now : y.since ≤ value.watchdog = omega arith in
    record {
      first = omega arith;
      few = omega arith;
      room = is.room;
      watched = All-set (λ t. t.since ≤ value.watchdog) value.threads thread y now is.watched;
      faults = is.faults;
    }
