-- A part of a run: instructions up to the next moment of a fault, and a strike.
use Rattle.std.specs.Prelude.{◌≡◌, ◌⊎◌, ℕ, ◌+◌, ◌-◌, ◌<◌, ◌≤◌, ◌^◌, List, [], length, Option, Some, None, IsSome, IfSome, is_some, slice_get, slice_set, slice_index_or}
use Rattle.std.specs.List.{filter}
use Rattle.std.specs.Option.{option_map, option_and_then}
use Rattle.std.proofs.Common.{refl, sym, ap, ◌∙◌, subst, arith, inl, inr}
use Rattle.std.proofs.lemmas.List.{length-set}
use Rattle.std.proofs.lemmas.List.Elements.{All-set}
use Rattle.std.proofs.lemmas.Option.{slice_get_read}
use Rattle.ro_event.specs.declared.stops.Stop.{Stop}
use Rattle.ro_pages.specs.Bytes.{Memory}
use Rattle.ro_pages.specs.Held.{Held, memory_of, has_page}
use Rattle.ro_exec.specs.Next.{Layout, Backed}
use Rattle.ro_faults.specs.declared.Fault.{Fault}
use Rattle.ro_thread.specs.declared.Thread.{Thread}
use Rattle.ro_thread.specs.Stops.{standing}
use Rattle.ro_thread.specs.Runs.{Running, IsRun}
use Rattle.ro_replica.specs.Replica.{Replica}
use Rattle.ro_replica.specs.Runs.{RanTo, is_due, struck, plus_hit, run_of, standing_in, standing_at}
use Rattle.ro_replica.specs.Rounds.{IsStruck, Leads}
use Rattle.ro_replica.specs.Seen.{ReplicaOf, replica_of, SameProgram, CanCount, IsReplica}
use Rattle.ro_replica.proofs.Elements.{get_set}
use Rattle.ro_replica.proofs.Strikes.{NoneDue, done_at, struck_done, struck_none, struck_twice}
use Rattle.ro_replica.proofs.Segments.{placed, plus_none, run_of_struck, run_of_instructions}
use Rattle.ro_replica.proofs.Counted.{instructions_done, instructions_watched, none_due, run_count}

-- a run of the thread with no fault due in it
pub leads_on : (layout : Layout) (watchdog thread most until : ℕ) (replica : Replica) (x : Thread) (end : Running) (count : ℕ) (stop : Option Stop)
    → slice_get replica.threads thread ≡ Some x → IsStruck layout replica thread → until ≤ most → 0 < most
    → ((k : ℕ) → k < until → NoneDue thread (x.done + k) replica) → (NoneDue thread x.done replica → 0 < most → 0 < until)
    → IsRun layout watchdog replica.backed until count stop (record { thread = x; memory = replica.memory }) end
    → Leads layout watchdog thread most replica (placed replica thread end) count 0 stop
leads_on layout watchdog thread most until replica x end count stop there is within some free positive run =
    let most_is : count ≤ until = run_count layout watchdog replica.backed until count stop (record { thread = x; memory = replica.memory }) end run in
    record {
      leads = λ rest. run_of_instructions layout watchdog count rest replica thread x end there (λ k h. free k (omega arith)) run.runs ∙ sym (plus_none (run_of layout watchdog rest (placed replica thread end) thread));
      arrives = by run.arrives;
    }
  where
    there_now : slice_get (slice_set replica.threads thread end.thread) thread ≡ Some end.thread
    there_now = get_set replica.threads thread x end.thread there

    done_now : end.thread.done ≡ x.done + count
    done_now = instructions_done layout watchdog replica.backed count (record { thread = x; memory = replica.memory }) end run.runs

    by : ((count ≡ until) × (stop ≡ None)) ⊎ ((count < until) × IsSome stop × (stop ≡ standing layout watchdog replica.backed end.memory end.thread.cpu end.thread.since))
        → ((stop ≡ None) × (0 < count) × (count ≤ most)) ⊎ ((count < most) × IsSome stop × (stop ≡ standing_at layout watchdog (placed replica thread end) thread) × IsStruck layout (placed replica thread end) thread)
    by (inl (all, none)) = let p : 0 < until = positive (none_due layout replica thread x there is) some in inl (none, omega arith, omega arith)
    by (inr (early, is_some, at)) = inr (
      omega arith,
      is_some,
      at ∙ sym (ap (option_and_then (standing_in layout watchdog (placed replica thread end))) there_now),
      struck_none layout.ranges (placed replica thread end) thread end.thread.done (ap (option_map (λ (t : Thread). t.done)) there_now)
          (subst (λ (done : ℕ). NoneDue thread done replica) (sym done_now) (free count early)),
    )

-- what a replica's thread and pages are after a run of the thread
abbrev pub after_run : ReplicaOf → (thread : ℕ) → Held → Thread → ReplicaOf
after_run value thread held end = record value { held = held; threads = slice_set value.threads thread end }

pub advanced : (value old : ReplicaOf) (thread most until count : ℕ) (x end : Thread) (held : Held) (stop : Option Stop) (faults : List Fault)
    → value ≡ old → thread < length old.threads → x ≡ slice_index_or value.threads thread x → faults ≡ value.waiting
    → IsStruck old.layout (replica_of old) thread → until ≤ most → 0 < most
    → ((k : ℕ) → k < until → filter (is_due thread (x.done + k)) faults ≡ []) → (filter (is_due thread x.done) faults ≡ [] → 0 < most → 0 < until)
    → IsRun value.layout value.watchdog (has_page value.held.pages) until count stop (record { thread = x; memory = memory_of value.held.pages }) (record { thread = end; memory = memory_of held.pages })
    → has_page held.pages ≡ has_page value.held.pages
    → Leads old.layout old.watchdog thread most (replica_of old) (replica_of (after_run value thread held end)) count 0 stop
advanced value old thread most until count x end held stop faults value_is within read waits is few some free positive run pages =
    let inside : thread < length value.threads = subst (λ (v : ReplicaOf). thread < length v.threads) (sym value_is) within in
    let there : slice_get value.threads thread ≡ Some x = slice_get_read value.threads (length value.threads) thread x refl inside read in
    let struck_now : IsStruck value.layout (replica_of value) thread = subst (λ (v : ReplicaOf). IsStruck v.layout (replica_of v) thread) (sym value_is) is in
    let free_now : (k : ℕ) → k < until → NoneDue thread (x.done + k) (replica_of value) = λ k h. subst (λ (fs : List Fault). filter (is_due thread (x.done + k)) fs ≡ []) waits (free k h) in
    let positive_now : NoneDue thread x.done (replica_of value) → 0 < most → 0 < until = λ none more. positive (subst (λ (fs : List Fault). filter (is_due thread x.done) fs ≡ []) (sym waits) none) more in
    subst (λ (v : ReplicaOf). Leads v.layout v.watchdog thread most (replica_of v) (replica_of (after_run value thread held end)) count 0 stop) value_is
    (subst (λ (b : Backed). Leads value.layout value.watchdog thread most (replica_of value) (record (replica_of (after_run value thread held end)) { backed = b }) count 0 stop) (sym pages)
    (leads_on value.layout value.watchdog thread most until (replica_of value) x (record { thread = end; memory = memory_of held.pages }) count stop there struck_now few some free_now positive_now run))

pub advanced_countable : (value old : ReplicaOf) (thread most until count : ℕ) (x end : Thread) (held : Held) (stop : Option Stop)
    → value ≡ old → thread < length old.threads → x ≡ slice_index_or value.threads thread x → until ≤ most → CanCount most old thread
    → IsRun value.layout value.watchdog (has_page value.held.pages) until count stop (record { thread = x; memory = memory_of value.held.pages }) (record { thread = end; memory = memory_of held.pages })
    → CanCount (most - count) (after_run value thread held end) thread
advanced_countable value old thread most until count x end held stop value_is within read few can run =
    let inside : thread < length value.threads = subst (λ (v : ReplicaOf). thread < length v.threads) (sym value_is) within in
    let there : slice_get value.threads thread ≡ Some x = slice_get_read value.threads (length value.threads) thread x refl inside read in
    let can_now : CanCount most value thread = subst (λ (v : ReplicaOf). CanCount most v thread) (sym value_is) can in
    let room : x.done + most < 2 ^ 128 = subst (λ (o : Option Thread). IfSome o (λ t. t.done + most < 2 ^ 128)) there can_now in
    let done : end.done ≡ x.done + count = instructions_done value.layout value.watchdog (has_page value.held.pages) count (record { thread = x; memory = memory_of value.held.pages }) (record { thread = end; memory = memory_of held.pages }) run.runs in
    let most_is : count ≤ until = run_count value.layout value.watchdog (has_page value.held.pages) until count stop (record { thread = x; memory = memory_of value.held.pages }) (record { thread = end; memory = memory_of held.pages }) run in
    let here : end.done + (most - count) < 2 ^ 128 = omega arith in
    subst (λ (o : Option Thread). IfSome o (λ t. t.done + (most - count) < 2 ^ 128)) (sym (get_set value.threads thread x end there)) here

-- a strike counts no instruction
pub countable_struck : (mid new : ReplicaOf) (thread n hit : ℕ) → struck mid.layout.ranges (replica_of mid) thread ≡ record { replica = replica_of new; hit = hit } → CanCount n mid thread → CanCount n new thread
countable_struck mid new thread n hit is can =
    by (slice_get mid.threads thread) (slice_get new.threads thread)
    (sym (ap (λ (ran : RanTo). done_at thread ran.replica) (sym is) ∙ struck_done mid.layout.ranges (replica_of mid) thread)) can
  where
    by : (o p : Option Thread) → option_map (λ (t : Thread). t.done) o ≡ option_map (λ (t : Thread). t.done) p → IfSome o (λ t. t.done + n < 2 ^ 128) → IfSome p (λ t. t.done + n < 2 ^ 128)
    by o None e h = tt
    by None (Some y) e h = absurd (cc)
    by (Some x) (Some y) e h = let same : x.done ≡ y.done = cc in subst (λ (d : ℕ). d + n < 2 ^ 128) same h

pub struck_now : (mid new : ReplicaOf) (thread hit : ℕ) → new.layout ≡ mid.layout → struck mid.layout.ranges (replica_of mid) thread ≡ record { replica = replica_of new; hit = hit } → IsStruck new.layout (replica_of new) thread
struck_now mid new thread hit layout is =
    ap (λ (l : Layout). struck l.ranges (replica_of new) thread) layout
    ∙ subst (λ (ran : RanTo). struck mid.layout.ranges ran.replica thread ≡ record { replica = ran.replica; hit = 0 }) is (struck_twice mid.layout.ranges (replica_of mid) thread)

-- a strike behind a part of a run
pub leads_struck : (layout : Layout) (watchdog thread most : ℕ) (old mid new : Replica) (count hit : ℕ) (stop : Option Stop) → Leads layout watchdog thread most old mid count 0 stop → struck layout.ranges mid thread ≡ record { replica = new; hit = hit }
    → Leads layout watchdog thread most old new count hit stop
leads_struck layout watchdog thread most old mid new count hit stop leads is =
    record {
      leads = λ rest. leads.leads rest ∙ plus_none (run_of layout watchdog rest mid thread) ∙ run_of_struck layout watchdog rest mid thread
          ∙ ap (λ (ran : RanTo). option_map (plus_hit ran.hit) (run_of layout watchdog rest ran.replica thread)) is;
      arrives = by leads.arrives;
    }
  where
    by : ((stop ≡ None) × (0 < count) × (count ≤ most)) ⊎ ((count < most) × IsSome stop × (stop ≡ standing_at layout watchdog mid thread) × IsStruck layout mid thread)
        → ((stop ≡ None) × (0 < count) × (count ≤ most)) ⊎ ((count < most) × IsSome stop × (stop ≡ standing_at layout watchdog new thread) × IsStruck layout new thread)
    by (inl h) = inl h
    by (inr (early, is_some, at, nothing)) =
        let same : mid ≡ new = ap (λ (ran : RanTo). ran.replica) (sym nothing ∙ is) in
        inr (early, is_some, at ∙ ap (λ (r : Replica). standing_at layout watchdog r thread) same, subst (λ (r : Replica). IsStruck layout r thread) same nothing)

-- another thread that is within the watchdog keeps what holds of every replica
pub replica_with : (watchdog : ℕ) (threads : List Thread) (places : ℕ) (waiting : List Fault) (thread : ℕ) (end : Thread) → IsReplica watchdog threads places waiting → end.since ≤ watchdog → IsReplica watchdog (slice_set threads thread end) places waiting
replica_with watchdog threads places waiting thread end is watched =
    let same : length (slice_set threads thread end) ≡ length threads = length-set threads thread end in
    let first : 0 < length threads = is.first in
    let few : length threads ≤ 16 = is.few in
    record {
      first = omega arith;
      few = omega arith;
      room = is.room;
      watched = All-set (λ t. t.since ≤ watchdog) threads thread end watched is.watched;
      faults = is.faults;
    }

-- a run keeps what holds of every replica
pub replica_kept : (layout : Layout) (watchdog : ℕ) (backed : Backed) (most count : ℕ) (stop : Option Stop) (threads : List Thread) (places : ℕ) (waiting : List Fault) (thread : ℕ) (x end : Thread) (before after : Memory)
    → IsReplica watchdog threads places waiting → thread < length threads → x ≡ slice_index_or threads thread x
    → IsRun layout watchdog backed most count stop (record { thread = x; memory = before }) (record { thread = end; memory = after })
    → IsReplica watchdog (slice_set threads thread end) places waiting
replica_kept layout watchdog backed most count stop threads places waiting thread x end before after is within read run =
    let at : x.since ≤ watchdog = subst (λ (t : Thread). t.since ≤ watchdog) (sym read) (is.watched thread x within) in
    replica_with watchdog threads places waiting thread end is (instructions_watched layout watchdog backed count (record { thread = x; memory = before }) (record { thread = end; memory = after }) at run.runs)

pub leads_same : (one two : ReplicaOf) (thread most : ℕ) (old new : Replica) (count hit : ℕ) (stop : Option Stop) → SameProgram one two → Leads one.layout one.watchdog thread most old new count hit stop → Leads two.layout two.watchdog thread most old new count hit stop
leads_same one two thread most old new count hit stop same leads =
    subst (λ (w : ℕ). Leads two.layout w thread most old new count hit stop) same.watchdog
    (subst (λ (l : Layout). Leads l one.watchdog thread most old new count hit stop) same.layout leads)
