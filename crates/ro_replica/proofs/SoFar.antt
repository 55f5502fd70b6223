-- The strikes at the first faults of a list.
use Rattle.std.specs.Prelude.{◌≡◌, ℕ, ◌+◌, ◌<◌, ◌≤◌, ◌∷◌, [], List, Bool, true, false, not, length, Some, slice_get, slice_index_or}
use Rattle.std.specs.Option.{option_map}
use Rattle.std.proofs.lemmas.List.Elements.{All-filter}
use Rattle.std.proofs.lemmas.List.Filters.{length-filter_both}
use Rattle.std.proofs.lemmas.Option.{slice_get_read}
use Rattle.ro_thread.specs.declared.Thread.{Thread}
use Rattle.std.specs.List.{filter}
use Rattle.std.proofs.Common.{refl, sym, ap, ◌∙◌, subst, arith, take, length-append}
use Rattle.ro_region.specs.declared.Range.{Range}
use Rattle.ro_faults.specs.declared.Fault.{Fault}
use Rattle.ro_faults.specs.Texts.{is_target}
use Rattle.ro_replica.specs.Replica.{Replica}
use Rattle.ro_replica.specs.Runs.{is_due, struck_by, struck}
use Rattle.ro_replica.specs.Seen.{ReplicaOf, replica_of, SameProgram, AreFaults}
use Rattle.ro_replica.proofs.Strikes.{strikes, strikes_more, struck_by_waiting, struck_all, filter_takes, filter_skips}

-- the same program, of three
pub same_again : (one two three : ReplicaOf) → SameProgram one two → SameProgram two three → SameProgram one three
same_again one two three p q = record { layout = p.layout ∙ q.layout; given = p.given ∙ q.given; watchdog = p.watchdog ∙ q.watchdog }

-- what holds after the strikes at the first i faults that wait
pub record SoFar (thread done : ℕ) (old now : ReplicaOf) (i hit : ℕ) : Type 0 where
  pub program : SameProgram now old
  pub waiting : now.waiting ≡ old.waiting
  pub threads : length now.threads ≡ length old.threads
  pub few : hit ≤ i
  pub hit_is : hit ≡ length (filter (is_due thread done) (take i old.waiting))
  pub struck : replica_of now ≡ strikes old.layout.ranges thread (replica_of old) (filter (is_due thread done) (take i old.waiting))

-- the fault at i is not due
pub skips : (thread done : ℕ) (old now : ReplicaOf) (i hit : ℕ) (fault : Fault) → SoFar thread done old now i hit → i < length old.waiting → fault ≡ slice_index_or now.waiting i fault → is_due thread done fault ≡ false → SoFar thread done old now (i + 1) hit
skips thread done old now i hit fault so within read not_due =
    let here : fault ≡ slice_index_or old.waiting i fault = subst (λ (faults : List Fault). fault ≡ slice_index_or faults i fault) so.waiting read in
    let same : filter (is_due thread done) (take i old.waiting) ≡ filter (is_due thread done) (take (i + 1) old.waiting) = sym (filter_skips (is_due thread done) old.waiting i fault within here not_due) in
    record {
      program = so.program;
      waiting = so.waiting;
      threads = so.threads;
      few = let f : hit ≤ i = so.few in omega arith;
      hit_is = so.hit_is ∙ ap length same;
      struck = so.struck ∙ ap (strikes old.layout.ranges thread (replica_of old)) same;
    }

-- the fault at i is due, and is struck
pub takes : (thread done : ℕ) (old now after : ReplicaOf) (i hit : ℕ) (fault : Fault) → SoFar thread done old now i hit → i < length old.waiting → fault ≡ slice_index_or now.waiting i fault → is_due thread done fault ≡ true
    → SameProgram after now → length after.threads ≡ length now.threads → replica_of after ≡ struck_by now.layout.ranges thread (replica_of now) fault.target
    → SoFar thread done old after (i + 1) (hit + 1)
takes thread done old now after i hit fault so within read due program threads struck =
    let here : fault ≡ slice_index_or old.waiting i fault = subst (λ (faults : List Fault). fault ≡ slice_index_or faults i fault) so.waiting read in
    let p = is_due thread done in
    record {
      program = same_again after now old program so.program;
      waiting = ap (λ (r : Replica). r.waiting) struck ∙ struck_by_waiting now.layout.ranges thread (replica_of now) fault.target ∙ so.waiting;
      threads = threads ∙ so.threads;
      few = let f : hit ≤ i = so.few in omega arith;
      hit_is = ap (λ (n : ℕ). n + 1) so.hit_is ∙ sym (ap length (filter_takes p old.waiting i fault within here due) ∙ length-append (filter p (take i old.waiting)) (fault ∷ []));
      struck = struck ∙ ap (λ (ranges : List Range). struck_by ranges thread (replica_of now) fault.target) (ap (λ l. l.ranges) so.program.layout)
          ∙ ap (λ (r : Replica). struck_by old.layout.ranges thread r fault.target) so.struck
          ∙ sym (strikes_more old.layout.ranges thread (replica_of old) p old.waiting i fault within here due);
    }

-- faults that are left
pub faults_left : (p : Fault → Bool) (faults left : List Fault) → AreFaults faults → left ≡ filter p faults → AreFaults left
faults_left p faults left are is = subst AreFaults (sym is) (record {
  few = let a : length faults ≤ 256 = are.few in let b = length-filter_both p (λ fault. not (p fault)) (λ fault. refl) faults in omega (arith, b);
  each = All-filter p (λ fault. is_target fault.target ≡ true) faults are.each;
})

-- the count of a thread that was read
pub done_read : (value old : ReplicaOf) (thread : ℕ) (x : Thread) → value ≡ old → thread < length old.threads → x ≡ slice_index_or value.threads thread x → option_map (λ (t : Thread). t.done) (slice_get old.threads thread) ≡ Some x.done
done_read value old thread x value_is within read =
    let here : x ≡ slice_index_or old.threads thread x = subst (λ (v : ReplicaOf). x ≡ slice_index_or v.threads thread x) value_is read in
    ap (option_map (λ (t : Thread). t.done)) (slice_get_read old.threads (length old.threads) thread x refl within here)

-- a strike, by what each of its parts did
pub strike_is : (old inside mid : ReplicaOf) (left : List Fault) (thread done hit : ℕ) → option_map (λ (t : Thread). t.done) (slice_get old.threads thread) ≡ Some done → inside ≡ mid → mid.waiting ≡ old.waiting
    → replica_of mid ≡ strikes old.layout.ranges thread (replica_of old) (filter (is_due thread done) old.waiting)
    → hit ≡ length (filter (is_due thread done) old.waiting)
    → left ≡ filter (λ fault. not (is_due thread done fault)) inside.waiting
    → struck old.layout.ranges (replica_of old) thread ≡ record { replica = record (replica_of inside) { waiting = left }; hit = hit }
strike_is old inside mid left thread done hit there inside_is waits struck_is count left_is =
    let others : List Fault → List Fault = filter (λ fault. not (is_due thread done fault)) in
    struck_all old.layout.ranges (replica_of old) (record (replica_of inside) { waiting = left }) thread done hit there
    (ap (λ (faults : List Fault). record (replica_of inside) { waiting = faults }) (left_is ∙ ap others (ap (λ (v : ReplicaOf). v.waiting) inside_is ∙ waits))
    ∙ ap (λ (r : Replica). record r { waiting = others old.waiting }) (ap replica_of inside_is ∙ struck_is))
    count

-- what was struck and what is left is what waited
pub fewer : (old inside mid : ReplicaOf) (left : List Fault) (thread done hit : ℕ) → inside ≡ mid → mid.waiting ≡ old.waiting → hit ≡ length (filter (is_due thread done) old.waiting)
    → left ≡ filter (λ fault. not (is_due thread done fault)) inside.waiting → hit + length left ≡ length old.waiting
fewer old inside mid left thread done hit inside_is waits count left_is =
    let others : List Fault → List Fault = filter (λ fault. not (is_due thread done fault)) in
    let is : length left ≡ length (others old.waiting) = ap length (left_is ∙ ap others (ap (λ (v : ReplicaOf). v.waiting) inside_is ∙ waits)) in
    let both = length-filter_both (is_due thread done) (λ fault. not (is_due thread done fault)) (λ fault. refl) old.waiting in
    omega (arith, both)
