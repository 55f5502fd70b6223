-- Which threads stand still, as replicas run, are copied and are given effects.
use Rattle.std.specs.Prelude.{◌≡◌, ◌≢◌, ◌⊎◌, ℕ, zero, suc, ◌+◌, ◌<◌, ◌≤◌, Bool, true, false, ◌&&◌, if◌then◌else◌, List, [], ◌∷◌, length, Option, Some, None, is_some, slice_get, slice_set}
use Rattle.std.specs.Option.{option_and_then}
use Rattle.std.specs.List.{list_all}
use Rattle.std.proofs.Common.{refl, sym, ap, ◌∙◌, subst, arith, inl, inr}
use Rattle.std.proofs.lemmas.Bool.{cases_Bool, cases_eq, cases_lt}
use Rattle.std.proofs.lemmas.List.{length-set}
use Rattle.std.proofs.lemmas.Option.{slice_get_within}
use Rattle.ro_kernel.specs.Kernel.{Kernel}
use Rattle.ro_kernel.proofs.Kept.{slice_get-set_other}
use Rattle.ro_event.specs.declared.stops.Stop.{Stop}
use Rattle.ro_event.specs.Effects.{Effect}
use Rattle.ro_group.specs.Groups.{Groups, stands_in, stands, is_ready, Changes}
use Rattle.ro_plain.proofs.Calls.{some-injective}
use Rattle.ro_journal.specs.declared.Lease.{Lease}
use Rattle.ro_thread.specs.declared.Thread.{Thread}
use Rattle.ro_replica.specs.Replica.{Replica, applied, cancelled, recovered, stop_of, opening_replica}
use Rattle.ro_replica.specs.Runs.{RanTo, with_stop}
use Rattle.ro_replica.specs.Seen.{ReplicaOf, replica_of}
use Rattle.ro_legal.specs.Core.{Job, Core, opening_core}
use Rattle.ro_legal.specs.Event.{with_copy, with_recovered, all_applied}
use Rattle.ro_legal.specs.Legal.{lease_run, stopped}
use Rattle.ro_core.specs.Fields.{AreHome}
use Rattle.ro_core.specs.Grouped.{AreGrouped, AreMade, seat_stopped, Returns, CopiesRow, Copies, Releases, SettlesSeat, Settles}
use Rattle.ro_legal.specs.Sound.{BacksNone, FaultsWait}
use Rattle.ro_core.specs.Opening.{NoneStands}
use Rattle.ro_legal.proofs.Lists.{MappedFrom, get-map, length-mapped, get-set-same, changed-other}
use Rattle.ro_legal.proofs.Copies.{length-copy, still-there, recovered-threads, AfterCopy, not_lost, is_copy, after-copy}
use Rattle.ro_legal.proofs.Ordered.{length-opening, get-opening}
use Rattle.ro_legal.proofs.FaultStops.{none-settled}
use Rattle.ro_legal.proofs.Stops.{past-none, copied-stop, applied-other, applied-own, settled-stop}
use Rattle.ro_legal.proofs.Grants.{LentThread, lent-meets}

-- ---- a thread that stands still in every replica

pub ready-all : (replicas : List Replica) (groups : Groups) (thread : ℕ) → AreGrouped replicas groups → is_ready groups thread ≡ list_all (λ replica. is_some (stop_of replica thread)) replicas
ready-all [] [] thread h = refl
ready-all [] (row ∷ rows) thread h = absurd (let n = h.count in omega arith)
ready-all (r ∷ replicas) [] thread h = absurd (let n = h.count in omega arith)
ready-all (r ∷ replicas) (row ∷ rows) thread h =
    ap (λ (b : Bool). b && list_all (stands_in thread) rows) (h.each 0 thread r refl)
    ∙ ap (λ (b : Bool). is_some (stop_of r thread) && b) (ready-all replicas rows thread (record { count = (let n = h.count in omega arith); each = λ number t x e. h.each (suc number) t x e }))

-- a thread is ready as it was where it stands in each replica as it did
pub ready-same : (old new : Groups) (thread : ℕ) → length new ≡ length old → ((number : ℕ) → stands new number thread ≡ stands old number thread) → is_ready new thread ≡ is_ready old thread
ready-same [] [] thread count same = refl
ready-same [] (x ∷ new) thread count same = absurd (omega arith)
ready-same (x ∷ old) [] thread count same = absurd (omega arith)
ready-same (x ∷ old) (y ∷ new) thread count same =
    ap (λ (b : Bool). b && list_all (stands_in thread) new) (same 0) ∙ ap (λ (b : Bool). stands_in thread x && b) (ready-same old new thread (omega arith) (λ number. same (suc number)))

-- so is each other thread where one comes back
pub returned-ready : (replica back : ℕ) (stopped : Bool) (old new : Groups) → Returns replica back stopped old new → (thread : ℕ) → thread ≢ back → is_ready new thread ≡ is_ready old thread
returned-ready replica back true old new r thread other = let c = r.noted refl in ready-same old new thread c.count (λ number. c.others number thread (inr other))
returned-ready replica back false old new r thread other = ap (λ (gs : Groups). is_ready gs thread) (r.same refl)

-- ---- the opening

pub opening-grouped : (job : Job) (groups : Groups) → NoneStands job.settings.replicas groups → AreGrouped (opening_core job).replicas groups
unfolding opening_core opening_replica
opening-grouped job groups none = record {
  count = none.count ∙ sym (length-opening job job.settings.replicas);
  each = λ number thread r e. none.none number thread ∙ sym (ap (λ (x : Replica). is_some (stop_of x thread)) (sym (get-opening job job.settings.replicas number r e)) ∙ alone number thread);
}
  where
    alone : (number thread : ℕ) → is_some (stop_of (opening_replica job.program.image job.faults number) thread) ≡ false
    alone number zero = refl
    alone number (suc thread) = refl

-- ---- a run

put-into : (job : Job) (core : Core) (lease : Lease) (count : ℕ) (ran : RanTo) (runs : lease_run job core lease count ≡ Some ran) (stop : Option Stop) (lent : LentThread core lease.replica lease.thread) (groups new : Groups) (value : Replica)
    → slice_get (slice_set core.replicas lease.replica (stopped lease.thread stop ran.replica)) lease.replica ≡ Some value → AreGrouped core.replicas groups → Returns lease.replica lease.thread (is_some (stop_of value lease.thread)) groups new
    → AreGrouped (slice_set core.replicas lease.replica (stopped lease.thread stop ran.replica)) new
put-into job core lease count ran runs stop lent groups new value became h back = record {
  count = kept-count (cases_Bool (is_some (stop_of value lease.thread))) ∙ h.count ∙ sym (length-set core.replicas lease.replica (stopped lease.thread stop ran.replica));
  each = λ number t r e. by number t r e (cases_eq number lease.replica) (cases_eq t lease.thread);
}
  where
    kept-count : (is_some (stop_of value lease.thread) ≡ true) ⊎ (is_some (stop_of value lease.thread) ≡ false) → length new ≡ length groups
    kept-count (inl e) = (back.noted e).count
    kept-count (inr e) = ap (λ (g : Groups). length g) (back.same e)

    kept : (number t : ℕ) → (number ≢ lease.replica) ⊎ (t ≢ lease.thread) → (is_some (stop_of value lease.thread) ≡ true) ⊎ (is_some (stop_of value lease.thread) ≡ false) → stands new number t ≡ stands groups number t
    kept number t d (inl e) = (back.noted e).others number t d
    kept number t d (inr e) = ap (λ (g : Groups). stands g number t) (back.same e)

    arrived-is : value ≡ stopped lease.thread stop ran.replica
    arrived-is = some-injective (sym became ∙ get-set-same core.replicas lease.replica lent.lent (stopped lease.thread stop ran.replica) lent.in_core)

    -- the thread that ran
    own : (is_some (stop_of value lease.thread) ≡ true) ⊎ (is_some (stop_of value lease.thread) ≡ false) → stands new lease.replica lease.thread ≡ is_some (stop_of value lease.thread)
    own (inl e) = (back.noted e).named ∙ sym e
    own (inr e) =
        ap (λ (g : Groups). stands g lease.replica lease.thread) (back.same e) ∙ h.each lease.replica lease.thread lent.lent lent.in_core
        ∙ ap (λ (o : Option Thread). is_some (option_and_then (λ (t : Thread). t.stop) o)) lent.in_lent ∙ ap is_some lent.goes ∙ sym e

    -- another thread of its replica
    beside : (t : ℕ) → t ≢ lease.thread → stands new lease.replica t ≡ is_some (stop_of value t)
    beside t differs =
        kept lease.replica t (inr differs) (cases_Bool (is_some (stop_of value lease.thread))) ∙ h.each lease.replica t lent.lent lent.in_core
        ∙ ap (λ (o : Option Thread). is_some (option_and_then (λ (x : Thread). x.stop) o))
        (sym (changed-other (with_stop stop) ran.replica.threads lease.thread t differs ∙ (lent-meets job core lease count ran lent runs).only.others t differs))
        ∙ ap (λ (r : Replica). is_some (stop_of r t)) (sym arrived-is)

    by : (number t : ℕ) (r : Replica) → slice_get (slice_set core.replicas lease.replica (stopped lease.thread stop ran.replica)) number ≡ Some r → (number ≡ lease.replica) ⊎ (number ≢ lease.replica) → (t ≡ lease.thread) ⊎ (t ≢ lease.thread) → stands new number t ≡ is_some (stop_of r t)
    by number t r e (inr other) _ =
        kept number t (inl other) (cases_Bool (is_some (stop_of value lease.thread)))
        ∙ h.each number t r (sym (slice_get-set_other core.replicas lease.replica number (stopped lease.thread stop ran.replica) (λ k. other (sym k))) ∙ e)
    by number t r e (inl same) (inl here) =
        let is : value ≡ r = some-injective (sym became ∙ ap (slice_get (slice_set core.replicas lease.replica (stopped lease.thread stop ran.replica))) (sym same) ∙ e) in
        ap (λ (n : ℕ). stands new n t) same ∙ ap (stands new lease.replica) here ∙ own (cases_Bool (is_some (stop_of value lease.thread))) ∙ ap (λ (x : Replica). is_some (stop_of x lease.thread)) is ∙ ap (λ (n : ℕ). is_some (stop_of r n)) (sym here)
    by number t r e (inl same) (inr differs) =
        let is : value ≡ r = some-injective (sym became ∙ ap (slice_get (slice_set core.replicas lease.replica (stopped lease.thread stop ran.replica))) (sym same) ∙ e) in
        ap (λ (n : ℕ). stands new n t) same ∙ beside t differs ∙ ap (λ (x : Replica). is_some (stop_of x t)) is

-- a lease that comes back keeps the groups
pub return-grouped : (job : Job) (core new-core : Core) (lease : Lease) (count : ℕ) (ran : RanTo) (runs : lease_run job core lease count ≡ Some ran) (stop : Option Stop) → LentThread core lease.replica lease.thread
    → new-core.replicas ≡ slice_set core.replicas lease.replica (stopped lease.thread stop ran.replica) → (groups new : Groups) (value : Replica)
    → slice_get new-core.replicas lease.replica ≡ Some value → AreGrouped core.replicas groups → Returns lease.replica lease.thread (is_some (stop_of value lease.thread)) groups new
    → AreGrouped new-core.replicas new
return-grouped job core new-core lease count ran runs stop lent is groups new value became h back =
    subst (λ (rs : List Replica). AreGrouped rs new) (sym is)
    (put-into job core lease count ran runs stop lent groups new value (ap (λ (rs : List Replica). slice_get rs lease.replica) (sym is) ∙ became) h back)

-- ---- a copy

-- where one replica is a copy
copy-grouped : (won lost threads : ℕ) (replicas : List Replica) (winner : Replica) (old new : Groups) → slice_get replicas won ≡ Some winner → AreMade threads replicas → AreGrouped replicas old → CopiesRow won lost threads old new → AreGrouped (with_copy won lost replicas) new
unfolding recovered
copy-grouped won lost threads replicas winner old new there made h c = record {
  count = c.count ∙ h.count ∙ sym (length-copy won lost replicas);
  each = λ number thread r e. by number thread r (after-copy won lost replicas winner number r there e) (cases_lt thread threads);
}
  where
    by : (number thread : ℕ) (r : Replica) → AfterCopy won lost replicas number r → (thread < threads) ⊎ (threads ≤ thread) → stands new number thread ≡ is_some (stop_of r thread)
    by number thread r (not_lost differs e) _ = c.others number thread (inl differs) ∙ h.each number thread r e
    by number thread r (is_copy w l same at_won at_lost is) (inl less) =
        ap (λ (n : ℕ). stands new n thread) same ∙ c.copied thread less ∙ h.each won thread w at_won
        ∙ ap is_some (sym (copy-stop w l at_won at_lost thread)) ∙ ap (λ (x : Replica). is_some (stop_of x thread)) is
      where
        copy-stop : (w l : Replica) → slice_get replicas won ≡ Some w → slice_get replicas lost ≡ Some l → (thread : ℕ) → stop_of (recovered w l) thread ≡ stop_of w thread
        copy-stop w l a b thread = copied-stop w.threads l.threads thread (made won w a ∙ sym (made lost l b))
    by number thread r (is_copy w l same at_won at_lost is) (inr past) =
        ap (λ (n : ℕ). stands new n thread) same ∙ c.others lost thread (inr past) ∙ h.each lost thread l at_lost
        ∙ past-none l thread (let n = made lost l at_lost in omega arith)
        ∙ sym (past-none w thread (let n = made won w at_won in omega arith))
        ∙ ap is_some (sym (copy-stop w l at_won at_lost thread)) ∙ ap (λ (x : Replica). is_some (stop_of x thread)) is
      where
        copy-stop : (w l : Replica) → slice_get replicas won ≡ Some w → slice_get replicas lost ≡ Some l → (thread : ℕ) → stop_of (recovered w l) thread ≡ stop_of w thread
        copy-stop w l a b thread = copied-stop w.threads l.threads thread (made won w a ∙ sym (made lost l b))

-- a copy has as many threads as there were
copy-made : (won lost threads : ℕ) (replicas : List Replica) (winner : Replica) → slice_get replicas won ≡ Some winner → AreMade threads replicas → AreMade threads (with_copy won lost replicas)
copy-made won lost threads replicas winner there made number r e = by (after-copy won lost replicas winner number r there e)
  where
    by : AfterCopy won lost replicas number r → length r.threads ≡ threads
    by (not_lost differs f) = made number r f
    by (is_copy w l same at_won at_lost is) = sym (ap (λ (x : Replica). length x.threads) is) ∙ (recovered-threads w l (made won w at_won ∙ sym (made lost l at_lost)) ∙ made won w at_won)

-- where each loser is
pub copies-grouped : (won : ℕ) (lost : List ℕ) (threads : ℕ) (replicas : List Replica) (winner : Replica) (old new : Groups) → slice_get replicas won ≡ Some winner → AreMade threads replicas → AreGrouped replicas old → Copies won lost threads old new → AreGrouped (with_recovered won lost replicas) new
copies-grouped won [] threads replicas winner old new there made h c = subst (AreGrouped replicas) (sym c) h
copies-grouped won (lost ∷ losers) threads replicas winner old new there made h (amid, row, rest) =
    let w = still-there won lost replicas winner there in
    copies-grouped won losers threads (with_copy won lost replicas) w.0 amid new w.1 (copy-made won lost threads replicas winner there made) (copy-grouped won lost threads replicas winner old amid there made h row) rest

-- ---- an effect

-- a thread that is made stands behind the others, and goes on
-- the groups once an effect's thread is released
released-each : (effect : Effect) (replicas : List Replica) (old new : Groups) → AreGrouped replicas old → Releases effect old new → (number thread : ℕ) (replica : Replica) → slice_get replicas number ≡ Some replica → stands new number thread ≡ is_some (stop_of (applied effect replica) thread)
released-each effect replicas old new h r number thread replica e = by (cases_Bool effect.releases) (cases_eq thread effect.thread)
  where
    by : (effect.releases ≡ true) ⊎ (effect.releases ≡ false) → (thread ≡ effect.thread) ⊎ (thread ≢ effect.thread) → stands new number thread ≡ is_some (stop_of (applied effect replica) thread)
    by (inl releases) (inl own) =
        ap (stands new number) own ∙ (r.released releases).named number
        ∙ sym (ap is_some (ap (stop_of (applied effect replica)) own ∙ applied-own effect replica ∙ ap (λ (b : Bool). if b then None else stop_of replica effect.thread) releases))
    by (inl releases) (inr other) = (r.released releases).others number thread other ∙ h.each number thread replica e ∙ ap is_some (sym (applied-other effect replica thread other))
    by (inr keeps) (inl own) =
        ap (λ (g : Groups). stands g number thread) (r.same keeps) ∙ h.each number thread replica e
        ∙ ap is_some (ap (stop_of replica) own ∙ sym (ap (stop_of (applied effect replica)) own ∙ applied-own effect replica ∙ ap (λ (b : Bool). if b then None else stop_of replica effect.thread) keeps))
    by (inr keeps) (inr other) = ap (λ (g : Groups). stands g number thread) (r.same keeps) ∙ h.each number thread replica e ∙ ap is_some (sym (applied-other effect replica thread other))

-- the seat of a replica that is home
pub home-seat : (job : Job) (kernel : Kernel) (seats : List (Option ReplicaOf)) (replicas : List Replica) (number : ℕ) (replica : Replica) → AreHome job kernel seats replicas → slice_get replicas number ≡ Some replica → (value : ReplicaOf) × (slice_get seats number ≡ Some (Some value)) × (replica_of value ≡ replica)
home-seat job kernel [] [] number replica h e = absurd (let f : None ≡ Some replica = e in cc)
home-seat job kernel (Some value ∷ seats) (r ∷ replicas) zero replica h e = (value, refl, h.1 ∙ some-injective e)
home-seat job kernel (Some value ∷ seats) (r ∷ replicas) (suc number) replica h e = home-seat job kernel seats replicas number replica h.2 e
home-seat job kernel seats replicas number replica h e = absurd h

-- an effect in every replica keeps the groups
pub regrouped : (job : Job) (kernel : Kernel) (effect : Effect) (before : List Replica) (seats : List (Option ReplicaOf)) (replicas threads : ℕ) (old mid new : Groups) → length old ≡ replicas → length mid ≡ length old → Releases effect old mid → Settles seats replicas threads mid new
    → AreGrouped before old → AreMade threads before → AreHome job kernel seats (all_applied effect before) → AreGrouped (all_applied effect before) new
regrouped job kernel effect before seats replicas threads old mid new many same r s h made home = record {
  count = s.count ∙ same ∙ h.count ∙ sym (length-mapped (λ (x : Replica). cancelled (applied effect x)) before);
  each = λ number thread x e. by number thread x e (get-map (λ (x : Replica). cancelled (applied effect x)) before number x e) (cases_lt thread threads);
}
  where
    by : (number thread : ℕ) (x : Replica) → slice_get (all_applied effect before) number ≡ Some x → MappedFrom (λ (x : Replica). cancelled (applied effect x)) before number x → (thread < threads) ⊎ (threads ≤ thread) → stands new number thread ≡ is_some (stop_of x thread)
    by number thread x e m (inl less) =
        let seat = home-seat job kernel seats (all_applied effect before) number x home e in
        let within : number < replicas = (let w = slice_get_within before number m.from m.there in let n = h.count in omega arith) in
        s.settled number thread (Some seat.0) within seat.1 less
        ∙ ap (λ (b : Bool). b && is_some (stop_of (replica_of seat.0) thread)) (released-each effect before old mid h r number thread m.from m.there)
        ∙ ap (λ (y : Replica). is_some (stop_of (applied effect m.from) thread) && is_some (stop_of y thread)) (seat.2 ∙ sym m.gives)
        ∙ settled-stop (applied effect m.from) thread
        ∙ ap (λ (y : Replica). is_some (stop_of y thread)) m.gives
    by number thread x e m (inr past) =
        let gone : is_some (stop_of (applied effect m.from) thread) ≡ false = not-made (cases_eq thread effect.thread) (past-none m.from thread (let n = made number m.from m.there in omega arith)) in
        s.others number thread (inr past) ∙ released-each effect before old mid h r number thread m.from m.there ∙ gone
        ∙ sym (sym (settled-stop (applied effect m.from) thread) ∙ ap (λ (b : Bool). b && is_some (stop_of (cancelled (applied effect m.from)) thread)) gone)
        ∙ ap (λ (y : Replica). is_some (stop_of y thread)) m.gives
      where
        held : (b : Bool) (o : Option Stop) → is_some o ≡ false → is_some (if b then None else o) ≡ false
        held true o f = refl
        held false o f = f

        not-made : (thread ≡ effect.thread) ⊎ (thread ≢ effect.thread) → is_some (stop_of m.from thread) ≡ false → is_some (stop_of (applied effect m.from) thread) ≡ false
        not-made (inl own) f =
            ap is_some (ap (stop_of (applied effect m.from)) own ∙ applied-own effect m.from)
            ∙ held effect.releases (stop_of m.from effect.thread) (ap (λ (n : ℕ). is_some (stop_of m.from n)) (sym own) ∙ f)
        not-made (inr other) f = ap is_some (applied-other effect m.from thread other) ∙ f

-- the same of an effect that backs no page: its thread is released, and no page fault is settled
pub regrouped-quiet : (effect : Effect) (before : List Replica) (old new : Groups) → BacksNone effect → Releases effect old new → AreGrouped before old → FaultsWait before → AreGrouped (all_applied effect before) new
regrouped-quiet effect before old new none r h wait = record {
  count = r.count ∙ h.count ∙ sym (length-mapped (λ (x : Replica). cancelled (applied effect x)) before);
  each = λ number thread x e. by number thread x (get-map (λ (x : Replica). cancelled (applied effect x)) before number x e);
}
  where
    by : (number thread : ℕ) (x : Replica) → MappedFrom (λ (x : Replica). cancelled (applied effect x)) before number x → stands new number thread ≡ is_some (stop_of x thread)
    by number thread x m =
        released-each effect before old new h r number thread m.from m.there
        ∙ ap is_some (sym (none-settled effect m.from none (wait number m.from m.there) thread))
        ∙ ap (λ (y : Replica). is_some (stop_of y thread)) m.gives

-- ---- loops

-- of no threads
pub row-none : (from to : ℕ) (groups : Groups) → CopiesRow from to 0 groups groups
row-none from to groups = record { count = refl; copied = λ t less. absurd (omega arith); others = λ n t d. refl }

pub seat-none : (seat : Option ReplicaOf) (replica : ℕ) (groups : Groups) → SettlesSeat seat replica 0 groups groups
seat-none seat replica groups = record { count = refl; settled = λ t less. absurd (omega arith); others = λ n t d. refl }

-- of no seats
pub seats-none : (seats : List (Option ReplicaOf)) (threads : ℕ) (groups : Groups) → Settles seats 0 threads groups groups
seats-none seats threads groups = record { count = refl; settled = λ n t seat less e few. absurd (omega arith); others = λ n t d. refl }

-- one thread more of a row that is copied
pub row-more : (from to thread : ℕ) (old mid new : Groups) → from ≢ to → CopiesRow from to thread old mid → Changes mid new to thread (stands mid from thread) → CopiesRow from to (thread + 1) old new
row-more from to thread old mid new differ h c = record {
  count = c.count ∙ h.count;
  copied = λ t less. by t less (cases_eq t thread);
  others = λ n t d. later n t d;
}
  where
    by : (t : ℕ) → t < thread + 1 → (t ≡ thread) ⊎ (t ≢ thread) → stands new to t ≡ stands old from t
    by t less (inl same) = ap (stands new to) same ∙ c.named ∙ h.others from thread (inl differ) ∙ ap (stands old from) (sym same)
    by t less (inr other) = c.others to t (inr other) ∙ h.copied t (omega arith)

    later : (n t : ℕ) → (n ≢ to) ⊎ (thread + 1 ≤ t) → stands new n t ≡ stands old n t
    later n t (inl other) = c.others n t (inl other) ∙ h.others n t (inl other)
    later n t (inr past) = c.others n t (inr (λ (e : t ≡ thread). omega arith)) ∙ h.others n t (inr (omega arith))

-- one thread more of a seat that is settled
pub seat-more : (seat : Option ReplicaOf) (replica thread : ℕ) (old mid new : Groups) → SettlesSeat seat replica thread old mid → Changes mid new replica thread (stands mid replica thread && seat_stopped thread seat) → SettlesSeat seat replica (thread + 1) old new
seat-more seat replica thread old mid new h c = record {
  count = c.count ∙ h.count;
  settled = λ t less. by t less (cases_eq t thread);
  others = λ n t d. later n t d;
}
  where
    by : (t : ℕ) → t < thread + 1 → (t ≡ thread) ⊎ (t ≢ thread) → stands new replica t ≡ (stands old replica t && seat_stopped t seat)
    by t less (inl same) =
        ap (stands new replica) same ∙ c.named ∙ ap (λ (b : Bool). b && seat_stopped thread seat) (h.others replica thread (inr (omega arith)))
        ∙ ap (λ (n : ℕ). stands old replica n && seat_stopped n seat) (sym same)
    by t less (inr other) = c.others replica t (inr other) ∙ h.settled t (omega arith)

    later : (n t : ℕ) → (n ≢ replica) ⊎ (thread + 1 ≤ t) → stands new n t ≡ stands old n t
    later n t (inl other) = c.others n t (inl other) ∙ h.others n t (inl other)
    later n t (inr past) = c.others n t (inr (λ (e : t ≡ thread). omega arith)) ∙ h.others n t (inr (omega arith))

-- one seat more
pub seats-more : (seats : List (Option ReplicaOf)) (seat : Option ReplicaOf) (replica threads : ℕ) (old mid new : Groups) → slice_get seats replica ≡ Some seat → Settles seats replica threads old mid → SettlesSeat seat replica threads mid new → Settles seats (replica + 1) threads old new
seats-more seats seat replica threads old mid new there h c = record {
  count = c.count ∙ h.count;
  settled = λ n t x less e few. by n t x less e few (cases_eq n replica);
  others = λ n t d. later n t d;
}
  where
    by : (n t : ℕ) (x : Option ReplicaOf) → n < replica + 1 → slice_get seats n ≡ Some x → t < threads → (n ≡ replica) ⊎ (n ≢ replica) → stands new n t ≡ (stands old n t && seat_stopped t x)
    by n t x less e few (inl same) =
        let is : seat ≡ x = some-injective (sym there ∙ ap (slice_get seats) (sym same) ∙ e) in
        ap (λ (m : ℕ). stands new m t) same ∙ c.settled t few ∙ ap (λ (b : Bool). b && seat_stopped t seat) (h.others replica t (inl (omega arith)))
        ∙ ap (λ (m : ℕ). stands old m t && seat_stopped t seat) (sym same) ∙ ap (λ (y : Option ReplicaOf). stands old n t && seat_stopped t y) is
    by n t x less e few (inr other) = c.others n t (inl other) ∙ h.settled n t x (omega arith) e few

    later : (n t : ℕ) → (replica + 1 ≤ n) ⊎ (threads ≤ t) → stands new n t ≡ stands old n t
    later n t (inl past) = c.others n t (inl (λ (e : n ≡ replica). omega arith)) ∙ h.others n t (inl (omega arith))
    later n t (inr past) = c.others n t (inr past) ∙ h.others n t (inr past)
