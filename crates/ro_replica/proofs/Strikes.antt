-- Faults that are struck.
use Rattle.std.specs.Prelude.{◌≡◌, ℕ, ◌+◌, Bool, true, false, not, cond, List, [], ◌∷◌, length, Option, Some, None, slice_get}
use Rattle.std.specs.List.{filter, fold}
use Rattle.std.specs.Option.{option_map}
use Rattle.std.specs.Prelude.{◌<◌, ◌++◌, slice_index_or}
use Rattle.std.proofs.Common.{refl, sym, ap, ◌∙◌, arith, subst, take, append-nil, length-append}
use Rattle.std.proofs.lemmas.List.Elements.{filter_more}
use Rattle.ro_region.specs.declared.Range.{Range}
use Rattle.ro_thread.specs.declared.Thread.{Thread}
use Rattle.ro_faults.specs.declared.Fault.{Fault}
use Rattle.ro_faults.specs.declared.Target.{Target}
use Rattle.ro_faults.specs.declared.Target.TheVariants.{Register, Pc, Byte}
use Rattle.ro_replica.specs.Replica.{Replica}
use Rattle.ro_replica.specs.Runs.{RanTo, is_due, with_cpu, struck_by, strike, strike_in, struck}
use Rattle.ro_replica.proofs.Elements.{get_changed, filter_other, filter_none}

-- no fault of the thread waits for this moment
abbrev pub NoneDue : (thread done : ℕ) → Replica → Type 0
NoneDue thread done replica = filter (is_due thread done) replica.waiting ≡ []

-- how many instructions the replica has retired of the thread, if it was made
abbrev pub done_at : (thread : ℕ) → Replica → Option ℕ
done_at thread replica = option_map (λ x. x.done) (slice_get replica.threads thread)

abbrev pub strike_at : List Range → (thread : ℕ) → Replica → Option ℕ → RanTo
strike_at ranges thread replica None = record { replica = replica; hit = 0 }
strike_at ranges thread replica (Some done) = strike ranges thread done replica

-- a strike by the thread's count
pub struck_is : (ranges : List Range) (replica : Replica) (thread : ℕ) → struck ranges replica thread ≡ strike_at ranges thread replica (done_at thread replica)
unfolding struck
struck_is ranges replica thread = by (slice_get replica.threads thread)
  where
    by : (o : Option Thread) → strike_in ranges thread replica o ≡ strike_at ranges thread replica (option_map (λ x. x.done) o)
    by None = refl
    by (Some x) = refl

-- a strike at one target keeps what waits, and the thread's count
pub struck_by_waiting : (ranges : List Range) (thread : ℕ) (replica : Replica) (target : Target) → (struck_by ranges thread replica target).waiting ≡ replica.waiting
struck_by_waiting ranges thread replica (Register number bit) = refl
struck_by_waiting ranges thread replica (Pc bit) = refl
struck_by_waiting ranges thread replica (Byte address bit) = refl

pub struck_by_done : (ranges : List Range) (thread : ℕ) (replica : Replica) (target : Target) → done_at thread (struck_by ranges thread replica target) ≡ done_at thread replica
struck_by_done ranges thread replica (Register number bit) = rw get_changed (by (slice_get replica.threads thread) _)
  where
    by : (o : Option Thread) (f : _) → option_map (λ (x : Thread). x.done) (option_map (with_cpu f) o) ≡ option_map (λ (x : Thread). x.done) o
    by None f = refl
    by (Some x) f = refl
struck_by_done ranges thread replica (Pc bit) = rw get_changed (by (slice_get replica.threads thread) _)
  where
    by : (o : Option Thread) (f : _) → option_map (λ (x : Thread). x.done) (option_map (with_cpu f) o) ≡ option_map (λ (x : Thread). x.done) o
    by None f = refl
    by (Some x) f = refl
struck_by_done ranges thread replica (Byte address bit) = refl

-- strikes at targets, one after another
abbrev pub strikes : List Range → (thread : ℕ) → Replica → List Fault → Replica
strikes ranges thread replica faults = fold (λ r fault. struck_by ranges thread r fault.target) replica faults

pub strikes_waiting : (ranges : List Range) (thread : ℕ) (replica : Replica) (faults : List Fault) → (strikes ranges thread replica faults).waiting ≡ replica.waiting
strikes_waiting ranges thread replica [] = refl
strikes_waiting ranges thread replica (fault ∷ faults) =
    strikes_waiting ranges thread (struck_by ranges thread replica fault.target) faults ∙ struck_by_waiting ranges thread replica fault.target

pub strikes_done : (ranges : List Range) (thread : ℕ) (replica : Replica) (faults : List Fault) → done_at thread (strikes ranges thread replica faults) ≡ done_at thread replica
strikes_done ranges thread replica [] = refl
strikes_done ranges thread replica (fault ∷ faults) =
    strikes_done ranges thread (struck_by ranges thread replica fault.target) faults ∙ struck_by_done ranges thread replica fault.target

-- a strike where nothing is due
pub strike_none : (ranges : List Range) (thread done : ℕ) (replica : Replica) → NoneDue thread done replica → strike ranges thread done replica ≡ record { replica = replica; hit = 0 }
strike_none ranges thread done replica none = rw (none, filter_none (is_due thread done) replica.waiting none)

-- a second strike at one moment strikes nothing
pub strike_twice : (ranges : List Range) (thread done : ℕ) (replica : Replica) → NoneDue thread done (strike ranges thread done replica).replica
strike_twice ranges thread done replica =
    let left : List Fault = filter (λ fault. not (is_due thread done fault)) replica.waiting in
    subst (λ (waiting : List Fault). filter (is_due thread done) waiting ≡ []) (sym (strikes_waiting ranges thread (record replica { waiting = left }) (filter (is_due thread done) replica.waiting)))
    (filter_other (is_due thread done) replica.waiting)

pub struck_done : (ranges : List Range) (replica : Replica) (thread : ℕ) → done_at thread (struck ranges replica thread).replica ≡ done_at thread replica
struck_done ranges replica thread = ap (λ (ran : RanTo). done_at thread ran.replica) (struck_is ranges replica thread) ∙ by (done_at thread replica)
  where
    by : (o : Option ℕ) → done_at thread (strike_at ranges thread replica o).replica ≡ done_at thread replica
    by None = refl
    by (Some done) = strikes_done ranges thread (record replica { waiting = filter (λ fault. not (is_due thread done fault)) replica.waiting }) (filter (is_due thread done) replica.waiting)

pub struck_twice : (ranges : List Range) (replica : Replica) (thread : ℕ) → struck ranges (struck ranges replica thread).replica thread ≡ record { replica = (struck ranges replica thread).replica; hit = 0 }
struck_twice ranges replica thread =
    let after : Replica = (struck ranges replica thread).replica in
    struck_is ranges after thread
    ∙ ap (strike_at ranges thread after) (struck_done ranges replica thread)
    ∙ by (done_at thread replica) (struck_is ranges replica thread)
  where
    by : (o : Option ℕ) → struck ranges replica thread ≡ strike_at ranges thread replica o → strike_at ranges thread (struck ranges replica thread).replica o ≡ record { replica = (struck ranges replica thread).replica; hit = 0 }
    by None e = refl
    by (Some done) e = strike_none ranges thread done (struck ranges replica thread).replica (subst (λ (ran : RanTo). NoneDue thread done ran.replica) (sym e) (strike_twice ranges thread done replica))

-- a strike where nothing is due at the thread's count
pub struck_none : (ranges : List Range) (replica : Replica) (thread done : ℕ) → done_at thread replica ≡ Some done → NoneDue thread done replica → struck ranges replica thread ≡ record { replica = replica; hit = 0 }
struck_none ranges replica thread done e none =
    struck_is ranges replica thread ∙ ap (strike_at ranges thread replica) e ∙ strike_none ranges thread done replica none

-- a strike at one fault more
strikes_last : (ranges : List Range) (thread : ℕ) (replica : Replica) (faults : List Fault) (fault : Fault) → strikes ranges thread replica (faults ++ fault ∷ []) ≡ struck_by ranges thread (strikes ranges thread replica faults) fault.target
strikes_last ranges thread replica [] fault = refl
strikes_last ranges thread replica (first ∷ faults) fault = strikes_last ranges thread (struck_by ranges thread replica first.target) faults fault

pub filter_takes : (p : Fault → Bool) (faults : List Fault) (i : ℕ) (fault : Fault) → i < length faults → fault ≡ slice_index_or faults i fault → p fault ≡ true → filter p (take (i + 1) faults) ≡ filter p (take i faults) ++ fault ∷ []
filter_takes p faults i fault within read passes =
    filter_more p faults i fault within
    ∙ ap (λ (x : Fault). filter p (take i faults) ++ cond (p x) (x ∷ []) []) (sym read)
    ∙ ap (λ (b : Bool). filter p (take i faults) ++ cond b (fault ∷ []) []) passes

pub filter_skips : (p : Fault → Bool) (faults : List Fault) (i : ℕ) (fault : Fault) → i < length faults → fault ≡ slice_index_or faults i fault → p fault ≡ false → filter p (take (i + 1) faults) ≡ filter p (take i faults)
filter_skips p faults i fault within read fails =
    filter_more p faults i fault within
    ∙ ap (λ (x : Fault). filter p (take i faults) ++ cond (p x) (x ∷ []) []) (sym read)
    ∙ ap (λ (b : Bool). filter p (take i faults) ++ cond b (fault ∷ []) []) fails
    ∙ append-nil (filter p (take i faults))

pub strikes_more : (ranges : List Range) (thread : ℕ) (replica : Replica) (p : Fault → Bool) (faults : List Fault) (i : ℕ) (fault : Fault) → i < length faults → fault ≡ slice_index_or faults i fault → p fault ≡ true
    → strikes ranges thread replica (filter p (take (i + 1) faults)) ≡ struck_by ranges thread (strikes ranges thread replica (filter p (take i faults))) fault.target
strikes_more ranges thread replica p faults i fault within read passes =
    ap (strikes ranges thread replica) (filter_takes p faults i fault within read passes)
    ∙ strikes_last ranges thread replica (filter p (take i faults)) fault

-- what waits does not matter to the strikes
strikes_leave : (ranges : List Range) (thread : ℕ) (replica : Replica) (left : List Fault) (faults : List Fault) → strikes ranges thread (record replica { waiting = left }) faults ≡ record (strikes ranges thread replica faults) { waiting = left }
strikes_leave ranges thread replica left [] = refl
strikes_leave ranges thread replica left (fault ∷ faults) =
    ap (λ (r : Replica). strikes ranges thread r faults) (one fault.target) ∙ strikes_leave ranges thread (struck_by ranges thread replica fault.target) left faults
  where
    one : (target : Target) → struck_by ranges thread (record replica { waiting = left }) target ≡ record (struck_by ranges thread replica target) { waiting = left }
    one (Register number bit) = refl
    one (Pc bit) = refl
    one (Byte address bit) = refl

-- a strike, as strikes at all that is due, which is left out then
pub struck_all : (ranges : List Range) (replica after : Replica) (thread done hit : ℕ) → done_at thread replica ≡ Some done
    → after ≡ record (strikes ranges thread replica (filter (is_due thread done) replica.waiting)) { waiting = filter (λ fault. not (is_due thread done fault)) replica.waiting }
    → hit ≡ length (filter (is_due thread done) replica.waiting)
    → struck ranges replica thread ≡ record { replica = after; hit = hit }
struck_all ranges replica after thread done hit there is count =
    let due : List Fault = filter (is_due thread done) replica.waiting in
    let left : List Fault = filter (λ fault. not (is_due thread done fault)) replica.waiting in
    struck_is ranges replica thread ∙ ap (strike_at ranges thread replica) there
    ∙ ap (λ (r : Replica). record { replica = r; hit = length due }) (strikes_leave ranges thread replica left due ∙ sym is)
    ∙ ap (λ (n : ℕ). record { replica = after; hit = n }) (sym count)

-- none is found in one place more
pub none_more : (p : Fault → Bool) (faults : List Fault) (i : ℕ) (d : Fault) → i < length faults → filter p (take i faults) ≡ [] → p (slice_index_or faults i d) ≡ false → filter p (take (i + 1) faults) ≡ []
none_more p faults i d within none fails =
    filter_more p faults i d within
    ∙ ap (λ (b : Bool). filter p (take i faults) ++ cond b (slice_index_or faults i d ∷ []) []) fails
    ∙ append-nil (filter p (take i faults)) ∙ none

pub none_less : (p : Fault → Bool) (faults : List Fault) (i : ℕ) (d : Fault) → i < length faults → filter p (take (i + 1) faults) ≡ [] → (filter p (take i faults) ≡ []) × (p (slice_index_or faults i d) ≡ false)
none_less p faults i d within none = by (p (slice_index_or faults i d)) refl (sym (filter_more p faults i d within) ∙ none)
  where
    by : (b : Bool) → p (slice_index_or faults i d) ≡ b → filter p (take i faults) ++ cond (p (slice_index_or faults i d)) (slice_index_or faults i d ∷ []) [] ≡ [] → (filter p (take i faults) ≡ []) × (p (slice_index_or faults i d) ≡ false)
    by true e h = absurd (
        let h1 : filter p (take i faults) ++ slice_index_or faults i d ∷ [] ≡ [] = subst (λ (b : Bool). filter p (take i faults) ++ cond b (slice_index_or faults i d ∷ []) [] ≡ []) e h in
        let n : length (filter p (take i faults)) + 1 ≡ 0 = sym (length-append (filter p (take i faults)) (slice_index_or faults i d ∷ [])) ∙ ap length h1 in
        omega arith)
    by false e h =
        (sym (append-nil (filter p (take i faults))) ∙ subst (λ (b : Bool). filter p (take i faults) ++ cond b (slice_index_or faults i d ∷ []) [] ≡ []) e h, e)
