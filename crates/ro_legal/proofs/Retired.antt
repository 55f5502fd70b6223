-- A run: which faults it strikes, how many instructions it retires, and what it leaves alone.
use Rattle.std.specs.Prelude.{◌≡◌, ◌≢◌, ℕ, zero, suc, ◌+◌, ◌≤◌, ◌⊎◌, Bool, true, false, not, cond, ◌&&◌, ◌||◌, ◌==◌, nat_le, List, [], ◌∷◌, length, Option, Some, None, slice_get, slice_set}
use Rattle.std.specs.List.{filter, fold}
use Rattle.std.specs.Option.{option_map, option_and_then}
use Rattle.std.proofs.Common.{refl, sym, ap, ◌∙◌, subst, arith, inl, inr}
use Rattle.std.proofs.lemmas.Bool.{cases_Bool, or_cases, and_parts, and_from, or_left, or_right, le-leb, leb-true, eqb-true, eqb-false, eq-eqb}
use Rattle.ro_region.specs.declared.Range.{Range}
use Rattle.ro_kernel.proofs.Kept.{slice_get-set_other}
use Rattle.ro_exec.specs.Next.{Layout, next}
use Rattle.ro_thread.specs.declared.Thread.{Thread}
use Rattle.ro_faults.specs.declared.Fault.{Fault}
use Rattle.ro_faults.specs.declared.Target.{Target}
use Rattle.ro_faults.specs.declared.Target.TheVariants.{Register, Pc, Byte}
use Rattle.ro_replica.specs.Replica.{Replica, changed_at}
use Rattle.ro_replica.specs.Runs.{is_due, struck_by, RanTo, strike_in, struck, execute_next, execute_at, execute, plus_hit, run_of}
use Rattle.ro_plain.proofs.Calls.{some-injective}
use Rattle.ro_legal.proofs.Lists.{get-set-same, changed-is-set}
use Rattle.ro_legal.proofs.Sound.{Instructs, instructs, instructed, RunParts, run-parts, SameButWaiting, none-struck}

-- ---- lists that are filtered twice

-- by whether the first element passes
filter-cons : {X : Type 0} (q : X → Bool) (x : X) (xs ys : List X) (b c : Bool) → filter q xs ≡ ys → (b && q x) ≡ c → filter q (cond b (x ∷ xs) xs) ≡ cond c (x ∷ ys) ys
filter-cons q x xs ys false c rest e = rest ∙ ap (λ (d : Bool). cond d (x ∷ ys) ys) e
filter-cons q x xs ys true c rest e = (λ t. cond (e t) (x ∷ rest t) (rest t))

-- what passes two tests passes the one that is both
pub filter-filter : {X : Type 0} (p q r : X → Bool) → ((x : X) → (p x && q x) ≡ r x) → (xs : List X) → filter q (filter p xs) ≡ filter r xs
filter-filter p q r both [] = refl
filter-filter p q r both (x ∷ xs) = filter-cons q x (filter p xs) (filter r xs) (p x) (r x) (filter-filter p q r both xs) (both x)

-- the same test
pub filter-same : {X : Type 0} (p q : X → Bool) → ((x : X) → p x ≡ q x) → (xs : List X) → filter p xs ≡ filter q xs
filter-same p q same [] = refl
filter-same p q same (x ∷ xs) = (λ t. cond (same x t) (x ∷ filter-same p q same xs t) (filter-same p q same xs t))

-- by whether the first element passes
parts-cons : {X : Type 0} (q : X → Bool) (x : X) (ps others rs : List X) (b c d : Bool) → q x ≡ c → (b || c) ≡ d → length ps + length (filter q others) ≡ length rs
    → length (cond b (x ∷ ps) ps) + length (filter q (cond (not b) (x ∷ others) others)) ≡ length (cond d (x ∷ rs) rs)
parts-cons q x ps others rs true c d e f rest = (let g : suc (length ps) + length (filter q others) ≡ suc (length rs) = omega (arith, rest) in g) ∙ ap (λ (h : Bool). length (cond h (x ∷ rs) rs)) f
parts-cons q x ps others rs false true d e f rest =
    ap (λ (h : Bool). length ps + length (cond h (x ∷ filter q others) (filter q others))) e
    ∙ (let g : length ps + suc (length (filter q others)) ≡ suc (length rs) = omega (arith, rest) in g) ∙ ap (λ (h : Bool). length (cond h (x ∷ rs) rs)) f
parts-cons q x ps others rs false false d e f rest =
    ap (λ (h : Bool). length ps + length (cond h (x ∷ filter q others) (filter q others))) e ∙ rest ∙ ap (λ (h : Bool). length (cond h (x ∷ rs) rs)) f

-- those that pass one test, and of the others those that pass a second one
pub length-parts : {X : Type 0} (p q r : X → Bool) → ((x : X) → (p x || q x) ≡ r x) → (xs : List X) → length (filter p xs) + length (filter q (filter (λ x. not (p x)) xs)) ≡ length (filter r xs)
length-parts p q r either [] = refl
length-parts p q r either (x ∷ xs) = parts-cons q x (filter p xs) (filter (λ y. not (p y)) xs) (filter r xs) (p x) (q x) (r x) refl (either x) (length-parts p q r either xs)

-- ---- moments

-- two tests that each give the other
pub same-bool : (b c : Bool) → (b ≡ true → c ≡ true) → (c ≡ true → b ≡ true) → b ≡ c
same-bool true c there back = sym (there refl)
same-bool false true there back = back refl
same-bool false false there back = refl

pub not-or : (b c d : Bool) → (b || c) ≡ d → (not b && not c) ≡ not d
not-or true c d e = ap not e
not-or false c d e = ap not e

-- the moment of the fault is in this stretch of its thread's
abbrev pub is_passed : (thread first last : ℕ) → Fault → Bool
is_passed thread first last fault = (fault.thread == thread) && (nat_le first fault.at && nat_le fault.at last)

-- what such a fault is
pub record Passed (thread first last : ℕ) (fault : Fault) : Type 0 where
  pub own : fault.thread ≡ thread
  pub after : first ≤ fault.at
  pub before : fault.at ≤ last

pub passed-parts : (thread first last : ℕ) (fault : Fault) → is_passed thread first last fault ≡ true → Passed thread first last fault
passed-parts thread first last fault e =
    let p = and_parts _ _ e in
    let q = and_parts _ _ p.1 in
    record { own = eqb-true _ _ p.0; after = leb-true _ _ q.0; before = leb-true _ _ q.1 }

pub passed-from : (thread first last : ℕ) (fault : Fault) → Passed thread first last fault → is_passed thread first last fault ≡ true
passed-from thread first last fault p = and_from _ _ (eq-eqb _ _ p.own) (and_from _ _ (le-leb _ _ p.after) (le-leb _ _ p.before))

-- of no length
passed-now : (thread now : ℕ) (fault : Fault) → is_due thread now fault ≡ is_passed thread now (now + 0) fault
passed-now thread now fault = same-bool _ _ there back
  where
    there : is_due thread now fault ≡ true → is_passed thread now (now + 0) fault ≡ true
    there e = let p = and_parts _ _ e in let at : fault.at ≡ now = eqb-true fault.at now p.1 in
        passed-from thread now (now + 0) fault (record { own = eqb-true _ _ p.0; after = omega arith; before = omega arith })

    back : is_passed thread now (now + 0) fault ≡ true → is_due thread now fault ≡ true
    back e = let p = passed-parts thread now (now + 0) fault e in
        let after : now ≤ fault.at = p.after in let before : fault.at ≤ now + 0 = p.before in
        and_from _ _ (eq-eqb _ _ p.own) (eq-eqb fault.at now (omega arith))

-- of one more
passed-more : (thread now n : ℕ) (fault : Fault) → (is_due thread now fault || is_passed thread (now + 1) (now + 1 + n) fault) ≡ is_passed thread now (now + suc n) fault
passed-more thread now n fault = same-bool _ _ (λ e. there (or_cases _ _ e)) back
  where
    there : (is_due thread now fault ≡ true) ⊎ (is_passed thread (now + 1) (now + 1 + n) fault ≡ true) → is_passed thread now (now + suc n) fault ≡ true
    there (inl e) = let p = and_parts _ _ e in let at : fault.at ≡ now = eqb-true fault.at now p.1 in
        passed-from thread now (now + suc n) fault (record { own = eqb-true _ _ p.0; after = omega arith; before = omega arith })
    there (inr e) = let p = passed-parts thread (now + 1) (now + 1 + n) fault e in
        let after : now + 1 ≤ fault.at = p.after in let before : fault.at ≤ now + 1 + n = p.before in
        passed-from thread now (now + suc n) fault (record { own = p.own; after = omega arith; before = omega arith })

    by : (fault.at == now) ≡ true ⊎ (fault.at == now) ≡ false → Passed thread now (now + suc n) fault → (is_due thread now fault || is_passed thread (now + 1) (now + 1 + n) fault) ≡ true
    by (inl same) p = or_left _ _ (and_from _ _ (eq-eqb _ _ p.own) same)
    by (inr other) p =
        let differs : fault.at ≢ now = eqb-false fault.at now other in
        let after : now ≤ fault.at = p.after in let before : fault.at ≤ now + suc n = p.before in
        or_right _ _ (passed-from thread (now + 1) (now + 1 + n) fault (record { own = p.own; after = omega arith; before = omega arith }))

    back : is_passed thread now (now + suc n) fault ≡ true → (is_due thread now fault || is_passed thread (now + 1) (now + 1 + n) fault) ≡ true
    back e = by (cases_Bool (fault.at == now)) (passed-parts thread now (now + suc n) fault e)

-- ---- strikes

-- the thread has retired so many instructions, and the others are as they were
pub record OnlyThat (thread done : ℕ) (old new : Replica) : Type 0 where
  pub self : Thread
  pub there : slice_get new.threads thread ≡ Some self
  pub has_done : self.done ≡ done
  pub others : (place : ℕ) → place ≢ thread → slice_get new.threads place ≡ slice_get old.threads place

only-changed : (f : Thread → Thread) (t : ℕ) (x : Thread) (replica new : Replica) → new.threads ≡ changed_at f replica.threads t → slice_get replica.threads t ≡ Some x → (f x).done ≡ x.done → OnlyThat t x.done replica new
only-changed f t x replica new e there same =
    let is : new.threads ≡ slice_set replica.threads t (f x) = e ∙ changed-is-set f replica.threads t x there in
    record {
      self = f x;
      there = ap (λ (xs : List Thread). slice_get xs t) is ∙ get-set-same replica.threads t x (f x) there;
      has_done = same;
      others = λ place differs. ap (λ (xs : List Thread). slice_get xs place) is ∙ slice_get-set_other replica.threads t place (f x) (λ k. differs (sym k));
    }

-- what a strike leaves
record Strikes (t done : ℕ) (replica new : Replica) : Type 0 where
  only : OnlyThat t done replica new
  waiting : new.waiting ≡ replica.waiting

struck-by : (ranges : List Range) (t : ℕ) (x : Thread) (replica : Replica) (target : Target) → slice_get replica.threads t ≡ Some x → Strikes t x.done replica (struck_by ranges t replica target)
struck-by ranges t x replica (Register number bit) there = record { only = only-changed _ t x replica _ refl there refl; waiting = refl }
struck-by ranges t x replica (Pc bit) there = record { only = only-changed _ t x replica _ refl there refl; waiting = refl }
struck-by ranges t x replica (Byte address bit) there = record { only = record { self = x; there = there; has_done = refl; others = λ place differs. refl }; waiting = refl }

struck-all : (ranges : List Range) (t done : ℕ) (due : List Fault) (replica : Replica) (x : Thread) → slice_get replica.threads t ≡ Some x → x.done ≡ done → Strikes t done replica (fold (λ r fault. struck_by ranges t r fault.target) replica due)
struck-all ranges t done [] replica x there e = record { only = record { self = x; there = there; has_done = e; others = λ place differs. refl }; waiting = refl }
struck-all ranges t done (fault ∷ due) replica x there e =
    let first = struck-by ranges t x replica fault.target there in
    let rest = struck-all ranges t done due (struck_by ranges t replica fault.target) first.only.self first.only.there (first.only.has_done ∙ e) in
    record {
      only = record {
        self = rest.only.self;
        there = rest.only.there;
        has_done = rest.only.has_done;
        others = λ place differs. rest.only.others place differs ∙ first.only.others place differs;
      };
      waiting = rest.waiting ∙ first.waiting;
    }

-- due faults are struck, and they alone
record StrikesDue (ranges : List Range) (t : ℕ) (x : Thread) (replica : Replica) (ran : RanTo) : Type 0 where
  only : OnlyThat t x.done replica ran.replica
  waiting : ran.replica.waiting ≡ filter (λ fault. not (is_due t x.done fault)) replica.waiting
  hit : ran.hit ≡ length (filter (is_due t x.done) replica.waiting)

strikes-due : (ranges : List Range) (t : ℕ) (x : Thread) (replica : Replica) → slice_get replica.threads t ≡ Some x → StrikesDue ranges t x replica (struck ranges replica t)
unfolding struck
strikes-due ranges t x replica there = subst (λ (o : Option Thread). StrikesDue ranges t x replica (strike_in ranges t replica o)) (sym there)
    (let all = struck-all ranges t x.done (filter (is_due t x.done) replica.waiting) (record replica { waiting = filter (λ fault. not (is_due t x.done fault)) replica.waiting }) x there refl in
    record { only = record { self = all.only.self; there = all.only.there; has_done = all.only.has_done; others = all.only.others }; waiting = all.waiting; hit = refl })

-- ---- runs

-- A run of so many instructions of the thread, which was x: it strikes the faults whose moments it passes.
pub record RunMeets (thread count : ℕ) (x : Thread) (replica : Replica) (ran : RanTo) : Type 0 where
  pub only : OnlyThat thread (x.done + count) replica ran.replica
  pub waiting : ran.replica.waiting ≡ filter (λ fault. not (is_passed thread x.done (x.done + count) fault)) replica.waiting
  pub hit : ran.hit ≡ length (filter (is_passed thread x.done (x.done + count)) replica.waiting)

meets-now : (ranges : List Range) (t : ℕ) (x : Thread) (replica : Replica) (ran : RanTo) → StrikesDue ranges t x replica ran → RunMeets t 0 x replica ran
meets-now ranges t x replica ran h = record {
  only = record { self = h.only.self; there = h.only.there; has_done = h.only.has_done ∙ (let e : x.done ≡ x.done + 0 = omega arith in e); others = h.only.others };
  waiting = h.waiting ∙ filter-same _ _ (λ fault. ap not (passed-now t x.done fault)) replica.waiting;
  hit = h.hit ∙ ap length (filter-same _ _ (passed-now t x.done) replica.waiting);
}

-- the instruction of a run
record OneMore (t : ℕ) (old new : Replica) (x : Thread) : Type 0 where
  self : Thread
  there : slice_get new.threads t ≡ Some self
  one : self.done ≡ x.done + 1
  others : (place : ℕ) → place ≢ t → slice_get new.threads place ≡ slice_get old.threads place
  waiting : new.waiting ≡ old.waiting

one-more : (layout : Layout) (watchdog t : ℕ) (replica after : Replica) (x : Thread) → slice_get replica.threads t ≡ Some x → Instructs layout watchdog replica t after → OneMore t replica after x
one-more layout watchdog t replica after x there step = subst (λ (r : Replica). OneMore t replica r x) (sym step.is) (record {
  self = instructed replica step.thread step.instr;
  there = get-set-same replica.threads t step.thread (instructed replica step.thread step.instr) step.there;
  one = ap (λ (y : Thread). y.done + 1) (some-injective (sym step.there ∙ there));
  others = λ place differs. slice_get-set_other replica.threads t place (instructed replica step.thread step.instr) (λ k. differs (sym k));
  waiting = refl;
})

-- a run of one instruction and more
meets-more : (layout : Layout) (watchdog n t : ℕ) (x : Thread) (replica : Replica) (ran : RanTo) (parts : RunParts layout watchdog n replica t ran) (first : StrikesDue layout.ranges t x replica (struck layout.ranges replica t))
    (step : OneMore t (struck layout.ranges replica t).replica parts.after first.only.self) → RunMeets t n step.self parts.after parts.rest → RunMeets t (suc n) x replica ran
meets-more layout watchdog n t x replica ran parts first step rest = subst (RunMeets t (suc n) x replica) parts.sum (record {
  only = record {
    self = rest.only.self;
    there = rest.only.there;
    has_done = rest.only.has_done ∙ (let g : step.self.done + n ≡ x.done + suc n = omega (arith, from) in g);
    others = λ place differs. rest.only.others place differs ∙ step.others place differs ∙ first.only.others place differs;
  };
  waiting = rest.waiting ∙ ap (filter (λ fault. not (is_passed t step.self.done (step.self.done + n) fault))) left
      ∙ filter-filter _ _ _ (λ fault. not-or _ _ _ (more fault)) replica.waiting;
  hit = (λ k. first.hit k + rest.hit k) ∙ ap (λ (xs : List Fault). length (filter (is_due t x.done) replica.waiting) + length (filter (is_passed t step.self.done (step.self.done + n)) xs)) left
      ∙ length-parts _ _ _ more replica.waiting;
})
  where
    left : parts.after.waiting ≡ filter (λ fault. not (is_due t x.done fault)) replica.waiting
    left = step.waiting ∙ first.waiting

    from : step.self.done ≡ x.done + 1
    from = step.one ∙ ap (λ (m : ℕ). m + 1) first.only.has_done

    more : (fault : Fault) → (is_due t x.done fault || is_passed t step.self.done (step.self.done + n) fault) ≡ is_passed t x.done (x.done + suc n) fault
    more fault = ap (λ (d : ℕ). is_due t x.done fault || is_passed t d (d + n) fault) from ∙ passed-more t x.done n fault

pub meets : (layout : Layout) (watchdog n t : ℕ) (x : Thread) (replica : Replica) (ran : RanTo) → slice_get replica.threads t ≡ Some x → run_of layout watchdog n replica t ≡ Some ran → RunMeets t n x replica ran
meets layout watchdog zero t x replica ran there e =
    subst (RunMeets t 0 x replica) (some-injective e) (meets-now layout.ranges t x replica (struck layout.ranges replica t) (strikes-due layout.ranges t x replica there))
meets layout watchdog (suc n) t x replica ran there e =
    let parts = run-parts layout watchdog n replica t ran e in
    let first = strikes-due layout.ranges t x replica there in
    let step = one-more layout watchdog t (struck layout.ranges replica t).replica parts.after first.only.self first.only.there
    (instructs layout watchdog (struck layout.ranges replica t).replica t parts.after parts.executes)
    in
    meets-more layout watchdog n t x replica ran parts first step (meets layout watchdog n t step.self parts.after parts.rest step.there parts.runs)

-- ---- a run without a strike

abbrev bare : Replica → Replica
bare replica = record replica { waiting = [] }

struck-bare : (ranges : List Range) (t : ℕ) (replica : Replica) → struck ranges (bare replica) t ≡ record { replica = bare replica; hit = 0 }
unfolding struck
struck-bare ranges t replica = by (slice_get replica.threads t)
  where
    by : (o : Option Thread) → strike_in ranges t (bare replica) o ≡ record { replica = bare replica; hit = 0 }
    by None = refl
    by (Some x) = refl

execute-bare : (layout : Layout) (watchdog t : ℕ) (replica after : Replica) → Instructs layout watchdog replica t after → execute layout watchdog (bare replica) t ≡ Some (bare after)
unfolding execute
execute-bare layout watchdog t replica after step =
    ap (option_and_then (execute_at layout watchdog t (bare replica))) step.there
    ∙ ap (λ (b : Bool). cond b None (execute_next t (bare replica) step.thread (next layout replica.backed replica.memory step.thread.cpu))) step.unwatched
    ∙ ap (execute_next t (bare replica) step.thread) step.executes ∙ ap (λ (r : Replica). Some (bare r)) (sym step.is)

-- a run in which nothing was struck is the run of a replica without faults
pub no-flip : (layout : Layout) (watchdog n t : ℕ) (replica : Replica) (ran : RanTo) → run_of layout watchdog n replica t ≡ Some ran → ran.hit ≡ 0 → run_of layout watchdog n (bare replica) t ≡ Some (record { replica = bare ran.replica; hit = 0 })
no-flip layout watchdog zero t replica ran e none =
    let is : struck layout.ranges replica t ≡ ran = some-injective e in
    let same = none-struck layout.ranges t replica (ap (λ (r : RanTo). r.hit) is ∙ none) in
    ap Some (struck-bare layout.ranges t replica ∙ ap (λ (r : Replica). record { replica = r; hit = 0 }) (ap bare (sym same.is) ∙ ap (λ (r : RanTo). bare r.replica) is))
no-flip layout watchdog (suc n) t replica ran e none =
    ap (λ (r : RanTo). option_map (plus_hit r.hit) (option_and_then (λ after. run_of layout watchdog n after t) (execute layout watchdog r.replica t))) (struck-bare layout.ranges t replica)
    ∙ ap (λ (o : Option Replica). option_map (plus_hit 0) (option_and_then (λ after. run_of layout watchdog n after t) o)) executes
    ∙ ap (option_map (plus_hit 0)) (no-flip layout watchdog n t parts.after parts.rest parts.runs (omega (arith, sum)))
    ∙ ap (λ (r : RanTo). Some (record { replica = bare r.replica; hit = 0 })) parts.sum
  where
    parts : RunParts layout watchdog n replica t ran
    parts = run-parts layout watchdog n replica t ran e

    sum : (struck layout.ranges replica t).hit + parts.rest.hit ≡ 0
    sum = ap (λ (r : RanTo). r.hit) parts.sum ∙ none

    same : SameButWaiting replica (struck layout.ranges replica t).replica
    same = none-struck layout.ranges t replica (omega (arith, sum))

    executes : execute layout watchdog (bare replica) t ≡ Some (bare parts.after)
    executes = ap (λ (r : Replica). execute layout watchdog (bare r) t) (sym same.is)
        ∙ execute-bare layout watchdog t (struck layout.ranges replica t).replica parts.after (instructs layout watchdog (struck layout.ranges replica t).replica t parts.after parts.executes)
