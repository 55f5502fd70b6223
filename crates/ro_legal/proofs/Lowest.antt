-- The lowest number that passes a test, and what can be done next by it.
use Rattle.std.proofs.Common.{◌≡◌, ℕ, zero, suc, ◌+◌, ◌-◌, ◌<◌, Bool, true, false, true≢false, not, cond, ◌&&◌, ◌||◌, length, Option, Some, None, refl, sym, ap, ◌∙◌, arith}
use Rattle.std.specs.Prelude.{is_none, is_some}
use Rattle.ro_legal.specs.declared.actions.Action.{Action}
use Rattle.ro_legal.specs.declared.actions.Action.TheVariants.{Vote, Free, Lend}
use Rattle.ro_legal.specs.Core.{Job, Core, is_going, nothing_lent, is_lendable, may_vote, may_free}
use Rattle.ro_legal.specs.Legal.{any_below, is_stuck}
use Rattle.ro_legal.specs.Action.{or_else, lowest_below, map_action, threads_made, lend_in, turn_next, lend_next, urgent_next, first_freed, first_action}
use Rattle.ro_legal.proofs.Nexts.{found_below, urgent-turn, freed-none, none-freed}

-- ---- the lowest number that passes

pub lowest-more : (test : ℕ → Bool) (n : ℕ) → lowest_below n test ≡ None → test n ≡ false → lowest_below (n + 1) test ≡ None
lowest-more test n none fails =
    let e : n + 1 ≡ suc n = omega arith in
    ap (λ (k : ℕ). lowest_below k test) e ∙ ap (λ (o : Option ℕ). or_else o (cond (test n) (Some n) None)) none ∙ ap (λ (b : Bool). cond b (Some n) None) fails

stays-found : (test : ℕ → Bool) (n m k : ℕ) → lowest_below n test ≡ Some k → lowest_below (n + m) test ≡ Some k
stays-found test n zero k e = ap (λ (j : ℕ). lowest_below j test) (let z : n + 0 ≡ n = omega arith in z) ∙ e
stays-found test n (suc m) k e =
    let s : n + suc m ≡ suc (n + m) = omega arith in
    ap (λ (j : ℕ). lowest_below j test) s ∙ ap (λ (o : Option ℕ). or_else o (cond (test (n + m)) (Some (n + m)) None)) (stays-found test n m k e)

pub lowest-found : (test : ℕ → Bool) (n most : ℕ) → n < most → lowest_below n test ≡ None → test n ≡ true → lowest_below most test ≡ Some n
lowest-found test n most less none passes =
    let here : lowest_below (suc n) test ≡ Some n = ap (λ (o : Option ℕ). or_else o (cond (test n) (Some n) None)) none ∙ ap (λ (b : Bool). cond b (Some n) None) passes in
    let far = stays-found test (suc n) (most - suc n) n here in
    ap (λ (j : ℕ). lowest_below j test) (let e : most ≡ suc n + (most - suc n) = omega arith in e) ∙ far

-- none of the numbers below n passes
pub lowest-none : (test : ℕ → Bool) (n : ℕ) → ((k : ℕ) → k < n → test k ≡ false) → lowest_below n test ≡ None
lowest-none test zero fails = refl
lowest-none test (suc n) fails =
    ap (λ (o : Option ℕ). or_else o (cond (test n) (Some n) None)) (lowest-none test n (λ k less. fails k (omega arith))) ∙ ap (λ (b : Bool). cond b (Some n) None) (fails n (omega arith))

pub lowest-never : (test : ℕ → Bool) (n : ℕ) → ((k : ℕ) → test k ≡ false) → lowest_below n test ≡ None
lowest-never test zero never = refl
lowest-never test (suc n) never =
    ap (λ (o : Option ℕ). or_else o (cond (test n) (Some n) None)) (lowest-never test n never) ∙ ap (λ (b : Bool). cond b (Some n) None) (never n)

-- of two tests that pass the same numbers
pub lowest-same : (test other : ℕ → Bool) (n : ℕ) → ((k : ℕ) → test k ≡ other k) → lowest_below n test ≡ lowest_below n other
lowest-same test other zero same = refl
lowest-same test other (suc n) same =
    ap (λ (o : Option ℕ). or_else o (cond (test n) (Some n) None)) (lowest-same test other n same) ∙ ap (λ (b : Bool). or_else (lowest_below n other) (cond b (Some n) None)) (same n)

-- a number that any passes
pub any-lowest : (test : ℕ → Bool) (n : ℕ) → any_below n test ≡ is_some (lowest_below n test)
any-lowest test zero = refl
any-lowest test (suc n) = by (lowest_below n test) (test n) (any-lowest test n)
  where
    by : (o : Option ℕ) (b : Bool) → any_below n test ≡ is_some o → (any_below n test || b) ≡ is_some (or_else o (cond b (Some n) None))
    by None true e = ap (λ (a : Bool). a || true) e
    by None false e = ap (λ (a : Bool). a || false) e
    by (Some k) b e = ap (λ (a : Bool). a || b) e

-- ---- what is lent next

abbrev pub lend-test : Core → (replica : ℕ) → Bool
lend-test core replica = any_below (threads_made core) (is_lendable core replica)

pub lends-none : (core : Core) (replica : ℕ) → lowest_below (threads_made core) (is_lendable core replica) ≡ None → lend-test core replica ≡ false
lends-none core replica e = any-lowest (is_lendable core replica) (threads_made core) ∙ ap is_some e

pub lends-found : (core : Core) (replica thread : ℕ) → replica < length core.replicas → lowest_below replica (lend-test core) ≡ None → lowest_below (threads_made core) (is_lendable core replica) ≡ Some thread → lend_next core ≡ Some (Lend replica thread)
lends-found core replica thread less none found =
    ap (lend_in core) (lowest-found (lend-test core) replica (length core.replicas) less none (any-lowest (is_lendable core replica) (threads_made core) ∙ ap is_some found))
    ∙ ap (map_action (λ (t : ℕ). Lend replica t)) found

pub lends-nothing : (core : Core) (count : ℕ) → count ≡ length core.replicas → lowest_below count (lend-test core) ≡ None → lend_next core ≡ None
lends-nothing core count same none = ap (lend_in core) (ap (λ (n : ℕ). lowest_below n (lend-test core)) (sym same) ∙ none)

-- ---- what can be done

-- whether one of two passes below n
any-either : (n : ℕ) (one other : ℕ → Bool) → any_below n (λ k. one k || other k) ≡ (any_below n one || any_below n other)
any-either zero one other = refl
any-either (suc n) one other = ap (λ (b : Bool). b || (one n || other n)) (any-either n one other) ∙ swap (any_below n one) (any_below n other) (one n) (other n)
  where
    swap : (a b c d : Bool) → ((a || b) || (c || d)) ≡ ((a || c) || (b || d))
    swap true b c d = refl
    swap false true true d = refl
    swap false true false d = refl
    swap false false c d = refl

any-never : (n : ℕ) → any_below n (λ k. false) ≡ false
any-never zero = refl
any-never (suc n) = ap (λ (b : Bool). b || false) (any-never n)

-- a pair is found either way round
any-turned : (n m : ℕ) (test : ℕ → ℕ → Bool) → any_below m (λ k. any_below n (λ j. test j k)) ≡ any_below n (λ j. any_below m (test j))
any-turned zero m test = any-never m
any-turned (suc n) m test = any-either m (λ k. any_below n (λ j. test j k)) (test n) ∙ ap (λ (b : Bool). b || any_below m (test n)) (any-turned n m test)

-- nothing can be lent where no thread of any replica can
pub none-lent : (core : Core) → is_some (lend_next core) ≡ any_below (threads_made core) (λ thread. any_below (length core.replicas) (λ replica. is_lendable core replica thread))
none-lent core = sym (any-turned (length core.replicas) (threads_made core) (is_lendable core) ∙ any-lowest (lend-test core) (length core.replicas) ∙ by (lowest_below (length core.replicas) (lend-test core)) refl)
  where
    threads : (replica : ℕ) (o : Option ℕ) → lowest_below (threads_made core) (is_lendable core replica) ≡ o → lend-test core replica ≡ true → true ≡ is_some (map_action (λ thread. Lend replica thread) o)
    threads replica None e some = absurd (true≢false (sym some ∙ lends-none core replica e))
    threads replica (Some thread) e some = refl

    by : (o : Option ℕ) → lowest_below (length core.replicas) (lend-test core) ≡ o → is_some o ≡ is_some (lend_in core o)
    by None e = refl
    by (Some replica) e = threads replica (lowest_below (threads_made core) (is_lendable core replica)) refl (found_below (length core.replicas) (lend-test core) replica e)

pub some-none : {X : Type 0} (o : Option X) → is_none o ≡ not (is_some o)
some-none None = refl
some-none (Some x) = refl

-- an urgent thread can be voted on or lent
urgent-some : (job : Job) (core : Core) → is_some (or_else (urgent_next core) (turn_next core)) ≡ is_some (turn_next core)
urgent-some job core = by (urgent_next core) refl
  where
    by : (o : Option Action) → urgent_next core ≡ o → is_some (or_else o (turn_next core)) ≡ is_some (turn_next core)
    by None e = refl
    by (Some action) e = sym (urgent-turn job core (ap is_some e))

-- a thread is freed next where one can be
free-some : (job : Job) (core : Core) → is_some (first_freed job core) ≡ is_some (lowest_below (threads_made core) (may_free job core))
free-some job core = by (first_freed job core) (lowest_below (threads_made core) (may_free job core)) (freed-none job core) (none-freed job core)
  where
    by : (one other : Option ℕ) → (one ≡ None → other ≡ None) → (other ≡ None → one ≡ None) → is_some one ≡ is_some other
    by None other there back = sym (ap is_some (there refl))
    by (Some t) None there back = ap is_some (back refl)
    by (Some t) (Some k) there back = refl

-- nothing can be done where nothing can be freed, voted on or lent
none-first : (job : Job) (core : Core) → is_some (first_action job core) ≡ any_below (threads_made core) (λ thread. may_vote core thread || may_free job core thread || any_below (length core.replicas) (λ replica. is_lendable core replica thread))
none-first job core =
    freed (first_freed job core) (or_else (urgent_next core) (turn_next core))
    ∙ ap (λ (b : Bool). b || is_some (or_else (urgent_next core) (turn_next core))) (free-some job core)
    ∙ ap (λ (b : Bool). is_some (lowest_below made (may_free job core)) || b) (urgent-some job core ∙ turned (lowest_below made (may_vote core)) (lend_next core))
    ∙ swap (is_some (lowest_below made (may_free job core))) (is_some (lowest_below made (may_vote core))) (is_some (lend_next core))
    ∙ ap (λ (b : Bool). (is_some (lowest_below made (may_vote core)) || is_some (lowest_below made (may_free job core))) || b) (none-lent core)
    ∙ ap (λ (b : Bool). (b || is_some (lowest_below made (may_free job core))) || any_below made lends) (sym (any-lowest (may_vote core) made))
    ∙ ap (λ (b : Bool). (any_below made (may_vote core) || b) || any_below made lends) (sym (any-lowest (may_free job core) made))
    ∙ sym (
    any-either made (λ thread. may_vote core thread || may_free job core thread) lends
    ∙ ap (λ (b : Bool). b || any_below made lends) (any-either made (may_vote core) (may_free job core)))
  where
    made : ℕ
    made = threads_made core

    lends : ℕ → Bool
    lends thread = any_below (length core.replicas) (λ replica. is_lendable core replica thread)

    freed : (free : Option ℕ) (o : Option Action) → is_some (or_else (map_action Free free) o) ≡ (is_some free || is_some o)
    freed None o = refl
    freed (Some t) o = refl

    turned : (vote : Option ℕ) (o : Option Action) → is_some (or_else (map_action Vote vote) o) ≡ (is_some vote || is_some o)
    turned None o = refl
    turned (Some t) o = refl

    swap : (a b c : Bool) → (a || (b || c)) ≡ ((b || a) || c)
    swap true true c = refl
    swap true false c = refl
    swap false true c = refl
    swap false false c = refl

pub stuck-by-first : (job : Job) (core : Core) (idle none : Bool) → idle ≡ (is_going core && nothing_lent core) → none ≡ is_none (first_action job core) → (idle && none) ≡ is_stuck job core
stuck-by-first job core idle none e f = ap (λ (b : Bool). b && none) e ∙ ap (λ (b : Bool). is_going core && nothing_lent core && b) (f ∙ some-none (first_action job core) ∙ ap not (none-first job core))

-- what is not something is nothing
pub none-by-some : {X : Type 0} (o : Option X) (none : Bool) → is_some o ≡ not none → none ≡ is_none o
none-by-some None true e = refl
none-by-some None false e = absurd (true≢false (sym e))
none-by-some (Some x) true e = absurd (true≢false e)
none-by-some (Some x) false e = refl
