-- What the next action says of the core.
use Rattle.std.proofs.Common.{◌≡◌, inl, inr, ℕ, zero, suc, ◌<◌, ◌≤◌, Bool, true, false, true≢false, not, ◌&&◌, ◌||◌, length, Option, Some, None, refl, sym, ap, ◌∙◌, subst, arith}
use Rattle.std.specs.Prelude.{is_none, is_some, if◌then◌else◌, unwrap_or}
use Rattle.std.specs.Option.{option_and_then}
use Rattle.std.proofs.lemmas.Bool.{cases_lt, and_from, and_parts, or_from, or_parts, ltb-true, ltb-false, le-leb}
use Rattle.ro_journal.specs.declared.How.{How}
use Rattle.ro_journal.specs.declared.How.TheVariants.{Deadlock, Sink}
use Rattle.ro_legal.specs.declared.actions.Action.{Action}
use Rattle.ro_legal.specs.declared.actions.Action.TheVariants.{Vote as DoVote, Free as DoFree, Scrub as DoScrub, Lend, End as DoEnd, Wait, Over}
use Rattle.ro_legal.specs.Core.{Job, Core, is_going, nothing_lent, is_lendable, may_vote, may_free}
use Rattle.ro_legal.specs.Legal.{any_below, is_stuck, may_scrub, EndsAlone, EndsSink, MayEnd, due, alone}
use Rattle.ro_legal.specs.Waits.{is_overdue}
use Rattle.ro_legal.specs.Laws.{NothingFor, NotLendable}
use Rattle.ro_legal.specs.Action.{or_else, lowest_below, map_action, threads_made, lend_in, turn_next, lend_next, turn_of, overdue_and, longest_below, has_turn, is_urgent, outwaits, most_urgent_below, urgent_next, first_freed, first_action, action_or, is_scrub_due, scrub_action, action_unless_due, next_action}

-- no number below n passes
none_below : (n : ℕ) (test : ℕ → Bool) → lowest_below n test ≡ None → any_below n test ≡ false
none_below zero test e = refl
none_below (suc n) test e = by (lowest_below n test) (test n) refl refl e (λ f. none_below n test f)
  where
    by : (o : Option ℕ) (b : Bool) → lowest_below n test ≡ o → test n ≡ b → or_else o (if b then Some n else None) ≡ None → (lowest_below n test ≡ None → any_below n test ≡ false) → (any_below n test || test n) ≡ false
    by (Some k) b f g h rest = absurd (let x : Some k ≡ None = h in cc)
    by None true f g h rest = absurd (let x : Some n ≡ None = h in cc)
    by None false f g h rest = ap (λ (a : Bool). a || test n) (rest f) ∙ g

-- a number that was found passes
pub found_below : (n : ℕ) (test : ℕ → Bool) (k : ℕ) → lowest_below n test ≡ Some k → test k ≡ true
found_below zero test k e = absurd (let x : None ≡ Some k = e in cc)
found_below (suc n) test k e = by (lowest_below n test) (test n) refl refl e (λ f. found_below n test k f)
  where
    by : (o : Option ℕ) (b : Bool) → lowest_below n test ≡ o → test n ≡ b → or_else o (if b then Some n else None) ≡ Some k → (lowest_below n test ≡ Some k → test k ≡ true) → test k ≡ true
    by (Some j) b f g h rest = rest (f ∙ h)
    by None true f g h rest = let same : n ≡ k = (let x : Some n ≡ Some k = h in cc) in ap test (sym same) ∙ g
    by None false f g h rest = absurd (let x : None ≡ Some k = h in cc)

found_within : (n : ℕ) (test : ℕ → Bool) (k : ℕ) → lowest_below n test ≡ Some k → k < n
found_within zero test k e = absurd (let x : None ≡ Some k = e in cc)
found_within (suc n) test k e = by (lowest_below n test) (test n) refl e (λ f. found_within n test k f)
  where
    by : (o : Option ℕ) (b : Bool) → lowest_below n test ≡ o → or_else o (if b then Some n else None) ≡ Some k → (lowest_below n test ≡ Some k → k < n) → k < suc n
    by (Some j) b f h rest = let low = rest (f ∙ h) in omega arith
    by None true f h rest = let same : n ≡ k = (let x : Some n ≡ Some k = h in cc) in omega arith
    by None false f h rest = absurd (let x : None ≡ Some k = h in cc)

-- a test that fails at each number below n
pub never_below : (n : ℕ) (test : ℕ → Bool) → any_below n test ≡ false → (k : ℕ) → k < n → test k ≡ false
never_below zero test e k h = absurd (omega arith)
never_below (suc n) test e k h = elim (cases_lt k n) [
  | inl less ↦ never_below n test (or_parts (any_below n test) (test n) e).0 k less
  | inr last ↦ let same : k ≡ n = omega arith in ap test same ∙ (or_parts (any_below n test) (test n) e).1
]

all_false_below : (n : ℕ) (test : ℕ → Bool) → ((k : ℕ) → k < n → test k ≡ false) → any_below n test ≡ false
all_false_below zero test h = refl
all_false_below (suc n) test h = or_from (any_below n test) (test n) (all_false_below n test (λ k less. h k (omega arith))) (h n (omega arith))

none_of : {X : Type 0} (o : Option X) → is_some o ≡ false → o ≡ None
none_of None e = refl
none_of (Some x) e = absurd (true≢false e)

-- the first of two that is found, if one is
mapped : (f : ℕ → Action) (o : Option ℕ) (rest : Option Action) (P : Option Action → Type 0) → ((n : ℕ) → o ≡ Some n → P (Some (f n))) → (o ≡ None → P rest) → P (or_else (map_action f o) rest)
mapped f None rest P some none = none refl
mapped f (Some n) rest P some none = some n refl

-- ---- the thread that has waited longest

-- of the threads below n that are overdue and pass: none, or one that no other has outwaited
abbrev pub Best : Core → (test : ℕ → Bool) → ℕ → Option ℕ → Type 0
Best core test n None = (k : ℕ) → k < n → overdue_and core test k ≡ false
Best core test n (Some t) = (t < n) × (overdue_and core test t ≡ true) × ((k : ℕ) → k < n → overdue_and core test k ≡ true → core.waited k ≤ core.waited t)

module _ (core : Core) (test : ℕ → Bool) where
  -- the thread is overdue and passes
  abbrev calls : ℕ → Bool
  calls = overdue_and core test

  -- one thread more, which calls and has waited longer, or not
  best_more : (n : ℕ) (o : Option ℕ) (b : Bool) → (calls n && outwaits core n o) ≡ b → Best core test n o → Best core test (suc n) (if b then Some n else o)
  best_more n o true e best =
      let parts = and_parts (calls n) (outwaits core n o) e in (
        omega arith,
        parts.0,
        λ k less urgent. elim (cases_lt k n) [
          | inl below ↦ before o best parts.1 k below urgent
          | inr last ↦ let same : k ≡ n = omega arith in let w : core.waited k ≡ core.waited n = ap core.waited same in omega arith
        ],
      )
    where
      before : (o : Option ℕ) → Best core test n o → outwaits core n o ≡ true → (k : ℕ) → k < n → calls k ≡ true → core.waited k ≤ core.waited n
      before None none longer k less urgent = absurd (true≢false (sym urgent ∙ none k less))
      before (Some t) some longer k less urgent = let w = some.2 k less urgent in let l = ltb-true (core.waited t) (core.waited n) longer in omega arith
  best_more n None false e best = λ k less. elim (cases_lt k n) [
    | inl below ↦ best k below
    | inr last ↦ let same : k ≡ n = omega arith in ap calls same ∙ left_of (calls n) e
  ]
    where
      left_of : (b : Bool) → (b && true) ≡ false → b ≡ false
      left_of true f = f
      left_of false f = refl
  best_more n (Some t) false e best = (
    let low = best.0 in omega arith,
    best.1,
    λ k less urgent. elim (cases_lt k n) [
      | inl below ↦ best.2 k below urgent
      | inr last ↦ let same : k ≡ n = omega arith in let w : core.waited k ≡ core.waited n = ap core.waited same in let l = ltb-false (core.waited t) (core.waited n) (right_of (calls n) (ap calls (sym same) ∙ urgent) e) in omega arith
    ],
  )
    where
      right_of : (b : Bool) → b ≡ true → (b && outwaits core n (Some t)) ≡ false → outwaits core n (Some t) ≡ false
      right_of true is f = f
      right_of false is f = absurd (true≢false (sym is))

  pub is_best : (n : ℕ) → Best core test n (longest_below core test n)
  is_best zero = λ k less. absurd (omega arith)
  is_best (suc n) = best_more n (longest_below core test n) (calls n && outwaits core n (longest_below core test n)) refl (is_best n)

  -- there is none where none calls
  pub none_most : (n : ℕ) → ((k : ℕ) → k < n → calls k ≡ false) → longest_below core test n ≡ None
  none_most n calm = by (longest_below core test n) refl (is_best n)
    where
      by : (o : Option ℕ) → longest_below core test n ≡ o → Best core test n o → longest_below core test n ≡ None
      by None e best = e
      by (Some t) e best = absurd (true≢false (sym best.1 ∙ calm t best.0))

-- ---- the thread that is freed

-- no thread that can be freed has waited too long, and longer than this one
abbrev pub FreedFirst : Job → Core → (thread : ℕ) → Type 0
FreedFirst job core thread = (other : ℕ) → other < threads_made core → 64 ≤ core.waited other → may_free job core other ≡ true → core.waited other ≤ core.waited thread

module _ (job : Job) (core : Core) where
  abbrev frees : ℕ → Bool
  frees = may_free job core

  -- where one is found it can be freed, and none that can has waited too long, and longer
  pub freed-first : (thread : ℕ) → first_freed job core ≡ Some thread → (frees thread ≡ true) × FreedFirst job core thread
  freed-first thread e = by (longest_below core frees (threads_made core)) (is_best core frees (threads_made core)) e
    where
      calls : (other : ℕ) → 64 ≤ core.waited other → frees other ≡ true → overdue_and core frees other ≡ true
      calls other long may = and_from (is_overdue (core.waited other)) (frees other) (le-leb 64 (core.waited other) long) may

      by : (o : Option ℕ) → Best core frees (threads_made core) o → or_else o (lowest_below (threads_made core) frees) ≡ Some thread → (frees thread ≡ true) × FreedFirst job core thread
      by None none f = (found_below (threads_made core) frees thread f, λ other less long may. absurd (true≢false (sym (calls other long may) ∙ none other less)))
      by (Some t) best f =
          let same : t ≡ thread = (let x : Some t ≡ Some thread = f in cc) in (
            ap frees (sym same) ∙ (and_parts (is_overdue (core.waited t)) (frees t) best.1).1,
            λ other less long may. let w = best.2 other less (calls other long may) in let s = ap core.waited same in omega arith,
          )

  -- and where none is none can be
  pub freed-none : first_freed job core ≡ None → lowest_below (threads_made core) frees ≡ None
  freed-none e = by (longest_below core frees (threads_made core)) e
    where
      by : (o : Option ℕ) → or_else o (lowest_below (threads_made core) frees) ≡ None → lowest_below (threads_made core) frees ≡ None
      by None f = f
      by (Some t) f = absurd (let x : Some t ≡ None = f in cc)

  pub none-freed : lowest_below (threads_made core) frees ≡ None → first_freed job core ≡ None
  none-freed e =
      ap (λ (o : Option ℕ). or_else o (lowest_below (threads_made core) frees)) (none_most core frees (threads_made core) (λ k less. by (is_overdue (core.waited k)) (never_below (threads_made core) frees (none_below (threads_made core) frees e) k less)))
      ∙ e
    where
      by : (b : Bool) {c : Bool} → c ≡ false → (b && c) ≡ false
      by true f = f
      by false f = refl

-- what can be done for a thread
pub data TurnIs (core : Core) (thread : ℕ) : Option Action → Type 0 where
  is_voted : may_vote core thread ≡ true → TurnIs core thread (Some (DoVote thread))
  is_lent_in : {replica : ℕ} → replica < length core.replicas → is_lendable core replica thread ≡ true → TurnIs core thread (Some (Lend replica thread))
  has_none : may_vote core thread ≡ false → NotLendable core thread → TurnIs core thread None

pub turn_is : (core : Core) (thread : ℕ) → TurnIs core thread (turn_of core thread)
turn_is core thread = by (may_vote core thread) refl
  where
    replicas : ℕ
    replicas = length core.replicas

    test : ℕ → Bool
    test r = is_lendable core r thread

    lease : may_vote core thread ≡ false → (o : Option ℕ) → lowest_below replicas test ≡ o → TurnIs core thread (map_action (λ replica. Lend replica thread) o)
    lease unvoted None e = has_none unvoted (λ r under. never_below replicas test (none_below replicas test e) r under)
    lease unvoted (Some r) e = is_lent_in (found_within replicas test r e) (found_below replicas test r e)

    by : (b : Bool) → may_vote core thread ≡ b → TurnIs core thread (if b then Some (DoVote thread) else map_action (λ replica. Lend replica thread) (lowest_below replicas test))
    by true e = is_voted e
    by false e = lease e (lowest_below replicas test) refl

-- where nothing is
turn_none : (core : Core) (thread : ℕ) → is_some (turn_of core thread) ≡ false → (may_vote core thread ≡ false) × NotLendable core thread
turn_none core thread e = by (turn_of core thread) (turn_is core thread) e
  where
    by : (o : Option Action) → TurnIs core thread o → is_some o ≡ false → (may_vote core thread ≡ false) × NotLendable core thread
    by None (has_none unvoted unlent) e = (unvoted, unlent)
    by (Some action) t e = absurd (true≢false e)

-- no urgent thread has waited longer than this one
abbrev Foremost : Core → (thread : ℕ) → Type 0
Foremost core thread = (other : ℕ) → other < threads_made core → is_urgent core other ≡ true → core.waited other ≤ core.waited thread

-- and none can be freed
abbrev ComesFirst : Job → Core → (thread : ℕ) → Type 0
ComesFirst job core thread = (lowest_below (threads_made core) (may_free job core) ≡ None) × Foremost core thread

-- where no thread is urgent
foremost_of_none : (core : Core) (thread : ℕ) → Best core (has_turn core) (threads_made core) None → Foremost core thread
foremost_of_none core thread none other less urgent = absurd (true≢false (sym urgent ∙ none other less))

-- nothing can be done for one that has waited for so many votes, and longer
yields : (core : Core) (thread other : ℕ) → Foremost core thread → other < threads_made core → 64 ≤ core.waited other → core.waited thread < core.waited other → (may_vote core other ≡ false) × NotLendable core other
yields core thread other foremost less long longer = turn_none core other (by (is_some (turn_of core other)) refl)
  where
    by : (b : Bool) → is_some (turn_of core other) ≡ b → is_some (turn_of core other) ≡ false
    by false e = e
    by true e = absurd (let w = foremost other less (and_from (is_overdue (core.waited other)) (is_some (turn_of core other)) (le-leb 64 (core.waited other) long) e) in omega arith)

-- what comes next, and what holds of the core then
data NextIs (job : Job) (core : Core) : Action → Type 0 where
  is_over : is_some core.ended ≡ true → NextIs job core Over
  is_end : {how : How} → core.ended ≡ None → MayEnd job core how → unwrap_or core.due Deadlock ≡ how → NextIs job core (DoEnd how)
  is_free : {thread : ℕ} → may_free job core thread ≡ true → is_scrub_due job core ≡ false → FreedFirst job core thread → NextIs job core (DoFree thread)
  is_vote : {thread : ℕ} → may_vote core thread ≡ true → is_scrub_due job core ≡ false → ComesFirst job core thread → NextIs job core (DoVote thread)
  is_scrub : may_scrub core ≡ true → NextIs job core DoScrub
  is_lend : {replica thread : ℕ} → is_going core ≡ true → is_lendable core replica thread ≡ true → (is_scrub_due job core ≡ false → ComesFirst job core thread) → NextIs job core (Lend replica thread)
  is_wait : nothing_lent core ≡ false → NextIs job core Wait

module _ (job : Job) (core : Core) where
  abbrev made : ℕ
  made = threads_made core

  abbrev free : Option ℕ
  free = lowest_below made (may_free job core)

  abbrev vote : Option ℕ
  vote = lowest_below made (may_vote core)

  -- whether a thread of the replica can be lent
  abbrev some_in : ℕ → Bool
  some_in replica = any_below made (is_lendable core replica)

  abbrev lend : Option ℕ
  lend = lowest_below (length core.replicas) some_in

  -- where none is found no thread can be lent
  none_lendable : lend ≡ None → (t : ℕ) → t < made → any_below (length core.replicas) (λ replica. is_lendable core replica t) ≡ false
  none_lendable lends t less =
      all_false_below (length core.replicas) (λ replica. is_lendable core replica t) (λ r under.
      never_below made (is_lendable core r) (never_below (length core.replicas) some_in (none_below (length core.replicas) some_in lends) r under) t less)

  -- where nothing can be done the core is stuck
  stuck : is_going core ≡ true → nothing_lent core ≡ true → free ≡ None → vote ≡ None → lend ≡ None → is_stuck job core ≡ true
  stuck going home frees votes lends =
      and_from _ _ (and_from _ _ going home) (ap not (all_false_below made (λ thread. may_vote core thread || may_free job core thread || any_below (length core.replicas) (λ replica. is_lendable core replica thread)) (λ t less.
      or_from (may_vote core t || may_free job core t) (any_below (length core.replicas) (λ replica. is_lendable core replica t))
      (or_from (may_vote core t) (may_free job core t) (never_below made (may_vote core) (none_below made (may_vote core) votes) t less) (never_below made (may_free job core) (none_below made (may_free job core) frees) t less))
      (none_lendable lends t less))))

  -- where nothing can be lent the replicas may be scrubbed
  all_still : is_going core ≡ true → nothing_lent core ≡ true → lend ≡ None → may_scrub core ≡ true
  all_still going home lends =
      and_from _ _ (and_from _ _ going home) (ap not (all_false_below made (λ thread. any_below (length core.replicas) (λ replica. is_lendable core replica thread)) (none_lendable lends)))

  -- what can be lent, or nothing
  lending : (P : Option Action → Type 0) → ((r t : ℕ) → is_lendable core r t ≡ true → P (Some (Lend r t))) → (lend ≡ None → P None) → P (lend_next core)
  lending P some none = by lend refl
    where
      by : (o : Option ℕ) → lend ≡ o → P (lend_in core o)
      by None e = none e
      by (Some r) e = threads (lowest_below made (is_lendable core r)) refl
        where
          threads : (o : Option ℕ) → lowest_below made (is_lendable core r) ≡ o → P (map_action (λ thread. Lend r thread) o)
          threads None f = absurd (true≢false (sym (found_below (length core.replicas) some_in r e) ∙ none_below made (is_lendable core r) f))
          threads (Some t) f = some r t (found_below made (is_lendable core r) t f)

  -- where what is urgent has a turn, some thread has
  pub urgent-turn : is_some (urgent_next core) ≡ true → is_some (turn_next core) ≡ true
  urgent-turn some = by (is_some (turn_next core)) refl
    where
      vote_none : (o : Option ℕ) (l : Option Action) → is_some (or_else (map_action DoVote o) l) ≡ false → (o ≡ None) × (is_some l ≡ false)
      vote_none None l f = (refl, f)
      vote_none (Some t) l f = absurd (true≢false f)

      lend_none : is_some (lend_next core) ≡ false → lend ≡ None
      lend_none = lending (λ (o : Option Action). is_some o ≡ false → lend ≡ None) (λ r t may f. absurd (true≢false f)) (λ lends f. lends)

      turn_left : (t : ℕ) → t < made → is_some (turn_next core) ≡ false → (o : Option Action) → TurnIs core t o → is_some o ≡ true → ⊥
      turn_left t less f _ (is_voted may) some =
          true≢false (sym may ∙ never_below made (may_vote core) (none_below made (may_vote core) (vote_none vote (lend_next core) f).0) t less)
      turn_left t less f _ (is_lent_in {replica = r} under may) some =
          true≢false (sym may ∙ never_below (length core.replicas) (λ replica. is_lendable core replica t) (none_lendable (lend_none (vote_none vote (lend_next core) f).1) t less) r under)
      turn_left t less f _ (has_none unvoted unlent) some = true≢false (sym some)

      nothing : is_some (turn_next core) ≡ false → (o : Option ℕ) → Best core (has_turn core) made o → is_some (option_and_then (turn_of core) o) ≡ true → ⊥
      nothing f None best some = true≢false (sym some)
      nothing f (Some t) best some = turn_left t best.0 f (turn_of core t) (turn_is core t) some

      by : (b : Bool) → is_some (turn_next core) ≡ b → is_some (turn_next core) ≡ true
      by true f = f
      by false f = absurd (nothing f (most_urgent_below core made) (is_best core (has_turn core) made) some)

  -- what is found comes next, or else something
  abbrev NextOr : Action → Option Action → Type 0
  NextOr otherwise o = NextIs job core (action_or otherwise o)

  -- while a scrub is due
  by_scrub : is_going core ≡ true → is_scrub_due job core ≡ true → (b : Bool) → nothing_lent core ≡ b → NextIs job core (action_or (if b then DoScrub else Wait) (lend_next core))
  by_scrub going due_now b lent = lending (NextOr (if b then DoScrub else Wait)) (λ r t e. is_lend going e (λ rests. absurd (true≢false (sym due_now ∙ rests)))) (left b lent)
    where
      left : (b : Bool) → nothing_lent core ≡ b → lend ≡ None → NextIs job core (if b then DoScrub else Wait)
      left true home lends = is_scrub (all_still going home lends)
      left false out lends = is_wait out

  by_first : core.ended ≡ None → core.due ≡ None → is_scrub_due job core ≡ false → (b : Bool) → nothing_lent core ≡ b → NextIs job core (action_or (if b then DoEnd Deadlock else Wait) (first_action job core))
  by_first still none rests b lent =
      mapped DoFree (first_freed job core) (or_else (urgent_next core) (turn_next core)) (NextOr (if b then DoEnd Deadlock else Wait)) (λ t e. let first = freed-first job core t e in is_free first.0 rests first.1) (λ unfreed.
      let frees = freed-none job core unfreed in
      by_urgent frees (most_urgent_below core made) (is_best core (has_turn core) made))
    where
      going : is_going core ≡ true
      going = and_from _ _ (ap is_none none) (ap is_none still)

      otherwise : Action
      otherwise = if b then DoEnd Deadlock else Wait

      left : (b : Bool) → nothing_lent core ≡ b → free ≡ None → vote ≡ None → lend ≡ None → NextIs job core (if b then DoEnd Deadlock else Wait)
      left true home frees votes lends = is_end still (alone (stuck going home frees votes lends)) (ap (λ (o : Option How). unwrap_or o Deadlock) none)
      left false out frees votes lends = is_wait out

      -- nothing is urgent
      by_turn : free ≡ None → Best core (has_turn core) made None → NextOr otherwise (turn_next core)
      by_turn frees calm =
          mapped DoVote vote (lend_next core) (NextOr otherwise) (λ t e. is_vote (found_below made (may_vote core) t e) rests (frees, foremost_of_none core t calm)) (λ votes.
          lending (NextOr otherwise) (λ r t e. is_lend going e (λ rests. (frees, foremost_of_none core t calm))) (left b lent frees votes))

      -- a thread is
      of_urgent : (t : ℕ) → ComesFirst job core t → is_urgent core t ≡ true → (o : Option Action) → TurnIs core t o → is_some o ≡ true → NextOr otherwise (or_else o (turn_next core))
      of_urgent t first urgent _ (is_voted may) some = is_vote may rests first
      of_urgent t first urgent _ (is_lent_in {replica = r} under may) some = is_lend going may (λ rests. first)
      of_urgent t first urgent _ (has_none unvoted unlent) some = absurd (true≢false (sym some))

      by_urgent : free ≡ None → (o : Option ℕ) → Best core (has_turn core) made o → NextOr otherwise (or_else (option_and_then (turn_of core) o) (turn_next core))
      by_urgent frees None calm = by_turn frees calm
      by_urgent frees (Some t) best = of_urgent t (frees, best.2) best.1 (turn_of core t) (turn_is core t) (and_parts (is_overdue (core.waited t)) (is_some (turn_of core t)) best.1).1

  next_is : NextIs job core (next_action job core)
  unfolding next_action
  next_is = by (is_some core.ended) refl
    where
      by_due : core.ended ≡ None → (d : Option How) → core.due ≡ d → NextIs job core (action_unless_due job core d)
      by_due still (Some how) e = is_end still (due e) (ap (λ (o : Option How). unwrap_or o Deadlock) e)
      by_due on None e = choose (is_scrub_due job core) refl
        where
          choose : (b : Bool) → is_scrub_due job core ≡ b → NextIs job core (if b then scrub_action core else action_or (if nothing_lent core then DoEnd Deadlock else Wait) (first_action job core))
          choose true rests = by_scrub (and_from _ _ (ap is_none e) (ap is_none on)) rests (nothing_lent core) refl
          choose false rests = by_first on e rests (nothing_lent core) refl

      by : (b : Bool) → is_some core.ended ≡ b → NextIs job core (if b then Over else action_unless_due job core core.due)
      by true e = is_over e
      by false e = by_due (none_of core.ended e) core.due refl

  comes : (action : Action) → next_action job core ≡ action → NextIs job core action
  comes action e = subst (NextIs job core) e next_is

  -- an end that is next is allowed
  pub end_next : (how : How) → next_action job core ≡ DoEnd how → (core.ended ≡ None) × MayEnd job core how
  end_next how e = by (comes (DoEnd how) e)
    where
      by : NextIs job core (DoEnd how) → (core.ended ≡ None) × MayEnd job core how
      by (is_end still may is) = (still, may)

  -- the end that is next is the one that is due, or a deadlock
  pub end_is : (how : How) → next_action job core ≡ DoEnd how → unwrap_or core.due Deadlock ≡ how
  end_is how e = by (comes (DoEnd how) e)
    where
      by : NextIs job core (DoEnd how) → unwrap_or core.due Deadlock ≡ how
      by (is_end still may is) = is

  -- a vote that is next may be held
  pub vote_next : (thread : ℕ) → next_action job core ≡ DoVote thread → may_vote core thread ≡ true
  vote_next thread e = by (comes (DoVote thread) e)
    where
      by : NextIs job core (DoVote thread) → may_vote core thread ≡ true
      by (is_vote may rests first) = may

  -- a thread that was outwaited is voted on next where nothing can be done for the other
  pub outwaited_voted : (thread : ℕ) → next_action job core ≡ DoVote thread → (other : ℕ) → other < made → 64 ≤ core.waited other → core.waited thread < core.waited other → NothingFor job core other
  outwaited_voted thread e other less long longer = by (comes (DoVote thread) e)
    where
      by : NextIs job core (DoVote thread) → NothingFor job core other
      by (is_vote may rests first) =
          let none = yields core thread other first.1 less long longer in
          (never_below made (may_free job core) (none_below made (may_free job core) first.0) other less, none.0, none.1)

  -- and lent next where the other can't be voted on or lent
  pub outwaited_lent : (replica thread : ℕ) → next_action job core ≡ Lend replica thread → is_scrub_due job core ≡ false → (other : ℕ) → other < made → 64 ≤ core.waited other → core.waited thread < core.waited other → (may_vote core other ≡ false) × NotLendable core other
  outwaited_lent replica thread e rests other less long longer = by (comes (Lend replica thread) e)
    where
      by : NextIs job core (Lend replica thread) → (may_vote core other ≡ false) × NotLendable core other
      by (is_lend going may first) = yields core thread other (first rests).1 less long longer

  -- no vote comes next while a scrub is due
  pub vote_rests : (thread : ℕ) → next_action job core ≡ DoVote thread → is_scrub_due job core ≡ false
  vote_rests thread e = by (comes (DoVote thread) e)
    where
      by : NextIs job core (DoVote thread) → is_scrub_due job core ≡ false
      by (is_vote may rests first) = rests

  -- a call that is to be served next may be served
  pub free_next : (thread : ℕ) → next_action job core ≡ DoFree thread → may_free job core thread ≡ true
  free_next thread e = by (comes (DoFree thread) e)
    where
      by : NextIs job core (DoFree thread) → may_free job core thread ≡ true
      by (is_free may rests first) = may

  -- nor does a free
  pub free_rests : (thread : ℕ) → next_action job core ≡ DoFree thread → is_scrub_due job core ≡ false
  free_rests thread e = by (comes (DoFree thread) e)
    where
      by : NextIs job core (DoFree thread) → is_scrub_due job core ≡ false
      by (is_free may rests first) = rests

  -- a thread that was outwaited is freed next where the other can't be
  pub outwaited_freed : (thread : ℕ) → next_action job core ≡ DoFree thread → (other : ℕ) → other < made → 64 ≤ core.waited other → core.waited thread < core.waited other → may_free job core other ≡ false
  outwaited_freed thread e other less long longer = by (comes (DoFree thread) e)
    where
      no : FreedFirst job core thread → (b : Bool) → may_free job core other ≡ b → b ≡ false
      no first true may = absurd (let w = first other less long may in omega arith)
      no first false may = refl

      by : NextIs job core (DoFree thread) → may_free job core other ≡ false
      by (is_free may rests first) = no first (may_free job core other) refl

  -- replicas that are to be scrubbed next may be scrubbed
  pub scrub_next : next_action job core ≡ DoScrub → may_scrub core ≡ true
  scrub_next e = by (comes DoScrub e)
    where
      by : NextIs job core DoScrub → may_scrub core ≡ true
      by (is_scrub may) = may

  -- what is to be lent may be lent
  pub lend_is_next : (replica thread : ℕ) → next_action job core ≡ Lend replica thread → (is_going core ≡ true) × (is_lendable core replica thread ≡ true)
  lend_is_next replica thread e = by (comes (Lend replica thread) e)
    where
      by : NextIs job core (Lend replica thread) → (is_going core ≡ true) × (is_lendable core replica thread ≡ true)
      by (is_lend going may first) = (going, may)

  -- the core waits only for a lease
  pub wait_next : next_action job core ≡ Wait → nothing_lent core ≡ false
  wait_next e = by (comes Wait e)
    where
      by : NextIs job core Wait → nothing_lent core ≡ false
      by (is_wait out) = out

  -- nothing is left to do only behind the end
  pub over_is_next : next_action job core ≡ Over → is_some core.ended ≡ true
  over_is_next e = by (comes Over e)
    where
      by : NextIs job core Over → is_some core.ended ≡ true
      by (is_over ended) = ended

-- the end of a failed sink comes alone
pub sink_alone : (job : Job) (core : Core) (how : How) → EndsSink core how → EndsAlone job core how
sink_alone job core (Sink bytes) e = e
sink_alone job core how e = absurd e

-- behind the end nothing comes
pub next_over : (job : Job) (core : Core) → is_some core.ended ≡ true → next_action job core ≡ Over
unfolding next_action
next_over job core e = ap (λ (b : Bool). if b then Over else action_unless_due job core core.due) e

-- an end that is due comes next
pub next_due : (job : Job) (core : Core) (how : How) → is_some core.ended ≡ false → core.due ≡ Some how → next_action job core ≡ DoEnd how
unfolding next_action
next_due job core how e due_is = ap (λ (b : Bool). if b then Over else action_unless_due job core core.due) e ∙ ap (action_unless_due job core) due_is

-- while nothing is due the first of what can be done comes next
pub next_first : (job : Job) (core : Core) → is_some core.ended ≡ false → core.due ≡ None → is_scrub_due job core ≡ false → next_action job core ≡ action_or (if nothing_lent core then DoEnd Deadlock else Wait) (first_action job core)
unfolding next_action
next_first job core over none rests =
    ap (λ (b : Bool). if b then Over else action_unless_due job core core.due) over ∙ ap (action_unless_due job core) none
    ∙ ap (λ (b : Bool). if b then scrub_action core else action_or (if nothing_lent core then DoEnd Deadlock else Wait) (first_action job core)) rests

-- while a scrub is due it comes next, once nothing is lent and nothing can be
pub next_scrub : (job : Job) (core : Core) → is_some core.ended ≡ false → core.due ≡ None → is_scrub_due job core ≡ true → next_action job core ≡ scrub_action core
unfolding next_action
next_scrub job core over none due_now =
    ap (λ (b : Bool). if b then Over else action_unless_due job core core.due) over ∙ ap (action_unless_due job core) none
    ∙ ap (λ (b : Bool). if b then scrub_action core else action_or (if nothing_lent core then DoEnd Deadlock else Wait) (first_action job core)) due_now
