-- What a walk knows behind an entry.
use Rattle.std.specs.Prelude.{◌≡◌, ◌≢◌, ℕ, ◌+◌, ◌*◌, ◌^◌, ◌<◌, ◌≤◌, Bool, true, false, cond, ◌&&◌, ◌==◌, List, [], ◌∷◌, ◌++◌, length, replicate, slice_index, slice_set, Option}
use Rattle.std.specs.List.{sum_by}
use Rattle.std.proofs.Common.{refl, sym, ap, ap₂, ◌∙◌, subst, arith, inl, inr, take, get_or}
use Rattle.std.proofs.lemmas.Bool.{eqb-true, eq-eqb, cases_eq, false_from_ne_true}
use Rattle.std.proofs.lemmas.List.{take_more, get_or-set_same, get_or-set_other, get_or-replicate}
use Rattle.std.proofs.lemmas.List.Sums.{sum_by-cons}
use Rattle.ro_settings.specs.declared.Mode.{Mode}
use Rattle.ro_settings.specs.declared.Mode.TheVariants.{Voted, Cooperative}
use Rattle.ro_journal.specs.declared.Lease.{Lease}
use Rattle.ro_journal.specs.declared.Entry.{Entry}
use Rattle.ro_journal.specs.declared.Entry.TheVariants.{Take, Put, Part, Vote, Free, Scrub, End}
use Rattle.ro_journal.specs.Plan.{event_steps, entry_plan, plan_of}
use Rattle.ro_plans.specs.declared.walk.Stretch.{Stretch}
use Rattle.ro_plans.specs.declared.walk.Walk.{Walk}
use Rattle.ro_plans.specs.First.{times, Steps, served_all, lease_steps, steps_after, steps_from, steps_of}
use Rattle.ro_plans.specs.Walks.{stretch_steps, Adds, fresh, made_by, first_by, IsMade, IsRaised, Knows, PassedIn}
use Rattle.ro_plans.proofs.Times.{times-append, times-replicate, times-le-length}
use Rattle.ro_plans.proofs.Prefixes.{begins-times, plan-begins, steps-more, voted-more}
use Rattle.ro_plans.proofs.Runs.{AreWithin, are-within, lease-first, lease-taken}

-- ---- sums

taken-more : (s : Steps) (entry : Entry) (r t : ℕ) → times t ((steps_after s entry).taken r) ≡ times t (s.taken r) + made_by entry r t
taken-more s (Take lease) r t = omega arith
taken-more s (Put lease n hit) r t = lease-taken lease n s r t
taken-more s (Part lease n hit) r t = lease-taken lease n s r t
taken-more s (Vote u n won lost did) r t = times-append t (s.taken r) (replicate (event_steps did) u) ∙ ap (λ (m : ℕ). times t (s.taken r) + m) (times-replicate t u (event_steps did))
taken-more s (Free u) r t = times-append t (s.taken r) (u ∷ []) ∙ ap (λ (m : ℕ). times t (s.taken r) + m) (times-replicate t u 1)
taken-more s (Scrub won lost) r t = omega arith
taken-more s (End how) r t = omega arith

taken-from : (s : Steps) (journal : List Entry) (r t : ℕ) → times t ((steps_from s journal).taken r) ≡ times t (s.taken r) + sum_by (λ entry. made_by entry r t) journal
taken-from s [] r t = omega arith
taken-from s (entry ∷ journal) r t = omega (arith, taken-from (steps_after s entry) journal r t, taken-more s entry r t, sum_by-cons (λ e. made_by e r t) entry journal)

pub taken-sum : (journal : List Entry) (r t : ℕ) → times t ((steps_of journal).taken r) ≡ sum_by (λ entry. made_by entry r t) journal
taken-sum journal r t = omega (arith, taken-from (record { taken = λ r. []; first = [] }) journal r t)

pub first-more : (s : Steps) (entry : Entry) (t : ℕ) → AreWithin s → times t (steps_after s entry).first ≡ times t s.first + first_by s entry t
first-more s (Take lease) t within = omega arith
first-more s (Put lease n hit) t within = lease-first lease n s within t
first-more s (Part lease n hit) t within = lease-first lease n s within t
first-more s (Vote u n won lost did) t within = times-append t s.first (replicate (event_steps did) u) ∙ ap (λ (m : ℕ). times t s.first + m) (times-replicate t u (event_steps did))
first-more s (Free u) t within = times-append t s.first (u ∷ []) ∙ ap (λ (m : ℕ). times t s.first + m) (times-replicate t u 1)
first-more s (Scrub won lost) t within = omega arith
first-more s (End how) t within = omega arith

-- behind the entry at a place
pub steps-next : (journal : List Entry) (i : ℕ) (d : Entry) → i < length journal → steps_of (take (i + 1) journal) ≡ steps_after (steps_of (take i journal)) (get_or journal i d)
steps-next journal i d h = ap steps_of (take_more journal i d h) ∙ steps-more (take i journal) (get_or journal i d)

pub voted-next : (journal : List Entry) (i : ℕ) (d : Entry) → i < length journal → (told : Option Stretch) → stretch_steps told ≡ entry_plan (get_or journal i d) → Adds Voted journal i told
voted-next journal i d h told is = ap plan_of (take_more journal i d h) ∙ (voted-more (take i journal) (get_or journal i d) ∙ ap (λ (xs : List ℕ). plan_of (take i journal) ++ xs) (sym is))

pub first-next : (journal : List Entry) (i : ℕ) (d : Entry) (t : ℕ) → i < length journal → times t (steps_of (take (i + 1) journal)).first ≡ times t (steps_of (take i journal)).first + first_by (steps_of (take i journal)) (get_or journal i d) t
first-next journal i d t h =
    ap (λ (s : Steps). times t s.first) (steps-next journal i d h) ∙ first-more (steps_of (take i journal)) (get_or journal i d) t (are-within (take i journal))

-- no more of a thread than there are in all
pub first-few : (journal : List Entry) (n t : ℕ) → times t (steps_of (take n journal)).first ≤ times t (steps_of journal).first
first-few journal n t = begins-times t _ _ (plan-begins Cooperative journal n)

-- ---- a walk

-- at the opening
pub none-passed : (mode : Mode) (walk : Walk) → walk.made ≡ replicate 80 0 → walk.most ≡ replicate 16 0 → PassedIn mode walk []
none-passed Voted walk made most = tt
none-passed Cooperative walk made most = record {
  behind = λ r t in_replicas in_threads. omega (arith, zero-made r t in_replicas in_threads, zero-most t in_threads);
  most = λ t in_threads. omega (arith, zero-most t in_threads);
  fits = omega arith;
}
  where
    zero-made : (r t : ℕ) → r < 5 → t < 16 → slice_index walk.made (r * 16 + t) ≡ 0
    zero-made r t h k = ap (λ (xs : List ℕ). slice_index xs (r * 16 + t)) made ∙ get_or-replicate 80 (r * 16 + t) 0 0 (omega arith)

    zero-most : (t : ℕ) → t < 16 → slice_index walk.most t ≡ 0
    zero-most t k = ap (λ (xs : List ℕ). slice_index xs t) most ∙ get_or-replicate 16 t 0 0 k

-- what leases made is no more than the most that those of a replica made
pub made-few : (walk : Walk) (before : List Entry) (r t : ℕ) → Knows walk (steps_of before) → r < 5 → t < 16 → slice_index walk.made (r * 16 + t) ≤ slice_index walk.most t
made-few walk before r t knows h k = omega (arith, knows.behind r t h k, are-within before r t)

-- behind an event
pub knows-served : (walk : Walk) (s : Steps) (u n : ℕ) → Knows walk s → length (served_all u n s).first < 2 ^ 64 → Knows walk (served_all u n s)
knows-served walk s u n knows fits = record {
  behind = λ r t h k. omega (arith, knows.behind r t h k, times-append t (s.taken r) (replicate n u), times-append t s.first (replicate n u));
  most = λ t k. omega (arith, knows.most t k, times-append t s.first (replicate n u));
  fits = fits;
}

-- behind a lease
pub knows-lease : (walk after : Walk) (lease : Lease) (n : ℕ) (s : Steps) → AreWithin s → Knows walk s → length (lease_steps lease n s).first < 2 ^ 64
    → IsMade walk.made lease.replica lease.thread n after.made
    → IsRaised walk.most lease.thread (fresh lease n s) after.most → Knows after (lease_steps lease n s)
knows-lease walk after lease n s within knows fits made most = record {
  behind = λ r t h k. omega (arith, knows.behind r t h k, made r t h k, most t k, lease-taken lease n s r t, lease-first lease n s within t);
  most = λ t k. omega (arith, knows.most t k, most t k, lease-first lease n s within t);
  fits = fits;
}

-- a thread's most has room for what a lease adds, where the first steps have
pub has-room : (walk : Walk) (lease : Lease) (n : ℕ) (s : Steps) → AreWithin s → Knows walk s → length (lease_steps lease n s).first < 2 ^ 64 → lease.thread < 16 → slice_index walk.most lease.thread + fresh lease n s < 2 ^ 64
has-room walk lease n s within knows fits k =
    let more = lease-first lease n s within lease.thread ∙ ap (λ (b : Bool). times lease.thread s.first + cond b (fresh lease n s) 0) (eq-eqb lease.thread lease.thread refl) in
    omega (arith, more, knows.most lease.thread k, times-le-length lease.thread (lease_steps lease n s).first)

-- one place is changed
by-place : (xs : List ℕ) (i j x : ℕ) → i < length xs → (b : Bool) → (i ≡ j → b ≡ true) → (i ≢ j → b ≡ false) → slice_index (slice_set xs i (slice_index xs i + x)) j ≡ slice_index xs j + cond b x 0
by-place xs i j x h b same other = elim (cases_eq i j) [
  | inl e ↦
      subst (λ (k : ℕ). slice_index (slice_set xs i (slice_index xs i + x)) k ≡ slice_index xs k + cond b x 0) e
      (get_or-set_same xs i (slice_index xs i + x) 0 h ∙ ap (λ (c : Bool). slice_index xs i + cond c x 0) (sym (same e)))
  | inr d ↦
      let none : slice_index xs j ≡ slice_index xs j + cond false x 0 = omega arith in
      get_or-set_other xs i j (slice_index xs i + x) 0 (λ e. d (sym e)) ∙ (none ∙ ap (λ (c : Bool). slice_index xs j + cond c x 0) (sym (other d)))
]

both-true : (a b : Bool) → a ≡ true → b ≡ true → (a && b) ≡ true
both-true a b p q = ap₂ (λ (c d : Bool). c && d) p q

not-both : (a b : Bool) → (a ≡ true → b ≡ true → ⊥) → (a && b) ≡ false
not-both true true h = absurd (h refl refl)
not-both true false h = refl
not-both false b h = refl

pub set-most : (most : List ℕ) (thread x : ℕ) → length most ≡ 16 → thread < 16 → IsRaised most thread x (slice_set most thread (slice_index most thread + x))
set-most most thread x long h t k = by-place most thread t x (omega arith) (thread == t) (eq-eqb thread t) (λ d. false_from_ne_true (thread == t) (λ e. d (eqb-true thread t e)))

-- a thread that no program has
pub none-raised : (most : List ℕ) (thread x : ℕ) → 16 ≤ thread → IsRaised most thread x most
none-raised most thread x h t k =
    let none : slice_index most t ≡ slice_index most t + cond false x 0 = omega arith in
    none ∙ ap (λ (c : Bool). slice_index most t + cond c x 0) (sym (false_from_ne_true (thread == t) (λ e. let same = eqb-true thread t e in absurd (omega arith))))

pub set-made : (made : List ℕ) (replica thread x : ℕ) → length made ≡ 80 → replica < 5 → thread < 16 → IsMade made replica thread x (slice_set made (replica * 16 + thread) (slice_index made (replica * 16 + thread) + x))
set-made made replica thread x long h k r t in_replicas in_threads =
    by-place made (replica * 16 + thread) (r * 16 + t) x (omega arith) (r == replica && thread == t)
    (λ e. both-true (r == replica) (thread == t) (eq-eqb r replica (omega (arith, e, k, in_threads))) (eq-eqb thread t (omega (arith, e, k, in_threads))))
    (λ d. not-both (r == replica) (thread == t) (λ p q. d (ap₂ (λ (a b : ℕ). a * 16 + b) (sym (eqb-true r replica p)) (eqb-true thread t q))))

-- a lease of a replica or a thread that no run has
pub none-made : (made : List ℕ) (replica thread x : ℕ) → (replica < 5 → thread < 16 → ⊥) → IsMade made replica thread x made
none-made made replica thread x out r t h k =
    let apart = not-both (r == replica) (thread == t) (λ p q. out (let e = eqb-true r replica p in omega (arith, e, h)) (let e = eqb-true thread t q in omega (arith, e, k))) in
    let none : slice_index made (r * 16 + t) ≡ slice_index made (r * 16 + t) + cond false x 0 = omega arith in
    none ∙ ap (λ (b : Bool). slice_index made (r * 16 + t) + cond b x 0) (sym apart)
