-- A test that goes through all executions of a program: only thread 0 writes, in one stretch, and no other thread reads there. A program
-- that passes has no races.
use Rattle.std.specs.Prelude.{◌≡◌, ◌≢◌, ℕ, zero, suc, ◌+◌, ◌<◌, ◌≤◌, ◌⊎◌, Bool, true, false, not, ◌&&◌, ◌||◌, ◌==◌, nat_le, nat_lt, if◌then◌else◌, List, [], ◌∷◌, length, take, Option, Some, None, slice_get}
use Rattle.std.specs.List.{list_all}
use Rattle.std.specs.Option.{option_map_or, option_and_then}
use Rattle.std.proofs.Common.{refl, sym, ap, ◌∙◌, subst, arith, inl, inr, ⊎_elim}
use Rattle.std.proofs.lemmas.Bool.{or_cases, false≢true, leb-true, ltb-true, le-leb, lt-ltb, and_parts, and_from, eqb-true, cases_Bool}
use Rattle.std.proofs.lemmas.Option.{option_and_then_some, slice_get_within}
use Rattle.ro_pages.specs.Bytes.{Span, within}
use Rattle.ro_plain.specs.Machine.{Program, Machine, opening, next_of, step_by, steppable, step, run}
use Rattle.ro_plain.specs.Accesses.{Accesses, no_access, accesses, touches, conflict_at}
use Rattle.ro_plain.specs.Order.{machine_at, accesses_at, RaceFree}
use Rattle.ro_plain.proofs.Calls.{some-injective, steppable-parts, step-opens}
use Rattle.ro_plain.proofs.Swap.{at-both}
use Rattle.ro_plain.proofs.Explore.{all_below}
use Rattle.ro_legal.proofs.Lists.{get-within}

-- a stretch that is empty or lies in the own one
abbrev pub is_own : (own span : Span) → Bool
is_own own span = (span.count == 0) || (nat_le own.place span.place && nat_le (span.place + span.count) (own.place + own.count))

abbrev pub is_outside : (own span : Span) → Bool
is_outside own span = nat_le (span.place + span.count) own.place || nat_le (own.place + own.count) span.place

abbrev pub is_empty : Span → Bool
is_empty span = span.count == 0

abbrev pub keeps_apart : (own : Span) → (thread : ℕ) → Accesses → Bool
keeps_apart own thread a =
    if thread == 0 then list_all (is_own own) a.writes else list_all is_empty a.writes && list_all (is_outside own) a.reads

-- in each execution from here on, of so many steps less one at most
abbrev pub all_apart : (own : Span) → (fuel : ℕ) → Program → Machine → Bool
all_apart own zero program machine = false
all_apart own (suc fuel) program machine =
    all_below (length machine.cpus) (λ t. option_map_or (λ after. keeps_apart own t (accesses program machine t) && all_apart own fuel program after) (step program machine t) true)

-- ---- the test is right

-- where a byte is touched, a stretch that passes has it
touched : (test : Span → Bool) (spans : List Span) (x : ℕ) → list_all test spans ≡ true → touches spans x ≡ true → (span : Span) × (test span ≡ true) × (within span x ≡ true)
touched test [] x e f = absurd (false≢true f)
touched test (span ∷ spans) x e f =
    let p = and_parts (test span) (list_all test spans) e in
    ⊎_elim (λ (g : within span x ≡ true). (span, p.0, g)) (λ (g : touches spans x ≡ true). touched test spans x p.1 g) (or_cases (within span x) (touches spans x) f)

bounds : (span : Span) (x : ℕ) → within span x ≡ true → (span.place ≤ x) × (x < span.place + span.count)
bounds span x e = let p = and_parts (nat_le span.place x) (nat_lt x (span.place + span.count)) e in (leb-true span.place x p.0, ltb-true x (span.place + span.count) p.1)

not-in-empty : (span : Span) (x : ℕ) → is_empty span ≡ true → within span x ≡ true → ⊥
not-in-empty span x e f = let b = bounds span x f in let n = eqb-true span.count 0 e in let low = b.0 in let high = b.1 in omega arith

in-own : (own span : Span) (x : ℕ) → is_own own span ≡ true → within span x ≡ true → within own x ≡ true
in-own own span x e f =
    ⊎_elim (λ (g : (span.count == 0) ≡ true). absurd (not-in-empty span x g f)) (λ (g : (nat_le own.place span.place && nat_le (span.place + span.count) (own.place + own.count)) ≡ true).
    let p = and_parts _ _ g in
    let b = bounds span x f in
    let low = leb-true own.place span.place p.0 in
    let high = leb-true (span.place + span.count) (own.place + own.count) p.1 in
    let from = b.0 in
    let to = b.1 in
    and_from (nat_le own.place x) (nat_lt x (own.place + own.count)) (le-leb own.place x (omega arith)) (lt-ltb x (own.place + own.count) (omega arith)))
    (or_cases (span.count == 0) _ e)

not-outside : (own span : Span) (x : ℕ) → is_outside own span ≡ true → within span x ≡ true → within own x ≡ true → ⊥
not-outside own span x e f g =
    let a = bounds span x f in
    let b = bounds own x g in
    let a0 = a.0 in
    let a1 = a.1 in
    let b0 = b.0 in
    let b1 = b.1 in
    ⊎_elim (λ (h : nat_le (span.place + span.count) own.place ≡ true). let k = leb-true (span.place + span.count) own.place h in omega arith)
    (λ (h : nat_le (own.place + own.count) span.place ≡ true). let k = leb-true (own.place + own.count) span.place h in omega arith)
    (or_cases (nat_le (span.place + span.count) own.place) (nat_le (own.place + own.count) span.place) e)

-- what a thread writes is thread 0's own, and no other thread reads there
record Apart (own : Span) (t : ℕ) (a : Accesses) : Type 0 where
  pub writes : (x : ℕ) → touches a.writes x ≡ true → ((t == 0) ≡ true) × (within own x ≡ true)
  pub reads : (x : ℕ) → touches a.reads x ≡ true → within own x ≡ true → (t == 0) ≡ true

apart-by : (own : Span) (t : ℕ) (a : Accesses) → keeps_apart own t a ≡ true → Apart own t a
apart-by own t a e = ⊎_elim first other (cases_Bool (t == 0))
  where
    first : (t == 0) ≡ true → Apart own t a
    first is =
        let all = subst (λ (b : Bool). (if b then list_all (is_own own) a.writes else list_all is_empty a.writes && list_all (is_outside own) a.reads) ≡ true) is e in
        record { writes = λ x w. let s = touched (is_own own) a.writes x all w in (is, in-own own s.0 x s.1 s.2); reads = λ x w g. is }

    other : (t == 0) ≡ false → Apart own t a
    other is =
        let all = subst (λ (b : Bool). (if b then list_all (is_own own) a.writes else list_all is_empty a.writes && list_all (is_outside own) a.reads) ≡ true) is e in
        let p = and_parts (list_all is_empty a.writes) (list_all (is_outside own) a.reads) all in
        record {
          writes = λ x w. let s = touched is_empty a.writes x p.0 w in absurd (not-in-empty s.0 x s.1 s.2);
          reads = λ x w g. let s = touched (is_outside own) a.reads x p.1 w in absurd (not-outside own s.0 x s.1 s.2 g);
        }

both-first : (t u : ℕ) → t ≢ u → (t == 0) ≡ true → (u == 0) ≡ true → ⊥
both-first t u different e f = different (eqb-true t 0 e ∙ sym (eqb-true u 0 f))

no-conflict : (own : Span) (t u : ℕ) → t ≢ u → (a b : Accesses) → Apart own t a → Apart own u b → (x : ℕ) → conflict_at a b x ≡ true → ⊥
no-conflict own t u different a b p q x e = ⊎_elim first second (or_cases _ _ (and_parts (not (touches a.atomic x && touches b.atomic x)) _ e).1)
  where
    first : (touches a.writes x && (touches b.reads x || touches b.writes x)) ≡ true → ⊥
    first f =
        let both = and_parts (touches a.writes x) (touches b.reads x || touches b.writes x) f in
        let w = p.writes x both.0 in
        ⊎_elim (λ (g : touches b.reads x ≡ true). both-first t u different w.0 (q.reads x g w.1)) (λ (g : touches b.writes x ≡ true). both-first t u different w.0 (q.writes x g).0)
        (or_cases (touches b.reads x) (touches b.writes x) both.1)

    second : (touches a.reads x && touches b.writes x) ≡ true → ⊥
    second f =
        let both = and_parts (touches a.reads x) (touches b.writes x) f in
        let w = q.writes x both.1 in both-first t u different (p.reads x both.0 w.1) w.0

-- ---- each execution

lt-cases : (i n : ℕ) → i < suc n → (i < n) ⊎ (i ≡ n)
lt-cases zero zero low = inr refl
lt-cases zero (suc n) low = inl (omega arith)
lt-cases (suc i) zero low = absurd (omega arith)
lt-cases (suc i) (suc n) low = ⊎_elim (λ (h : i < n). inl (omega arith)) (λ (h : i ≡ n). inr (ap suc h)) (lt-cases i n (omega arith))

below : (n : ℕ) (test : ℕ → Bool) → all_below n test ≡ true → (i : ℕ) → i < n → test i ≡ true
below zero test e i low = absurd (omega arith)
below (suc n) test e i low =
    let p = and_parts (all_below n test) (test n) e in
    ⊎_elim (λ (h : i < n). below n test p.0 i h) (λ (h : i ≡ n). subst (λ (m : ℕ). test m ≡ true) (sym h) p.1) (lt-cases i n low)

step-there : (program : Program) (machine : Machine) (t : ℕ) (after : Machine) → step program machine t ≡ Some after → t < length machine.cpus
step-there program machine t after e =
    option_and_then_some (λ cpu. step_by program machine t cpu (next_of program machine cpu)) (steppable machine t) after (step-opens program machine t after e)
    (λ cpu live f. slice_get_within machine.cpus t cpu (steppable-parts machine t cpu live).there)

-- the machine before a step, and what the step accesses
record Before (own : Span) (program : Program) (machine : Machine) (threads : List ℕ) (place t : ℕ) : Type 0 where
  pub before : Machine
  pub runs : run program machine (take place threads) ≡ Some before
  pub apart : keeps_apart own t (accesses program before t) ≡ true

-- the first step of an execution
record First (own : Span) (fuel : ℕ) (program : Program) (machine : Machine) (t : ℕ) (threads : List ℕ) (end : Machine) : Type 0 where
  pub after : Machine
  pub takes : step program machine t ≡ Some after
  pub runs : run program after threads ≡ Some end
  pub apart : keeps_apart own t (accesses program machine t) ≡ true
  pub all : all_apart own fuel program after ≡ true

first-of : (own : Span) (fuel : ℕ) (program : Program) (machine : Machine) (t : ℕ) (threads : List ℕ) (end : Machine) → all_apart own (suc fuel) program machine ≡ true → run program machine (t ∷ threads) ≡ Some end → First own fuel program machine t threads end
first-of own fuel program machine t threads end e f =
    option_and_then_some (λ after. run program after threads) (step program machine t) end f (λ after g h.
    let each = below (length machine.cpus) (λ u. option_map_or (λ a. keeps_apart own u (accesses program machine u) && all_apart own fuel program a) (step program machine u) true) e t (step-there program machine t after g) in
    let goes : (keeps_apart own t (accesses program machine t) && all_apart own fuel program after) ≡ true = sym (ap (λ (o : Option Machine). option_map_or (λ a. keeps_apart own t (accesses program machine t) && all_apart own fuel program a) o true) g) ∙ each in
    let p = and_parts (keeps_apart own t (accesses program machine t)) (all_apart own fuel program after) goes in
    record { after = after; takes = g; runs = h; apart = p.0; all = p.1 })

at-step : (own : Span) (fuel : ℕ) (program : Program) (threads : List ℕ) (machine end : Machine) → all_apart own fuel program machine ≡ true → run program machine threads ≡ Some end → (place t : ℕ) → slice_get threads place ≡ Some t → Before own program machine threads place t
at-step own zero program threads machine end e f place t there = absurd (false≢true e)
at-step own (suc fuel) program [] machine end e f place t there = absurd (let g : None ≡ Some t = there in cc)
at-step own (suc fuel) program (u ∷ threads) machine end e f zero t there =
    let s = first-of own fuel program machine u threads end e f in
    record { before = machine; runs = refl; apart = subst (λ (v : ℕ). keeps_apart own v (accesses program machine v) ≡ true) (some-injective there) s.apart }
at-step own (suc fuel) program (u ∷ threads) machine end e f (suc place) t there =
    let s = first-of own fuel program machine u threads end e f in
    let r = at-step own fuel program threads s.after end s.all s.runs place t there in
    record { before = r.before; runs = ap (option_and_then (λ m. run program m (take place threads))) s.takes ∙ r.runs; apart = r.apart }

pub unshared-free : (own : Span) (fuel : ℕ) (program : Program) → all_apart own fuel program (opening program) ≡ true → RaceFree program
unshared-free own fuel program e threads runs i j byte low short different conflict =
    let one = get-within threads i (omega arith) in
    let other = get-within threads j short in
    absurd (no-conflict own one.0 other.0 (λ e. different (one.1 ∙ (ap Some e ∙ sym other.1))) (accesses_at program threads i) (accesses_at program threads j) (at i one.0 one.1) (at j other.0 other.1) byte conflict)
  where
    at : (place t : ℕ) → slice_get threads place ≡ Some t → Apart own t (accesses_at program threads place)
    at place t there =
        let r = at-step own fuel program threads (opening program) runs.0 e runs.1 place t there in
        subst (Apart own t) (sym (at-both (accesses program) no_access (machine_at program threads place) (slice_get threads place) r.before t r.runs there)) (apart-by own t (accesses program r.before t) r.apart)
