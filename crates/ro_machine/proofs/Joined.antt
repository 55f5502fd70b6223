-- Parts of a plan, one after another.
use Rattle.std.specs.Prelude.{◌≡◌, ℕ, Result, Ok, Err, IfOk, ◌+◌, ◌<◌, ◌≤◌, List, [], ◌∷◌, ◌++◌, length, take, replicate, ◌-◌, Option, Some}
use Rattle.std.specs.Option.{option_and_then}
use Rattle.std.proofs.Common.{refl, sym, ap, ◌∙◌, subst, arith, append_assoc, append-nil, length-append}
use Rattle.std.proofs.lemmas.List.{replicate-append-replicate, length-replicate}
use Rattle.ro_settings.specs.declared.Mode.{Mode}
use Rattle.ro_journal.specs.declared.Entry.{Entry}
use Rattle.ro_plans.specs.declared.walk.Stretch.{Stretch}
use Rattle.ro_plans.specs.Plans.{plan_in}
use Rattle.ro_plans.specs.Walks.{Adds, stretch_steps}
use Rattle.ro_plans.proofs.Prefixes.{plan-begins}
use Rattle.ro_plans.proofs.Told.{told-length, plan-le}
use Rattle.ro_io.specs.Outside.{Rose, more}
use Rattle.ro_plain.specs.Machine.{run}
use Rattle.ro_plain.proofs.Swap.{run-append}
use Rattle.ro_machine.specs.declared.errors.PlanError.{PlanError}
use Rattle.ro_machine.specs.declared.errors.PlanError.TheVariants.{NoStep, SinkFailed, NoMemory}
use Rattle.ro_machine.specs.Seen.{PlainOf, machine_of, Steps, HasNoStep}
use Rattle.ro_machine.specs.Parts.{Plays, Played, LacksOne, BreaksIn, StopsIn, Halts}
use Rattle.ro_io.proofs.Sends.{more-more, more-none}

-- no step
pub plays-none : (old : PlainOf) → Plays old [] old []
plays-none old = record { program = refl; runs = λ output. ap (λ o. Some (machine_of old o)) (sym (append-nil output)) }

-- one part and another
pub plays-join : (old mid new : PlainOf) (xs ys b c : List ℕ) → Plays old xs mid b → Plays mid ys new c → Plays old (xs ++ ys) new (b ++ c)
plays-join old mid new xs ys b c p q = record {
  program = q.program ∙ p.program;
  runs = λ output.
      run-append old.program (machine_of old output) xs ys
      ∙ (ap (option_and_then (λ m. run old.program m ys)) (p.runs output)
      ∙ (ap (λ r. run r (machine_of mid (output ++ b)) ys) (sym p.program)
      ∙ (q.runs (output ++ b)
      ∙ ap (λ o. Some (machine_of new o)) (append_assoc output b c))));
}

-- no step yet
pub played-none : (old : PlainOf) (held : Option (List ℕ)) (steps count : ℕ) → Played old [] old held held steps steps count count
played-none old held steps count = record { bytes = []; plays = plays-none old; held = sym (more-none held); steps_are = omega arith; bytes_are = omega arith }

-- instructions that write nothing
pub played-plain : (old new : PlainOf) (thread count : ℕ) (held : Option (List ℕ)) (steps after bytes : ℕ) → after ≡ steps + count → Plays old (replicate count thread) new [] → Played old (replicate count thread) new held held steps after bytes bytes
played-plain old new thread count held steps after bytes is plays = record {
  bytes = [];
  plays = plays;
  held = sym (more-none held);
  steps_are = let n = length-replicate count thread in omega (arith, is, n);
  bytes_are = omega arith;
}

-- so many steps of a thread, and more
pub more-of : (thread from mid to : ℕ) → from ≤ mid → mid ≤ to → replicate (mid - from) thread ++ replicate (to - mid) thread ≡ replicate (to - from) thread
more-of thread from mid to one other =
    replicate-append-replicate (mid - from) (to - mid) thread ∙ ap (λ n. replicate n thread) (let e : (mid - from) + (to - mid) ≡ to - from = omega arith in e)

module _ (old mid : PlainOf) (xs ys : List ℕ) (h g k : Option (List ℕ)) (s t u a b c : ℕ) (p : Played old xs mid h g s t a b) where
  pub played-join : (new : PlainOf) → Played mid ys new g k t u b c → Played old (xs ++ ys) new h k s u a c
  played-join new q = record {
    bytes = p.bytes ++ q.bytes;
    plays = plays-join old mid new xs ys p.bytes q.bytes p.plays q.plays;
    held = q.held ∙ (ap (λ x. more x q.bytes) p.held ∙ more-more h p.bytes q.bytes);
    steps_are = omega (arith, p.steps_are, q.steps_are, length-append xs ys);
    bytes_are = omega (arith, p.bytes_are, q.bytes_are, length-append p.bytes q.bytes);
  }

  -- a part was run, and the next one halts
  pub halts-later : (before between after : ℕ) (e : PlanError) → between ≡ before → Halts mid ys g k t between after e → Halts old (xs ++ ys) h k s before after e
  halts-later before between after (NoStep place) same (q, calm) = (
    record {
      played = xs ++ q.played;
      thread = q.thread;
      rest = q.rest;
      mid = q.mid;
      bytes = p.bytes ++ q.bytes;
      all = ap (λ r. xs ++ r) q.all ∙ sym (append_assoc xs q.played (q.thread ∷ q.rest));
      plays = plays-join old mid q.mid xs q.played p.bytes q.bytes p.plays q.plays;
      none = q.none;
      place_is = omega (arith, p.steps_are, q.place_is, length-append xs q.played);
      held = q.held ∙ (ap (λ x. more x q.bytes) p.held ∙ more-more h p.bytes q.bytes);
    },
    calm ∙ same,
  )
  halts-later before between after (SinkFailed taken) same (q, r) = (
    record {
      played = xs ++ q.played;
      thread = q.thread;
      rest = q.rest;
      mid = q.mid;
      after = q.after;
      bytes = p.bytes ++ q.bytes;
      all = ap (λ r. xs ++ r) q.all ∙ sym (append_assoc xs q.played (q.thread ∷ q.rest));
      plays = plays-join old mid q.mid xs q.played p.bytes q.bytes p.plays q.plays;
      steps = q.steps;
      short = q.short;
      held = q.held ∙ (ap (λ x. more x (q.bytes ++ take taken q.after.written)) p.held ∙ (more-more h p.bytes (q.bytes ++ take taken q.after.written) ∙ ap (more h) (sym (append_assoc p.bytes q.bytes (take taken q.after.written)))));
    },
    subst (λ (n : ℕ). Rose n after) same r,
  )
  halts-later before between after NoMemory same (q, calm) = (
    record {
      played = xs ++ q.played;
      rest = q.rest;
      mid = q.mid;
      bytes = p.bytes ++ q.bytes;
      all = ap (λ r. xs ++ r) q.all ∙ sym (append_assoc xs q.played q.rest);
      plays = plays-join old mid q.mid xs q.played p.bytes q.bytes p.plays q.plays;
      held = q.held ∙ (ap (λ x. more x q.bytes) p.held ∙ more-more h p.bytes q.bytes);
    },
    calm ∙ same,
  )

-- a part halts, whatever comes after it
pub halts-sooner : (old : PlainOf) (xs ys : List ℕ) (h k : Option (List ℕ)) (s before after : ℕ) (e : PlanError) → Halts old xs h k s before after e → Halts old (xs ++ ys) h k s before after e
halts-sooner old xs ys h k s before after (NoStep place) (q, calm) = (
  record {
    played = q.played;
    thread = q.thread;
    rest = q.rest ++ ys;
    mid = q.mid;
    bytes = q.bytes;
    all = ap (λ r. r ++ ys) q.all ∙ append_assoc q.played (q.thread ∷ q.rest) ys;
    plays = q.plays;
    none = q.none;
    place_is = q.place_is;
    held = q.held;
  },
  calm,
)
halts-sooner old xs ys h k s before after (SinkFailed taken) (q, r) = (
  record {
    played = q.played;
    thread = q.thread;
    rest = q.rest ++ ys;
    mid = q.mid;
    after = q.after;
    bytes = q.bytes;
    all = ap (λ r. r ++ ys) q.all ∙ append_assoc q.played (q.thread ∷ q.rest) ys;
    plays = q.plays;
    steps = q.steps;
    short = q.short;
    held = q.held;
  },
  r,
)
halts-sooner old xs ys h k s before after NoMemory (q, calm) = (
  record {
    played = q.played;
    rest = q.rest ++ ys;
    mid = q.mid;
    bytes = q.bytes;
    all = ap (λ r. r ++ ys) q.all ∙ append_assoc q.played q.rest ys;
    plays = q.plays;
    held = q.held;
  },
  calm,
)

-- the first step halts
pub lacks-first : (old : PlainOf) (thread : ℕ) (h : Option (List ℕ)) (s : ℕ) → HasNoStep old thread → LacksOne old (thread ∷ []) h h s s
lacks-first old thread h s none = record { played = []; thread = thread; rest = []; mid = old; bytes = []; all = refl; plays = plays-none old; none = none; place_is = omega arith; held = sym (more-none h) }

pub stops-first : (old : PlainOf) (thread : ℕ) (h : Option (List ℕ)) → StopsIn old (thread ∷ []) h h
stops-first old thread h = record { played = []; rest = thread ∷ []; mid = old; bytes = []; all = refl; plays = plays-none old; held = sym (more-none h) }

pub breaks-first : (old after : PlainOf) (thread taken : ℕ) (h k : Option (List ℕ)) → Steps old thread after → taken < length after.written → k ≡ more h (take taken after.written) → BreaksIn old (thread ∷ []) h k taken
breaks-first old after thread taken h k steps short held = record { played = []; thread = thread; rest = []; mid = old; after = after; bytes = []; all = refl; plays = plays-none old; steps = steps; short = short; held = held }

-- one of a thread's many steps halts
pub halts-all : (old : PlainOf) (thread done count : ℕ) (h k : Option (List ℕ)) (s before after : ℕ) (e : PlanError) → done < count → Halts old (replicate done thread ++ thread ∷ []) h k s before after e → Halts old (replicate count thread) h k s before after e
halts-all old thread done count h k s before after e less q =
    let one : replicate done thread ++ thread ∷ [] ≡ replicate (done + 1) thread = replicate-append-replicate done 1 thread in
    let whole : replicate (done + 1) thread ++ replicate (count - (done + 1)) thread ≡ replicate count thread =
    replicate-append-replicate (done + 1) (count - (done + 1)) thread ∙ ap (λ n. replicate n thread) (let m : (done + 1) + (count - (done + 1)) ≡ count = omega arith in m) in
    subst (λ (xs : List ℕ). Halts old xs h k s before after e) whole (halts-sooner old (replicate (done + 1) thread) (replicate (count - (done + 1)) thread) h k s before after e (subst (λ (xs : List ℕ). Halts old xs h k s before after e) one q))

-- instructions and one step more, by the counts of steps
pub part-counted : (old new : PlainOf) (thread ran : ℕ) (h k : Option (List ℕ)) (s t a b : ℕ) → Played old (replicate ran thread ++ thread ∷ []) new h k s t a b → Played old (replicate (t - s) thread) new h k s t a b
part-counted old new thread ran h k s t a b p =
    let one : replicate ran thread ++ thread ∷ [] ≡ replicate (ran + 1) thread = replicate-append-replicate ran 1 thread in
    let count : ran + 1 ≡ t - s = let n = ap length one in let m = length-replicate (ran + 1) thread in omega (arith, p.steps_are, n, m) in
    subst (λ (xs : List ℕ). Played old xs new h k s t a b) (one ∙ ap (λ n. replicate n thread) count) p

-- the part that was run, by the counts of steps, and what is left of all steps
pub halts-left : (old mid : PlainOf) (thread count : ℕ) (h g k : Option (List ℕ)) (s t a b before between after : ℕ) (e : PlanError) → s ≤ t → t ≤ s + count
    → Played old (replicate (t - s) thread) mid h g s t a b → between ≡ before → Halts mid (replicate ((s + count) - t) thread) g k t between after e → Halts old (replicate count thread) h k s before after e
halts-left old mid thread count h g k s t a b before between after e one other p same q =
    let whole : replicate (t - s) thread ++ replicate ((s + count) - t) thread ≡ replicate count thread =
    more-of thread s t (s + count) one other ∙ ap (λ n. replicate n thread) (let m : (s + count) - s ≡ count = omega arith in m) in
    subst (λ (xs : List ℕ). Halts old xs h k s before after e) whole
    (halts-later old mid (replicate (t - s) thread) (replicate ((s + count) - t) thread) h g k s t 0 a b 0 p before between after e same q)

-- one part more of many steps
pub played-more : (old mid new : PlainOf) (thread : ℕ) (h g k : Option (List ℕ)) (s t u a b c : ℕ) → s ≤ t → t ≤ u
    → Played old (replicate (t - s) thread) mid h g s t a b → Played mid (replicate (u - t) thread) new g k t u b c → Played old (replicate (u - s) thread) new h k s u a c
played-more old mid new thread h g k s t u a b c one other p q =
    subst (λ (xs : List ℕ). Played old xs new h k s u a c) (more-of thread s t u one other) (played-join old mid (replicate (t - s) thread) (replicate (u - t) thread) h g k s t u a b c p new q)

pub if-ok : {T E : Type 0} (r : Result T E) (P Q : T → Type 0) → ((x : T) → P x → Q x) → IfOk r P → IfOk r Q
if-ok (Ok x) P Q f h = f x h
if-ok (Err e) P Q f h = h

-- what an entry adds has room in the plan
pub plan-room : (mode : Mode) (journal : List Entry) (i : ℕ) (told : Option Stretch) (most steps : ℕ) → length (plan_in mode journal) ≤ most → steps ≡ length (plan_in mode (take i journal)) → Adds mode journal i told → steps + length (stretch_steps told) ≤ most
plan-room mode journal i told most steps few is adds = omega (arith, few, is, told-length mode journal i told adds, plan-le mode journal (i + 1))

-- what an entry adds halts, and so does the plan
pub halts-plan : (old : PlainOf) (mode : Mode) (journal : List Entry) (i : ℕ) (told : Option Stretch) (h k : Option (List ℕ)) (s before after : ℕ) (e : PlanError) → Adds mode journal i told → Halts old (plan_in mode (take i journal) ++ stretch_steps told) h k s before after e → Halts old (plan_in mode journal) h k s before after e
halts-plan old mode journal i told h k s before after e adds q =
    let whole = plan-begins mode journal (i + 1) in
    subst (λ (xs : List ℕ). Halts old xs h k s before after e) (sym whole.is)
    (halts-sooner old (plan_in mode (take (i + 1) journal)) whole.rest h k s before after e (subst (λ (xs : List ℕ). Halts old xs h k s before after e) (sym adds) q))
