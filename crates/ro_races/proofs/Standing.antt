-- Where the steps of a journal's entries stand in a run, and what a run comes to at its end.
use Rattle.std.specs.Prelude.{◌≡◌, ℕ, zero, suc, ◌+◌, ◌-◌, ◌<◌, ◌≤◌, Bool, List, [], ◌∷◌, ◌++◌, length, take, replicate, Option, Some, None, slice_get}
use Rattle.std.proofs.Common.{inl, refl, sym, ap, ap₂, ◌∙◌, subst, arith, take_all}
use Rattle.ro_plain.specs.Machine.{Program, opening, run}
use Rattle.std.proofs.lemmas.Option.{slice_get_within}
use Rattle.ro_plain.proofs.Calls.{some-injective, slice_get-append}
use Rattle.ro_journal.specs.declared.Entry.{Entry}
use Rattle.ro_settings.specs.declared.Mode.{Mode}
use Rattle.ro_plans.specs.declared.walk.Stretch.{Stretch}
use Rattle.ro_plans.specs.Plans.{plan_in}
use Rattle.ro_plans.specs.Walks.{Adds, stretch_steps}
use Rattle.ro_plans.proofs.Prefixes.{plan-begins}
use Rattle.ro_races.specs.declared.checking.Checker.{Checker}
use Rattle.ro_races.specs.declared.found.Found.{Found}
use Rattle.ro_races.specs.declared.found.Found.TheVariants.{NoRace, Pair}
use Rattle.ro_races.specs.declared.sources.Source.{Source}
use Rattle.ro_races.specs.declared.sources.Source.TheVariants.{Thread, Mutex, Exit, Word}
use Rattle.ro_races.specs.declared.sources.Row.{Row}
use Rattle.ro_races.specs.declared.marks.Clock.{Clock}
use Rattle.ro_races.specs.declared.atomics.Atomics.{Atomics}
use Rattle.ro_races.specs.Seen.{known_in}
use Rattle.ro_races.specs.Shadows.{marks_at, reads_of, writes_of}
use Rattle.ro_races.proofs.Tables.{no-marks}
use Rattle.ro_plain.specs.Order.{accesses_at}
use Rattle.ro_races.specs.Clocks.{Clock as ClockOf}
use Rattle.ro_races.specs.Follows.{MarkedBy, reads_plainly, writes_plainly, reads_as_one, writes_as_one, Follows, StandsAt, Checks, IsFound, IsFoundIn}
use Rattle.ro_machine.specs.Seen.{machine_of}

same-replicated : (n i x : ℕ) → i < n → slice_get (replicate n x) i ≡ Some x
same-replicated zero i x h = absurd (omega arith)
same-replicated (suc n) zero x h = refl
same-replicated (suc n) (suc i) x h = same-replicated n i x (omega arith)

pub length-replicated : (n x : ℕ) → length (replicate n x) ≡ n
length-replicated zero x = refl
length-replicated (suc n) x = ap suc (length-replicated n x)

slice_get-after : (p q : List ℕ) (i x : ℕ) → slice_get q i ≡ Some x → slice_get (p ++ q) (length p + i) ≡ Some x
slice_get-after [] q i x h = ap (slice_get q) (let e : 0 + i ≡ i = omega arith in e) ∙ h
slice_get-after (y ∷ p) q i x h = ap (slice_get (y ∷ (p ++ q))) (let e : suc (length p) + i ≡ suc (length p + i) = omega arith in e) ∙ slice_get-after p q i x h

pub stands-step : (threads : List ℕ) (s n done t now : ℕ) → done < n → StandsAt threads s (replicate n t) → now ≡ s + done → slice_get threads now ≡ Some t
stands-step threads s n done t now less h e = ap (slice_get threads) e ∙ h done t (same-replicated n done t less)

pub stands-rest : (threads : List ℕ) (s n done t now : ℕ) → done ≤ n → StandsAt threads s (replicate n t) → now ≡ s + done → StandsAt threads now (replicate (n - done) t)
stands-rest threads s n done t now few h e i x f =
    let less : i < n - done = (let a = slice_get_within (replicate (n - done) t) i x f in let b = length-replicated (n - done) t in omega (arith, a, b)) in
    let same : x ≡ t = some-injective (sym f ∙ same-replicated (n - done) i t less) in
    ap (slice_get threads) (let g : now + i ≡ s + (done + i) = omega (arith, e) in g) ∙ (h (done + i) t (same-replicated n (done + i) t (omega (arith, few, less))) ∙ ap Some (sym same))

pub stands-left : (threads : List ℕ) (s : ℕ) (p q : List ℕ) → StandsAt threads s (p ++ q) → StandsAt threads s p
stands-left threads s p q h i x e = h i x (slice_get-append p q i x e)

pub stands-right : (threads : List ℕ) (s now : ℕ) (p q : List ℕ) → StandsAt threads s (p ++ q) → now ≡ s + length p → StandsAt threads now q
stands-right threads s now p q h same i x e = ap (slice_get threads) (let f : now + i ≡ s + (length p + i) = omega arith in f) ∙ h (length p + i) x (slice_get-after p q i x e)

-- what an entry adds
pub stands-told : (threads : List ℕ) (mode : Mode) (journal : List Entry) (i : ℕ) (told : Option Stretch) (s now : ℕ) → Adds mode journal i told → StandsAt threads s (plan_in mode journal) → now ≡ s + length (plan_in mode (take i journal)) → StandsAt threads now (stretch_steps told)
stands-told threads mode journal i told s now adds h e =
    let whole = plan-begins mode journal (i + 1) in
    let front : StandsAt threads s (plan_in mode (take (i + 1) journal)) = stands-left threads s (plan_in mode (take (i + 1) journal)) whole.rest (subst (StandsAt threads s) whole.is h) in
    stands-right threads s now (plan_in mode (take i journal)) (stretch_steps told) (subst (StandsAt threads s) adds front) e

-- the whole run stands at its start
pub stands-whole : (threads : List ℕ) → StandsAt threads 0 threads
stands-whole threads i x h = ap (slice_get threads) (let e : 0 + i ≡ i = omega arith in e) ∙ h

found-whole : (program : Program) (threads : List ℕ) (found : Found) → IsFoundIn program threads (length threads) found → IsFound program threads found
found-whole program threads NoRace h = λ i j byte race. let far = h i j byte race in let near = race.within in omega (arith, far, near)
found-whole program threads (Pair i j byte) h = h

pub checks-whole : (program : Program) (threads : List ℕ) (c : Checker) → Follows program threads c → c.steps ≡ length threads → Checks program threads c.found
checks-whole program threads c f e = record {
  runs = (_, ap (run program (opening program)) (sym (ap (λ (n : ℕ). take n threads) e ∙ take_all (length threads) threads (omega arith))) ∙ f.runs);
  found_is = found-whole program threads c.found (subst (λ (n : ℕ). IsFoundIn program threads n c.found) e f.found_is);
}

nothing-known : (source : Source) (u : ℕ) → known_in [] [] source u ≡ 0
nothing-known (Thread v) u = refl
nothing-known (Mutex mutex) u = refl
nothing-known (Exit v) u = refl
nothing-known (Word word) u = refl

known-nothing : (rows : List Row) (words : List (ℕ × Clock)) (source : Source) (u : ℕ) → rows ≡ [] → words ≡ [] → known_in rows words source u ≡ 0
known-nothing rows words source u e f = ap₂ (λ (r : List Row) (w : List (ℕ × Clock)). known_in r w source u) e f ∙ nothing-known source u

-- a checker that has taken no step
pub follows-begin : (program : Program) (threads : List ℕ) (c : Checker) → c.plain.program ≡ program → machine_of c.plain [] ≡ opening program → c.rows.items ≡ [] → c.words.entries ≡ []
    → ((byte thread : ℕ) → marks_at c.reads.items byte thread ≡ 0) → ((byte thread : ℕ) → marks_at c.writes.items byte thread ≡ 0) → c.atomics ≡ None → c.steps ≡ 0 → c.found ≡ NoRace → Follows program threads c
follows-begin program threads c same opens no_rows no_words no_reads no_writes no_atomics none nothing = record {
  output = [];
  same_program = same;
  runs = ap (λ (n : ℕ). run program (opening program) (take n threads)) none ∙ ap (λ m. Some m) (sym opens);
  short = omega (arith, none);
  knows = λ source place thread there.
      let zero_known : known_in c.rows.items c.words.entries source thread ≡ 0 = known-nothing c.rows.items c.words.entries source thread no_rows no_words in
      ((λ less. absurd (omega (arith, less, zero_known))), (λ past. absurd (let early = past.early in omega (arith, early, none))));
  reads_marked = λ byte. unmarked (λ place. reads_plainly (accesses_at program threads place) byte) (marks_at c.reads.items byte) (no_reads byte);
  writes_marked = λ byte. unmarked (λ place. writes_plainly (accesses_at program threads place) byte) (marks_at c.writes.items byte) (no_writes byte);
  words_read = λ byte. unmarked (λ place. reads_as_one (accesses_at program threads place) byte) (marks_at (reads_of c.atomics) byte) (λ thread. ap (λ (a : Option Atomics). marks_at (reads_of a) byte thread) no_atomics ∙ no-marks byte thread);
  words_written = λ byte. unmarked (λ place. writes_as_one (accesses_at program threads place) byte) (marks_at (writes_of c.atomics) byte) (λ thread. ap (λ (a : Option Atomics). marks_at (writes_of a) byte thread) no_atomics ∙ no-marks byte thread);
  found_is = subst (IsFoundIn program threads c.steps) (sym nothing) (λ i j byte race. omega (arith, none));
}
  where
    unmarked : (touch : ℕ → Bool) (clock : ClockOf) → ((thread : ℕ) → clock thread ≡ 0) → MarkedBy threads c.steps touch clock
    unmarked touch clock zeros = record { all = λ place thread less there touched. absurd (omega (arith, less, none)); only = λ thread. inl (zeros thread) }
