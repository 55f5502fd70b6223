-- The run of a lease of some pages: it is one of the whole replica, and leaves all else of that as it was.
use Rattle.std.specs.Prelude.{◌≡◌, ◌≢◌, ◌≤◌, ℕ, ◌+◌, Bool, true, false, not, cond, ◌&&◌, ◌==◌, nat_le, List, [], ◌∷◌, Option, Some, None, slice_get, slice_set}
use Rattle.std.specs.List.{filter, list_any}
use Rattle.std.specs.Option.{option_and_then, option_map}
use Rattle.std.proofs.Common.{refl, sym, ap, ◌∙◌, subst, arith}
use Rattle.std.proofs.lemmas.Bool.{true≢false, and_parts, and_from, or_parts, le-leb, eqb-true}
use Rattle.ro_faults.specs.declared.Fault.{Fault}
use Rattle.ro_pages.specs.Directories.{is_listed}
use Rattle.ro_exec.specs.Next.{Layout, Backed}
use Rattle.ro_exec.specs.Parts.{IsMore}
use Rattle.ro_thread.specs.declared.Thread.{Thread}
use Rattle.ro_thread.specs.Runs.{Running, instructions}
use Rattle.ro_thread.proofs.Parts.{running, run-more, Keeps, run-keeps}
use Rattle.ro_replica.specs.Replica.{Replica}
use Rattle.ro_replica.specs.Runs.{RanTo, is_due, run_of}
use Rattle.ro_replica.proofs.Elements.{get_set, get_set_other}
use Rattle.ro_replica.proofs.Strikes.{NoneDue, struck_none}
use Rattle.ro_replica.proofs.Segments.{placed, run_of_instructions}
use Rattle.ro_replica.proofs.Counted.{instructions_done}
use Rattle.ro_plain.proofs.Calls.{some-injective}
use Rattle.ro_legal.specs.Parts.{Lent, Whole, Pages, seen_pages, is_calm, ran_to, calm_run, run_with}

-- what is lent is backed
pub seen-backed : (lent : Lent) (backed : Backed) → IsMore (seen_pages lent backed) backed
seen-backed Whole backed = record { keeps = λ page e. e }
seen-backed (Pages pages) backed = record { keeps = λ page e. (and_parts (is_listed pages page) (backed page) e).1 }

-- none of the faults is due within so many instructions
calm-none : (number first count k : ℕ) → k ≤ count → (faults : List Fault)
    → list_any (λ fault. (fault.thread == number) && (nat_le first fault.at && nat_le fault.at (first + count))) faults ≡ false
    → filter (is_due number (first + k)) faults ≡ []
calm-none number first count k within [] e = refl
calm-none number first count k within (fault ∷ faults) e =
    let parts = or_parts ((fault.thread == number) && (nat_le first fault.at && nat_le fault.at (first + count))) _ e in
    by (is_due number (first + k) fault) refl parts.0 (calm-none number first count k within faults parts.1)
  where
    passed : is_due number (first + k) fault ≡ true → ((fault.thread == number) && (nat_le first fault.at && nat_le fault.at (first + count))) ≡ true
    passed due =
        let p = and_parts (fault.thread == number) (fault.at == (first + k)) due in
        let at : fault.at ≡ first + k = eqb-true fault.at (first + k) p.1 in
        and_from _ _ p.0 (and_from _ _ (le-leb first fault.at (omega arith)) (le-leb fault.at (first + count) (omega arith)))

    by : (b : Bool) → is_due number (first + k) fault ≡ b → ((fault.thread == number) && (nat_le first fault.at && nat_le fault.at (first + count))) ≡ false
        → filter (is_due number (first + k)) faults ≡ [] → cond b (fault ∷ filter (is_due number (first + k)) faults) (filter (is_due number (first + k)) faults) ≡ []
    by true is none rest = absurd (true≢false (sym (passed is) ∙ none))
    by false is none rest = rest

pub calm-due : (count number : ℕ) (replica : Replica) (thread : Thread) → is_calm count number replica thread ≡ true → (k : ℕ) → k ≤ count → NoneDue number (thread.done + k) replica
calm-due count number replica thread e k within = calm-none number thread.done count k within replica.waiting (unnot _ e)
  where
    unnot : (b : Bool) → not b ≡ true → b ≡ false
    unnot true f = absurd (true≢false (sym f))
    unnot false f = refl

-- the thread, its calm run, and what that came to
pub record CalmRun (layout : Layout) (watchdog : ℕ) (pages : List ℕ) (count number : ℕ) (replica : Replica) (ran : RanTo) : Type 0 where
  pub thread : Thread
  pub there : slice_get replica.threads number ≡ Some thread
  pub calm : is_calm count number replica thread ≡ true
  pub end : Running
  pub runs : instructions layout watchdog (seen_pages (Pages pages) replica.backed) count (running thread replica.memory) ≡ Some end
  pub ran_is : ran_to number replica end ≡ ran

pub calm-run : (layout : Layout) (watchdog : ℕ) (pages : List ℕ) (count number : ℕ) (replica : Replica) (ran : RanTo) → run_with layout watchdog (Pages pages) count replica number ≡ Some ran → CalmRun layout watchdog pages count number replica ran
calm-run layout watchdog pages count number replica ran e = by (slice_get replica.threads number) refl e
  where
    ends : (thread : Thread) → slice_get replica.threads number ≡ Some thread → is_calm count number replica thread ≡ true → (o : Option Running) → instructions layout watchdog (seen_pages (Pages pages) replica.backed) count (running thread replica.memory) ≡ o
        → option_map (ran_to number replica) o ≡ Some ran → CalmRun layout watchdog pages count number replica ran
    ends thread there calm None f g = absurd (let x : None ≡ Some ran = g in cc)
    ends thread there calm (Some end) f g = record { thread = thread; there = there; calm = calm; end = end; runs = f; ran_is = some-injective g }

    goes : (thread : Thread) → slice_get replica.threads number ≡ Some thread → (b : Bool) → is_calm count number replica thread ≡ b
        → cond b (option_map (ran_to number replica) (instructions layout watchdog (seen_pages (Pages pages) replica.backed) count (running thread replica.memory))) None ≡ Some ran → CalmRun layout watchdog pages count number replica ran
    goes thread there true calm f = ends thread there calm (instructions layout watchdog (seen_pages (Pages pages) replica.backed) count (running thread replica.memory)) refl f
    goes thread there false calm f = absurd (let x : None ≡ Some ran = f in cc)

    by : (o : Option Thread) → slice_get replica.threads number ≡ o → option_and_then (calm_run layout watchdog (seen_pages (Pages pages) replica.backed) count number replica) o ≡ Some ran → CalmRun layout watchdog pages count number replica ran
    by None f g = absurd (let x : None ≡ Some ran = g in cc)
    by (Some thread) f g = goes thread f (is_calm count number replica thread) refl g

-- it is a run of the replica
calm-is-run : (layout : Layout) (watchdog : ℕ) (pages : List ℕ) (count number : ℕ) (replica : Replica) (ran : RanTo) → CalmRun layout watchdog pages count number replica ran → run_of layout watchdog count replica number ≡ Some ran
calm-is-run layout watchdog pages count number replica ran c =
    let whole = run-more layout watchdog (seen_pages (Pages pages) replica.backed) replica.backed (seen-backed (Pages pages) replica.backed) count (running c.thread replica.memory) c.end c.runs in
    let done : c.end.thread.done ≡ c.thread.done + count = instructions_done layout watchdog replica.backed count (running c.thread replica.memory) c.end whole in
    let there_now : slice_get (slice_set replica.threads number c.end.thread) number ≡ Some c.end.thread = get_set replica.threads number c.thread c.end.thread c.there in
    let none : NoneDue number c.end.thread.done replica = subst (λ (n : ℕ). NoneDue number n replica) (sym done) (calm-due count number replica c.thread c.calm count (omega arith)) in
    ap (λ (n : ℕ). run_of layout watchdog n replica number) (let z : count ≡ count + 0 = omega arith in z)
    ∙ run_of_instructions layout watchdog count 0 replica number c.thread c.end c.there (λ k early. calm-due count number replica c.thread c.calm k (omega arith)) whole
    ∙ ap Some (struck_none layout.ranges (placed replica number c.end) number c.end.thread.done (ap (option_map (λ (x : Thread). x.done)) there_now) none)
    ∙ ap Some c.ran_is

pub run-with-is-run : (layout : Layout) (watchdog : ℕ) (lent : Lent) (count : ℕ) (replica : Replica) (number : ℕ) (ran : RanTo) → run_with layout watchdog lent count replica number ≡ Some ran → run_of layout watchdog count replica number ≡ Some ran
run-with-is-run layout watchdog Whole count replica number ran e = e
run-with-is-run layout watchdog (Pages pages) count replica number ran e =
    calm-is-run layout watchdog pages count number replica ran (calm-run layout watchdog pages count number replica ran e)

-- and nothing is struck in it
pub pages-run : (layout : Layout) (watchdog : ℕ) (pages : List ℕ) (count number : ℕ) (replica : Replica) (ran : RanTo) → run_with layout watchdog (Pages pages) count replica number ≡ Some ran → (run_of layout watchdog count replica number ≡ Some ran) × (ran.hit ≡ 0)
pages-run layout watchdog pages count number replica ran e =
    let c = calm-run layout watchdog pages count number replica ran e in
    (calm-is-run layout watchdog pages count number replica ran c, ap (λ (r : RanTo). r.hit) (sym c.ran_is))

-- what it leaves as it was
pub record LeavesRest (layout : Layout) (pages : List ℕ) (number : ℕ) (old new : Replica) : Type 0 where
  pub backed : new.backed ≡ old.backed
  pub waiting : new.waiting ≡ old.waiting
  pub others : (other : ℕ) → number ≢ other → slice_get new.threads other ≡ slice_get old.threads other
  pub bytes : Keeps layout (seen_pages (Pages pages) old.backed) old.memory new.memory

pub leaves-rest : (layout : Layout) (watchdog : ℕ) (pages : List ℕ) (count number : ℕ) (replica : Replica) (ran : RanTo) → run_with layout watchdog (Pages pages) count replica number ≡ Some ran → LeavesRest layout pages number replica ran.replica
leaves-rest layout watchdog pages count number replica ran e =
    let c = calm-run layout watchdog pages count number replica ran e in
    subst (λ (r : RanTo). LeavesRest layout pages number replica r.replica) c.ran_is (record {
      backed = refl;
      waiting = refl;
      others = λ other apart. get_set_other replica.threads number other c.end.thread apart;
      bytes = run-keeps layout watchdog (seen_pages (Pages pages) replica.backed) count (running c.thread replica.memory) c.end c.runs;
    })
