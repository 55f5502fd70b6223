-- What is listed is a corruption, and a journal with no other is as it was.
use Rattle.std.specs.Prelude.{◌≡◌, ℕ, zero, suc, ◌<◌, ◌⊎◌, Bool, true, false, cond, List, [], ◌∷◌, ◌++◌, length, Some, None, slice_get, IsSome}
use Rattle.std.proofs.Common.{refl, sym, ap, ◌∙◌, subst, arith, inl, inr}
use Rattle.std.proofs.lemmas.Bool.{eq-eqb}
use Rattle.ro_journal.specs.declared.Lease.{Lease}
use Rattle.ro_journal.specs.declared.Entry.{Entry}
use Rattle.ro_journal.specs.declared.Entry.TheVariants.{Take, Put, Part, Vote, Free, Scrub, End}
use Rattle.ro_exec.specs.Next.{Layout, Backed}
use Rattle.ro_replica.specs.Replica.{Replica}
use Rattle.ro_replica.specs.Runs.{RanTo, run_of, standing_at}
use Rattle.ro_plain.specs.Machine.{layout_in}
use Rattle.ro_plain.proofs.Calls.{some-injective}
use Rattle.ro_legal.specs.Core.{Job, Core, opening_core}
use Rattle.ro_legal.specs.Legal.{arrival, faulted, wanted_by, Returns, MayPut, MayPart, HasArrived}
use Rattle.ro_legal.specs.Sound.{IsSound}
use Rattle.ro_legal.specs.Ideal.{IsAlike, StrikesApart, StaysApart}
use Rattle.ro_legal.proofs.Sound.{run-well}
use Rattle.ro_legal.proofs.Leases.{put-is, part-is}
use Rattle.ro_legal.proofs.Ordered.{PutParts, put-parts}
use Rattle.ro_legal.specs.Upsets.{HasShape, Return, Moment, Comes, MayGive, ReturnsPut, ReturnsPart, corrupted_in, all_come, IsGiven}
use Rattle.ro_simulation.specs.Corruptions.{CorruptsApart, CorruptionsApart}
use Rattle.ro_simulation.proofs.Corruptions.{journal-comes, comes-core}

-- ---- what is listed

-- a run with its faults keeps the shape
pub shape-of-run : (job : Job) (core : Core) (backed : Backed) (number : ℕ) (layout : Layout) (count thread : ℕ) (old : Replica) (ran : RanTo) → run_of layout job.settings.watchdog count old thread ≡ Some ran → IsSound job core backed number old → HasShape job.settings.watchdog old ran.replica
shape-of-run job core backed number layout count thread old ran runs h =
    let own = record job { faults = old.waiting } in
    let kept = (run-well own core backed number layout count thread old ran runs
    (record { same_backed = h.same_backed; all_made = h.all_made; within_watch = h.within_watch; own_faults = λ fault e. ((h.own_faults fault e).0, e) })).sound in
    record {
      backed = kept.same_backed ∙ sym h.same_backed;
      made = kept.all_made ∙ sym h.all_made;
      watched = kept.within_watch;
      waiting = λ fault e. (kept.own_faults fault e).1;
    }

module _ (job : Job) (core : Core) (backed : Backed) (sound : (number : ℕ) (replica : Replica) → slice_get core.replicas number ≡ Some replica → IsSound job core backed number replica) (lease : Lease) (count hit : ℕ) where
  upsets-in : (returns : Returns job core lease count hit) (back : Return) → ReturnsPut job back ⊎ ReturnsPart job back → MayGive job core lease back returns.ran.replica
  upsets-in returns back so =
      let parts : PutParts job core lease count returns.ran = put-parts job core lease count returns.ran returns.runs in
      record {
        upsets = record {
          not_ended = returns.not_ended;
          old = parts.lent;
          there = parts.there;
          shape = shape-of-run job core backed lease.replica (layout_in job.program core.kernel) count lease.thread parts.lent returns.ran parts.runs (sound lease.replica parts.lent parts.there);
        };
        out = returns.out;
        so = so;
      }

  -- an allowed put, with strikes or without
  pub put-given : MayPut job core lease count hit → IsGiven job core (Put lease count hit) lease
  put-given may = record {
    back = back;
    now = may.returns.ran.replica;
    same_entry = refl;
    may = upsets-in may.returns back (inl (record { whole = refl; faults_at = refl; arrives = by may.arrives }));
    same = put-is job core lease count hit may;
  }
    where
      back : Return
      back = record { parts = false; count = count; hit = hit; stop = arrival job core.kernel lease.thread count may.returns.ran.replica; page = faulted (arrival job core.kernel lease.thread count may.returns.ran.replica) }

      by : HasArrived job core lease count may.returns.ran.replica → ((count ≡ job.settings.quantum) × (back.stop ≡ None)) ⊎ ((count < job.settings.quantum) × IsSome back.stop)
      by (inl e) = inl (e, ap (λ (b : Bool). cond b None (standing_at (layout_in job.program core.kernel) job.settings.watchdog may.returns.ran.replica lease.thread)) (eq-eqb count job.settings.quantum e))
      by (inr p) = inr (p.0, p.1)

  -- an allowed part
  pub part-given : MayPart job core lease count hit → IsGiven job core (Part lease count hit) lease
  part-given may = record {
    back = record { parts = true; count = count; hit = hit; stop = None; page = wanted_by job core lease may.returns.ran.replica };
    now = may.returns.ran.replica;
    same_entry = refl;
    may = upsets-in may.returns _ (inr (record { parted = refl; early = may.early; unstopped = refl; wants = may.wants }));
    same = part-is job core lease count hit may;
  }

-- ---- a journal with no other corruption

-- the entry of a moment, and those before it
pub record Splits (journal : List Entry) (before : List Moment) (moment : Moment) : Type 0 where
  pub entry : Entry
  pub left : List Entry
  pub right : List Entry
  pub moment_is : moment ≡ Comes entry
  pub before_is : before ≡ all_come left
  pub whole : journal ≡ left ++ entry ∷ right

first-or : Moment → List Moment → Moment
first-or m [] = m
first-or m (x ∷ xs) = x

rest-of : List Moment → List Moment
rest-of [] = []
rest-of (x ∷ xs) = xs

splits : (journal : List Entry) (before rest : List Moment) (moment : Moment) → all_come journal ≡ before ++ moment ∷ rest → Splits journal before moment
unfolding first-or rest-of
splits [] [] rest moment e = absurd (let f : 0 ≡ suc (length rest) = ap length e in omega arith)
splits [] (x ∷ before) rest moment e = absurd (let f : 0 ≡ suc (length (before ++ moment ∷ rest)) = ap length e in omega arith)
splits (entry ∷ journal) [] rest moment e = record {
  entry = entry;
  left = [];
  right = journal;
  moment_is = sym (ap (first-or moment) e);
  before_is = refl;
  whole = refl;
}
splits (entry ∷ journal) (x ∷ before) rest moment e =
    let s = splits journal before rest moment (ap rest-of e) in
    record {
      entry = s.entry;
      left = entry ∷ s.left;
      right = s.right;
      moment_is = s.moment_is;
      before_is = ap (λ (m : Moment). m ∷ before) (sym (ap (first-or x) e)) ∙ ap (λ (ms : List Moment). Comes entry ∷ ms) s.before_is;
      whole = ap (λ (j : List Entry). entry ∷ j) s.whole;
    }

module _ (job : Job) (journal : List Entry) (apart : StaysApart job journal) where
  at : (left : List Entry) (wrong : ℕ) → StrikesApart job left wrong → CorruptsApart job (all_come left) wrong
  at left wrong s = record {
    others = s.others;
    few = s.few;
    alike = λ n r d e.
        subst (λ (j : List Entry). IsAlike job j r) (sym (journal-comes left))
        (s.alike n r d (ap (λ (c : Core). slice_get c.replicas n) (sym (comes-core job (opening_core job) left)) ∙ e));
  }

  strikes : (left right : List Entry) (entry : Entry) (wrong : ℕ) → journal ≡ left ++ entry ∷ right → corrupted_in (Comes entry) ≡ Some wrong → StrikesApart job left wrong
  strikes left right (Put lease count (suc hit)) wrong whole is = subst (StrikesApart job left) (some-injective is) (apart left right lease count (suc hit) whole (omega arith))
  strikes left right (Put lease count zero) wrong whole is = absurd (let f : None ≡ Some wrong = is in cc)
  strikes left right (Take lease) wrong whole is = absurd (let f : None ≡ Some wrong = is in cc)
  strikes left right (Part lease count hit) wrong whole is = absurd (let f : None ≡ Some wrong = is in cc)
  strikes left right (Vote thread count won lost did) wrong whole is = absurd (let f : None ≡ Some wrong = is in cc)
  strikes left right (Free thread) wrong whole is = absurd (let f : None ≡ Some wrong = is in cc)
  strikes left right (Scrub won lost) wrong whole is = absurd (let f : None ≡ Some wrong = is in cc)
  strikes left right (End how) wrong whole is = absurd (let f : None ≡ Some wrong = is in cc)

  -- listed faults that stay apart are corruptions that do
  pub listed-apart : CorruptionsApart job (all_come journal)
  listed-apart before rest moment wrong whole is due =
      let s = splits journal before rest moment whole in
      subst (λ (ms : List Moment). CorruptsApart job ms wrong) (sym s.before_is)
      (at s.left wrong (strikes s.left s.right s.entry wrong s.whole (ap corrupted_in (sym s.moment_is) ∙ is)))
