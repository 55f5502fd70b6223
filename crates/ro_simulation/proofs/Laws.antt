-- The laws beside the simulation theorem.
use Rattle.std.specs.Prelude.{◌≡◌, ◌≢◌, ◌⊎◌, ℕ, zero, suc, ◌<◌, ◌≤◌, Bool, true, false, ◌||◌, ◌==◌, IsTrue, List, [], ◌∷◌, ◌++◌, length, Some, None, slice_get}
use Rattle.std.specs.Option.{option_and_then}
use Rattle.std.proofs.Common.{refl, sym, ap, ◌∙◌, subst, arith, inl, inr}
use Rattle.std.proofs.lemmas.Bool.{true≢false, eq-eqb, cases_lt}
use Rattle.std.proofs.lemmas.Option.{option_and_then_some, slice_get_within}
use Rattle.ro_journal.specs.declared.Did.{Did}
use Rattle.ro_journal.specs.declared.How.{How}
use Rattle.ro_journal.specs.declared.How.TheVariants.{Exit, Trap, Deadlock, Limit, Differ, NoMajority, Sink}
use Rattle.ro_journal.specs.declared.Lease.{Lease}
use Rattle.ro_journal.specs.declared.Entry.{Entry}
use Rattle.ro_journal.specs.declared.Entry.TheVariants.{Put, Vote, Scrub}
use Rattle.ro_journal.specs.declared.losers.Lost.{Lost}
use Rattle.ro_journal.specs.declared.losers.Lost.TheVariants.{Nobody, One, Two}
use Rattle.ro_journal.specs.Losers.{numbers}
use Rattle.ro_journal.specs.Plan.{outcome_of}
use Rattle.ro_faults.specs.declared.Fault.{Fault}
use Rattle.ro_plain.specs.Machine.{Program, Machine, opening, step_by, next_of, steppable, step, run}
use Rattle.ro_plain.specs.Order.{RaceFree}
use Rattle.ro_plain.proofs.Calls.{some-injective, steppable-parts, step-opens}
use Rattle.ro_plain.proofs.Swap.{run-append}
use Rattle.ro_legal.proofs.Journals.{LegalFrom-parts}
use Rattle.ro_legal.proofs.Outcomes.{ended_is_outcome}
use Rattle.ro_legal.specs.Core.{Job, Core, opening_core}
use Rattle.ro_legal.specs.Legal.{MayEnd, due, alone, for_vote, for_free, for_scrub, after, Legal, MayPut, replay}
use Rattle.ro_legal.specs.Ideal.{IsAlike, AllAlikeBut, StaysApart}
use Rattle.ro_legal.specs.Sound.{Listed, IsOver}
use Rattle.ro_vote.specs.Numbers.{is_among, without}
use Rattle.ro_vote.proofs.Places.{without-shorter, without-other, only, not-only, is-only}
use Rattle.ro_vote.proofs.Copies.{neither}
use Rattle.ro_simulation.specs.AtMostOne.{StrikesAlone}
use Rattle.ro_simulation.specs.Theorem.{Simulates, IsComplete, by_exit, by_trap, by_deadlock, WritesAsIdeal, AllOfOne, NamesFew, StaysAlone, NeverDiffers}
use Rattle.ro_simulation.proofs.Alike.{agrees-is-alike}
use Rattle.ro_legal.proofs.Ordered.{put-parts, ordered}
use Rattle.ro_legal.proofs.Sound.{HasFault}
use Rattle.ro_plain.proofs.StaysAfter.{live-within}
use Rattle.ro_simulation.proofs.Entries.{put-fault, put-going}
use Rattle.ro_simulation.proofs.Ends.{never-differ, never-differ-still}
use Rattle.ro_simulation.proofs.Scrubs.{going as going-still, after-scrub}
use Rattle.ro_simulation.proofs.Votes.{after-vote}
use Rattle.ro_simulation.proofs.Journals.{after-end-ended, Reached, Policy, Stage, goes_on, has_ended, Before, reach-before}
use Rattle.ro_simulation.proofs.Simulates.{stage}

-- ---- the headline

-- a complete end is no failing sink
complete-no-sink : (how : How) → IsComplete how → (bytes : ℕ) → how ≢ Sink bytes
complete-no-sink (Exit status) by_exit bytes e = let f : Exit status ≡ Sink bytes = e in cc
complete-no-sink (Trap code) by_trap bytes e = let f : Trap code ≡ Sink bytes = e in cc
complete-no-sink Deadlock by_deadlock bytes e = let f : Deadlock ≡ Sink bytes = e in cc
complete-no-sink (Limit steps next) h bytes e = elim h [ ]
complete-no-sink Differ h bytes e = elim h [ ]
complete-no-sink NoMajority h bytes e = elim h [ ]
complete-no-sink (Sink other) h bytes e = elim h [ ]

-- the headline, from the theorem
pub writes-as-ideal : (job : Job) (journal : List Entry) → Simulates job journal → WritesAsIdeal job journal
writes-as-ideal job journal s = record {
  machine = s.machine;
  ideal_is = s.ideal_is;
  front = s.written.front;
  complete = λ how e whole. (s.written.all_left (λ bytes f. complete-no-sink how whole bytes (some-injective (sym e ∙ f))), s.ends_as how e);
}

-- ---- few struck replicas

module _ (job : Job) (journal : List Entry) (names : NamesFew job) where
  -- a fault that strikes is one of the named replicas'
  one-of-named : (replica : ℕ) → HasFault job replica → is_among names.named replica ≡ true
  one-of-named replica f = ap (is_among names.named) (sym f.1) ∙ names.all f.0 f.2

  -- the named replicas are the odd ones throughout
  pub named-policy : Policy job (λ before odds. odds ≡ names.named) journal
  named-policy = record {
    strikes = λ odds before rest q lease count hit whole core reached may some. record {
      odds = names.named;
      allows = refl;
      few = names.few;
      is_odd = one-of-named lease.replica (put-fault job odds before core reached.holds lease count hit may some);
      others = λ number r d e. reached.holds.others_agree (put-going job odds before core reached.holds lease count hit may).0 number r (ap (λ (l : List ℕ). is_among l number) q ∙ d) e;
    };
    calm = λ odds before entry calm q. q;
    scrubbed = λ odds before won lost q few. record { odds = odds; allows = q; few = few };
  }

  -- where a fault strikes, all but the named replicas are alike
  pub at-strike : RaceFree job.program → Legal job journal → (before rest : List Entry) (lease : Lease) (count hit : ℕ) →
      journal ≡ before ++ Put lease count hit ∷ rest → 0 < hit → IsTrue (is_among names.named lease.replica) × AllAlikeBut job before names.named
  at-strike free legal before rest lease count hit whole some = at
      (reach-before job free (λ before odds. odds ≡ names.named) journal named-policy names.named names.few refl legal before rest (Put lease count hit) whole)
    where
      at : Before job free (λ before odds. odds ≡ names.named) journal named-policy before (Put lease count hit) → IsTrue (is_among names.named lease.replica) × AllAlikeBut job before names.named
      at h =
          let going = (put-going job h.odds before (replay job before) h.reached.holds lease count hit h.allowed).0 in (
            one-of-named lease.replica (put-fault job h.odds before (replay job before) h.reached.holds lease count hit h.allowed some),
            λ number r d there. agrees-is-alike job before h.reached.holds.machine r h.reached.holds.ideal_is going
                (h.reached.holds.others_agree going number r (ap (λ (l : List ℕ). is_among l number) h.allows ∙ d) there),
          )

  -- so faults stay apart
  pub few-struck-apart : RaceFree job.program → Legal job journal → StaysApart job journal
  few-struck-apart free legal before rest lease count hit whole some =
      let s = at-strike free legal before rest lease count hit whole some in
      let short = without-shorter lease.replica names.named s.0 in
      record {
        others = without lease.replica names.named;
        few = let f = names.few in omega arith;
        alike = λ number r d there.
            let p = neither (lease.replica == number) (is_among (without lease.replica names.named) number) d in
            s.1 number r (without-other lease.replica names.named number p.1 (λ e. true≢false (sym (eq-eqb lease.replica number e) ∙ p.0))) there;
      }

-- ---- one struck replica

-- the replica that a fault list names, if it names one
named : List Fault → ℕ
named [] = 0
named (fault ∷ faults) = fault.replica

-- each fault of the list names that replica
named-all : (faults : List Fault) → AllOfOne faults → (fault : Fault) → Listed faults fault → fault.replica ≡ named faults
unfolding named
named-all [] one fault e = absurd (let f : None ≡ Some fault = e.1 in cc)
named-all (first ∷ faults) one fault e = one fault first e (0, refl)

-- one replica is at most half of two or more
pub one-is-few : (job : Job) → 2 ≤ job.settings.replicas → AllOfOne job.faults → NamesFew job
one-is-few job two one = record {
  named = named job.faults ∷ [];
  few = omega arith;
  all = λ fault e. only (named job.faults) fault.replica (sym (named-all job.faults one fault e));
}

-- faults of one replica stay apart
pub one-struck-apart : (job : Job) (journal : List Entry) → 2 ≤ job.settings.replicas → RaceFree job.program → AllOfOne job.faults → Legal job journal → StaysApart job journal
one-struck-apart job journal two free one legal = few-struck-apart job journal (one-is-few job two one) free legal

-- a replica that is struck is there
struck-there : (job : Job) (journal : List Entry) → Legal job journal → (before rest : List Entry) (lease : Lease) (count hit : ℕ) →
    journal ≡ before ++ Put lease count hit ∷ rest → lease.replica < length (replay job before).replicas
struck-there job journal legal before rest lease count hit whole =
    let parts = LegalFrom-parts job (opening_core job) before (Put lease count hit ∷ rest) (subst (Legal job) whole legal) in
    let may : MayPut job (replay job before) lease count hit = parts.1.0 in
    let p = put-parts job (replay job before) lease count may.returns.ran may.returns.runs in
    slice_get_within (replay job before).replicas lease.replica p.lent p.there

-- they strike it while every other is alike, however many replicas there are
pub one-struck-alone : (job : Job) (journal : List Entry) → RaceFree job.program → AllOfOne job.faults → Legal job journal → StrikesAlone job journal
unfolding one-is-few
one-struck-alone job journal free one legal before rest lease count hit whole some other r d there = by (cases_lt job.settings.replicas 2)
  where
    by : (job.settings.replicas < 2) ⊎ (2 ≤ job.settings.replicas) → IsAlike job before r
    by (inr two) =
        let s = at-strike job journal (one-is-few job two one) free legal before rest lease count hit whole some in
        let same = is-only (named job.faults) lease.replica s.0 in
        s.1 other r (not-only (named job.faults) other (λ e. d (sym e ∙ same))) there
    by (inl few) =
        let parts = LegalFrom-parts job (opening_core job) before (Put lease count hit ∷ rest) (subst (Legal job) whole legal) in
        let many = (ordered job before parts.0).replica_count in
        let struck = struck-there job journal legal before rest lease count hit whole in
        let within = slice_get_within (replay job before).replicas other r there in
        absurd (d (let a : other ≡ 0 = omega arith in let b : lease.replica ≡ 0 = omega arith in a ∙ sym b))

-- ---- no fault

-- an empty list has no fault
nothing-listed : (job : Job) → job.faults ≡ [] → (fault : Fault) → Listed job.faults fault → ⊥
nothing-listed job none fault e = let f : None ≡ Some fault = ap (λ (fs : List Fault). slice_get fs e.0) (sym none) ∙ e.1 in cc

-- so it names no replica
abbrev none-listed : (job : Job) → job.faults ≡ [] → NamesFew job
none-listed job none = record {
  named = [];
  few = omega arith;
  all = λ fault e. absurd (nothing-listed job none fault e);
}

module _ (job : Job) (journal : List Entry) (free : RaceFree job.program) (none : job.faults ≡ []) (legal : Legal job journal) where
  -- a list without a number is of nobody
  nobody : (lost : Lost) → ((l : ℕ) → is_among (numbers lost) l ≡ true → ⊥) → lost ≡ Nobody
  nobody Nobody none = refl
  nobody (One l) none = absurd (none l (ap (λ (b : Bool). b || false) (eq-eqb l l refl)))
  nobody (Two l m) none = absurd (none l (ap (λ (b : Bool). b || is_among (m ∷ []) l) (eq-eqb l l refl)))

  -- no replica is odd, so none loses
  no-loser : (before rest : List Entry) (thread count won : ℕ) (lost : Lost) (did : Did) → journal ≡ before ++ Vote thread count won lost did ∷ rest → lost ≡ Nobody
  no-loser before rest thread count won lost did whole = at
      (reach-before job free (λ before odds. odds ≡ []) journal (named-policy job journal (none-listed job none)) [] (omega arith) refl legal before rest (Vote thread count won lost did) whole)
    where
      at : Before job free (λ before odds. odds ≡ []) journal (named-policy job journal (none-listed job none)) before (Vote thread count won lost did) → lost ≡ Nobody
      at h = nobody lost (λ l k.
          let odd = (after-vote job free h.odds before (replay job before) h.reached.holds thread count won did lost h.allowed).losers_odd l k in
          true≢false (sym odd ∙ ap (λ (o : List ℕ). is_among o l) h.allows))

  -- nor does one lose a scrub
  no-scrub-loser : (before rest : List Entry) (won : ℕ) (lost : Lost) → journal ≡ before ++ Scrub won lost ∷ rest → lost ≡ Nobody
  no-scrub-loser before rest won lost whole = at
      (reach-before job free (λ before odds. odds ≡ []) journal (named-policy job journal (none-listed job none)) [] (omega arith) refl legal before rest (Scrub won lost) whole)
    where
      at : Before job free (λ before odds. odds ≡ []) journal (named-policy job journal (none-listed job none)) before (Scrub won lost) → lost ≡ Nobody
      at h = nobody lost (λ l k.
          let scrub = after-scrub job free h.odds before (replay job before) h.reached.holds won lost h.allowed in
          let there = scrub.loser_there l k in
          scrub.losers_differed l there.0 k there.1
          (h.reached.holds.others_agree (going-still job h.odds before (replay job before) h.reached.holds h.allowed.may) l there.0 (ap (λ (o : List ℕ). is_among o l) h.allows) there.1))

  -- two replicas that both agree do not end by a difference
  cannot-differ : (odds : List ℕ) → odds ≡ [] → (before : List Entry) (core : Core) → Reached job odds before core → MayEnd job core Differ → ⊥
  cannot-differ odds even before core reached (due e) =
      over-differ (reached.holds.ends_well Differ (sym reached.holds.same_end ∙ e))
    where
      over-differ : IsOver Differ → ⊥
      over-differ h = elim h [ ]
  cannot-differ odds even before core reached (alone e) = e
  cannot-differ odds even before core reached (for_vote t may e) = never-differ job odds before core reached.holds free even t may e.0 e.1
  cannot-differ odds even before core reached (for_free t may e) = e
  cannot-differ odds even before core reached (for_scrub may e) = never-differ-still job odds before core reached.holds free even may e.0 e.1

  -- without faults no journal ends by a difference
  no-differ : outcome_of journal ≢ Some Differ
  no-differ e = by (stage job free (λ before odds. odds ≡ []) journal (named-policy job journal (none-listed job none)) [] (omega arith) refl legal)
    where
      ended : (replay job journal).ended ≡ Some Differ
      ended = ended_is_outcome job journal legal ∙ e

      by : Stage job (λ before odds. odds ≡ []) journal (replay job journal) → ⊥
      by (goes_on odds q reached) = let f : None ≡ Some Differ = sym reached.holds.not_ended ∙ ended in cc
      by (has_ended before how odds last q same reached may last_is) =
          let how_is : how ≡ Differ = some-injective (sym (ap (λ (c : Core). c.ended) last_is ∙ after-end-ended job last how) ∙ ended) in
          cannot-differ odds q before last reached (subst (MayEnd job last) how_is may)

  -- no fault, no difference
  pub never-differs : NeverDiffers journal
  never-differs = record {
    no_loser = no-loser;
    no_scrub_loser = no-scrub-loser;
    no_end = no-differ;
  }

-- ---- one thread

-- a thread that steps was made
step-live : (program : Program) (machine : Machine) (x : ℕ) (after : Machine) → step program machine x ≡ Some after → x < length machine.kernel.lives
step-live program machine x after e =
    option_and_then_some (λ cpu. step_by program machine x cpu (next_of program machine cpu)) (steppable machine x) after (step-opens program machine x after e)
    (λ cpu live by_x. live-within machine.kernel.lives x (steppable-parts machine x cpu live).live)

module _ (program : Program) (alone_is : StaysAlone program) where
  -- each step is the first thread's
  all-first : (before rest : List ℕ) (machine end : Machine) → run program (opening program) before ≡ Some machine → run program machine rest ≡ Some end → (i : ℕ) → i < length rest → slice_get rest i ≡ Some 0
  all-first before [] machine end reached e i short = absurd (omega arith)
  all-first before (x ∷ rest) machine end reached e i short =
      option_and_then_some (λ m. run program m rest) (step program machine x) end e
      (λ after step_x later. first-cases x rest i short (let low = step-live program machine x after step_x in let one = alone_is before machine reached in omega arith)
      (all-first (before ++ x ∷ []) rest after end
      (run-append program (opening program) before (x ∷ []) ∙ (ap (option_and_then (λ m. run program m (x ∷ []))) reached ∙ ap (option_and_then (λ m. run program m [])) step_x)) later))
    where
      first-cases : (x : ℕ) (rest : List ℕ) (i : ℕ) → i < length (x ∷ rest) → x ≡ 0 → ((j : ℕ) → j < length rest → slice_get rest j ≡ Some 0) → slice_get (x ∷ rest) i ≡ Some 0
      first-cases x rest zero short first later = ap Some first
      first-cases x rest (suc i) short first later = later i (omega arith)

  -- a program of one thread has no races
  pub alone-race-free : RaceFree program
  alone-race-free threads runs i j byte low short different conflict =
      absurd (different (all-first [] threads (opening program) runs.0 refl runs.1 i (omega arith) ∙ sym (all-first [] threads (opening program) runs.0 refl runs.1 j short)))
