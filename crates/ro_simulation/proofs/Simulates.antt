-- The simulation theorem, from the invariant along the journal.
use Rattle.std.specs.Prelude.{◌≡◌, ◌≢◌, ℕ, Bool, false, ◌||◌, ◌+◌, ◌-◌, IsTrue, List, [], ◌∷◌, ◌++◌, length, drop, Some, None, slice_get}
use Rattle.std.proofs.Common.{refl, sym, ap, ◌∙◌, subst, arith, append-nil}
use Rattle.std.proofs.lemmas.List.{take-append-drop}
use Rattle.ro_journal.specs.declared.How.{How}
use Rattle.ro_journal.specs.declared.How.TheVariants.{Exit, Trap, Deadlock, Limit, Differ, NoMajority, Sink}
use Rattle.ro_journal.specs.declared.Entry.{Entry}
use Rattle.ro_journal.specs.declared.Entry.TheVariants.{Vote, Scrub, End}
use Rattle.ro_journal.specs.Plan.{outcome_of, plan_of}
use Rattle.ro_kernel.specs.Kernel.{Kernel, lives_on, ranges_in}
use Rattle.ro_replica.specs.Replica.{Replica}
use Rattle.ro_replica.specs.Views.{view_of}
use Rattle.ro_plain.specs.Machine.{Machine, setup_of}
use Rattle.ro_plain.specs.Order.{RaceFree}
use Rattle.ro_plain.proofs.Calls.{some-injective}
use Rattle.ro_legal.proofs.Journals.{replay_from-append}
use Rattle.ro_legal.proofs.Outcomes.{ended_is_outcome}
use Rattle.ro_legal.specs.Core.{Job, Core, opening_core}
use Rattle.ro_legal.specs.Legal.{cut_output, after, MayVote, MayScrub, MayEnd, Legal, replay, output_of}
use Rattle.ro_legal.specs.Ideal.{ideal, IsAlike, StaysApart}
use Rattle.ro_vote.specs.Numbers.{is_among, without, AtMostHalf}
use Rattle.ro_journal.specs.Losers.{numbers}
use Rattle.ro_vote.proofs.Places.{without-itself}
use Rattle.std.proofs.lemmas.Bool.{eq-eqb}
use Rattle.ro_simulation.specs.Invariant.{Agrees, TracksIdeal}
use Rattle.ro_simulation.specs.Theorem.{payloads_of, IsFront, FewDiffer, GoesOn, AlikeAt, HaveEqualViews, HaveEqualPages, CopiesWell, EachCopiesWell, ScrubsWell, EachScrubsWell, EndsAs, Simulates, TwoThreeOrFive}
use Rattle.ro_simulation.proofs.Alike.{agrees-is-alike, alike-agrees}
use Rattle.ro_simulation.proofs.Views.{arrives, equal-views}
use Rattle.ro_simulation.proofs.Kept.{ideal-same}
use Rattle.ro_simulation.proofs.Votes.{stopped-in, vote-parts, AfterVote, after-vote}
use Rattle.ro_simulation.proofs.Scrubs.{going as going-still, scrub-replicas, AfterScrub, after-scrub}
use Rattle.ro_simulation.proofs.Ends.{end-as}
use Rattle.ro_simulation.proofs.Journals.{payloads-append, after-end-ended, Reached, opening-reached, Policy, Stage, goes_on, has_ended, reach, reach-before}

-- ---- what the invariant says of a journal with the same machine, replicas and kernel

-- a journal, and the part of it that leaves the same machine, replicas and kernel
pub record SameState (job : Job) (journal before : List Entry) (core : Core) : Type 0 where
  pub same_ideal : ideal job journal ≡ ideal job before
  pub same_replicas : (replay job journal).replicas ≡ core.replicas
  pub same_kernel : (replay job journal).kernel ≡ core.kernel

module _ (job : Job) (free : RaceFree job.program) (odds : List ℕ) (journal before : List Entry) (core : Core) (h : TracksIdeal job odds before core) (s : SameState job journal before core) where
  -- the ideal machine
  ideal_is : ideal job journal ≡ Some h.machine
  ideal_is = s.same_ideal ∙ h.ideal_is

  -- a replica of the journal is one of the core
  there-too : (number : ℕ) (r : Replica) → slice_get (replay job journal).replicas number ≡ Some r → slice_get core.replicas number ≡ Some r
  there-too number r e = ap (λ (rs : List Replica). slice_get rs number) (sym s.same_replicas) ∙ e

  -- at most half of the replicas differ
  pub few-differ : h.machine.ended ≡ None → FewDiffer job journal
  few-differ on = record {
    odds = odds;
    few = h.few;
    others_alike = λ number r d e. agrees-is-alike job journal h.machine r ideal_is on (h.others_agree on number r d (there-too number r e));
  }

  -- backed pages are equal
  pub equal-pages : HaveEqualPages job journal
  equal-pages i j one other e f = (h.sound i one (there-too i one e)).same_backed ∙ sym (h.sound j other (there-too j other f)).same_backed

  -- views are equal
  pub equal-views-of : HaveEqualViews job journal
  equal-views-of i j t one other e f alike alike' live stopped stopped' =
      let a = h.sound i one (there-too i one e) in
      let b = h.sound j other (there-too j other f) in
      let going : h.machine.ended ≡ None = ap (λ (m : Machine). m.ended) (some-injective (sym ideal_is ∙ alike.ideal_is)) ∙ alike.goes_on in
      let live_machine : IsTrue (lives_on h.machine.kernel t) = ap (λ (k : Kernel). lives_on k t) (sym (s.same_kernel ∙ h.same_kernel)) ∙ live in
      let at = stopped-in one t stopped in
      let at' = stopped-in other t stopped' in
      let agree = alike-agrees job journal h.machine one ideal_is alike in
      let agree' = alike-agrees job journal h.machine other ideal_is alike' in
      subst (λ (k : Kernel). view_of (ranges_in (setup_of job.program) k) t one ≡ view_of (ranges_in (setup_of job.program) k) t other) (sym (s.same_kernel ∙ h.same_kernel))
      (equal-views job free (plan_of before) h.machine h.ideal_is h.backed one other t at.thread at'.thread at.stop at'.stop
      (arrives job free (plan_of before) h.machine h.ideal_is going h.backed one a.same_backed agree.runs_ahead t at.thread at.stop live_machine at.there at.stopped (agree.stops t))
      (arrives job free (plan_of before) h.machine h.ideal_is going h.backed other b.same_backed agree'.runs_ahead t at'.thread at'.stop live_machine at'.there at'.stopped (agree'.stops t))
      (a.within_watch t at.thread at.there) (b.within_watch t at'.thread at'.there) at.there at.stopped at'.there at'.stopped)

-- ---- faults stay apart

-- the others are alike where faults are struck
pub apart-policy : (job : Job) (journal : List Entry) → StaysApart job journal → Policy job (λ before odds. Unit {0}) journal
apart-policy job journal apart = record {
  strikes = λ odds before rest q lease count hit whole core reached may some.
      let s = apart before rest lease count hit whole some in
      record {
        odds = lease.replica ∷ s.others;
        allows = tt;
        few = s.few;
        is_odd = ap (λ (b : Bool). b || is_among s.others lease.replica) (eq-eqb lease.replica lease.replica refl);
        others = λ number r d e. alike-agrees job before reached.holds.machine r reached.holds.ideal_is (s.alike number r d (ap (λ (c : Core). slice_get c.replicas number) reached.is_replay ∙ e));
      };
  calm = λ odds before entry calm q. tt;
  scrubbed = λ odds before won lost q few. record { odds = odds; allows = tt; few = few };
}

module _ (job : Job) (free : RaceFree job.program) (Q : List Entry → List ℕ → Type 0) (journal : List Entry) (policy : Policy job Q journal) (start : List ℕ) (start_few : AtMostHalf job.settings.replicas start) (start_allowed : Q [] start) (legal : Legal job journal) where
  -- where the journal stands
  pub stage : Stage job Q journal (replay job journal)
  stage = reach job free Q journal policy start [] journal [] start_allowed (opening_core job) (sym (append-nil journal)) (opening-reached job start start_few) legal

  -- each copy is good
  pub copies-well : EachCopiesWell job journal
  copies-well before rest thread count won lost did whole =
      let b = reach-before job free Q journal policy start start_few start_allowed legal before rest (Vote thread count won lost did) whole in
      by b.odds b.reached b.allowed
    where
      by : (odds : List ℕ) (reached : Reached job odds before (replay job before)) → MayVote job (replay job before) thread count won lost did → CopiesWell job before (Vote thread count won lost did) won (numbers lost)
      by odds reached may = record {
        losers_differed = λ l r k there alike. voted.losers_differ l r k there (agreed r alike);
        stay_alike = λ on number r there alike. alike-after (without number odds) (voted.stays number r there (agreed r alike)) on number (without-itself number odds);
        heals = λ on winner there alike l k. alike-after (without l odds) (voted.heals winner there (agreed winner alike) l k) on l (without-itself l odds);
        winner_alike = λ many winner there. agrees-is-alike job before reached.holds.machine winner reached.holds.ideal_is going (reached.holds.others_agree going won winner (voted.winner_even (let n = reached.holds.replica_count in omega arith)) there);
        then_all = λ many on number. alike-after [] (voted.then_all (let n = reached.holds.replica_count in omega arith)) on number refl;
      }
        where
          voted : AfterVote job odds before (replay job before) reached.holds.machine thread count won lost did
          voted = after-vote job free odds before (replay job before) reached.holds thread count won did lost may

          going : reached.holds.machine.ended ≡ None
          going = sym reached.holds.same_end ∙ (vote-parts (replay job before) thread may.may).going.not_due

          agreed : (r : Replica) → IsAlike job before r → Agrees job reached.holds.machine r
          agreed r alike = alike-agrees job before reached.holds.machine r reached.holds.ideal_is alike

          alike-after : (odds' : List ℕ) → TracksIdeal job odds' (before ++ Vote thread count won lost did ∷ []) (after job (replay job before) (Vote thread count won lost did)) → GoesOn job (before ++ Vote thread count won lost did ∷ [])
              → (number : ℕ) → is_among odds' number ≡ false → AlikeAt job (before ++ Vote thread count won lost did ∷ []) number
          alike-after odds' all on number d r there =
              let same : on.0 ≡ all.machine = some-injective (sym on.1 ∙ all.ideal_is) in
              let on_all : all.machine.ended ≡ None = ap (λ (m : Machine). m.ended) (sym same) ∙ on.2 in
              agrees-is-alike job (before ++ Vote thread count won lost did ∷ []) all.machine r all.ideal_is on_all
              (all.others_agree on_all number r d
              (ap (λ (c : Core). slice_get c.replicas number) (sym (replay_from-append job (opening_core job) before (Vote thread count won lost did ∷ []))) ∙ there))

  -- each scrub is good
  pub scrubs-well : EachScrubsWell job journal
  scrubs-well before rest won lost whole =
      let b = reach-before job free Q journal policy start start_few start_allowed legal before rest (Scrub won lost) whole in
      by b.odds b.reached b.allowed
    where
      by : (odds : List ℕ) (reached : Reached job odds before (replay job before)) → MayScrub (replay job before) won lost → ScrubsWell job before (Scrub won lost) won (numbers lost)
      by odds reached may = record {
        winner_alike = λ winner there. agrees-is-alike job before reached.holds.machine winner reached.holds.ideal_is on (scrubbed.winner_agrees winner there);
        losers_differed = λ l r k there alike. scrubbed.losers_differed l r k there (alike-agrees job before reached.holds.machine r reached.holds.ideal_is alike);
        then_all = λ number r there.
            agrees-is-alike job (before ++ Scrub won lost ∷ []) reached.holds.machine r (ideal-same job before (Scrub won lost) refl ∙ reached.holds.ideal_is) on
            (scrubbed.all_agree number r
            (ap (λ (rs : List Replica). slice_get rs number)
            (sym (ap (λ (c : Core). c.replicas) (replay_from-append job (opening_core job) before (Scrub won lost ∷ [])) ∙ scrub-replicas job (replay job before) won lost)) ∙ there));
      }
        where
          on : reached.holds.machine.ended ≡ None
          on = going-still job odds before (replay job before) reached.holds may.may

          scrubbed : AfterScrub job before (replay job before) reached.holds.machine won lost
          scrubbed = after-scrub job free odds before (replay job before) reached.holds won lost may

  -- ---- a journal that goes on

  module _ (odds : List ℕ) (reached : Reached job odds journal (replay job journal)) where
    -- a journal that goes on leaves its own state
    same_state : SameState job journal journal (replay job journal)
    same_state = record { same_ideal = refl; same_replicas = refl; same_kernel = refl }

    -- a journal that goes on simulates
    goes-on-simulates : Simulates job journal
    goes-on-simulates = record {
      machine = reached.holds.machine;
      ideal_is = reached.holds.ideal_is;
      same_kernel = reached.holds.same_kernel;
      written = record {
        whole = sym reached.holds.same_output ∙ reached.written;
        front = ([], sym reached.holds.same_output ∙ sym (append-nil (output_of job journal)));
        all_left = λ h. reached.holds.same_output;
      };
      few_differ = few-differ job free odds journal journal (replay job journal) reached.holds same_state;
      equal_views = equal-views-of job free odds journal journal (replay job journal) reached.holds same_state;
      equal_pages = equal-pages job free odds journal journal (replay job journal) reached.holds same_state;
      copies = copies-well;
      scrubs = scrubs-well;
      ends_as = λ how e. absurd (let f : None ≡ Some how = sym reached.holds.not_ended ∙ ended_is_outcome job journal legal ∙ e in cc);
    }

  -- ---- a journal that has ended

  module _ (count : TwoThreeOrFive job) (before : List Entry) (how : How) (odds : List ℕ) (last : Core) (same : journal ≡ before ++ End how ∷ []) (reached : Reached job odds before last) (may : MayEnd job last how) (last_is : replay job journal ≡ after job last (End how)) where
    -- how the core ended
    ended_is : (replay job journal).ended ≡ Some how
    ended_is = ap (λ (c : Core). c.ended) last_is ∙ after-end-ended job last how

    -- the journal's outcome
    outcome_is : outcome_of journal ≡ Some how
    outcome_is = sym (ended_is_outcome job journal legal) ∙ ended_is

    -- an end leaves machine, replicas and kernel
    ended_state : SameState job journal before last
    unfolding after
    ended_state = record {
      same_ideal = ap (ideal job) same ∙ ideal-same job before (End how) refl;
      same_replicas = ap (λ (c : Core). c.replicas) last_is;
      same_kernel = ap (λ (c : Core). c.kernel) last_is;
    }

    -- the output after the end
    output_is : output_of job journal ≡ cut_output last how
    unfolding after
    output_is = ap (λ (c : Core). c.output) last_is

    -- the machine's output is that of the payloads
    whole_is : reached.holds.machine.output ≡ payloads_of job journal
    whole_is = sym reached.holds.same_output
        ∙ (reached.written
        ∙ (sym (append-nil (payloads_of job before))
        ∙ sym (ap (payloads_of job) same ∙ payloads-append job (opening_core job) before (End how ∷ []))))

    -- what left is the front
    cut-front : (how : How) → IsFront (cut_output last how) last.output
    cut-front (Sink bytes) = (drop (length last.output - last.wrote + bytes) last.output, sym (take-append-drop (length last.output - last.wrote + bytes) last.output))
    cut-front (Exit status) = ([], sym (append-nil last.output))
    cut-front (Trap code) = ([], sym (append-nil last.output))
    cut-front Deadlock = ([], sym (append-nil last.output))
    cut-front (Limit steps next) = ([], sym (append-nil last.output))
    cut-front Differ = ([], sym (append-nil last.output))
    cut-front NoMajority = ([], sym (append-nil last.output))

    -- all has left where no sink failed
    cut-whole : (other : How) → how ≡ other → ((bytes : ℕ) → outcome_of journal ≢ Some (Sink bytes)) → cut_output last other ≡ last.output
    cut-whole (Sink bytes) e none = absurd (none bytes (outcome_is ∙ ap Some e))
    cut-whole (Exit status) e none = refl
    cut-whole (Trap code) e none = refl
    cut-whole Deadlock e none = refl
    cut-whole (Limit steps next) e none = refl
    cut-whole Differ e none = refl
    cut-whole NoMajority e none = refl

    -- a journal that has ended simulates
    ended-simulates : Simulates job journal
    ended-simulates = record {
      machine = reached.holds.machine;
      ideal_is = ended_state.same_ideal ∙ reached.holds.ideal_is;
      same_kernel = ended_state.same_kernel ∙ reached.holds.same_kernel;
      written = record {
        whole = whole_is;
        front = subst (λ (o : List ℕ). IsFront o reached.holds.machine.output) (sym output_is) (subst (IsFront (cut_output last how)) reached.holds.same_output (cut-front how));
        all_left = λ none. output_is ∙ (cut-whole how refl none ∙ reached.holds.same_output);
      };
      few_differ = few-differ job free odds journal before last reached.holds ended_state;
      equal_views = equal-views-of job free odds journal before last reached.holds ended_state;
      equal_pages = equal-pages job free odds journal before last reached.holds ended_state;
      copies = copies-well;
      scrubs = scrubs-well;
      ends_as = λ other e. subst (EndsAs job.program reached.holds.machine) (some-injective (sym outcome_is ∙ e)) (end-as job odds before last reached.holds free count how may);
    }

  -- the theorem under a policy
  pub simulates-with : TwoThreeOrFive job → Simulates job journal
  simulates-with count = by stage
    where
      by : Stage job Q journal (replay job journal) → Simulates job journal
      by (goes_on odds q reached) = goes-on-simulates odds reached
      by (has_ended before how odds last q same reached may last_is) = ended-simulates count before how odds last same reached may last_is

-- the simulation theorem
pub simulates : (job : Job) (journal : List Entry) → RaceFree job.program → TwoThreeOrFive job → Legal job journal → StaysApart job journal → Simulates job journal
simulates job journal free count legal apart = simulates-with job free (λ before odds. Unit {0}) journal (apart-policy job journal apart) [] (omega arith) tt legal count
