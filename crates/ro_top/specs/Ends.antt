-- Why a run, a plan, or the check of one ends as it does.
use Rattle.std.specs.Prelude.{◌≡◌, ◌≢◌, ◌⊎◌, ⊤, ℕ, ◌+◌, ◌<◌, IsTrue, false, List, [], ◌∷◌, ◌++◌, length, take, Option, Some, None, slice_get}
use Rattle.ro_io.specs.Outside.{Rose, more}
use Rattle.ro_event.specs.Views.{View}
use Rattle.ro_journal.specs.declared.How.{How}
use Rattle.ro_journal.specs.declared.How.TheVariants.{Exit as ByExit, Deadlock as ByDeadlock, Trap as ByTrap, Limit as ByLimit, Differ as ByDiffer, NoMajority as ByNoMajority, Sink as BySink}
use Rattle.ro_journal.specs.declared.Entry.{Entry}
use Rattle.ro_journal.specs.declared.Entry.TheVariants.{End}
use Rattle.ro_plans.specs.Plans.{plan_in}
use Rattle.ro_report.specs.declared.answers.Answer.{Answer}
use Rattle.ro_report.specs.declared.answers.Answer.TheVariants.{Exit, Deadlock, Trap, Unended, Differ, NoMajority, Limit, SinkFailed, NoStep, NoRace, Race, NoMemory}
use Rattle.ro_vote.specs.Votes.{NoneIsHeld}
use Rattle.ro_vote.specs.Prevails.{NonePrevails}
use Rattle.ro_replica.specs.Snapshots.{Snapshot}
use Rattle.ro_legal.specs.Core.{Job, may_vote, may_free, snapshots_of}
use Rattle.ro_legal.specs.Legal.{is_stuck, EndsFree}
use Rattle.ro_legal.specs.Cooperative.{lapses_alike}
use Rattle.ro_legal.specs.Modes.{Mode, InMode}
use Rattle.ro_legal.specs.Rules.{EndsVote, replay}
use Rattle.ro_machine.specs.Lengths.{IsTooLong as IsLongPlan, IsLength}
use Rattle.ro_machine.specs.Plans.{RunsPlan, LacksStep, BreaksOff, StopsShort}
use Rattle.ro_plain.specs.Machine.{Program}
use Rattle.ro_races.specs.declared.found.Found.TheVariants.{NoRace as NoneFound, Pair}
use Rattle.ro_races.specs.Follows.{Checks, LacksStep as LacksCheckedStep}
use Rattle.ro_cores.specs.Cores.{offered_by}
use Rattle.ro_master.specs.Driven.{ShowsLast, ScrubsLast}

-- ---- ends of a run

-- what the run came to: an answer of a run is the journal's outcome; where the command is refused or memory is wanting there is
-- none; and no run comes to an answer that is a plan's alone
abbrev pub IsOutcome : Answer → Option How → Type 0
IsOutcome (Exit status) outcome = outcome ≡ Some (ByExit status)
IsOutcome Deadlock outcome = outcome ≡ Some ByDeadlock
IsOutcome (Trap cause) outcome = outcome ≡ Some (ByTrap cause)
IsOutcome Differ outcome = outcome ≡ Some ByDiffer
IsOutcome NoMajority outcome = outcome ≡ Some ByNoMajority
IsOutcome (Limit steps next) outcome = outcome ≡ Some (ByLimit steps next)
IsOutcome (SinkFailed taken) outcome = outcome ≡ Some (BySink taken)
IsOutcome Unended outcome = ⊥
IsOutcome (NoStep place) outcome = ⊥
IsOutcome NoRace outcome = ⊥
IsOutcome (Race i j byte) outcome = ⊥
IsOutcome answer outcome = outcome ≡ None

-- nothing could be done any more
pub record IsStuck (job : Job) (journal : List Entry) : Type 0 where
  pub before : List Entry
  pub journal_is : journal ≡ before ++ End ByDeadlock ∷ []
  pub stuck : IsTrue (is_stuck job (replay job before))

-- two views of a vote, which are not equal
pub record AreTwo (job : Job) (journal : List Entry) (views : List View) : Type 0 where
  pub shows : ShowsLast job journal views
  pub one : View
  pub other : View
  pub views_are : views ≡ one ∷ other ∷ []
  pub differ : one ≢ other

-- Three or five views of a vote, none of which more than half of them are: of three, no two are equal.
pub record AreSplit (job : Job) (journal : List Entry) (views : List View) : Type 0 where
  pub shows : ShowsLast job journal views
  pub count : (length views ≡ 3) ⊎ (length views ≡ 5)
  pub split : NoneIsHeld views

-- Views of a vote in a cooperative run, of which two are not equal.
pub record AreUnequal (job : Job) (journal : List Entry) (views : List View) : Type 0 where
  pub shows : ShowsLast job journal views
  pub place : ℕ
  pub another : ℕ
  pub one : View
  pub other : View
  pub one_there : slice_get views place ≡ Some one
  pub other_there : slice_get views another ≡ Some other
  pub differ : one ≢ other

-- In a cooperative run the replicas of a vote do not leave the same of its thread's reservation: one has ended it by a call that it
-- answered, and another has not.
pub record LapseUnlike (job : Job) (journal : List Entry) (views : List View) : Type 0 where
  pub shows : ShowsLast job journal views
  pub unlike : lapses_alike (replay job shows.before) shows.thread ≡ false

-- Two replicas that a scrub compared, which are not equal. No thread was voted on, so there are no views.
pub record AreTwoWhole (job : Job) (journal : List Entry) (views : List View) : Type 0 where
  pub scrubs : ScrubsLast job journal views
  pub one : Snapshot
  pub other : Snapshot
  pub snapshots_are : snapshots_of (replay job scrubs.before) ≡ one ∷ other ∷ []
  pub differ : one ≢ other

-- Three or five replicas that a scrub compared, of which no more than half are equal.
pub record AreSplitWhole (job : Job) (journal : List Entry) (views : List View) : Type 0 where
  pub scrubs : ScrubsLast job journal views
  pub count : (length (snapshots_of (replay job scrubs.before)) ≡ 3) ⊎ (length (snapshots_of (replay job scrubs.before)) ≡ 5)
  pub split : NonePrevails (snapshots_of (replay job scrubs.before))

-- The vote or the free in whose place the end stands would have added so many steps to the plan, and passed the limit.
pub record EndsAtLimit (job : Job) (journal : List Entry) (steps next : ℕ) : Type 0 where
  pub before : List Entry
  pub journal_is : journal ≡ before ++ End (ByLimit steps next) ∷ []
  pub steps_are : steps ≡ length (plan_in job.settings.mode journal)
  pub above : job.settings.limit < steps + next
  pub in_place : ((thread : ℕ) × IsTrue (may_vote (replay job before) thread) × EndsVote job (replay job before) thread (ByLimit steps next))
      ⊎ ((thread : ℕ) × IsTrue (may_free job (replay job before) thread) × EndsFree job (replay job before) (ByLimit steps next))

-- the sink took so many bytes of the last write, and not all
pub record CutsWrite (job : Job) (journal : List Entry) (taken : ℕ) : Type 0 where
  pub before : List Entry
  pub journal_is : journal ≡ before ++ End (BySink taken) ∷ []
  pub short : taken < (replay job before).wrote

-- Why a run ends so, where the views that were kept are these, the sink's count of failures was the one and is the other, and it
-- surely took so many bytes. An exit and a trap are the program's own, and there is no memory only by chance. A run has no other
-- answer.
abbrev pub EndCause : Job → List Entry → (views : List View) → (before after sure : ℕ) → Answer → Type 0
EndCause job journal views before after sure Deadlock = IsStuck job journal
EndCause job journal views before after sure Differ = InMode job.settings.mode (AreTwo job journal views ⊎ AreTwoWhole job journal views) (AreUnequal job journal views ⊎ LapseUnlike job journal views)
EndCause job journal views before after sure NoMajority = InMode job.settings.mode (AreSplit job journal views ⊎ AreSplitWhole job journal views) ⊥
EndCause job journal views before after sure (Limit steps next) = EndsAtLimit job journal steps next
EndCause job journal views before after sure (SinkFailed taken) = CutsWrite job journal taken × Rose before after × (sure < length (offered_by job journal))
EndCause job journal views before after sure (Exit status) = ⊤
EndCause job journal views before after sure (Trap cause) = ⊤
EndCause job journal views before after sure NoMemory = ⊤
EndCause job journal views before after sure answer = ⊥

-- ---- ends of a plan

-- What a plan's run came to: the answer, how many steps and bytes, and what the sink of the output held and counted before and after.
pub record CamePlain : Type 0 where
  pub answer : Answer
  pub steps : ℕ
  pub bytes : ℕ
  pub held_before : Option (List ℕ)
  pub held_after : Option (List ℕ)
  pub failures_before : ℕ
  pub failures_after : ℕ

-- the sink counted no failure
abbrev pub KeepsCount : CamePlain → Type 0
KeepsCount came = came.failures_after ≡ came.failures_before

-- the whole plan was run, and then the program stood so
pub record RanWhole (came : CamePlain) (program : Program) (mode : Mode) (journal : List Entry) (how : Option How) : Type 0 where
  pub length_is : IsLength mode journal came.steps
  pub calm : KeepsCount came
  pub runs : RunsPlan program (plan_in mode journal) came.held_before came.held_after how came.bytes

-- the answer where the whole plan was run, and then the program stood so
abbrev pub AnswersEnd : Answer → Option How → Type 0
AnswersEnd answer None = answer ≡ Unended
AnswersEnd answer (Some how) = IsOutcome answer (Some how)

-- Why a plan's run ends so; the sink counted a failure only where the answer says that it failed. There is no memory only by chance.
abbrev pub PlanCause : CamePlain → Program → Mode → List Entry → Answer → Type 0
PlanCause came program mode journal (Exit status) = RanWhole came program mode journal (Some (ByExit status))
PlanCause came program mode journal Deadlock = RanWhole came program mode journal (Some ByDeadlock)
PlanCause came program mode journal (Trap cause) = RanWhole came program mode journal (Some (ByTrap cause))
PlanCause came program mode journal Unended = RanWhole came program mode journal None
PlanCause came program mode journal (NoStep place) = LacksStep program (plan_in mode journal) came.held_before came.held_after place × KeepsCount came
PlanCause came program mode journal (SinkFailed taken) =
    BreaksOff program (plan_in mode journal) came.held_before came.held_after taken × Rose came.failures_before came.failures_after
PlanCause came program mode journal (Limit steps next) =
    IsLongPlan mode journal (record { steps = steps; next = next }) × (came.held_after ≡ came.held_before) × KeepsCount came
PlanCause came program mode journal NoMemory = StopsShort program (plan_in mode journal) came.held_before came.held_after × KeepsCount came
PlanCause came program mode journal answer = ⊥

-- ---- checks of a plan

-- Why the check of a plan ends so: all its steps exist, and none has a race, or this is the first race; or this step is the first
-- that does not exist; or the plan is too long. There is no memory only by chance.
abbrev pub RacesCause : Program → Mode → List Entry → Answer → Type 0
RacesCause program mode journal NoRace = Checks program (plan_in mode journal) NoneFound
RacesCause program mode journal (Race i j byte) = Checks program (plan_in mode journal) (Pair i j byte)
RacesCause program mode journal (NoStep place) = LacksCheckedStep program (plan_in mode journal) place
RacesCause program mode journal (Limit steps next) = IsLongPlan mode journal (record { steps = steps; next = next })
RacesCause program mode journal NoMemory = ⊤
RacesCause program mode journal answer = ⊥

-- ---- texts

-- What came of writing a text, where the sink held and counted the one before and the other after: all of it is out, and the
-- sink did not fail; or it failed, and took so many of its bytes.
abbrev pub WritesText : (text : List ℕ) → (old new : Option (List ℕ)) → (before after : ℕ) → Answer → Type 0
WritesText text old new before after (Exit status) = (status ≡ 0) × (new ≡ more old text) × (after ≡ before)
WritesText text old new before after (SinkFailed taken) = (taken < length text) × (new ≡ more old (take taken text)) × Rose before after
WritesText text old new before after answer = ⊥
