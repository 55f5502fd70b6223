-- What holds of a run whatever becomes of a replica, as long as corruptions stay apart.
use Rattle.std.specs.Prelude.{◌≡◌, ℕ, suc, ◌*◌, ◌<◌, true, false, List, [], ◌∷◌, ◌++◌, length, Option, Some, None, slice_get}
use Rattle.std.specs.List.{fold}
use Rattle.ro_journal.specs.declared.How.{How}
use Rattle.ro_journal.specs.declared.Entry.{Entry}
use Rattle.ro_journal.specs.declared.Entry.TheVariants.{Scrub}
use Rattle.ro_replica.specs.Replica.{Replica}
use Rattle.ro_plain.specs.Machine.{Machine}
use Rattle.ro_vote.specs.Numbers.{is_among, AtMostHalf}
use Rattle.ro_legal.specs.Core.{Job, Core}
use Rattle.ro_legal.specs.Ideal.{ideal, IsAlike}
use Rattle.ro_legal.specs.Upsets.{Moment, Comes, journal_of, core_of, corrupted_in}
use Rattle.ro_simulation.specs.Theorem.{IsFront, IsComplete, EndsAs, GoesOn, with_number}

-- ---- corruptions stay apart

-- every replica of the core but those of these numbers is alike
abbrev pub AlikeBut : Job → List Entry → Core → List ℕ → Type 0
AlikeBut job journal core odds = (number : ℕ) (replica : Replica) → is_among odds number ≡ false → slice_get core.replicas number ≡ Some replica → IsAlike job journal replica

-- The corrupted replica and some others are at most half of all, and the rest are alike.
pub record CorruptsApart (job : Job) (before : List Moment) (corrupted : ℕ) : Type 0 where
  pub others : List ℕ
  pub few : AtMostHalf job.settings.replicas (corrupted ∷ others)
  pub alike : AlikeBut job (journal_of before) (core_of job before) (corrupted ∷ others)

-- While the program goes on, no replica is corrupted while so many others differ that with it they would be more than half.
abbrev pub CorruptionsApart : Job → List Moment → Type 0
CorruptionsApart job moments =
    (before rest : List Moment) (moment : Moment) (corrupted : ℕ) → moments ≡ before ++ moment ∷ rest → corrupted_in moment ≡ Some corrupted →
    (core_of job before).due ≡ None → CorruptsApart job before corrupted

-- ---- few replicas are corrupted between scrubs

-- with a corruption, if there is one
abbrev pub with_corrupted : Option ℕ → List ℕ → List ℕ
with_corrupted None numbers = numbers
with_corrupted (Some number) numbers = with_number number numbers

-- the replicas that were corrupted since the last scrub, behind a moment before which these were
abbrev pub corrupted_behind : List ℕ → Moment → List ℕ
corrupted_behind numbers (Comes (Scrub won lost)) = []
corrupted_behind numbers moment = with_corrupted (corrupted_in moment) numbers

-- of moments, the replicas that were corrupted since their last scrub, each once
abbrev pub corrupted_since_scrub : List Moment → List ℕ
corrupted_since_scrub moments = fold corrupted_behind [] moments

-- From one scrub to the next, from the opening to the first and behind the last, at most half of the replicas are corrupted:
-- one of two or three, two of five, and each time whichever they are.
abbrev pub CorruptsFewBetweenScrubs : Job → List Moment → Type 0
CorruptsFewBetweenScrubs job moments = (before rest : List Moment) → moments ≡ before ++ rest → AtMostHalf job.settings.replicas (corrupted_since_scrub before)

-- ---- what holds then

-- The replicas that differ are few.
pub record FewStillDiffer (job : Job) (moments : List Moment) : Type 0 where
  pub odds : List ℕ
  pub few : AtMostHalf job.settings.replicas odds
  pub others_alike : AlikeBut job (journal_of moments) (core_of job moments) odds

-- What the headline says, of moments in the place of a journal.
pub record WritesStill (job : Job) (moments : List Moment) : Type 0 where
  pub machine : Machine
  pub ideal_is : ideal job (journal_of moments) ≡ Some machine
  pub same_kernel : (core_of job moments).kernel ≡ machine.kernel
  pub front : IsFront (core_of job moments).output machine.output
  pub few_differ : machine.ended ≡ None → FewStillDiffer job moments
  pub ends_as : (how : How) → (core_of job moments).ended ≡ Some how → EndsAs job.program machine how
  pub complete : (how : How) → (core_of job moments).ended ≡ Some how → IsComplete how → (core_of job moments).output ≡ machine.output

-- every replica of this number is alike behind the moments
abbrev pub StillAlikeAt : Job → List Moment → ℕ → Type 0
StillAlikeAt job moments number = (replica : Replica) → slice_get (core_of job moments).replicas number ≡ Some replica → IsAlike job (journal_of moments) replica

-- A vote: each loser differed, and each replica that was alike still is. Where the winner is alike, so is each loser after the
-- copy. Where as many lost as may differ, the winner is alike and so is every replica afterwards.
pub record CopiesStill (job : Job) (before : List Moment) (vote : Entry) (won : ℕ) (lost : List ℕ) : Type 0 where
  pub losers_differed : (l : ℕ) (replica : Replica) → is_among lost l ≡ true → slice_get (core_of job before).replicas l ≡ Some replica → IsAlike job (journal_of before) replica → ⊥
  pub stay_alike : GoesOn job (journal_of before ++ vote ∷ []) → (number : ℕ) (replica : Replica) → slice_get (core_of job before).replicas number ≡ Some replica → IsAlike job (journal_of before) replica → StillAlikeAt job (before ++ Comes vote ∷ []) number
  pub heals : GoesOn job (journal_of before ++ vote ∷ []) → (winner : Replica) → slice_get (core_of job before).replicas won ≡ Some winner → IsAlike job (journal_of before) winner → (l : ℕ) → is_among lost l ≡ true → StillAlikeAt job (before ++ Comes vote ∷ []) l
  pub winner_alike : job.settings.replicas < 2 * suc (length lost) → StillAlikeAt job before won
  pub then_all : job.settings.replicas < 2 * suc (length lost) → GoesOn job (journal_of before ++ vote ∷ []) → (number : ℕ) → StillAlikeAt job (before ++ Comes vote ∷ []) number

-- A scrub: the winner was alike, none of the losers was, and behind it every replica is.
pub record ScrubsStill (job : Job) (before : List Moment) (scrub : Entry) (won : ℕ) (lost : List ℕ) : Type 0 where
  pub winner_alike : StillAlikeAt job before won
  pub losers_differed : (l : ℕ) (replica : Replica) → is_among lost l ≡ true → slice_get (core_of job before).replicas l ≡ Some replica → IsAlike job (journal_of before) replica → ⊥
  pub then_all : (number : ℕ) → StillAlikeAt job (before ++ Comes scrub ∷ []) number
