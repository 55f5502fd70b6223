-- How long a journal's plan is.
use Rattle.std.specs.Prelude.{◌≡◌, ℕ, ◌+◌, ◌<◌, ◌≤◌, List, length, take}
use Rattle.ro_settings.specs.declared.Mode.{Mode}
use Rattle.ro_journal.specs.declared.Entry.{Entry}
use Rattle.ro_plans.specs.Plans.{plan_in}
use Rattle.ro_plans.specs.Walks.{AddsSoMany}
use Rattle.ro_machine.specs.declared.errors.TooLong.{TooLong}

-- a plan of so many steps, which are at most 10^9
pub record IsLength (mode : Mode) (journal : List Entry) (steps : ℕ) : Type 0 where
  pub is : steps ≡ length (plan_in mode journal)
  pub few : length (plan_in mode journal) ≤ 1000000000

-- the steps of the plan before the first entry that takes it past 10^9, and those that this entry adds
pub record IsTooLong (mode : Mode) (journal : List Entry) (long : TooLong) : Type 0 where
  pub place : ℕ
  pub within : place < length journal
  pub steps_are : long.steps ≡ length (plan_in mode (take place journal))
  pub next_is : AddsSoMany mode journal place long.next
  pub few : long.steps ≤ 1000000000
  pub past : 1000000000 < long.steps + long.next
