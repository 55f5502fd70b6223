-- The plan of a journal: the order of steps that the unreplicated machine takes.
use Rattle.std.specs.Prelude.{ℕ, List}
use Rattle.ro_settings.specs.declared.Mode.{Mode}
use Rattle.ro_settings.specs.declared.Mode.TheVariants.{Voted, Cooperative}
use Rattle.ro_journal.specs.declared.Entry.{Entry}
use Rattle.ro_journal.specs.Plan.{plan_of}
use Rattle.ro_plans.specs.First.{first_of}

-- the steps that its votes and frees retire; of a cooperative journal those that no replica made before
abbrev pub plan_in : Mode → List Entry → List ℕ
plan_in Voted journal = plan_of journal
plan_in Cooperative journal = first_of journal
