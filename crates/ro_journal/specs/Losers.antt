-- The replicas that lost a vote, as a list.
use Rattle.std.specs.Prelude.{ℕ, List, [], ◌∷◌}
use Rattle.ro_journal.specs.declared.losers.Lost.{Lost}
use Rattle.ro_journal.specs.declared.losers.Lost.TheVariants.{Nobody, One, Two}

abbrev pub numbers : Lost → List ℕ
numbers Nobody = []
numbers (One number) = number ∷ []
numbers (Two lower higher) = lower ∷ higher ∷ []
