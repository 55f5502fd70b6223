-- What the sentences on a journal begin with.
use Rattle.std.specs.Prelude.{◌≡◌, ℕ, List, ◌++◌, codes, decimal}
use Rattle.ro_findings.specs.declared.findings.Verdict.{Verdict}
use Rattle.ro_findings.specs.declared.findings.Verdict.TheVariants.{Legal, Illegal}

-- the line that says whether the journal is legal, and if not, which entry is the first that is not allowed, from 0
abbrev pub first_line : Verdict → List ℕ
first_line (Legal steps end odd) = codes "legal\n"
first_line (Illegal place entry why) = codes "illegal " ++ decimal place ++ codes "\n"

-- the text begins with that line
abbrev pub TellsVerdict : Verdict → (text : List ℕ) → Type 0
TellsVerdict verdict text = (rest : List ℕ) × (text ≡ first_line verdict ++ rest)
