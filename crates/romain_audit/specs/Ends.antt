-- With which status an audit ends, and what it tells.
use Rattle.std.specs.Prelude.{◌≡◌, ◌⊎◌, ℕ, false, List, Option, Some}
use Rattle.ro_io.specs.Outside.{Asks, Calls, Files, Rose, unfailed}
use Rattle.ro_report.specs.Report.{answer_text}
use Rattle.ro_report.specs.declared.answers.Answer.{Answer}
use Rattle.ro_words.specs.Commands.{AskedAudit, audit_of}
use Rattle.ro_findings.specs.declared.findings.Findings.{Findings}
use Rattle.ro_findings.specs.declared.findings.Verdict.{Verdict}
use Rattle.ro_findings.specs.declared.findings.Verdict.TheVariants.{Legal, Illegal}
use Rattle.ro_findings.specs.Sentences.{TellsVerdict}
use Rattle.ro_tell.specs.Causes.{WordsCause, audit_names}
use Rattle.ro_tell.specs.Judging.{IsAuditOf}
use Rattle.ro_top.specs.Top.{status_of, untold, IsTold}
use Rattle.ro_top.specs.declared.done.Told.{Told}
use Rattle.ro_top.specs.declared.done.Told.TheVariants.{Whole, Failed}

-- the status where a journal was judged and that was told: 0 exactly for a legal one
abbrev pub status_found : Told → Verdict → ℕ
status_found Failed verdict = untold
status_found Whole (Legal steps end odd) = 0
status_found Whole (Illegal place entry why) = 236

-- what a sink holds, where it tells, and how often it failed
pub record Sunk : Type 0 where
  pub held : Option (List ℕ)
  pub failures : ℕ

-- a text was to be given to a sink, and this came of it
pub record Gives (told : Told) (text : List ℕ) (old new : Sunk) : Type 0 where
  pub is_told : IsTold told old.held new.held text
  pub cause : told ≡ Failed → Rose old.failures new.failures
  pub calm : told ≡ Whole → new.failures ≡ old.failures

-- What an audit came to: its status, and the store, the output and the report before and after.
pub record Came : Type 0 where
  pub status : ℕ
  pub failures_before : ℕ
  pub failures_after : ℕ
  pub calls_before : Calls
  pub calls_after : Calls
  pub out_before : Sunk
  pub out_after : Sunk
  pub report_before : Sunk
  pub report_after : Sunk

-- The audit that the words spell was made, what is found was to be told in the output, with the verdict first where JSON is not asked
-- for, and the report got nothing.
pub record IsFound (files : Option Files) (words : List (List ℕ)) (came : Came) : Type 0 where
  pub asked : AskedAudit
  pub asked_is : audit_of words ≡ Some asked
  pub findings : Findings
  pub found : IsAuditOf files asked findings
  pub asks : Asks came.calls_before came.calls_after (unfailed (audit_names asked))
  pub text : List ℕ
  pub verdict : asked.json ≡ false → TellsVerdict findings.verdict text
  pub told : Told
  pub gives : Gives told text came.out_before came.out_after
  pub silent : came.report_after ≡ came.report_before
  pub status_is : came.status ≡ status_found told findings.verdict

-- It was refused, the answer was to be told in the report, and the output got nothing.
pub record IsAnswered (files : Option Files) (words : List (List ℕ)) (came : Came) : Type 0 where
  pub answer : Answer
  pub refused : WordsCause files words came.failures_before came.failures_after came.calls_before came.calls_after answer
  pub told : Told
  pub gives : Gives told (answer_text answer) came.report_before came.report_after
  pub silent : came.out_after ≡ came.out_before
  pub status_is : came.status ≡ status_of told answer

-- how an audit ends
abbrev pub Ends : Option Files → (words : List (List ℕ)) → Came → Type 0
Ends files words came = IsFound files words came ⊎ IsAnswered files words came
