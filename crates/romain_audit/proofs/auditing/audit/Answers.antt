use Rattle.std.proofs.Common.{inl, inr, refl, subst, sym}
use Rattle.ro_findings.specs.Sentences.{TellsVerdict}
use Rattle.romain_audit.proofs.auditing.audit.Goals as goal

pub returns-in-Ok-clause-ends : goal.returns-in-Ok-clause-ends
returns-in-Ok-clause-ends g c =
    let judged = c.in-Ok.ensures.judged in
    inl (record {
      asked = judged.0;
      asked_is = judged.1;
      findings = c.in-Ok.judged.findings;
      found = judged.2;
      asks = judged.3;
      text = c.as_bytes.result.now;
      verdict = λ plain. subst (TellsVerdict c.in-Ok.judged.findings.verdict) (sym c.as_bytes.ensures.value) (judged.4 plain);
      told = c.give-told.result;
      gives = c.give-told.ensures;
      silent = refl;
      status_is = c.status_found.ensures;
    })

pub returns-in-Err-clause-ends : goal.returns-in-Err-clause-ends
returns-in-Err-clause-ends g c =
    let answered = c.answered.ensures in
    inr (record {
      answer = c.in-Err.answer;
      refused = c.in-Err.ensures.refused;
      told = answered.0;
      gives = record { is_told = answered.2; cause = answered.3; calm = answered.4 };
      silent = refl;
      status_is = answered.1;
    })
