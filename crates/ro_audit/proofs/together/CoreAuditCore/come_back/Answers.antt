use Rattle.std.proofs.Common.{◌∙◌, sym, subst, [], ◌∷◌, ◌++◌}
use Rattle.ro_journal.specs.declared.Entry.{Entry}
use Rattle.ro_coop_core.specs.Runs.{fields_of, job_of}
use Rattle.ro_audit.specs.Ranks.{rows_in}
use Rattle.ro_audit.specs.Audits.{IsRefused}
use Rattle.ro_audit.specs.Following.{KnowsGot}
use Rattle.ro_audit.specs.Returning.{told_entry}
use Rattle.ro_audit.proofs.Short.{within-mutexes, turned-down}
use Rattle.ro_audit.proofs.AsTold.{still-going, still-counts, untold-runs, comes-back, knows-more}
use Rattle.ro_audit.proofs.Modes.{its-run, got-in, in-got, turned-down-in, untold-in}
use Rattle.ro_audit.proofs.together.CoreAuditCore.come_back.Goals as goal

pub why_short-requires : goal.why_short-requires
why_short-requires c =
    let job = job_of c.args.self.now in
    let journal = (fields_of c.args.self.now).journal in
    let run = its-run job journal c.requires.holds.1 c.args.lent c.bound.new.partner {told = c.of-told.result} c.requires.lends.1 c.bound.ensures.peer c.bound.ensures.count c.bound.ensures.ceilings c.run_for-ran.ensures c.min-most.ensures in
    record { within = within-mutexes run c.if-ran-told.true }

pub returns-then-ran-told-clause-returns : goal.returns-then-ran-told-clause-returns
returns-then-ran-told-clause-returns c =
    let job = job_of c.args.self.now in
    let journal = (fields_of c.args.self.now).journal in
    let run = its-run job journal c.requires.holds.1 c.args.lent c.bound.new.partner {told = c.of-told.result} c.requires.lends.1 c.bound.ensures.peer c.bound.ensures.count c.bound.ensures.ceilings c.run_for-ran.ensures c.min-most.ensures in
    let knows = got-in job journal c.requires.holds.1 (rows_in c.args.got.now) c.requires.knows in
    let entry = c.of-told.ensures c.args.lent.lease c.requires.returns in
    subst (λ (e : Entry). IsRefused job journal e c.in_ok-why_short.field-0) (sym entry)
    (turned-down-in job journal c.requires.holds.1 c.args.lent.lease c.of-told.result c.in_ok-why_short.field-0
    (turned-down run c.if-ran-told.true c.requires.holds.0.legal knows c.in_ok-why_short.field-0 c.in_ok-why_short.ensures))

pub end_as_told-requires-clause-going : goal.end_as_told-requires-clause-going
end_as_told-requires-clause-going c =
    let job = job_of c.args.self.now in
    let journal = (fields_of c.args.self.now).journal in
    let run = its-run job journal c.requires.holds.1 c.args.lent c.bound.new.partner {told = c.of-told.result} c.requires.lends.1 c.bound.ensures.peer c.bound.ensures.count c.bound.ensures.ceilings c.run_for-ran.ensures c.min-most.ensures in
    still-going run c.if-ran-told.false

pub end_as_told-requires-clause-countable : goal.end_as_told-requires-clause-countable
end_as_told-requires-clause-countable c =
    let job = job_of c.args.self.now in
    let journal = (fields_of c.args.self.now).journal in
    let run = its-run job journal c.requires.holds.1 c.args.lent c.bound.new.partner {told = c.of-told.result} c.requires.lends.1 c.bound.ensures.peer c.bound.ensures.count c.bound.ensures.ceilings c.run_for-ran.ensures c.min-most.ensures in
    still-counts run c.if-ran-told.false

pub returns-in-Ok-clause-returns : goal.returns-in-Ok-clause-returns
returns-in-Ok-clause-returns c =
    let job = job_of c.args.self.now in
    let journal = (fields_of c.args.self.now).journal in
    let run = its-run job journal c.requires.holds.1 c.args.lent c.bound.new.partner {told = c.of-told.result} c.requires.lends.1 c.bound.ensures.peer c.bound.ensures.count c.bound.ensures.ceilings c.run_for-ran.ensures c.min-most.ensures in
    let entry = c.of-told.ensures c.args.lent.lease c.requires.returns in
    let back = comes-back run c.if-ran-told.false c.end_as_told.new.lent c.in-Ok.came c.in-Ok.ensures c.back_of.result c.back_of.ensures in
    ((c.requires.holds.1, back.0.0, back.0.1), back.1 ∙ sym entry)

pub returns-in-Ok-clause-knows : goal.returns-in-Ok-clause-knows
returns-in-Ok-clause-knows c =
    let job = job_of c.args.self.now in
    let journal = (fields_of c.args.self.now).journal in
    let run = its-run job journal c.requires.holds.1 c.args.lent c.bound.new.partner {told = c.of-told.result} c.requires.lends.1 c.bound.ensures.peer c.bound.ensures.count c.bound.ensures.ceilings c.run_for-ran.ensures c.min-most.ensures in
    let knows = got-in job journal c.requires.holds.1 (rows_in c.args.got.now) c.requires.knows in
    let entry = c.of-told.ensures c.args.lent.lease c.requires.returns in
    subst (λ (e : Entry). KnowsGot job (journal ++ e ∷ []) (rows_in c.run_for-ran.new.got)) (sym entry)
    (in-got job (journal ++ told_entry c.args.lent.lease c.of-told.result ∷ []) c.requires.holds.1 (rows_in c.run_for-ran.new.got) (knows-more run c.if-ran-told.false c.requires.holds.0.legal knows))

pub returns-in-Err-clause-returns : goal.returns-in-Err-clause-returns
returns-in-Err-clause-returns c =
    let job = job_of c.args.self.now in
    let journal = (fields_of c.args.self.now).journal in
    let run = its-run job journal c.requires.holds.1 c.args.lent c.bound.new.partner {told = c.of-told.result} c.requires.lends.1 c.bound.ensures.peer c.bound.ensures.count c.bound.ensures.ceilings c.run_for-ran.ensures c.min-most.ensures in
    let entry = c.of-told.ensures c.args.lent.lease c.requires.returns in
    subst (λ (e : Entry). IsRefused job journal e c.in-Err.why) (sym entry)
    (untold-in job journal c.requires.holds.1 c.args.lent.lease c.of-told.result c.in-Err.why c.in-Err.ensures.0
    (untold-runs run c.if-ran-told.false c.in-Err.ensures.1))
