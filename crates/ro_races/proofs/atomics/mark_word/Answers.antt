use Rattle.std.proofs.Common.{sym, subst}
use Rattle.ro_machine.specs.declared.watching.Watched.{Watched}
use Rattle.ro_races.specs.Shadows.{reads_of, writes_of, MarksAll}
use Rattle.ro_races.proofs.Tables.{as_one-none, marks-word, marks-nothing}
use Rattle.ro_races.proofs.atomics.mark_word.Goals as goal

pub returns-then-watched-eq0-clause-marks : goal.returns-then-watched-eq0-clause-marks
returns-then-watched-eq0-clause-marks c =
    let reads = reads_of c.args.atomics.now in
    let writes = writes_of c.args.atomics.now in
    subst (λ (w : Watched). MarksAll reads writes w c.args.thread c.args.place reads writes) (sym (as_one-none c.args.watched.now c.if-watched-eq0.true)) (marks-nothing reads writes c.args.watched.now c.args.thread c.args.place)

pub returns-clause-marks : goal.returns-clause-marks
returns-clause-marks c = marks-word _ _ _ _ _ _ c.args.watched.now c.args.thread c.args.place c.if-watched-eq0.false c.in_ok-tables.ensures.read c.in_ok-tables.ensures.written c.in_ok-mark.ensures.marks c.in_ok-mark-2.ensures.marks
