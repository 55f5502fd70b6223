use Rattle.std.proofs.Common.{sym, subst}
use Rattle.ro_machine.proofs.Stepping.{on-ok}
use Rattle.ro_races.specs.declared.sources.Source.{Source}
use Rattle.ro_races.specs.Seen.{known_in, Passes}
use Rattle.ro_races.proofs.Rows.{passes-in, no-word}
use Rattle.ro_races.proofs.sources.pass_to.Goals as goal

pub returns-in-Word : goal.returns-in-Word
returns-in-Word c =
    let rows = c.args.rows.now.items in
    on-ok c.pass_word.result _ _ (λ h. subst (λ (s : Source). Passes (known_in rows c.args.words.now.entries) s c.args.past.now (known_in rows c.pass_word.new.words.entries)) (sym c.in-Word.is) (h rows)) c.pass_word.ensures

pub returns-in-Thread : goal.returns-in-Thread
returns-in-Thread c =
    on-ok c.pass.result _ _ (passes-in c.args.rows.now.items c.pass.new.rows.items c.args.words.now.entries c.args.past.now c.args.source (no-word c.args.source c.in-Thread.is)) c.pass.ensures
