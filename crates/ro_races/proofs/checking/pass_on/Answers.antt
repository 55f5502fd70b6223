use Rattle.std.proofs.Common.{Option, sym, ◌∙◌, subst}
use Rattle.ro_races.specs.declared.sources.Source.{Source}
use Rattle.ro_races.specs.Seen.{known_in, PassesOn}
use Rattle.ro_races.proofs.Rows.{keeps-in}
use Rattle.ro_races.proofs.checking.pass_on.Goals as goal

pub returns-in_ok-pass_to : goal.returns-in_ok-pass_to
returns-in_ok-pass_to c =
    let words = c.args.words.now.entries in
    subst (λ (o : Option Source). PassesOn (known_in c.args.rows.now.items words) c.args.thread o c.args.past.now (known_in c.pass_to.new.rows.items c.pass_to.new.words.entries)) (sym c.in-Some.is ∙ c.passes_to.ensures)
    (known_in c.keep.new.rows.items words, keeps-in c.args.rows.now.items c.keep.new.rows.items words c.args.past.now c.args.thread c.in_ok-keep.ensures, c.in_ok-pass_to.ensures)

pub returns-in_default : goal.returns-in_default
returns-in_default c =
    let words = c.args.words.now.entries in
    subst (λ (o : Option Source). PassesOn (known_in c.args.rows.now.items words) c.args.thread o c.args.past.now (known_in c.keep.new.rows.items words)) (sym c.in_default.is ∙ c.passes_to.ensures)
    (keeps-in c.args.rows.now.items c.keep.new.rows.items words c.args.past.now c.args.thread c.in_ok-keep.ensures)
