use Rattle.std.proofs.Common.{rules}
use Rattle.ro_words.specs.Commands.{plan_by, to_plain}
use Rattle.ro_files.specs.Causes.{AsksFor}
use Rattle.ro_files.proofs.Asked.{races_asks, races_cause}
use Rattle.ro_top.proofs.top.raced.Goals as goal

pub returns-in-Ok-clause-asks : goal.returns-in-Ok-clause-asks
returns-in-Ok-clause-asks g c =
    let plain : AsksFor (g.S.Store.told c.args.store.now) (to_plain (plan_by c.args.command.now)) (g.S.Store.calls c.args.store.now) (g.S.Store.calls c.replay_from.new.store) c.race.result = search rules in
    races_asks (g.S.Store.told c.args.store.now) (plan_by c.args.command.now) (g.S.Store.calls c.args.store.now) (g.S.Store.calls c.replay_from.new.store) c.race.result plain

pub returns-in-Err-clause-refusal : goal.returns-in-Err-clause-refusal
returns-in-Err-clause-refusal g c = λ refusal.
    races_cause (g.S.Store.told c.args.store.now) (plan_by c.args.command.now) (g.S.Store.failures c.args.store.now) (g.S.Store.failures c.replay_from.new.store) c.in-Err.answer c.in-Err.ensures.refused
