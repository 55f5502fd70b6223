use Rattle.std.proofs.Common.{rules, refl}
use Rattle.ro_races.proofs.Entries.{joined-more, joined-rest, joined-all}
use Rattle.ro_races.proofs.marks.Clock.join.Goals as goal

pub loop-thread-init : goal.loop-thread-init
loop-thread-init c = record { places = search rules; whole = search rules; joined = search rules; others = λ v h. refl }

pub loop-thread-preserved : goal.loop-thread-preserved
loop-thread-preserved c =
    let i = c.loop-thread.invariant in
    record {
      places = search rules;
      whole = i.whole;
      joined = joined-more c.loop-thread.self.seen c.args.self.now.seen c.args.other.now.seen c.loop-thread.thread c.max.result i.places c.loop-thread-test.true i.joined i.others c.max.ensures;
      others = joined-rest c.loop-thread.self.seen c.args.self.now.seen c.loop-thread.thread c.max.result i.others;
    }

pub returns : goal.returns
returns c = let i = c.loop-thread.invariant in joined-all c.loop-thread.self.seen c.args.self.now.seen c.args.other.now.seen c.loop-thread.thread i.places i.whole c.loop-thread-test.false i.joined i.others
