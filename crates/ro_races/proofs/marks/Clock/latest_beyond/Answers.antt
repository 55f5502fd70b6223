use Rattle.std.proofs.Common.{rules, refl, inl}
use Rattle.ro_races.proofs.Entries.{above-more, found-more, above-all}
use Rattle.ro_races.proofs.marks.Clock.latest_beyond.Goals as goal

pub loop-thread-init : goal.loop-thread-init
loop-thread-init c = record { places = search rules; above = search rules; found = inl refl }

pub loop-thread-preserved : goal.loop-thread-preserved
loop-thread-preserved c =
    let i = c.loop-thread.invariant in
    record {
      places = i.places;
      above = above-more c.args.self.now.seen c.args.past.now.seen c.loop-thread.thread c.loop-thread.latest c.if_beyond.result c.max-latest.result i.above c.if_beyond.ensures c.max-latest.ensures;
      found = found-more c.args.self.now.seen c.args.past.now.seen c.loop-thread.thread c.loop-thread.latest c.if_beyond.result c.max-latest.result i.found c.if_beyond.ensures c.max-latest.ensures;
    }

pub returns-clause-above : goal.returns-clause-above
returns-clause-above c = let i = c.loop-thread.invariant in above-all c.args.self.now.seen c.args.past.now.seen c.loop-thread.thread c.loop-thread.latest i.places c.loop-thread-test.false i.above
