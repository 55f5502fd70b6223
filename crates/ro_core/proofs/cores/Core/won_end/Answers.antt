use Rattle.std.proofs.Common.{◌+◌, arith}
use Rattle.ro_journal.specs.declared.How.TheVariants.{Limit}
use Rattle.ro_core.specs.Fields.{Fields}
use Rattle.ro_core.specs.Runs.{fields_of, state_of}
use Rattle.ro_core.proofs.Asked.{some-end, none-ends}
use Rattle.ro_core.proofs.Votes.{hold-within, hold-there, hold-steps, hold-over, hold-entry}
use Rattle.ro_core.proofs.cores.Core.won_end.Goals as goal

pub index-view-requires : goal.index-view-requires
index-view-requires c = omega (arith, hold-within (fields_of c.args.self.now) c.args.thread c.args.won.won c.args.won.lost c.requires.held, c.args.self.now.views.ok.0)

pub overflow_sub-self : goal.overflow_sub-self
overflow_sub-self c = hold-steps (fields_of c.args.self.now) c.args.thread c.args.won.won c.args.won.lost c.requires.held

pub returns-then-next-self : goal.returns-then-next-self
returns-then-next-self c other =
    let f : Fields = fields_of c.args.self.now in
    let view = c.index-view.result.now in
    let low = hold-steps f c.args.thread c.args.won.won c.args.won.lost c.requires.held in
    let over = c.if-next-self.true in
    let ends = hold-over f c.args.thread c.args.won.won c.args.won.lost c.requires.held view (hold-there f c.args.thread c.args.won.won c.args.won.lost c.requires.held view c.index-view.ensures) c.of-coming.result.did (c.from.result + c.steps.result)
    c.of-coming.ensures.did
    (let a = c.since-count.ensures in let b = c.from.ensures in let d = c.steps.ensures in omega arith) (omega arith)
    in
    some-end f.job (state_of c.args.self.now) c.args.thread (Limit f.steps (c.from.result + c.steps.result)) ends.1 other

pub returns : goal.returns
returns c other =
    let f : Fields = fields_of c.args.self.now in
    let view = c.index-view.result.now in
    let low = hold-steps f c.args.thread c.args.won.won c.args.won.lost c.requires.held in
    let under = c.if-next-self.false in
    none-ends f.job (state_of c.args.self.now) c.args.thread c.since-count.result c.args.won.won c.args.won.lost c.of-coming.result.did
    (hold-entry f c.args.thread c.args.won.won c.args.won.lost c.requires.held view (hold-there f c.args.thread c.args.won.won c.args.won.lost c.requires.held view c.index-view.ensures) c.of-coming.result.did c.since-count.result (c.from.result + c.steps.result)
    c.of-coming.ensures.did
    c.since-count.ensures (let a = c.since-count.ensures in let b = c.from.ensures in let d = c.steps.ensures in omega arith) (omega arith))
    other
