use Rattle.std.proofs.Common.{arith, ap, ◌∙◌, ◌≡◌, ◌+◌, ◌-◌, length, replicate, slice_index, slice_set, subst, ◌++◌}
use Rattle.std.proofs.lemmas.List.{length-set, get_or-set_same}
use Rattle.ro_takers.specs.Recalls.{Recalls, list_of}
use Rattle.ro_takers.proofs.Noting.{rank_is, noted_more}
use Rattle.ro_takers.proofs.takers.Takers.note.Goals as goal

pub loop-preserved : goal.loop-preserved
loop-preserved c =
    let ranks = c.loop.self.ranks in
    let counted = c.loop.invariant.counted in
    record {
      count = ap length c.note_one.ensures.ranks ∙ length-set ranks c.args.number (slice_index ranks c.args.number + 1) ∙ c.loop.invariant.count;
      counted = ap (λ rs. slice_index rs c.args.number) c.note_one.ensures.ranks ∙ get_or-set_same ranks c.args.number (slice_index ranks c.args.number + 1) 0 (omega arith) ∙ ap (λ n. n + 1) counted;
      from = omega arith;
      upto = omega arith;
      lists = λ lists recalls. noted_more lists c.args.self.now c.loop.self c.note_one.new.self c.args.number c.loop.counter c.args.thread recalls c.requires.number c.loop.invariant.from (c.loop.invariant.lists lists recalls) c.note_one.ensures.lists;
      room = c.note_one.ensures.room ∙ c.loop.invariant.room;
    }

-- what the loop counted to is the rank, or it began past it
pub returns-clause-lists : goal.returns-clause-lists
returns-clause-lists c lists recalls =
    let its = rank_is lists c.args.self.now c.args.number recalls c.requires.number in
    let long = its.1 in
    let count : c.loop.counter - length (list_of lists c.args.number) ≡ c.args.rank - length (list_of lists c.args.number) = omega arith in
    subst (λ n. Recalls (slice_set lists c.args.number (list_of lists c.args.number ++ replicate n c.args.thread)) c.loop.self) count (c.loop.invariant.lists lists recalls)
