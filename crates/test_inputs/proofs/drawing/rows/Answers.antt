use Rattle.std.proofs.Common.{arith}
use Rattle.ro_inject.proofs.Places.{three-are}
use Rattle.test_inputs.proofs.drawing.rows.Goals as goal

pub draw-requires : goal.draw-requires
draw-requires c = λ l.
    let a = l.range.ensures in
    let b = l.range-2.ensures in
    let d = l.range-3.ensures in
    three-are l.range.result l.range-2.result l.range-3.result (omega (arith, a.length)) (omega (arith, a.length, b.length, d.length)) (omega (arith, a.start, a.length)) (omega (arith, b.start, b.length)) (omega (arith, d.start, d.length))
