use Rattle.std.proofs.Common.{arith}
use Rattle.ro_pages.proofs.Shorts.{one_past, stands_at}
use Rattle.ro_pages.proofs.short.place_of.Goals as goal

pub returns-then-numbers-i-clause-found : goal.returns-then-numbers-i-clause-found
returns-then-numbers-i-clause-found c = λ within. stands_at _ _ _ within c.if-numbers-i.true

pub returns-then-numbers-i-clause-first : goal.returns-then-numbers-i-clause-first
returns-then-numbers-i-clause-first c = c.loop-i.invariant.before

pub loop-i-preserved : goal.loop-i-preserved
loop-i-preserved c = record { before = one_past _ _ _ c.loop-i.invariant.before c.if-numbers-i.false }

pub returns-clause-first : goal.returns-clause-first
returns-clause-first c = λ other less. c.loop-i.invariant.before other (omega (arith, c.loop-i.auto.i-end))
