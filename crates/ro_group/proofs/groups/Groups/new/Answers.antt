use Rattle.std.proofs.Common.{◌∙◌, ◌++◌, ◌∷◌, [], sym, ap, subst, false, length, arith}
use Rattle.std.specs.Prelude.{replicate}
use Rattle.std.proofs.lemmas.List.{length-replicate}
use Rattle.ro_group.specs.Groups.{Groups, Counts, stands}
use Rattle.ro_group.proofs.Sizes.{blank-counts, blank-stands, one-row-more}
use Rattle.ro_group.proofs.groups.Groups.new.Goals as goal

pub loop-preserved : goal.loop-preserved
loop-preserved c = c.in_ok-push.ensures.items ∙ ap (λ (rows : Groups). rows ++ replicate 16 false ∷ []) c.loop.invariant ∙ one-row-more c.loop.counter

pub invariant_of-result : goal.invariant_of-result
invariant_of-result c = subst (λ (rows : Groups). Counts rows (replicate 16 0)) (sym c.loop.invariant) (blank-counts c.loop.counter)

pub returns-clause-count : goal.returns-clause-count
returns-clause-count c = ap (λ (rows : Groups). length rows) c.loop.invariant ∙ length-replicate c.loop.counter (replicate 16 false) ∙ (let ends = c.loop-test.false in let most = c.loop.auto.counter-end in omega arith)

pub returns-clause-none : goal.returns-clause-none
returns-clause-none c replica thread = ap (λ (rows : Groups). stands rows replica thread) c.loop.invariant ∙ blank-stands c.loop.counter replica thread
