use Rattle.std.proofs.Common.{ℕ, ◌≡◌, ◌+◌, ◌≤◌, ◌<◌, ◌⊎◌, subst, ap, arith}
use Rattle.ro_races.specs.Seen.{seen_by}
use Rattle.ro_races.specs.Shadows.{marks_at}
use Rattle.ro_races.proofs.Tables.{none-there, first-there, no-hit-more, no-hit-none}
use Rattle.ro_races.proofs.shadows.first_hit.Goals as goal

pub loop-offset-init : goal.loop-offset-init
loop-offset-init c = no-hit-none c.args.table.now.items c.args.stretch.place (seen_by c.args.past.now)

pub loop-offset-preserved : goal.loop-offset-preserved
loop-offset-preserved c =
    let at : c.from-in-loop-offset.result + c.loop-offset.offset ≡ c.args.stretch.place + c.loop-offset.offset = ap (λ (x : ℕ). x + c.loop-offset.offset) c.from-in-loop-offset.ensures in
    let above = subst (λ (b : ℕ). (thread : ℕ) → (marks_at c.args.table.now.items b thread ≤ seen_by c.args.past.now thread) ⊎ (marks_at c.args.table.now.items b thread ≤ c.latest-mark.result)) at c.latest-mark.ensures.above in
    let alike = subst (λ (b : ℕ). (x thread : ℕ) → b ≤ x → x < b + c.alike-offset.result → marks_at c.args.table.now.items x thread ≡ marks_at c.args.table.now.items b thread) at c.alike-offset.ensures.same in
    none-there c.args.table.now.items c.args.stretch.place c.loop-offset.offset (seen_by c.args.past.now) c.loop-offset.invariant c.latest-mark.result above c.alike-offset.result alike c.if-mark-gt0.false

pub returns-then-mark-gt0 : goal.returns-then-mark-gt0
returns-then-mark-gt0 c =
    let at : c.from-in-loop-offset.result + c.loop-offset.offset ≡ c.args.stretch.place + c.loop-offset.offset = ap (λ (x : ℕ). x + c.loop-offset.offset) c.from-in-loop-offset.ensures in
    rw at
    (first-there c.args.table.now.items c.args.stretch.place c.loop-offset.offset (seen_by c.args.past.now) c.loop-offset.invariant c.latest-mark.result (rw at at c.latest-mark.ensures.above) c.args.stretch.count (let e = c.from.ensures in let f = c.loop-offset-test.true in omega arith) c.if-mark-gt0.true (rw at at c.latest-mark.ensures.found))

pub returns : goal.returns
returns c = no-hit-more c.args.table.now.items c.args.stretch.place c.loop-offset.offset c.args.stretch.count (seen_by c.args.past.now) (let e = c.from.ensures in let f = c.loop-offset-test.false in omega arith) c.loop-offset.invariant
