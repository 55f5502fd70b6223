use Rattle.std.proofs.Common.{◌≡◌, ◌<◌, ℕ, false, sym, ◌∙◌, subst, arith}
use Rattle.std.specs.Prelude.{◌&&◌, ◌==◌, not, None, slice_index_or}
use Rattle.std.proofs.lemmas.Bool.{and_left, and_right}
use Rattle.ro_kernel.specs.Kernel.{lives_on}
use Rattle.ro_core.specs.Fields.{seat_unstopped}
use Rattle.ro_core.specs.Runs.{fields_of}
use Rattle.ro_core.proofs.Going.{another-found, another-none, goes_by, is-another, none-more, not-another}
use Rattle.ro_core.proofs.cores.Core.another_goes.Goals.{else-other-thread-via-then-other-thread+then-lives_on+else-is_unstopped, else-other-thread-via-then-other-thread+else-lives_on, else-other-thread-via-else-other-thread}
use Rattle.ro_core.proofs.cores.Core.another_goes.Goals as goal

pub loop-other-init : goal.loop-other-init
loop-other-init c k less = absurd (omega (arith, less))

pub returns-then-is_unstopped : goal.returns-then-is_unstopped
returns-then-is_unstopped c value there =
    let lives = sym c.lives_on.ensures ∙ c.if-lives_on.true in
    let unstopped = sym c.is_unstopped.ensures ∙ c.if-is_unstopped.true in
    another-found (fields_of c.args.self.now) c.requires.holds c.args.replica c.args.thread c.requires.seat value there c.loop-other.other
    (subst (λ (n : ℕ). c.loop-other.other < n) c.made-other-end.ensures.made c.loop-other-test.true)
    (is-another c.loop-other.other c.args.thread _ _ c.if-other-thread.true lives unstopped)

pub loop-other-preserved : goal.loop-other-preserved
loop-other-preserved c =
    let seats = c.args.self.now.seats.homes.items in
    let kernel = c.args.self.now.kernel.kernel in
    let k = c.loop-other.other in
    let its : goes_by seats kernel c.args.replica c.args.thread k ≡ false = elim c.else-other-thread.branch [
      | else-other-thread-via-then-other-thread+then-lives_on+else-is_unstopped w ↦ and_right (not (k == c.args.thread)) (lives_on kernel k && seat_unstopped k (slice_index_or seats c.args.replica None)) (and_right (lives_on kernel k) (seat_unstopped k (slice_index_or seats c.args.replica None)) (sym w.is_unstopped.ensures ∙ w.if-is_unstopped.false))
      | else-other-thread-via-then-other-thread+else-lives_on w ↦ and_right (not (k == c.args.thread)) (lives_on kernel k && seat_unstopped k (slice_index_or seats c.args.replica None)) (and_left (lives_on kernel k) (seat_unstopped k (slice_index_or seats c.args.replica None)) (sym w.lives_on.ensures ∙ w.if-lives_on.false))
      | else-other-thread-via-else-other-thread w ↦ not-another k c.args.thread (lives_on kernel k) (seat_unstopped k (slice_index_or seats c.args.replica None)) w.if-other-thread.false
    ] in
    none-more (goes_by seats kernel c.args.replica c.args.thread) k c.loop-other.invariant its

pub returns : goal.returns
returns c value there =
    another-none (fields_of c.args.self.now) c.requires.holds c.args.replica c.args.thread c.requires.seat value there
    (λ k less. c.loop-other.invariant k (omega (arith, less, c.made-other-end.ensures.made, c.loop-other-test.false, c.loop-other.auto.other-end)))
