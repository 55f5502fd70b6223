use Rattle.std.proofs.Common.{Bool, true≢false, sym, ap₂, ◌∙◌}
use Rattle.std.specs.Prelude.{◌&&◌, None, slice_index_or}
use Rattle.ro_kernel.specs.Kernel.{lives_on}
use Rattle.std.proofs.lemmas.Bool.{and_left, and_right}
use Rattle.ro_legal.specs.Core.{offers}
use Rattle.ro_core.specs.Fields.{core_in, seat_unstopped}
use Rattle.ro_core.specs.Runs.{fields_of}
use Rattle.ro_core.proofs.Going.{goes-there}
use Rattle.ro_core.proofs.Tests.{lendable-at}
use Rattle.ro_core.proofs.cores.Core.is_lendable.Goals.{then-is_unstopped, else-is_unstopped}
use Rattle.ro_core.proofs.cores.Core.is_lendable.Goals as goal

pub offers-requires-clause-seat : goal.offers-requires-clause-seat
offers-requires-clause-seat c =
    goes-there (fields_of c.args.self.now) c.requires.holds c.args.replica c.args.thread c.requires.replica (elim c.if-is_unstopped.branch [
      | then-is_unstopped w ↦ sym c.is_unstopped.ensures ∙ w.if-is_unstopped.true
      | else-is_unstopped w ↦ absurd (true≢false (sym c.if-lives_on.true ∙ w.value-is ∙ w.if-is_unstopped.false))
    ])

pub returns-then-lives_on : goal.returns-then-lives_on
returns-then-lives_on c =
    let lends = offers (core_in (fields_of c.args.self.now)) c.args.replica c.args.thread in
    c.offers.ensures
    ∙ elim c.if-is_unstopped.branch [
      | then-is_unstopped w ↦ ap₂ (λ (a b : Bool). a && (b && lends)) (sym w.if-is_unstopped.true ∙ c.is_unstopped.ensures) (sym c.if-lives_on.true ∙ w.value-is ∙ w.lives_on.ensures)
      | else-is_unstopped w ↦ absurd (true≢false (sym c.if-lives_on.true ∙ w.value-is ∙ w.if-is_unstopped.false))
    ]
    ∙ lendable-at (fields_of c.args.self.now) c.requires.holds c.args.replica c.args.thread c.requires.replica

pub returns-else-lives_on : goal.returns-else-lives_on
returns-else-lives_on c =
    let seats = c.args.self.now.seats.homes.items in
    let lives = lives_on c.args.self.now.kernel.kernel c.args.thread in
    let lends = offers (core_in (fields_of c.args.self.now)) c.args.replica c.args.thread in
    c.if-lives_on.false
    ∙ sym (elim c.if-is_unstopped.branch [
      | then-is_unstopped w ↦ and_right (seat_unstopped c.args.thread (slice_index_or seats c.args.replica None)) (lives && lends) (and_left lives lends (sym w.lives_on.ensures ∙ sym w.value-is ∙ c.if-lives_on.false))
      | else-is_unstopped w ↦ and_left (seat_unstopped c.args.thread (slice_index_or seats c.args.replica None)) (lives && lends) (sym c.is_unstopped.ensures ∙ w.if-is_unstopped.false)
    ])
    ∙ lendable-at (fields_of c.args.self.now) c.requires.holds c.args.replica c.args.thread c.requires.replica
