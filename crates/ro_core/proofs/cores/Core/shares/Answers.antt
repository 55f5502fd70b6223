use Rattle.std.proofs.Common.{◌≡◌, Bool, true, false, true≢false, sym, ap₂, ◌∙◌, refl}
use Rattle.std.specs.Prelude.{◌&&◌, nat_le, slice_get}
use Rattle.std.specs.Option.{option_map_or}
use Rattle.std.proofs.lemmas.Bool.{and_left, and_right}
use Rattle.ro_replica.specs.Runs.{is_calm}
use Rattle.ro_replica.specs.Seen.{replica_of}
use Rattle.ro_legal.specs.Core.{another_goes}
use Rattle.ro_legal.specs.Parts.{most_misses}
use Rattle.ro_core.specs.Runs.{fields_of, state_of}
use Rattle.ro_core.proofs.Going.{few-is, going-home, many-is, shares-are}
use Rattle.ro_core.proofs.cores.Core.shares.Goals.{then-wish-le-MOST_MISSES, else-wish-le-MOST_MISSES}
use Rattle.ro_core.proofs.cores.Core.shares.Goals as goal

pub returns-then-another_goes : goal.returns-then-another_goes
returns-then-another_goes c sharing is =
    let f = fields_of c.args.self.now in
    let home = going-home f c.requires.holds c.args.replica c.args.thread c.requires.seat in
    let calm = option_map_or (is_calm c.args.self.now.settings.quantum c.args.thread (replica_of c.requires.seat.0)) (slice_get c.requires.seat.0.threads c.args.thread) true in
    c.is_calm.ensures c.requires.seat.0 c.requires.seat.1
    ∙ elim c.if-wish-le-MOST_MISSES.branch [
      | then-wish-le-MOST_MISSES w ↦
          ap₂ (λ (a b : Bool). a && (b && calm)) (sym (few-is c.wish.result.now.misses most_misses w.if-wish-le-MOST_MISSES.true)) (sym c.if-another_goes.true ∙ w.value-is ∙ w.another_goes.ensures home.replica home.there)
      | else-wish-le-MOST_MISSES w ↦ absurd (true≢false (sym c.if-another_goes.true ∙ w.value-is ∙ many-is c.wish.result.now.misses most_misses w.if-wish-le-MOST_MISSES.false))
    ]
    ∙ shares-are f c.requires.holds c.args.replica c.args.thread c.requires.seat sharing is c.wish.result.now c.wish.ensures (another_goes (state_of c.args.self.now) home.replica c.args.thread) calm refl refl

pub returns-else-another_goes : goal.returns-else-another_goes
returns-else-another_goes c sharing is =
    let f = fields_of c.args.self.now in
    let home = going-home f c.requires.holds c.args.replica c.args.thread c.requires.seat in
    let calm = option_map_or (is_calm c.args.self.now.settings.quantum c.args.thread (replica_of c.requires.seat.0)) (slice_get c.requires.seat.0.threads c.args.thread) true in
    let another = another_goes (state_of c.args.self.now) home.replica c.args.thread in
    let none : (nat_le c.wish.result.now.misses most_misses && (another && calm)) ≡ false = elim c.if-wish-le-MOST_MISSES.branch [
      | then-wish-le-MOST_MISSES w ↦ and_right (nat_le c.wish.result.now.misses most_misses) (another && calm) (and_left another calm (sym (w.another_goes.ensures home.replica home.there) ∙ sym w.value-is ∙ c.if-another_goes.false))
      | else-wish-le-MOST_MISSES w ↦ and_left (nat_le c.wish.result.now.misses most_misses) (another && calm) (many-is c.wish.result.now.misses most_misses w.if-wish-le-MOST_MISSES.false)
    ] in
    c.if-another_goes.false ∙ sym none
    ∙ shares-are f c.requires.holds c.args.replica c.args.thread c.requires.seat sharing is c.wish.result.now c.wish.ensures another calm refl refl
