use Rattle.std.proofs.Common.{◌≡◌, ℕ, ◌+◌, ◌*◌, ◌%◌, ◌<◌, ◌==◌, sym, ap, ◌∙◌, subst}
use mathlib.Core.Option.{none}
use prog.Atomic.{either}
use Rattle.atomic_table.specs.Table.{Allows, step}
use Rattle.ro_lockpage.specs.Ranks.{first_word, word_of}
use Rattle.ro_lockpage.specs.Seats.{Rule, Exchanges}
use Rattle.ro_lockpage.proofs.Moves.{exchanges}
use Rattle.ro_lockpage.proofs.steps.exchange.Goals as goal

pub compare_exchange-requires : goal.compare_exchange-requires
compare_exchange-requires g c =
    let r = c.requires in
    let words = c.args.words.now in
    let seat = c.args.seat.now in
    let A = g.A.Asking in
    let rows = words.key.rows in
    let place : c.args.bid.place ≡ A.at_mutex * rows + A.at_rank % rows = r.place.0 ∙ (λ i. r.asking.0 i * rows + r.asking.1 i % rows) in
    let new : c.first_of_rank.result + c.from.result ≡ word_of A.at_rank A.for_thread = λ i. (c.first_of_rank.ensures ∙ ap first_word r.asking.1) i + (c.from.ensures ∙ r.asking.2) i in (
      r.seat.0,
      r.seat.1,
      subst
          (λ (y : ℕ × ℕ × ℕ). Allows (Rule words.key) words.table_id.slots seat.id seat.me y.0 (λ n. either (n == y.1) y.2 n) (Exchanges A.at_mutex A.at_rank A.for_thread A.on_word (step words.table_id.slots y.0 y.1 y.2 none) seat.me))
          (λ i. (sym place i, sym r.asking.3 i, sym new i))
          (exchanges words.key words.table_id.slots seat.id seat.me A.at_mutex A.at_rank A.for_thread A.on_word r.one
          (subst (λ (m : ℕ). m < words.key.mutexes) r.asking.0 r.place.1)
          r.place.2
          (subst (λ (t : ℕ). t < 16) r.asking.2 r.older.0)
          (subst (λ (y : ℕ × ℕ). y.0 < first_word y.1) (λ i. (r.asking.3 i, r.asking.1 i)) r.older.1)),
    )
