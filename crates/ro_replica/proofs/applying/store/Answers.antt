use Rattle.std.proofs.Common.{ap, sym, ◌∙◌, length, ℕ, eqb-true}
use Rattle.std.specs.Prelude.{◌||◌}
use Rattle.ro_pages.specs.Bytes.{covers_page}
use Rattle.ro_pages.specs.Held.{has_page}
use Rattle.ro_replica.specs.Replica.{is_page}
use Rattle.ro_replica.proofs.Spans.{backs_nothing, backs_stretch}
use Rattle.ro_replica.proofs.applying.store.Goals as goal

pub returns-clause-backed : goal.returns-clause-backed
returns-clause-backed c =
    backs_stretch (λ (q : ℕ). has_page c.args.pages.now.pages q || is_page c.effect.inside.page q) (has_page c.back_page.new.pages.pages) (has_page c.store_bytes.new.pages.pages) c.effect.inside.place _ (length c.effect.inside.bytes.items) (ap length c.as_slice.ensures.value) c.back_page.ensures.backed c.store_bytes.ensures.backed
    ∙ ap (λ e. λ (q : ℕ). has_page c.args.pages.now.pages q || is_page e.page q || covers_page (record { place = e.place; count = length e.bytes }) q) c.effect.view_is

pub returns-then-is_empty-clause-backed : goal.returns-then-is_empty-clause-backed
returns-then-is_empty-clause-backed c =
    backs_nothing (λ (q : ℕ). has_page c.args.pages.now.pages q || is_page c.effect.inside.page q) (has_page c.back_page.new.pages.pages) c.effect.inside.place (length c.effect.inside.bytes.items) (sym c.effect.inside.bytes.ok.0 ∙ eqb-true c.effect.inside.bytes.len 0 (sym c.if-is_empty.ensures)) c.back_page.ensures.backed
    ∙ ap (λ e. λ (q : ℕ). has_page c.args.pages.now.pages q || is_page e.page q || covers_page (record { place = e.place; count = length e.bytes }) q) c.effect.view_is
