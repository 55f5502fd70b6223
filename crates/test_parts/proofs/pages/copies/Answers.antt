use Rattle.std.proofs.Common.{ap, sym, ◌∙◌, ◌==◌}
use Rattle.std.specs.Prelude.{◌||◌}
use Rattle.ro_pages.specs.Held.{has_page}
use Rattle.test_parts.proofs.pages.copies.Goals as goal

pub copy_from-first-requires : goal.copy_from-first-requires
copy_from-first-requires g c page =
    let to = c.reserve-2.ensures.pages ∙ c.in_ok-to.ensures.pages in
    let from = c.reserve.ensures.pages ∙ c.in_ok-from.ensures.pages in
    ap (λ f. f page) c.store-2.ensures.pages ∙ (c.back-2.ensures.backed page ∙ ap (λ m. (page == 16) || has_page m page) (to ∙ sym from)
    ∙ sym (ap (λ f. f page) c.store.ensures.pages ∙ c.back.ensures.backed page))

pub copy_from-second-requires : goal.copy_from-second-requires
copy_from-second-requires g c page = ap (λ m. has_page m page) c.copy_from-first.ensures.pages
