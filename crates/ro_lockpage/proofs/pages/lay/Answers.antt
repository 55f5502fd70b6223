use Rattle.std.proofs.Common.{◌∷◌, [], ℕ, List, sym, ◌∙◌, subst}
use Rattle.ro_lockpage.specs.Hands.{fresh_hands}
use Rattle.ro_lockpage.specs.Seats.{Kept, holding}
use Rattle.ro_lockpage.proofs.Moves.{begins}
use Rattle.ro_lockpage.proofs.pages.lay.Goals as goal

pub of_words-requires : goal.of_words-requires
of_words-requires c =
    subst (λ (ws : List ℕ). Kept c.args.shape ws (holding (fresh_hands 0 8) ∷ [])) (sym (c.as_slice.ensures.value ∙ c.in_ok-zeros.ensures.items_if_clones_equal (λ y h. h))) (begins c.args.shape)
