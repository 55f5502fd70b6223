use Rattle.std.proofs.Common.{◌≡◌, ◌∙◌, ap, sym, drop, List, ℕ, Bor, rules, ◌∷◌}
use Rattle.std.specs.List.{list_all}
use Rattle.std.proofs.lemmas.List.Folds.{list_all-map}
use Rattle.ro_words.specs.Uses.{is_word, texts_of}
use Rattle.ro_words.proofs.shapes.are_words.Goals as goal

pub returns-in-Some : goal.returns-in-Some
returns-in-Some c =
    let words : c.args.words.now ≡ c.in-Some.field-0-0.now ∷ c.in-Some.rest.now = search rules in
    c.all_are_words.ensures ∙ sym (list_all-map is_word (λ (w : Bor (List ℕ)). w.now) c.in-Some.rest.now)
    ∙ ap (λ (l : List (Bor (List ℕ))). list_all is_word (drop 1 (texts_of l))) (sym words)
