use Rattle.std.proofs.Common.{◌≡◌, ◌∙◌, Some, None, arith, ap, sym, not, option_map, List, ℕ, Bor}
use Rattle.std.proofs.lemmas.Str.Pattern.{split_parts}
use Rattle.ro_words.specs.Uses.{after_dashes}
use Rattle.ro_words.proofs.Looks.{no_dashes, with_name, with_value}
use Rattle.ro_words.proofs.shapes.is_word.Goals as goal

pub returns-in-Some-split_once : goal.returns-in-Some-split_once
returns-in-Some-split_once c =
    let rest : after_dashes c.args.word.now ≡ Some c.in-Some.option.now = sym c.option_in.ensures ∙ ap (option_map (λ (t : Bor (List ℕ)). t.now)) c.in-Some.is in
    let parts = split_parts 61 c.in-Some.option.now (Some (c.in-Some-split_once.field-0-0, c.in-Some-split_once.value)) c.in-Some-split_once.ensures.cases (omega arith) in
    c.is_argument-in-Some-split_once.ensures ∙ sym (with_value c.args.word.now c.in-Some.option.now _ c.in-Some-split_once.value.now rest parts.0 parts.1)

pub returns-in-None : goal.returns-in-None
returns-in-None c =
    let rest : after_dashes c.args.word.now ≡ Some c.in-Some.option.now = sym c.option_in.ensures ∙ ap (option_map (λ (t : Bor (List ℕ)). t.now)) c.in-Some.is in
    let lacks = split_parts 61 c.in-Some.option.now None c.in-None.ensures.cases (omega arith) in
    ap not c.is_empty.ensures ∙ sym (with_name c.args.word.now c.in-Some.option.now rest lacks)

pub returns-in_default : goal.returns-in_default
returns-in_default c =
    let none : after_dashes c.args.word.now ≡ None = sym c.option_in.ensures ∙ ap (option_map (λ (t : Bor (List ℕ)). t.now)) c.in_default.is in
    c.is_argument.ensures ∙ sym (no_dashes c.args.word.now none)
