use Rattle.std.proofs.Common.{arith, ap, subst, sym, ◌∙◌, ◌≡◌, ◌%◌}
use Rattle.ro_pages.specs.Words.{byte_in_words, after_store}
use Rattle.ro_pages.proofs.WordParts.{half_stored}
use Rattle.ro_pages.proofs.words.store_in.Goals as goal

pub returns-in-2 : goal.returns-in-2
returns-in-2 c i =
    half_stored c.args.words.now c.args.offset c.args.value c.with_half.result i (omega arith) (subst (λ size. c.args.offset % size ≡ 0) c.in-2.is c.requires.aligned) c.with_half.ensures
    ∙ ap (λ size. after_store (byte_in_words c.args.words.now) c.args.offset size c.args.value i) (sym c.in-2.is)
