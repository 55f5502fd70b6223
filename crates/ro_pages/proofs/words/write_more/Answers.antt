use Rattle.std.proofs.Common.{arith, refl, ap, ap₂, ◌∙◌, inl, ℕ, ◌≡◌, ◌+◌, ◌-◌, ◌*◌, ◌/◌, List, length, take, drop}
use Rattle.std.proofs.lemmas.List.{take-take}
use Rattle.ro_pages.specs.Bytes.{stored}
use Rattle.ro_pages.specs.Words.{byte_in_words}
use Rattle.ro_pages.proofs.Stretches.{stored_number, one_byte}
use Rattle.ro_pages.proofs.words.write_more.Goals as goal

pub returns-then-count-gt0-clause-written : goal.returns-then-count-gt0-clause-written
returns-then-count-gt0-clause-written c =
    let count : ℕ = (length c.args.bytes.now - c.args.done) / 4 in
    let place : 4 * ((c.args.offset + c.args.done) / 4) ≡ c.args.offset + c.args.done = omega arith in
    let all : 4 * count ≡ c.args.done + 4 * count - c.args.done = omega arith in
    c.write_words.ensures
    ∙ ap (λ (ys : List ℕ). stored (byte_in_words c.args.words.now) (4 * ((c.args.offset + c.args.done) / 4)) ys) (take-take (4 * count) (length c.args.bytes.now - c.args.done) (drop c.args.done c.args.bytes.now) (omega arith))
    ∙ ap₂ (λ (a n : ℕ). stored (byte_in_words c.args.words.now) a (take n (drop c.args.done c.args.bytes.now))) place all

pub returns-else-place-eq0-clause-written : goal.returns-else-place-eq0-clause-written
returns-else-place-eq0-clause-written c =
    stored_number _ _ _ 1 _ _ (inl refl)
    (one_byte c.args.bytes.now c.args.done (c.args.done + 1) c.from.result c.requires.more refl c.from.ensures (omega (arith, c.type_inv.bytes c.args.done)))
    c.store_in.ensures
