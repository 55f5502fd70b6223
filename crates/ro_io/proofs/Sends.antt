-- What a sink holds after more pieces.
use Rattle.std.proofs.Common.{◌≡◌, ℕ, ◌+◌, ◌≤◌, List, [], ◌++◌, length, take, drop, Option, Some, None, refl, sym, ap, ◌∙◌, append_assoc, append-nil}
use Rattle.std.proofs.Math.Seq.{take-add}
use Rattle.std.proofs.lemmas.List.{take-append-drop, take-append-le}
use Rattle.ro_io.specs.Outside.{more}

pub more-more : (held : Option (List ℕ)) (one other : List ℕ) → more (more held one) other ≡ more held (one ++ other)
more-more None one other = refl
more-more (Some bytes) one other = ap (λ (xs : List ℕ). Some xs) (append_assoc bytes one other)

pub more-none : (held : Option (List ℕ)) → more held [] ≡ held
more-none None = refl
more-none (Some bytes) = ap (λ (xs : List ℕ). Some xs) (append-nil bytes)

-- the front that was sent, with a piece more
pub sent-more : (bytes : List ℕ) (sent taken left : ℕ) → taken ≤ length (take left (drop sent bytes)) → take (sent + taken) bytes ≡ take sent bytes ++ take taken (take left (drop sent bytes))
sent-more bytes sent taken left few =
    take-add sent taken bytes
    ∙ ap (λ (xs : List ℕ). take sent bytes ++ xs)
    (ap (take taken) (sym (take-append-drop left (drop sent bytes))) ∙ take-append-le taken (take left (drop sent bytes)) (drop left (drop sent bytes)) few)
