-- The pieces that a text is put together from.
use Rattle.std.proofs.Common.{◌≡◌, ℕ, ◌-◌, ◌^◌, List, [], ◌++◌, false, Option, Some, Result, IfOk, IfSome, codes, length, append_assoc, ap, subst, ◌∙◌, arith}
use Rattle.std.specs.Prelude.{replicate}
use Rattle.std.specs.Fmt.{format_spec, padded_integral, char_count, number_padding}
use Rattle.std.proofs.lemmas.List.{append-nil}
use Rattle.ro_assembly.specs.Texts.{two, three}

-- a text is what its pieces are
pub is_text : {S E : Type 0} (view : S → List ℕ) (r : Result S E) (pieces : Option (List ℕ)) (text : List ℕ) → pieces ≡ Some text → IfOk r (λ s. IfSome pieces (λ bs. view s ≡ bs)) → IfOk r (λ s. view s ≡ text)
is_text view r pieces text e h = subst (λ (o : Option (List ℕ)). IfOk r (λ s. IfSome o (λ bs. view s ≡ bs))) e h

-- `{:08x}` of a number
pub padded_eight : (numeral : List ℕ) → padded_integral (format_spec 32 0 4 8 (2 ^ 64 - 1)) false [] numeral ≡ replicate (8 - length numeral) 48 ++ numeral
unfolding padded_integral char_count
padded_eight numeral =
    let short : number_padding (format_spec 32 0 4 8 (2 ^ 64 - 1)) false [] (length numeral) ≡ 8 - length numeral = omega arith in
    ap (λ (k : ℕ). replicate k 48 ++ (numeral ++ [])) short ∙ ap (λ (l : List ℕ). replicate (8 - length numeral) 48 ++ l) (append-nil numeral)

pub two_joined : (name one other : List ℕ) → name ++ (codes " " ++ (one ++ (codes ", " ++ other))) ≡ two name one other
two_joined name one other = simp append_assoc

pub three_joined : (name one second third : List ℕ) → name ++ (codes " " ++ (one ++ (codes ", " ++ (second ++ (codes ", " ++ third))))) ≡ three name one second third
three_joined name one second third = simp append_assoc

pub based_joined : (name one offset base : List ℕ) → name ++ (codes " " ++ (one ++ (codes ", " ++ (offset ++ (codes "(" ++ (base ++ codes ")")))))) ≡ two name one (offset ++ codes "(" ++ base ++ codes ")")
based_joined name one offset base = simp append_assoc

pub pointing_joined : (name one base : List ℕ) → name ++ (codes " " ++ (one ++ (codes ", (" ++ (base ++ codes ")")))) ≡ two name one (codes "(" ++ base ++ codes ")")
pointing_joined name one base = simp append_assoc

pub two_pointing_joined : (name one second base : List ℕ) → name ++ (codes " " ++ (one ++ (codes ", " ++ (second ++ (codes ", (" ++ (base ++ codes ")")))))) ≡ three name one second (codes "(" ++ base ++ codes ")")
two_pointing_joined name one second base = simp append_assoc
