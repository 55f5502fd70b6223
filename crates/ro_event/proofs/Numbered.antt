-- Each cause of a trap has a number of its own.
use Rattle.std.specs.Prelude.{◌≡◌, ℕ, Bool, true, false, cond, ◌&&◌, ◌==◌, nat_le, List, [], ◌∷◌, Option, Some, None, find}
use Rattle.std.proofs.Common.{refl, sym, ap, ◌∙◌, subst}
use Rattle.std.proofs.lemmas.Bool.{eqb-true, true≢false}
use Rattle.ro_event.specs.declared.traps.TrapCause.{TrapCause}
use Rattle.ro_event.specs.declared.traps.TrapCause.TheVariants.{MisalignedPc}
use Rattle.ro_event.specs.Traps.{number_of, causes, trap_of}

pub trap-back : (cause : TrapCause) → trap_of (number_of cause) ≡ Some cause
unfolding trap_of
trap-back MisalignedPc = refl
trap-back cause = refl

found : (number : ℕ) (x cause : TrapCause) (rest : Option TrapCause) (b : Bool) → (number_of x == number) ≡ b
    → (rest ≡ Some cause → number_of cause ≡ number) → cond b (Some x) rest ≡ Some cause → number_of cause ≡ number
found number x cause rest true p again e = ap number_of (sym (let f : Some x ≡ Some cause = e in cc)) ∙ eqb-true (number_of x) number p
found number x cause rest false p again e = again e

found-once : (number : ℕ) (cause : TrapCause) (xs : List TrapCause) → find (λ c. number_of c == number) xs ≡ Some cause → number_of cause ≡ number
found-once number cause [] e = absurd (let f : None ≡ Some cause = e in cc)
found-once number cause (x ∷ xs) e =
    found number x cause (find (λ c. number_of c == number) xs) (number_of x == number) refl (found-once number cause xs) e

pub trap-once : (number : ℕ) (cause : TrapCause) → trap_of number ≡ Some cause → number_of cause ≡ number
unfolding trap_of
trap-once number cause e = found-once number cause causes e

pub number-within : (cause : TrapCause) → (nat_le 1 (number_of cause) && nat_le (number_of cause) 9) ≡ true
number-within MisalignedPc = refl
number-within cause = refl

-- and no other number has a cause
pub none-beyond : (number : ℕ) → (nat_le 1 number && nat_le number 9) ≡ false → trap_of number ≡ None
none-beyond number beyond = by (trap_of number) refl
  where
    by : (found : Option TrapCause) → trap_of number ≡ found → found ≡ None
    by None e = refl
    by (Some cause) e = absurd (true≢false (sym (subst (λ n. (nat_le 1 n && nat_le n 9) ≡ true) (trap-once number cause e) (number-within cause)) ∙ beyond))

pub ruleset trap_laws = (trap-back, trap-once)
