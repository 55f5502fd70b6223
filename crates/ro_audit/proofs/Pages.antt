-- The words of a page that is compared.
use Rattle.std.proofs.Common.{◌≡◌, ℕ, ◌+◌, ◌*◌, ◌%◌, ◌<◌, Bool, true, false, ◌&&◌, Some, None, refl, ap, ◌∙◌, arith, eq-eqb}
use Rattle.std.specs.Prelude.{◌==◌, is_some, if◌then◌else◌}
use Rattle.ro_pages.specs.Bytes.{page_of, number_at}
use Rattle.ro_replica.specs.Replica.{Replica, word_at}

module _ (replica : Replica) (page place : ℕ) (low : place < 1024) where
  word-is : (b : Bool) → replica.backed page ≡ b → word_at replica (page * 4096 + 4 * place) ≡ (if b then Some (number_at replica.memory (page * 4096 + 4 * place) 4) else None)
  word-is b e =
      let aligned : ((page * 4096 + 4 * place) % 4 == 0) ≡ true = eq-eqb ((page * 4096 + 4 * place) % 4) 0 (omega arith) in
      let at : page_of (page * 4096 + 4 * place) ≡ page = omega arith in
      ap (λ (a : Bool). if a && replica.backed (page_of (page * 4096 + 4 * place)) then Some (number_at replica.memory (page * 4096 + 4 * place) 4) else None) aligned
      ∙ ap (λ (a : Bool). if a then Some (number_at replica.memory (page * 4096 + 4 * place) 4) else None) (ap replica.backed at ∙ e)

-- its first word is there where it is backed
pub first-word : (replica : Replica) (page : ℕ) → is_some (word_at replica (page * 4096)) ≡ replica.backed page
first-word replica page = ap (λ (a : ℕ). is_some (word_at replica a)) (let e : page * 4096 ≡ page * 4096 + 4 * 0 = omega arith in e) ∙ by (replica.backed page) refl
  where
    by : (b : Bool) → replica.backed page ≡ b → is_some (word_at replica (page * 4096 + 4 * 0)) ≡ b
    by true e = ap is_some (word-is replica page 0 (omega arith) true e)
    by false e = ap is_some (word-is replica page 0 (omega arith) false e)

-- the words of a page below a place are the same in two replicas
abbrev pub AreSameTo : (one other : Replica) → (page n : ℕ) → Type 0
AreSameTo one other page n = (place : ℕ) → place < n → word_at one (page * 4096 + 4 * place) ≡ word_at other (page * 4096 + 4 * place)
