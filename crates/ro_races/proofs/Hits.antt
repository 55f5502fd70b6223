-- The better of two hits.
use Rattle.std.specs.Prelude.{◌≡◌, ℕ, ◌⊎◌, Option, Some, None}
use Rattle.std.proofs.Common.{refl, sym, subst, arith, inl, inr, ⊎_elim}
use Rattle.ro_races.specs.declared.shadows.Hit.{Hit}
use Rattle.ro_races.specs.Shadows.{NotBefore, NotLater, IsFirstOf, IsBetter}

-- what is no sooner than a hit is no sooner than one that is no later
not-before : (a b : Hit) (mark byte : ℕ) → NotBefore a b.mark b.byte → NotBefore b mark byte → NotBefore a mark byte
not-before a b mark byte (inl f) (inl g) = inl (omega arith)
not-before a b mark byte (inl f) (inr (e, g)) = inl (omega arith)
not-before a b mark byte (inr (d, f)) (inl g) = inl (omega arith)
not-before a b mark byte (inr (d, f)) (inr (e, g)) = inr (omega arith, omega arith)

covers : (P : ℕ → ℕ → Type 0) (best o : Option Hit) → IsFirstOf P o → NotLater best o → (mark byte : ℕ) → P mark byte → (b : Hit) → best ≡ Some b → NotBefore b mark byte
covers P best None first later mark byte p b e = absurd (first mark byte p)
covers P None (Some o) first later mark byte p b e = absurd later
covers P (Some a) (Some o) first later mark byte p b e =
    let same : a ≡ b = (let f : Some a ≡ Some b = e in cc) in
    subst (λ (h : Hit). NotBefore h mark byte) same (not-before a o mark byte later (first.1 mark byte p))

none-left : (P : ℕ → ℕ → Type 0) (o : Option Hit) → IsFirstOf P o → NotLater None o → (mark byte : ℕ) → P mark byte → ⊥
none-left P None first later mark byte p = first mark byte p
none-left P (Some h) first later mark byte p = absurd later

is-first : (P : ℕ → ℕ → Type 0) (o : Option Hit) (b : Hit) → IsFirstOf P o → Some b ≡ o → P b.mark b.byte
is-first P o b first e = (subst (λ (x : Option Hit). IsFirstOf P x) (sym e) first).0

pub first-of-both : (P Q : ℕ → ℕ → Type 0) (one other best : Option Hit) → IsFirstOf P one → IsFirstOf Q other → IsBetter one other best → IsFirstOf (λ mark byte. P mark byte ⊎ Q mark byte) best
first-of-both P Q one other None f g b = λ mark byte h. ⊎_elim (none-left P one f b.than_one mark byte) (none-left Q other g b.than_other mark byte) h
first-of-both P Q one other (Some hit) f g b = (
  ⊎_elim (λ e. inl (is-first P one hit f e)) (λ e. inr (is-first Q other hit g e)) b.either,
  λ mark byte h. ⊎_elim (λ p. covers P (Some hit) one f b.than_one mark byte p hit refl) (λ q. covers Q (Some hit) other g b.than_other mark byte q hit refl) h,
)

-- the first of some, where there is none of the others
pub first-of-one : (P Q : ℕ → ℕ → Type 0) (hit : Option Hit) → IsFirstOf P hit → ((mark byte : ℕ) → Q mark byte → ⊥) → IsFirstOf (λ mark byte. P mark byte ⊎ Q mark byte) hit
first-of-one P Q None f none = λ mark byte h. ⊎_elim (f mark byte) (none mark byte) h
first-of-one P Q (Some hit) f none = (inl f.0, λ mark byte h. ⊎_elim (f.1 mark byte) (λ q. absurd (none mark byte q)) h)
