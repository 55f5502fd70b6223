-- Sums of bytes as numbers of 32 bits.
use Rattle.std.proofs.Common.{◌≡◌, ◌+◌, ◌^◌, ◌%◌, ℕ, List, ◌∷◌, sym, ap, ◌∙◌, arith}
use Rattle.std.specs.Prelude.{◌*◌, ◌/◌}
use Rattle.std.proofs.lemmas.Nat.{div-add-mod', mod_below, mod-mul-add, mul-mod_first}
use Rattle.ro_report.specs.Report.{weighed}

-- whole numbers of 2^32 are left out
left_out : (a b : ℕ) → (a * 2 ^ 32 + b) % 2 ^ 32 ≡ b % 2 ^ 32
left_out a b =
    let whole : b / 2 ^ 32 * 2 ^ 32 + b % 2 ^ 32 ≡ b = div-add-mod' b (2 ^ 32) in
    let split : a * 2 ^ 32 + b ≡ (a + b / 2 ^ 32) * 2 ^ 32 + b % 2 ^ 32 = omega (arith, whole) in
    ap (λ (n : ℕ). n % 2 ^ 32) split ∙ mod-mul-add (a + b / 2 ^ 32) (2 ^ 32) (b % 2 ^ 32) (mod_below b (2 ^ 32) (omega arith))

-- one of two terms may be cut before
pub cut_first : (a b : ℕ) → (a % 2 ^ 32 + b) % 2 ^ 32 ≡ (a + b) % 2 ^ 32
cut_first a b =
    let whole : a / 2 ^ 32 * 2 ^ 32 + a % 2 ^ 32 ≡ a = div-add-mod' a (2 ^ 32) in
    let split : a + b ≡ a / 2 ^ 32 * 2 ^ 32 + (a % 2 ^ 32 + b) = omega (arith, whole) in
    sym (ap (λ (n : ℕ). n % 2 ^ 32) split ∙ left_out (a / 2 ^ 32) (a % 2 ^ 32 + b))

pub cut_second : (a b : ℕ) → (a + b % 2 ^ 32) % 2 ^ 32 ≡ (a + b) % 2 ^ 32
cut_second a b =
    let one : a + b % 2 ^ 32 ≡ b % 2 ^ 32 + a = omega arith in
    let two : b + a ≡ a + b = omega arith in
    ap (λ (n : ℕ). n % 2 ^ 32) one ∙ cut_first b a ∙ ap (λ (n : ℕ). n % 2 ^ 32) two

-- a place may be cut before
pub cut_place : (sum place byte : ℕ) → (sum + place % 2 ^ 32 * byte) % 2 ^ 32 ≡ (sum + place * byte) % 2 ^ 32
cut_place sum place byte =
    sym (cut_second sum (place % 2 ^ 32 * byte)) ∙ ap (λ (n : ℕ). (sum + n) % 2 ^ 32) (mul-mod_first place byte (2 ^ 32)) ∙ cut_second sum (place * byte)

-- one byte more
pub one_more : (total sum more place byte : ℕ) (rest behind : List ℕ) → total % 2 ^ 32 ≡ (sum + weighed place rest) % 2 ^ 32 → rest ≡ byte ∷ behind
    → more ≡ (sum + place * byte) % 2 ^ 32 → total % 2 ^ 32 ≡ (more + weighed (place + 1) behind) % 2 ^ 32
one_more total sum more place byte rest behind so_far split is =
    let parts : sum + (place * byte + weighed (place + 1) behind) ≡ (sum + place * byte) + weighed (place + 1) behind = omega arith in
    so_far ∙ ap (λ (bytes : List ℕ). (sum + weighed place bytes) % 2 ^ 32) split ∙ ap (λ (n : ℕ). n % 2 ^ 32) parts
    ∙ sym (cut_first (sum + place * byte) (weighed (place + 1) behind)) ∙ ap (λ (n : ℕ). (n + weighed (place + 1) behind) % 2 ^ 32) (sym is)
