-- What `parse` reads, as a number between two.
use Rattle.std.proofs.Common.{◌≡◌, ◌≤◌, ◌<◌, ◌-◌, ◌^◌, ℕ, arith, Some, None, Ok, Err, refl, ap, true, false, inl, inr, subst}
use Rattle.std.specs.Prelude.{Result}
use Rattle.std.specs.Result.{result_ok}
use Rattle.std.specs.Str.Parse.{ParsesUnsigned, digits_value, without_leading_plus}
use Rattle.std.proofs.lemmas.Bool.{cases_Bool}
use Rattle.std.proofs.lemmas.Result.{OkIff-at_err, OkIff-at_ok}
use Rattle.clap.specs.Values.{IsUnsignedIn}
use Rattle.clap.specs.ValueTests.{is_unsigned_in}
use Rattle.clap.specs.declared.builder.value_parser.ValueParser.TheVariants as vp
use Rattle.clap.proofs.ValueTestLemmas.{Accepts-accepts, accepts-Accepts}
use Rattle.ro_words.specs.Commands.{number_in}
use Rattle.ro_words.specs.Uses.{Text}

number_read : {E : Type 0} (text : Text) (r : Result ℕ E) (n least most : ℕ) → ParsesUnsigned 64 10 text r → r ≡ Ok n → least ≤ n → n ≤ most
    → Some n ≡ number_in least most text
number_read text r n least most parses is low high =
    let read = OkIff-at_ok r _ _ n parses is in
    let v = digits_value 10 (without_leading_plus text) in
    let fits : IsUnsignedIn least most text = (read.0.0, read.0.1, subst (λ (x : ℕ). least ≤ x) read.1 low, subst (λ (x : ℕ). x ≤ most) read.1 high) in
    let accepted : is_unsigned_in least most text ≡ true = Accepts-accepts false (vp.Unsigned least most) text fits in
    rw accepted (ap (λ (x : ℕ). Some x) read.1)

number_unread : {E : Type 0} (text : Text) (r : Result ℕ E) (e : E) (least most : ℕ) → ParsesUnsigned 64 10 text r → r ≡ Err e
    → None ≡ number_in least most text
number_unread text r e least most parses is = elim (cases_Bool (is_unsigned_in least most text)) [
  | inl accepted ↦
      let fits = accepts-Accepts false (vp.Unsigned least most) text accepted in
      absurd (OkIff-at_err r _ _ e parses is (fits.0, fits.1))
  | inr other ↦ rw other refl
]

pub number_parsed : (E : Type 0) (text : Text) (r : Result ℕ E) → ParsesUnsigned 64 10 text r → result_ok r ≡ number_in 0 (2 ^ 64 - 1) text
number_parsed E text (Ok n) parses =
    let is : ◌≡◌ {A = Result ℕ E} (Ok n) (Ok n) = refl in
    let read = OkIff-at_ok {E = E} (Ok n) _ _ n parses is in
    let fits : digits_value 10 (without_leading_plus text) < 2 ^ 64 = read.0.1 in
    let same : n ≡ digits_value 10 (without_leading_plus text) = read.1 in
    number_read {E = E} text (Ok n) n 0 (2 ^ 64 - 1) parses is (omega arith) (omega arith)
number_parsed E text (Err e) parses =
    let is : ◌≡◌ {A = Result ℕ E} (Err e) (Err e) = refl in
    number_unread {E = E} text (Err e) e 0 (2 ^ 64 - 1) parses is
