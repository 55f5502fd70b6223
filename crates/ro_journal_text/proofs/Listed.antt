-- Losers, parted by commas.
use Rattle.std.proofs.Common.{ℕ, Bool, true, false, ◌≡◌, ◌&&◌, ◌||◌, ◌==◌, not, nat_le, List, [], ◌∷◌, Option, Some, None, Result, Ok, Err, IfOk, length, codes, cond, arith, refl, sym, ap, ◌∙◌}
use Rattle.std.specs.Char.{is_ascii_digit}
use Rattle.std.specs.List.{All, list_all, join_with_byte}
use Rattle.std.specs.Option.{option_map}
use Rattle.std.specs.Str.{bytes_eq}
use Rattle.std.proofs.lemmas.Bool.{true≢false, false≢true, and_parts, and_from, leb-true, ne_eqb}
use Rattle.std.proofs.lemmas.List.Elements.{All-nil, All-cons}
use Rattle.std.proofs.lemmas.List.Splits.{length-slice_split, slice_split_none, join_with_byte-slice_split}
use Rattle.ro_text.specs.Numbers.{are_digits, is_number, value_of, within}
use Rattle.ro_journal.specs.declared.Did.{Did}
use Rattle.ro_journal.specs.declared.How.{How}
use Rattle.ro_journal.specs.declared.losers.Lost.{Lost}
use Rattle.ro_journal.specs.declared.losers.Lost.TheVariants.{Nobody, One, Two}
use Rattle.ro_journal.specs.declared.Entry.TheVariants.{Vote, Free, Scrub, End}
use Rattle.ro_journal_text.specs.declared.versions.Version.{Version}
use Rattle.ro_journal_text.specs.declared.versions.Version.TheVariants.{First, Second}
use Rattle.ro_journal_text.specs.declared.errors.JournalCode.{JournalCode}
use Rattle.ro_journal_text.specs.declared.errors.JournalCode.TheVariants.{Form, Range}
use Rattle.ro_journal_text.specs.Reading.{has_did, listed, several_of, lost_of, how_of, free_of, end_of, is_lost, is_entry, most_replica, ranged, vote_with}

-- digits have no comma
pub no_comma : (digits : List ℕ) → are_digits digits ≡ true → All (λ (b : ℕ). (b == 44) ≡ false) digits
no_comma [] d = All-nil (λ (b : ℕ). (b == 44) ≡ false)
no_comma (digit ∷ digits) d =
    let parts = and_parts (is_ascii_digit digit) (are_digits digits) d in
    let low = and_parts (nat_le 48 digit) (nat_le digit 57) parts.0 in
    All-cons (λ (b : ℕ). (b == 44) ≡ false) digit digits (ne_eqb digit 44 (omega (arith, leb-true 48 digit low.0))) (no_comma digits parts.1)

-- the digits of a number's spelling
pub digits_of : (word : List ℕ) → is_number word ≡ true → are_digits word ≡ true
digits_of [] n = absurd (false≢true n)
digits_of (digit ∷ digits) n = (and_parts (are_digits (digit ∷ digits)) (not (digit == 48) || (length digits == 0)) n).0

-- a word that is a number is one part
one_part : (word : List ℕ) → is_number word ≡ true → listed word ≡ word ∷ []
one_part word n = slice_split_none (λ b. b == 44) word (no_comma word (digits_of word n))

-- two numbers
pub pair_listed : (word lower rest : List ℕ) → listed word ≡ lower ∷ listed rest → is_number lower ≡ true → is_number rest ≡ true → several_of (listed word) ≡ Some (Two (value_of lower) (value_of rest))
pair_listed word lower rest cut n m = ap several_of (cut ∙ ap (λ parts. lower ∷ parts) (one_part rest m)) ∙ rw (n, m) refl

-- more numbers
pub many_listed : (word lower rest : List ℕ) → listed word ≡ lower ∷ listed rest → is_number lower ≡ true → list_all is_number (listed rest) ≡ true → is_number rest ≡ false
    → Err Range ≡ ranged (is_lost Second) (several_of (listed word))
many_listed word lower rest cut n all other = by (listed rest) refl
  where
    by : (parts : List (List ℕ)) → listed rest ≡ parts → Err Range ≡ ranged (is_lost Second) (several_of (listed word))
    by [] e = absurd (let l = length-slice_split (λ b. b == 44) rest in let k = ap {B = ℕ} length e in omega (arith, l, k))
    by (one ∷ []) e =
        let whole : one ≡ rest = ap (join_with_byte 44) (sym e) ∙ join_with_byte-slice_split 44 rest in
        let m = and_parts (is_number one) true (ap (list_all is_number) (sym e) ∙ all) in
        absurd (true≢false (sym m.0 ∙ ap is_number whole ∙ other))
    by (one ∷ next ∷ parts) e =
        let numbers : list_all is_number (one ∷ next ∷ parts) ≡ true = ap (list_all is_number) (sym e) ∙ all in
        let each : list_all is_number (lower ∷ one ∷ next ∷ parts) ≡ true = and_from (is_number lower) (list_all is_number (one ∷ next ∷ parts)) n numbers in
        sym (ap (λ ps. ranged (is_lost Second) (several_of ps)) (cut ∙ ap (λ ps. lower ∷ ps) e)
        ∙ ap (λ b. ranged (is_lost Second) (cond b (Some (Two 0 0)) None)) each)

-- what is in its ranges
pub ranged_given : {A : Type 0} (test : A → Bool) (o : Option A) (read : Result A JournalCode) → read ≡ ranged test o → IfOk read (λ x. o ≡ Some x)
ranged_given test None (Ok x) h = absurd (cc)
ranged_given test None (Err code) h = tt
ranged_given test (Some y) (Err code) h = tt
ranged_given test (Some y) (Ok x) h = by (test y) h
  where
    by : (b : Bool) → Ok x ≡ cond b (Ok y) (Err Range) → Some y ≡ Some x
    by true q = let e : x ≡ y = cc in ap Some (sym e)
    by false q = absurd (cc)

pub ranged_inside : {A : Type 0} (test : A → Bool) (o : Option A) (read : Result A JournalCode) → read ≡ ranged test o → IfOk read (λ x. test x ≡ true)
ranged_inside test None (Ok x) h = absurd (cc)
ranged_inside test None (Err code) h = tt
ranged_inside test (Some y) (Err code) h = tt
ranged_inside test (Some y) (Ok x) h = by (test y) refl h
  where
    by : (b : Bool) → test y ≡ b → Ok x ≡ cond b (Ok y) (Err Range) → test x ≡ true
    by true t q = let e : x ≡ y = cc in ap test e ∙ t
    by false t q = absurd (cc)

-- neither of both
with_false : (a b : Bool) → b ≡ false → (a && b) ≡ false
with_false true b e = e
with_false false b e = refl

-- a vote whose losers are refused
pub vote_refused : (version : Version) (thread count won : ℕ) (lost : Option Lost) (code : JournalCode) → Err code ≡ ranged (is_lost version) lost → (did : Did) → Err code ≡ ranged (is_entry version) (vote_with thread count won lost (Some did))
vote_refused version thread count won None code h did = let e : code ≡ Form = cc in ap (λ (c : JournalCode). Err c) e
vote_refused version thread count won (Some lost) code h did = by (is_lost version lost) refl h
  where
    by : (b : Bool) → is_lost version lost ≡ b → Err code ≡ cond b (Ok lost) (Err Range) → Err code ≡ ranged (is_entry version) (Some (Vote thread count won lost did))
    by true t q = absurd (cc)
    by false t q =
        let e : code ≡ Range = cc in
        ap (λ (c : JournalCode). Err c) e
        ∙ sym (ap (λ b. cond b (Ok (Vote thread count won lost did)) (Err Range)) (ap (λ b. b && has_did version did) (with_false (within 0 15 thread && within 0 1000000 count && within 0 (most_replica version) won) (is_lost version lost) t)))

-- a scrub whose losers are refused
pub scrub_refused : (won : ℕ) (lost : Option Lost) (code : JournalCode) → Err code ≡ ranged (is_lost Second) lost → Err code ≡ ranged (is_entry Second) (option_map (λ l. Scrub won l) lost)
scrub_refused won None code h = let e : code ≡ Form = cc in ap (λ (c : JournalCode). Err c) e
scrub_refused won (Some lost) code h = by (is_lost Second lost) refl h
  where
    by : (b : Bool) → is_lost Second lost ≡ b → Err code ≡ cond b (Ok lost) (Err Range) → Err code ≡ ranged (is_entry Second) (Some (Scrub won lost))
    by true t q = absurd (cc)
    by false t q =
        let e : code ≡ Range = cc in
        ap (λ (c : JournalCode). Err c) e ∙ sym (ap (λ b. cond b (Ok (Scrub won lost)) (Err Range)) (with_false (within 0 4 won) (is_lost Second lost) t))

-- a word that is neither a number nor a dash
pub later_read : (version : Version) (word : List ℕ) → is_number word ≡ false → bytes_eq word (codes "-") ≡ false → version ≡ Second → ranged (is_lost Second) (several_of (listed word)) ≡ ranged (is_lost version) (lost_of version word)
later_read First word n d e = absurd (let f : First ≡ Second = e in cc)
later_read Second word n d e =
    sym (ap (λ b. ranged (is_lost Second) (cond b (Some (One (value_of word))) (cond (bytes_eq word (codes "-")) (Some Nobody) (several_of (listed word))))) n
    ∙ ap (λ b. ranged (is_lost Second) (cond b (Some Nobody) (several_of (listed word)))) d)

-- ---- what has the same ranges in each version

pub any_free : (version : Version) (fields : List (List ℕ)) → ranged (is_entry Second) (free_of fields) ≡ ranged (is_entry version) (free_of fields)
any_free version [] = refl
any_free version (thread ∷ []) = by (is_number thread)
  where
    by : (b : Bool) → ranged (is_entry Second) (cond b (Some (Free (value_of thread))) None) ≡ ranged (is_entry version) (cond b (Some (Free (value_of thread))) None)
    by true = refl
    by false = refl
any_free version (thread ∷ next ∷ fields) = refl

pub any_end : (version : Version) (fields : List (List ℕ)) → ranged (is_entry Second) (end_of fields) ≡ ranged (is_entry version) (end_of fields)
any_end version fields = by (how_of fields)
  where
    by : (o : Option How) → ranged (is_entry Second) (option_map (λ how. End how) o) ≡ ranged (is_entry version) (option_map (λ how. End how) o)
    by None = refl
    by (Some how) = refl
