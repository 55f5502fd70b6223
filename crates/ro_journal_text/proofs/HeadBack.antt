-- The head of a record, read back.
use Rattle.std.proofs.Common.{ℕ, zero, suc, Bool, true, ◌≡◌, ◌/◌, ◌%◌, ◌^◌, ◌<◌, ◌&&◌, inl, inr, nat_le, nat_lt, List, [], ◌∷◌, ◌++◌, Some, Result, Ok, length, slice_index, codes, decimal, arith, refl, sym, ap, ◌∙◌, append_assoc}
use Rattle.std.specs.List.{list_all}
use Rattle.std.specs.Str.{bytes_eq}
use Rattle.std.proofs.lemmas.Bool.{and_parts, and_from, cases_lt, le-leb}
use Rattle.std.proofs.lemmas.Slice.Eq.{bytes_eq-Decides}
use Rattle.hex.specs.Hex.{IsBytes, encode_with, encode_lower, decode_sized, lower_digits}
use Rattle.hex.proofs.HexLemmas.{IsDigits-lower_digits, length-encode_with, decode_pairs-encode_with}
use Rattle.hex.proofs.Pairs.{decode_sized-pairs}
use Rattle.ro_settings.specs.declared.Mode.{Mode}
use Rattle.ro_settings.specs.declared.Mode.TheVariants.{Voted, Cooperative}
use Rattle.ro_settings.specs.Ranges.{Range, IsIn, IsReplicas, replicas_range, drivers_range, watchdog_range, quantum_range, limit_range, scrub_range}
use Rattle.ro_text.specs.Numbers.{within}
use Rattle.ro_text.specs.Lines.{spaced, line_text, is_plain, words_of, parts_of}
use Rattle.ro_text.proofs.Spellings.{number_spelled, number_value}
use Rattle.ro_text.proofs.Plain.{number_plain, words_back, line_back}
use Rattle.ro_journal_text.specs.declared.records.Recorded.{Recorded}
use Rattle.ro_journal_text.specs.declared.errors.JournalCode.{JournalCode}
use Rattle.ro_journal_text.specs.declared.errors.JournalError.{JournalError}
use Rattle.ro_journal_text.specs.Records.{Headed, IsDigest, IsRecord, record_header, number_words, digest_words, head_lines, lines_text, head_text, mode_in, value_behind, number_said, number_in, that_run, replicas_in, spelled_once, digest_said, digest_in, at_line, head_of, behind_head, with_head, file_record, record_text}
use Rattle.ro_journal.specs.declared.Entry.{Entry}
use Rattle.ro_journal_text.specs.declared.versions.Version.TheVariants.{Second}
use Rattle.ro_journal_text.specs.Texts.{entries_text}
use Rattle.ro_journal_text.specs.Reading.{is_entry, ends_last}
use Rattle.ro_journal_text.proofs.Back.{lines_back}
use Rattle.ro_journal_text.proofs.HeadLines.{line_said}

-- ---- what a line says

-- words that are plain, and that a line says
record Says {A : Type 0} (says : List ℕ → Result A JournalCode) (words : List (List ℕ)) (said : A) : Type 0 where
  some : 0 < length words
  plain : list_all is_plain words ≡ true
  is : Ok said ≡ says (spaced words)

-- the line of such words at the start of a text
line_here : {A : Type 0} (line : ℕ) (says : List ℕ → Result A JournalCode) (words : List (List ℕ)) (lines : List (List (List ℕ))) (text : List ℕ) (said : A) (more : A → List (List ℕ) → Result Headed JournalError)
    → Says says words said → at_line line says (parts_of (lines_text (words ∷ lines) ++ text)) more ≡ more said (parts_of (lines_text lines ++ text))
line_here line says words lines text said more h =
    ap (λ bytes. at_line line says (parts_of bytes) more) (append_assoc (line_text words) (lines_text lines) text)
    ∙ line_said line says (line_text words ++ (lines_text lines ++ text)) (spaced words) (lines_text lines ++ text) said more (line_back words (lines_text lines ++ text) h.plain) h.is

itself : (word : List ℕ) → bytes_eq word word ≡ true
itself word = (bytes_eq-Decides word word).1 refl

value_is : (name value : List ℕ) → is_plain name ≡ true → is_plain value ≡ true → value_behind name (words_of (spaced (name ∷ value ∷ []))) ≡ Some value
value_is name value n v =
    ap (value_behind name) (words_back (name ∷ value ∷ []) (omega arith) (and_from (is_plain name) (is_plain value && true) n (and_from (is_plain value) true v refl)))
    ∙ rw (itself name) refl

both_plain : (name value : List ℕ) → is_plain name ≡ true → is_plain value ≡ true → list_all is_plain (name ∷ value ∷ []) ≡ true
both_plain name value n v = and_from (is_plain name) (is_plain value && true) n (and_from (is_plain value) true v refl)

-- ---- numbers

number_back : (range : Range) (number : ℕ) → is_plain range.name ≡ true → range.most < 2 ^ 64 → IsIn range number → Says (number_in range) (number_words range number) number
number_back range number name most fits =
    let small : number < 2 ^ 64 = omega (arith, most, fits.1) in
    let inside : within range.least range.most number ≡ true = and_from (nat_le range.least number) (nat_le number range.most) (le-leb range.least number fits.0) (le-leb number range.most fits.1) in
    let plain = number_plain number small in
    record {
      some = omega arith;
      plain = both_plain range.name (decimal number) name plain;
      is = sym (ap (number_said range) (value_is range.name (decimal number) name plain) ∙ rw (number_spelled number small, number_value number small, inside) refl);
    }

replicas_fit : (replicas : ℕ) → IsReplicas replicas → IsIn replicas_range replicas
replicas_fit replicas (inl two) = (omega (arith, two), omega (arith, two))
replicas_fit replicas (inr (inl three)) = (omega (arith, three), omega (arith, three))
replicas_fit replicas (inr (inr five)) = (omega (arith, five), omega (arith, five))

not_four : (replicas : ℕ) → IsReplicas replicas → that_run (Ok replicas) ≡ Ok replicas
not_four replicas (inl two) = rw two refl
not_four replicas (inr (inl three)) = rw three refl
not_four replicas (inr (inr five)) = rw five refl

replicas_back : (replicas : ℕ) → IsReplicas replicas → Says replicas_in (number_words replicas_range replicas) replicas
replicas_back replicas may =
    let number = number_back replicas_range replicas refl (omega arith) (replicas_fit replicas may) in
    record { some = number.some; plain = number.plain; is = sym (not_four replicas may) ∙ ap that_run number.is }

-- ---- digests

-- the first digits come after the space
are_high : ℕ → Bool
are_high zero = true
are_high (suc n) = nat_lt 32 (slice_index lower_digits n) && are_high n

high_at : (n k : ℕ) → are_high n ≡ true → k < n → nat_lt 32 (slice_index lower_digits k) ≡ true
unfolding are_high
high_at zero k h below = absurd (omega arith)
high_at (suc n) k h below =
    let parts = and_parts (nat_lt 32 (slice_index lower_digits n)) (are_high n) h in
    elim (cases_lt k n) [
      | inl less ↦ high_at n k parts.1 less
      | inr top ↦ let e : k ≡ n = omega arith in rw e parts.0
    ]

digit_high : (k : ℕ) → k < 16 → nat_lt 32 (slice_index lower_digits k) ≡ true
unfolding are_high
digit_high k below = high_at 16 k refl below

digits_plain : (bytes : List ℕ) → IsBytes bytes → is_plain (encode_lower bytes) ≡ true
unfolding encode_with
digits_plain [] h = refl
digits_plain (byte ∷ bytes) h =
    let fits : byte < 256 = h 0 in
    let high : byte / 16 < 16 = omega arith in
    let low : byte % 16 < 16 = omega arith in
    let rest = digits_plain bytes (λ k. h (suc k)) in
    and_from (nat_lt 32 (slice_index lower_digits (byte / 16))) (nat_lt 32 (slice_index lower_digits (byte % 16)) && is_plain (encode_lower bytes)) (digit_high (byte / 16) high)
    (and_from (nat_lt 32 (slice_index lower_digits (byte % 16))) (is_plain (encode_lower bytes)) (digit_high (byte % 16) low) rest)

decoded : (digest : List ℕ) → IsDigest digest → decode_sized (encode_lower digest) 32 ≡ Ok digest
decoded digest h =
    let len = length-encode_with lower_digits digest in
    let size = h.size in
    decode_sized-pairs (encode_lower digest) 32 (omega (arith, len, size)) (omega (arith, len, size))
    ∙ decode_pairs-encode_with lower_digits IsDigits-lower_digits 0 digest h.bytes

digest_back : (name digest : List ℕ) → is_plain name ≡ true → IsDigest digest → Says (digest_in name) (digest_words name digest) digest
digest_back name digest n h =
    let plain = digits_plain digest h.bytes in
    record {
      some = omega arith;
      plain = both_plain name (encode_lower digest) n plain;
      is = sym (ap digest_said (value_is name (encode_lower digest) n plain) ∙ ap (spelled_once (encode_lower digest)) (decoded digest h) ∙ rw (itself (encode_lower digest)) refl);
    }

-- ---- the head

first_back : (mode : Mode) (text : List ℕ) (more : Mode → List (List ℕ) → Result Headed JournalError) → at_line 1 mode_in (parts_of (record_header mode ++ 10 ∷ text)) more ≡ more mode (parts_of text)
first_back Voted text more = line_said 1 mode_in (record_header Voted ++ 10 ∷ text) (record_header Voted) text Voted more refl refl
first_back Cooperative text more = line_said 1 mode_in (record_header Cooperative ++ 10 ∷ text) (record_header Cooperative) text Cooperative more refl refl

first_cut : (mode : Mode) (lines text : List ℕ) → ((record_header mode ++ codes "\n") ++ lines) ++ text ≡ record_header mode ++ 10 ∷ (lines ++ text)
first_cut Voted lines text = refl
first_cut Cooperative lines text = refl

pub head_back : (recorded : Recorded) (text : List ℕ) → IsRecord recorded → head_of (parts_of (head_text recorded ++ text)) ≡ Ok (record { recorded = recorded; rest = parts_of text })
head_back recorded text h =
    let none : List (List (List ℕ)) = [] in
    let from_faults = digest_words (codes "faults") recorded.faults ∷ none in
    let from_input = digest_words (codes "input") recorded.input ∷ from_faults in
    let from_exe = digest_words (codes "exe") recorded.exe ∷ from_input in
    let from_scrub = number_words scrub_range recorded.settings.scrub ∷ from_exe in
    let from_limit = number_words limit_range recorded.settings.limit ∷ from_scrub in
    let from_quantum = number_words quantum_range recorded.settings.quantum ∷ from_limit in
    let from_watchdog = number_words watchdog_range recorded.settings.watchdog ∷ from_quantum in
    let from_drivers = number_words drivers_range recorded.settings.drivers ∷ from_watchdog in
    ap (λ bytes. head_of (parts_of bytes)) (first_cut recorded.settings.mode (lines_text (head_lines recorded)) text)
    ∙ first_back recorded.settings.mode (lines_text (head_lines recorded) ++ text) _
    ∙ line_here 2 replicas_in (number_words replicas_range recorded.settings.replicas) from_drivers text recorded.settings.replicas _ (replicas_back recorded.settings.replicas h.settings.replicas)
    ∙ line_here 3 (number_in drivers_range) (number_words drivers_range recorded.settings.drivers) from_watchdog text recorded.settings.drivers _ (number_back drivers_range recorded.settings.drivers refl (omega arith) h.settings.drivers)
    ∙ line_here 4 (number_in watchdog_range) (number_words watchdog_range recorded.settings.watchdog) from_quantum text recorded.settings.watchdog _ (number_back watchdog_range recorded.settings.watchdog refl (omega arith) h.settings.watchdog)
    ∙ line_here 5 (number_in quantum_range) (number_words quantum_range recorded.settings.quantum) from_limit text recorded.settings.quantum _ (number_back quantum_range recorded.settings.quantum refl (omega arith) h.settings.quantum)
    ∙ line_here 6 (number_in limit_range) (number_words limit_range recorded.settings.limit) from_scrub text recorded.settings.limit _ (number_back limit_range recorded.settings.limit refl (omega arith) h.settings.limit)
    ∙ line_here 7 (number_in scrub_range) (number_words scrub_range recorded.settings.scrub) from_exe text recorded.settings.scrub _ (number_back scrub_range recorded.settings.scrub refl (omega arith) h.settings.scrub)
    ∙ line_here 8 (digest_in (codes "exe")) (digest_words (codes "exe") recorded.exe) from_input text recorded.exe _ (digest_back (codes "exe") recorded.exe refl h.exe)
    ∙ line_here 9 (digest_in (codes "input")) (digest_words (codes "input") recorded.input) from_faults text recorded.input _ (digest_back (codes "input") recorded.input refl h.input)
    ∙ line_here 10 (digest_in (codes "faults")) (digest_words (codes "faults") recorded.faults) none text recorded.faults _ (digest_back (codes "faults") recorded.faults refl h.faults)

-- a record
pub record_back : (recorded : Recorded) (entries : List Entry) → IsRecord recorded → list_all (is_entry Second) entries ≡ true → ends_last entries ≡ true
    → file_record (record_text recorded entries) ≡ Ok (record { recorded = recorded; entries = entries })
record_back recorded entries h are last =
    ap behind_head (head_back recorded (entries_text entries) h) ∙ ap (with_head recorded) (lines_back Second 11 entries are last)
