-- The text of a journal, read back.
use Rattle.std.proofs.Common.{ℕ, Bool, true, false, ◌≡◌, ◌+◌, ◌^◌, ◌<◌, ◌&&◌, ◌||◌, ◌==◌, not, nat_le, nat_lt, List, [], ◌∷◌, ◌++◌, Option, Some, Ok, Err, length, decimal, codes, cond, arith, refl, ap, ◌∙◌, length-append}
use Rattle.std.specs.Char.{is_ascii_digit}
use Rattle.std.specs.List.{list_all}
use Rattle.std.specs.Option.{option_map}
use Rattle.std.specs.Str.{bytes_eq}
use Rattle.std.proofs.lemmas.Bool.{and_parts, and_from, false≢true, leb-true, ltb-true, not-true}
use Rattle.std.proofs.lemmas.List.Splits.{slice_split_none, slice_split_at}
use Rattle.ro_text.specs.Numbers.{are_digits, is_number, value_of, within}
use Rattle.ro_text.specs.Lines.{spaced, is_plain, parts_of}
use Rattle.ro_text.proofs.Spellings.{number_spelled, number_value}
use Rattle.ro_text.proofs.Plain.{number_plain, words_back, line_back}
use Rattle.ro_event.specs.Traps.{number_of}
use Rattle.ro_event.proofs.Numbered.{trap-back, number-within}
use Rattle.ro_journal.specs.declared.Did.{Did}
use Rattle.ro_journal.specs.declared.Did.TheVariants.{Served, Blocked, Parked, PageBacked, Watch, Trapped}
use Rattle.ro_journal.specs.declared.How.{How}
use Rattle.ro_journal.specs.declared.How.TheVariants.{Exit, Deadlock, Trap, Limit, Differ, NoMajority, Sink}
use Rattle.ro_journal.specs.declared.losers.Lost.{Lost}
use Rattle.ro_journal.specs.declared.losers.Lost.TheVariants.{Nobody, One, Two}
use Rattle.ro_journal.specs.declared.Lease.{Lease}
use Rattle.ro_journal.specs.declared.Entry.{Entry}
use Rattle.ro_journal.specs.declared.Entry.TheVariants.{Take, Put, Part, Vote, Free, Scrub, End}
use Rattle.ro_settings.specs.declared.Mode.{Mode}
use Rattle.ro_settings.specs.declared.Mode.TheVariants.{Voted, Cooperative}
use Rattle.ro_journal_text.specs.declared.headings.Heading.{Heading}
use Rattle.ro_journal_text.specs.declared.headings.Heading.TheVariants as headings
use Rattle.ro_journal_text.specs.declared.versions.Version.{Version}
use Rattle.ro_journal_text.specs.declared.versions.Version.TheVariants.{First, Second}
use Rattle.ro_journal_text.specs.declared.errors.JournalCode.TheVariants.{Range}
use Rattle.ro_journal_text.specs.Texts.{did_word, lost_word, how_words, run_words, entry_words, entries_text, header_word, journal_text, text_under}
use Rattle.ro_journal_text.specs.Reading.{did_of, has_did, listed, several_of, lost_of, how_of, run_of, entry_of, most_replica, is_lost, is_how, is_lease, is_run, is_entry, ranged, line_entry, is_end, before, behind, in_line, lines_entries, heading_of, version_of, mode_of, headed_journal, file_journal, ends_last}
use Rattle.ro_journal_text.proofs.Steps.{cut_before, headed_read}
use Rattle.ro_journal_text.proofs.Listed.{no_comma, digits_of}
use Rattle.ro_journal_text.proofs.Wording.{same}

-- the spelling of a number, read back
record Spelled (number : ℕ) : Type 0 where
  plain : is_plain (decimal number) ≡ true
  spells : is_number (decimal number) ≡ true
  value : value_of (decimal number) ≡ number

spelled : (least most number : ℕ) → most < 2 ^ 64 → within least most number ≡ true → Spelled number
spelled least most number fits h =
    let high = leb-true number most (and_parts (nat_le least number) (nat_le number most) h).1 in
    let small : number < 2 ^ 64 = omega (arith, high) in
    record { plain = number_plain number small; spells = number_spelled number small; value = number_value number small }

spelled_small : (number : ℕ) → number < 2 ^ 64 → Spelled number
spelled_small number small = record { plain = number_plain number small; spells = number_spelled number small; value = number_value number small }

-- ---- two numbers and a comma

-- nor are they all digits around one
digits_comma : (xs ys : List ℕ) → are_digits (xs ++ 44 ∷ ys) ≡ false
digits_comma [] ys = refl
digits_comma (x ∷ xs) ys = by (is_ascii_digit x) refl (digits_comma xs ys)
  where
    by : (b : Bool) → is_ascii_digit x ≡ b → are_digits (xs ++ 44 ∷ ys) ≡ false → (is_ascii_digit x && are_digits (xs ++ 44 ∷ ys)) ≡ false
    by true e h = ap (λ b. b && are_digits (xs ++ 44 ∷ ys)) e ∙ h
    by false e h = ap (λ b. b && are_digits (xs ++ 44 ∷ ys)) e

plain_comma : (xs ys : List ℕ) → is_plain xs ≡ true → is_plain ys ≡ true → is_plain (xs ++ 44 ∷ ys) ≡ true
plain_comma [] ys h k = k
plain_comma (x ∷ xs) ys h k = let parts = and_parts (nat_lt 32 x) (is_plain xs) h in and_from (nat_lt 32 x) (is_plain (xs ++ 44 ∷ ys)) parts.0 (plain_comma xs ys parts.1 k)

-- two numbers and a comma are read as two losers
pair_read : (a b : List ℕ) → is_number a ≡ true → is_number b ≡ true → lost_of Second (a ++ 44 ∷ b) ≡ Some (Two (value_of a) (value_of b))
pair_read [] b n m = absurd (false≢true n)
pair_read (digit ∷ digits) b n m =
    ap (λ c. cond c (Some (One (value_of word))) (cond (bytes_eq word (codes "-")) (Some Nobody) (several_of (listed word)))) no_number
    ∙ ap (λ c. cond c (Some Nobody) (several_of (listed word))) no_dash
    ∙ ap several_of cut
    ∙ rw (n, m) refl
  where
    word : List ℕ
    word = digit ∷ (digits ++ 44 ∷ b)

    no_number : is_number (digit ∷ (digits ++ 44 ∷ b)) ≡ false
    no_number = ap (λ c. c && (not (digit == 48) || (length (digits ++ 44 ∷ b) == 0))) (digits_comma (digit ∷ digits) b)

    no_dash : bytes_eq (digit ∷ (digits ++ 44 ∷ b)) (codes "-") ≡ false
    no_dash = by (bytes_eq (digit ∷ (digits ++ 44 ∷ b)) (codes "-")) refl
      where
        by : (c : Bool) → bytes_eq (digit ∷ (digits ++ 44 ∷ b)) (codes "-") ≡ c → bytes_eq (digit ∷ (digits ++ 44 ∷ b)) (codes "-") ≡ false
        by false e = e
        by true e =
            let long = ap {B = ℕ} length (same (digit ∷ (digits ++ 44 ∷ b)) (codes "-") e) in
            let sum = length-append digits (44 ∷ b) in
            absurd (omega (arith, long, sum))

    cut : listed (digit ∷ (digits ++ 44 ∷ b)) ≡ (digit ∷ digits) ∷ b ∷ []
    cut =
        slice_split_at (λ c. c == 44) (digit ∷ digits) 44 b (no_comma (digit ∷ digits) (digits_of (digit ∷ digits) n)) refl
        ∙ ap (λ rest. (digit ∷ digits) ∷ rest) (slice_split_none (λ c. c == 44) b (no_comma b (digits_of b m)))

pair_back : (lower higher : ℕ) → Spelled lower → Spelled higher → (is_plain (decimal lower ++ 44 ∷ decimal higher) ≡ true) × (lost_of Second (decimal lower ++ 44 ∷ decimal higher) ≡ Some (Two lower higher))
pair_back lower higher l h = (
  plain_comma (decimal lower) (decimal higher) l.plain h.plain,
  pair_read (decimal lower) (decimal higher) l.spells h.spells ∙ ap (λ n. Some (Two n (value_of (decimal higher)))) l.value ∙ ap (λ n. Some (Two lower n)) h.value,
)

-- words that are plain and give back what they were made of
abbrev Back : {A : Type 0} → List (List ℕ) → (List (List ℕ) → Option A) → A → Type 0
Back words of x = (list_all is_plain words ≡ true) × (of words ≡ Some x)

did_back : (version : Version) (did : Did) → has_did version did ≡ true → (is_plain (did_word did) ≡ true) × (did_of version (did_word did) ≡ Some did)
did_back version Served h = (refl, refl)
did_back version Blocked h = (refl, refl)
did_back First Parked h = absurd (false≢true h)
did_back Second Parked h = (refl, refl)
did_back version PageBacked h = (refl, refl)
did_back version Watch h = (refl, refl)
did_back version Trapped h = (refl, refl)

-- the highest replica fits into a number
most_fits : (version : Version) → most_replica version < 2 ^ 64
most_fits First = omega arith
most_fits Second = omega arith

lost_back : (version : Version) (lost : Lost) → is_lost version lost ≡ true → (is_plain (lost_word lost) ≡ true) × (lost_of version (lost_word lost) ≡ Some lost)
lost_back First Nobody h = (refl, refl)
lost_back Second Nobody h = (refl, refl)
lost_back version (One replica) h = let r = spelled 0 (most_replica version) replica (most_fits version) h in (r.plain, rw (r.spells, r.value) refl)
lost_back First (Two lower higher) h = absurd (false≢true h)
lost_back Second (Two lower higher) h =
    let parts = and_parts (nat_lt lower higher) (within 0 4 higher) h in
    let high = leb-true higher 4 (and_parts (nat_le 0 higher) (nat_le higher 4) parts.1).1 in
    let low = ltb-true lower higher parts.0 in
    pair_back lower higher (spelled_small lower (omega (arith, low, high))) (spelled_small higher (omega (arith, high)))

how_back : (how : How) → is_how how ≡ true → Back (how_words how) how_of how
how_back (Exit status) h = let s = spelled 0 255 status (omega arith) h in (rw (s.plain) refl, rw (s.spells, s.value) refl)
how_back Deadlock h = (refl, refl)
how_back (Trap cause) h = let k = spelled 1 9 (number_of cause) (omega arith) (number-within cause) in (rw (k.plain) refl, rw (k.spells, k.value, trap-back cause) refl)
how_back (Limit steps next) h =
    let parts = and_parts (within 0 (10 ^ 12) steps) (within 0 (10 ^ 12) next) h in
    let p = spelled 0 (10 ^ 12) steps (omega arith) parts.0 in
    let a = spelled 0 (10 ^ 12) next (omega arith) parts.1 in
    (rw (p.plain, a.plain) refl, rw (p.spells, a.spells, p.value, a.value) refl)
how_back Differ h = (refl, refl)
how_back NoMajority h = (refl, refl)
how_back (Sink taken) h = let b = spelled 0 4095 taken (omega arith) h in (rw (b.plain) refl, rw (b.spells, b.value) refl)

-- the spellings of a lease's numbers, read back
record LeaseSpelled (lease : Lease) : Type 0 where
  driver : Spelled lease.driver
  replica : Spelled lease.replica
  thread : Spelled lease.thread

lease_back : (version : Version) (lease : Lease) → is_lease version lease ≡ true → LeaseSpelled lease
lease_back version lease h =
    let two = and_parts (within 0 7 lease.driver && within 0 (most_replica version) lease.replica) (within 0 15 lease.thread) h in
    let one = and_parts (within 0 7 lease.driver) (within 0 (most_replica version) lease.replica) two.0 in
    record {
      driver = spelled 0 7 lease.driver (omega arith) one.0;
      replica = spelled 0 (most_replica version) lease.replica (most_fits version) one.1;
      thread = spelled 0 15 lease.thread (omega arith) two.1;
    }

run_back : (version : Version) (lease : Lease) (count hit : ℕ) → is_run version (record { lease = lease; count = count; hit = hit }) ≡ true → Back (run_words lease count hit) run_of (record { lease = lease; count = count; hit = hit })
run_back version lease count hit h =
    let four = and_parts (is_lease version lease && within 0 65536 count) (within 0 256 hit) h in
    let three = and_parts (is_lease version lease) (within 0 65536 count) four.0 in
    let l = lease_back version lease three.0 in
    let n = spelled 0 65536 count (omega arith) three.1 in
    let s = spelled 0 256 hit (omega arith) four.1 in
    (rw (l.driver.plain, l.replica.plain, l.thread.plain, n.plain, s.plain) refl, rw (l.driver.spells, l.replica.spells, l.thread.spells, n.spells, s.spells, l.driver.value, l.replica.value, l.thread.value, n.value, s.value) refl)

entry_back : (version : Version) (entry : Entry) → is_entry version entry ≡ true → Back (entry_words entry) (entry_of version) entry
entry_back version (Take lease) h =
    let l = lease_back version lease h in
    (rw (l.driver.plain, l.replica.plain, l.thread.plain) refl, rw (l.driver.spells, l.replica.spells, l.thread.spells, l.driver.value, l.replica.value, l.thread.value) refl)
entry_back version (Put lease count hit) h =
    let r = run_back version lease count hit h in
    (r.0, ap (option_map (λ run. Put run.lease run.count run.hit)) r.1)
entry_back First (Part lease count hit) h = absurd (false≢true h)
entry_back Second (Part lease count hit) h =
    let r = run_back Second lease count hit h in
    (r.0, ap (option_map (λ run. Part run.lease run.count run.hit)) r.1)
entry_back version (Vote thread count won lost did) h =
    let four = and_parts (within 0 15 thread && within 0 1000000 count && within 0 (most_replica version) won && is_lost version lost) (has_did version did) h in
    let three = and_parts (within 0 15 thread && within 0 1000000 count && within 0 (most_replica version) won) (is_lost version lost) four.0 in
    let two = and_parts (within 0 15 thread && within 0 1000000 count) (within 0 (most_replica version) won) three.0 in
    let one = and_parts (within 0 15 thread) (within 0 1000000 count) two.0 in
    let t = spelled 0 15 thread (omega arith) one.0 in
    let n = spelled 0 1000000 count (omega arith) one.1 in
    let w = spelled 0 (most_replica version) won (most_fits version) two.1 in
    let l = lost_back version lost three.1 in
    let x = did_back version did four.1 in
    (rw (t.plain, n.plain, w.plain, l.0, x.0) refl, rw (t.spells, n.spells, w.spells, t.value, n.value, w.value, l.1, x.1) refl)
entry_back version (Free thread) h = let t = spelled 0 15 thread (omega arith) h in (rw (t.plain) refl, rw (t.spells, t.value) refl)
entry_back First (Scrub won lost) h = absurd (false≢true h)
entry_back Second (Scrub won lost) h =
    let one = and_parts (within 0 4 won) (is_lost Second lost) h in
    let w = spelled 0 4 won (omega arith) one.0 in
    let l = lost_back Second lost one.1 in
    (rw (w.plain, l.0) refl, rw (w.spells, w.value, l.1) refl)
entry_back version (End how) h = let e = how_back how h in (e.0, rw (e.1) refl)

nonempty : (entry : Entry) → 0 < length (entry_words entry)
nonempty (Take lease) = omega arith
nonempty (Put lease count hit) = omega arith
nonempty (Part lease count hit) = omega arith
nonempty (Vote thread count won lost did) = omega arith
nonempty (Free thread) = omega arith
nonempty (Scrub won lost) = omega arith
nonempty (End how) = omega arith

entry_read : (version : Version) (entry : Entry) → is_entry version entry ≡ true → line_entry version (spaced (entry_words entry)) ≡ Ok entry
entry_read version entry h =
    let back = entry_back version entry h in
    ap (λ ws. ranged (is_entry version) (entry_of version ws)) (words_back (entry_words entry) (nonempty entry) back.0) ∙ ap (ranged (is_entry version)) back.1 ∙ ap (λ b. cond b (Ok entry) (Err Range)) h

alike : {A : Type 0} (b : Bool) (x : A) → cond b x x ≡ x
alike true x = refl
alike false x = refl

pub lines_back : (version : Version) (line : ℕ) (entries : List Entry) → list_all (is_entry version) entries ≡ true → ends_last entries ≡ true → lines_entries version line (parts_of (entries_text entries)) ≡ Ok entries
lines_back version line [] h last = refl
lines_back version line (entry ∷ []) h last =
    let is = (and_parts (is_entry version entry) true h).0 in
    cut_before version line (entries_text (entry ∷ [])) (spaced (entry_words entry)) [] (line_back (entry_words entry) [] (entry_back version entry is).0)
    ∙ ap (λ r. before (in_line line r) (Ok [])) (entry_read version entry is)
    ∙ alike (is_end entry) (Ok (entry ∷ []))
lines_back version line (entry ∷ next ∷ entries) h last =
    let is = and_parts (is_entry version entry) (list_all (is_entry version) (next ∷ entries)) h in
    let ends = and_parts (not (is_end entry)) (ends_last (next ∷ entries)) last in
    let goes_on : is_end entry ≡ false = not-true (is_end entry) ends.0 in
    let rest = entries_text (next ∷ entries) in
    cut_before version line (entries_text (entry ∷ next ∷ entries)) (spaced (entry_words entry)) rest (line_back (entry_words entry) rest (entry_back version entry is.0).0)
    ∙ ap (λ r. before (in_line line r) (lines_entries version (line + 1) (parts_of rest))) (entry_read version entry is.0)
    ∙ ap (λ b. cond b (Ok (entry ∷ [])) (behind (entry ∷ []) (lines_entries version (line + 1) (parts_of rest)))) goes_on
    ∙ ap (behind (entry ∷ [])) (lines_back version (line + 1) (next ∷ entries) is.1 ends.1)

-- no line feed stands in a first line
first_cut : (heading : Heading) (text : List ℕ) → parts_of (header_word heading ++ 10 ∷ text) ≡ header_word heading ∷ parts_of text
first_cut headings.First text = refl
first_cut (headings.Second Voted) text = refl
first_cut (headings.Second Cooperative) text = refl

-- a first line is read back
heading_back : (heading : Heading) → Some heading ≡ heading_of (header_word heading)
heading_back headings.First = refl
heading_back (headings.Second Voted) = refl
heading_back (headings.Second Cooperative) = refl

pub file_back : (heading : Heading) (entries : List Entry) → list_all (is_entry (version_of heading)) entries ≡ true → ends_last entries ≡ true
    → file_journal (text_under heading entries) ≡ Ok (record { mode = mode_of heading; entries = entries })
file_back heading entries h last =
    ap headed_journal (first_cut heading (entries_text entries))
    ∙ headed_read (header_word heading) (entries_text entries) heading entries (heading_back heading) (lines_back (version_of heading) 2 entries h last)

pub written : (mode : Mode) (entries : List Entry) → journal_text mode entries ≡ text_under (headings.Second mode) entries
written Voted entries = refl
written Cooperative entries = refl
