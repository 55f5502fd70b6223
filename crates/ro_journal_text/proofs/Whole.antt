-- A text that is read begins with that of the journal that is read.
use Rattle.std.proofs.Common.{ℕ, Bool, true, false, ◌≡◌, ◌+◌, ◌<◌, List, [], ◌∷◌, ◌++◌, Option, Some, None, Result, Ok, Err, length, codes, cond, arith, inl, inr, refl, sym, ap, ◌∙◌, subst, append_assoc, append-nil}
use Rattle.std.specs.List.{list_all, list_any, join_with_byte}
use Rattle.std.specs.Str.{bytes_eq}
use Rattle.std.proofs.lemmas.Bool.{and_from}
use Rattle.std.proofs.lemmas.List.Splits.{join_with_byte-slice_split}
use Rattle.ro_text.specs.Lines.{spaced, line_text, parts_of}
use Rattle.ro_journal.specs.declared.Entry.{Entry}
use Rattle.ro_settings.specs.declared.Mode.TheVariants.{Voted, Cooperative}
use Rattle.ro_journal_text.specs.declared.headings.Heading.{Heading}
use Rattle.ro_journal_text.specs.declared.headings.Heading.TheVariants as headings
use Rattle.ro_journal_text.specs.declared.versions.Version.{Version}
use Rattle.ro_journal_text.specs.declared.errors.JournalCode.{JournalCode}
use Rattle.ro_journal_text.specs.declared.errors.JournalError.{JournalError}
use Rattle.ro_journal_text.specs.Texts.{entry_words, entries_text, header_word, text_under}
use Rattle.ro_journal_text.specs.Reading.{Journal, is_end, is_entry, ends_last, before, behind, in_line, line_entry, last_entries, lines_entries, heading_of, version_of, mode_of, with_mode, journal_under, headed_journal, file_journal, BeginsWith}
use Rattle.ro_journal_text.proofs.Once.{line_once}
use Rattle.ro_journal_text.proofs.Wording.{chosen, inner, pick, same}

-- the entries are those of lines, up to an end or to the last
record Lines (version : Version) (parts : List (List ℕ)) (entries : List Entry) : Type 0 where
  unread : List ℕ
  text : join_with_byte 10 parts ≡ entries_text entries ++ unread
  whole : list_any is_end entries ≡ false → unread ≡ []
  fits : list_all (is_entry version) entries ≡ true
  last : ends_last entries ≡ true

-- the first of the lines is of the journal's mode, and its entries are those of the others
record Spelling (parts : List (List ℕ)) (journal : Journal) : Type 0 where
  heading : Heading
  mode : mode_of heading ≡ journal.mode
  unread : List ℕ
  text : join_with_byte 10 parts ≡ text_under heading journal.entries ++ unread
  whole : list_any is_end journal.entries ≡ false → unread ≡ []
  fits : list_all (is_entry (version_of heading)) journal.entries ≡ true
  last : ends_last journal.entries ≡ true

-- an entry that ends nothing may stand before others
goes_on : (entry : Entry) (entries : List Entry) → is_end entry ≡ false → ends_last entries ≡ true → ends_last (entry ∷ entries) ≡ true
goes_on entry [] e h = refl
goes_on entry (next ∷ entries) e h = rw (e, h) refl

begins : (part : List ℕ) (entry : Entry) (after : List ℕ) → spaced (entry_words entry) ≡ part → part ++ 10 ∷ after ≡ line_text (entry_words entry) ++ after
begins part entry after e = sym (append_assoc part (codes "\n") after) ∙ ap (λ l. (l ++ codes "\n") ++ after) (sym e)

no_end : (entry : Entry) (entries : List Entry) → is_end entry ≡ false → list_any is_end (entry ∷ entries) ≡ false → list_any is_end entries ≡ false
no_end entry entries e h = rw e at h

-- the line of an entry that ends the run
last_once : (version : Version) (part next : List ℕ) (parts : List (List ℕ)) (entry : Entry) → line_entry version part ≡ Ok entry → is_end entry ≡ true → Lines version (part ∷ next ∷ parts) (entry ∷ [])
last_once version part next parts entry r e =
    let here = line_once version part entry r in
    let after = join_with_byte 10 (next ∷ parts) in
    record {
      unread = after;
      text = begins part entry after here.0 ∙ ap (λ l. l ++ after) (sym (append-nil (line_text (entry_words entry))));
      whole = λ h. let g : true ≡ false = rw e at h in absurd (cc);
      fits = and_from (is_entry version entry) true here.1 refl;
      last = refl;
    }

-- a line before others
next_once : (version : Version) (part next : List ℕ) (parts : List (List ℕ)) (entry : Entry) (others : List Entry) → line_entry version part ≡ Ok entry → is_end entry ≡ false → Lines version (next ∷ parts) others → Lines version (part ∷ next ∷ parts) (entry ∷ others)
next_once version part next parts entry others r e rest =
    let here = line_once version part entry r in
    record {
      unread = rest.unread;
      text = begins part entry (join_with_byte 10 (next ∷ parts)) here.0 ∙ ap (λ l. line_text (entry_words entry) ++ l) rest.text ∙ sym (append_assoc (line_text (entry_words entry)) (entries_text others) rest.unread);
      whole = λ h. rest.whole (no_end entry others e h);
      fits = and_from (is_entry version entry) (list_all (is_entry version) others) here.1 rest.fits;
      last = goes_on entry others e rest.last;
    }

more_once : (version : Version) (part next : List ℕ) (parts : List (List ℕ)) (entries : List Entry)
    → (read : Result Entry JournalCode) → line_entry version part ≡ read → (line : ℕ)
    → (rest : Result (List Entry) JournalError) → ((others : List Entry) → rest ≡ Ok others → Lines version (next ∷ parts) others)
    → before (in_line line read) rest ≡ Ok entries → Lines version (part ∷ next ∷ parts) entries
more_once version part next parts entries (Err code) r line rest once h = absurd (cc)
more_once version part next parts entries (Ok entry) r line rest once h = by (is_end entry) refl rest refl h
  where
    by : (b : Bool) → is_end entry ≡ b → (others : Result (List Entry) JournalError) → rest ≡ others → cond b (Ok (entry ∷ [])) (behind (entry ∷ []) others) ≡ Ok entries → Lines version (part ∷ next ∷ parts) entries
    by true e others o q = let all : entry ∷ [] ≡ entries = cc in subst (Lines version (part ∷ next ∷ parts)) all (last_once version part next parts entry r e)
    by false e (Err error) o q = absurd (cc)
    by false e (Ok others) o q = let all : entry ∷ others ≡ entries = cc in subst (Lines version (part ∷ next ∷ parts)) all (next_once version part next parts entry others r e (once others o))

last_part : (version : Version) (line : ℕ) (part : List ℕ) (entries : List Entry) → last_entries line part ≡ Ok entries → Lines version (part ∷ []) entries
last_part version line [] entries h = let none : [] ≡ entries = cc in subst (Lines version ([] ∷ [])) none (record { unread = []; text = refl; whole = λ e. refl; fits = refl; last = refl })
last_part version line (byte ∷ bytes) entries h = absurd (cc)

lines_once : (version : Version) (line : ℕ) (parts : List (List ℕ)) (entries : List Entry) → 0 < length parts → lines_entries version line parts ≡ Ok entries → Lines version parts entries
lines_once version line [] entries some h = absurd (omega (arith, some))
lines_once version line (part ∷ []) entries some h = last_part version line part entries h
lines_once version line (part ∷ next ∷ parts) entries some h =
    more_once version part next parts entries (line_entry version part) refl line (lines_entries version (line + 1) (next ∷ parts)) (λ others e. lines_once version (line + 1) (next ∷ parts) others (omega arith) e) h

-- a first line
heading_once : (line : List ℕ) (heading : Heading) → heading_of line ≡ Some heading → header_word heading ≡ line
heading_once line heading h = elim (pick (bytes_eq line (codes "romain 2")) (Some (headings.Second Voted)) _ heading h) [
  | inl p ↦ ap header_word (sym (inner (headings.Second Voted) heading p.1)) ∙ sym (same line (codes "romain 2") p.0)
  | inr q ↦ elim (pick (bytes_eq line (codes "romain 2 coop")) (Some (headings.Second Cooperative)) _ heading q.1) [
    | inl p ↦ ap header_word (sym (inner (headings.Second Cooperative) heading p.1)) ∙ sym (same line (codes "romain 2 coop") p.0)
    | inr q ↦ let p = chosen (bytes_eq line (codes "romain 1")) (Some headings.First) heading q.1 in
        ap header_word (sym (inner headings.First heading p.1)) ∙ sym (same line (codes "romain 1") p.0)
  ]
]

-- the lines behind it
behind_first : (heading : Heading) (first next : List ℕ) (parts : List (List ℕ)) (entries : List Entry) → header_word heading ≡ first
    → lines_entries (version_of heading) 2 (next ∷ parts) ≡ Ok entries → Spelling (first ∷ next ∷ parts) (record { mode = mode_of heading; entries = entries })
behind_first heading first next parts entries is h =
    let rest = lines_once (version_of heading) 2 (next ∷ parts) entries (omega arith) h in
    record {
      heading = heading;
      mode = refl;
      unread = rest.unread;
      text = ap (λ l. l ++ 10 ∷ join_with_byte 10 (next ∷ parts)) (sym is) ∙ ap (λ l. header_word heading ++ 10 ∷ l) rest.text ∙ sym (append_assoc (header_word heading) (10 ∷ entries_text entries) rest.unread);
      whole = rest.whole;
      fits = rest.fits;
      last = rest.last;
    }

headed_once : (parts : List (List ℕ)) (journal : Journal) → headed_journal parts ≡ Ok journal → Spelling parts journal
headed_once [] journal h = absurd (cc)
headed_once (first ∷ []) journal h = absurd (cc)
headed_once (first ∷ next ∷ parts) journal h = by (heading_of first) refl h
  where
    with_entries : (heading : Heading) → heading_of first ≡ Some heading → (read : Result (List Entry) JournalError) → lines_entries (version_of heading) 2 (next ∷ parts) ≡ read
        → with_mode (mode_of heading) read ≡ Ok journal → Spelling (first ∷ next ∷ parts) journal
    with_entries heading is (Err error) e q = absurd (cc)
    with_entries heading is (Ok entries) e q =
        let whole : record { mode = mode_of heading; entries = entries } ≡ journal = cc in
        subst (Spelling (first ∷ next ∷ parts)) whole (behind_first heading first next parts entries (heading_once first heading is) e)

    by : (found : Option Heading) → heading_of first ≡ found → journal_under found (next ∷ parts) ≡ Ok journal → Spelling (first ∷ next ∷ parts) journal
    by None is q = absurd (cc)
    by (Some heading) is q = with_entries heading is (lines_entries (version_of heading) 2 (next ∷ parts)) refl q

pub file_once : (bytes : List ℕ) (journal : Journal) → file_journal bytes ≡ Ok journal → BeginsWith bytes journal × (ends_last journal.entries ≡ true)
file_once bytes journal h =
    let once = headed_once (parts_of bytes) journal h in
    (record { heading = once.heading; mode = once.mode; unread = once.unread; text = sym (join_with_byte-slice_split 10 bytes) ∙ once.text; whole = once.whole; fits = once.fits }, once.last)
