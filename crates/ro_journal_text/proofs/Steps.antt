-- Reading a journal line by line.
use Rattle.std.proofs.Common.{ℕ, true, false, ◌≡◌, ◌+◌, ◌<◌, ◌==◌, List, [], ◌∷◌, ◌++◌, Some, None, Result, Ok, Err, is_ok, length, cond, arith, refl, sym, ap, ◌∙◌}
use Rattle.std.proofs.lemmas.List.{append_assoc}
use Rattle.std.proofs.lemmas.List.Splits.{length-slice_split}
use Rattle.ro_text.specs.Lines.{parts_of}
use Rattle.ro_journal.specs.declared.Entry.{Entry}
use Rattle.ro_journal_text.specs.declared.errors.JournalCode.{JournalCode}
use Rattle.ro_journal_text.specs.declared.errors.JournalCode.TheVariants.{Form}
use Rattle.ro_journal_text.specs.declared.errors.JournalError.{JournalError}
use Rattle.ro_journal_text.specs.declared.errors.JournalError.TheVariants.{Bad, NoMemory}
use Rattle.ro_journal_text.specs.declared.headings.Heading.{Heading}
use Rattle.ro_journal_text.specs.declared.versions.Version.{Version}
use Rattle.ro_journal_text.specs.Records.{mode_in, says_record}
use Rattle.ro_journal_text.specs.Reading.{is_end, before, behind, in_line, line_entry, lines_entries, heading_of, version_of, mode_of, with_mode, journal_under, headed_journal, refuses}

behind_behind : {A E : Type 0} (xs ys : List A) (read : Result (List A) E) → behind xs (behind ys read) ≡ behind (xs ++ ys) read
behind_behind xs ys (Ok zs) = ap Ok (sym (append_assoc xs ys zs))
behind_behind xs ys (Err error) = refl

-- a line before others
line_before : (version : Version) (line : ℕ) (part : List ℕ) (parts : List (List ℕ)) → 0 < length parts → lines_entries version line (part ∷ parts) ≡ before (in_line line (line_entry version part)) (lines_entries version (line + 1) parts)
line_before version line part [] some = absurd (omega (arith, some))
line_before version line part (next ∷ parts) some = refl

pub cut_before : (version : Version) (line : ℕ) (rest text after : List ℕ) → parts_of rest ≡ text ∷ parts_of after → lines_entries version line (parts_of rest) ≡ before (in_line line (line_entry version text)) (lines_entries version (line + 1) (parts_of after))
cut_before version line rest text after cut =
    ap (lines_entries version line) cut ∙ line_before version line text (parts_of after) (omega (arith, length-slice_split (λ b. b == 10) after))

-- a line that gives an entry which ends nothing
pub line_read :
    (version : Version) (line : ℕ) (entries : List Entry) (entry : Entry) (rest text after : List ℕ)
    → parts_of rest ≡ text ∷ parts_of after
    → Ok entry ≡ line_entry version text
    → is_end entry ≡ false
    → behind entries (lines_entries version line (parts_of rest)) ≡ behind (entries ++ entry ∷ []) (lines_entries version (line + 1) (parts_of after))
line_read version line entries entry rest text after cut read more =
    let others = lines_entries version (line + 1) (parts_of after) in
    ap (behind entries) (cut_before version line rest text after cut)
    ∙ ap (λ r. behind entries (before (in_line line r) others)) (sym read)
    ∙ ap (λ b. behind entries (cond b (Ok (entry ∷ [])) (behind (entry ∷ []) others))) more
    ∙ behind_behind entries (entry ∷ []) others

-- a line that gives an entry which ends the run
pub line_last :
    (version : Version) (line : ℕ) (entries : List Entry) (entry : Entry) (rest text after : List ℕ)
    → parts_of rest ≡ text ∷ parts_of after
    → Ok entry ≡ line_entry version text
    → is_end entry ≡ true
    → behind entries (lines_entries version line (parts_of rest)) ≡ Ok (entries ++ entry ∷ [])
line_last version line entries entry rest text after cut read ends =
    let others = lines_entries version (line + 1) (parts_of after) in
    ap (behind entries) (cut_before version line rest text after cut)
    ∙ ap (λ r. behind entries (before (in_line line r) others)) (sym read)
    ∙ ap (λ b. behind entries (cond b (Ok (entry ∷ [])) (behind (entry ∷ []) others))) ends

-- a line that is bad
pub line_refused :
    (version : Version) (line : ℕ) (entries : List Entry) (code : JournalCode) (rest text after : List ℕ)
    → parts_of rest ≡ text ∷ parts_of after
    → Err code ≡ line_entry version text
    → behind entries (lines_entries version line (parts_of rest)) ≡ Err (Bad line code)
line_refused version line entries code rest text after cut read =
    let others = lines_entries version (line + 1) (parts_of after) in
    ap (behind entries) (cut_before version line rest text after cut)
    ∙ ap (λ r. behind entries (before (in_line line r) others)) (sym read)

-- the lines behind a first one
headed : (first : List ℕ) (parts : List (List ℕ)) → 0 < length parts → headed_journal (first ∷ parts) ≡ journal_under (heading_of first) parts
headed first [] some = absurd (omega (arith, some))
headed first (next ∷ parts) some = refl

-- the journal of a text behind a first line
pub headed_by : (first rest : List ℕ) → headed_journal (first ∷ parts_of rest) ≡ journal_under (heading_of first) (parts_of rest)
headed_by first rest = headed first (parts_of rest) (omega (arith, length-slice_split (λ b. b == 10) rest))

-- behind a first line that is none
pub none_headed : (first : List ℕ) (parts : List (List ℕ)) → None ≡ heading_of first → headed_journal (first ∷ parts) ≡ Err (Bad 1 Form)
none_headed first [] none = refl
none_headed first (next ∷ parts) none = ap (λ o. journal_under o (next ∷ parts)) (sym none)

-- behind one that is
pub headed_read : (first rest : List ℕ) (heading : Heading) (entries : List Entry) → Some heading ≡ heading_of first
    → lines_entries (version_of heading) 2 (parts_of rest) ≡ Ok entries → headed_journal (first ∷ parts_of rest) ≡ Ok (record { mode = mode_of heading; entries = entries })
headed_read first rest heading entries is read =
    headed_by first rest ∙ ap (λ o. journal_under o (parts_of rest)) (sym is) ∙ ap (with_mode (mode_of heading)) read

pub headed_refused : (first rest : List ℕ) (heading : Heading) (error : JournalError) → Some heading ≡ heading_of first
    → refuses error (lines_entries (version_of heading) 2 (parts_of rest)) → refuses error (headed_journal (first ∷ parts_of rest))
headed_refused first rest heading NoMemory is refused = tt
headed_refused first rest heading (Bad line code) is refused =
    headed_by first rest ∙ ap (λ o. journal_under o (parts_of rest)) (sym is) ∙ ap (with_mode (mode_of heading)) refused

-- whether lines are those of a record
says : (first : List ℕ) (parts : List (List ℕ)) → 0 < length parts → says_record (first ∷ parts) ≡ is_ok (mode_in first)
says first [] some = absurd (omega (arith, some))
says first (next ∷ parts) some = refl

pub says_by : (bytes first rest : List ℕ) → parts_of bytes ≡ first ∷ parts_of rest → says_record (parts_of bytes) ≡ is_ok (mode_in first)
says_by bytes first rest cut = ap says_record cut ∙ says first (parts_of rest) (omega (arith, length-slice_split (λ b. b == 10) rest))
