-- The head of a record: its lines put together, and read one after another.
use Rattle.std.proofs.Common.{ℕ, ◌≡◌, ◌<◌, ◌==◌, List, [], ◌∷◌, ◌++◌, Result, Ok, Err, length, arith, refl, sym, ap, ◌∙◌, append_assoc, append-nil}
use Rattle.std.proofs.lemmas.List.Splits.{length-slice_split}
use Rattle.ro_text.specs.Lines.{line_text, parts_of}
use Rattle.ro_journal_text.specs.declared.errors.JournalCode.{JournalCode}
use Rattle.ro_journal_text.specs.declared.errors.JournalCode.TheVariants.{Form}
use Rattle.ro_journal_text.specs.declared.errors.JournalError.{JournalError}
use Rattle.ro_journal_text.specs.declared.errors.JournalError.TheVariants.{Bad}
use Rattle.ro_journal_text.specs.Reading.{in_line}
use Rattle.ro_journal_text.specs.Records.{Headed, lines_text, and_then, at_line}

-- lines that were appended one after another
abbrev pub appended : List ℕ → List (List (List ℕ)) → List ℕ
appended text [] = text
appended text (words ∷ lines) = appended (text ++ line_text words) lines

pub joined : (text : List ℕ) (lines : List (List (List ℕ))) → appended text lines ≡ text ++ lines_text lines
joined text [] = sym (append-nil text)
joined text (words ∷ lines) = joined (text ++ line_text words) lines ∙ append_assoc text (line_text words) (lines_text lines)

-- a line before others
at_before : {A : Type 0} (line : ℕ) (says : List ℕ → Result A JournalCode) (part : List ℕ) (parts : List (List ℕ)) (more : A → List (List ℕ) → Result Headed JournalError)
    → 0 < length parts → at_line line says (part ∷ parts) more ≡ and_then (in_line line (says part)) (λ said. more said parts)
at_before line says part [] more some = absurd (omega (arith, some))
at_before line says part (next ∷ parts) more some = refl

at_cut : {A : Type 0} (line : ℕ) (says : List ℕ → Result A JournalCode) (bytes text rest : List ℕ) (more : A → List (List ℕ) → Result Headed JournalError)
    → parts_of bytes ≡ text ∷ parts_of rest → at_line line says (parts_of bytes) more ≡ and_then (in_line line (says text)) (λ said. more said (parts_of rest))
at_cut line says bytes text rest more cut =
    ap (λ parts. at_line line says parts more) cut ∙ at_before line says text (parts_of rest) more (omega (arith, length-slice_split (λ b. b == 10) rest))

-- a line that says something
pub line_said : {A : Type 0} (line : ℕ) (says : List ℕ → Result A JournalCode) (bytes text rest : List ℕ) (said : A) (more : A → List (List ℕ) → Result Headed JournalError)
    → parts_of bytes ≡ text ∷ parts_of rest → Ok said ≡ says text → at_line line says (parts_of bytes) more ≡ more said (parts_of rest)
line_said line says bytes text rest said more cut is =
    at_cut line says bytes text rest more cut ∙ ap (λ r. and_then (in_line line r) (λ said. more said (parts_of rest))) (sym is)

-- one that is bad
pub line_bad : {A : Type 0} (line : ℕ) (says : List ℕ → Result A JournalCode) (bytes text rest : List ℕ) (code : JournalCode) (more : A → List (List ℕ) → Result Headed JournalError)
    → parts_of bytes ≡ text ∷ parts_of rest → Err code ≡ says text → at_line line says (parts_of bytes) more ≡ Err (Bad line code)
line_bad line says bytes text rest code more cut is =
    at_cut line says bytes text rest more cut ∙ ap (λ r. and_then (in_line line r) (λ said. more said (parts_of rest))) (sym is)

-- one without its line feed
pub line_missing : {A : Type 0} (line : ℕ) (says : List ℕ → Result A JournalCode) (bytes : List ℕ) (more : A → List (List ℕ) → Result Headed JournalError)
    → parts_of bytes ≡ bytes ∷ [] → at_line line says (parts_of bytes) more ≡ Err (Bad line Form)
line_missing line says bytes more none = ap (λ parts. at_line line says parts more) none
