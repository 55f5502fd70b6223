-- Checks one after the other.
use Rattle.std.proofs.Common.{◌≡◌, ℕ, Bool, true, false, List, [], ◌∷◌, ◌++◌, Option, Some, None, refl, sym, ap, ◌∙◌, length, cond}
use Rattle.ro_elf.specs.Checks.{Check, first_failing}
use Rattle.ro_elf.specs.Header.{header_checks, entry_in, headers_offset_in, header_count_in, section_table_of}
use Rattle.ro_elf.specs.Segments.{headers_from, headers_of, segments_of, segment_checks}
use Rattle.ro_elf.specs.Elf.{bad_headers, Elf, elf_of}
use Rattle.ro_elf.specs.declared.header.SectionTable.{SectionTable}
use Rattle.ro_elf.specs.declared.segments.ProgramHeader.{ProgramHeader}
use Rattle.ro_elf.specs.declared.segments.Segment.{Segment}

some_step : (b : Bool) (c : ℕ) (xs ys : List Check) (code : ℕ) → (first_failing xs ≡ Some code → first_failing (xs ++ ys) ≡ Some code)
    → cond b (first_failing xs) (Some c) ≡ Some code → cond b (first_failing (xs ++ ys)) (Some c) ≡ Some code
some_step true c xs ys code rest e = rest e
some_step false c xs ys code rest e = e

-- the first of two rows fails
pub first_failing-append_some : (xs ys : List Check) (code : ℕ) → first_failing xs ≡ Some code → first_failing (xs ++ ys) ≡ Some code
first_failing-append_some [] ys code e = absurd (cc)
first_failing-append_some (x ∷ xs) ys code e = some_step x.0 x.1 xs ys code (first_failing-append_some xs ys code) e

none_step : (b : Bool) (c : ℕ) (xs ys : List Check) → (first_failing xs ≡ None → first_failing (xs ++ ys) ≡ first_failing ys)
    → cond b (first_failing xs) (Some c) ≡ None → cond b (first_failing (xs ++ ys)) (Some c) ≡ first_failing ys
none_step true c xs ys rest e = rest e
none_step false c xs ys rest e = absurd (cc)

-- the first passes
pub first_failing-append_none : (xs ys : List Check) → first_failing xs ≡ None → first_failing (xs ++ ys) ≡ first_failing ys
first_failing-append_none [] ys e = refl
first_failing-append_none (x ∷ xs) ys e = none_step x.0 x.1 xs ys (first_failing-append_none xs ys) e

-- all pass, so the first does, and those behind it
pub passes : (b : Bool) (rest : Option ℕ) (code : ℕ) → cond b rest (Some code) ≡ None → (b ≡ true) × (rest ≡ None)
passes true rest code e = (refl, e)
passes false rest code e = absurd (cc)

pub bad_headers_first : (bytes : List ℕ) (code : ℕ) → first_failing (header_checks bytes) ≡ Some code → bad_headers bytes ≡ Some code
unfolding bad_headers
bad_headers_first bytes code e = first_failing-append_some (header_checks bytes) (segment_checks (length bytes) (entry_in bytes) (headers_of bytes)) code e

module _ (bytes : List ℕ) (entry : ℕ) (headers seen : List ProgramHeader) (entry_is : entry ≡ entry_in bytes) (headers_are : headers ≡ headers_of bytes) (seen_are : seen ≡ headers) (passed : first_failing (header_checks bytes) ≡ None) where
  -- the checks of the program headers decide
  pub bad_headers_second : (answer : Option ℕ) → answer ≡ first_failing (segment_checks (length bytes) entry seen) → bad_headers bytes ≡ answer
  unfolding bad_headers
  bad_headers_second answer is =
      first_failing-append_none (header_checks bytes) (segment_checks (length bytes) (entry_in bytes) (headers_of bytes)) passed
      ∙ ap (λ (e : ℕ). first_failing (segment_checks (length bytes) e (headers_of bytes))) (sym entry_is)
      ∙ ap (λ (hs : List ProgramHeader). first_failing (segment_checks (length bytes) entry hs)) (sym headers_are ∙ sym seen_are)
      ∙ sym is

  pub elf_is : (segments : List Segment) (sections : SectionTable) → segments ≡ segments_of seen → sections ≡ section_table_of bytes
      → ◌≡◌ {A = Elf} (record { entry = entry; sections = sections; segments = segments }) (elf_of bytes)
  elf_is segments sections segments_are sections_are =
      ap (λ (e : ℕ). let r : Elf = record { entry = e; sections = sections; segments = segments } in r) entry_is
      ∙ ap (λ (t : SectionTable). let r : Elf = record { entry = entry_in bytes; sections = t; segments = segments } in r) sections_are
      ∙ ap (λ (ss : List Segment). let r : Elf = record { entry = entry_in bytes; sections = section_table_of bytes; segments = ss } in r) (segments_are ∙ ap segments_of (seen_are ∙ headers_are))

pub headers_of_is : (bytes : List ℕ) (offset count : ℕ) (headers : List ProgramHeader) → offset ≡ headers_offset_in bytes → count ≡ header_count_in bytes
    → headers ≡ headers_from bytes offset count → headers ≡ headers_of bytes
unfolding headers_of
headers_of_is bytes offset count headers offset_is count_is are =
    are ∙ ap (λ (o : ℕ). headers_from bytes o count) offset_is ∙ ap (λ (n : ℕ). headers_from bytes (headers_offset_in bytes) n) count_is
