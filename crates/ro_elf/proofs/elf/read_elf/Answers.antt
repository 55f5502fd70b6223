use Rattle.std.proofs.Common.{◌≡◌, ◌<◌, ◌≤◌, List, None, length, sym, ap, ◌∙◌, subst}
use Rattle.std.specs.List.{All, AllPairs}
use Rattle.std.specs.Option.{option_map}
use Rattle.ro_elf.specs.Checks.{first_failing}
use Rattle.ro_elf.specs.Errors.{number_of}
use Rattle.ro_elf.specs.Header.{header_checks}
use Rattle.ro_elf.specs.Segments.{headers_of, segments_of}
use Rattle.ro_elf.specs.Elf.{IsLoaded, SharesNone, memory_of}
use Rattle.ro_elf.specs.declared.segments.Segment.{Segment}
use Rattle.ro_elf.proofs.Checking.{bad_headers_first, bad_headers_second, elf_is, headers_of_is}
use Rattle.ro_elf.proofs.Loading.{checked_loaded, checked_apart, checked_memory}
use Rattle.ro_elf.proofs.elf.read_elf.Goals as goal

pub returns-in-Some-clause-refused : goal.returns-in-Some-clause-refused
returns-in-Some-clause-refused c = bad_headers_first c.args.bytes.now (number_of c.in-Some.error) (sym c.in-Some.ensures.first)

pub returns-in-Some-bad_segments-clause-refused : goal.returns-in-Some-bad_segments-clause-refused
returns-in-Some-bad_segments-clause-refused c =
    let bytes = c.args.bytes.now in
    let passed : first_failing (header_checks bytes) ≡ None = sym c.bad_header.ensures.first ∙ ap (option_map number_of) c.in_default.is in
    let headers_are : c.headers_at-headers.result.items ≡ headers_of bytes = headers_of_is bytes c.word_at.result c.half_at.result _ c.word_at.ensures c.half_at.ensures c.headers_at-headers.ensures in
    bad_headers_second bytes c.word_at-entry.result _ _ c.word_at-entry.ensures headers_are c.as_slice-2.ensures.value passed _ (c.in-Some-bad_segments.ensures)

pub returns-in-None-clause-accepted : goal.returns-in-None-clause-accepted
returns-in-None-clause-accepted c =
    let bytes = c.args.bytes.now in
    let passed : first_failing (header_checks bytes) ≡ None = sym c.bad_header.ensures.first ∙ ap (option_map number_of) c.in_default.is in
    let headers_are : c.headers_at-headers.result.items ≡ headers_of bytes = headers_of_is bytes c.word_at.result c.half_at.result _ c.word_at.ensures c.half_at.ensures c.headers_at-headers.ensures in
    bad_headers_second bytes c.word_at-entry.result _ _ c.word_at-entry.ensures headers_are c.as_slice-2.ensures.value passed _ (c.in-None.ensures)

pub returns-in-None-clause-read : goal.returns-in-None-clause-read
returns-in-None-clause-read c =
    let bytes = c.args.bytes.now in
    let passed : first_failing (header_checks bytes) ≡ None = sym c.bad_header.ensures.first ∙ ap (option_map number_of) c.in_default.is in
    let headers_are : c.headers_at-headers.result.items ≡ headers_of bytes = headers_of_is bytes c.word_at.result c.half_at.result _ c.word_at.ensures c.half_at.ensures c.headers_at-headers.ensures in
    elf_is bytes c.word_at-entry.result _ _ c.word_at-entry.ensures headers_are c.as_slice.ensures.value passed _ _ c.segments_in-segments.ensures c.section_table.ensures

pub returns-in-None-clause-loaded : goal.returns-in-None-clause-loaded
returns-in-None-clause-loaded c =
    let seen_are = sym c.as_slice.ensures.value in
    let all : All (IsLoaded (length c.args.bytes.now)) (segments_of c.as_slice-2.result.now) = checked_loaded (length c.args.bytes.now) c.word_at-entry.result c.as_slice-2.result.now (sym (c.in-None.ensures)) in
    let same : segments_of c.as_slice-2.result.now ≡ c.segments_in-segments.result.items = ap segments_of (c.as_slice-2.ensures.value ∙ sym c.as_slice.ensures.value) ∙ sym c.segments_in-segments.ensures in
    subst (λ (ss : List Segment). All (IsLoaded (length c.args.bytes.now)) ss) same all

pub returns-in-None-clause-apart : goal.returns-in-None-clause-apart
returns-in-None-clause-apart c =
    let all : AllPairs SharesNone (segments_of c.as_slice-2.result.now) = checked_apart (length c.args.bytes.now) c.word_at-entry.result c.as_slice-2.result.now (sym (c.in-None.ensures)) in
    let same : segments_of c.as_slice-2.result.now ≡ c.segments_in-segments.result.items = ap segments_of (c.as_slice-2.ensures.value ∙ sym c.as_slice.ensures.value) ∙ sym c.segments_in-segments.ensures in
    subst (λ (ss : List Segment). AllPairs SharesNone ss) same all

pub returns-in-None-clause-some : goal.returns-in-None-clause-some
returns-in-None-clause-some c =
    let both = checked_memory (length c.args.bytes.now) c.word_at-entry.result c.as_slice-2.result.now (sym (c.in-None.ensures)) in
    let same : segments_of c.as_slice-2.result.now ≡ c.segments_in-segments.result.items = ap segments_of (c.as_slice-2.ensures.value ∙ sym c.as_slice.ensures.value) ∙ sym c.segments_in-segments.ensures in
    subst (λ (ss : List Segment). 0 < memory_of ss) same both.0

pub returns-in-None-clause-few : goal.returns-in-None-clause-few
returns-in-None-clause-few c =
    let both = checked_memory (length c.args.bytes.now) c.word_at-entry.result c.as_slice-2.result.now (sym (c.in-None.ensures)) in
    let same : segments_of c.as_slice-2.result.now ≡ c.segments_in-segments.result.items = ap segments_of (c.as_slice-2.ensures.value ∙ sym c.as_slice.ensures.value) ∙ sym c.segments_in-segments.ensures in
    subst (λ (ss : List Segment). memory_of ss ≤ 4194304) same both.1
