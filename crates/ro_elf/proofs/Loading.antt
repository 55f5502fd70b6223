-- The segments of a file that passes its checks.
use Rattle.std.proofs.Common.{◌≡◌, ℕ, zero, suc, ◌+◌, ◌%◌, ◌<◌, ◌≤◌, ◌⊎◌, inl, inr, Bool, true, false, cond, ◌&&◌, ◌||◌, nat_lt, List, [], ◌∷◌, None, refl, sym, ap, ◌∙◌, arith, ltb-true, lt-ltb, leb-true, map, filter}
use Rattle.std.specs.List.{All, AllPairs, list_all}
use Rattle.std.proofs.lemmas.List.Elements.{All-cons}
use Rattle.std.proofs.lemmas.List.Kept.{AllPairs-cons}
use Rattle.std.proofs.lemmas.List.Sums.{sum_by-cons}
use Rattle.std.specs.Prelude.{nat_le, ◌==◌, sum_by}
use Rattle.ro_elf.specs.Checks.{first_failing}
use Rattle.ro_elf.specs.Segments.{is_load, is_segment, is_within, end_of, is_apart, are_apart, has_bytes, is_static, lie_among, segment_of, segments_of, segment_checks, loaded_size, executes, starts_at, fits_memory}
use Rattle.ro_elf.specs.Elf.{IsLoaded, SharesNone, memory_of}
use Rattle.ro_elf.specs.declared.segments.ProgramHeader.{ProgramHeader}
use Rattle.ro_elf.specs.declared.segments.Segment.{Segment}
use Rattle.ro_elf.proofs.Checking.{passes}

parts : (x y : Bool) → (x && y) ≡ true → (x ≡ true) × (y ≡ true)
parts true true e = (refl, refl)
parts true false e = absurd (cc)
parts false y e = absurd (cc)

-- a header that gives a segment gives one that is loaded
loaded : (size : ℕ) (header : ProgramHeader) → is_segment header ≡ true → has_bytes size header ≡ true → is_within (segment_of header) ≡ true
    → IsLoaded size (segment_of header)
loaded size header gives has within =
    let kind = parts (is_load header) (nat_lt 0 header.memory_size) gives in
    let both : (nat_le (header.offset + header.file_size) size && nat_le header.file_size header.memory_size) ≡ true =
    ap (λ (b : Bool). cond b (nat_le (header.offset + header.file_size) size && nat_le header.file_size header.memory_size) true) (sym kind.0) ∙ has in
    let bytes = parts (nat_le (header.offset + header.file_size) size) (nat_le header.file_size header.memory_size) both in
    let places = parts (nat_le 0x10000 header.address) (nat_le (header.address + header.memory_size) 0x40000000) within in
    record {
      some = ltb-true 0 header.memory_size kind.1;
      in_file = leb-true (header.offset + header.file_size) size bytes.0;
      in_memory = leb-true header.file_size header.memory_size bytes.1;
      above = leb-true 0x10000 header.address places.0;
      below = leb-true (header.address + header.memory_size) 0x40000000 places.1;
    }

loaded_step : (size : ℕ) (header : ProgramHeader) (headers : List ProgramHeader) → has_bytes size header ≡ true
    → (list_all is_within (segments_of headers) ≡ true → All (IsLoaded size) (segments_of headers)) → (b : Bool) → is_segment header ≡ b
    → list_all is_within (map segment_of (cond b (header ∷ filter is_segment headers) (filter is_segment headers))) ≡ true
    → All (IsLoaded size) (map segment_of (cond b (header ∷ filter is_segment headers) (filter is_segment headers)))
loaded_step size header headers has rest true e within =
    let ws = parts (is_within (segment_of header)) (list_all is_within (segments_of headers)) within in
    All-cons (IsLoaded size) (segment_of header) (segments_of headers) (loaded size header e has ws.0) (rest ws.1)
loaded_step size header headers has rest false e within = rest within

pub all_loaded : (size : ℕ) (headers : List ProgramHeader) → list_all (has_bytes size) headers ≡ true → list_all is_within (segments_of headers) ≡ true
    → All (IsLoaded size) (segments_of headers)
all_loaded size [] has within = λ k d h. absurd (omega arith)
all_loaded size (header ∷ headers) has within =
    let have = parts (has_bytes size header) (list_all (has_bytes size) headers) has in
    loaded_step size header headers have.0 (all_loaded size headers have.1) (is_segment header) refl within

either : (x y : Bool) → (x || y) ≡ true → (x ≡ true) ⊎ (y ≡ true)
either true y e = inl refl
either false y e = inr e

ends_apart : (a b : Segment) → (end_of a ≤ b.address) ⊎ (end_of b ≤ a.address) → SharesNone a b
ends_apart a b (inl h) = λ address in_a in_b. omega (arith, h, in_a.1, in_b.0)
ends_apart a b (inr h) = λ address in_a in_b. omega (arith, h, in_a.0, in_b.1)

apart_either : (a b : Segment) → (nat_le (end_of a) b.address ≡ true) ⊎ (nat_le (end_of b) a.address ≡ true) → SharesNone a b
apart_either a b (inl h) = ends_apart a b (inl (leb-true (end_of a) b.address h))
apart_either a b (inr h) = ends_apart a b (inr (leb-true (end_of b) a.address h))

shares_none : (a b : Segment) → is_apart a b ≡ true → SharesNone a b
shares_none a b e = apart_either a b (either (nat_le (end_of a) b.address) (nat_le (end_of b) a.address) e)

all_share_none : (a : Segment) (segments : List Segment) → list_all (is_apart a) segments ≡ true → All (SharesNone a) segments
all_share_none a [] e = λ k d h. absurd (omega arith)
all_share_none a (b ∷ segments) e =
    let ts = parts (is_apart a b) (list_all (is_apart a) segments) e in
    All-cons (SharesNone a) b segments (shares_none a b ts.0) (all_share_none a segments ts.1)

-- segments that are apart share no byte
pub pairs_share_none : (segments : List Segment) → are_apart segments ≡ true → AllPairs SharesNone segments
pairs_share_none [] e = λ i j d below h. absurd (omega arith)
pairs_share_none (a ∷ segments) e =
    let ts = parts (list_all (is_apart a) segments) (are_apart segments) e in
    AllPairs-cons SharesNone a segments (all_share_none a segments ts.0) (pairs_share_none segments ts.1)

-- the segments of a file whose program headers pass share no byte
pub checked_apart : (size entry : ℕ) (headers : List ProgramHeader) → first_failing (segment_checks size entry headers) ≡ None
    → AllPairs SharesNone (segments_of headers)
checked_apart size entry headers e =
    let static = passes (list_all is_static headers) _ 11 e in
    let has = passes (list_all (has_bytes size) headers) _ 12 static.1 in
    let well = passes (lie_among (segments_of headers)) _ 13 has.1 in
    pairs_share_none (segments_of headers) (parts (list_all is_within (segments_of headers)) (are_apart (segments_of headers)) well.0).1

-- the segments of a file whose program headers pass are loaded
pub checked_loaded : (size entry : ℕ) (headers : List ProgramHeader) → first_failing (segment_checks size entry headers) ≡ None
    → All (IsLoaded size) (segments_of headers)
checked_loaded size entry headers e =
    let static = passes (list_all is_static headers) _ 11 e in
    let has = passes (list_all (has_bytes size) headers) _ 12 static.1 in
    let well = passes (lie_among (segments_of headers)) _ 13 has.1 in
    all_loaded size headers has.0 (parts (list_all is_within (segments_of headers)) (are_apart (segments_of headers)) well.0).0

-- headers load what their segments have
sized : (b : Bool) (m : ℕ) (header : ProgramHeader) (rest : List ProgramHeader) → m ≡ header.memory_size
    → cond b m 0 + memory_of (map segment_of rest) ≡ memory_of (map segment_of (cond (b && nat_lt 0 m) (header ∷ rest) rest))
sized false m header rest e = omega arith
sized true zero header rest e = omega arith
sized true (suc m) header rest e =
    ap (λ (n : ℕ). n + memory_of (map segment_of rest)) e
    ∙ sym (sum_by-cons (λ (s : Segment). s.memory_size) (segment_of header) (map segment_of rest))
    ∙ ap (λ (b : Bool). memory_of (map segment_of (cond b (header ∷ rest) rest))) (sym (lt-ltb 0 (suc m) (omega arith)))

loaded-memory : (headers : List ProgramHeader) → sum_by loaded_size headers ≡ memory_of (segments_of headers)
loaded-memory [] = refl
loaded-memory (header ∷ headers) =
    sum_by-cons loaded_size header headers
    ∙ ap (λ (n : ℕ). loaded_size header + n) (loaded-memory headers)
    ∙ sized (is_load header) header.memory_size header (filter is_segment headers) refl

-- where an address may be executed, there is a byte
some-byte : (size address : ℕ) (segments : List Segment) → All (IsLoaded size) segments → executes segments address ≡ true → 0 < memory_of segments
some-byte size address [] loaded e = absurd (cc)
some-byte size address (segment ∷ segments) loaded e =
    let here : IsLoaded size segment = loaded 0 segment (omega arith) in
    let more = sum_by-cons (λ (s : Segment). s.memory_size) segment segments in
    omega (arith, here.some, more)

-- the segments of a file whose program headers pass have 1 byte to 4 MiB
pub checked_memory : (size entry : ℕ) (headers : List ProgramHeader) → first_failing (segment_checks size entry headers) ≡ None
    → (0 < memory_of (segments_of headers)) × (memory_of (segments_of headers) ≤ 4194304)
checked_memory size entry headers e =
    let static = passes (list_all is_static headers) _ 11 e in
    let has = passes (list_all (has_bytes size) headers) _ 12 static.1 in
    let well = passes (lie_among (segments_of headers)) _ 13 has.1 in
    let starts = passes (starts_at (segments_of headers) entry) _ 14 well.1 in
    let fits = passes (fits_memory headers) _ 15 starts.1 in
    let ends = parts (entry % 4 == 0 && executes (segments_of headers) entry && executes (segments_of headers) (entry + 1) && executes (segments_of headers) (entry + 2)) (executes (segments_of headers) (entry + 3)) starts.0 in
    let few : sum_by loaded_size headers ≤ 4194304 = leb-true (sum_by loaded_size headers) 4194304 fits.0 in
    (some-byte size (entry + 3) (segments_of headers) (checked_loaded size entry headers e) ends.1, omega (arith, few, loaded-memory headers))
