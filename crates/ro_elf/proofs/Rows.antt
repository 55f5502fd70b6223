-- Program headers and segments, one after the other.
use Rattle.std.proofs.Common.{◌≡◌, ℕ, suc, ◌+◌, ◌-◌, ◌*◌, ◌<◌, List, [], ◌∷◌, ◌++◌, ◌&&◌, length, drop, get_or, sym, ap, ◌∙◌, arith, append_assoc}
use Rattle.std.specs.List.{list_all}
use Rattle.std.proofs.Math.Seq.{drop-cons}
use Rattle.ro_elf.specs.Segments.{headers_from, header_in, is_apart, are_apart}
use Rattle.ro_elf.specs.declared.segments.ProgramHeader.{ProgramHeader}
use Rattle.ro_elf.specs.declared.segments.Segment.{Segment}

-- the next header, and those behind it
pub headers_from_step : (bytes : List ℕ) (offset count i : ℕ) → i < count
    → headers_from bytes (offset + 32 * i) (count - i) ≡ header_in bytes (offset + 32 * i) ∷ headers_from bytes (offset + 32 * (i + 1)) (count - (i + 1))
headers_from_step bytes offset count i h =
    let more : count - i ≡ suc (count - (i + 1)) = omega arith in
    let place : offset + 32 * i + 32 ≡ offset + 32 * (i + 1) = omega arith in
    ap (λ (n : ℕ). headers_from bytes (offset + 32 * i) n) more
    ∙ ap (λ (a : ℕ). header_in bytes (offset + 32 * i) ∷ headers_from bytes a (count - (i + 1))) place

-- one header more is read
pub headers_more : (bytes : List ℕ) (offset count i : ℕ) (headers new all : List ProgramHeader) (header : ProgramHeader) → i < count
    → headers ++ headers_from bytes (offset + 32 * i) (count - i) ≡ all → header ≡ header_in bytes (offset + 32 * i) → new ≡ headers ++ header ∷ []
    → new ++ headers_from bytes (offset + 32 * (i + 1)) (count - (i + 1)) ≡ all
headers_more bytes offset count i headers new all header h so_far is more =
    let rest : List ProgramHeader = headers_from bytes (offset + 32 * (i + 1)) (count - (i + 1)) in
    ap (λ (xs : List ProgramHeader). xs ++ rest) more
    ∙ append_assoc headers (header ∷ []) rest
    ∙ ap (λ (x : ProgramHeader). headers ++ x ∷ rest) is
    ∙ ap (λ (xs : List ProgramHeader). headers ++ xs) (sym (headers_from_step bytes offset count i h))
    ∙ so_far

-- the next segment is apart from those behind it, and they from one another
pub are_apart_step : (segments : List Segment) (i : ℕ) (d : Segment) → i < length segments
    → are_apart (drop i segments) ≡ (list_all (is_apart (get_or segments i d)) (drop (i + 1) segments) && are_apart (drop (i + 1) segments))
are_apart_step segments i d h =
    let next : i + 1 ≡ suc i = omega arith in
    ap are_apart (drop-cons segments i d h)
    ∙ ap (λ (k : ℕ). list_all (is_apart (get_or segments i d)) (drop k segments) && are_apart (drop k segments)) (sym next)
