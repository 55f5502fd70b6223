-- The segments of an accepted file have 1 byte to 4 MiB.
use Rattle.std.proofs.Common.{◌≡◌, ℕ, ◌+◌, ◌-◌, ◌<◌, ◌≤◌, List, [], ◌∷◌, ◌++◌, refl, sym, ap, ◌∙◌, subst, arith, length, take, map, length-append}
use Rattle.std.specs.List.{All, range_with_len}
use Rattle.std.proofs.Math.Seq.{take-append_seam}
use Rattle.std.proofs.lemmas.List.Sums.{sum_by-cons}
use Rattle.std.proofs.lemmas.List.FromFn.{length-range_with_len}
use Rattle.std.proofs.lemmas.List.Elements.{All-map, All-weaker}
use Rattle.ro_elf.specs.Elf.{IsLoaded, memory_of}
use Rattle.ro_elf.specs.declared.segments.Segment.{Segment}
use Rattle.ro_region.specs.declared.Range.{Range}
use Rattle.ro_image.specs.Image.{ranges_with, stack_ranges, segments_in, addresses_in, AreSegments, HasSegments}
use Rattle.ro_image.specs.Executable.{range_of, data_range}

addresses-count : (segments : List Segment) → length (addresses_in (map range_of segments)) ≡ memory_of segments
addresses-count [] = refl
addresses-count (segment ∷ segments) =
    length-append (range_with_len segment.address segment.memory_size) (addresses_in (map range_of segments))
    ∙ ap (λ (n : ℕ). n + length (addresses_in (map range_of segments))) (length-range_with_len segment.address segment.memory_size)
    ∙ ap (λ (n : ℕ). segment.memory_size + n) (addresses-count segments)
    ∙ sym (sum_by-cons (λ (s : Segment). s.memory_size) segment segments)

ranges-cut : (segments : List Range) (heap : ℕ) → segments_in (ranges_with segments heap) ≡ segments
ranges-cut segments heap =
    let behind : List Range = data_range heap 0x100000 ∷ stack_ranges 16 in
    let long : length (segments ++ behind) - 17 ≡ length segments = let n = length-append segments behind in omega (arith, n) in
    ap (λ (n : ℕ). take n (segments ++ behind)) long ∙ take-append_seam segments behind

ranges-long : (segments : List Range) (heap : ℕ) → 17 ≤ length (ranges_with segments heap)
ranges-long segments heap = let n = length-append segments (data_range heap 0x100000 ∷ stack_ranges 16) in omega (arith, n)

-- the ranges of the segments of an accepted file
pub ranges_bounded : (size : ℕ) (segments : List Segment) (ranges : List Range) (heap : ℕ) → All (IsLoaded size) segments
    → 0 < memory_of segments → memory_of segments ≤ 4194304 → ranges ≡ ranges_with (map range_of segments) heap → HasSegments ranges
ranges_bounded size segments ranges heap loaded some few ranges_are =
    let count = addresses-count segments in
    let are : AreSegments (map range_of segments) = record {
      some = omega (arith, count, some);
      few = omega (arith, count, few);
      low = All-map (λ (r : Range). r.start + r.length ≤ 0x40000000) range_of segments (All-weaker (IsLoaded size) (λ s. s.address + s.memory_size ≤ 0x40000000) (λ s h. h.below) segments loaded);
    } in
    let of_made : HasSegments (ranges_with (map range_of segments) heap) = record {
      behind = ranges-long (map range_of segments) heap;
      segments = subst AreSegments (sym (ranges-cut (map range_of segments) heap)) are;
    } in
    subst HasSegments (sym ranges_are) of_made
