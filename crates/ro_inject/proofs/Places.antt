-- The addresses of ranges' bytes, one range after the other.
use Rattle.std.proofs.Common.{◌≡◌, ℕ, suc, false, ◌+◌, ◌-◌, ◌<◌, ◌≤◌, List, [], ◌∷◌, ◌++◌, length, drop, get_or, refl, sym, ap, ◌∙◌, arith, length-append}
use Rattle.std.specs.List.{range_with_len}
use Rattle.std.proofs.Math.Seq.{drop-cons, get_or-append_right}
use Rattle.std.proofs.lemmas.List.{get_or_append_left}
use Rattle.std.proofs.lemmas.List.FromFn.{length-range_with_len, get_or-range_with_len}
use Rattle.ro_region.specs.declared.Range.{Range}
use Rattle.ro_image.specs.Image.{addresses_in, AreSegments}
use Rattle.std.proofs.lemmas.List.Elements.{All-cons}

-- what is read behind the last range
abbrev pub no_range : Range
no_range = record { start = 0; length = 0; read = false; write = false; execute = false }

-- how many bytes a range and those behind it have
pub count-cons : (range : Range) (ranges : List Range) → length (addresses_in (range ∷ ranges)) ≡ range.length + length (addresses_in ranges)
count-cons range ranges =
    length-append (range_with_len range.start range.length) (addresses_in ranges)
    ∙ ap (λ (n : ℕ). n + length (addresses_in ranges)) (length-range_with_len range.start range.length)

-- the same of the ranges from a place on
pub count-from : (ranges : List Range) (i : ℕ) (d : Range) → i < length ranges
    → length (addresses_in (drop i ranges)) ≡ (get_or ranges i d).length + length (addresses_in (drop (i + 1) ranges))
count-from ranges i d h =
    let next : i + 1 ≡ suc i = omega arith in
    ap (λ (rs : List Range). length (addresses_in rs)) (drop-cons ranges i d h)
    ∙ count-cons (get_or ranges i d) (drop (suc i) ranges)
    ∙ ap (λ (n : ℕ). (get_or ranges i d).length + length (addresses_in (drop n ranges))) (sym next)

-- A place among the ranges from one on: it is in this range, or so far behind it.
pub place-here : (ranges : List Range) (i place : ℕ) (d : Range) → i < length ranges → place < (get_or ranges i d).length
    → get_or (addresses_in (drop i ranges)) place 0 ≡ (get_or ranges i d).start + place
place-here ranges i place d h within =
    let range : Range = get_or ranges i d in
    let rest : List Range = drop (suc i) ranges in
    let long = length-range_with_len range.start range.length in
    ap (λ (rs : List Range). get_or (addresses_in rs) place 0) (drop-cons ranges i d h)
    ∙ get_or_append_left (range_with_len range.start range.length) (addresses_in rest) 0 place (omega (arith, long))
    ∙ get_or-range_with_len range.start range.length place 0 within

pub place-behind : (ranges : List Range) (i place : ℕ) (d : Range) → i < length ranges → (get_or ranges i d).length ≤ place
    → get_or (addresses_in (drop (i + 1) ranges)) (place - (get_or ranges i d).length) 0 ≡ get_or (addresses_in (drop i ranges)) place 0
place-behind ranges i place d h behind =
    let range : Range = get_or ranges i d in
    let here : List ℕ = range_with_len range.start range.length in
    let rest : List ℕ = addresses_in (drop (suc i) ranges) in
    let long = length-range_with_len range.start range.length in
    let next : i + 1 ≡ suc i = omega arith in
    let right : get_or (here ++ rest) place 0 ≡ get_or rest (place - length here) 0 = get_or-append_right here rest place 0 (omega (arith, long)) in
    ap (λ (n : ℕ). get_or (addresses_in (drop n ranges)) (place - range.length) 0) next
    ∙ ap (λ (n : ℕ). get_or rest (place - n) 0) (sym long)
    ∙ sym right
    ∙ ap (λ (rs : List Range). get_or (addresses_in rs) place 0) (sym (drop-cons ranges i d h))

-- three small ranges of bytes are segments
pub three-are : (a b c : Range) → 0 < a.length → a.length + b.length + c.length ≤ 4194304 → a.start + a.length ≤ 0x40000000 → b.start + b.length ≤ 0x40000000 → c.start + c.length ≤ 0x40000000
    → AreSegments (a ∷ b ∷ c ∷ [])
three-are a b c some few ends_a ends_b ends_c =
    let count_a = count-cons a (b ∷ c ∷ []) in
    let count_b = count-cons b (c ∷ []) in
    let count_c = count-cons c [] in
    let count_none : length (addresses_in []) ≡ 0 = refl in
    let ends : Range → Type 0 = λ r. r.start + r.length ≤ 0x40000000 in
    record {
      some = omega (arith, count_a, some);
      few = omega (arith, count_a, count_b, count_c, count_none, few);
      low = All-cons ends a (b ∷ c ∷ []) ends_a (All-cons ends b (c ∷ []) ends_b (All-cons ends c [] ends_c (λ k d h. absurd (omega arith))));
    }
