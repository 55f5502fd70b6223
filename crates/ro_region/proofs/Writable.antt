-- A page is writable where one of its bytes may be written.
use Rattle.std.specs.Prelude.{◌≡◌, ℕ, ◌+◌, ◌*◌, ◌/◌, ◌<◌, ◌≤◌, Bool, true, false, ◌&&◌, ◌||◌, List, [], ◌∷◌, nat_le, nat_lt}
use Rattle.std.proofs.Common.{refl, sym, ◌∙◌, ap, arith, ⊎_elim}
use Rattle.std.proofs.lemmas.Bool.{and_from, and_parts, or_left, or_right, true≢false, cases_Bool, lt-ltb, le-leb, ltb-true, leb-true, leb-false}
use Rattle.ro_region.specs.declared.Kind.TheVariants.{Write}
use Rattle.ro_region.specs.declared.Range.{Range}
use Rattle.ro_region.specs.Permission.{allows, meets, is_writable, permits_byte}

-- a byte of the page that may be written
pub record HasByte (ranges : List Range) (page : ℕ) : Type 0 where
  pub byte : ℕ
  pub on_page : byte / 4096 ≡ page
  pub permitted : permits_byte ranges Write byte ≡ true

-- the range or the page begins with it
in-range : (range : Range) (ranges : List Range) (page : ℕ) → (allows range Write && meets range page 1) ≡ true → HasByte (range ∷ ranges) page
in-range range ranges page h =
    let parts = and_parts (allows range Write) (meets range page 1) h in
    let met = and_parts (nat_lt 0 range.length && nat_lt range.start (4096 * (page + 1))) (nat_lt (4096 * page) (range.start + range.length)) parts.1 in
    let begins = and_parts (nat_lt 0 range.length) (nat_lt range.start (4096 * (page + 1))) met.0 in
    let some : 0 < range.length = ltb-true 0 range.length begins.0 in
    let low : range.start < 4096 * (page + 1) = ltb-true range.start (4096 * (page + 1)) begins.1 in
    let high : 4096 * page < range.start + range.length = ltb-true (4096 * page) (range.start + range.length) met.1 in
    ⊎_elim
    (λ t. let first : 4096 * page ≤ range.start = leb-true (4096 * page) range.start t in record {
      byte = range.start;
      on_page = omega (arith, first, low);
      permitted = or_left _ _ (and_from _ _ (and_from _ _ (le-leb range.start range.start (omega arith)) (lt-ltb range.start (range.start + range.length) (omega (arith, some)))) parts.0);
    })
    (λ f. record {
      byte = 4096 * page;
      on_page = omega arith;
      permitted = or_left _ _ (and_from _ _ (and_from _ _ (le-leb range.start (4096 * page) (let less = leb-false (4096 * page) range.start f in omega (arith, less))) (lt-ltb (4096 * page) (range.start + range.length) high)) parts.0);
    })
    (cases_Bool (nat_le (4096 * page) range.start))

pub has-byte : (ranges : List Range) (page : ℕ) → is_writable ranges page ≡ true → HasByte ranges page
has-byte [] page h = absurd (true≢false (sym h))
has-byte (range ∷ ranges) page h = by (allows range Write && meets range page 1) refl (has-byte ranges page) h
  where
    by : (b : Bool) → (allows range Write && meets range page 1) ≡ b → (is_writable ranges page ≡ true → HasByte ranges page) → (b || is_writable ranges page) ≡ true → HasByte (range ∷ ranges) page
    by true e more h = in-range range ranges page e
    by false e more h = let rest = more h in record { byte = rest.byte; on_page = rest.on_page; permitted = or_right _ _ rest.permitted }

its-range : (range : Range) (a : ℕ) → (nat_le range.start a && nat_lt a (range.start + range.length) && allows range Write) ≡ true → (allows range Write && meets range (a / 4096) 1) ≡ true
its-range range a h =
    let parts = and_parts (nat_le range.start a && nat_lt a (range.start + range.length)) (allows range Write) h in
    let ends = and_parts (nat_le range.start a) (nat_lt a (range.start + range.length)) parts.0 in
    let low : range.start ≤ a = leb-true range.start a ends.0 in
    let high : a < range.start + range.length = ltb-true a (range.start + range.length) ends.1 in
    and_from _ _ parts.1 (and_from _ _ (and_from _ _ (lt-ltb 0 range.length (omega (arith, low, high))) (lt-ltb range.start (4096 * (a / 4096 + 1)) (omega (arith, low)))) (lt-ltb (4096 * (a / 4096)) (range.start + range.length) (omega (arith, high))))

its-page : (ranges : List Range) (a : ℕ) → permits_byte ranges Write a ≡ true → is_writable ranges (a / 4096) ≡ true
its-page [] a h = absurd (true≢false (sym h))
its-page (range ∷ ranges) a h = by (nat_le range.start a && nat_lt a (range.start + range.length) && allows range Write) refl (its-page ranges a) h
  where
    by : (b : Bool) → (nat_le range.start a && nat_lt a (range.start + range.length) && allows range Write) ≡ b → (permits_byte ranges Write a ≡ true → is_writable ranges (a / 4096) ≡ true) → (b || permits_byte ranges Write a) ≡ true → is_writable (range ∷ ranges) (a / 4096) ≡ true
    by true e more h = or_left _ _ (its-range range a e)
    by false e more h = or_right _ _ (more h)

-- no byte of another page may be
pub no-byte : (ranges : List Range) (page a : ℕ) → is_writable ranges page ≡ false → a / 4096 ≡ page → permits_byte ranges Write a ≡ false
no-byte ranges page a none on =
    ⊎_elim
    (λ t. absurd (true≢false (sym (its-page ranges a t) ∙ (ap (is_writable ranges) on ∙ none))))
    (λ f. f)
    (cases_Bool (permits_byte ranges Write a))
