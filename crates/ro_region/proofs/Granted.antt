-- What is granted of the pages of the memory that is given on demand, and ranges of two lists.
use Rattle.std.specs.Prelude.{◌≡◌, ℕ, zero, suc, ◌+◌, ◌*◌, ◌≤◌, Bool, true, false, ◌&&◌, ◌||◌, List, [], ◌∷◌, ◌++◌, length, replicate, reverse, slice_set, Some, nat_lt, nat_le}
use Rattle.std.specs.List.{slice_get, list_any}
use Rattle.std.proofs.Common.{refl, sym, ap, subst, ◌∙◌, arith, get_or}
use Rattle.std.proofs.lemmas.Bool.{and_from, or_left, or_right, le-leb, lt-ltb, true≢false}
use Rattle.std.proofs.lemmas.List.{get_or-replicate, length-replicate, length-set, reverse-append}
use Rattle.std.proofs.lemmas.List.Folds.{list_any-append}
use Rattle.std.proofs.lemmas.List.Sorted.{IsPermutation-reverse, list_any-IsPermutation}
use Rattle.std.proofs.lemmas.Option.{slice_get-get_or, slice_get_within}
use Rattle.ro_region.specs.declared.Kind.{Kind}
use Rattle.ro_region.specs.declared.Range.{Range}
use Rattle.ro_region.specs.declared.windows.Window.{Window}
use Rattle.ro_region.specs.declared.grants.Grant.{Grant}
use Rattle.ro_region.specs.declared.grants.Grant.TheVariants.{Nothing}
use Rattle.ro_region.specs.Permission.{allows, permits_byte}
use Rattle.ro_region.specs.Grants.{grants, IsGranted, AreGranted}
use Rattle.ro_region.specs.Windows.{IsOpen}
use Rattle.ro_region.proofs.Wider.{byte-wider}

-- a list with one element set
in_set : {X : Type 0} (P : ℕ → X → Type 0) (xs : List X) (k : ℕ) (x : X) → P k x → ((i : ℕ) (y : X) → slice_get xs i ≡ Some y → P i y) → (i : ℕ) (y : X) → slice_get (slice_set xs k x) i ≡ Some y → P i y
in_set P [] k x h each i y e = each i y e
in_set P (z ∷ xs) zero x h each zero y e = let f : Some x ≡ Some y = e in let same : x ≡ y = cc in subst (P 0) same h
in_set P (z ∷ xs) zero x h each (suc i) y e = each (suc i) y e
in_set P (z ∷ xs) (suc k) x h each zero y e = each zero y e
in_set P (z ∷ xs) (suc k) x h each (suc i) y e = in_set (λ j. P (suc j)) xs k x h (λ j w f. each (suc j) w f) i y e

-- pages of which nothing is granted
pub none-granted : (pages : List Grant) → pages ≡ replicate 4096 Nothing → AreGranted [] pages
none-granted pages e = record {
  count = ap length e ∙ length-replicate 4096 Nothing;
  sound = λ place grant there kind k granted l.
      let within = slice_get_within pages place grant there in
      let long : length pages ≡ 4096 = ap length e ∙ length-replicate 4096 Nothing in
      let is : Some Nothing ≡ Some grant =
      sym (slice_get-get_or pages place Nothing within ∙ ap Some (ap (λ (ps : List Grant). get_or ps place Nothing) e ∙ get_or-replicate 4096 place Nothing Nothing (omega arith))) ∙ there in
      let nothing : Nothing ≡ grant = cc in
      absurd (true≢false (sym granted ∙ sym (ap (λ g. grants g kind) nothing)));
}

-- with a range more
pub granted-wider : (range : Range) (ranges : List Range) (pages : List Grant) → AreGranted ranges pages → AreGranted (range ∷ ranges) pages
granted-wider range ranges pages h = record {
  count = h.count;
  sound = λ place grant there kind k granted l. byte-wider range ranges kind _ (h.sound place grant there kind k granted l);
}

-- what lies in a range
pub granted-in : (range : Range) (ranges : List Range) (place : ℕ) (grant : Grant) → ((kind : Kind) → grants grant kind ≡ true → allows range kind ≡ true)
    → range.start ≤ 4096 * (0x50000 + place) → 4096 * (0x50000 + place) + 4096 ≤ range.start + range.length → IsGranted (range ∷ ranges) place grant
granted-in range ranges place grant allowed low high kind k granted l =
    or_left _ _ (and_from _ _ (and_from _ _ (le-leb range.start (4096 * (0x50000 + place) + k) (omega arith)) (lt-ltb (4096 * (0x50000 + place) + k) (range.start + range.length) (omega arith))) (allowed kind granted))

-- a page of which something is granted
pub granted-set : (ranges : List Range) (pages : List Grant) (place : ℕ) (grant : Grant) → AreGranted ranges pages → IsGranted ranges place grant → AreGranted ranges (slice_set pages place grant)
granted-set ranges pages place grant h granted = record {
  count = length-set pages place grant ∙ h.count;
  sound = in_set (IsGranted ranges) pages place grant granted h.sound;
}

-- a page of which this kind of access is granted
pub granted-open : (ranges : List Range) (pages : List Grant) (page place : ℕ) (kind : Kind) (grant : Grant) → AreGranted ranges pages → page ≡ 0x50000 + place → slice_get pages place ≡ Some grant → grants grant kind ≡ true
    → IsOpen ranges kind page (record { from = 0; to = 4096 })
granted-open ranges pages page place kind grant h e there granted = record {
  ordered = omega arith;
  within = omega arith;
  permitted = λ k low high. subst (λ p. permits_byte ranges kind (4096 * p + k) ≡ true) (sym e) (h.sound place grant there kind k granted high);
}

-- a byte of one of two lists of ranges
pub byte-either : (kind : Kind) (a : ℕ) (given first : List Range) → permits_byte (given ++ first) kind a ≡ (permits_byte given kind a || permits_byte first kind a)
byte-either kind a given first = list_any-append (λ range. nat_le range.start a && nat_lt a (range.start + range.length) && allows range kind) given first

pub open-given : (given first : List Range) (kind : Kind) (page : ℕ) (window : Window) → IsOpen given kind page window → IsOpen (given ++ first) kind page window
open-given given first kind page window h = record {
  ordered = h.ordered;
  within = h.within;
  permitted = λ k low high. byte-either kind (4096 * page + k) given first ∙ or_left _ _ (h.permitted k low high);
}

pub open-first : (given first : List Range) (kind : Kind) (page : ℕ) (window : Window) → IsOpen first kind page window → IsOpen (given ++ first) kind page window
open-first given first kind page window h = record {
  ordered = h.ordered;
  within = h.within;
  permitted = λ k low high. byte-either kind (4096 * page + k) given first ∙ or_right _ _ (h.permitted k low high);
}

or-swap : (x y : Bool) → (x || y) ≡ (y || x)
or-swap true true = refl
or-swap true false = refl
or-swap false true = refl
or-swap false false = refl

-- a test of the ranges from the opening, and of those that were given, the oldest first
any-either : (p : Range → Bool) (given first : List Range) → (list_any p first || list_any p given) ≡ list_any p (reverse given ++ first)
any-either p given first =
    or-swap (list_any p first) (list_any p given)
    ∙ ap (λ b. b || list_any p first) (list_any-IsPermutation p given (reverse given) (IsPermutation-reverse given))
    ∙ sym (list_any-append p (reverse given) first)

pub any-first : (p : Range → Bool) (given first : List Range) → list_any p first ≡ true → true ≡ list_any p (reverse given ++ first)
any-first p given first h = sym (ap (λ b. b || list_any p given) h) ∙ any-either p given first

pub any-given : (p : Range → Bool) (given first : List Range) → list_any p first ≡ false → list_any p given ≡ list_any p (reverse given ++ first)
any-given p given first h = sym (ap (λ b. b || list_any p given) h) ∙ any-either p given first

-- the newest range comes first
pub reverse-last : (ranges : List Range) (range : Range) → reverse (ranges ++ range ∷ []) ≡ range ∷ reverse ranges
reverse-last ranges range = reverse-append ranges (range ∷ [])
