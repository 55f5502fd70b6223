-- The map that pages at places make.
use Rattle.std.specs.Prelude.{◌≡◌, ◌≢◌, ℕ, zero, suc, ◌+◌, ◌<◌, ◌≤◌, ◌||◌, ◌==◌, true, false, List, [], ◌∷◌, ◌++◌, length, drop, Option, Some, None, is_some}
use Rattle.std.specs.List.{slice_get}
use Rattle.std.specs.Option.{option_map}
use Rattle.std.proofs.Common.{refl, sym, ap, ◌∙◌, inl, inr, arith, get_or, set}
use Rattle.std.proofs.lemmas.Bool.{cases_eq, cases_lt, true≢false, eq-eqb, ne_eqb, or_parts}
use Rattle.std.proofs.lemmas.Option.{get_or_from_slice_get, slice_get-get_or, slice_get_past}
use Rattle.std.proofs.lemmas.List.{drop_more, length-set}
use Rattle.std.specs.Ordering.{nat_cmp}
use Rattle.std.specs.Cmp.{nat_cmp_total}
use Rattle.std.specs.FinMap as map
use Rattle.std.specs.FinMap.{FinMap, gets, same_map, nat_cmp-IsAntisymmetric}
use Rattle.ro_pages.specs.Directories.{IsEntry, is_listed}
use Rattle.ro_pages.specs.Held.{pages_of, has_page}
use Rattle.ro_pages.proofs.Entries.{listed_at}
use Rattle.ro_pages.proofs.PageBytes.{same_get, other_get}

later : (n q e : ℕ) (ns : List ℕ) → IsEntry (n ∷ ns) q (suc e) → IsEntry ns q e
later n q e ns h = record {
  found = λ l. h.found (omega arith);
  only = λ other g. let k : suc other ≡ suc e = h.only (suc other) g in omega arith;
}

first_is_other : (n q e : ℕ) (ns : List ℕ) → IsEntry (n ∷ ns) q (suc e) → q ≢ n
first_is_other n q e ns h same = let k : 0 ≡ suc e = h.only 0 (ap Some (sym same)) in absurd (omega arith)

-- what the map has for a page is what stands at its entry
pub get_pages : {X : Type 0} (v : X → List ℕ) (ns : List ℕ) (xs : List X) (q e : ℕ) → length ns ≡ length xs → IsEntry ns q e → map.get (pages_of v ns xs) q ≡ option_map v (slice_get xs e)
get_pages v [] [] q e l h = grind (arith, gets)
get_pages v [] (x ∷ xs) q e l h = absurd (omega arith)
get_pages v (n ∷ ns) [] q e l h = absurd (omega arith)
get_pages v (n ∷ ns) (x ∷ xs) q zero l h =
    let is : n ≡ q = get_or_from_slice_get (n ∷ ns) 0 q 0 (h.found (omega arith)) in
    ap (map.get (map.insert (pages_of v ns xs) n (v x))) (sym is) ∙ same_get (pages_of v ns xs) n (v x)
get_pages v (n ∷ ns) (x ∷ xs) q (suc e) l h =
    other_get (pages_of v ns xs) n q (v x) (first_is_other n q e ns h) ∙ get_pages v ns xs q e (omega arith) (later n q e ns h)

-- the pages that the map has are those of the list
pub has_listed : {X : Type 0} (v : X → List ℕ) (ns : List ℕ) (xs : List X) (q : ℕ) → length ns ≡ length xs → has_page (pages_of v ns xs) q ≡ is_listed ns q
has_listed v [] [] q l = ap is_some none
  where
    none : map.get (pages_of v [] []) q ≡ None
    none = grind (arith, gets)
has_listed v [] (x ∷ xs) q l = absurd (omega arith)
has_listed v (n ∷ ns) [] q l = absurd (omega arith)
has_listed v (n ∷ ns) (x ∷ xs) q l = elim (cases_eq q n) [
  | inl same ↦
      ap (has_page (map.insert (pages_of v ns xs) n (v x))) same ∙ ap is_some (same_get (pages_of v ns xs) n (v x))
      ∙ sym (ap (λ b. b || is_listed ns q) (eq-eqb n q (sym same)))
  | inr other ↦
      ap is_some (other_get (pages_of v ns xs) n q (v x) other) ∙ has_listed v ns xs q (omega arith)
      ∙ sym (ap (λ b. b || is_listed ns q) (ne_eqb n q (λ e. other (sym e))))
]

set_elsewhere : {X : Type 0} (v : X → List ℕ) (ns : List ℕ) (xs : List X) (q e k : ℕ) (y : X) → slice_get ns e ≡ Some q → k ≢ q → map.get (pages_of v ns (set xs e y)) k ≡ map.get (pages_of v ns xs) k
set_elsewhere v [] xs q e k y h other = refl
set_elsewhere v (n ∷ ns) [] q e k y h other = refl
set_elsewhere v (n ∷ ns) (x ∷ xs) q zero k y h other =
    let is : n ≡ q = get_or_from_slice_get (n ∷ ns) 0 q 0 h in
    other_get (pages_of v ns xs) n k (v y) (λ e. other (e ∙ is)) ∙ sym (other_get (pages_of v ns xs) n k (v x) (λ e. other (e ∙ is)))
set_elsewhere v (n ∷ ns) (x ∷ xs) q (suc e) k y h other = elim (cases_eq k n) [
  | inl same ↦
      ap (map.get (map.insert (pages_of v ns (set xs e y)) n (v x))) same ∙ same_get _ n (v x)
      ∙ sym (ap (map.get (map.insert (pages_of v ns xs) n (v x))) same ∙ same_get (pages_of v ns xs) n (v x))
  | inr apart ↦
      other_get (pages_of v ns (set xs e y)) n k (v x) apart ∙ set_elsewhere v ns xs q e k y h other
      ∙ sym (other_get (pages_of v ns xs) n k (v x) apart)
]

set_here : {X : Type 0} (xs : List X) (e : ℕ) (y : X) → e < length xs → slice_get (set xs e y) e ≡ Some y
set_here [] e y l = absurd (omega arith)
set_here (x ∷ xs) zero y l = refl
set_here (x ∷ xs) (suc e) y l = set_here xs e y (omega arith)

-- maps that have the same at one page, and at each other one
by_page : (m n : FinMap nat_cmp (List ℕ)) (q : ℕ) → map.get m q ≡ map.get n q → ((k : ℕ) → k ≢ q → map.get m k ≡ map.get n k) → m ≡ n
by_page m n q same others = same_map nat_cmp_total nat_cmp-IsAntisymmetric m n (λ k. elim (cases_eq k q) [
  | inl is ↦ ap (map.get m) is ∙ same ∙ sym (ap (map.get n) is)
  | inr other ↦ others k other
])

-- another page at the place of a page
pub pages_of_set : {X : Type 0} (v : X → List ℕ) (ns : List ℕ) (xs : List X) (q e : ℕ) (y : X) → length ns ≡ length xs → IsEntry ns q e → e < length ns → pages_of v ns (set xs e y) ≡ map.insert (pages_of v ns xs) q (v y)
pages_of_set v ns xs q e y l h within =
    by_page _ _ q
    (get_pages v ns (set xs e y) q e (l ∙ sym (length-set xs e y)) h ∙ ap (option_map v) (set_here xs e y (omega arith)) ∙ sym (same_get (pages_of v ns xs) q (v y)))
    (λ k other. set_elsewhere v ns xs q e k y (h.found within) other ∙ sym (other_get (pages_of v ns xs) q k (v y) other))

push_elsewhere : {X : Type 0} (v : X → List ℕ) (ns : List ℕ) (xs : List X) (q k : ℕ) (y : X) → length ns ≡ length xs → k ≢ q → map.get (pages_of v (ns ++ q ∷ []) (xs ++ y ∷ [])) k ≡ map.get (pages_of v ns xs) k
push_elsewhere v [] [] q k y l other = other_get map.empty q k (v y) other
push_elsewhere v [] (x ∷ xs) q k y l other = absurd (omega arith)
push_elsewhere v (n ∷ ns) [] q k y l other = absurd (omega arith)
push_elsewhere v (n ∷ ns) (x ∷ xs) q k y l other = elim (cases_eq k n) [
  | inl same ↦
      ap (map.get (map.insert (pages_of v (ns ++ q ∷ []) (xs ++ y ∷ [])) n (v x))) same ∙ same_get _ n (v x)
      ∙ sym (ap (map.get (map.insert (pages_of v ns xs) n (v x))) same ∙ same_get (pages_of v ns xs) n (v x))
  | inr apart ↦
      other_get (pages_of v (ns ++ q ∷ []) (xs ++ y ∷ [])) n k (v x) apart ∙ push_elsewhere v ns xs q k y (omega arith) other
      ∙ sym (other_get (pages_of v ns xs) n k (v x) apart)
]

push_here : {X : Type 0} (v : X → List ℕ) (ns : List ℕ) (xs : List X) (q : ℕ) (y : X) → length ns ≡ length xs → is_listed ns q ≡ false → map.get (pages_of v (ns ++ q ∷ []) (xs ++ y ∷ [])) q ≡ Some (v y)
push_here v [] [] q y l h = same_get map.empty q (v y)
push_here v [] (x ∷ xs) q y l h = absurd (omega arith)
push_here v (n ∷ ns) [] q y l h = absurd (omega arith)
push_here v (n ∷ ns) (x ∷ xs) q y l h =
    let parts = or_parts (n == q) (is_listed ns q) h in
    other_get (pages_of v (ns ++ q ∷ []) (xs ++ y ∷ [])) n q (v x) (λ e. true≢false (sym (eq-eqb n q (sym e)) ∙ parts.0)) ∙ push_here v ns xs q y (omega arith) parts.1

-- a page behind the others
pub pages_of_push : {X : Type 0} (v : X → List ℕ) (ns : List ℕ) (xs : List X) (q : ℕ) (y : X) → length ns ≡ length xs → is_listed ns q ≡ false → pages_of v (ns ++ q ∷ []) (xs ++ y ∷ []) ≡ map.insert (pages_of v ns xs) q (v y)
pages_of_push v ns xs q y l h =
    by_page _ _ q (push_here v ns xs q y l h ∙ sym (same_get (pages_of v ns xs) q (v y)))
    (λ k other. push_elsewhere v ns xs q k y l other ∙ sym (other_get (pages_of v ns xs) q k (v y) other))

-- a page that the map has stands at its entry
pub stands : {X : Type 0} (v : X → List ℕ) (m : FinMap nat_cmp (List ℕ)) (ns : List ℕ) (xs : List X) (q e : ℕ) → pages_of v ns xs ≡ m → length ns ≡ length xs → IsEntry ns q e → has_page m q ≡ true → e < length xs
stands v m ns xs q e is l h backed = elim (cases_lt e (length xs)) [
  | inl low ↦ low
  | inr past ↦
      absurd (true≢false (sym backed ∙ ap is_some (ap (λ k. map.get k q) (sym is) ∙ get_pages v ns xs q e l h ∙ ap (option_map v) (slice_get_past xs e past))))
]

-- and is read there
pub read_at : {X : Type 0} (v : X → List ℕ) (m : FinMap nat_cmp (List ℕ)) (ns : List ℕ) (xs : List X) (q e : ℕ) (x : X) → pages_of v ns xs ≡ m → length ns ≡ length xs → IsEntry ns q e → e < length xs → x ≡ get_or xs e x → map.get m q ≡ Some (v x)
read_at v m ns xs q e x is l h within at =
    ap (λ k. map.get k q) (sym is) ∙ get_pages v ns xs q e l h ∙ ap (option_map v) (slice_get-get_or xs e x within) ∙ ap (λ y. Some (v y)) (sym at)

pub unread : {X : Type 0} (v : X → List ℕ) (m : FinMap nat_cmp (List ℕ)) (ns : List ℕ) (xs : List X) (q e : ℕ) → pages_of v ns xs ≡ m → length ns ≡ length xs → IsEntry ns q e → length xs ≤ e → map.get m q ≡ None
unread v m ns xs q e is l h past = ap (λ k. map.get k q) (sym is) ∙ get_pages v ns xs q e l h ∙ ap (option_map v) (slice_get_past xs e past)

-- a page is written at its place
pub written_at : {X : Type 0} (v : X → List ℕ) (m : FinMap nat_cmp (List ℕ)) (ns : List ℕ) (xs : List X) (q e : ℕ) (y : X) → pages_of v ns xs ≡ m → length ns ≡ length xs → IsEntry ns q e → e < length xs → pages_of v ns (set xs e y) ≡ map.insert m q (v y)
written_at v m ns xs q e y is l h within = pages_of_set v ns xs q e y l h (omega arith) ∙ ap (λ k. map.insert k q (v y)) is

-- maps that have the same pages backed have neither where none is listed
pub unlisted_same : (m n : FinMap nat_cmp (List ℕ)) (q : ℕ) → has_page m q ≡ false → has_page n q ≡ false → map.get m q ≡ map.get n q
unlisted_same m n q h g = is_none (map.get m q) h ∙ sym (is_none (map.get n q) g)
  where
    is_none : (o : Option (List ℕ)) → is_some o ≡ false → o ≡ None
    is_none None e = refl
    is_none (Some x) e = absurd (true≢false e)

-- one page more is copied
pub copied_more : (l m n : FinMap nat_cmp (List ℕ)) (ns : List ℕ) (i : ℕ) (z : List ℕ) → i < length ns → l ≡ map.insert m (get_or ns i 0) z → map.get n (get_or ns i 0) ≡ Some z
    → ((q : ℕ) → is_listed (drop i ns) q ≡ false → map.get m q ≡ map.get n q) → (q : ℕ) → is_listed (drop (i + 1) ns) q ≡ false → map.get l q ≡ map.get n q
copied_more l m n ns i z low is theirs h q rest =
    let p = get_or ns i 0 in
    ap (λ k. map.get k q) is
    ∙ elim (cases_eq q p) [
      | inl same ↦ ap (map.get (map.insert m p z)) same ∙ same_get m p z ∙ sym (ap (map.get n) same ∙ theirs)
      | inr other ↦
          other_get m p q z other
          ∙ h q (ap (λ xs. is_listed xs q) (drop_more ns i 0 low) ∙ ap (λ b. b || is_listed (drop (i + 1) ns) q) (ne_eqb p q (λ e. other (sym e))) ∙ rest)
    ]

-- one page more is the same
pub same_more : (m n : FinMap nat_cmp (List ℕ)) (ns : List ℕ) (i : ℕ) → i < length ns → map.get m (get_or ns i 0) ≡ map.get n (get_or ns i 0)
    → ((q : ℕ) → is_listed (drop i ns) q ≡ false → map.get m q ≡ map.get n q) → (q : ℕ) → is_listed (drop (i + 1) ns) q ≡ false → map.get m q ≡ map.get n q
same_more m n ns i low same h q rest =
    let p = get_or ns i 0 in
    elim (cases_eq q p) [
      | inl is ↦ ap (map.get m) is ∙ same ∙ sym (ap (map.get n) is)
      | inr other ↦ h q (ap (λ xs. is_listed xs q) (drop_more ns i 0 low) ∙ ap (λ b. b || is_listed (drop (i + 1) ns) q) (ne_eqb p q (λ e. other (sym e))) ∙ rest)
    ]

-- maps that have the same for each page
pub same_pages : (m n : FinMap nat_cmp (List ℕ)) → ((q : ℕ) → map.get m q ≡ map.get n q) → m ≡ n
same_pages m n h = same_map nat_cmp_total nat_cmp-IsAntisymmetric m n h

-- an item of the list is backed, and stands at its entry
pub theirs_stand : {X : Type 0} (v : X → List ℕ) (m : FinMap nat_cmp (List ℕ)) (ns : List ℕ) (xs : List X) (items : List ℕ) (i e : ℕ) → pages_of v ns xs ≡ m → length ns ≡ length xs → items ≡ ns → i < length items → IsEntry ns (get_or items i 0) e → (has_page m (get_or items i 0) ≡ true) × (e < length xs)
theirs_stand v m ns xs items i e is l same within h =
    let q = get_or items i 0 in
    let listed : is_listed ns q ≡ true = ap (λ ks. is_listed ks q) (sym same) ∙ listed_at items i q (slice_get-get_or items i 0 within) in
    let backed : has_page m q ≡ true = ap (λ k. has_page k q) (sym is) ∙ has_listed v ns xs q l ∙ listed in
    (backed, stands v m ns xs q e is l h backed)

-- and so it does among other pages with the same numbers
pub mine_stand : {X : Type 0} (v : X → List ℕ) (ns ks : List ℕ) (xs ys : List X) (q e : ℕ) → length ns ≡ length xs → length ks ≡ length ys → ns ≡ ks → has_page (pages_of v ks ys) q ≡ true → IsEntry ns q e → e < length xs
mine_stand v ns ks xs ys q e l k same backed h =
    stands v (pages_of v ns xs) ns xs q e refl l h (has_listed v ns xs q l ∙ ap (λ js. is_listed js q) same ∙ sym (has_listed v ks ys q k) ∙ backed)
