-- Two tables that find pages, and how they change.
use Rattle.std.specs.Prelude.{◌≡◌, ◌≢◌, ◌⊎◌, ℕ, zero, suc, ◌+◌, ◌/◌, ◌%◌, ◌^◌, ◌<◌, ◌≤◌, ◌||◌, ◌==◌, true, false, List, [], ◌∷◌, ◌++◌, length, replicate, slice_index, Some, nat_lt}
use Rattle.std.specs.List.{slice_get}
use Rattle.std.proofs.Common.{refl, sym, ap, ◌∙◌, subst, inl, inr, arith, set}
use Rattle.std.proofs.lemmas.Bool.{cases_eq, cases_lt, true≢false, eq-eqb, ne_eqb, lt-ltb, le-ltb}
use Rattle.std.proofs.lemmas.List.{get_or-set_same, get_or-set_other, get_or-replicate, length-set, length-replicate}
use Rattle.std.proofs.lemmas.Option.{slice_get_within, get_or_from_slice_get}
use Rattle.ro_pages.specs.Directories.{IsEntry, IsLonger, Tables, Finds, entry_of, is_listed, nowhere}

-- what the directory's entry of a page says of the list
pub is_entry : (fs es ns : List ℕ) (page : ℕ) → Finds fs es ns → length ns ≤ nowhere → page < 2 ^ 20 → IsEntry ns page (entry_of fs es page)
is_entry fs es ns page h few low = record {
  found = λ l. h.there page low (λ e. absurd (omega arith));
  only = λ other e. sym (h.here other page e);
}

-- a listed page is listed
pub listed_at : (ns : List ℕ) (i q : ℕ) → slice_get ns i ≡ Some q → is_listed ns q ≡ true
listed_at [] i q e = absurd (omega (slice_get_within [] i q e, arith))
listed_at (n ∷ ns) zero q e = ap (λ b. b || is_listed ns q) (eq-eqb n q (get_or_from_slice_get (n ∷ ns) 0 q 0 e))
listed_at (n ∷ ns) (suc i) q e = or_true (n == q) (listed_at ns i q e)
  where
    or_true : (b : _) {c : _} → c ≡ true → (b || c) ≡ true
    or_true true h = refl
    or_true false h = h

pub got_before : (ns : List ℕ) (x i q : ℕ) → slice_get ns i ≡ Some q → slice_get (ns ++ x ∷ []) i ≡ Some q
got_before [] x i q e = absurd (omega (slice_get_within [] i q e, arith))
got_before (n ∷ ns) x zero q e = e
got_before (n ∷ ns) x (suc i) q e = got_before ns x i q e

pub got_last : (ns : List ℕ) (x : ℕ) → slice_get (ns ++ x ∷ []) (length ns) ≡ Some x
got_last [] x = refl
got_last (n ∷ ns) x = got_last ns x

pub got_cases : (ns : List ℕ) (x i q : ℕ) → slice_get (ns ++ x ∷ []) i ≡ Some q → (slice_get ns i ≡ Some q) ⊎ ((i ≡ length ns) × (q ≡ x))
got_cases [] x zero q e = inr (refl, sym (get_or_from_slice_get (x ∷ []) 0 q 0 e))
got_cases [] x (suc i) q e = absurd (omega (slice_get_within (x ∷ []) (suc i) q e, arith))
got_cases (n ∷ ns) x zero q e = inl e
got_cases (n ∷ ns) x (suc i) q e = elim (got_cases ns x i q e) [
  | inl h ↦ inl h
  | inr h ↦ inr (ap suc h.0, h.1)
]

-- the tables of no page
pub no_tables : (fs es : List ℕ) → fs ≡ replicate 1024 0 → es ≡ replicate 1024 nowhere → Tables fs es
no_tables fs es f e =
    let long : length es ≡ 1024 = ap length e ∙ length-replicate 1024 nowhere in
    let first : (t : ℕ) → t < 1024 → slice_index fs t ≡ 0 = λ t l. ap (λ xs. slice_index xs t) f ∙ get_or-replicate 1024 t 0 0 l in
    record {
      all = ap length f ∙ length-replicate {A = ℕ} 1024 0;
      whole = omega arith;
      aligned = λ t l. let z = first t l in omega arith;
      within = λ t l. let z = first t l in omega arith;
      apart = λ t u l m same other. absurd (other (first t l));
      empty = λ i l. ap (λ xs. slice_index xs i) e ∙ get_or-replicate 1024 i nowhere 0 l;
    }

none_here : (fs es : List ℕ) → Tables fs es → fs ≡ replicate 1024 0 → (page : ℕ) → page < 2 ^ 20 → entry_of fs es page ≡ nowhere
none_here fs es h f page l =
    let first : slice_index fs (page / 1024) ≡ 0 = ap (λ xs. slice_index xs (page / 1024)) f ∙ get_or-replicate 1024 (page / 1024) 0 0 (omega arith) in
    ap (λ a. slice_index es (a + page % 1024)) first ∙ h.empty (0 + page % 1024) (omega arith)

pub finds_none : (fs es ns : List ℕ) → Tables fs es → fs ≡ replicate 1024 0 → ns ≡ [] → Finds fs es ns
finds_none fs es ns h f e = record {
  low = λ place page g. absurd (never place page g);
  here = λ place page g. absurd (never place page g);
  there = λ page l other. absurd (other (none_here fs es h f page l));
}
  where
    never : (place page : ℕ) → slice_get ns place ≡ Some page → ⊥
    never place page g = let w = slice_get_within ns place page g in let z : length ns ≡ 0 = ap length e in omega arith

first_at : (P : ℕ → Type 0) (fs : List ℕ) (t u v : ℕ) → t < length fs → (u ≡ t → P v) → (u ≢ t → P (slice_index fs u)) → P (slice_index (set fs t v) u)
first_at P fs t u v l here other = elim (cases_eq u t) [
  | inl same ↦ subst P (sym (ap (slice_index (set fs t v)) same ∙ get_or-set_same fs t v 0 l)) (here same)
  | inr apart ↦ subst P (sym (get_or-set_other fs t u v 0 apart)) (other apart)
]

pub more_tables : (fs es new : List ℕ) (t : ℕ) → Tables fs es → IsLonger new es → t < 1024 → slice_index fs t ≡ 0 → Tables (set fs t (length es)) new
more_tables fs es new t h g l z = record {
  all = length-set fs t (length es) ∙ h.all;
  whole = omega (arith, g.long, h.whole);
  aligned = λ u m. first_at (λ b. b % 1024 ≡ 0) fs t u (length es) inside (λ _. h.whole) (λ _. h.aligned u m);
  within = λ u m. first_at (λ b. b + 1024 ≤ length new) fs t u (length es) inside (λ _. omega (arith, g.long)) (λ _. let w = h.within u m in omega (arith, g.long));
  apart = λ u w m n. first_at (λ b. b ≡ slice_index (set fs t (length es)) w → b ≢ 0 → u ≡ w) fs t u (length es) inside
      (λ a. first_at (λ b. length es ≡ b → length es ≢ 0 → u ≡ w) fs t w (length es) inside (λ b _ _. a ∙ sym b) (λ b e _. let k = h.within w n in absurd (omega arith)))
      (λ a. first_at (λ b. slice_index fs u ≡ b → slice_index fs u ≢ 0 → u ≡ w) fs t w (length es) inside (λ b e _. let k = h.within u m in absurd (omega arith)) (λ b e o. h.apart u w m n e o));
  empty = λ i m. let k = h.within t l in g.kept i (omega arith) ∙ h.empty i m;
}
  where
    inside : t < length fs
    inside = omega (arith, h.all)

-- an empty table of their own leaves the entries of its pages
pub same_entries : (fs es new : List ℕ) (t : ℕ) → Tables fs es → IsLonger new es → t < 1024 → slice_index fs t ≡ 0 → (page : ℕ) → page < 2 ^ 20 → entry_of (set fs t (length es)) new page ≡ entry_of fs es page
same_entries fs es new t h g l z page low =
    let p : page / 1024 < 1024 = omega arith in
    first_at (λ b. slice_index new (b + page % 1024) ≡ entry_of fs es page) fs t (page / 1024) (length es) (omega (arith, h.all))
    (λ same.
    g.fresh (length es + page % 1024) (omega arith) (omega (arith, g.long))
    ∙ sym (ap (λ u. slice_index es (slice_index fs u + page % 1024)) same ∙ ap (λ a. slice_index es (a + page % 1024)) z ∙ h.empty (0 + page % 1024) (omega arith)))
    (λ _. let k = h.within (page / 1024) p in g.kept _ (omega arith))

-- the entry of one page is written
pub put_tables : (fs es : List ℕ) (page v : ℕ) → Tables fs es → page < 2 ^ 20 → slice_index fs (page / 1024) ≢ 0 → Tables fs (set es (slice_index fs (page / 1024) + page % 1024) v)
put_tables fs es page v h low own =
    let at = slice_index fs (page / 1024) + page % 1024 in
    let long = length-set es at v in
    let high : 1024 ≤ slice_index fs (page / 1024) = let k = h.aligned (page / 1024) (omega arith) in omega (arith, own) in
    record {
      all = h.all;
      whole = ap (λ n. n % 1024) long ∙ h.whole;
      aligned = h.aligned;
      within = λ t l. subst (λ n. slice_index fs t + 1024 ≤ n) (sym long) (h.within t l);
      apart = h.apart;
      empty = λ i l. get_or-set_other es at i v 0 (λ e. absurd (omega arith)) ∙ h.empty i l;
    }

pub put_here : (fs es : List ℕ) (page v : ℕ) → Tables fs es → page < 2 ^ 20 → entry_of fs (set es (slice_index fs (page / 1024) + page % 1024) v) page ≡ v
put_here fs es page v h low = get_or-set_same es _ v 0 (let k = h.within (page / 1024) (omega arith) in omega arith)

pub put_other : (fs es : List ℕ) (page v q : ℕ) → Tables fs es → page < 2 ^ 20 → q < 2 ^ 20 → slice_index fs (page / 1024) ≢ 0 → q ≢ page → entry_of fs (set es (slice_index fs (page / 1024) + page % 1024) v) q ≡ entry_of fs es q
put_other fs es page v q h low below own other =
    let a = slice_index fs (page / 1024) in
    let b = slice_index fs (q / 1024) in
    let ka : a % 1024 ≡ 0 = h.aligned (page / 1024) (omega arith) in
    let kb : b % 1024 ≡ 0 = h.aligned (q / 1024) (omega arith) in
    get_or-set_other es (a + page % 1024) (b + q % 1024) v 0 (λ e.
    let same : a ≡ b = omega arith in
    let t : page / 1024 ≡ q / 1024 = h.apart (page / 1024) (q / 1024) (omega arith) (omega arith) same own in
    absurd (other (omega arith)))

-- a page is added behind the others
pub finds_more : (fs es new ns : List ℕ) (page : ℕ) → Finds fs es ns → page < 2 ^ 20 → is_listed ns page ≡ false → length ns ≢ nowhere → entry_of fs new page ≡ length ns → ((q : ℕ) → q < 2 ^ 20 → q ≢ page → entry_of fs new q ≡ entry_of fs es q) → Finds fs new (ns ++ page ∷ [])
finds_more fs es new ns page h low unlisted few here same = record {
  low = λ place q g. elim (got_cases ns page place q g) [ inl old ↦ h.low place q old | inr last ↦ subst (λ k. k < 2 ^ 20) (sym last.1) low ];
  here = λ place q g. elim (got_cases ns page place q g) [
    | inl old ↦ same q (h.low place q old) (apart place q old) ∙ h.here place q old
    | inr last ↦ ap (entry_of fs new) last.1 ∙ here ∙ sym last.0
  ];
  there = λ q below some. elim (cases_eq q page) [
    | inl is ↦ ap (λ k. slice_get (ns ++ page ∷ []) (entry_of fs new k)) is ∙ ap (slice_get (ns ++ page ∷ [])) here ∙ got_last ns page ∙ ap Some (sym is)
    | inr other ↦
        let e = same q below other in
        ap (slice_get (ns ++ page ∷ [])) e ∙ got_before ns page (entry_of fs es q) q (h.there q below (λ z. some (e ∙ z)))
  ];
}
  where
    apart : (place q : ℕ) → slice_get ns place ≡ Some q → q ≢ page
    apart place q g e = true≢false (sym (listed_at ns place q g) ∙ ap (is_listed ns) e ∙ unlisted)

pub finds_same : (fs es gs new ns : List ℕ) → Finds fs es ns → ((page : ℕ) → page < 2 ^ 20 → entry_of gs new page ≡ entry_of fs es page) → Finds gs new ns
finds_same fs es gs new ns h same = record {
  low = h.low;
  here = λ place page g. same page (h.low place page g) ∙ h.here place page g;
  there = λ page l some. let e = same page l in ap (slice_get ns) e ∙ h.there page l (λ z. some (e ∙ z));
}

-- a page that stands nowhere is not listed
pub unlisted : (ns : List ℕ) (q : ℕ) → ((i : ℕ) → slice_get ns i ≡ Some q → ⊥) → is_listed ns q ≡ false
unlisted [] q h = refl
unlisted (n ∷ ns) q h = ap (λ b. b || is_listed ns q) (ne_eqb n q (λ e. h 0 (ap Some e))) ∙ unlisted ns q (λ i g. h (suc i) g)

-- a page is listed where its entry is a place
pub listed_within : (ns : List ℕ) (q e : ℕ) → IsEntry ns q e → nat_lt e (length ns) ≡ is_listed ns q
listed_within ns q e h = elim (cases_lt e (length ns)) [
  | inl low ↦ lt-ltb e (length ns) low ∙ sym (listed_at ns e q (h.found low))
  | inr past ↦
      le-ltb e (length ns) past
      ∙ sym (unlisted ns q (λ i g. let is = h.only i g in let w = slice_get_within ns i q g in omega arith))
]

-- none past the last page is
pub unlisted_past : (fs es ns : List ℕ) (q : ℕ) → Finds fs es ns → 2 ^ 20 ≤ q → is_listed ns q ≡ false
unlisted_past fs es ns q h past = sym (listed_within ns q (length ns) (record {
  found = λ l. absurd (omega arith);
  only = λ i g. let low = h.low i q g in absurd (omega arith);
})) ∙ le-ltb (length ns) (length ns) (omega arith)

-- a listed page stands at one place
pub once : (fs es ns : List ℕ) (page place : ℕ) → Finds fs es ns → slice_get ns place ≡ Some page → IsEntry ns page place
once fs es ns page place h g = record { found = λ _. g; only = λ other e. sym (h.here other page e) ∙ h.here place page g }
