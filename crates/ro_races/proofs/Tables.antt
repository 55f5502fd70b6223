-- Tables of marks.
use Rattle.std.specs.Prelude.{◌≡◌, ◌≢◌, ℕ, zero, suc, ◌+◌, ◌-◌, ◌/◌, ◌%◌, ◌<◌, ◌≤◌, ◌⊎◌, ◌==◌, ◌||◌, nat_le, nat_lt, Bool, true, false, if◌then◌else◌, List, [], ◌∷◌, ◌++◌, length, Option, Some, None, Vec, slice_get, slice_index_or, slice_set, replicate}
use Rattle.std.specs.Vec.{with_item}
use Rattle.std.specs.declared.alloc.Global.{Global}
use Rattle.std.proofs.Common.{refl, sym, ap, ap₂, ◌∙◌, subst, arith, inl, inr, ⊎_elim, get_or-set_other, get_or-set_same}
use Rattle.std.proofs.lemmas.Bool.{true≢false, false≢true, eqb-true, leb-true, ltb-true, lt-ltb, and_parts, and_from}
use Rattle.std.proofs.lemmas.List.{length-set}
use Rattle.std.proofs.lemmas.Option.{get_or_from_slice_get, slice_get-get_or, slice_get_read}
use Rattle.ro_pages.specs.Bytes.{Span, within}
use Rattle.ro_plain.proofs.Calls.{some-injective}
use Rattle.ro_plain.proofs.Commute.{slice_get-set_other}
use Rattle.ro_replica.proofs.Elements.{get_set}
use Rattle.ro_machine.specs.declared.watching.Watched.{Watched}
use Rattle.ro_machine.specs.Watched.{span_of}
use Rattle.ro_races.specs.declared.marks.Clock.{Clock}
use Rattle.ro_races.specs.Clocks.{Clock as ClockOf, IsStepped}
use Rattle.ro_races.specs.Seen.{seen_by}
use Rattle.ro_races.specs.Shadows.{MarksAll, no_bytes, plainly, as_one, Shadow, pages_in, clocks_in, page_at, no_marks, clock_at, marks_at, IsPage, IsTable, HasSecond, Changes, Advances, Marks, IsHit, AnyHit}

-- ---- numbers and stretches

pub eq-told : (a b : ℕ) → (a ≡ b) ⊎ (a ≢ b)
eq-told a b = by (a == b) refl
  where
    by : (x : Bool) → (a == b) ≡ x → (a ≡ b) ⊎ (a ≢ b)
    by true e = inl (eqb-true a b e)
    by false e = inr (λ f. grind (arith, e, f))

pub below-unless : (a b : ℕ) → a ≤ b → (a ≡ b → ⊥) → a < b
below-unless a b le n = grind (arith, le, n)

pub below-or : (m x : ℕ) → (x < m) ⊎ (m ≤ x)
below-or m x = by (nat_lt x m) refl
  where
    by : (b : Bool) → nat_lt x m ≡ b → (x < m) ⊎ (m ≤ x)
    by true e = inl (ltb-true x m e)
    by false e = inr (grind (arith, e))

pub same-bool : (a b : Bool) → (a ≡ true → b ≡ true) → (b ≡ true → a ≡ true) → a ≡ b
same-bool true b f g = sym (f refl)
same-bool false true f g = g refl
same-bool false false f g = refl

le-true : (a b : ℕ) → a ≤ b → nat_le a b ≡ true
le-true a b h = by (nat_le a b) refl
  where
    by : (x : Bool) → nat_le a b ≡ x → nat_le a b ≡ true
    by true e = e
    by false e = absurd (grind (arith, e, h))

pub bounds : (s : Span) (x : ℕ) → within s x ≡ true → (s.place ≤ x) × (x < s.place + s.count)
bounds s x h = let p = and_parts (nat_le s.place x) (nat_lt x (s.place + s.count)) h in (leb-true s.place x p.0, ltb-true x (s.place + s.count) p.1)

pub in-span : (s : Span) (x : ℕ) → s.place ≤ x → x < s.place + s.count → within s x ≡ true
in-span s x low high = and_from (nat_le s.place x) (nat_lt x (s.place + s.count)) (le-true s.place x low) (lt-ltb x (s.place + s.count) high)

or-either : (a b : Bool) → (a || b) ≡ true → (a ≡ true) ⊎ (b ≡ true)
or-either true b h = inl refl
or-either false b h = inr h

or-left : (a b : Bool) → a ≡ true → (a || b) ≡ true
or-left true b h = refl
or-left false b h = absurd (false≢true h)

or-right : (a b : Bool) → b ≡ true → (a || b) ≡ true
or-right true b h = refl
or-right false b h = h

-- a stretch of some bytes more
pub some-more : (p k n x : ℕ) → within (record { place = p; count = k + n }) x ≡ (within (record { place = p; count = k }) x || within (record { place = p + k; count = n }) x)
some-more p k n x =
    let whole : Span = record { place = p; count = k + n } in
    let front : Span = record { place = p; count = k } in
    let last : Span = record { place = p + k; count = n } in
    same-bool (within whole x) (within front x || within last x)
    (λ h. let b = bounds whole x h in ⊎_elim (λ e. or-left (within front x) (within last x) (in-span front x b.0 e)) (λ e. or-right (within front x) (within last x) (in-span last x e (let c = b.1 in omega arith))) (below-or (p + k) x))
    (λ h. ⊎_elim (λ f. let b = bounds front x f in in-span whole x b.0 (omega (arith, b.1))) (λ l. let b = bounds last x l in in-span whole x (omega (arith, b.0)) (omega (arith, b.1))) (or-either (within front x) (within last x) h))

-- of one byte more
pub one-more : (p k x : ℕ) → within (record { place = p; count = k + 1 }) x ≡ (within (record { place = p; count = k }) x || within (record { place = p + k; count = 1 }) x)
one-more p k x = some-more p k 1 x

-- ---- marks of two stretches

stepped-same : (a b c : ClockOf) (t p : ℕ) → IsStepped a t p b → ((u : ℕ) → c u ≡ b u) → IsStepped a t p c
stepped-same a b c t p h e = record { own = e t ∙ h.own; others = λ u n. e u ∙ h.others u n }

stepped-after : (a b c : ClockOf) (t p : ℕ) → ((u : ℕ) → b u ≡ a u) → IsStepped b t p c → IsStepped a t p c
stepped-after a b c t p e h = record { own = h.own; others = λ u n. h.others u n ∙ e u }

stepped-twice : (a b c : ClockOf) (t p : ℕ) → IsStepped a t p b → IsStepped b t p c → IsStepped a t p c
stepped-twice a b c t p h k = record { own = k.own; others = λ u n. k.others u n ∙ h.others u n }

or-parts : (a b : Bool) → (a || b) ≡ false → (a ≡ false) × (b ≡ false)
or-parts true b h = absurd (true≢false h)
or-parts false b h = (refl, h)

pub marks-join : (s one two : Span) (t p : ℕ) (a b c d : Shadow) → ((x : ℕ) → within s x ≡ (within one x || within two x)) → Marks a one t p b → ((x u : ℕ) → marks_at c x u ≡ marks_at b x u) → Marks c two t p d → Marks a s t p d
marks-join s one two t p a b c d both first same second = record {
  inside = λ x h. by x (within one x) (within two x) refl refl (sym (both x) ∙ h);
  outside = λ x h u. let parts = or-parts (within one x) (within two x) (sym (both x) ∙ h) in second.outside x parts.1 u ∙ (same x u ∙ first.outside x parts.0 u);
}
  where
    by : (x : ℕ) (f g : Bool) → within one x ≡ f → within two x ≡ g → (within one x || within two x) ≡ true → IsStepped (marks_at a x) t p (marks_at d x)
    by x true true e f h = stepped-twice (marks_at a x) (marks_at c x) (marks_at d x) t p (stepped-same (marks_at a x) (marks_at b x) (marks_at c x) t p (first.inside x e) (same x)) (second.inside x f)
    by x true false e f h = stepped-same (marks_at a x) (marks_at b x) (marks_at d x) t p (first.inside x e) (λ u. second.outside x f u ∙ same x u)
    by x false true e f h = stepped-after (marks_at a x) (marks_at c x) (marks_at d x) t p (λ u. same x u ∙ first.outside x e u) (second.inside x f)
    by x false false e f h = absurd (let parts : (within one x || within two x) ≡ false = ap (λ z. z || within two x) e ∙ f in true≢false (sym h ∙ parts))

pub marks-later : (s : Span) (t p : ℕ) (a b c : Shadow) → ((x u : ℕ) → marks_at b x u ≡ marks_at a x u) → Marks b s t p c → Marks a s t p c
marks-later s t p a b c same m = record {
  inside = λ x h. stepped-after (marks_at a x) (marks_at b x) (marks_at c x) t p (same x) (m.inside x h);
  outside = λ x h u. m.outside x h u ∙ same x u;
}

pub marks-none : (p t place : ℕ) (a : Shadow) → Marks a (record { place = p; count = 0 }) t place a
marks-none p t place a = record {
  inside = λ x h. absurd (let b = bounds (record { place = p; count = 0 }) x h in omega (arith, b.0, b.1));
  outside = λ x h u. refl;
}

-- ---- lists

pub get_or-replicate : {X : Type 0} (n i : ℕ) (x : X) → slice_index_or (replicate n x) i x ≡ x
get_or-replicate zero i x = refl
get_or-replicate (suc n) zero x = refl
get_or-replicate (suc n) (suc i) x = get_or-replicate n i x

replicate-in : {X : Type 0} (n i : ℕ) (x d : X) → i < n → slice_index_or (replicate n x) i d ≡ x
replicate-in zero i x d less = absurd (omega arith)
replicate-in (suc n) zero x d less = refl
replicate-in (suc n) (suc i) x d less = replicate-in n i x d (omega arith)

length-same : {X : Type 0} (n : ℕ) (x : X) → length (replicate n x) ≡ n
length-same zero x = refl
length-same (suc n) x = ap suc (length-same n x)

pub nothing-in : {X : Type 0} (xs : List X) → length xs ≡ 0 → xs ≡ []
nothing-in [] e = refl
nothing-in (x ∷ xs) e = absurd (omega (arith, e))

-- ---- pages in second tables

small-rest : (x : ℕ) → x % 4096 < 4096
small-rest x = omega arith

small-page : (x : ℕ) → x % 1024 < 1024
small-page x = omega arith

one-page : (x y : ℕ) → x / 1024 ≡ y / 1024 → x % 1024 ≡ y % 1024 → x ≡ y
one-page x y e f = omega (arith, e, f)

module _ (table : Shadow) (k : ℕ) (old new : Vec (Vec Clock Global) Global) (there : slice_get table k ≡ Some old) where
  second-was : (page : ℕ) → page / 1024 ≡ k → page_at table page ≡ clocks_in (slice_get old.items (page % 1024))
  second-was page e = ap (λ o. clocks_in (slice_get (pages_in o) (page % 1024))) (ap (slice_get table) e ∙ there)

  second-is : (page : ℕ) → page / 1024 ≡ k → page_at (slice_set table k new) page ≡ clocks_in (slice_get new.items (page % 1024))
  second-is page e = ap (λ o. clocks_in (slice_get (pages_in o) (page % 1024))) (ap (slice_get (slice_set table k new)) e ∙ get_set table k old new there)

  second-other : (page : ℕ) → page / 1024 ≢ k → page_at (slice_set table k new) page ≡ page_at table page
  second-other page n = ap (λ o. clocks_in (slice_get (pages_in o) (page % 1024))) (slice_get-set_other table k (page / 1024) new (λ e. n (sym e)))

  seconds-whole : IsTable table → length new.items ≡ 1024 → (j : ℕ) (second : Vec (Vec Clock Global) Global) → slice_get (slice_set table k new) j ≡ Some second → (second.items ≡ []) ⊎ (length second.items ≡ 1024)
  seconds-whole whole full j second h = ⊎_elim own (λ n. whole.whole j second (sym (slice_get-set_other table k j new (λ e. n (sym e))) ∙ h)) (eq-told j k)
    where
      own : j ≡ k → (second.items ≡ []) ⊎ (length second.items ≡ 1024)
      own e =
          let same : second ≡ new = some-injective (sym h ∙ (ap (slice_get (slice_set table k new)) e ∙ get_set table k old new there)) in
          inr (ap (λ (v : Vec (Vec Clock Global) Global). length v.items) same ∙ full)

  -- a table of which one page has other clocks
  pub table-changed : (page : ℕ) (clocks : List Clock) → IsTable table → length new.items ≡ 1024 → Changes table page clocks (slice_set table k new) → IsPage clocks → IsTable (slice_set table k new)
  table-changed page clocks whole full changes is_page = record {
    seconds = length-set table k new ∙ whole.seconds;
    whole = seconds-whole whole full;
    pages = λ j. ⊎_elim (λ e. subst IsPage (sym (ap (page_at (slice_set table k new)) e ∙ changes.here)) is_page) (λ n. subst IsPage (sym (changes.others j n)) (whole.pages j)) (eq-told j page);
  }

  -- an empty second table in the place of one with no pages
  pub second-same : old.items ≡ [] → ((i : ℕ) (page : Vec Clock Global) → slice_get new.items i ≡ Some page → page.items ≡ []) → (page : ℕ) → page_at (slice_set table k new) page ≡ page_at table page
  second-same none empty page = ⊎_elim (λ e. second-is page e ∙ (blank (slice_get new.items (page % 1024)) refl ∙ sym (second-was page e ∙ ap (λ xs. clocks_in (slice_get xs (page % 1024))) none))) (second-other page) (eq-told (page / 1024) k)
    where
      blank : (o : Option (Vec Clock Global)) → slice_get new.items (page % 1024) ≡ o → clocks_in o ≡ []
      blank None e = refl
      blank (Some p) e = empty (page % 1024) p e

  pub second-table : IsTable table → length new.items ≡ 1024 → ((page : ℕ) → page_at (slice_set table k new) page ≡ page_at table page) → IsTable (slice_set table k new)
  second-table whole full same = record {
    seconds = length-set table k new ∙ whole.seconds;
    whole = seconds-whole whole full;
    pages = λ j. subst IsPage (sym (same j)) (whole.pages j);
  }

  pub second-made : length new.items ≡ 1024 → HasSecond (slice_set table k new) k
  second-made full = ap (λ o. length (pages_in o)) (get_set table k old new there) ∙ full

-- what was read of a table
pub second-read : (table : Shadow) (k : ℕ) (second : Vec (Vec Clock Global) Global) → IsTable table → k < 1025 → second ≡ slice_index_or table k second → slice_get table k ≡ Some second
second-read table k second whole less is = slice_get_read table (length table) k second refl (let e = whole.seconds in omega (arith, e, less)) is

pub second-full : (table : Shadow) (k : ℕ) (second : Vec (Vec Clock Global) Global) → slice_get table k ≡ Some second → HasSecond table k → length second.items ≡ 1024
second-full table k second there has = sym (ap (λ o. length (pages_in o)) there) ∙ has

pub page-read : (second : Vec (Vec Clock Global) Global) (i : ℕ) (page : Vec Clock Global) → length second.items ≡ 1024 → page ≡ slice_index_or second.items (i % 1024) page → slice_get second.items (i % 1024) ≡ Some page
page-read second i page full is = slice_get_read second.items (length second.items) (i % 1024) page refl (let s = small-page i in omega (arith, s, full)) is

-- a page that has clocks has a second table
pub has-second : (table : Shadow) (page : ℕ) → IsTable table → (page_at table page ≡ [] → ⊥) → HasSecond table (page / 1024)
has-second table page whole made = by (slice_get table (page / 1024)) refl
  where
    by : (o : Option (Vec (Vec Clock Global) Global)) → slice_get table (page / 1024) ≡ o → HasSecond table (page / 1024)
    by None e = absurd (made (ap (λ o. clocks_in (slice_get (pages_in o) (page % 1024))) e))
    by (Some second) e = ap (λ o. length (pages_in o)) e ∙ ⊎_elim (λ none. absurd (made (ap (λ o. clocks_in (slice_get (pages_in o) (page % 1024))) e ∙ ap (λ xs. clocks_in (slice_get xs (page % 1024))) none))) (λ f. f) (whole.whole (page / 1024) second e)

pub some-clocks : (xs : List Clock) (n : ℕ) → length xs ≡ suc n → xs ≡ [] → ⊥
some-clocks xs n e f = let g : length xs ≡ 0 = ap length f in omega (arith, e, g)

-- ---- one page

module _ (table : Shadow) (page : ℕ) (second : Vec (Vec Clock Global) Global) (was : Vec Clock Global) (there : slice_get table (page / 1024) ≡ Some second) (at : slice_get second.items (page % 1024) ≡ Some was) where
  pub page-was : page_at table page ≡ was.items
  page-was = second-was table (page / 1024) second second there page refl ∙ ap clocks_in at

  module _ (clocks : Vec Clock Global) where
    abbrev next : Vec (Vec Clock Global) Global
    next = with_item second (page % 1024) clocks

    pub page-changed : Changes table page clocks.items (slice_set table (page / 1024) (with_item second (page % 1024) clocks))
    page-changed = record {
      here = second-is table (page / 1024) second next there page refl ∙ ap clocks_in (get_set second.items (page % 1024) was clocks at);
      others = λ other n. ⊎_elim (beside other n) (second-other table (page / 1024) second next there other) (eq-told (other / 1024) (page / 1024));
    }
      where
        beside : (other : ℕ) → other ≢ page → other / 1024 ≡ page / 1024 → page_at (slice_set table (page / 1024) next) other ≡ page_at table other
        beside other n e =
            second-is table (page / 1024) second next there other e
            ∙ (ap clocks_in (slice_get-set_other second.items (page % 1024) (other % 1024) clocks (λ f. n (one-page other page e (sym f))))
            ∙ sym (second-was table (page / 1024) second second there other e))

    pub page-table : IsTable table → length second.items ≡ 1024 → IsPage clocks.items → IsTable (slice_set table (page / 1024) (with_item second (page % 1024) clocks))
    page-table whole full is_page = table-changed table (page / 1024) second next there page clocks.items whole (length-set second.items (page % 1024) clocks ∙ full) page-changed is_page

  -- one clock of it
  pub page-advanced : (index t p : ℕ) (old new : Clock) → index < length was.items → old ≡ slice_index_or was.items index old → IsStepped (seen_by old) t p (seen_by new) → Advances table page index t p (slice_set table (page / 1024) (with_item second (page % 1024) (with_item was index new)))
  page-advanced index t p old new less is step =
      let changed = page-changed (with_item was index new) in
      let read : slice_index_or was.items index no_marks ≡ old = get_or_from_slice_get was.items index old no_marks (slice_get_read was.items (length was.items) index old refl less is) in
      record {
        clock = new;
        changes = record { here = changed.here ∙ ap (λ xs. slice_set xs index new) (sym page-was); others = changed.others };
        stepped = subst (λ (c : Clock). IsStepped (seen_by c) t p (seen_by new)) (sym (ap (λ xs. slice_index_or xs index no_marks) page-was ∙ read)) step;
      }

pub page-kept : (xs : List Clock) (i : ℕ) (c : Clock) → IsPage xs → IsPage (slice_set xs i c)
page-kept xs i c (inl e) = inl (ap (λ (l : List Clock). slice_set l i c) e)
page-kept xs i c (inr (inl e)) = inr (inl (length-set xs i c ∙ e))
page-kept xs i c (inr (inr (inl e))) = inr (inr (inl (length-set xs i c ∙ e)))
page-kept xs i c (inr (inr (inr e))) = inr (inr (inr (length-set xs i c ∙ e)))

-- ---- marks by pages

pub words-at : (xs : List Clock) (o : ℕ) → length xs ≡ 1024 → clock_at xs o ≡ slice_index_or xs (o / 4) no_marks
words-at xs o e = let f : (length xs == 1024) ≡ true = grind (arith, e) in ap (λ (b : Bool). slice_index_or xs (if b then o / 4 else if length xs == 1 then 0 else o) no_marks) f

pub bytes-at : (xs : List Clock) (o : ℕ) → length xs ≡ 4096 → clock_at xs o ≡ slice_index_or xs o no_marks
bytes-at xs o e =
    let f : (length xs == 1024) ≡ false = grind (arith, e) in
    let g : (length xs == 1) ≡ false = grind (arith, e) in
    ap₂ (λ (b d : Bool). slice_index_or xs (if b then o / 4 else if d then 0 else o) no_marks) f g

pub one-at : (xs : List Clock) (o : ℕ) → length xs ≡ 1 → clock_at xs o ≡ slice_index_or xs 0 no_marks
one-at xs o e =
    let f : (length xs == 1024) ≡ false = grind (arith, e) in
    let g : (length xs == 1) ≡ true = grind (arith, e) in
    ap₂ (λ (b d : Bool). slice_index_or xs (if b then o / 4 else if d then 0 else o) no_marks) f g

-- all bytes of a page that has one clock or none are alike
pub few-at : (xs : List Clock) (o p : ℕ) → length xs ≤ 1 → clock_at xs o ≡ clock_at xs p
few-at [] o p h = refl
few-at (x ∷ []) o p h = refl
few-at (x ∷ y ∷ xs) o p h = absurd (omega arith)

pub marks-same : (old new : Shadow) (page : ℕ) (clocks : List Clock) → Changes old page clocks new → ((o : ℕ) → o < 4096 → clock_at clocks o ≡ clock_at (page_at old page) o) → (x u : ℕ) → marks_at new x u ≡ marks_at old x u
marks-same old new page clocks changes same x u = ⊎_elim here (λ n. ap (λ xs. seen_by (clock_at xs (x % 4096)) u) (changes.others (x / 4096) n)) (eq-told (x / 4096) page)
  where
    here : x / 4096 ≡ page → marks_at new x u ≡ marks_at old x u
    here e =
        ap (λ xs. seen_by (clock_at xs (x % 4096)) u) (ap (page_at new) e ∙ changes.here)
        ∙ (ap (λ c. seen_by c u) (same (x % 4096) (small-rest x))
        ∙ ap (λ xs. seen_by (clock_at xs (x % 4096)) u) (ap (page_at old) (sym e)))

-- clocks for the words of a page that had one or none
pub spread-clocks : (xs ys : List Clock) (o : ℕ) → o < 4096 → length ys ≤ 1 → xs ≡ replicate 1024 (clock_at ys 0) → clock_at xs o ≡ clock_at ys o
spread-clocks xs ys o less few spread =
    words-at xs o (ap length spread ∙ length-same 1024 (clock_at ys 0))
    ∙ (ap (λ (l : List Clock). slice_index_or l (o / 4) no_marks) spread
    ∙ (replicate-in 1024 (o / 4) (clock_at ys 0) no_marks (omega (arith, less))
    ∙ few-at ys 0 o few))

-- one clock for a page that had none
pub cover-clocks : (xs ys : List Clock) (o : ℕ) → ys ≡ [] → xs ≡ replicate 1 no_marks → clock_at xs o ≡ clock_at ys o
cover-clocks xs ys o none fresh = ap (λ (l : List Clock). clock_at l o) fresh ∙ sym (ap (λ (l : List Clock). clock_at l o) none)

pub replicate-long : (n : ℕ) (xs : List Clock) (c : Clock) → xs ≡ replicate n c → length xs ≡ n
replicate-long n xs c e = ap length e ∙ length-same n c

-- a page of more than one clock has them for its words or its bytes
pub page-long : (xs : List Clock) → IsPage xs → 1 < length xs → (length xs ≡ 1024) ⊎ (length xs ≡ 4096)
page-long xs (inl e) h = absurd (let f : length xs ≡ 0 = ap length e in omega (arith, f, h))
page-long xs (inr (inl e)) h = inl e
page-long xs (inr (inr (inl e))) h = inr e
page-long xs (inr (inr (inr e))) h = absurd (omega (arith, e, h))

module _ (old new : Shadow) (page index t p : ℕ) (a : Advances old page index t p new) (less : index < length (page_at old page)) (place : ℕ → ℕ) (reads : (xs : List Clock) (o : ℕ) → length xs ≡ length (page_at old page) → clock_at xs o ≡ slice_index_or xs (place o) no_marks) where
  read-old : (x u : ℕ) → x / 4096 ≡ page → marks_at old x u ≡ seen_by (slice_index_or (page_at old page) (place (x % 4096)) no_marks) u
  read-old x u e = ap (λ n. seen_by (clock_at (page_at old n) (x % 4096)) u) e ∙ ap (λ c. seen_by c u) (reads (page_at old page) (x % 4096) refl)

  read-new : (x u : ℕ) → x / 4096 ≡ page → marks_at new x u ≡ seen_by (slice_index_or (slice_set (page_at old page) index a.clock) (place (x % 4096)) no_marks) u
  read-new x u e =
      ap (λ xs. seen_by (clock_at xs (x % 4096)) u) (ap (page_at new) e ∙ a.changes.here)
      ∙ ap (λ c. seen_by c u) (reads (slice_set (page_at old page) index a.clock) (x % 4096) (length-set (page_at old page) index a.clock))

  at-index : (x : ℕ) → x / 4096 ≡ page → place (x % 4096) ≡ index → IsStepped (marks_at old x) t p (marks_at new x)
  at-index x e f =
      let before : (u : ℕ) → marks_at old x u ≡ seen_by (slice_index_or (page_at old page) index no_marks) u = (λ u. read-old x u e ∙ ap (λ i. seen_by (slice_index_or (page_at old page) i no_marks) u) f) in
      let after : (u : ℕ) → marks_at new x u ≡ seen_by a.clock u = (λ u. read-new x u e ∙ (ap (λ i. seen_by (slice_index_or (slice_set (page_at old page) index a.clock) i no_marks) u) f ∙ ap (λ c. seen_by c u) (get_or-set_same (page_at old page) index a.clock no_marks less))) in
      record { own = after t ∙ a.stepped.own; others = λ u n. after u ∙ (a.stepped.others u n ∙ sym (before u)) }

  off-index : (x u : ℕ) → (x / 4096 ≡ page → place (x % 4096) ≡ index → ⊥) → marks_at new x u ≡ marks_at old x u
  off-index x u n = ⊎_elim (λ e. read-new x u e ∙ (ap (λ c. seen_by c u) (get_or-set_other (page_at old page) index (place (x % 4096)) a.clock no_marks (n e)) ∙ sym (read-old x u e))) (λ m. ap (λ xs. seen_by (clock_at xs (x % 4096)) u) (a.changes.others (x / 4096) m)) (eq-told (x / 4096) page)

-- ---- a whole word, and one byte

word-in : (a x : ℕ) → a % 4 ≡ 0 → a ≤ x → x < a + 4 → (x / 4096 ≡ a / 4096) × (x % 4096 / 4 ≡ a % 4096 / 4)
word-in a x e low high = (omega (arith, e, low, high), omega (arith, e, low, high))

word-out : (a x : ℕ) → a % 4 ≡ 0 → x / 4096 ≡ a / 4096 → x % 4096 / 4 ≡ a % 4096 / 4 → (a ≤ x) × (x < a + 4)
word-out a x e f g = (omega (arith, e, f, g), omega (arith, e, f, g))

pub word-marked : (old new : Shadow) (a t p : ℕ) → a % 4 ≡ 0 → length (page_at old (a / 4096)) ≡ 1024 → Advances old (a / 4096) (a % 4096 / 4) t p new → Marks old (record { place = a; count = 4 }) t p new
word-marked old new a t p aligned words advances =
    let less : a % 4096 / 4 < length (page_at old (a / 4096)) = omega (arith, words) in
    let reads : (xs : List Clock) (o : ℕ) → length xs ≡ length (page_at old (a / 4096)) → clock_at xs o ≡ slice_index_or xs (o / 4) no_marks = (λ xs o e. words-at xs o (e ∙ words)) in
    let span : Span = record { place = a; count = 4 } in
    record {
      inside = λ x h. let b = bounds span x h in let w = word-in a x aligned b.0 b.1 in at-index old new (a / 4096) (a % 4096 / 4) t p advances less (λ o. o / 4) reads x w.0 w.1;
      outside = λ x h u. off-index old new (a / 4096) (a % 4096 / 4) t p advances less (λ o. o / 4) reads x u (λ e f. let w = word-out a x aligned e f in true≢false (sym (in-span span x w.0 w.1) ∙ h));
    }

byte-is : (a x : ℕ) → x / 4096 ≡ a / 4096 → x % 4096 ≡ a % 4096 → x ≡ a
byte-is a x e f = omega (arith, e, f)

pub byte-marked : (old new : Shadow) (a t p : ℕ) → length (page_at old (a / 4096)) ≡ 4096 → Advances old (a / 4096) (a % 4096) t p new → Marks old (record { place = a; count = 1 }) t p new
byte-marked old new a t p bytes advances =
    let less : a % 4096 < length (page_at old (a / 4096)) = omega (arith, bytes) in
    let reads : (xs : List Clock) (o : ℕ) → length xs ≡ length (page_at old (a / 4096)) → clock_at xs o ≡ slice_index_or xs o no_marks = (λ xs o e. bytes-at xs o (e ∙ bytes)) in
    let span : Span = record { place = a; count = 1 } in
    record {
      inside = λ x h. let b = bounds span x h in let same : x ≡ a = omega (arith, b.0, b.1) in at-index old new (a / 4096) (a % 4096) t p advances less (λ o. o) reads x (ap (λ n. n / 4096) same) (ap (λ n. n % 4096) same);
      outside = λ x h u. off-index old new (a / 4096) (a % 4096) t p advances less (λ o. o) reads x u (λ e f. let same = byte-is a x e f in true≢false (sym (in-span span x (omega (arith, same)) (omega (arith, same))) ∙ h));
    }

-- all bytes of a page that has one clock
page-in : (a x : ℕ) → a % 4096 ≡ 0 → a ≤ x → x < a + 4096 → x / 4096 ≡ a / 4096
page-in a x e low high = omega (arith, e, low, high)

page-out : (a x : ℕ) → a % 4096 ≡ 0 → x / 4096 ≡ a / 4096 → (a ≤ x) × (x < a + 4096)
page-out a x e f = (omega (arith, e, f), omega (arith, e, f))

pub page-marked : (old new : Shadow) (a t p : ℕ) → a % 4096 ≡ 0 → length (page_at old (a / 4096)) ≡ 1 → Advances old (a / 4096) 0 t p new → Marks old (record { place = a; count = 4096 }) t p new
page-marked old new a t p aligned one advances =
    let less : 0 < length (page_at old (a / 4096)) = omega (arith, one) in
    let reads : (xs : List Clock) (o : ℕ) → length xs ≡ length (page_at old (a / 4096)) → clock_at xs o ≡ slice_index_or xs 0 no_marks = (λ xs o e. one-at xs o (e ∙ one)) in
    let span : Span = record { place = a; count = 4096 } in
    record {
      inside = λ x h. let b = bounds span x h in at-index old new (a / 4096) 0 t p advances less (λ o. 0) reads x (page-in a x aligned b.0 b.1) refl;
      outside = λ x h u. off-index old new (a / 4096) 0 t p advances less (λ o. 0) reads x u (λ e f. let w = page-out a x aligned e in true≢false (sym (in-span span x w.0 w.1) ∙ h));
    }

-- bytes of a page that has one clock or none
pub marks-alike : (table : Shadow) (a x u : ℕ) → length (page_at table (a / 4096)) ≤ 1 → a ≤ x → x < a + (4096 - a % 4096) → marks_at table x u ≡ marks_at table a u
marks-alike table a x u few low high =
    let same : x / 4096 ≡ a / 4096 = omega (arith, low, high) in
    ap (λ p. seen_by (clock_at (page_at table p) (x % 4096)) u) same ∙ ap (λ c. seen_by c u) (few-at (page_at table (a / 4096)) (x % 4096) (a % 4096) few)

-- ---- hits

module _ (table : Shadow) (place k : ℕ) (past : ClockOf) (none : (mark byte : ℕ) → IsHit table (record { place = place; count = k }) past mark byte → ⊥) (result : ℕ) (above : (thread : ℕ) → (marks_at table (place + k) thread ≤ past thread) ⊎ (marks_at table (place + k) thread ≤ result)) where
  -- a hit that is not among the first bytes is further on
  later-hit : (n mark byte : ℕ) → IsHit table (record { place = place; count = n }) past mark byte → place + k ≤ byte
  later-hit n mark byte h = ⊎_elim (λ less. absurd (none mark byte (record { thread = h.thread; at = in-span (record { place = place; count = k }) byte (bounds (record { place = place; count = n }) byte h.at).0 less; mark_is = h.mark_is; beyond = h.beyond }))) (λ e. e) (below-or (place + k) byte)

  -- its mark is no more than the greatest
  no-more : (span : Span) (mark byte : ℕ) → IsHit table span past mark byte → byte ≡ place + k → mark ≤ result
  no-more span mark byte h e =
      let is : mark ≡ marks_at table (place + k) h.thread = h.mark_is ∙ ap (λ (x : ℕ). marks_at table x h.thread) e in
      let beyond = h.beyond in
      ⊎_elim (λ low. absurd (omega (arith, low, is, beyond))) (λ low. omega (arith, low, is)) (above h.thread)

  pub none-there : (n : ℕ) → ((x thread : ℕ) → place + k ≤ x → x < place + k + n → marks_at table x thread ≡ marks_at table (place + k) thread) → result ≤ 0 → (mark byte : ℕ) → IsHit table (record { place = place; count = k + n }) past mark byte → ⊥
  none-there n alike small mark byte h =
      let low = later-hit (k + n) mark byte h in
      let high = (bounds (record { place = place; count = k + n }) byte h.at).1 in
      let is : mark ≡ marks_at table (place + k) h.thread = h.mark_is ∙ alike byte h.thread low (omega (arith, high)) in
      let beyond = h.beyond in
      ⊎_elim (λ less. omega (arith, less, is, beyond)) (λ less. omega (arith, less, is, small, beyond)) (above h.thread)

  pub first-there : (count : ℕ) → k < count → 0 < result → (result ≡ 0) ⊎ ((thread : ℕ) × (result ≡ marks_at table (place + k) thread) × (past thread < result))
      → IsHit table (record { place = place; count = count }) past result (place + k) × ((mark byte : ℕ) → IsHit table (record { place = place; count = count }) past mark byte → (place + k < byte) ⊎ ((place + k ≡ byte) × (mark ≤ result)))
  first-there count less positive found = (
    ⊎_elim (λ z. absurd (omega (arith, z))) (λ f. record { thread = f.0; at = in-span (record { place = place; count = count }) (place + k) (omega arith) (omega arith); mark_is = f.1; beyond = f.2 }) found,
    λ mark byte h. ⊎_elim (λ e. inr (sym e, no-more (record { place = place; count = count }) mark byte h e)) (λ n. inl (further (later-hit count mark byte h) n)) (eq-told byte (place + k)),
  )
    where
      further : {m x : ℕ} → m ≤ x → x ≢ m → m < x
      further le ne = grind (arith, le, ne)

pub no-hit-more : (table : Shadow) (place k count : ℕ) (past : ClockOf) → count ≤ k → ((mark byte : ℕ) → IsHit table (record { place = place; count = k }) past mark byte → ⊥) → (mark byte : ℕ) → IsHit table (record { place = place; count = count }) past mark byte → ⊥
no-hit-more table place k count past le none mark byte h =
    let b = bounds (record { place = place; count = count }) byte h.at in
    none mark byte (record { thread = h.thread; at = in-span (record { place = place; count = k }) byte b.0 (let c = b.1 in omega (arith, c, le)); mark_is = h.mark_is; beyond = h.beyond })

pub no-hit-none : (table : Shadow) (place : ℕ) (past : ClockOf) → (mark byte : ℕ) → IsHit table (record { place = place; count = 0 }) past mark byte → ⊥
no-hit-none table place past mark byte h = let b = bounds (record { place = place; count = 0 }) byte h.at in omega (arith, b.0, b.1)

-- ---- bytes with the clocks of their words

pub spread-more : (bytes words : List Clock) (k : ℕ) (d : Clock) → length bytes ≡ 4096 → length words ≡ 1024 → k < 4096 → ((i : ℕ) → i < k → slice_index_or bytes i no_marks ≡ slice_index_or words (i / 4) no_marks)
    → (i : ℕ) → i < k + 1 → slice_index_or (slice_set bytes k (slice_index_or words (k / 4) d)) i no_marks ≡ slice_index_or words (i / 4) no_marks
spread-more bytes words k d many few less same i h = ⊎_elim at (λ n. get_or-set_other bytes k i (slice_index_or words (k / 4) d) no_marks n ∙ same i (below h n)) (eq-told i k)
  where
    below : i < k + 1 → i ≢ k → i < k
    below g n = grind (arith, g, n)

    read : slice_index_or words (k / 4) no_marks ≡ slice_index_or words (k / 4) d
    read = get_or_from_slice_get words (k / 4) (slice_index_or words (k / 4) d) no_marks (slice_get-get_or words (k / 4) d (omega (arith, few, less)))

    at : i ≡ k → slice_index_or (slice_set bytes k (slice_index_or words (k / 4) d)) i no_marks ≡ slice_index_or words (i / 4) no_marks
    at e =
        ap (λ (n : ℕ). slice_index_or (slice_set bytes k (slice_index_or words (k / 4) d)) n no_marks) e
        ∙ (get_or-set_same bytes k (slice_index_or words (k / 4) d) no_marks (omega (arith, many, less))
        ∙ (sym read ∙ ap (λ (n : ℕ). slice_index_or words (n / 4) no_marks) (sym e)))

-- ---- stretches with no hit, seen at once

pub zeros-seen : (n u : ℕ) → slice_index_or (replicate n zero) u zero ≡ zero
zeros-seen n u = get_or-replicate n u zero

same-page : (a n x : ℕ) → a % 4 + n ≤ 4 → a ≤ x → x < a + n → (x / 4096 ≡ a / 4096) × (x % 4096 / 4 ≡ a % 4096 / 4)
same-page a n x e low high = (omega (arith, e, low, high), omega (arith, e, low, high))

rest-in : (a n x : ℕ) → a ≤ x → x < a + n → x / 4096 ≡ a / 4096 → (a % 4096 ≤ x % 4096) × (x % 4096 < a % 4096 + n)
rest-in a n x low high same = (omega (arith, low, high, same), omega (arith, low, high, same))

-- one more clock that is quiet
pub quiet-more : (clocks : List Clock) (past : ClockOf) (offset k : ℕ) (clock : Clock) (greatest : ℕ) → clock ≡ slice_index_or clocks k no_marks → greatest ≡ 0 → ((thread : ℕ) → (seen_by clock thread ≤ past thread) ⊎ (seen_by clock thread ≤ greatest))
    → ((i thread : ℕ) → offset ≤ i → i < k → seen_by (slice_index_or clocks i no_marks) thread ≤ past thread) → (i thread : ℕ) → offset ≤ i → i < k + 1 → seen_by (slice_index_or clocks i no_marks) thread ≤ past thread
quiet-more clocks past offset k clock greatest is small above before i thread low high = ⊎_elim at (λ n. before i thread low (below high n)) (eq-told i k)
  where
    below : i < k + 1 → i ≢ k → i < k
    below g n = grind (arith, g, n)

    at : i ≡ k → seen_by (slice_index_or clocks i no_marks) thread ≤ past thread
    at e =
        let value : seen_by (slice_index_or clocks i no_marks) thread ≡ seen_by clock thread = ap (λ (m : ℕ). seen_by (slice_index_or clocks m no_marks) thread) e ∙ ap (λ (c : Clock). seen_by c thread) (sym is) in
        ⊎_elim (λ f. omega (arith, f, value)) (λ f. omega (arith, f, value, small)) (above thread)

module _ (table : Shadow) (a n : ℕ) (past : ClockOf) (short : a % 4 + n ≤ 4) where
  pub quiet-page : page_at table (a / 4096) ≡ [] → (mark byte : ℕ) → IsHit table (record { place = a; count = n }) past mark byte → ⊥
  quiet-page none mark byte h =
      let b = bounds (record { place = a; count = n }) byte h.at in
      let at = same-page a n byte short b.0 b.1 in
      let zero_mark : marks_at table byte h.thread ≡ 0 = ap (λ xs. seen_by (clock_at xs (byte % 4096)) h.thread) (ap (page_at table) at.0 ∙ none) ∙ zeros-seen 16 h.thread in
      let beyond = h.beyond in
      omega (arith, zero_mark, beyond, h.mark_is)

  pub quiet-word : (clock : Clock) (greatest : ℕ) → length (page_at table (a / 4096)) ≡ 1024 → clock ≡ slice_index_or (page_at table (a / 4096)) (a % 4096 / 4) no_marks → greatest ≡ 0 → ((thread : ℕ) → (seen_by clock thread ≤ past thread) ⊎ (seen_by clock thread ≤ greatest)) → (mark byte : ℕ) → IsHit table (record { place = a; count = n }) past mark byte → ⊥
  quiet-word clock greatest words is small above mark byte h =
      let b = bounds (record { place = a; count = n }) byte h.at in
      let at = same-page a n byte short b.0 b.1 in
      let value : marks_at table byte h.thread ≡ seen_by clock h.thread =
      ap (λ xs. seen_by (clock_at xs (byte % 4096)) h.thread) (ap (page_at table) at.0)
      ∙ (ap (λ c. seen_by c h.thread) (words-at (page_at table (a / 4096)) (byte % 4096) words)
      ∙ (ap (λ i. seen_by (slice_index_or (page_at table (a / 4096)) i no_marks) h.thread) at.1 ∙ ap (λ (c : Clock). seen_by c h.thread) (sym is))) in
      let beyond = h.beyond in
      let mark_is = h.mark_is in
      ⊎_elim (λ low. omega (arith, low, value, beyond, mark_is)) (λ low. omega (arith, low, small, value, beyond, mark_is)) (above h.thread)

  pub quiet-bytes : length (page_at table (a / 4096)) ≡ 4096 → ((i thread : ℕ) → a % 4096 ≤ i → i < a % 4096 + n → seen_by (slice_index_or (page_at table (a / 4096)) i no_marks) thread ≤ past thread) → (mark byte : ℕ) → IsHit table (record { place = a; count = n }) past mark byte → ⊥
  quiet-bytes bytes all mark byte h =
      let b = bounds (record { place = a; count = n }) byte h.at in
      let at = same-page a n byte short b.0 b.1 in
      let value : marks_at table byte h.thread ≡ seen_by (slice_index_or (page_at table (a / 4096)) (byte % 4096) no_marks) h.thread =
      ap (λ p. seen_by (clock_at (page_at table p) (byte % 4096)) h.thread) at.0 ∙ ap (λ c. seen_by c h.thread) (bytes-at (page_at table (a / 4096)) (byte % 4096) bytes) in
      let rest = rest-in a n byte b.0 b.1 at.0 in
      let low = all (byte % 4096) h.thread rest.0 rest.1 in
      let beyond = h.beyond in
      let mark_is = h.mark_is in
      omega (arith, low, value, beyond, mark_is)

-- ---- a table of no pages

pub empty-pages : (table : Shadow) → ((k : ℕ) (second : Vec (Vec Clock Global) Global) → slice_get table k ≡ Some second → second.items ≡ []) → (page : ℕ) → page_at table page ≡ []
empty-pages table none page = by (slice_get table (page / 1024)) refl
  where
    by : (o : Option (Vec (Vec Clock Global) Global)) → slice_get table (page / 1024) ≡ o → page_at table page ≡ []
    by None e = ap (λ o. clocks_in (slice_get (pages_in o) (page % 1024))) e
    by (Some second) e = ap (λ o. clocks_in (slice_get (pages_in o) (page % 1024))) e ∙ ap (λ xs. clocks_in (slice_get xs (page % 1024))) (none (page / 1024) second e)

pub empty-marks : (table : Shadow) → ((k : ℕ) (second : Vec (Vec Clock Global) Global) → slice_get table k ≡ Some second → second.items ≡ []) → (x u : ℕ) → marks_at table x u ≡ 0
empty-marks table none x u = ap (λ xs. seen_by (clock_at xs (x % 4096)) u) (empty-pages table none (x / 4096)) ∙ zeros-seen 16 u

-- ---- atomic instructions

pub plainly-all : (w : Watched) → w.atomic.count ≡ 0 → plainly w ≡ w
plainly-all w e = ap (λ (n : ℕ). if n == 0 then w else record w { loaded = no_bytes; stored = no_bytes }) e

pub as_one-none : (w : Watched) → w.atomic.count ≡ 0 → as_one w ≡ record w { loaded = no_bytes; code = no_bytes; stored = no_bytes }
as_one-none w e = ap (λ (n : ℕ). if n == 0 then record w { loaded = no_bytes; code = no_bytes; stored = no_bytes } else record w { code = no_bytes }) e

as_one-word : (w : Watched) → w.atomic.count ≢ 0 → as_one w ≡ record w { code = no_bytes }
as_one-word w n = by (w.atomic.count == 0) refl
  where
    by : (b : Bool) → (w.atomic.count == 0) ≡ b → (if b then record w { loaded = no_bytes; code = no_bytes; stored = no_bytes } else record w { code = no_bytes }) ≡ record w { code = no_bytes }
    by true e = absurd (n (eqb-true w.atomic.count 0 e))
    by false e = refl

-- the marks of one are those of its word, in tables that were there or are new
pub marks-word : (old_reads old_writes reads writes new_reads new_writes : Shadow) (w : Watched) (t place : ℕ) → w.atomic.count ≢ 0 → ((x u : ℕ) → marks_at reads x u ≡ marks_at old_reads x u) → ((x u : ℕ) → marks_at writes x u ≡ marks_at old_writes x u)
    → Marks reads (span_of w.loaded) t place new_reads → Marks writes (span_of w.stored) t place new_writes → MarksAll old_reads old_writes (as_one w) t place new_reads new_writes
marks-word old_reads old_writes reads writes new_reads new_writes w t place n same equal loads stores =
    subst (λ (v : Watched). MarksAll old_reads old_writes v t place new_reads new_writes) (sym (as_one-word w n))
    (record {
      between = new_reads;
      loads = marks-later (span_of w.loaded) t place old_reads reads new_reads same loads;
      fetches = marks-none 0 t place new_reads;
      stores = marks-later (span_of w.stored) t place old_writes writes new_writes equal stores;
    })

-- a step that accesses nothing marks nothing
pub marks-nothing : (reads writes : Shadow) (w : Watched) (t place : ℕ) → MarksAll reads writes (record w { loaded = no_bytes; code = no_bytes; stored = no_bytes }) t place reads writes
marks-nothing reads writes w t place = record { between = reads; loads = marks-none 0 t place reads; fetches = marks-none 0 t place reads; stores = marks-none 0 t place writes }

-- a table of no page
pub no-marks : (x u : ℕ) → marks_at [] x u ≡ 0
no-marks x u = empty-marks [] (λ k second h. absurd (let e : None ≡ Some second = h in cc)) x u

unmarked : (span : Span) (past : ClockOf) (mark byte : ℕ) → IsHit [] span past mark byte → ⊥
unmarked span past mark byte h = let z = no-marks byte h.thread in let e = h.mark_is in let beyond = h.beyond in omega arith

pub no-hit-unmarked : (w : Watched) (past : ClockOf) (mark byte : ℕ) → AnyHit [] [] w past mark byte → ⊥
no-hit-unmarked w past mark byte h =
    ⊎_elim (⊎_elim (unmarked (span_of w.loaded) past mark byte) (unmarked (span_of w.code) past mark byte)) (⊎_elim (unmarked (span_of w.stored) past mark byte) (unmarked (span_of w.stored) past mark byte)) h

pub empty-table : (table : Shadow) → length table ≡ 1025 → ((k : ℕ) (second : Vec (Vec Clock Global) Global) → slice_get table k ≡ Some second → second.items ≡ []) → IsTable table
empty-table table count none = record { seconds = count; whole = λ k second h. inl (none k second h); pages = λ page. inl (empty-pages table none page) }

pub one-empty-more : {X : Type 0} (lists : List (Vec X Global)) (new : Vec X Global) → ((k : ℕ) (list : Vec X Global) → slice_get lists k ≡ Some list → list.items ≡ []) → new.items ≡ [] → (k : ℕ) (list : Vec X Global) → slice_get (lists ++ new ∷ []) k ≡ Some list → list.items ≡ []
one-empty-more {X} [] new none empty zero list h = ap (λ (v : Vec X Global). v.items) (sym (some-injective h)) ∙ empty
one-empty-more {X} [] new none empty (suc k) list h = absurd (let e : None ≡ Some list = h in cc)
one-empty-more {X} (x ∷ lists) new none empty zero list h = none zero list h
one-empty-more {X} (x ∷ lists) new none empty (suc k) list h = one-empty-more lists new (λ j p e. none (suc j) p e) empty k list h
