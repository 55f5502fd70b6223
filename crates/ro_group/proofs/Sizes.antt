-- The sizes of groups, as threads are noted anew.
use Rattle.std.specs.Prelude.{◌≡◌, ◌≢◌, ◌⊎◌, ℕ, zero, suc, ◌+◌, ◌-◌, ◌<◌, ◌≤◌, Bool, true, false, ◌&&◌, ◌==◌, if◌then◌else◌, List, [], ◌∷◌, ◌++◌, length, replicate, Option, Some, slice_set, slice_index_or}
use Rattle.std.proofs.Common.{refl, sym, ap, subst, ◌∙◌, arith, inl, inr}
use Rattle.std.proofs.Math.Bool.{beq}
use Rattle.std.proofs.lemmas.Bool.{cases_Bool, cases_eq, cases_lt, eqb-true, eq-eqb}
use Rattle.std.proofs.lemmas.Option.{slice_get_past, slice_get-get_or, get_or_from_slice_get}
use Rattle.std.specs.Option.{option_map_or}
use Rattle.std.proofs.lemmas.List.{length-set, get_or-set_same, get_or-set_other, get_or-replicate, get_or_past, length-replicate}
use Rattle.ro_group.specs.Groups.{Groups, stands_in, stands, is_ready, group_size, Counts, Changes, Releases}

abbrev one_if : Bool → ℕ
one_if b = if b then 1 else 0

pub size-most : (rows : Groups) (t : ℕ) → group_size rows t ≤ length rows
size-most [] t = omega arith
size-most (row ∷ rows) t = by (stands_in t row) (size-most rows t)
  where
    by : (b : Bool) → group_size rows t ≤ length rows → one_if b + group_size rows t ≤ suc (length rows)
    by true h = omega arith
    by false h = omega arith

-- two numbers that are not equal
unequal : (m n : ℕ) → m ≢ n → (m == n) ≡ false
unequal m n d = by (cases_Bool (m == n))
  where
    by : ((m == n) ≡ true) ⊎ ((m == n) ≡ false) → (m == n) ≡ false
    by (inl e) = absurd (d (eqb-true m n e))
    by (inr e) = e

suc-equal : (m n : ℕ) → ((1 + m) == suc n) ≡ (m == n)
suc-equal m n = by (cases_eq m n)
  where
    by : (m ≡ n) ⊎ (m ≢ n) → ((1 + m) == suc n) ≡ (m == n)
    by (inl e) = eq-eqb (1 + m) (suc n) (omega arith) ∙ sym (eq-eqb m n e)
    by (inr d) = unequal (1 + m) (suc n) (λ (e : 1 + m ≡ suc n). d (omega arith)) ∙ sym (unequal m n d)

-- a group as large as can be has every replica
pub size-all : (rows : Groups) (t : ℕ) → (group_size rows t == length rows) ≡ is_ready rows t
size-all [] t = refl
size-all (row ∷ rows) t = by (stands_in t row) (size-all rows t) (size-most rows t)
  where
    by : (b : Bool) → (group_size rows t == length rows) ≡ is_ready rows t → group_size rows t ≤ length rows → ((one_if b + group_size rows t) == suc (length rows)) ≡ (b && is_ready rows t)
    by true e m = suc-equal (group_size rows t) (length rows) ∙ e
    by false e m = unequal (0 + group_size rows t) (suc (length rows)) (λ (g : 0 + group_size rows t ≡ suc (length rows)). omega arith)

-- a row is replaced
pub size-set : (rows : Groups) (r t : ℕ) (row : List Bool) → r < length rows → group_size (slice_set rows r row) t + one_if (stands rows r t) ≡ group_size rows t + one_if (stands_in t row)
size-set [] r t row h = absurd (omega arith)
size-set (old ∷ rows) zero t row h = omega arith
size-set (old ∷ rows) (suc r) t row h = let e = size-set rows r t row (omega arith) in omega arith

pub size-blank : (n t : ℕ) → t < 16 → group_size (replicate n (replicate 16 false)) t ≡ 0
size-blank zero t h = refl
size-blank (suc n) t h = let e : stands_in t (replicate 16 false) ≡ false = get_or-replicate 16 t false false h in ap (λ (b : Bool). one_if b + group_size (replicate n (replicate 16 false)) t) e ∙ (let i = size-blank n t h in omega arith)

-- ---- a row's thread is noted anew

abbrev pub row_at : Groups → (r : ℕ) → List Bool
row_at rows r = slice_index_or rows r []

pub stands-at : (rows : Groups) (r t : ℕ) → stands rows r t ≡ stands_in t (row_at rows r)
stands-at [] r t = refl
stands-at (row ∷ rows) zero t = refl
stands-at (row ∷ rows) (suc r) t = stands-at rows r t

module _ (rows : Groups) (r t : ℕ) (now : Bool) (within : r < length rows) (sixteen : t < length (row_at rows r)) where
  abbrev pub noted : Groups
  noted = slice_set rows r (slice_set (row_at rows r) t now)

  row-noted : row_at noted r ≡ slice_set (row_at rows r) t now
  row-noted = get_or-set_same rows r (slice_set (row_at rows r) t now) [] within

  pub noted-changes : Changes rows noted r t now
  noted-changes = record {
    count = length-set rows r (slice_set (row_at rows r) t now);
    named = stands-at noted r t ∙ ap (stands_in t) row-noted ∙ get_or-set_same (row_at rows r) t now false sixteen;
    others = λ r' t' d. stands-at noted r' t' ∙ by r' t' d (cases_eq r' r) ∙ sym (stands-at rows r' t');
  }
    where
      by : (r' t' : ℕ) → (r' ≢ r) ⊎ (t' ≢ t) → (r' ≡ r) ⊎ (r' ≢ r) → stands_in t' (row_at noted r') ≡ stands_in t' (row_at rows r')
      by r' t' d (inr differs) = ap (stands_in t') (get_or-set_other rows r r' (slice_set (row_at rows r) t now) [] differs)
      by r' t' (inl differs) (inl same) = absurd (differs same)
      by r' t' (inr differs) (inl same) =
          ap (λ (i : ℕ). stands_in t' (row_at noted i)) same ∙ ap (stands_in t') row-noted ∙ get_or-set_other (row_at rows r) t t' now false differs ∙ ap (λ (i : ℕ). stands_in t' (row_at rows i)) (sym same)

  -- its group becomes as much larger
  pub noted-size : group_size noted t + one_if (stands rows r t) ≡ group_size rows t + one_if now
  noted-size = size-set rows r t (slice_set (row_at rows r) t now) within ∙ ap (λ (b : Bool). group_size rows t + one_if b) (get_or-set_same (row_at rows r) t now false sixteen)

  -- and the other groups don't
  pub noted-others : (t' : ℕ) → t' ≢ t → group_size noted t' ≡ group_size rows t'
  noted-others t' differs =
      let e = size-set rows r t' (slice_set (row_at rows r) t now) within in
      let same : stands_in t' (slice_set (row_at rows r) t now) ≡ stands rows r t' = get_or-set_other (row_at rows r) t t' now false differs ∙ sym (stands-at rows r t') in
      let f : group_size noted t' + one_if (stands rows r t') ≡ group_size rows t' + one_if (stands rows r t') = e ∙ ap (λ (b : Bool). group_size rows t' + one_if b) same in
      omega arith

  -- the counts with the new one
  pub noted-counts : (counts : List ℕ) (size : ℕ) → Counts rows counts → t < length counts → size ≡ group_size noted t → Counts noted (slice_set counts t size)
  noted-counts counts size h is_one e = record { threads = λ r' less. still r' less (cases_eq r' r); each = λ t' less. by t' less (cases_eq t' t) }
    where
      still : (r' : ℕ) → r' < length noted → (r' ≡ r) ⊎ (r' ≢ r) → length (row_at noted r') ≡ 16
      still r' less (inl same) = ap (λ (i : ℕ). length (row_at noted i)) same ∙ ap length row-noted ∙ length-set (row_at rows r) t now ∙ h.threads r within
      still r' less (inr differs) = ap length (get_or-set_other rows r r' (slice_set (row_at rows r) t now) [] differs) ∙ h.threads r' (let n = length-set rows r (slice_set (row_at rows r) t now) in omega arith)

      by : (t' : ℕ) → t' < 16 → (t' ≡ t) ⊎ (t' ≢ t) → slice_index_or (slice_set counts t size) t' 0 ≡ group_size noted t'
      by t' less (inl same) = ap (λ (i : ℕ). slice_index_or (slice_set counts t size) i 0) same ∙ get_or-set_same counts t size 0 is_one ∙ e ∙ ap (group_size noted) (sym same)
      by t' less (inr differs) = get_or-set_other counts t t' size 0 differs ∙ h.each t' less ∙ sym (noted-others t' differs)

-- ---- no thread stands still

pub blank-counts : (n : ℕ) → Counts (replicate n (replicate 16 false)) (replicate 16 0)
blank-counts n = record {
  threads = λ r less. ap length (get_or-replicate n r (replicate 16 false) [] (let l = length-replicate n (replicate 16 false) in omega arith));
  each = λ t less. get_or-replicate 16 t 0 0 less ∙ sym (size-blank n t less);
}

pub blank-stands : (n r t : ℕ) → stands (replicate n (replicate 16 false)) r t ≡ false
blank-stands zero r t = refl
blank-stands (suc n) zero t = no-one t
  where
    no-one : (t : ℕ) → stands_in t (replicate 16 false) ≡ false
    no-one t = by (cases_lt t 16)
      where
        by : (t < 16) ⊎ (16 ≤ t) → stands_in t (replicate 16 false) ≡ false
        by (inl less) = get_or-replicate 16 t false false less
        by (inr more) = get_or_past (replicate 16 false) t false more
blank-stands (suc n) (suc r) t = blank-stands n r t

-- ---- one thread in all replicas, row by row

-- the thread stands still in none of the rows so far; all else is as it was
pub record ReleasedTo (old new : Groups) (thread rows : ℕ) : Type 0 where
  pub count : length new ≡ length old
  pub named : (r : ℕ) → r < rows → stands new r thread ≡ false
  pub others : (r t : ℕ) → t ≢ thread → stands new r t ≡ stands old r t

pub released-more : (old mid new : Groups) (t rows : ℕ) → ReleasedTo old mid t rows → Changes mid new rows t false → ReleasedTo old new t (rows + 1)
released-more old mid new t rows h c = record {
  count = c.count ∙ h.count;
  named = λ r less. by r less (cases_eq r rows);
  others = λ r t' d. c.others r t' (inr d) ∙ h.others r t' d;
}
  where
    by : (r : ℕ) → r < rows + 1 → (r ≡ rows) ⊎ (r ≢ rows) → stands new r t ≡ false
    by r less (inl same) = ap (λ (i : ℕ). stands new i t) same ∙ c.named
    by r less (inr differs) = c.others r t (inl differs) ∙ h.named r (omega arith)

pub released-all : (old new : Groups) (t rows : ℕ) → ReleasedTo old new t rows → length old ≤ rows → Releases old new t
released-all old new t rows h all = record { count = h.count; named = λ r. by r (cases_lt r rows); others = h.others }
  where
    by : (r : ℕ) → (r < rows) ⊎ (rows ≤ r) → stands new r t ≡ false
    by r (inl less) = h.named r less
    by r (inr more) = ap (λ (o : Option (List Bool)). option_map_or (stands_in t) o false) (slice_get_past new r (let c = h.count in omega arith))

-- ---- what the code reads

-- the row of a replica, by the value that was read
pub row-is : (rows : Groups) (r : ℕ) (row : List Bool) → r < length rows → row ≡ slice_index_or rows r row → row ≡ row_at rows r
row-is rows r row within e = sym (get_or_from_slice_get rows r row [] (slice_get-get_or rows r row within ∙ ap Some (sym e)))

-- a thread that did not stand still before, and does; and the other way round
pub one-more : (rows : Groups) (r t : ℕ) → (within : r < length rows) → (sixteen : t < length (row_at rows r)) → stands rows r t ≡ false → group_size rows t + 1 ≡ group_size (noted rows r t true within sixteen) t
one-more rows r t within sixteen e =
    let s = noted-size rows r t true within sixteen in
    let f : group_size (noted rows r t true within sixteen) t + 0 ≡ group_size rows t + 1 = sym (ap (λ (b : Bool). group_size (noted rows r t true within sixteen) t + one_if b) e) ∙ s in
    omega arith

pub one-less : (rows : Groups) (r t : ℕ) → (within : r < length rows) → (sixteen : t < length (row_at rows r)) → stands rows r t ≡ true → group_size rows t ≡ group_size (noted rows r t false within sixteen) t + 1
one-less rows r t within sixteen e =
    let s = noted-size rows r t false within sixteen in
    let f : group_size (noted rows r t false within sixteen) t + 1 ≡ group_size rows t + 0 = sym (ap (λ (b : Bool). group_size (noted rows r t false within sixteen) t + one_if b) e) ∙ s in
    omega arith

-- rows of no one, and one more
abbrev pub blank : ℕ → Groups
blank n = replicate n (replicate 16 false)

pub one-row-more : (n : ℕ) → blank n ++ replicate 16 false ∷ [] ≡ blank (n + 1)
one-row-more n = sym (replicate-snoc n) ∙ ap blank (let e : suc n ≡ n + 1 = omega arith in e)
  where
    replicate-snoc : (n : ℕ) → blank (suc n) ≡ blank n ++ replicate 16 false ∷ []
    replicate-snoc zero = refl
    replicate-snoc (suc n) = ap (λ (rows : Groups). replicate 16 false ∷ rows) (replicate-snoc n)

-- ---- a thread noted anew, as the code does it

other-one : (b : Bool) → beq b true ≡ false → b ≡ false
other-one true d = d
other-one false d = refl

other-none : (b : Bool) → beq b false ≡ false → b ≡ true
other-none true d = refl
other-none false d = sym d

module _ (rows : Groups) (counts : List ℕ) (r t : ℕ) (row : List Bool) (h : Counts rows counts) (within : r < length rows) (few : t < 16) (sixteen : length counts ≡ 16) (read : row ≡ slice_index_or rows r row) where
  is : row ≡ row_at rows r
  is = row-is rows r row within read

  fits : t < length (row_at rows r)
  fits = let n = h.threads r within in omega arith

  stood : (b : Bool) → slice_index_or row t false ≡ b → stands rows r t ≡ b
  stood b e = stands-at rows r t ∙ ap (stands_in t) (sym is) ∙ e

  as-noted : (now : Bool) → slice_set rows r (slice_set row t now) ≡ noted rows r t now within fits
  as-noted now = ap (λ (x : List Bool). slice_set rows r (slice_set x t now)) is

  pub set-changes : (now : Bool) → Changes rows (slice_set rows r (slice_set row t now)) r t now
  set-changes now = subst (λ (new : Groups). Changes rows new r t now) (sym (as-noted now)) (noted-changes rows r t now within fits)

  -- the thread did not stand still there
  pub count-below : beq (slice_index_or row t false) true ≡ false → slice_index_or counts t 0 < length rows
  count-below differs =
      let e = one-more rows r t within fits (stood false (other-one (slice_index_or row t false) differs)) in
      let m = size-most (noted rows r t true within fits) t in
      let l = length-set rows r (slice_set (row_at rows r) t true) in
      let c = h.each t few in
      omega arith

  pub counted-more : beq (slice_index_or row t false) true ≡ false → Counts (slice_set rows r (slice_set row t true)) (slice_set counts t (slice_index_or counts t 0 + 1))
  counted-more differs =
      subst (λ (new : Groups). Counts new (slice_set counts t (slice_index_or counts t 0 + 1))) (sym (as-noted true))
      (noted-counts rows r t true within fits counts (slice_index_or counts t 0 + 1) h (omega arith) (ap (λ (n : ℕ). n + 1) (h.each t few) ∙ one-more rows r t within fits (stood false (other-one (slice_index_or row t false) differs))))

  -- the thread stood still there
  pub count-above : beq (slice_index_or row t false) false ≡ false → 1 ≤ slice_index_or counts t 0
  count-above differs =
      let e = one-less rows r t within fits (stood true (other-none (slice_index_or row t false) differs)) in
      let c = h.each t few in
      omega arith

  pub counted-less : beq (slice_index_or row t false) false ≡ false → Counts (slice_set rows r (slice_set row t false)) (slice_set counts t (slice_index_or counts t 0 - 1))
  counted-less differs =
      subst (λ (new : Groups). Counts new (slice_set counts t (slice_index_or counts t 0 - 1))) (sym (as-noted false))
      (noted-counts rows r t false within fits counts (slice_index_or counts t 0 - 1) h (omega arith)
      (let e = one-less rows r t within fits (stood true (other-none (slice_index_or row t false) differs)) in let c = h.each t few in omega arith))
