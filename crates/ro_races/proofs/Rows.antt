-- What sources know, row by row.
use Rattle.std.specs.Map.{lookup}
use Rattle.std.specs.Prelude.{◌≡◌, ◌≢◌, ◌⊎◌, ℕ, zero, suc, ◌<◌, max, cond, Bool, true, false, ◌==◌, nat_eq, Option, List, [], ◌∷◌, ◌++◌, Some, None, slice_get, slice_set, slice_index_or, replicate, ◌+◌}
use Rattle.std.proofs.Common.{refl, sym, ap, ◌∙◌, subst, arith, inl, inr}
use Rattle.std.proofs.lemmas.List.{length-set}
use Rattle.std.proofs.lemmas.Bool.{false≢true, eqb-true}
use Rattle.std.proofs.lemmas.Option.{get_or_from_slice_get}
use Rattle.ro_plain.proofs.Calls.{some-injective}
use Rattle.ro_races.specs.declared.marks.Clock.{Clock}
use Rattle.ro_races.specs.declared.sources.Source.{Source}
use Rattle.ro_races.specs.declared.sources.Source.TheVariants.{Thread, Mutex, Exit, Word}
use Rattle.ro_races.specs.declared.sources.Row.{Row}
use Rattle.ro_races.specs.Clocks.{IsJoined}
use Rattle.ro_races.specs.Seen.{seen_by, is_source, known_by, known_of, known_in, IsPlace, IsOwn, Keeps, Passes}

pub one-source : (a b : Source) → is_source a b ≡ true → a ≡ b
one-source (Thread a) (Thread b) h = ap Thread (eqb-true a b h)
one-source (Mutex a) (Mutex b) h = ap Mutex (eqb-true a b h)
one-source (Exit a) (Exit b) h = ap Exit (eqb-true a b h)
one-source (Word a) (Word b) h = ap Word (eqb-true a b h)
one-source (Thread a) (Word b) h = absurd (false≢true h)
one-source (Mutex a) (Word b) h = absurd (false≢true h)
one-source (Exit a) (Word b) h = absurd (false≢true h)
one-source (Word a) (Thread b) h = absurd (false≢true h)
one-source (Word a) (Mutex b) h = absurd (false≢true h)
one-source (Word a) (Exit b) h = absurd (false≢true h)
one-source (Thread a) (Mutex b) h = absurd (false≢true h)
one-source (Thread a) (Exit b) h = absurd (false≢true h)
one-source (Mutex a) (Thread b) h = absurd (false≢true h)
one-source (Mutex a) (Exit b) h = absurd (false≢true h)
one-source (Exit a) (Thread b) h = absurd (false≢true h)
one-source (Exit a) (Mutex b) h = absurd (false≢true h)

same-number : (a : ℕ) → (a == a) ≡ true
same-number a = grind arith

pub same-source : (a : Source) → is_source a a ≡ true
same-source (Thread a) = same-number a
same-source (Mutex a) = same-number a
same-source (Exit a) = same-number a
same-source (Word a) = same-number a

other-source : (a b c : Source) → a ≡ b → c ≢ b → is_source a c ≡ false
other-source a b c e n = by (is_source a c) refl
  where
    by : (x : Bool) → is_source a c ≡ x → is_source a c ≡ false
    by false f = f
    by true f = absurd (n (sym (one-source a c f) ∙ e))

-- what the first row of a source says
pub known-at : (rows : List Row) (i : ℕ) (row : Row) (s : Source) (u : ℕ) → slice_get rows i ≡ Some row → is_source row.source s ≡ true → ((k : ℕ) (other : Row) → k < i → slice_get rows k ≡ Some other → is_source other.source s ≡ false) → known_by rows s u ≡ seen_by row.clock u
known-at [] i row s u there is before = absurd (let e : None ≡ Some row = there in cc)
known-at (x ∷ rows) zero row s u there is before =
    let e : x ≡ row = some-injective there in
    ap (λ (b : Bool). cond b (seen_by x.clock) (known_by rows s) u) (ap (λ (r : Row). is_source r.source s) e ∙ is) ∙ ap (λ (r : Row). seen_by r.clock u) e
known-at (x ∷ rows) (suc i) row s u there is before =
    ap (λ (b : Bool). cond b (seen_by x.clock) (known_by rows s) u) (before 0 x (omega arith) refl)
    ∙ known-at rows i row s u there is (λ k other less h. before (suc k) other (omega arith) h)

-- a source with no row
pub known-nowhere : (rows : List Row) (s : Source) (u : ℕ) → ((k : ℕ) (row : Row) → slice_get rows k ≡ Some row → is_source row.source s ≡ false) → known_by rows s u ≡ 0
known-nowhere [] s u none = refl
known-nowhere (x ∷ rows) s u none =
    ap (λ (b : Bool). cond b (seen_by x.clock) (known_by rows s) u) (none 0 x refl)
    ∙ known-nowhere rows s u (λ k row h. none (suc k) row h)

-- another clock in the first row of a source
set-own : (rows : List Row) (i : ℕ) (old new : Row) (s : Source) (u : ℕ) → slice_get rows i ≡ Some old → is_source new.source s ≡ true → ((k : ℕ) (other : Row) → k < i → slice_get rows k ≡ Some other → is_source other.source s ≡ false) → known_by (slice_set rows i new) s u ≡ seen_by new.clock u
set-own [] i old new s u there is before = absurd (let e : None ≡ Some old = there in cc)
set-own (x ∷ rows) zero old new s u there is before = ap (λ (b : Bool). cond b (seen_by new.clock) (known_by rows s) u) is
set-own (x ∷ rows) (suc i) old new s u there is before =
    ap (λ (b : Bool). cond b (seen_by x.clock) (known_by (slice_set rows i new) s) u) (before 0 x (omega arith) refl)
    ∙ set-own rows i old new s u there is (λ k other less h. before (suc k) other (omega arith) h)

either : (f g h : ℕ → ℕ) (u : ℕ) (b : Bool) → g u ≡ h u → cond b f g u ≡ cond b f h u
either f g h u true e = refl
either f g h u false e = e

set-other : (rows : List Row) (i : ℕ) (old new : Row) (s : Source) (u : ℕ) → slice_get rows i ≡ Some old → is_source new.source s ≡ false → is_source old.source s ≡ false → known_by (slice_set rows i new) s u ≡ known_by rows s u
set-other [] i old new s u there is was = absurd (let e : None ≡ Some old = there in cc)
set-other (x ∷ rows) zero old new s u there is was =
    let e : x ≡ old = some-injective there in
    ap (λ (b : Bool). cond b (seen_by new.clock) (known_by rows s) u) is ∙ sym (ap (λ (b : Bool). cond b (seen_by x.clock) (known_by rows s) u) (ap (λ (r : Row). is_source r.source s) e ∙ was))
set-other (x ∷ rows) (suc i) old new s u there is was = either _ _ _ u (is_source x.source s) (set-other rows i old new s u there is was)

pub keeps-at : (rows : List Row) (i : ℕ) (old new : Row) (s : Source) (past : Clock) → slice_get rows i ≡ Some old → new.source ≡ old.source → new.clock ≡ past → IsPlace rows s (Some i) → Keeps (known_by rows) s past (known_by (slice_set rows i new))
keeps-at rows i old new s past there kept clock place =
    let is = place.0 old there in
    let own : old.source ≡ s = one-source old.source s is in
    record {
      learnt = λ u. set-own rows i old new s u there (ap (λ (x : Source). is_source x s) kept ∙ is) place.1 ∙ ap (λ (c : Clock). seen_by c u) clock;
      others = λ other ne u. set-other rows i old new other u there (other-source new.source s other (kept ∙ own) ne) (other-source old.source s other own ne);
    }

pub passes-at : (rows : List Row) (i : ℕ) (old new : Row) (s : Source) (past : Clock) → slice_get rows i ≡ Some old → new.source ≡ old.source → IsJoined (seen_by old.clock) (seen_by past) (seen_by new.clock) → IsPlace rows s (Some i) → Passes (known_by rows) s past (known_by (slice_set rows i new))
passes-at rows i old new s past there kept joined place =
    let is = place.0 old there in
    let own : old.source ≡ s = one-source old.source s is in
    record {
      learnt = λ u. set-own rows i old new s u there (ap (λ (x : Source). is_source x s) kept ∙ is) place.1 ∙ (joined u ∙ ap (λ (n : ℕ). max n (seen_by past u)) (sym (known-at rows i old s u there is place.1)));
      others = λ other ne u. set-other rows i old new other u there (other-source new.source s other (kept ∙ own) ne) (other-source old.source s other own ne);
    }

-- one row more
push-own : (rows : List Row) (new : Row) (s : Source) (u : ℕ) → is_source new.source s ≡ true → ((k : ℕ) (row : Row) → slice_get rows k ≡ Some row → is_source row.source s ≡ false) → known_by (rows ++ new ∷ []) s u ≡ seen_by new.clock u
push-own [] new s u is none = ap (λ (b : Bool). cond b (seen_by new.clock) (λ _. 0) u) is
push-own (x ∷ rows) new s u is none =
    ap (λ (b : Bool). cond b (seen_by x.clock) (known_by (rows ++ new ∷ []) s) u) (none 0 x refl)
    ∙ push-own rows new s u is (λ k row h. none (suc k) row h)

push-other : (rows : List Row) (new : Row) (s : Source) (u : ℕ) → is_source new.source s ≡ false → known_by (rows ++ new ∷ []) s u ≡ known_by rows s u
push-other [] new s u is = ap (λ (b : Bool). cond b (seen_by new.clock) (λ _. 0) u) is
push-other (x ∷ rows) new s u is = either _ _ _ u (is_source x.source s) (push-other rows new s u is)

max-none : (n m : ℕ) → m ≡ 0 → n ≡ max m n
max-none n m e = grind (arith, e)

pub passes-new : (rows : List Row) (new : Row) (s : Source) (past : Clock) → new.source ≡ s → new.clock ≡ past → IsPlace rows s None → Passes (known_by rows) s past (known_by (rows ++ new ∷ []))
passes-new rows new s past own clock none = record {
  learnt = λ u. push-own rows new s u (ap (λ (x : Source). is_source x s) own ∙ same-source s) none ∙ (ap (λ (c : Clock). seen_by c u) clock ∙ max-none (seen_by past u) (known_by rows s u) (known-nowhere rows s u none));
  others = λ other ne u. push-other rows new other u (other-source new.source s other own ne);
}

pub keeps-new : (rows : List Row) (new : Row) (s : Source) (past : Clock) → new.source ≡ s → new.clock ≡ past → IsPlace rows s None → Keeps (known_by rows) s past (known_by (rows ++ new ∷ []))
keeps-new rows new s past own clock none = record {
  learnt = λ u. push-own rows new s u (ap (λ (x : Source). is_source x s) own ∙ same-source s) none ∙ ap (λ (c : Clock). seen_by c u) clock;
  others = λ other ne u. push-other rows new other u (other-source new.source s other own ne);
}

-- ---- words have clocks of their own

module _ (old new : List Row) (words : List (ℕ × Clock)) (past : Clock) where
  pub keeps-in : (t : ℕ) → Keeps (known_by old) (Thread t) past (known_by new) → Keeps (known_in old words) (Thread t) past (known_in new words)
  keeps-in t h = record { learnt = h.learnt; others = others }
    where
      others : (other : Source) → other ≢ Thread t → (u : ℕ) → known_in new words other u ≡ known_in old words other u
      others (Word w) ne u = refl
      others (Thread v) ne u = h.others (Thread v) ne u
      others (Mutex m) ne u = h.others (Mutex m) ne u
      others (Exit v) ne u = h.others (Exit v) ne u

  pub passes-in : (s : Source) → ((w : ℕ) → s ≡ Word w → ⊥) → Passes (known_by old) s past (known_by new) → Passes (known_in old words) s past (known_in new words)
  passes-in s apart h = record { learnt = learnt s apart h.learnt; others = others }
    where
      learnt : (s : Source) → ((w : ℕ) → s ≡ Word w → ⊥) → IsJoined (known_by old s) (seen_by past) (known_by new s) → IsJoined (known_in old words s) (seen_by past) (known_in new words s)
      learnt (Word w) apart h = absurd (apart w refl)
      learnt (Thread v) apart h = h
      learnt (Mutex m) apart h = h
      learnt (Exit v) apart h = h

      others : (other : Source) → other ≢ s → (u : ℕ) → known_in new words other u ≡ known_in old words other u
      others (Word w) ne u = refl
      others (Thread v) ne u = h.others (Thread v) ne u
      others (Mutex m) ne u = h.others (Mutex m) ne u
      others (Exit v) ne u = h.others (Exit v) ne u

-- a source that is one of these is no word
pub no-word : (s : Source) → ((t : ℕ) × (s ≡ Thread t)) ⊎ (((m : ℕ) × (s ≡ Mutex m)) ⊎ ((t : ℕ) × (s ≡ Exit t))) → (w : ℕ) → s ≡ Word w → ⊥
no-word s (inl (t, e)) w f = let g : Thread t ≡ Word w = sym e ∙ f in cc
no-word s (inr (inl (m, e))) w f = let g : Mutex m ≡ Word w = sym e ∙ f in cc
no-word s (inr (inr (t, e))) w f = let g : Exit t ≡ Word w = sym e ∙ f in cc

-- a word learns
pub passes-word : (rows : List Row) (old new : List (ℕ × Clock)) (w : ℕ) (past clock : Clock) → lookup (nat_eq w) new ≡ Some clock → ((v : ℕ) → nat_eq w v ≡ false → lookup (nat_eq v) new ≡ lookup (nat_eq v) old) → IsJoined (known_of (lookup (nat_eq w) old)) (seen_by past) (seen_by clock)
    → Passes (known_in rows old) (Word w) past (known_in rows new)
passes-word rows old new w past clock here rest joined = record { learnt = λ u. ap (λ (o : Option Clock). known_of o u) here ∙ joined u; others = others }
  where
    others : (other : Source) → other ≢ Word w → (u : ℕ) → known_in rows new other u ≡ known_in rows old other u
    others (Word v) ne u = ap (λ (o : Option Clock). known_of o u) (rest v (unequal (nat_eq w v) refl))
      where
        unequal : (b : Bool) → nat_eq w v ≡ b → nat_eq w v ≡ false
        unequal false e = e
        unequal true e = absurd (ne (ap Word (sym (eqb-true w v e))))
    others (Thread v) ne u = refl
    others (Mutex m) ne u = refl
    others (Exit v) ne u = refl

-- a row that knows nothing, of a source that had none
pub known-new : (rows : List Row) (new : Row) (s : Source) → new.source ≡ s → ((u : ℕ) → seen_by new.clock u ≡ 0) → IsPlace rows s None → (other : Source) (u : ℕ) → known_by (rows ++ new ∷ []) other u ≡ known_by rows other u
known-new rows new s own nothing none other u = by (is_source new.source other) refl
  where
    by : (b : Bool) → is_source new.source other ≡ b → known_by (rows ++ new ∷ []) other u ≡ known_by rows other u
    by false e = push-other rows new other u e
    by true e =
        let same : s ≡ other = sym own ∙ one-source new.source other e in
        let here : IsPlace rows other None = subst (λ (x : Source). IsPlace rows x None) same none in
        push-own rows new other u e here ∙ (nothing u ∙ sym (known-nowhere rows other u here))

-- the row at the place of a source has another clock
set-source : (rows : List Row) (i : ℕ) (old new : Row) → slice_get rows i ≡ Some old → new.source ≡ old.source → (k : ℕ) (row : Row) → slice_get (slice_set rows i new) k ≡ Some row → (was : Row) × (slice_get rows k ≡ Some was) × (row.source ≡ was.source)
set-source [] i old new there kept k row h = absurd (let e : None ≡ Some old = there in cc)
set-source (x ∷ rows) zero old new there kept zero row h = (x, refl, ap (λ (r : Row). r.source) (sym (some-injective h)) ∙ (kept ∙ ap (λ (r : Row). r.source) (sym (some-injective there))))
set-source (x ∷ rows) zero old new there kept (suc k) row h = (row, h, refl)
set-source (x ∷ rows) (suc i) old new there kept zero row h = (x, refl, ap (λ (r : Row). r.source) (sym (some-injective h)))
set-source (x ∷ rows) (suc i) old new there kept (suc k) row h = set-source rows i old new there kept k row h

pub own-kept : (rows : List Row) (i t : ℕ) (old new : Row) → slice_get rows i ≡ Some old → new.source ≡ old.source → IsOwn rows t i → IsOwn (slice_set rows i new) t i
own-kept rows i t old new there kept own = record {
  there = subst (λ (n : ℕ). i < n) (sym (length-set rows i new)) own.there;
  first = (
    λ row h. let was = set-source rows i old new there kept i row h in ap (λ (s : Source). is_source s (Thread t)) was.2 ∙ own.first.0 was.0 was.1,
    λ k row less h. let was = set-source rows i old new there kept k row h in ap (λ (s : Source). is_source s (Thread t)) was.2 ∙ own.first.1 k was.0 less was.1,
  );
}

-- the row that stands for none
abbrev pub blank : Row
blank = record { source = Thread 0; clock = record { seen = [] } }

pub none-more : (rows : List Row) (s : Source) (place : ℕ) → ((k : ℕ) (row : Row) → k < place → slice_get rows k ≡ Some row → is_source row.source s ≡ false) → is_source (slice_index_or rows place blank).source s ≡ false → (k : ℕ) (row : Row) → k < place + 1 → slice_get rows k ≡ Some row → is_source row.source s ≡ false
none-more rows s place before here k row less h = by (k == place) refl
  where
    by : (b : Bool) → (k == place) ≡ b → is_source row.source s ≡ false
    by true e =
        let same : k ≡ place = eqb-true k place e in
        ap (λ (r : Row). is_source r.source s) (sym (get_or_from_slice_get rows k row blank h) ∙ ap (λ (n : ℕ). slice_index_or rows n blank) same) ∙ here
    by false e = before k row (grind (arith, e, less)) h

-- an entry of the clock that knows nothing
pub zero-entry : (u : ℕ) → slice_index_or (replicate 16 zero) u zero ≡ zero
zero-entry u = zeros 16 u
  where
    zeros : (n u : ℕ) → slice_index_or (replicate n zero) u zero ≡ zero
    zeros zero u = refl
    zeros (suc n) zero = refl
    zeros (suc n) (suc u) = zeros n u
