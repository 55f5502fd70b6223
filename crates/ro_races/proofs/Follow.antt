-- One step more of a run that is checked.
use Rattle.std.specs.Prelude.{◌≡◌, ◌≢◌, ℕ, zero, suc, ◌+◌, ◌-◌, ◌<◌, ◌≤◌, ◌⊎◌, ◌↔◌, ◌&&◌, ◌||◌, ◌==◌, not, cond, Bool, true, false, nat_lt, List, [], ◌∷◌, ◌++◌, take, Option, Some, None, Vec, slice_get, slice_index, get_or}
use Rattle.std.specs.Option.{option_and_then}
use Rattle.std.specs.declared.alloc.Global.{Global}
use Rattle.std.proofs.Common.{refl, sym, ap, ap₂, ◌∙◌, subst, arith, inl, inr, ⊎_elim}
use Rattle.std.proofs.lemmas.Bool.{true≢false, false≢true, ltb-true, eqb-true}
use Rattle.std.proofs.lemmas.Option.{slice_get_within, slice_get-get_or}
use Rattle.ro_pages.specs.Bytes.{Span, within}
use Rattle.ro_plain.specs.Machine.{Program, Machine, opening, step, run}
use Rattle.ro_plain.specs.Accesses.{Accesses, no_access, accesses, touches, conflict_at}
use Rattle.ro_plain.specs.Order.{Sync, Nothing, sync_of, sync_at, accesses_at, HappensBefore, in_thread}
use Rattle.ro_plain.proofs.Calls.{some-injective}
use Rattle.ro_plain.proofs.Swap.{at-both, run-append}
use Rattle.ro_machine.specs.Seen.{PlainOf, machine_of, Steps, SameMachine, HasNoStep}
use Rattle.ro_machine.specs.declared.watching.Watched.{Watched}
use Rattle.ro_machine.specs.Watched.{span_of, sync_of_relation, IsAsOne, Sees}
use Rattle.ro_races.specs.declared.marks.Clock.{Clock}
use Rattle.ro_races.specs.declared.sources.Source.{Source}
use Rattle.ro_races.specs.declared.sources.Source.TheVariants.{Thread, Mutex, Exit, Word}
use Rattle.ro_races.specs.declared.sources.Row.{Row}
use Rattle.ro_races.specs.declared.atomics.Atomics.{Atomics}
use Rattle.ro_races.specs.declared.shadows.Hit.{Hit}
use Rattle.ro_races.specs.declared.found.Found.{Found}
use Rattle.ro_races.specs.declared.found.Found.TheVariants.{NoRace, Pair}
use Rattle.ro_races.specs.declared.checking.Checker.{Checker}
use Rattle.ro_races.specs.First.{IsRace}
use Rattle.ro_races.specs.Clocks.{Clock as ClockOf, IsStepped, learns_from, passes_to, Knows, UpTo, Feeds, Past, PastOf}
use Rattle.ro_races.specs.Seen.{seen_by, is_source, known_by, known_in, Lore, Keeps, IsPast, PassesOn}
use Rattle.ro_races.specs.Shadows.{Shadow, marks_at, no_bytes, plainly, as_one, reads_of, writes_of, Marks, MarksAll, IsHit, IsFirstOf, AnyHit, AnyConflict}
use Rattle.ro_races.specs.Follows.{MarkedBy, reads_plainly, writes_plainly, reads_as_one, writes_as_one, IsFoundIn, Follows, notes, LacksStep}
use Rattle.ro_races.proofs.Before.{before-is, fed, feeds-own, feeds-passed}
use Rattle.ro_races.proofs.Knowing.{knows-joined, knows-same, knows-stepped, knows-more, knows-again, knows-still}
use Rattle.ro_races.proofs.Rows.{one-source, same-source}
use Rattle.ro_races.proofs.Tables.{eq-told, bounds}

-- ---- marks

below-next : (i k : ℕ) → i < suc k → i ≢ k → i < k
below-next i k h n = grind (arith, h, n)

module _ (threads : List ℕ) (k t : ℕ) (touch : ℕ → Bool) (f g : ClockOf) (there : slice_get threads k ≡ Some t) (old : MarkedBy threads k touch f) where
  pub marked-more : touch k ≡ true → IsStepped f t k g → MarkedBy threads (suc k) touch g
  marked-more here step = record { all = all; only = λ u. ⊎_elim (mine u) (λ n. theirs u n (old.only u)) (eq-told u t) }
    where
      earlier : (place u : ℕ) → place < k → slice_get threads place ≡ Some u → touch place ≡ true → place < g u
      earlier place u less at tch = ⊎_elim (λ e. let v : g u ≡ suc k = ap g e ∙ step.own in omega arith) (λ n. let v = step.others u n in let low = old.all place u less at tch in omega arith) (eq-told u t)

      all : (place u : ℕ) → place < suc k → slice_get threads place ≡ Some u → touch place ≡ true → place < g u
      all place u less at tch = ⊎_elim (λ e. let v : g u ≡ suc k = ap g (some-injective (sym at ∙ (ap (slice_get threads) e ∙ there))) ∙ step.own in omega arith) (λ n. earlier place u (below-next place k less n) at tch) (eq-told place k)

      mine : (u : ℕ) → u ≡ t → (g u ≡ 0) ⊎ ((place : ℕ) × (g u ≡ suc place) × (place < suc k) × (slice_get threads place ≡ Some u) × (touch place ≡ true))
      mine u e = inr (k, ap g e ∙ step.own, omega arith, there ∙ ap Some (sym e), here)

      theirs : (u : ℕ) → u ≢ t → (f u ≡ 0) ⊎ ((place : ℕ) × (f u ≡ suc place) × (place < k) × (slice_get threads place ≡ Some u) × (touch place ≡ true)) → (g u ≡ 0) ⊎ ((place : ℕ) × (g u ≡ suc place) × (place < suc k) × (slice_get threads place ≡ Some u) × (touch place ≡ true))
      theirs u n (inl z) = inl (step.others u n ∙ z)
      theirs u n (inr w) = inr (w.0, step.others u n ∙ w.1, (let less = w.2 in omega arith), w.3, w.4)

  pub marked-same : touch k ≡ false → ((u : ℕ) → g u ≡ f u) → MarkedBy threads (suc k) touch g
  marked-same not same = record { all = all; only = λ u. by u (old.only u) }
    where
      all : (place u : ℕ) → place < suc k → slice_get threads place ≡ Some u → touch place ≡ true → place < g u
      all place u less at tch = ⊎_elim (λ e. absurd (true≢false (sym tch ∙ (ap touch e ∙ not)))) (λ n. let v = same u in let low = old.all place u (below-next place k less n) at tch in omega arith) (eq-told place k)

      by : (u : ℕ) → (f u ≡ 0) ⊎ ((place : ℕ) × (f u ≡ suc place) × (place < k) × (slice_get threads place ≡ Some u) × (touch place ≡ true)) → (g u ≡ 0) ⊎ ((place : ℕ) × (g u ≡ suc place) × (place < suc k) × (slice_get threads place ≡ Some u) × (touch place ≡ true))
      by u (inl z) = inl (same u ∙ z)
      by u (inr w) = inr (w.0, same u ∙ w.1, (let less = w.2 in omega arith), w.3, w.4)

  pub marked-next : (b : Bool) → touch k ≡ b → (b ≡ true → IsStepped f t k g) → (b ≡ false → (u : ℕ) → g u ≡ f u) → MarkedBy threads (suc k) touch g
  marked-next true e h n = marked-more e (h refl)
  marked-next false e h n = marked-same e (n refl)

-- marks of two stretches
or-none : (b : Bool) → (b || false) ≡ b
or-none true = refl
or-none false = refl

or-parts : (a b : Bool) → (a || b) ≡ false → (a ≡ false) × (b ≡ false)
or-parts true b h = absurd (true≢false h)
or-parts false b h = (refl, h)

two-inside : (a b c : Shadow) (one two : Span) (t p x : ℕ) → Marks a one t p b → Marks b two t p c → (within one x || within two x) ≡ true → IsStepped (marks_at a x) t p (marks_at c x)
two-inside a b c one two t p x f g h = by (within one x) (within two x) refl refl h
  where
    by : (d e : Bool) → within one x ≡ d → within two x ≡ e → (d || e) ≡ true → IsStepped (marks_at a x) t p (marks_at c x)
    by true true d e h = let m = f.inside x d in let n = g.inside x e in record { own = n.own; others = λ u ne. n.others u ne ∙ m.others u ne }
    by true false d e h = let m = f.inside x d in record { own = g.outside x e t ∙ m.own; others = λ u ne. g.outside x e u ∙ m.others u ne }
    by false true d e h = let n = g.inside x e in record { own = n.own; others = λ u ne. n.others u ne ∙ f.outside x d u }
    by false false d e h = absurd (false≢true h)

-- ---- what a step accesses by plain accesses, and what as one

and-true : (b : Bool) → (b && true) ≡ b
and-true true = refl
and-true false = refl

and-false : (b : Bool) → (b && false) ≡ false
and-false true = refl
and-false false = refl

in-none : (x : ℕ) → within (span_of no_bytes) x ≡ false
in-none x = by (within (span_of no_bytes) x) refl
  where
    by : (b : Bool) → within (span_of no_bytes) x ≡ b → within (span_of no_bytes) x ≡ false
    by false e = e
    by true e = absurd (let f = bounds (span_of no_bytes) x e in omega (arith, f.0, f.1))

in-empty : (place count x : ℕ) → count ≡ 0 → within (record { place = place; count = count }) x ≡ false
in-empty place count x z = by (within (record { place = place; count = count }) x) refl
  where
    by : (b : Bool) → within (record { place = place; count = count }) x ≡ b → within (record { place = place; count = count }) x ≡ false
    by false e = e
    by true e = absurd (let f = bounds (record { place = place; count = count }) x e in omega (arith, z, f.0, f.1))

-- by the tests of a byte: whether it is loaded, stored or the instruction's, and whether it is of the word that is accessed as one
plain-read : (l c o : Bool) → (l ≡ true → o ≡ true) → (c ≡ true → o ≡ false) → ((l || c) && not o) ≡ c
plain-read l true true f g = absurd (true≢false (g refl))
plain-read true true false f g = refl
plain-read false true false f g = refl
plain-read l false true f g = and-false (l || false)
plain-read true false false f g = absurd (false≢true (f refl))
plain-read false false false f g = refl

one-read : (l c o : Bool) → (l ≡ true → o ≡ true) → (c ≡ true → o ≡ false) → ((l || c) && o) ≡ l
one-read l true true f g = absurd (true≢false (g refl))
one-read true c false f g = absurd (false≢true (f refl))
one-read false true false f g = refl
one-read true false true f g = refl
one-read false false true f g = refl
one-read false false false f g = refl

plain-write : (w o : Bool) → (w ≡ true → o ≡ true) → (w && not o) ≡ false
plain-write true true f = refl
plain-write true false f = absurd (false≢true (f refl))
plain-write false o f = refl

one-write : (w o : Bool) → (w ≡ true → o ≡ true) → (w && o) ≡ w
one-write true true f = refl
one-write true false f = absurd (false≢true (f refl))
one-write false o f = refl

abbrev plainly_by : Bool → Watched → Watched
plainly_by b w = cond b w (record w { loaded = no_bytes; stored = no_bytes })

abbrev as_one_by : Bool → Watched → Watched
as_one_by b w = cond b (record w { loaded = no_bytes; code = no_bytes; stored = no_bytes }) (record w { code = no_bytes })

module _ (w : Watched) (a : Accesses) (x : ℕ) (reads : touches a.reads x ≡ (within (span_of w.loaded) x || within (span_of w.code) x)) (writes : touches a.writes x ≡ within (span_of w.stored) x) (atomic : touches a.atomic x ≡ within (span_of w.atomic) x) (alone : 0 < w.atomic.count → IsAsOne w) where
  none-one : w.atomic.count ≡ 0 → touches a.atomic x ≡ false
  none-one z = atomic ∙ in-empty w.atomic.place w.atomic.count x z

  some : (w.atomic.count == 0) ≡ false → 0 < w.atomic.count
  some e = grind (arith, e)

  reads-plain : (b : Bool) → (w.atomic.count == 0) ≡ b → reads_plainly a x ≡ (within (span_of (plainly_by b w).loaded) x || within (span_of (plainly_by b w).code) x)
  reads-plain true e =
      let z = eqb-true w.atomic.count 0 e in
      ap (λ (o : Bool). touches a.reads x && not o) (none-one z) ∙ (and-true (touches a.reads x) ∙ reads)
  reads-plain false e =
      let h = alone (some e) in
      ap₂ (λ (r o : Bool). r && not o) reads atomic
      ∙ (plain-read (within (span_of w.loaded) x) (within (span_of w.code) x) (within (span_of w.atomic) x) (h.loads x) (h.apart x)
      ∙ sym (ap (λ (n : Bool). n || within (span_of w.code) x) (in-none x)))

  writes-plain : (b : Bool) → (w.atomic.count == 0) ≡ b → writes_plainly a x ≡ within (span_of (plainly_by b w).stored) x
  writes-plain true e =
      let z = eqb-true w.atomic.count 0 e in
      ap (λ (o : Bool). touches a.writes x && not o) (none-one z) ∙ (and-true (touches a.writes x) ∙ writes)
  writes-plain false e =
      let h = alone (some e) in
      ap₂ (λ (r o : Bool). r && not o) writes atomic ∙ (plain-write (within (span_of w.stored) x) (within (span_of w.atomic) x) (h.stores x) ∙ sym (in-none x))

  reads-one : (b : Bool) → (w.atomic.count == 0) ≡ b → reads_as_one a x ≡ (within (span_of (as_one_by b w).loaded) x || within (span_of (as_one_by b w).code) x)
  reads-one true e =
      let z = eqb-true w.atomic.count 0 e in
      ap (λ (o : Bool). touches a.reads x && o) (none-one z) ∙ (and-false (touches a.reads x) ∙ sym (ap₂ (λ (m n : Bool). m || n) (in-none x) (in-none x)))
  reads-one false e =
      let h = alone (some e) in
      ap₂ (λ (r o : Bool). r && o) reads atomic
      ∙ (one-read (within (span_of w.loaded) x) (within (span_of w.code) x) (within (span_of w.atomic) x) (h.loads x) (h.apart x)
      ∙ sym (ap (λ (n : Bool). within (span_of w.loaded) x || n) (in-none x) ∙ or-none (within (span_of w.loaded) x)))

  writes-one : (b : Bool) → (w.atomic.count == 0) ≡ b → writes_as_one a x ≡ within (span_of (as_one_by b w).stored) x
  writes-one true e =
      let z = eqb-true w.atomic.count 0 e in
      ap (λ (o : Bool). touches a.writes x && o) (none-one z) ∙ (and-false (touches a.writes x) ∙ sym (in-none x))
  writes-one false e =
      let h = alone (some e) in
      ap₂ (λ (r o : Bool). r && o) writes atomic ∙ one-write (within (span_of w.stored) x) (within (span_of w.atomic) x) (h.stores x)

-- ---- conflicts

-- by what an earlier step read and wrote, and a later one
abbrev clash : (ri wi rk wk : Bool) → Bool
clash ri wi rk wk = (wi && (rk || wk)) || (ri && wk)

clash-write : (ri wi rk wk : Bool) → wi ≡ true → (rk || wk) ≡ true → clash ri wi rk wk ≡ true
clash-write ri true true wk e h = refl
clash-write ri true false true e h = refl
clash-write ri true false false e h = absurd (false≢true h)
clash-write ri false rk wk e h = absurd (false≢true e)

clash-read : (ri wi rk wk : Bool) → ri ≡ true → wk ≡ true → clash ri wi rk wk ≡ true
clash-read true true true wk e h = refl
clash-read true true false true e h = refl
clash-read true false rk true e h = refl
clash-read false wi rk wk e h = absurd (false≢true e)
clash-read true true false false e h = absurd (false≢true h)
clash-read true false rk false e h = absurd (false≢true h)

clash-parts : (ri wi rk wk : Bool) → clash ri wi rk wk ≡ true → ((wi ≡ true) × (rk ≡ true)) ⊎ (((wi ≡ true) × (wk ≡ true)) ⊎ ((ri ≡ true) × (wk ≡ true)))
clash-parts ri true true wk h = inl (refl, refl)
clash-parts ri true false true h = inr (inl (refl, refl))
clash-parts true true false false h = absurd (false≢true h)
clash-parts false true false false h = absurd (false≢true h)
clash-parts true false rk true h = inr (inr (refl, refl))
clash-parts true false rk false h = absurd (false≢true h)
clash-parts false false rk wk h = absurd (false≢true h)

four : (f : Bool → Bool → Bool → Bool → Bool) (a b c d e g h i : Bool) → a ≡ e → b ≡ g → c ≡ h → d ≡ i → f a b c d ≡ f e g h i
four f a b c d e g h i p q r s = ap₂ (λ (x y : Bool). f x y c d) p q ∙ ap₂ (λ (x y : Bool). f e g x y) r s

no-clash : (ri wi : Bool) → clash ri wi false false ≡ false
no-clash true true = refl
no-clash true false = refl
no-clash false true = refl
no-clash false false = refl

-- two steps conflict where plain accesses of the earlier one clash with any of the later one, or accesses as one with plain ones
conflict-any : (ri wi ai rk wk ak : Bool) → (not (ai && ak) && clash ri wi rk wk) ≡ true → (clash (ri && not ai) (wi && not ai) rk wk ≡ true) ⊎ (clash (ri && ai) (wi && ai) (rk && not ak) (wk && not ak) ≡ true)
conflict-any ri wi false rk wk ak h = inl (four clash (ri && true) (wi && true) rk wk ri wi rk wk (and-true ri) (and-true wi) refl refl ∙ h)
conflict-any ri wi true rk wk false h = inr (four clash (ri && true) (wi && true) (rk && true) (wk && true) ri wi rk wk (and-true ri) (and-true wi) (and-true rk) (and-true wk) ∙ h)
conflict-any ri wi true rk wk true h = absurd (false≢true h)

conflict-plain : (ri wi ai rk wk ak : Bool) → clash (ri && not ai) (wi && not ai) rk wk ≡ true → (not (ai && ak) && clash ri wi rk wk) ≡ true
conflict-plain ri wi false rk wk ak h = sym (four clash (ri && true) (wi && true) rk wk ri wi rk wk (and-true ri) (and-true wi) refl refl) ∙ h
conflict-plain ri wi true rk wk ak h = absurd (false≢true (sym (four clash (ri && false) (wi && false) rk wk false false rk wk (and-false ri) (and-false wi) refl refl) ∙ h))

conflict-one : (ri wi ai rk wk ak : Bool) → clash (ri && ai) (wi && ai) (rk && not ak) (wk && not ak) ≡ true → (not (ai && ak) && clash ri wi rk wk) ≡ true
conflict-one ri wi true rk wk false h = sym (four clash (ri && true) (wi && true) (rk && true) (wk && true) ri wi rk wk (and-true ri) (and-true wi) (and-true rk) (and-true wk)) ∙ h
conflict-one ri wi true rk wk true h =
    absurd (false≢true (sym (four clash (ri && true) (wi && true) (rk && false) (wk && false) (ri && true) (wi && true) false false refl refl (and-false rk) (and-false wk) ∙ no-clash (ri && true) (wi && true)) ∙ h))
conflict-one ri wi false rk wk ak h = absurd (false≢true (sym (four clash (ri && false) (wi && false) (rk && not ak) (wk && not ak) false false (rk && not ak) (wk && not ak) (and-false ri) (and-false wi) refl refl) ∙ h))

or-left : (a b : Bool) → a ≡ true → (a || b) ≡ true
or-left true b h = refl
or-left false b h = absurd (false≢true h)

or-right : (a b : Bool) → b ≡ true → (a || b) ≡ true
or-right true b h = refl
or-right false b h = h

or-either : (a b : Bool) → (a || b) ≡ true → (a ≡ true) ⊎ (b ≡ true)
or-either true b h = inl refl
or-either false b h = inr h

not-below : (i c : ℕ) → (i < c → ⊥) → c ≤ i
not-below i c h = by (nat_lt i c) refl
  where
    by : (b : Bool) → nat_lt i c ≡ b → c ≤ i
    by true e = absurd (h (ltb-true i c e))
    by false e = grind (arith, e)

module _ (program : Program) (threads : List ℕ) (k t : ℕ) (there : slice_get threads k ≡ Some t) (clock : ClockOf) (knows : Knows program threads clock (λ i. HappensBefore program threads i k)) where
  -- what a hit stands for
  record OfHit (touch : ℕ → Bool) (mark : ℕ) : Type 0 where
    pub place : ℕ
    pub mark_is : mark ≡ suc place
    pub early : place < k
    pub touched : touch place ≡ true
    pub apart : slice_get threads place ≢ slice_get threads k
    pub unordered : HappensBefore program threads place k → ⊥

  of-hit : (table : Shadow) (touch : ℕ → Bool) (span : Span) (mark byte : ℕ) → MarkedBy threads k touch (marks_at table byte) → IsHit table span clock mark byte → OfHit touch mark
  of-hit table touch span mark byte marked h = by (marked.only h.thread)
    where
      by : (marks_at table byte h.thread ≡ 0) ⊎ ((place : ℕ) × (marks_at table byte h.thread ≡ suc place) × (place < k) × (slice_get threads place ≡ Some h.thread) × (touch place ≡ true)) → OfHit touch mark
      by (inl z) = absurd (let a = h.beyond in let b = h.mark_is in omega arith)
      by (inr w) =
          let not : HappensBefore program threads w.0 k → ⊥ = (λ hb. let less = (knows w.0 h.thread w.3).1 hb in let a = h.beyond in let b = h.mark_is in let c = w.1 in omega arith) in
          record {
            place = w.0;
            mark_is = h.mark_is ∙ w.1;
            early = w.2;
            touched = w.4;
            apart = λ e. not (in_thread t w.2 (e ∙ there) there);
            unordered = not;
          }

  a-hit : (table : Shadow) (touch : ℕ → Bool) (span : Span) (i byte : ℕ) → MarkedBy threads k touch (marks_at table byte) → i < k → touch i ≡ true → (HappensBefore program threads i k → ⊥) → within span byte ≡ true → (mark : ℕ) × IsHit table span clock mark byte × (i < mark)
  a-hit table touch span i byte marked less tch not at =
      let u = get_or threads i 0 in
      let here : slice_get threads i ≡ Some u = slice_get-get_or threads i 0 (let w = slice_get_within threads k t there in omega arith) in
      let far = marked.all i u less here tch in
      let low = not-below i (clock u) (λ b. not ((knows i u here).0 b)) in
      (marks_at table byte u, record { thread = u; at = at; mark_is = refl; beyond = omega arith }, far)

  -- an earlier step whose accesses clash with those of this one, and that is not ordered before it
  record ClashOf (ri wi : (place byte : ℕ) → Bool) (rk wk : (byte : ℕ) → Bool) (mark byte : ℕ) : Type 0 where
    pub place : ℕ
    pub mark_is : mark ≡ suc place
    pub early : place < k
    pub apart : slice_get threads place ≢ slice_get threads k
    pub unordered : HappensBefore program threads place k → ⊥
    pub clashes : clash (ri place byte) (wi place byte) (rk byte) (wk byte) ≡ true

  -- the marks of some accesses of earlier steps, and the accesses of this one that clash with them
  module _ (w : Watched) (reads writes : Shadow) (ri wi : (place byte : ℕ) → Bool) (rk wk : (byte : ℕ) → Bool) (reads_are : (b : ℕ) → rk b ≡ (within (span_of w.loaded) b || within (span_of w.code) b)) (writes_are : (b : ℕ) → wk b ≡ within (span_of w.stored) b)
      (reads_marked : (byte : ℕ) → MarkedBy threads k (λ place. ri place byte) (marks_at reads byte)) (writes_marked : (byte : ℕ) → MarkedBy threads k (λ place. wi place byte) (marks_at writes byte)) where
    clash-by : (touch : ℕ → Bool) (mark byte : ℕ) → (h : OfHit touch mark) → clash (ri h.place byte) (wi h.place byte) (rk byte) (wk byte) ≡ true → ClashOf ri wi rk wk mark byte
    clash-by touch mark byte h c = record { place = h.place; mark_is = h.mark_is; early = h.early; apart = h.apart; unordered = h.unordered; clashes = c }

    of-write : (span : Span) (mark byte : ℕ) → IsHit writes span clock mark byte → (rk byte || wk byte) ≡ true → ClashOf ri wi rk wk mark byte
    of-write span mark byte h e =
        let r = of-hit writes (λ place. wi place byte) span mark byte (writes_marked byte) h in
        clash-by _ mark byte r (clash-write (ri r.place byte) (wi r.place byte) (rk byte) (wk byte) r.touched e)

    any-clash : (mark byte : ℕ) → AnyHit reads writes w clock mark byte → ClashOf ri wi rk wk mark byte
    any-clash mark byte (inl (inl h)) = of-write (span_of w.loaded) mark byte h (or-left _ _ (reads_are byte ∙ or-left _ _ h.at))
    any-clash mark byte (inl (inr h)) = of-write (span_of w.code) mark byte h (or-left _ _ (reads_are byte ∙ or-right _ _ h.at))
    any-clash mark byte (inr (inl h)) = of-write (span_of w.stored) mark byte h (or-right _ _ (writes_are byte ∙ h.at))
    any-clash mark byte (inr (inr h)) =
        let r = of-hit reads (λ place. ri place byte) (span_of w.stored) mark byte (reads_marked byte) h in
        clash-by _ mark byte r (clash-read (ri r.place byte) (wi r.place byte) (rk byte) (wk byte) r.touched (writes_are byte ∙ h.at))

    -- the hit of two steps that clash
    clash-any : (i byte : ℕ) → i < k → (HappensBefore program threads i k → ⊥) → clash (ri i byte) (wi i byte) (rk byte) (wk byte) ≡ true → (mark : ℕ) × AnyHit reads writes w clock mark byte × (i < mark)
    clash-any i byte less not c = by (clash-parts (ri i byte) (wi i byte) (rk byte) (wk byte) c)
      where
        by_read : wi i byte ≡ true → (within (span_of w.loaded) byte ≡ true) ⊎ (within (span_of w.code) byte ≡ true) → (mark : ℕ) × AnyHit reads writes w clock mark byte × (i < mark)
        by_read e (inl at) = let h = a-hit writes (λ place. wi place byte) (span_of w.loaded) i byte (writes_marked byte) less e not at in (h.0, inl (inl h.1), h.2)
        by_read e (inr at) = let h = a-hit writes (λ place. wi place byte) (span_of w.code) i byte (writes_marked byte) less e not at in (h.0, inl (inr h.1), h.2)

        by : ((wi i byte ≡ true) × (rk byte ≡ true)) ⊎ (((wi i byte ≡ true) × (wk byte ≡ true)) ⊎ ((ri i byte ≡ true) × (wk byte ≡ true))) → (mark : ℕ) × AnyHit reads writes w clock mark byte × (i < mark)
        by (inl p) = by_read p.0 (or-either (within (span_of w.loaded) byte) (within (span_of w.code) byte) (sym (reads_are byte) ∙ p.1))
        by (inr (inl p)) = let h = a-hit writes (λ place. wi place byte) (span_of w.stored) i byte (writes_marked byte) less p.0 not (sym (writes_are byte) ∙ p.1) in (h.0, inr (inl h.1), h.2)
        by (inr (inr p)) = let h = a-hit reads (λ place. ri place byte) (span_of w.stored) i byte (reads_marked byte) less p.0 not (sym (writes_are byte) ∙ p.1) in (h.0, inr (inr h.1), h.2)

  abbrev here : Accesses
  here = accesses_at program threads k

  module _ (w : Watched) (reads writes : Shadow) (atomics : Option Atomics) (reads_are : (b : ℕ) → touches here.reads b ≡ (within (span_of w.loaded) b || within (span_of w.code) b)) (writes_are : (b : ℕ) → touches here.writes b ≡ within (span_of w.stored) b)
      (plain_reads : (b : ℕ) → reads_plainly here b ≡ (within (span_of (plainly w).loaded) b || within (span_of (plainly w).code) b)) (plain_writes : (b : ℕ) → writes_plainly here b ≡ within (span_of (plainly w).stored) b)
      (reads_marked : (byte : ℕ) → MarkedBy threads k (λ place. reads_plainly (accesses_at program threads place) byte) (marks_at reads byte)) (writes_marked : (byte : ℕ) → MarkedBy threads k (λ place. writes_plainly (accesses_at program threads place) byte) (marks_at writes byte))
      (words_read : (byte : ℕ) → MarkedBy threads k (λ place. reads_as_one (accesses_at program threads place) byte) (marks_at (reads_of atomics) byte)) (words_written : (byte : ℕ) → MarkedBy threads k (λ place. writes_as_one (accesses_at program threads place) byte) (marks_at (writes_of atomics) byte)) where
    -- the race of a hit
    record RaceOf (mark byte : ℕ) : Type 0 where
      pub place : ℕ
      pub mark_is : mark ≡ suc place
      pub race : IsRace program threads place k byte

    race-by : (ri wi : (place byte : ℕ) → Bool) (rk wk : (byte : ℕ) → Bool) (mark byte : ℕ) → (c : ClashOf ri wi rk wk mark byte) → conflict_at (accesses_at program threads c.place) here byte ≡ true → RaceOf mark byte
    race-by ri wi rk wk mark byte c e = record { place = c.place; mark_is = c.mark_is; race = record { order = c.early; within = slice_get_within threads k t there; apart = c.apart; conflict = e; unordered = c.unordered } }

    any-race : (mark byte : ℕ) → AnyConflict reads writes atomics w clock mark byte → RaceOf mark byte
    any-race mark byte (inl h) =
        let c = any-clash w reads writes (λ place b. reads_plainly (accesses_at program threads place) b) (λ place b. writes_plainly (accesses_at program threads place) b) (λ b. touches here.reads b) (λ b. touches here.writes b) reads_are writes_are reads_marked writes_marked mark byte h in
        let one = accesses_at program threads c.place in
        race-by _ _ _ _ mark byte c (conflict-plain (touches one.reads byte) (touches one.writes byte) (touches one.atomic byte) (touches here.reads byte) (touches here.writes byte) (touches here.atomic byte) c.clashes)
    any-race mark byte (inr h) =
        let c = any-clash (plainly w) (reads_of atomics) (writes_of atomics) (λ place b. reads_as_one (accesses_at program threads place) b) (λ place b. writes_as_one (accesses_at program threads place) b) (λ b. reads_plainly here b) (λ b. writes_plainly here b) plain_reads plain_writes words_read words_written mark byte h in
        let one = accesses_at program threads c.place in
        race-by _ _ _ _ mark byte c (conflict-one (touches one.reads byte) (touches one.writes byte) (touches one.atomic byte) (touches here.reads byte) (touches here.writes byte) (touches here.atomic byte) c.clashes)

    -- the hit of a race
    race-any : (i byte : ℕ) → IsRace program threads i k byte → (mark : ℕ) × AnyConflict reads writes atomics w clock mark byte × (i < mark)
    race-any i byte r =
        let one = accesses_at program threads i in
        by (conflict-any (touches one.reads byte) (touches one.writes byte) (touches one.atomic byte) (touches here.reads byte) (touches here.writes byte) (touches here.atomic byte) r.conflict)
      where
        by : (clash (reads_plainly (accesses_at program threads i) byte) (writes_plainly (accesses_at program threads i) byte) (touches here.reads byte) (touches here.writes byte) ≡ true) ⊎ (clash (reads_as_one (accesses_at program threads i) byte) (writes_as_one (accesses_at program threads i) byte) (reads_plainly here byte) (writes_plainly here byte) ≡ true) → (mark : ℕ) × AnyConflict reads writes atomics w clock mark byte × (i < mark)
        by (inl c) =
            let h = clash-any w reads writes (λ place b. reads_plainly (accesses_at program threads place) b) (λ place b. writes_plainly (accesses_at program threads place) b) (λ b. touches here.reads b) (λ b. touches here.writes b) reads_are writes_are reads_marked writes_marked i byte r.order r.unordered c in
            (h.0, inl h.1, h.2)
        by (inr c) =
            let h = clash-any (plainly w) (reads_of atomics) (writes_of atomics) (λ place b. reads_as_one (accesses_at program threads place) b) (λ place b. writes_as_one (accesses_at program threads place) b) (λ b. reads_plainly here b) (λ b. writes_plainly here b) plain_reads plain_writes words_read words_written i byte r.order r.unordered c in
            (h.0, inr h.1, h.2)

    above-is : (j : ℕ) → k ≤ j → j ≢ k → k < j
    above-is j le n = grind (arith, le, n)

    pub found-next : (found : Found) (hit : Option Hit) → IsFirstOf (AnyConflict reads writes atomics w clock) hit → IsFoundIn program threads k found → IsFoundIn program threads (suc k) (notes found hit k)
    found-next (Pair i j byte) hit first was = was
    found-next NoRace None first was = λ i j byte r. ⊎_elim (λ e. absurd (let h = race-any i byte (subst (λ (n : ℕ). IsRace program threads i n byte) e r) in first h.0 byte h.1)) (λ n. let a = above-is j (was i j byte r) n in omega arith) (eq-told j k)
    found-next NoRace (Some hit) first was =
        let r = any-race hit.mark hit.byte first.0 in
        let place : r.place ≡ hit.mark - 1 = (let e = r.mark_is in omega arith) in
        record {
          race = subst (λ (n : ℕ). IsRace program threads n k hit.byte) place r.race;
          first = λ i j byte other. ⊎_elim (λ e. inr (sym e, at-once i byte (subst (λ (n : ℕ). IsRace program threads i n byte) e other))) (λ n. inl (above-is j (was i j byte other) n)) (eq-told j k);
        }
      where
        at-once : (i byte : ℕ) → IsRace program threads i k byte → (hit.byte < byte) ⊎ ((hit.byte ≡ byte) × (i ≤ hit.mark - 1))
        at-once i byte other = let h = race-any i byte other in ⊎_elim inl (λ e. inr (e.0, (let a = e.1 in let b = h.2 in omega arith))) (first.1 h.0 byte h.1)

-- ---- what is known

knows-equal : (program : Program) (threads : List ℕ) (a b : ClockOf) (P : ℕ → Type 0) → Knows program threads a P → ((u : ℕ) → b u ≡ a u) → Knows program threads b P
knows-equal program threads a b P f e i u at = (λ less. (f i u at).0 (subst (λ (n : ℕ). i < n) (e u) less), λ p. subst (λ (n : ℕ). i < n) (sym (e u)) ((f i u at).1 p))

at-or-below : (i k : ℕ) → i < suc k → (i < k) ⊎ (i ≡ k)
at-or-below i k h = grind arith

source-told : (a b : Source) → (a ≡ b) ⊎ (a ≢ b)
source-told a b = by (is_source a b) refl
  where
    by : (x : Bool) → is_source a b ≡ x → (a ≡ b) ⊎ (a ≢ b)
    by true e = inl (one-source a b e)
    by false e = inr (λ f. true≢false (sym (same-source b) ∙ (ap (λ (s : Source). is_source s b) (sym f) ∙ e)))

module _ (program : Program) (threads : List ℕ) (k t : ℕ) (there : slice_get threads k ≡ Some t) (lore : Lore) (all : (source : Source) → Knows program threads (lore source) (Past program threads k source)) where
  pub past-knows : (s : Sync) → sync_at program threads k ≡ s → (clock : Clock) → IsPast lore t (learns_from s) clock → Knows program threads (seen_by clock) (λ i. HappensBefore program threads i k)
  past-knows s e clock is =
      knows-same program threads (seen_by clock) (λ i. Past program threads k (Thread t) i ⊎ PastOf program threads k (learns_from s) i) (λ i. HappensBefore program threads i k) (by (learns_from s) is)
      (λ i. subst (λ (x : Sync). (Past program threads k (Thread t) i ⊎ PastOf program threads k (learns_from x) i) ↔ HappensBefore program threads i k) e ((before-is program threads k t there i).1, (before-is program threads k t there i).0))
    where
      by : (o : Option Source) → IsPast lore t o clock → Knows program threads (seen_by clock) (λ i. Past program threads k (Thread t) i ⊎ PastOf program threads k o i)
      by None h = knows-same program threads (seen_by clock) (Past program threads k (Thread t)) (λ i. Past program threads k (Thread t) i ⊎ ⊥) (knows-equal program threads (lore (Thread t)) (seen_by clock) (Past program threads k (Thread t)) (all (Thread t)) h) (λ i. (inl, ⊎_elim (λ p. p) (λ n. absurd n)))
      by (Some source) h = knows-joined program threads (lore (Thread t)) (lore source) (seen_by clock) (Past program threads k (Thread t)) (Past program threads k source) (all (Thread t)) (all source) h

  module _ (past : Clock) (knows : Knows program threads (seen_by past) (UpTo program threads k)) where
    -- what is up to the step is all that its thread's next step has as its past
    own-past : (i : ℕ) → UpTo program threads k i ↔ Past program threads (suc k) (Thread t) i
    own-past i = (λ up. record { last = k; early = omega arith; feeds = feeds-own program threads k t there; up = up }, λ p. by p (at-or-below p.last k p.early))
      where
        by : (p : Past program threads (suc k) (Thread t) i) → (p.last < k) ⊎ (p.last ≡ k) → UpTo program threads k i
        by p (inl less) = inr ((before-is program threads k t there i).1 (inl (record { last = p.last; early = less; feeds = p.feeds; up = p.up })))
        by p (inr e) = subst (λ (n : ℕ). UpTo program threads n i) e p.up

    own-next : (mid : Lore) → Keeps lore (Thread t) past mid → Knows program threads (mid (Thread t)) (Past program threads (suc k) (Thread t))
    own-next mid p = knows-equal program threads (seen_by past) (mid (Thread t)) (Past program threads (suc k) (Thread t)) (knows-same program threads (seen_by past) (UpTo program threads k) (Past program threads (suc k) (Thread t)) knows own-past) p.learnt

    pub rows-next : (s : Sync) → sync_at program threads k ≡ s → (o : Option Source) → passes_to t s ≡ o → (new : Lore) → PassesOn lore t o past new → (source : Source) → Knows program threads (new source) (Past program threads (suc k) source)
    rows-next s e None p new on source = ⊎_elim own other (source-told source (Thread t))
      where
        own : source ≡ Thread t → Knows program threads (new source) (Past program threads (suc k) source)
        own same = subst (λ (x : Source). Knows program threads (new x) (Past program threads (suc k) x)) (sym same) (own-next new on)

        other : source ≢ Thread t → Knows program threads (new source) (Past program threads (suc k) source)
        other ne =
            knows-equal program threads (lore source) (new source) (Past program threads (suc k) source)
            (knows-still program threads k t there source (lore source) (λ f. ⊎_elim ne (λ h. absurd (let g : None ≡ Some source = sym p ∙ (ap (passes_to t) (sym e) ∙ h) in cc)) (fed program threads k t there source f)) (all source))
            (on.others source ne)
    rows-next s e (Some second) p new on source = ⊎_elim passed (λ n. ⊎_elim (own n) (other n) (source-told source (Thread t))) (source-told source second)
      where
        feeds : Feeds program threads second k
        feeds = feeds-passed program threads k t there s second e p

        passed : source ≡ second → Knows program threads (new source) (Past program threads (suc k) source)
        passed same = subst (λ (x : Source). Knows program threads (new x) (Past program threads (suc k) x)) (sym same) (⊎_elim again more (source-told second (Thread t)))
          where
            again : second ≡ Thread t → Knows program threads (new second) (Past program threads (suc k) second)
            again own =
                knows-again program threads k t there second (on.0 second) (seen_by past) (new second) feeds
                (subst (λ (x : Source). Knows program threads (on.0 x) (Past program threads (suc k) x)) (sym own) (own-next on.0 on.1)) knows on.2.learnt

            more : second ≢ Thread t → Knows program threads (new second) (Past program threads (suc k) second)
            more ne =
                knows-more program threads k t there second (on.0 second) (seen_by past) (new second) feeds
                (knows-equal program threads (lore second) (on.0 second) (Past program threads k second) (all second) (on.1.others second ne)) knows on.2.learnt

        own : source ≢ second → source ≡ Thread t → Knows program threads (new source) (Past program threads (suc k) source)
        own n same =
            knows-equal program threads (on.0 source) (new source) (Past program threads (suc k) source)
            (subst (λ (x : Source). Knows program threads (on.0 x) (Past program threads (suc k) x)) (sym same) (own-next on.0 on.1)) (on.2.others source n)

        other : source ≢ second → source ≢ Thread t → Knows program threads (new source) (Past program threads (suc k) source)
        other n ne =
            knows-equal program threads (lore source) (new source) (Past program threads (suc k) source)
            (knows-still program threads k t there source (lore source) (λ f. ⊎_elim ne (λ h. n (some-injective (sym h ∙ (ap (passes_to t) e ∙ p)))) (fed program threads k t there source f)) (all source))
            (λ u. on.2.others source n u ∙ on.1.others source ne u)

-- ---- the whole step

take-next : (threads : List ℕ) (k t : ℕ) → slice_get threads k ≡ Some t → take (suc k) threads ≡ take k threads ++ t ∷ []
take-next [] k t h = absurd (let e : None ≡ Some t = h in cc)
take-next (x ∷ threads) zero t h = ap (λ n. n ∷ []) (some-injective h)
take-next (x ∷ threads) (suc k) t h = ap {B = List _} (λ r. x ∷ r) (take-next threads k t h)

module _ (program : Program) (threads : List ℕ) (old : Checker) (follows : Follows program threads old) (t : ℕ) (there : slice_get threads old.steps ≡ Some t) where
  abbrev machine : Machine
  machine = machine_of old.plain follows.output

  pub lacks-there : HasNoStep old.plain t → LacksStep program threads old.steps
  lacks-there none = record {
    machine = machine_of old.plain follows.output;
    reaches = record { within = follows.short; runs = follows.runs };
    within = slice_get_within threads old.steps t there;
    none = ap₂ (λ (p : Program) (n : ℕ). step p (machine_of old.plain follows.output) n) (sym follows.same_program) (slice_index-is threads old.steps t there) ∙ none follows.output;
  }
    where
      slice_index-is : (xs : List ℕ) (i x : ℕ) → slice_get xs i ≡ Some x → slice_index xs i ≡ x
      slice_index-is [] i x h = absurd (let e : None ≡ Some x = h in cc)
      slice_index-is (y ∷ xs) zero x h = some-injective h
      slice_index-is (y ∷ xs) (suc i) x h = slice_index-is xs i x h

  module _ (w : Watched) (sees : (output : List ℕ) → Sees old.plain.program (machine_of old.plain output) t w) where
    seen : Sees program machine t w
    seen = subst (λ (p : Program). Sees p machine t w) follows.same_program (sees follows.output)

    sync-is : sync_at program threads old.steps ≡ sync_of_relation w.relation
    sync-is = at-both (sync_of program) Nothing _ _ machine t follows.runs there ∙ seen.means

    access-is : accesses_at program threads old.steps ≡ accesses program machine t
    access-is = at-both (accesses program) no_access _ _ machine t follows.runs there

    reads-are : (b : ℕ) → touches (accesses_at program threads old.steps).reads b ≡ (within (span_of w.loaded) b || within (span_of w.code) b)
    reads-are b = ap (λ (a : Accesses). touches a.reads b) access-is ∙ seen.reads b

    writes-are : (b : ℕ) → touches (accesses_at program threads old.steps).writes b ≡ within (span_of w.stored) b
    writes-are b = ap (λ (a : Accesses). touches a.writes b) access-is ∙ seen.writes b

    atomic-are : (b : ℕ) → touches (accesses_at program threads old.steps).atomic b ≡ within (span_of w.atomic) b
    atomic-are b = ap (λ (a : Accesses). touches a.atomic b) access-is ∙ seen.atomic b

    plain-reads : (b : ℕ) → reads_plainly (accesses_at program threads old.steps) b ≡ (within (span_of (plainly w).loaded) b || within (span_of (plainly w).code) b)
    plain-reads b = reads-plain w (accesses_at program threads old.steps) b (reads-are b) (writes-are b) (atomic-are b) seen.as_one (w.atomic.count == 0) refl

    plain-writes : (b : ℕ) → writes_plainly (accesses_at program threads old.steps) b ≡ within (span_of (plainly w).stored) b
    plain-writes b = writes-plain w (accesses_at program threads old.steps) b (reads-are b) (writes-are b) (atomic-are b) seen.as_one (w.atomic.count == 0) refl

    one-reads : (b : ℕ) → reads_as_one (accesses_at program threads old.steps) b ≡ (within (span_of (as_one w).loaded) b || within (span_of (as_one w).code) b)
    one-reads b = reads-one w (accesses_at program threads old.steps) b (reads-are b) (writes-are b) (atomic-are b) seen.as_one (w.atomic.count == 0) refl

    one-writes : (b : ℕ) → writes_as_one (accesses_at program threads old.steps) b ≡ within (span_of (as_one w).stored) b
    one-writes b = writes-one w (accesses_at program threads old.steps) b (reads-are b) (writes-are b) (atomic-are b) seen.as_one (w.atomic.count == 0) refl

    module _ (new : Checker) (past later : Clock) (hit : Option Hit) (same : new.plain.program ≡ old.plain.program) (steps : Steps old.plain t new.plain) (is_past : IsPast (known_in old.rows.items old.words.entries) t (learns_from (sync_of_relation w.relation)) past)
        (first : IsFirstOf (AnyConflict old.reads.items old.writes.items old.atomics w (seen_by past)) hit) (stepped : IsStepped (seen_by past) t old.steps (seen_by later))
        (marked : MarksAll old.reads.items old.writes.items (plainly w) t old.steps new.reads.items new.writes.items)
        (words : MarksAll (reads_of old.atomics) (writes_of old.atomics) (as_one w) t old.steps (reads_of new.atomics) (writes_of new.atomics))
        (passed : PassesOn (known_in old.rows.items old.words.entries) t (passes_to t (sync_of_relation w.relation)) later (known_in new.rows.items new.words.entries)) (count : new.steps ≡ old.steps + 1) (noted : new.found ≡ notes old.found hit old.steps) where
      knows : Knows program threads (seen_by past) (λ i. HappensBefore program threads i old.steps)
      knows = past-knows program threads old.steps t there (known_in old.rows.items old.words.entries) follows.knows (sync_of_relation w.relation) sync-is past is_past

      knows-later : Knows program threads (seen_by later) (UpTo program threads old.steps)
      knows-later = knows-stepped program threads old.steps t there (seen_by past) (seen_by later) knows stepped

      next-is : suc old.steps ≡ new.steps
      next-is = let e = count in omega arith

      runs-next : run program (opening program) (take (suc old.steps) threads) ≡ Some (machine_of new.plain (follows.output ++ new.plain.written))
      runs-next =
          ap (run program (opening program)) (take-next threads old.steps t there)
          ∙ (run-append program (opening program) (take old.steps threads) (t ∷ [])
          ∙ (ap (option_and_then (λ m. run program m (t ∷ []))) follows.runs
          ∙ ap (option_and_then (λ m. run program m [])) (ap (λ (p : Program). step p machine t) (sym follows.same_program) ∙ steps follows.output)))

      -- the marks of what was read, and of what was written
      reads-next : (v : Watched) (before after writes new_writes : Shadow) (kind : Accesses → (byte : ℕ) → Bool) → MarksAll before writes v t old.steps after new_writes → ((b : ℕ) → kind (accesses_at program threads old.steps) b ≡ (within (span_of v.loaded) b || within (span_of v.code) b))
          → (b : ℕ) → MarkedBy threads old.steps (λ place. kind (accesses_at program threads place) b) (marks_at before b) → MarkedBy threads new.steps (λ place. kind (accesses_at program threads place) b) (marks_at after b)
      reads-next v before after writes new_writes kind m are b was = subst (λ (n : ℕ). MarkedBy threads n (λ place. kind (accesses_at program threads place) b) (marks_at after b)) next-is
          (marked-next threads old.steps t (λ place. kind (accesses_at program threads place) b) (marks_at before b) (marks_at after b) there was (within (span_of v.loaded) b || within (span_of v.code) b) (are b)
          (two-inside before m.between after (span_of v.loaded) (span_of v.code) t old.steps b m.loads m.fetches)
          (λ h u. let parts = or-parts (within (span_of v.loaded) b) (within (span_of v.code) b) h in m.fetches.outside b parts.1 u ∙ m.loads.outside b parts.0 u))

      writes-next : (v : Watched) (before after reads new_reads : Shadow) (kind : Accesses → (byte : ℕ) → Bool) → MarksAll reads before v t old.steps new_reads after → ((b : ℕ) → kind (accesses_at program threads old.steps) b ≡ within (span_of v.stored) b)
          → (b : ℕ) → MarkedBy threads old.steps (λ place. kind (accesses_at program threads place) b) (marks_at before b) → MarkedBy threads new.steps (λ place. kind (accesses_at program threads place) b) (marks_at after b)
      writes-next v before after reads new_reads kind m are b was = subst (λ (n : ℕ). MarkedBy threads n (λ place. kind (accesses_at program threads place) b) (marks_at after b)) next-is
          (marked-next threads old.steps t (λ place. kind (accesses_at program threads place) b) (marks_at before b) (marks_at after b) there was (within (span_of v.stored) b) (are b) (m.stores.inside b) (m.stores.outside b))

      pub next : Follows program threads new
      next = record {
        output = follows.output ++ new.plain.written;
        same_program = same ∙ follows.same_program;
        runs = ap (λ (n : ℕ). run program (opening program) (take n threads)) (sym next-is) ∙ runs-next;
        short = (let a = slice_get_within threads old.steps t there in let e = count in omega arith);
        knows = λ source. subst (λ (n : ℕ). Knows program threads (known_in new.rows.items new.words.entries source) (Past program threads n source)) next-is
            (rows-next program threads old.steps t there (known_in old.rows.items old.words.entries) follows.knows later knows-later (sync_of_relation w.relation) sync-is (passes_to t (sync_of_relation w.relation)) refl (known_in new.rows.items new.words.entries) passed source);
        reads_marked = λ b. reads-next (plainly w) old.reads.items new.reads.items old.writes.items new.writes.items reads_plainly marked plain-reads b (follows.reads_marked b);
        writes_marked = λ b. writes-next (plainly w) old.writes.items new.writes.items old.reads.items new.reads.items writes_plainly marked plain-writes b (follows.writes_marked b);
        words_read = λ b. reads-next (as_one w) (reads_of old.atomics) (reads_of new.atomics) (writes_of old.atomics) (writes_of new.atomics) reads_as_one words one-reads b (follows.words_read b);
        words_written = λ b. writes-next (as_one w) (writes_of old.atomics) (writes_of new.atomics) (reads_of old.atomics) (reads_of new.atomics) writes_as_one words one-writes b (follows.words_written b);
        found_is = subst (λ (f : Found). IsFoundIn program threads new.steps f) (sym noted) (subst (λ (n : ℕ). IsFoundIn program threads n (notes old.found hit old.steps)) next-is
            (found-next program threads old.steps t there (seen_by past) knows w old.reads.items old.writes.items old.atomics reads-are writes-are plain-reads plain-writes follows.reads_marked follows.writes_marked follows.words_read follows.words_written old.found hit first follows.found_is));
      }

-- the same machine by another name
pub follows-same : (program : Program) (threads : List ℕ) (c : Checker) (plain : PlainOf) → plain.program ≡ c.plain.program → SameMachine plain c.plain → Follows program threads c → Follows program threads (record c { plain = plain })
follows-same program threads c plain same machine f = record {
  output = f.output;
  same_program = same ∙ f.same_program;
  runs = f.runs ∙ ap (λ m. Some m) (sym (machine f.output));
  short = f.short;
  knows = f.knows;
  reads_marked = f.reads_marked;
  writes_marked = f.writes_marked;
  words_read = f.words_read;
  words_written = f.words_written;
  found_is = f.found_is;
}

-- rows that know the same
pub follows-rows : (program : Program) (threads : List ℕ) (c : Checker) (rows : Vec Row Global) → ((source : Source) (u : ℕ) → known_by rows.items source u ≡ known_by c.rows.items source u) → Follows program threads c → Follows program threads (record c { rows = rows })
follows-rows program threads c rows same f = record {
  output = f.output;
  same_program = f.same_program;
  runs = f.runs;
  short = f.short;
  knows = λ source. knows-equal program threads (known_in c.rows.items c.words.entries source) (known_in rows.items c.words.entries source) (Past program threads c.steps source) (f.knows source) (same-in source);
  reads_marked = f.reads_marked;
  writes_marked = f.writes_marked;
  words_read = f.words_read;
  words_written = f.words_written;
  found_is = f.found_is;
}
  where
    same-in : (source : Source) (u : ℕ) → known_in rows.items c.words.entries source u ≡ known_in c.rows.items c.words.entries source u
    same-in (Word word) u = refl
    same-in (Thread v) u = same (Thread v) u
    same-in (Mutex mutex) u = same (Mutex mutex) u
    same-in (Exit v) u = same (Exit v) u
