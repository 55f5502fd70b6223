-- All executions of a small program, one after another: where each conflict in each of them is ordered, the program has no races.
use Rattle.std.specs.Prelude.{◌≡◌, ◌≢◌, ℕ, zero, suc, ◌+◌, ◌<◌, ◌≤◌, ◌⊎◌, Bool, true, false, not, ◌&&◌, ◌||◌, ◌==◌, nat_lt, nat_le, List, [], ◌∷◌, ◌++◌, length, take, Option, Some, None, slice_get}
use Rattle.std.specs.List.{list_any}
use Rattle.std.specs.Option.{option_map_or, option_and_then}
use Rattle.std.proofs.Common.{refl, sym, ap, ◌∙◌, subst, arith, inl, inr, ⊎_elim, append-nil, append_assoc, eq-eqb}
use Rattle.std.proofs.lemmas.Bool.{or_cases, or_left, or_right, true≢false, false≢true, leb-true, ltb-true, lt-ltb, and_parts, and_from, eqb-true}
use Rattle.std.proofs.lemmas.Option.{option_and_then_some, slice_get_within}
use Rattle.ro_pages.specs.Bytes.{Span, within}
use Rattle.ro_plain.specs.Machine.{Program, Machine, opening, steppable, step, run, step_by, next_of}
use Rattle.ro_plain.specs.Accesses.{Accesses, no_access, accesses, touches, conflict_at}
use Rattle.ro_plain.specs.Order.{Sync, Unlocks, Locks, Makes, Joins, Exits, Updates, Observes, Nothing, is_on_word, sync_of, machine_at, sync_at, accesses_at, HappensBefore, in_thread, by_mutex, by_word, by_creation, by_join, chain, RaceFree, at_place}
use Rattle.ro_plain.proofs.Calls.{some-injective, steppable-parts, step-opens}
use Rattle.ro_plain.proofs.Swap.{at-both}
use Rattle.ro_plain.proofs.Places.{get-within}

-- ---- an execution with what its steps mean and access

pub record Note : Type 0 where
  pub thread : ℕ
  pub sync : Sync
  pub accesses : Accesses

abbrev pub note_at : Program → Machine → ℕ → Note
note_at program machine thread = record { thread = thread; sync = sync_of program machine thread; accesses = accesses program machine thread }

abbrev pub notes_from : Program → Machine → List ℕ → List Note
notes_from program machine [] = []
notes_from program machine (t ∷ threads) = note_at program machine t ∷ option_map_or (λ after. notes_from program after threads) (step program machine t) []

-- the note of a place
record NoteIs (program : Program) (machine : Machine) (threads : List ℕ) (place : ℕ) (note : Note) : Type 0 where
  before : Machine
  runs : run program machine (take place threads) ≡ Some before
  there : slice_get threads place ≡ Some note.thread
  is : note_at program before note.thread ≡ note

note-is : (program : Program) (threads : List ℕ) (place : ℕ) (machine end : Machine) (note : Note) → run program machine threads ≡ Some end → slice_get (notes_from program machine threads) place ≡ Some note → NoteIs program machine threads place note
note-is program [] place machine end note e f = absurd (let g : None ≡ Some note = f in cc)
note-is program (t ∷ threads) zero machine end note e f =
    subst (NoteIs program machine (t ∷ threads) 0) (some-injective f) (record { before = machine; runs = refl; there = refl; is = refl })
note-is program (t ∷ threads) (suc place) machine end note e f =
    option_and_then_some (λ after. run program after threads) (step program machine t) end e (λ after g h.
    let r = note-is program threads place after end note h (sym (ap (λ (o : Option Machine). slice_get (option_map_or (λ a. notes_from program a threads) o []) place) g) ∙ f) in
    record { before = r.before; runs = ap (option_and_then (λ m. run program m (take place threads))) g ∙ r.runs; there = r.there; is = r.is })

-- as many notes as steps
count-notes : (program : Program) (threads : List ℕ) (machine end : Machine) → run program machine threads ≡ Some end → length (notes_from program machine threads) ≡ length threads
count-notes program [] machine end e = refl
count-notes program (t ∷ threads) machine end e =
    option_and_then_some (λ after. run program after threads) (step program machine t) end e (λ after g h.
    ap suc (ap (λ (o : Option Machine). length (option_map_or (λ a. notes_from program a threads) o [])) g ∙ count-notes program threads after end h))

-- ---- the order, as a test

-- a number below this one passes
abbrev pub any_below : ℕ → (ℕ → Bool) → Bool
any_below zero test = false
any_below (suc n) test = any_below n test || test n

abbrev pub locks : ℕ → Sync → Bool
locks mutex (Locks other) = mutex == other
locks mutex _ = false

abbrev pub joins : ℕ → Sync → Bool
joins thread (Joins other) = thread == other
joins thread _ = false

-- the one step is before the other by what it means
abbrev pub orders : Sync → (thread other : ℕ) → Sync → Bool
orders (Unlocks mutex) thread other sync = locks mutex sync
orders (Makes made) thread other sync = made == other
orders Exits thread other sync = joins thread sync
orders (Updates word) thread other sync = is_on_word word sync
orders _ thread other sync = false

abbrev pub follows : Option Note → Option Note → Bool
follows (Some a) (Some b) = (a.thread == b.thread) || orders a.sync a.thread b.thread b.sync
follows _ _ = false

abbrev pub direct : List Note → ℕ → ℕ → Bool
direct notes i j = nat_lt i j && follows (slice_get notes i) (slice_get notes j)

abbrev pub before : ℕ → List Note → ℕ → ℕ → Bool
before zero notes i j = false
before (suc fuel) notes i j = direct notes i j || any_below j (λ k. direct notes i k && before fuel notes k j)

-- ---- conflicts, as a test

abbrev pub meet : Span → Span → Bool
meet x y = nat_lt x.place (y.place + y.count) && nat_lt y.place (x.place + x.count)

abbrev pub overlap : List Span → List Span → Bool
overlap xs ys = list_any (λ x. list_any (meet x) ys) xs

abbrev pub conflict : Accesses → Accesses → Bool
conflict a b = (overlap a.writes b.reads || overlap a.writes b.writes) || overlap a.reads b.writes

-- ---- each execution

abbrev pub all_below : ℕ → (ℕ → Bool) → Bool
all_below zero test = true
all_below (suc n) test = all_below n test && test n

abbrev pub is_ordered : List Note → ℕ → ℕ → Option Note → Option Note → Bool
is_ordered notes i j (Some a) (Some b) = (a.thread == b.thread) || (not (conflict a.accesses b.accesses) || before 6 notes i j)
is_ordered notes i j _ _ = true

abbrev pub all_ordered : List Note → Bool
all_ordered notes = all_below (length notes) (λ j. all_below j (λ i. is_ordered notes i j (slice_get notes i) (slice_get notes j)))

-- no step of the set is directly before one that is not in it
abbrev pub keeps_in : List Note → (ℕ → Bool) → Bool
keeps_in notes inside = all_below (length notes) (λ j. all_below (length notes) (λ i. not (inside i && direct notes i j) || inside j))

-- in each execution from here on, of so many steps less one at most, each conflict is ordered
abbrev pub explores : ℕ → Program → Machine → List Note → Bool
explores zero program machine seen = false
explores (suc fuel) program machine seen =
    all_ordered seen && all_below (length machine.cpus) (λ t. option_map_or (λ after. explores fuel program after (seen ++ note_at program machine t ∷ [])) (step program machine t) true)

-- ---- the tests are right

lt-cases : (i n : ℕ) → (i < n) ⊎ (n ≤ i)
lt-cases zero zero = inr (omega arith)
lt-cases zero (suc n) = inl (omega arith)
lt-cases (suc i) zero = inr (omega arith)
lt-cases (suc i) (suc n) = ⊎_elim (λ (h : i < n). inl (omega arith)) (λ (h : n ≤ i). inr (omega arith)) (lt-cases i n)

all-of : (n : ℕ) (test : ℕ → Bool) → all_below n test ≡ true → (i : ℕ) → i < n → test i ≡ true
all-of zero test e i low = absurd (omega arith)
all-of (suc n) test e i low =
    let p = and_parts (all_below n test) (test n) e in
    ⊎_elim (λ (h : i < n). all-of n test p.0 i h) (λ (h : n ≤ i). let same : n ≡ i = omega arith in subst (λ (m : ℕ). test m ≡ true) same p.1) (lt-cases i n)

any-of : (n : ℕ) (test : ℕ → Bool) → any_below n test ≡ true → (k : ℕ) × (test k ≡ true)
any-of zero test e = absurd (false≢true e)
any-of (suc n) test e = ⊎_elim (λ (f : any_below n test ≡ true). any-of n test f) (λ (f : test n ≡ true). (n, f)) (or_cases (any_below n test) (test n) e)

meet-at : (x y : Span) (byte : ℕ) → within x byte ≡ true → within y byte ≡ true → meet x y ≡ true
meet-at x y byte e f =
    let p = and_parts (nat_le x.place byte) (nat_lt byte (x.place + x.count)) e in
    let q = and_parts (nat_le y.place byte) (nat_lt byte (y.place + y.count)) f in
    let a = leb-true x.place byte p.0 in
    let b = ltb-true byte (x.place + x.count) p.1 in
    let c = leb-true y.place byte q.0 in
    let d = ltb-true byte (y.place + y.count) q.1 in
    and_from (nat_lt x.place (y.place + y.count)) (nat_lt y.place (x.place + x.count)) (lt-ltb x.place (y.place + y.count) (omega arith)) (lt-ltb y.place (x.place + x.count) (omega arith))

meets-one : (x : Span) (ys : List Span) (byte : ℕ) → within x byte ≡ true → touches ys byte ≡ true → list_any (meet x) ys ≡ true
meets-one x [] byte e f = f
meets-one x (y ∷ ys) byte e f =
    ⊎_elim (λ (g : within y byte ≡ true). or_left (meet x y) (list_any (meet x) ys) (meet-at x y byte e g)) (λ (g : touches ys byte ≡ true). or_right (meet x y) (list_any (meet x) ys) (meets-one x ys byte e g))
    (or_cases (within y byte) (touches ys byte) f)

overlaps : (xs ys : List Span) (byte : ℕ) → touches xs byte ≡ true → touches ys byte ≡ true → overlap xs ys ≡ true
overlaps [] ys byte e f = e
overlaps (x ∷ xs) ys byte e f =
    ⊎_elim (λ (g : within x byte ≡ true). or_left (list_any (meet x) ys) (overlap xs ys) (meets-one x ys byte g f)) (λ (g : touches xs byte ≡ true). or_right (list_any (meet x) ys) (overlap xs ys) (overlaps xs ys byte g f))
    (or_cases (within x byte) (touches xs byte) e)

conflicts : (a b : Accesses) (byte : ℕ) → conflict_at a b byte ≡ true → conflict a b ≡ true
conflicts a b byte e =
    ⊎_elim first second (or_cases (touches a.writes byte && (touches b.reads byte || touches b.writes byte)) (touches a.reads byte && touches b.writes byte)
    (and_parts (not (touches a.atomic byte && touches b.atomic byte)) ((touches a.writes byte && (touches b.reads byte || touches b.writes byte)) || (touches a.reads byte && touches b.writes byte)) e).1)
  where
    first : (touches a.writes byte && (touches b.reads byte || touches b.writes byte)) ≡ true → conflict a b ≡ true
    first f =
        let p = and_parts (touches a.writes byte) (touches b.reads byte || touches b.writes byte) f in
        or_left (overlap a.writes b.reads || overlap a.writes b.writes) (overlap a.reads b.writes)
        (⊎_elim
        (λ (g : touches b.reads byte ≡ true). or_left (overlap a.writes b.reads) (overlap a.writes b.writes) (overlaps a.writes b.reads byte p.0 g))
        (λ (g : touches b.writes byte ≡ true). or_right (overlap a.writes b.reads) (overlap a.writes b.writes) (overlaps a.writes b.writes byte p.0 g))
        (or_cases (touches b.reads byte) (touches b.writes byte) p.1))

    second : (touches a.reads byte && touches b.writes byte) ≡ true → conflict a b ≡ true
    second f =
        let p = and_parts (touches a.reads byte) (touches b.writes byte) f in
        or_right (overlap a.writes b.reads || overlap a.writes b.writes) (overlap a.reads b.writes) (overlaps a.reads b.writes byte p.0 p.1)

get-beyond : (xs : List ℕ) (place : ℕ) → length xs ≤ place → slice_get xs place ≡ None
get-beyond [] place h = refl
get-beyond (x ∷ xs) zero h = absurd (omega arith)
get-beyond (x ∷ xs) (suc place) h = get-beyond xs place (omega arith)

no-thread : {X : Type 0} (f : Machine → ℕ → X) (none : X) (o : Option Machine) → at_place f none o None ≡ none
no-thread f none None = refl
no-thread f none (Some machine) = refl

-- ---- in one execution

module _ (program : Program) (threads : List ℕ) (end : Machine) (runs : run program (opening program) threads ≡ Some end) where
  abbrev notes : List Note
  notes = notes_from program (opening program) threads

  at : (place : ℕ) (note : Note) → slice_get notes place ≡ Some note → NoteIs program (opening program) threads place note
  at place note e = note-is program threads place (opening program) end note runs e

  sync-is : (place : ℕ) (note : Note) → slice_get notes place ≡ Some note → sync_at program threads place ≡ note.sync
  sync-is place note e = let n = at place note e in at-both (sync_of program) Nothing (machine_at program threads place) (slice_get threads place) n.before note.thread n.runs n.there ∙ ap (λ (m : Note). m.sync) n.is

  accesses-are : (place : ℕ) (note : Note) → slice_get notes place ≡ Some note → accesses_at program threads place ≡ note.accesses
  accesses-are place note e =
      let n = at place note e in at-both (accesses program) no_access (machine_at program threads place) (slice_get threads place) n.before note.thread n.runs n.there ∙ ap (λ (m : Note). m.accesses) n.is

  ordered-by : (i j : ℕ) (a b : Note) → i < j → slice_get notes i ≡ Some a → slice_get notes j ≡ Some b → (sync other : Sync) → a.sync ≡ sync → b.sync ≡ other → orders sync a.thread b.thread other ≡ true → HappensBefore program threads i j
  ordered-by i j a b low e f (Unlocks mutex) (Locks other) g h k =
      by_mutex mutex low (sync-is i a e ∙ g) (sync-is j b f ∙ (h ∙ ap Locks (sym (eqb-true mutex other k))))
  ordered-by i j a b low e f (Unlocks mutex) (Unlocks other) g h k = absurd (false≢true k)
  ordered-by i j a b low e f (Unlocks mutex) (Makes other) g h k = absurd (false≢true k)
  ordered-by i j a b low e f (Unlocks mutex) (Joins other) g h k = absurd (false≢true k)
  ordered-by i j a b low e f (Unlocks mutex) Exits g h k = absurd (false≢true k)
  ordered-by i j a b low e f (Unlocks mutex) (Updates other) g h k = absurd (false≢true k)
  ordered-by i j a b low e f (Unlocks mutex) (Observes other) g h k = absurd (false≢true k)
  ordered-by i j a b low e f (Unlocks mutex) Nothing g h k = absurd (false≢true k)
  ordered-by i j a b low e f (Makes made) other g h k =
      by_creation made low (sync-is i a e ∙ g) ((at j b f).there ∙ ap Some (sym (eqb-true made b.thread k)))
  ordered-by i j a b low e f Exits (Joins thread) g h k =
      by_join a.thread low (at i a e).there (sync-is i a e ∙ g) (sync-is j b f ∙ (h ∙ ap Joins (sym (eqb-true a.thread thread k))))
  ordered-by i j a b low e f Exits (Unlocks other) g h k = absurd (false≢true k)
  ordered-by i j a b low e f Exits (Locks other) g h k = absurd (false≢true k)
  ordered-by i j a b low e f Exits (Makes other) g h k = absurd (false≢true k)
  ordered-by i j a b low e f Exits Exits g h k = absurd (false≢true k)
  ordered-by i j a b low e f Exits (Updates other) g h k = absurd (false≢true k)
  ordered-by i j a b low e f Exits (Observes other) g h k = absurd (false≢true k)
  ordered-by i j a b low e f Exits Nothing g h k = absurd (false≢true k)
  ordered-by i j a b low e f (Updates word) other g h k =
      by_word word low (sync-is i a e ∙ g) (ap (is_on_word word) (sync-is j b f ∙ h) ∙ k)
  ordered-by i j a b low e f (Observes word) other g h k = absurd (false≢true k)
  ordered-by i j a b low e f (Locks mutex) other g h k = absurd (false≢true k)
  ordered-by i j a b low e f (Joins thread) other g h k = absurd (false≢true k)
  ordered-by i j a b low e f Nothing other g h k = absurd (false≢true k)

  follows-is : (i j : ℕ) → i < j → (o p : Option Note) → slice_get notes i ≡ o → slice_get notes j ≡ p → follows o p ≡ true → HappensBefore program threads i j
  follows-is i j low None p e f g = absurd (false≢true g)
  follows-is i j low (Some a) None e f g = absurd (false≢true g)
  follows-is i j low (Some a) (Some b) e f g =
      ⊎_elim
      (λ (h : (a.thread == b.thread) ≡ true). in_thread a.thread low (at i a e).there ((at j b f).there ∙ ap Some (sym (eqb-true a.thread b.thread h))))
      (λ (h : orders a.sync a.thread b.thread b.sync ≡ true). ordered-by i j a b low e f a.sync b.sync refl refl h)
      (or_cases (a.thread == b.thread) (orders a.sync a.thread b.thread b.sync) g)

  direct-is : (i j : ℕ) → direct notes i j ≡ true → HappensBefore program threads i j
  direct-is i j e =
      let p = and_parts (nat_lt i j) (follows (slice_get notes i) (slice_get notes j)) e in
      follows-is i j (ltb-true i j p.0) (slice_get notes i) (slice_get notes j) refl refl p.1

  before-is : (fuel i j : ℕ) → before fuel notes i j ≡ true → HappensBefore program threads i j
  before-is zero i j e = absurd (false≢true e)
  before-is (suc fuel) i j e =
      ⊎_elim (λ (f : direct notes i j ≡ true). direct-is i j f) (λ (f : any_below j (λ k. direct notes i k && before fuel notes k j) ≡ true).
      let k = any-of j (λ k. direct notes i k && before fuel notes k j) f in
      let p = and_parts (direct notes i k.0) (before fuel notes k.0 j) k.1 in chain (direct-is i k.0 p.0) (before-is fuel k.0 j p.1))
      (or_cases (direct notes i j) (any_below j (λ k. direct notes i k && before fuel notes k j)) e)

  pair-is : (i j byte : ℕ) → slice_get threads i ≢ slice_get threads j → conflict_at (accesses_at program threads i) (accesses_at program threads j) byte ≡ true → (a b : Note) → slice_get notes i ≡ Some a → slice_get notes j ≡ Some b → is_ordered notes i j (Some a) (Some b) ≡ true → HappensBefore program threads i j
  pair-is i j byte different conflicting a b e f g =
      ⊎_elim
      (λ (h : (a.thread == b.thread) ≡ true). absurd (different ((at i a e).there ∙ (ap Some (eqb-true a.thread b.thread h) ∙ sym (at j b f).there))))
      (λ (h : (not (conflict a.accesses b.accesses) || before 6 notes i j) ≡ true). ⊎_elim
      (λ (k : not (conflict a.accesses b.accesses) ≡ true).
      let both : conflict_at a.accesses b.accesses byte ≡ true = subst (λ (y : Accesses). conflict_at a.accesses y byte ≡ true) (accesses-are j b f) (subst (λ (x : Accesses). conflict_at x (accesses_at program threads j) byte ≡ true) (accesses-are i a e) conflicting) in
      absurd (true≢false (sym k ∙ ap not (conflicts a.accesses b.accesses byte both))))
      (λ (k : before 6 notes i j ≡ true). before-is 6 i j k)
      (or_cases (not (conflict a.accesses b.accesses)) (before 6 notes i j) h))
      (or_cases (a.thread == b.thread) (not (conflict a.accesses b.accesses) || before 6 notes i j) g)

  all-is : all_ordered notes ≡ true → (i j byte : ℕ) → i < j → j < length threads → slice_get threads i ≢ slice_get threads j → conflict_at (accesses_at program threads i) (accesses_at program threads j) byte ≡ true → HappensBefore program threads i j
  all-is all i j byte low short different conflicting =
      let count = count-notes program threads (opening program) end runs in
      let one = get-within notes i (omega arith) in
      let other = get-within notes j (omega arith) in
      let g = all-of j (λ k. is_ordered notes k j (slice_get notes k) (slice_get notes j)) (all-of (length notes) (λ l. all_below l (λ k. is_ordered notes k l (slice_get notes k) (slice_get notes l))) all j (omega arith)) i low in
      pair-is i j byte different conflicting one.0 other.0 one.1 other.1
      (subst (λ (o : Option Note). is_ordered notes i j (Some one.0) o ≡ true) other.1 (subst (λ (o : Option Note). is_ordered notes i j o (slice_get notes j) ≡ true) one.1 g))

  -- ---- no order that leads out of a set of places

  -- a step that is there by what it means
  place-of : (sync : Sync) (place : ℕ) → sync_at program threads place ≡ sync → (sync ≡ Nothing → ⊥) → place < length threads
  place-of sync place e means =
      ⊎_elim (λ (h : place < length threads). h)
      (λ (h : length threads ≤ place). absurd (means (sym e ∙ (ap (at_place (sync_of program) Nothing (machine_at program threads place)) (get-beyond threads place h) ∙ no-thread (sync_of program) Nothing (machine_at program threads place)))))
      (lt-cases place (length threads))

  -- the order by one step is the test's
  direct-by : (i j : ℕ) → i < j → i < length threads → j < length threads → ((a b : Note) → slice_get notes i ≡ Some a → slice_get notes j ≡ Some b → follows (Some a) (Some b) ≡ true) → direct notes i j ≡ true
  direct-by i j low here there f =
      let count = count-notes program threads (opening program) end runs in
      let a = get-within notes i (omega arith) in
      let b = get-within notes j (omega arith) in
      and_from (nat_lt i j) (follows (slice_get notes i) (slice_get notes j)) (lt-ltb i j low)
      (subst (λ (o : Option Note). follows o (slice_get notes j) ≡ true) (sym a.1) (subst (λ (o : Option Note). follows (Some a.0) o ≡ true) (sym b.1) (f a.0 b.0 a.1 b.1)))

  -- it is below the number of notes
  step-in : (inside : ℕ → Bool) → keeps_in notes inside ≡ true → (i j : ℕ) → i < length threads → j < length threads → direct notes i j ≡ true → inside i ≡ true → inside j ≡ true
  step-in inside keeps i j here there d e =
      let count = count-notes program threads (opening program) end runs in
      let g = all-of (length notes) (λ k. not (inside k && direct notes k j) || inside j) (all-of (length notes) (λ l. all_below (length notes) (λ k. not (inside k && direct notes k l) || inside l)) keeps j (omega arith)) i (omega arith) in
      ⊎_elim (λ (h : not (inside i && direct notes i j) ≡ true). absurd (true≢false (sym h ∙ ap not (and_from (inside i) (direct notes i j) e d)))) (λ (h : inside j ≡ true). h)
      (or_cases (not (inside i && direct notes i j)) (inside j) g)

  -- what is after a place of the set is in it
  pub stays-in : (inside : ℕ → Bool) → keeps_in notes inside ≡ true → (i j : ℕ) → HappensBefore program threads i j → inside i ≡ true → inside j ≡ true
  stays-in inside keeps i j (in_thread thread low e f) g =
      let here = slice_get_within threads i thread e in
      let there = slice_get_within threads j thread f in
      step-in inside keeps i j here there (direct-by i j low here there (λ a b p q.
      or_left (a.thread == b.thread) (orders a.sync a.thread b.thread b.sync) (eq-eqb a.thread b.thread (some-injective (sym (at i a p).there ∙ (e ∙ (sym f ∙ (at j b q).there))))))) g
  stays-in inside keeps i j (by_mutex mutex low e f) g =
      let here = place-of (Unlocks mutex) i e (λ h. cc) in
      let there = place-of (Locks mutex) j f (λ h. cc) in
      step-in inside keeps i j here there (direct-by i j low here there (λ a b p q.
      or_right (a.thread == b.thread) (orders a.sync a.thread b.thread b.sync)
      (subst (λ (s : Sync). orders s a.thread b.thread b.sync ≡ true) (sym e ∙ sync-is i a p) (subst (λ (s : Sync). orders (Unlocks mutex) a.thread b.thread s ≡ true) (sym f ∙ sync-is j b q) (eq-eqb mutex mutex refl))))) g
  stays-in inside keeps i j (by_word word low e f) g =
      let here = place-of (Updates word) i e (λ h. cc) in
      let there = place-of (sync_at program threads j) j refl (λ h. false≢true (sym (ap (is_on_word word) h) ∙ f)) in
      step-in inside keeps i j here there (direct-by i j low here there (λ a b p q.
      or_right (a.thread == b.thread) (orders a.sync a.thread b.thread b.sync)
      (subst (λ (s : Sync). orders s a.thread b.thread b.sync ≡ true) (sym e ∙ sync-is i a p) (ap (is_on_word word) (sym (sync-is j b q)) ∙ f)))) g
  stays-in inside keeps i j (by_creation thread low e f) g =
      let here = place-of (Makes thread) i e (λ h. cc) in
      let there = slice_get_within threads j thread f in
      step-in inside keeps i j here there (direct-by i j low here there (λ a b p q.
      or_right (a.thread == b.thread) (orders a.sync a.thread b.thread b.sync)
      (subst (λ (s : Sync). orders s a.thread b.thread b.sync ≡ true) (sym e ∙ sync-is i a p) (eq-eqb thread b.thread (some-injective (sym f ∙ (at j b q).there)))))) g
  stays-in inside keeps i j (by_join thread low e f h) g =
      let here = slice_get_within threads i thread e in
      let there = place-of (Joins thread) j h (λ k. cc) in
      step-in inside keeps i j here there (direct-by i j low here there (λ a b p q.
      or_right (a.thread == b.thread) (orders a.sync a.thread b.thread b.sync)
      (subst (λ (s : Sync). orders s a.thread b.thread b.sync ≡ true) (sym f ∙ sync-is i a p) (subst (λ (s : Sync). orders Exits a.thread b.thread s ≡ true) (sym h ∙ sync-is j b q) (eq-eqb a.thread thread (some-injective (sym (at i a p).there ∙ e))))))) g
  stays-in inside keeps i k (chain {j = j} p q) g = stays-in inside keeps j k q (stays-in inside keeps i j p g)

-- ---- and in all

step-there : (program : Program) (machine : Machine) (t : ℕ) (after : Machine) → step program machine t ≡ Some after → t < length machine.cpus
step-there program machine t after e =
    option_and_then_some (λ cpu. step_by program machine t cpu (next_of program machine cpu)) (steppable machine t) after (step-opens program machine t after e)
    (λ cpu live f. slice_get_within machine.cpus t cpu (steppable-parts machine t cpu live).there)

explored : (fuel : ℕ) (program : Program) (threads : List ℕ) (machine end : Machine) (seen : List Note) → explores fuel program machine seen ≡ true → run program machine threads ≡ Some end → all_ordered (seen ++ notes_from program machine threads) ≡ true
explored zero program threads machine end seen e f = absurd (false≢true e)
explored (suc fuel) program [] machine end seen e f =
    subst (λ (xs : List Note). all_ordered xs ≡ true) (sym (append-nil seen)) (and_parts (all_ordered seen) _ e).0
explored (suc fuel) program (t ∷ threads) machine end seen e f =
    option_and_then_some (λ after. run program after threads) (step program machine t) end f (λ after g h.
    let each = all-of (length machine.cpus) (λ u. option_map_or (λ a. explores fuel program a (seen ++ note_at program machine u ∷ [])) (step program machine u) true) (and_parts (all_ordered seen) _ e).1 t (step-there program machine t after g) in
    let goes : explores fuel program after (seen ++ note_at program machine t ∷ []) ≡ true = sym (ap (λ (o : Option Machine). option_map_or (λ a. explores fuel program a (seen ++ note_at program machine t ∷ [])) o true) g) ∙ each in
    let r = explored fuel program threads after end (seen ++ note_at program machine t ∷ []) goes h in
    subst (λ (o : Option Machine). all_ordered (seen ++ note_at program machine t ∷ option_map_or (λ a. notes_from program a threads) o []) ≡ true) (sym g)
    (subst (λ (xs : List Note). all_ordered xs ≡ true) (append_assoc seen (note_at program machine t ∷ []) (notes_from program after threads)) r))

-- a program whose executions were all explored has no races
pub explored-free : (fuel : ℕ) (program : Program) → explores fuel program (opening program) [] ≡ true → RaceFree program
explored-free fuel program e threads runs i j byte low short different conflicting =
    all-is program threads runs.0 runs.1 (explored fuel program threads (opening program) runs.0 [] e runs.1) i j byte low short different conflicting
