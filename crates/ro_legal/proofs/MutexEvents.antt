-- What an event does to the mutex table, and to the mutexes and stops of a replica that answers calls: an address that comes into the table enters each side.
use Rattle.std.specs.Prelude.{◌≡◌, ℕ, ◌+◌, ◌<◌, ◌≤◌, Bool, true, false, not, ◌&&◌, ◌||◌, ◌==◌, cond, List, [], ◌∷◌, ◌++◌, length, Option, Some, None, is_some, nat_le, if◌then◌else◌}
use Rattle.std.specs.List.{list_any}
use Rattle.std.specs.Option.{option_map_or}
use Rattle.std.proofs.Common.{refl, sym, ap, ◌∙◌, subst, arith, length-append, append-nil}
use Rattle.std.proofs.lemmas.List.{map-append}
use Rattle.std.proofs.lemmas.Bool.{false≢true, true≢false, eqb-true, eq-eqb, leb-false, and_parts}
use Rattle.ro_event.specs.declared.calls.Which.{Which}
use Rattle.ro_event.specs.declared.calls.Which.TheVariants.{Function}
use Rattle.ro_event.specs.declared.functions.Function.TheVariants.{MutexInit, Lock, TryLock, Unlock}
use Rattle.ro_event.specs.declared.calls.Call.{Call}
use Rattle.ro_event.specs.declared.stops.Stop.{Stop}
use Rattle.ro_event.specs.declared.stops.Stop.TheVariants.{Calls, Trap, PageFault, Watchdog}
use Rattle.ro_event.specs.Functions.{functions}
use Rattle.ro_mutex.specs.Owners.{Owners, owner_of, with_owner}
use Rattle.ro_mutex.proofs.Given.{comes-last}
use Rattle.ro_kernel.specs.Kernel.{Setup, Kernel, ranges_in, released}
use Rattle.ro_kernel.specs.Serve.{Served, Done, Parked, Blocked, Ends, answers, fits, is_owner, is_free, init_at, lock_at, trylock_at, unlock_at, on_word, serve_which, serve, asked, put_out}
use Rattle.ro_kernel.proofs.InTable.{InTable}
use Rattle.ro_kernel.proofs.Shapes.{IsOnMutex, on_init, on_lock, on_trylock, on_unlock, Shape, says, reads, breaks, maps_more, owns, wakes, parks_at, resumes, makes, joins, leaves, of_word, waits, stops, stops_last, shape-of}
use Rattle.ro_plain.specs.Machine.{Program}
use Rattle.ro_orders.specs.Turns.{Chosen, is_cooperative, is_lock_or_unlock}
use Rattle.ro_orders.specs.Choices.{in_table, no_mutex, chosen_of, has_otherwise}
use Rattle.ro_peer.specs.declared.mutexes.Mutex.{Mutex}
use Rattle.ro_peer.specs.Peers.{mutex_in}
use Rattle.ro_peer.specs.Gets.{is_own_call, voted}
use Rattle.ro_legal.specs.Sides.{rank_in}
use Rattle.ro_legal.specs.Event.{call_event, event_of}
use Rattle.ro_legal.specs.Cooperative.{entered_by}
use Rattle.ro_legal.specs.Kept.{table_of, addresses_of, cooperative_in}
use Rattle.ro_legal.proofs.Lists.{length-mapped}

-- ---- the table

-- an owner of an address that stands there changes no address
table-given : (owners : Owners) (a : ℕ) (o : Option ℕ) → InTable owners a → table_of (with_owner owners a o) ≡ table_of owners
table-given [] a o h = absurd (false≢true h)
table-given (e ∷ owners) a o h = by (e.0 == a) refl h (table-given owners a o)
  where
    by : (b : Bool) → (e.0 == a) ≡ b → is_some (cond b (Some e.1) (owner_of owners a)) ≡ true → (InTable owners a → table_of (with_owner owners a o) ≡ table_of owners)
        → table_of (cond b ((a, o) ∷ owners) (e ∷ with_owner owners a o)) ≡ e.0 ∷ table_of owners
    by true q f rest = ap {B = List ℕ} (λ (n : ℕ). n ∷ table_of owners) (sym (eqb-true e.0 a q))
    by false q f rest = ap {B = List ℕ} (λ (ns : List ℕ). e.0 ∷ ns) (rest f)

-- whether an address stands there
in-table : (owners : Owners) (a : ℕ) → is_some (owner_of owners a) ≡ list_any (λ (n : ℕ). n == a) (table_of owners)
in-table [] a = refl
in-table (e ∷ owners) a = by (e.0 == a) (in-table owners a)
  where
    by : (b : Bool) → is_some (owner_of owners a) ≡ list_any (λ (n : ℕ). n == a) (table_of owners) → is_some (cond b (Some e.1) (owner_of owners a)) ≡ (b || list_any (λ (n : ℕ). n == a) (table_of owners))
    by true rest = refl
    by false rest = rest

-- the addresses are the same, or this one comes last
pub data TableAfter (before : Owners) (address : ℕ) (after : Owners) : Type 0 where
  same_table : table_of after ≡ table_of before → TableAfter before address after
  one_more : owner_of before address ≡ None → length before < 256 → (owner : Option ℕ) → after ≡ before ++ (address, owner) ∷ [] → TableAfter before address after

-- ---- a call

abbrev pub ServedTable : (before : Owners) (address : ℕ) → Served → Type 0
ServedTable before address (Done after effect) = TableAfter before address after.owners
ServedTable before address (Parked after) = TableAfter before address after.owners
ServedTable before address Blocked = Unit {0}
ServedTable before address (Ends after how) = TableAfter before address after.owners

-- the calls that may bring an address into the table
abbrev is_on_mutex : Which → Bool
is_on_mutex (Function MutexInit) = true
is_on_mutex (Function Lock) = true
is_on_mutex (Function TryLock) = true
is_on_mutex (Function Unlock) = true
is_on_mutex _ = false

on-mutex : (owners : Owners) (a : ℕ) {which : Which} → IsOnMutex owners a which → is_on_mutex which ≡ true
on-mutex owners a (on_init e) = refl
on-mutex owners a on_lock = refl
on-mutex owners a on_trylock = refl
on-mutex owners a on_unlock = refl

-- an owner is an entry of the table
owner-inside : (u : ℕ) (o : Option (Option ℕ)) → is_owner u o ≡ true → is_some o ≡ true
owner-inside u (Some (Some owner)) h = refl
owner-inside u (Some None) h = refl
owner-inside u None h = h

free-inside : (o : Option (Option ℕ)) → is_free o ≡ true → is_some o ≡ true
free-inside (Some o) h = refl
free-inside None h = h

module _ (setup : Setup) (kernel : Kernel) (u : ℕ) (call : Call) where
  abbrev After : Served → Type 0
  After served = ServedTable kernel.owners call.a0 served

  -- no call but those on a mutex brings an address into the table
  other-table : {served : Served} → Shape setup kernel u call served → is_on_mutex call.which ≡ false → After served
  other-table (says value) e = same_table refl
  other-table (reads number w xs h) e = same_table refl
  other-table (breaks w end) e = same_table refl
  other-table (maps_more w some room) e = same_table refl
  other-table (owns on fit owner) e = absurd (true≢false (sym (on-mutex kernel.owners call.a0 on) ∙ e))
  other-table (wakes ws w) e = same_table refl
  other-table (parks_at w none h) e = same_table (table-given kernel.owners call.a1 None (owner-inside u (owner_of kernel.owners call.a1) h))
  other-table (resumes w waiter there h) e = same_table (table-given kernel.owners call.a1 (Some u) (free-inside (owner_of kernel.owners call.a1) (and_parts waiter.signalled (is_free (owner_of kernel.owners call.a1)) h).1))
  other-table (makes w f n) e = same_table refl
  other-table (joins w value there h) e = same_table refl
  other-table (leaves w) e = same_table refl
  other-table (of_word word value reserved w low store) e = same_table refl
  other-table (waits w) e = tt
  other-table (stops status) e = same_table refl
  other-table (stops_last w) e = same_table refl

  set-table : (o : Option (Option ℕ)) (p : Option ℕ) → owner_of kernel.owners call.a0 ≡ o → is_some o ≡ true → TableAfter kernel.owners call.a0 (with_owner kernel.owners call.a0 p)
  set-table o p e some = same_table (table-given kernel.owners call.a0 p (ap is_some e ∙ some))

  -- one that is new comes last, where there is a place
  new-table : (p : Option ℕ) → owner_of kernel.owners call.a0 ≡ None → (b : Bool) → nat_le 256 (length kernel.owners) ≡ b
      → After (cond b (answers (released kernel u) u call 11) (answers (record (released kernel u) { owners = with_owner kernel.owners call.a0 p }) u call 0))
  new-table p e true full = same_table refl
  new-table p e false full = one_more e (leb-false 256 (length kernel.owners) full) p (comes-last kernel.owners call.a0 p e)

  init-table : (o : Option (Option ℕ)) → owner_of kernel.owners call.a0 ≡ o → After (init_at (released kernel u) u call o)
  init-table None e = new-table None e (nat_le 256 (length kernel.owners)) refl
  init-table (Some owner) e = same_table refl

  lock-table : (o : Option (Option ℕ)) → owner_of kernel.owners call.a0 ≡ o → After (lock_at (released kernel u) u call o)
  lock-table None e = new-table (Some u) e (nat_le 256 (length kernel.owners)) refl
  lock-table (Some None) e = set-table (Some None) (Some u) e refl
  lock-table (Some (Some owner)) e = by (owner == u)
    where
      by : (b : Bool) → After (cond b (answers (released kernel u) u call 35) Blocked)
      by true = same_table refl
      by false = tt

  trylock-table : (o : Option (Option ℕ)) → owner_of kernel.owners call.a0 ≡ o → After (trylock_at (released kernel u) u call o)
  trylock-table None e = new-table (Some u) e (nat_le 256 (length kernel.owners)) refl
  trylock-table (Some None) e = set-table (Some None) (Some u) e refl
  trylock-table (Some (Some owner)) e = same_table refl

  unlock-table : (o : Option (Option ℕ)) → owner_of kernel.owners call.a0 ≡ o → After (unlock_at (released kernel u) u call o)
  unlock-table None e = same_table refl
  unlock-table (Some None) e = same_table refl
  unlock-table (Some (Some owner)) e = by (owner == u)
    where
      by : (b : Bool) → After (cond b (answers (record (released kernel u) { owners = with_owner kernel.owners call.a0 None }) u call 0) (answers (released kernel u) u call 1))
      by true = set-table (Some (Some owner)) None e refl
      by false = same_table refl

  -- first of all its word is looked at
  word-table : (served : Served) → After served → After (on_word setup (released kernel u) u call served)
  word-table served h = by (not (fits (ranges_in setup kernel) call.a0))
    where
      by : (b : Bool) → After (cond b (answers (released kernel u) u call 14) served)
      by true = same_table refl
      by false = h

  which-table : (which : Which) → call.which ≡ which → Shape setup kernel u call (serve_which setup kernel u call which) → After (serve_which setup kernel u call which)
  which-table (Function MutexInit) e shape = word-table _ (init-table (owner_of kernel.owners call.a0) refl)
  which-table (Function Lock) e shape = word-table _ (lock-table (owner_of kernel.owners call.a0) refl)
  which-table (Function TryLock) e shape = word-table _ (trylock-table (owner_of kernel.owners call.a0) refl)
  which-table (Function Unlock) e shape = word-table _ (unlock-table (owner_of kernel.owners call.a0) refl)
  which-table which e shape = other-table shape (ap is_on_mutex e)

  pub serve-table : After (serve setup kernel u call)
  unfolding serve
  serve-table = which-table call.which refl (shape-of setup kernel u call)

-- ---- an event

-- the table after an event by this stop
abbrev pub StopTable : (before : Owners) → Option Stop → (after : Owners) → Type 0
StopTable before (Some (Calls call)) after = TableAfter before call.a0 after
StopTable before stop after = after ≡ before

pub call-table : (kernel : Kernel) (thread : ℕ) (call : Call) (payload : List ℕ) (served : Served) → ServedTable kernel.owners call.a0 served → TableAfter kernel.owners call.a0 (call_event kernel thread call payload served).kernel.owners
call-table kernel thread call payload (Done after effect) h = h
call-table kernel thread call payload (Parked after) h = h
call-table kernel thread call payload Blocked h = same_table refl
call-table kernel thread call payload (Ends after how) h = h

pub event-table : (setup : Setup) (kernel : Kernel) (thread : ℕ) (stop : Stop) (payload : List ℕ) → StopTable kernel.owners (Some stop) (event_of setup kernel thread stop payload).kernel.owners
unfolding event_of
event-table setup kernel thread (Calls call) payload = call-table kernel thread call (put_out call.which payload) (serve setup kernel thread (asked call payload)) (serve-table setup kernel thread (asked call payload))
event-table setup kernel thread (PageFault page) payload = refl
event-table setup kernel thread Watchdog payload = refl
event-table setup kernel thread (Trap code) payload = refl

-- the table has no more than 256 addresses
few-call : (before after : Owners) (a : ℕ) → TableAfter before a after → length before ≤ 256 → length after ≤ 256
few-call before after a (same_table e) few =
    let old = length-mapped (λ (x : ℕ × Option ℕ). x.0) before in
    let new = length-mapped (λ (x : ℕ × Option ℕ). x.0) after in
    let same : length (table_of after) ≡ length (table_of before) = ap length e in
    omega arith
few-call before after a (one_more none place owner e) few = let longer : length after ≡ length before + 1 = ap length e ∙ length-append before ((a, owner) ∷ []) in omega arith

pub few-after : (before after : Owners) (stop : Option Stop) → StopTable before stop after → length before ≤ 256 → length after ≤ 256
few-after before after (Some (Calls call)) h few = few-call before after call.a0 h few
few-after before after (Some (PageFault page)) h few = subst (λ (o : Owners). length o ≤ 256) (sym h) few
few-after before after (Some Watchdog) h few = subst (λ (o : Owners). length o ≤ 256) (sym h) few
few-after before after (Some (Trap code)) h few = subst (λ (o : Owners). length o ≤ 256) (sym h) few
few-after before after None h few = subst (λ (o : Owners). length o ≤ 256) (sym h) few

-- ---- the mutexes that are answered for

-- where all that stand in the table are cooperative, one that comes there is the one that enters
entered-all : (before after : Kernel) (call : Call) → TableAfter before.owners call.a0 after.owners → table_of after.owners ≡ table_of before.owners ++ addresses_of (entered_by in_table before after (Some (Calls call)))
unfolding in_table
entered-all before after call (same_table e) =
    e
    ∙ sym (ap (λ (ms : List Mutex). table_of before.owners ++ addresses_of ms) (never (is_some (owner_of after.owners call.a0)) (is_some (owner_of before.owners call.a0)) _ same)
    ∙ append-nil (table_of before.owners))
  where
    same : is_some (owner_of after.owners call.a0) ≡ is_some (owner_of before.owners call.a0)
    same = in-table after.owners call.a0 ∙ (ap (list_any (λ (n : ℕ). n == call.a0)) e ∙ sym (in-table before.owners call.a0))

    never : (b c : Bool) (ms : List Mutex) → b ≡ c → cond (b && not c) ms [] ≡ []
    never true true ms f = refl
    never true false ms f = absurd (true≢false f)
    never false c ms f = refl
entered-all before after call (one_more none place owner e) =
    ap table_of e
    ∙ (map-append (λ (x : ℕ × Option ℕ). x.0) before.owners ((call.a0, owner) ∷ [])
    ∙ ap (λ (ms : List Mutex). table_of before.owners ++ addresses_of ms) (sym (always (is_some (owner_of after.owners call.a0)) (is_some (owner_of before.owners call.a0)) _ there (ap is_some none))))
  where
    new-there : (owners : Owners) → list_any (λ (n : ℕ). n == call.a0) (table_of (owners ++ (call.a0, owner) ∷ [])) ≡ true
    new-there [] = ap (λ (b : Bool). b || false) (eq-eqb call.a0 call.a0 refl)
    new-there (x ∷ owners) = by (x.0 == call.a0) (new-there owners)
      where
        by : (b : Bool) {c : Bool} → c ≡ true → (b || c) ≡ true
        by true f = refl
        by false f = f

    there : is_some (owner_of after.owners call.a0) ≡ true
    there = ap (λ (o : Owners). is_some (owner_of o call.a0)) e ∙ (in-table (before.owners ++ (call.a0, owner) ∷ []) call.a0 ∙ new-there before.owners)

    always : (b c : Bool) (ms : List Mutex) → b ≡ true → c ≡ false → cond (b && not c) ms [] ≡ ms
    always true false ms f g = refl
    always true true ms f g = absurd (true≢false g)
    always false c ms f g = absurd (false≢true f)

-- by whether mutexes cooperate
entered-by : (b : Bool) (before after : Kernel) (stop : Option Stop) → StopTable before.owners stop after.owners
    → cond b [] (table_of after.owners) ≡ cond b [] (table_of before.owners) ++ addresses_of (entered_by (if b then no_mutex else in_table) before after stop)
unfolding no_mutex
entered-by true before after (Some (Calls call)) h = refl
entered-by false before after (Some (Calls call)) h = entered-all before after call h
entered-by true before after (Some (PageFault page)) h = refl
entered-by false before after (Some (PageFault page)) h = ap table_of h ∙ sym (append-nil (table_of before.owners))
entered-by true before after (Some Watchdog) h = refl
entered-by false before after (Some Watchdog) h = ap table_of h ∙ sym (append-nil (table_of before.owners))
entered-by true before after (Some (Trap code)) h = refl
entered-by false before after (Some (Trap code)) h = ap table_of h ∙ sym (append-nil (table_of before.owners))
entered-by true before after None h = refl
entered-by false before after None h = ap table_of h ∙ sym (append-nil (table_of before.owners))

-- what is answered for are those that are cooperative, as before
pub entered-are : (program : Program) (before after : Kernel) (stop : Option Stop) (ms : List Mutex) → StopTable before.owners stop after.owners → addresses_of ms ≡ cooperative_in program before.owners
    → addresses_of (ms ++ entered_by (chosen_of program) before after stop) ≡ cooperative_in program after.owners
entered-are program before after stop ms h are =
    map-append (λ (m : Mutex). m.address) ms (entered_by (chosen_of program) before after stop)
    ∙ (ap (λ (xs : List ℕ). xs ++ addresses_of (entered_by (chosen_of program) before after stop)) are
    ∙ sym (entered-by (has_otherwise program.image.calls.addresses functions) before after stop h))

-- ---- ranks

in-left : (ms xs : List Mutex) (a : ℕ) (x : Mutex) → mutex_in ms a ≡ Some x → mutex_in (ms ++ xs) a ≡ Some x
in-left [] xs a x e = absurd (let f : None ≡ Some x = e in cc)
in-left (m ∷ ms) xs a x e = by (m.address == a) e (in-left ms xs a x)
  where
    by : (b : Bool) → cond b (Some m) (mutex_in ms a) ≡ Some x → (mutex_in ms a ≡ Some x → mutex_in (ms ++ xs) a ≡ Some x) → cond b (Some m) (mutex_in (ms ++ xs) a) ≡ Some x
    by true f rest = f
    by false f rest = rest f

in-right : (ms xs : List Mutex) (a : ℕ) → mutex_in ms a ≡ None → mutex_in (ms ++ xs) a ≡ mutex_in xs a
in-right [] xs a e = refl
in-right (m ∷ ms) xs a e = by (m.address == a) e (in-right ms xs a)
  where
    by : (b : Bool) → cond b (Some m) (mutex_in ms a) ≡ None → (mutex_in ms a ≡ None → mutex_in (ms ++ xs) a ≡ mutex_in xs a) → cond b (Some m) (mutex_in (ms ++ xs) a) ≡ mutex_in xs a
    by true f rest = absurd (let g : Some m ≡ None = f in cc)
    by false f rest = rest f

-- a mutex that enters was got by none so far
entered-fresh : (chosen : Chosen) (before after : Kernel) (stop : Option Stop) (a : ℕ) → rank_in (entered_by chosen before after stop) a ≡ 0
entered-fresh chosen before after None a = refl
entered-fresh chosen before after (Some (Trap code)) a = refl
entered-fresh chosen before after (Some (PageFault page)) a = refl
entered-fresh chosen before after (Some Watchdog) a = refl
entered-fresh chosen before after (Some (Calls call)) a = bit (is_cooperative chosen after call.a0 && not (is_cooperative chosen before call.a0)) (record { address = call.a0; owner = option_map_or (λ owner. owner) (owner_of after.owners call.a0) None; rank = 0 }) refl
  where
    inner : (c : Bool) (m : Mutex) → m.rank ≡ 0 → option_map_or (λ (x : Mutex). x.rank) (cond c (Some m) None) 0 ≡ 0
    inner true m e = e
    inner false m e = refl

    bit : (b : Bool) (m : Mutex) → m.rank ≡ 0 → rank_in (cond b (m ∷ []) []) a ≡ 0
    bit true m e = inner (m.address == a) m e
    bit false m e = refl

-- so ranks stay as they are
pub entered-rank : (chosen : Chosen) (before after : Kernel) (stop : Option Stop) (ms : List Mutex) (a : ℕ) → rank_in (ms ++ entered_by chosen before after stop) a ≡ rank_in ms a
entered-rank chosen before after stop ms a = by (mutex_in ms a) refl
  where
    by : (o : Option Mutex) → mutex_in ms a ≡ o → rank_in (ms ++ entered_by chosen before after stop) a ≡ rank_in ms a
    by None e =
        ap (λ (o : Option Mutex). option_map_or (λ m. m.rank) o 0) (in-right ms (entered_by chosen before after stop) a e)
        ∙ (entered-fresh chosen before after stop a ∙ sym (ap (λ (o : Option Mutex). option_map_or (λ m. m.rank) o 0) e))
    by (Some x) e =
        ap (λ (o : Option Mutex). option_map_or (λ m. m.rank) o 0) (in-left ms (entered_by chosen before after stop) a x e)
        ∙ sym (ap (λ (o : Option Mutex). option_map_or (λ m. m.rank) o 0) e)

-- ---- stops

-- what is listed hangs on the addresses alone
in-addresses : (ms : List Mutex) (a : ℕ) → is_some (mutex_in ms a) ≡ list_any (λ (n : ℕ). n == a) (addresses_of ms)
in-addresses [] a = refl
in-addresses (m ∷ ms) a = by (m.address == a) (in-addresses ms a)
  where
    by : (b : Bool) → is_some (mutex_in ms a) ≡ list_any (λ (n : ℕ). n == a) (addresses_of ms) → is_some (cond b (Some m) (mutex_in ms a)) ≡ (b || list_any (λ (n : ℕ). n == a) (addresses_of ms))
    by true rest = refl
    by false rest = rest

module _ (ms ns : List Mutex) (same : addresses_of ms ≡ addresses_of ns) where
  same-own : (stop : Stop) → is_own_call ms stop ≡ is_own_call ns stop
  same-own (Calls call) = ap (λ (b : Bool). is_lock_or_unlock call.which && b) (in-addresses ms call.a0 ∙ (ap (list_any (λ (n : ℕ). n == call.a0)) same ∙ sym (in-addresses ns call.a0)))
  same-own (Trap code) = refl
  same-own (PageFault page) = refl
  same-own Watchdog = refl

  -- and so does which stops are voted on
  pub same-voted : (o : Option Stop) → voted ms o ≡ voted ns o
  same-voted None = refl
  same-voted (Some stop) = ap (λ (b : Bool). cond b None (Some stop)) (same-own stop)

-- a stop that is voted on stays
pub voted-twice : (ms : List Mutex) (o : Option Stop) → voted ms (voted ms o) ≡ voted ms o
voted-twice ms None = refl
voted-twice ms (Some stop) = by (is_own_call ms stop) refl
  where
    by : (b : Bool) → is_own_call ms stop ≡ b → voted ms (cond b None (Some stop)) ≡ cond b None (Some stop)
    by true e = refl
    by false e = ap (λ (b : Bool). cond b None (Some stop)) e
