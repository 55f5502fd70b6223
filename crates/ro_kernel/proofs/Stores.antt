-- What a served call stores, the guest could have stored itself.
use Rattle.std.specs.Prelude.{◌≡◌, ℕ, zero, suc, ◌+◌, ◌≤◌, ◌^◌, ◌%◌, Bool, true, false, cond, not, ◌&&◌, List, [], length, take, ◌==◌, nat_le}
use Rattle.std.proofs.Common.{refl, sym, subst, arith, length-take}
use Rattle.std.proofs.lemmas.Bool.{eqb-true, leb-true, le-leb, and_parts, and_from}
use Rattle.ro_event.specs.declared.calls.Call.{Call}
use Rattle.ro_event.specs.Effects.{Effect}
use Rattle.ro_region.specs.declared.Kind.{Kind}
use Rattle.ro_region.specs.declared.Kind.TheVariants.{Write}
use Rattle.ro_region.specs.declared.Range.{Range}
use Rattle.ro_region.specs.Permission.{permits_byte, permits_each, permits_of}
use Rattle.ro_pages.specs.Bytes.{bytes_of}
use Rattle.ro_kernel.specs.Kernel.{Setup, Kernel, ranges_in}
use Rattle.ro_kernel.specs.Serve.{Served, Done, capped, fits, serve}
use Rattle.ro_kernel.proofs.Yields.{Yields, done, parked, blocked, ends, yields-done}
use Rattle.ro_kernel.proofs.Shapes.{set-by, IsWordStore, stores_none, stores_all, Shape, says, reads, breaks, maps_more, owns, wakes, parks_at, resumes, makes, joins, leaves, of_word, waits, stops, stops_last, shape-of}

-- fewer bytes are permitted too
each-fewer : (ranges : List Range) (kind : Kind) (place more fewer : ℕ) → fewer ≤ more → permits_each ranges kind place more ≡ true → permits_each ranges kind place fewer ≡ true
each-fewer ranges kind place more zero h p = refl
each-fewer ranges kind place zero (suc n) h p = absurd (omega arith)
each-fewer ranges kind place (suc m) (suc n) h p =
    let parts = and_parts (permits_byte ranges kind place) (permits_each ranges kind (place + 1) m) p in
    and_from (permits_byte ranges kind place) (permits_each ranges kind (place + 1) n) parts.0 (each-fewer ranges kind (place + 1) m n (omega arith) parts.1)

permits-fewer : (ranges : List Range) (kind : Kind) (place more fewer : ℕ) → fewer ≤ more → permits_of ranges kind place more ≡ true → permits_of ranges kind place fewer ≡ true
unfolding permits_of
permits-fewer ranges kind place more fewer h p =
    let parts = and_parts (nat_le (place + more) (2 ^ 32)) (permits_each ranges kind place more) p in
    let within : place + more ≤ 2 ^ 32 = leb-true _ _ parts.0 in
    and_from (nat_le (place + fewer) (2 ^ 32)) (permits_each ranges kind place fewer) (le-leb _ _ (omega arith)) (each-fewer ranges kind place more fewer h parts.1)

permits-none : (ranges : List Range) (kind : Kind) → permits_of ranges kind 0 0 ≡ true
unfolding permits_of
permits-none ranges kind = refl

-- every byte that is stored may be written
abbrev pub Stores : List Range → Kernel → Effect → Type 0
Stores ranges after effect = permits_of ranges Write effect.place (length effect.bytes) ≡ true

module _ (setup : Setup) (kernel : Kernel) (thread : ℕ) (call : Call) where
  fits-permits : (p : ℕ) → fits (ranges_in setup kernel) p ≡ true → permits_of (ranges_in setup kernel) Write p 4 ≡ true
  fits-permits p h = (and_parts (p % 4 == 0) (permits_of (ranges_in setup kernel) Write p 4) h).1

  -- the exit value is stored, unless p is 0
  value-fits : (value : ℕ) (b : Bool) → (call.a1 == 0) ≡ b → (not b && not (fits (ranges_in setup kernel) call.a1)) ≡ false → permits_of (ranges_in setup kernel) Write call.a1 (length (cond b [] (bytes_of 4 value))) ≡ true
  value-fits value true e h = subst (λ (a : ℕ). permits_of (ranges_in setup kernel) Write a 0 ≡ true) (sym (eqb-true call.a1 0 e)) (permits-none (ranges_in setup kernel) Write)
  value-fits value false e h = fits-permits call.a1 (set-by _ h)

  -- an atomic instruction stores its word, or nothing
  word-permits : {place : ℕ} {bytes : List ℕ} → IsWordStore (ranges_in setup kernel) call.a0 place bytes → permits_of (ranges_in setup kernel) Write place (length bytes) ≡ true
  word-permits stores_none = permits-none (ranges_in setup kernel) Write
  word-permits (stores_all n fit) = fits-permits call.a0 fit

  stores-of : {served : Served} → Shape setup kernel thread call served → Yields (Stores (ranges_in setup kernel)) served
  stores-of (says value) = done (permits-none (ranges_in setup kernel) Write)
  stores-of (reads number e xs h) = done (permits-fewer (ranges_in setup kernel) Write call.a1 (capped call.a2) (length (take (capped call.a2) xs)) (grind (arith, length-take)) h)
  stores-of (breaks e end) = done (permits-none (ranges_in setup kernel) Write)
  stores-of (maps_more e some room) = done (permits-none (ranges_in setup kernel) Write)
  stores-of (owns on fit owner) = done (permits-none (ranges_in setup kernel) Write)
  stores-of (wakes ws w) = done (permits-none (ranges_in setup kernel) Write)
  stores-of (parks_at w e h) = parked
  stores-of (resumes w waiter e h) = done (permits-none (ranges_in setup kernel) Write)
  stores-of (makes w f n) = done (fits-permits call.a0 f)
  stores-of (joins w value e h) = done (value-fits value (call.a1 == 0) refl h)
  stores-of (leaves w) = done (permits-none (ranges_in setup kernel) Write)
  stores-of (of_word word value reserved e low store) = done (word-permits store)
  stores-of (waits w) = blocked
  stores-of (stops status) = ends
  stores-of (stops_last w) = ends

  pub stores-permitted : (after : Kernel) (effect : Effect) → serve setup kernel thread call ≡ Done after effect → permits_of (ranges_in setup kernel) Write effect.place (length effect.bytes) ≡ true
  stores-permitted after effect e = yields-done (Stores (ranges_in setup kernel)) _ after effect (stores-of (shape-of setup kernel thread call)) e

pub ruleset stores_law = (stores-permitted)
