-- Every address that stands in the table of mutexes is that of a word that can be stored.
use Rattle.std.specs.Prelude.{◌≡◌, ◌==◌, ◌%◌, ⊤, ℕ, true, List, ◌∷◌, Option, Some, None, is_some}
use Rattle.std.proofs.Common.{refl, sym, ap, ◌∙◌, ⊎_elim}
use Rattle.std.proofs.lemmas.Bool.{cases_eq, and_parts, and_from}
use Rattle.ro_event.specs.declared.calls.Call.{Call}
use Rattle.ro_region.specs.declared.Kind.TheVariants.{Write}
use Rattle.ro_region.specs.declared.Range.{Range}
use Rattle.ro_region.specs.Permission.{permits_of}
use Rattle.ro_region.proofs.Wider.{permits-wider}
use Rattle.ro_mutex.specs.Owners.{owner_of, with_owner}
use Rattle.ro_mutex.proofs.Given.{owner_of-other}
use Rattle.ro_kernel.specs.Kernel.{Setup, Kernel, ranges_in}
use Rattle.ro_kernel.specs.Serve.{Served, Done, Parked, Blocked, Ends, mapped, fits, is_owner, is_free, serve}
use Rattle.ro_kernel.proofs.InTable.{InTable}
use Rattle.ro_kernel.proofs.Shapes.{Shape, says, reads, breaks, maps_more, owns, wakes, parks_at, resumes, makes, joins, leaves, of_word, waits, stops, stops_last, shape-of}

abbrev pub TableFits : Setup → Kernel → Type 0
TableFits setup kernel = (m : ℕ) → InTable kernel.owners m → fits (ranges_in setup kernel) m ≡ true

-- so it is after whatever comes of a call
abbrev pub FitsAfter : Setup → Served → Type 0
FitsAfter setup (Done after effect) = TableFits setup after
FitsAfter setup (Parked after) = TableFits setup after
FitsAfter setup Blocked = ⊤
FitsAfter setup (Ends after how) = TableFits setup after

-- an owner is an entry of the table
owner-inside : (u : ℕ) (o : Option (Option ℕ)) → is_owner u o ≡ true → is_some o ≡ true
owner-inside u (Some (Some owner)) h = refl
owner-inside u (Some None) h = refl
owner-inside u None h = h

free-inside : (o : Option (Option ℕ)) → is_free o ≡ true → is_some o ≡ true
free-inside (Some o) h = refl
free-inside None h = h

-- what fits does so with a range more
pub fits-wider : (range : Range) (ranges : List Range) (m : ℕ) → fits ranges m ≡ true → fits (range ∷ ranges) m ≡ true
fits-wider range ranges m h =
    let parts = and_parts (m % 4 == 0) (permits_of ranges Write m 4) h in
    and_from _ _ parts.0 (permits-wider range ranges Write m 4 parts.1)

module _ (setup : Setup) (kernel : Kernel) (table : TableFits setup kernel) where
  -- with an owner set at an address that fits
  fits-set : (a : ℕ) (o : Option ℕ) → fits (ranges_in setup kernel) a ≡ true → (m : ℕ) → InTable (with_owner kernel.owners a o) m → fits (ranges_in setup kernel) m ≡ true
  fits-set a o fit m h =
      ⊎_elim
      (λ same. ap (fits (ranges_in setup kernel)) same ∙ fit)
      (λ other. table m (sym (ap is_some (owner_of-other kernel.owners a m o other)) ∙ h))
      (cases_eq m a)

  module _ (u : ℕ) (call : Call) where
    fits-of : {served : Served} → Shape setup kernel u call served → FitsAfter setup served
    fits-of (says value) = table
    fits-of (reads number e xs h) = table
    fits-of (breaks e end) = table
    fits-of (maps_more e some room) = λ m h. fits-wider (mapped kernel.given call) (ranges_in setup kernel) m (table m h)
    fits-of (owns on fit owner) = fits-set call.a0 owner fit
    fits-of (wakes ws w) = table
    fits-of (parks_at w e h) = fits-set call.a1 None (table call.a1 (owner-inside u (owner_of kernel.owners call.a1) h))
    fits-of (resumes w waiter e h) = fits-set call.a1 (Some u) (table call.a1 (free-inside (owner_of kernel.owners call.a1) (and_parts waiter.signalled (is_free (owner_of kernel.owners call.a1)) h).1))
    fits-of (makes w f n) = table
    fits-of (joins w value e h) = table
    fits-of (leaves w) = table
    fits-of (of_word word value reserved e low store) = table
    fits-of (waits w) = tt
    fits-of (stops status) = table
    fits-of (stops_last w) = table

    pub serve-fits : FitsAfter setup (serve setup kernel u call)
    serve-fits = fits-of (shape-of setup kernel u call)
