-- What a driver's share knows while nothing is got by its own entries, and what all shares know together.
use Rattle.std.specs.Prelude.{◌≡◌, ⊤, ℕ, List, [], ◌∷◌, ◌++◌, length, Some, None, slice_get}
use Rattle.std.proofs.Common.{sym, ap, ◌∙◌, subst, append-nil}
use Rattle.std.proofs.lemmas.Bool.{false≢true}
use Rattle.atomic_table.specs.Seated.{TableId}
use Rattle.ro_settings.specs.declared.Mode.TheVariants.{Voted, Cooperative}
use Rattle.ro_journal.specs.declared.Entry.{Entry}
use Rattle.ro_plain.proofs.Places.{get-within}
use Rattle.ro_orders.specs.Copies.{Rows}
use Rattle.ro_peer.specs.declared.mutexes.Mutex.{Mutex}
use Rattle.ro_peer.specs.Gets.{Get, InRows}
use Rattle.ro_peer.specs.Seen.{by_address}
use Rattle.ro_peer.proofs.Joining.{in_more_rows}
use Rattle.ro_locking.specs.Asking.{known_by}
use Rattle.ro_locking.specs.Got.{HasGot, KeepsNumbers}
use Rattle.ro_locking.proofs.Adding.{numbers_same, rows_later, gets_first, gets_later}
use Rattle.ro_legal.specs.Core.{Job, Core}
use Rattle.ro_legal.specs.Modes.{Mode, InMode}
use Rattle.ro_legal.specs.Cooperative as together
use Rattle.ro_cores.specs.History.{Turned, turned, journal_of, NoneBy, AreWithin, BringsNone}
use Rattle.ro_cores.specs.Loans.{ShareOf, SharedOf, SharesIn, IsShare, IsUnused, AllAgreeWith, mutexes_in, gets_along, gets_by, Knows}
use Rattle.ro_cores.proofs.Numbers.{first_of, numbers-along}
use Rattle.ro_cores.proofs.Getting.{journal-append, replay-append, gets-append, gets-none, gets-own, brings-none, all-in-rows}

-- ---- at first, and along entries by which nothing was got

pub first-known : (job : Job) (number : ℕ) (share : ShareOf) → IsUnused share → Knows job number [] share
first-known job number None unused = tt
first-known job number (Some pass) unused = gets_first (mutexes_in job []) pass unused.1

module _ (job : Job) (number : ℕ) (history rest : List Turned) where
  -- the core before the rest, and the one behind it
  abbrev amid : Core
  amid = together.replay job (journal_of history)

  replay-is : together.replay job (journal_of (history ++ rest)) ≡ together.replay_from job amid (journal_of rest)
  replay-is = ap (together.replay job) (journal-append history rest) ∙ replay-append job (together.opening_core job) (journal_of history) (journal_of rest)

  pub numbers-stay : KeepsNumbers (mutexes_in job (journal_of history)) (mutexes_in job (journal_of (history ++ rest)))
  numbers-stay =
      subst (λ (core : Core). KeepsNumbers (mutexes_in job (journal_of history)) (first_of core.sides)) (sym replay-is)
      (numbers-along job amid (journal_of rest))

  pub gets-are : gets_by job number (history ++ rest) ≡ gets_by job number history ++ gets_along job amid number rest
  gets-are = gets-append job (together.opening_core job) number history rest

  knows-on : gets_along job amid number rest ≡ [] → (share : ShareOf) → Knows job number history share → Knows job number (history ++ rest) share
  knows-on none None knows = tt
  knows-on none (Some pass) knows =
      subst (HasGot (mutexes_in job (journal_of (history ++ rest))) pass)
      (sym (gets-are ∙ (ap (λ (more : List Get). gets_by job number history ++ more) none ∙ append-nil (gets_by job number history))))
      (gets_later (mutexes_in job (journal_of history)) (mutexes_in job (journal_of (history ++ rest))) pass (gets_by job number history) numbers-stay knows)

  pub others-come : NoneBy number rest → (share : ShareOf) → Knows job number history share → Knows job number (history ++ rest) share
  others-come none = knows-on (gets-none job amid number rest none)

pub own-comes : (job : Job) (number : ℕ) (history : List Turned) (entry : Entry) (share : ShareOf) → BringsNone entry → Knows job number history share → Knows job number (history ++ turned number entry ∷ []) share
own-comes job number history entry share none =
    let core : Core = together.replay job (journal_of history) in
    knows-on job number history (turned number entry ∷ []) (gets-own job core number entry ∙ brings-none job core entry none) share

-- ---- what stands in the rows

module _ (job : Job) (history : List Turned) (rows : Rows) (shares : List ShareOf) (agree : AllAgreeWith rows shares) where
  -- the rows by addresses
  abbrev its-rows : Rows
  its-rows = by_address (mutexes_in job (journal_of history)) rows

  gets-in : (page : TableId) (number : ℕ) (share : ShareOf) → slice_get shares number ≡ Some share → IsShare (Some page) number share → Knows job number history share → InRows its-rows (gets_by job number history)
  gets-in page number None there is knows = absurd is
  gets-in page number (Some pass) there is knows =
      let mutexes : List Mutex = mutexes_in job (journal_of history) in
      in_more_rows (by_address mutexes (known_by pass)) its-rows (gets_by job number history)
      (rows_later mutexes mutexes (known_by pass) rows (numbers_same mutexes) (agree number (Some pass) there))
      knows.in_rows

  pub joined : AreWithin (length shares) history → (mode : Mode) (shared : SharedOf) → SharesIn mode shared
      → ((number : ℕ) (share : ShareOf) → slice_get shares number ≡ Some share → IsShare shared number share × Knows job number history share)
      → InMode mode ⊤ ((rows : Rows) × InRows rows (together.gets_from job (together.opening_core job) (journal_of history)))
  joined within Voted shared shares_are each = tt
  joined within Cooperative None shares_are each = absurd (false≢true shares_are)
  joined within Cooperative (Some page) shares_are each = (
    its-rows,
    all-in-rows job (together.opening_core job) its-rows (length shares) history within (λ number less.
        let its = get-within shares number less in
        let facts = each number its.0 its.1 in
        gets-in page number its.0 its.1 facts.0 facts.1),
  )
