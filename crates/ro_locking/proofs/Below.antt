-- What was got by rows below the ceilings is below the ceilings, and got by all rows.
use Rattle.std.specs.Prelude.{◌≡◌, ℕ, ◌<◌, Bool, true, false, nat_lt, if◌then◌else◌, List, [], ◌∷◌, Option, Some, None}
use Rattle.std.specs.Option.{option_and_then}
use Rattle.std.proofs.Common.{refl}
use Rattle.std.proofs.lemmas.Bool.{ltb-true}
use Rattle.ro_orders.specs.Copies.{Rows}
use Rattle.ro_peer.specs.declared.mutexes.Mutex.{Mutex}
use Rattle.ro_peer.specs.Gets.{Get, InRows}
use Rattle.ro_peer.specs.Seen.{number_of, by_address}
use Rattle.ro_peer.proofs.Joining.{in_more_rows}
use Rattle.ro_locking.specs.Asking.{ceiling_of, below}
use Rattle.ro_locking.specs.Got.{IsBelow, AreBelow}
use Rattle.ro_locking.proofs.Adding.{numbers_same, rows_later}

row_below : (ceilings : List ℕ) (rows : Rows) (number rank thread : ℕ) → below ceilings rows number rank ≡ Some thread → (rank < ceiling_of ceilings number) × (rows number rank ≡ Some thread)
row_below ceilings rows number rank thread is = by (nat_lt rank (ceiling_of ceilings number)) refl is
  where
    by : (b : Bool) → nat_lt rank (ceiling_of ceilings number) ≡ b → (if b then rows number rank else None) ≡ Some thread → (rank < ceiling_of ceilings number) × (rows number rank ≡ Some thread)
    by true less e = (ltb-true rank (ceiling_of ceilings number) less, e)
    by false less e = absurd (cc)

pub in_all_rows : (mutexes : List Mutex) (ceilings : List ℕ) (rows : Rows) (gets : List Get) → InRows (by_address mutexes (below ceilings rows)) gets → InRows (by_address mutexes rows) gets
in_all_rows mutexes ceilings rows gets in_rows =
    in_more_rows (by_address mutexes (below ceilings rows)) (by_address mutexes rows) gets
    (rows_later mutexes mutexes (below ceilings rows) rows (numbers_same mutexes) (λ number rank thread is. let row = row_below ceilings rows number rank thread is in row.1))
    in_rows

get_below : (mutexes : List Mutex) (ceilings : List ℕ) (rows : Rows) (get : Get) → by_address mutexes (below ceilings rows) get.mutex get.rank ≡ Some get.thread → IsBelow mutexes ceilings get
get_below mutexes ceilings rows get is = by (number_of mutexes get.mutex) refl is
  where
    by : (o : Option ℕ) → number_of mutexes get.mutex ≡ o → option_and_then (λ number. below ceilings rows number get.rank) o ≡ Some get.thread → IsBelow mutexes ceilings get
    by None there e = absurd (cc)
    by (Some number) there e = let row = row_below ceilings rows number get.rank get.thread e in (number, there, row.0)

pub are_below : (mutexes : List Mutex) (ceilings : List ℕ) (rows : Rows) (gets : List Get) → InRows (by_address mutexes (below ceilings rows)) gets → AreBelow mutexes ceilings gets
are_below mutexes ceilings rows [] in_rows = tt
are_below mutexes ceilings rows (get ∷ gets) in_rows = (get_below mutexes ceilings rows get in_rows.0, are_below mutexes ceilings rows gets in_rows.1)
