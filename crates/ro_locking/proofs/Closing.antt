-- What was got, and the rows of a page that is closed.
use Rattle.std.specs.Prelude.{◌≡◌, ℕ, zero, suc, ◌<◌, ◌==◌, Bool, true, false, cond, List, [], ◌∷◌, Option, Some, None, Contains, length, slice_get, slice_index_or}
use Rattle.std.specs.Option.{option_map, option_and_then}
use Rattle.std.proofs.Common.{refl, sym, ap, ◌∙◌, subst, arith, inl, inr, ⊎_elim}
use Rattle.std.proofs.lemmas.Bool.{eqb-true}
use Rattle.std.proofs.lemmas.Option.{slice_get_within}
use Rattle.ro_orders.specs.Copies.{Rows}
use Rattle.ro_lockpage.specs.Ranks.{Ranks, map_of}
use Rattle.ro_lockpage.specs.Pages.{PassOf, AllAgree, all_won, history}
use Rattle.ro_lockpage.proofs.Notes.{none-some}
use Rattle.ro_peer.specs.declared.mutexes.Mutex.{Mutex}
use Rattle.ro_peer.specs.Gets.{Get, InRows}
use Rattle.ro_peer.specs.Seen.{number_of, by_address}
use Rattle.ro_peer.specs.Leases.{KeepsRows, IsAmong}
use Rattle.ro_peer.proofs.Joining.{in_more_rows}
use Rattle.ro_locking.specs.Asking.{known_by, won_by}
use Rattle.ro_locking.specs.Got.{AllGot, AreAmong}
use Rattle.ro_locking.proofs.Deciding.{map_either}
use Rattle.ro_locking.proofs.Adding.{numbers_same, rows_later}

-- ---- each get is in the rows

pass_at : (passes : List PassOf) (place : ℕ) → place < length passes → (pass : PassOf) × (slice_get passes place ≡ Some pass)
pass_at [] place within = absurd (omega arith)
pass_at (pass ∷ passes) zero within = (pass, refl)
pass_at (pass ∷ passes) (suc place) within = pass_at passes place (omega arith)

pub agrees_at : (ranks : Ranks) (passes : List PassOf) (place : ℕ) (pass : PassOf) → AllAgree ranks passes → slice_get passes place ≡ Some pass → KeepsRows (known_by pass) ranks
agrees_at ranks [] place pass agree e = absurd (cc)
agrees_at ranks (first ∷ passes) zero pass agree e = let same : first ≡ pass = cc in subst (λ (p : PassOf). KeepsRows (known_by p) ranks) same agree.0
agrees_at ranks (first ∷ passes) (suc place) pass agree e = agrees_at ranks passes place pass agree.1 e

row_of_get : (rows : Rows) (gets : List Get) (get : Get) (k : ℕ) → InRows rows gets → k < length gets → slice_index_or gets k get ≡ get → rows get.mutex get.rank ≡ Some get.thread
row_of_get rows [] get k in_rows within is = absurd (omega arith)
row_of_get rows (first ∷ gets) get zero in_rows within is = subst (λ (g : Get). rows g.mutex g.rank ≡ Some g.thread) is in_rows.0
row_of_get rows (first ∷ gets) get (suc k) in_rows within is = row_of_get rows gets get k in_rows.1 (omega arith) is

all_in_rows : (rows : Rows) (all : List Get) → ((get : Get) → Contains all get → rows get.mutex get.rank ≡ Some get.thread) → InRows rows all
all_in_rows rows [] each = tt
all_in_rows rows (get ∷ all) each = (each get (0, omega arith, refl), all_in_rows rows all (λ other there. let within = there.1 in each other (suc there.0, omega arith, there.2)))

pub gets_in_rows : (mutexes : List Mutex) (passes : List PassOf) (gets : ℕ → List Get) (all : List Get) → AllAgree (history passes) passes → AllGot mutexes passes gets → AreAmong (length passes) gets all → InRows (by_address mutexes (history passes)) all
gets_in_rows mutexes passes gets all agree got among =
    all_in_rows (by_address mutexes (history passes)) all
    (λ get there. by get (among get there))
  where
    by : (get : Get) → (place : ℕ) × (place < length passes) × Contains (gets place) get → by_address mutexes (history passes) get.mutex get.rank ≡ Some get.thread
    by get (place, within, inside) =
        let its = pass_at passes place within in
        let pass : PassOf = its.0 in
        row_of_get (by_address mutexes (history passes)) (gets place) get inside.0
        (in_more_rows (by_address mutexes (known_by pass)) (by_address mutexes (history passes)) (gets place)
        (rows_later mutexes mutexes (known_by pass) (history passes) (numbers_same mutexes) (agrees_at (history passes) passes place pass agree its.1))
        (got place pass its.1).in_rows)
        inside.1 inside.2

-- ---- each row was got

pub won_by_one : (passes : List PassOf) (number rank thread : ℕ) → history passes number rank ≡ Some thread → (place : ℕ) × (pass : PassOf) × (slice_get passes place ≡ Some pass) × won_by pass number rank thread
won_by_one [] number rank thread is = absurd (none-some thread is)
won_by_one (pass ∷ passes) number rank thread is =
    ⊎_elim
    (λ (here : map_of pass.won number rank ≡ Some thread). (0, pass, refl, here))
    (λ (later : map_of (all_won passes) number rank ≡ Some thread). let one = won_by_one passes number rank thread later in (suc one.0, one.1, one.2, one.3))
    (map_either pass.won (all_won passes) number rank thread is)

-- a number is that of one address
same_address : (mutexes : List Mutex) (one two number : ℕ) → number_of mutexes one ≡ Some number → number_of mutexes two ≡ Some number → one ≡ two
same_address [] one two number e f = absurd (cc)
same_address (m ∷ mutexes) one two number e f = by (m.address == one) (m.address == two) (number_of mutexes one) (number_of mutexes two) refl refl refl refl (same_address mutexes one two) number e f
  where
    by : (b c : Bool) (o p : Option ℕ) → (m.address == one) ≡ b → (m.address == two) ≡ c → number_of mutexes one ≡ o → number_of mutexes two ≡ p → ((k : ℕ) → number_of mutexes one ≡ Some k → number_of mutexes two ≡ Some k → one ≡ two) → (n : ℕ) → cond b (Some 0) (option_map suc o) ≡ Some n → cond c (Some 0) (option_map suc p) ≡ Some n → one ≡ two
    by true true o p is_one is_two at_one at_two rest n e f = sym (eqb-true m.address one is_one) ∙ eqb-true m.address two is_two
    by true false o None is_one is_two at_one at_two rest n e f = absurd (cc)
    by true false o (Some k) is_one is_two at_one at_two rest n e f = absurd (let first : 0 ≡ n = cc in let later : suc k ≡ n = cc in omega arith)
    by false c None p is_one is_two at_one at_two rest n e f = absurd (cc)
    by false true (Some j) p is_one is_two at_one at_two rest n e f = absurd (let later : suc j ≡ n = cc in let first : 0 ≡ n = cc in omega arith)
    by false false (Some j) None is_one is_two at_one at_two rest n e f = absurd (cc)
    by false false (Some j) (Some k) is_one is_two at_one at_two rest n e f = let left : suc j ≡ n = cc in let right : suc k ≡ n = cc in let same : k ≡ j = omega arith in rest j at_one (at_two ∙ ap Some same)

contains_among : (mutexes : List Mutex) (gets : List Get) (address number rank thread : ℕ) → number_of mutexes address ≡ Some number → IsAmong mutexes gets number rank thread → Contains gets (record { mutex = address; rank = rank; thread = thread })
contains_among mutexes [] address number rank thread there is = absurd is
contains_among mutexes (get ∷ gets) address number rank thread there (inl here) =
    let same : get.mutex ≡ address = same_address mutexes get.mutex address number here.0 there in
    let is : get ≡ record { mutex = address; rank = rank; thread = thread } = λ i. record { mutex = same i; rank = here.1 i; thread = here.2 i } in
    (0, omega arith, is)
contains_among mutexes (get ∷ gets) address number rank thread there (inr later) =
    let at = contains_among mutexes gets address number rank thread there later in
    let within = at.1 in
    (suc at.0, omega arith, at.2)

pub rows_got : (mutexes : List Mutex) (passes : List PassOf) (gets : ℕ → List Get) → AllGot mutexes passes gets → (address rank thread : ℕ) → by_address mutexes (history passes) address rank ≡ Some thread
    → (place : ℕ) × (place < length passes) × Contains (gets place) (record { mutex = address; rank = rank; thread = thread })
rows_got mutexes passes gets got address rank thread is = by (number_of mutexes address) refl is
  where
    by : (o : Option ℕ) → number_of mutexes address ≡ o → option_and_then (λ number. history passes number rank) o ≡ Some thread → (place : ℕ) × (place < length passes) × Contains (gets place) (record { mutex = address; rank = rank; thread = thread })
    by None there e = absurd (cc)
    by (Some number) there e =
        let one = won_by_one passes number rank thread e in
        (one.0, slice_get_within passes one.0 one.1 one.2, contains_among mutexes (gets one.0) address number rank thread there ((got one.0 one.1 one.2).won number rank thread one.3))
