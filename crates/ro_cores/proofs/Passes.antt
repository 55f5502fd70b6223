-- The passes of a lock page: those of its drivers, and those that are spare.
use Rattle.std.specs.Prelude.{slice_get}
use Rattle.std.proofs.Common.{◌≡◌, ℕ, zero, suc, ◌+◌, ◌-◌, ◌≤◌, List, [], ◌∷◌, ◌++◌, length, take, drop, Some, None, refl, sym, ap, ◌∙◌, subst, arith, append_assoc, append-nil, length-append}
use Rattle.std.proofs.Math.Seq.{take-append_seam, drop-append_seam}
use Rattle.atomic_table.specs.Seated.{TableId}
use Rattle.ro_orders.specs.Copies.{Rows}
use Rattle.ro_lockpage.specs.Pages.{PassOf, fresh_pass, fresh_passes, AreFrom, Agrees, AllAgree, history}
use Rattle.ro_cores.specs.Sharing.{AreSpare}
use Rattle.ro_cores.specs.Loans.{IsShare, IsUnused, AgreesWith}

-- ---- passes by their numbers

from-end : (page : TableId) (n : ℕ) (passes : List PassOf) (last : PassOf) → AreFrom page n passes → last.page ≡ page → last.number ≡ n + length passes → AreFrom page n (passes ++ last ∷ [])
from-end page n [] last from of is = (of, is ∙ omega arith, tt)
from-end page n (p ∷ passes) last from of is = (from.0, from.1, from-end page (n + 1) passes last from.2 of (is ∙ omega arith))

pub from-append : (page : TableId) (n : ℕ) (passes others : List PassOf) → AreFrom page n passes → AreFrom page (n + length passes) others → AreFrom page n (passes ++ others)
from-append page n [] others from more = subst (λ (k : ℕ). AreFrom page k others) (omega arith) more
from-append page n (p ∷ passes) others from more = (from.0, from.1, from-append page (n + 1) passes others from.2 (subst (λ (k : ℕ). AreFrom page k others) (omega arith) more))

-- by the places at which they stand
pub each-from : (page : TableId) (n : ℕ) (passes : List PassOf) → ((number : ℕ) (pass : PassOf) → slice_get passes number ≡ Some pass → (pass.page ≡ page) × (pass.number ≡ n + number)) → AreFrom page n passes
each-from page n [] each = tt
each-from page n (p ∷ passes) each =
    let first = each 0 p refl in
    (first.0, first.1 ∙ omega arith, each-from page (n + 1) passes (λ number pass at. let one = each (suc number) pass at in (one.0, one.1 ∙ omega arith)))

same-pass : (p pass : PassOf) → Some p ≡ Some pass → p ≡ pass
same-pass p pass at = cc

pub get-from : (page : TableId) (n : ℕ) (passes : List PassOf) → AreFrom page n passes → (number : ℕ) (pass : PassOf) → slice_get passes number ≡ Some pass → (pass.page ≡ page) × (pass.number ≡ n + number)
get-from page n [] from number pass at = absurd (let e : None ≡ Some pass = at in cc)
get-from page n (p ∷ passes) from zero pass at =
    let same = same-pass p pass at in
    (ap (λ (q : PassOf). q.page) (sym same) ∙ from.0, ap (λ (q : PassOf). q.number) (sym same) ∙ from.1 ∙ omega arith)
get-from page n (p ∷ passes) from (suc number) pass at = let later = get-from page (n + 1) passes from.2 number pass at in (later.0, later.1 ∙ omega arith)

-- ---- fresh passes

-- so many, with the numbers from n on
abbrev passes_from : TableId → (n count : ℕ) → List PassOf
passes_from page n zero = []
passes_from page n (suc count) = passes_from page n count ++ fresh_pass page (n + count) ∷ []

pub fresh-count : (page : TableId) (n : ℕ) → length (fresh_passes page n) ≡ n
fresh-count page zero = refl
fresh-count page (suc n) = let less = fresh-count page n in omega (arith, length-append (fresh_passes page n) (fresh_pass page n ∷ []))

from-count : (page : TableId) (n count : ℕ) → length (passes_from page n count) ≡ count
from-count page n zero = refl
from-count page n (suc count) = let less = from-count page n count in omega (arith, length-append (passes_from page n count) (fresh_pass page (n + count) ∷ []))

from-numbers : (page : TableId) (n count : ℕ) → AreFrom page n (passes_from page n count)
from-numbers page n zero = tt
from-numbers page n (suc count) = from-end page n (passes_from page n count) (fresh_pass page (n + count)) (from-numbers page n count) refl (ap (λ (k : ℕ). n + k) (sym (from-count page n count)))

fresh-parts : (page : TableId) (n count : ℕ) → fresh_passes page (n + count) ≡ fresh_passes page n ++ passes_from page n count
fresh-parts page n zero = ap (fresh_passes page) {x = n + zero} {y = n} (omega arith) ∙ sym (append-nil (fresh_passes page n))
fresh-parts page n (suc count) =
    ap (fresh_passes page) {x = n + suc count} {y = suc (n + count)} (omega arith)
    ∙ (ap (λ (ps : List PassOf). ps ++ fresh_pass page (n + count) ∷ []) (fresh-parts page n count)
    ∙ append_assoc (fresh_passes page n) (passes_from page n count) (fresh_pass page (n + count) ∷ []))

module _ (page : TableId) (drivers : ℕ) (few : drivers ≤ 8) where
  eight : fresh_passes page 8 ≡ fresh_passes page drivers ++ passes_from page drivers (8 - drivers)
  eight = ap (fresh_passes page) {x = 8} {y = drivers + (8 - drivers)} (omega arith) ∙ fresh-parts page drivers (8 - drivers)

  -- the first are those of the drivers
  pub first-fresh : take drivers (fresh_passes page 8) ≡ fresh_passes page drivers
  first-fresh =
      ap (take drivers) eight
      ∙ (ap (λ (k : ℕ). take k (fresh_passes page drivers ++ passes_from page drivers (8 - drivers))) (sym (fresh-count page drivers))
      ∙ take-append_seam (fresh_passes page drivers) (passes_from page drivers (8 - drivers)))

  -- and the others are spare
  pub others-spare : AreSpare page (drop drivers (fresh_passes page 8)) drivers
  others-spare =
      subst (λ (ps : List PassOf). AreSpare page ps drivers) (sym others)
      (from-numbers page drivers (8 - drivers), (let count = from-count page drivers (8 - drivers) in omega arith))
    where
      others : drop drivers (fresh_passes page 8) ≡ passes_from page drivers (8 - drivers)
      others =
          ap (drop drivers) eight
          ∙ (ap (λ (k : ℕ). drop k (fresh_passes page drivers ++ passes_from page drivers (8 - drivers))) (sym (fresh-count page drivers))
          ∙ drop-append_seam (fresh_passes page drivers) (passes_from page drivers (8 - drivers)))

-- each is one of the page, and unused
abbrev AreUnused : List PassOf → Type 0
AreUnused [] = Unit {0}
AreUnused (p ∷ passes) = IsUnused (Some p) × AreUnused passes

unused-end : (passes : List PassOf) (last : PassOf) → AreUnused passes → IsUnused (Some last) → AreUnused (passes ++ last ∷ [])
unused-end [] last all is = (is, tt)
unused-end (p ∷ passes) last all is = (all.0, unused-end passes last all.1 is)

fresh-unused : (page : TableId) (n : ℕ) → AreUnused (fresh_passes page n)
fresh-unused page zero = tt
fresh-unused page (suc n) = unused-end (fresh_passes page n) (fresh_pass page n) (fresh-unused page n) (refl, refl)

get-unused : (passes : List PassOf) → AreUnused passes → (number : ℕ) (pass : PassOf) → slice_get passes number ≡ Some pass → IsUnused (Some pass)
get-unused [] all number pass at = absurd (let e : None ≡ Some pass = at in cc)
get-unused (p ∷ passes) all zero pass at = subst (λ (q : PassOf). IsUnused (Some q)) (same-pass p pass at) all.0
get-unused (p ∷ passes) all (suc number) pass at = get-unused passes all.1 number pass at

fresh-from : (page : TableId) (n : ℕ) → AreFrom page 0 (fresh_passes page n)
fresh-from page zero = tt
fresh-from page (suc n) = from-end page 0 (fresh_passes page n) (fresh_pass page n) (fresh-from page n) refl (let count = fresh-count page n in omega arith)

pub each-unused : (page : TableId) (n number : ℕ) (pass : PassOf) → slice_get (fresh_passes page n) number ≡ Some pass → IsShare (Some page) number (Some pass) × IsUnused (Some pass)
each-unused page n number pass at =
    let its = get-from page 0 (fresh_passes page n) (fresh-from page n) number pass at in
    ((its.0, its.1 ∙ omega arith), get-unused (fresh_passes page n) (fresh-unused page n) number pass at)

-- ---- all passes

-- those that were gathered into an empty room, one list behind the other
pub gathered : (room passes others spare first all : List PassOf) → room ≡ [] → others ≡ spare → first ≡ room ++ passes → all ≡ first ++ others → all ≡ passes ++ spare
gathered room passes others spare first all empty same one both =
    both ∙ (ap (λ (ps : List PassOf). ps ++ others) (one ∙ ap (λ (ps : List PassOf). ps ++ passes) empty) ∙ ap (λ (ps : List PassOf). passes ++ ps) same)

-- those of the drivers, and behind them those that are spare
pub all-eight : (page : TableId) (passes spare all : List PassOf) → all ≡ passes ++ spare → AreFrom page 0 passes → AreSpare page spare (length passes) → AreFrom page 0 all × (length all ≡ 8)
all-eight page passes spare all is from others = (
  subst (AreFrom page 0) (sym is) (from-append page 0 passes spare from (subst (λ (k : ℕ). AreFrom page k spare) (omega arith) others.0)),
  (let long = ap length is in let sum = others.1 in omega (arith, length-append passes spare)),
)

pub agree-front : (rows : Rows) (passes others : List PassOf) → AllAgree rows (passes ++ others) → AllAgree rows passes
agree-front rows [] others all = tt
agree-front rows (p ∷ passes) others all = (all.0, agree-front rows passes others all.1)

pub each-agrees : (rows : Rows) (passes : List PassOf) → AllAgree rows passes → (number : ℕ) (pass : PassOf) → slice_get passes number ≡ Some pass → AgreesWith rows (Some pass)
each-agrees rows [] all number pass at = absurd (let e : None ≡ Some pass = at in cc)
each-agrees rows (p ∷ passes) all zero pass at = subst (λ (q : PassOf). Agrees q.known rows) (same-pass p pass at) all.0
each-agrees rows (p ∷ passes) all (suc number) pass at = each-agrees rows passes all.1 number pass at

pub front-agrees : (passes spare all : List PassOf) → all ≡ passes ++ spare → AllAgree (history all) all → (rows : Rows) × AllAgree rows passes
front-agrees passes spare all is known = (history all, agree-front (history all) passes spare (subst (AllAgree (history all)) is known))
