use Rattle.std.proofs.Common.{◌≡◌, ℕ, Some, [], length}
use Rattle.std.specs.Prelude.{slice_get}
use Rattle.ro_core.specs.declared.wishing.Wish.{Wish}
use Rattle.ro_core.proofs.opening.blank_wishes.Given as goal

abbrev pub invariant-loop : goal.invariant-loop
invariant-loop l = (length l.wishes.items ≡ l.counter) × ((place : ℕ) (wish : Wish) → slice_get l.wishes.items place ≡ Some wish → (wish.pages.items ≡ []) × (wish.misses ≡ 0))
