-- The causes of traps and their numbers.
use Rattle.std.specs.Prelude.{ℕ, List, [], ◌∷◌, Option, find, ◌==◌}
use Rattle.ro_event.specs.declared.traps.TrapCause.{TrapCause}
use Rattle.ro_event.specs.declared.traps.TrapCause.TheVariants.{MisalignedPc, ForbiddenFetch, NoInstruction, MisalignedTarget, MisalignedLoad, ForbiddenLoad, MisalignedStore, ForbiddenStore, Breakpoint}

-- the number of a cause in journals and reports
abbrev pub number_of : TrapCause → ℕ
number_of MisalignedPc = 1
number_of ForbiddenFetch = 2
number_of NoInstruction = 3
number_of MisalignedTarget = 4
number_of MisalignedLoad = 5
number_of ForbiddenLoad = 6
number_of MisalignedStore = 7
number_of ForbiddenStore = 8
number_of Breakpoint = 9

abbrev pub causes : List TrapCause
causes = MisalignedPc ∷ ForbiddenFetch ∷ NoInstruction ∷ MisalignedTarget ∷ MisalignedLoad ∷ ForbiddenLoad ∷ MisalignedStore ∷ ForbiddenStore ∷ Breakpoint ∷ []

-- the cause that has a number
unfoldable pub trap_of : ℕ → Option TrapCause
trap_of number = find (λ cause. number_of cause == number) causes
