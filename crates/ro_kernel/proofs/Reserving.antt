-- A reservation that is taken and given back leaves the kernel as it was.
use Rattle.std.specs.Prelude.{◌≡◌, ◌<◌, ◌≤◌, ℕ, zero, suc, true, List, [], ◌∷◌, length, Option, None, slice_get, slice_set}
use Rattle.std.proofs.Common.{refl, ap, arith}
use Rattle.std.proofs.lemmas.Bool.{false≢true}
use Rattle.ro_kernel.specs.declared.Life.{Life}
use Rattle.ro_kernel.specs.declared.reservations.Reservation.{Reservation}
use Rattle.ro_kernel.specs.Reserved.{reservation_of}
use Rattle.ro_kernel.specs.Kernel.{Kernel, live_option, lives_on}

-- a thread that lives was made
made-within : (lives : List Life) (t : ℕ) → live_option (slice_get lives t) ≡ true → t < length lives
made-within [] t h = absurd (false≢true h)
made-within (one ∷ lives) zero h = omega arith
made-within (one ∷ lives) (suc t) h = let rest = made-within lives t h in omega arith

pub lives_below : (kernel : Kernel) (t : ℕ) → length kernel.lives ≤ 16 → lives_on kernel t ≡ true → t < 16
lives_below kernel t few h = let within = made-within kernel.lives t h in omega arith

pub given_back : (reserved : List (Option Reservation)) (t : ℕ) → slice_set (slice_set reserved t None) t (reservation_of reserved t) ≡ reserved
given_back [] t = refl
given_back (r ∷ reserved) zero = refl
given_back (r ∷ reserved) (suc t) = ap (λ (rs : List (Option Reservation)). r ∷ rs) (given_back reserved t)
