-- The words that threads have reserved by LR.
use Rattle.std.specs.Prelude.{ℕ, Bool, false, ◌&&◌, List, map, Option, Some, None, ◌==◌, if◌then◌else◌, slice_index_or, slice_set}
use Rattle.ro_kernel.specs.declared.reservations.Reservation.{Reservation}

-- the reservation of a thread
abbrev pub reservation_of : List (Option Reservation) → (thread : ℕ) → Option Reservation
reservation_of reserved thread = slice_index_or reserved thread None

-- a thread has reserved this word, and no other
abbrev pub with_reservation : List (Option Reservation) → (thread address word : ℕ) → List (Option Reservation)
with_reservation reserved thread address word = slice_set reserved thread (Some (record { address = address; word = word }))

-- it ends where it is one of this address
abbrev pub unless_at : (address : ℕ) → Option Reservation → Option Reservation
unless_at address None = None
unless_at address (Some reservation) = if reservation.address == address then None else Some reservation

-- all reservations of an address end
abbrev pub without_at : List (Option Reservation) → (address : ℕ) → List (Option Reservation)
without_at reserved address = map (unless_at address) reserved

-- whether an SC succeeds that finds this word at the address
abbrev pub is_reserved : Option Reservation → (address word : ℕ) → Bool
is_reserved None address word = false
is_reserved (Some reservation) address word = (reservation.address == address) && (reservation.word == word)
