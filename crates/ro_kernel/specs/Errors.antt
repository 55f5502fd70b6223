-- Which answers are errors.
use Rattle.std.specs.Prelude.{ℕ, ◌-◌, ◌^◌, Bool, false, not, ◌&&◌, ◌==◌, if◌then◌else◌, nat_lt, nat_le}
use Rattle.ro_event.specs.declared.calls.Which.{Which}
use Rattle.ro_event.specs.declared.calls.Which.TheVariants.{System, Function, Atomic}
use Rattle.ro_event.specs.declared.functions.Function.TheVariants.{ThreadSelf}

-- a system call moves at most 4096 bytes, so more is an error, but brk answers an address, and so does mmap, below its errors; a
-- function of POSIX threads answers 0 where it did what it was asked, but pthread_self a thread's number; an atomic instruction answers
-- no error
abbrev pub is_error : Which → ℕ → Bool
is_error (System number) value =
    if number == 222 then nat_le (2 ^ 32 - 4095) value
    else not (number == 214) && nat_lt 4096 value
is_error (Function ThreadSelf) value = false
is_error (Atomic word) value = false
is_error _ value = not (value == 0)
