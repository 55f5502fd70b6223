-- What is left of a file from an offset on.
use Rattle.std.proofs.Common.{◌≡◌, ℕ, ◌-◌, ◌≤◌, List, length, take, drop, arith, length-drop}
use Rattle.std.proofs.lemmas.List.{take_all}

pub tail_whole : (bytes : List ℕ) (offset : ℕ) → offset ≤ length bytes → take (length bytes - offset) (drop offset bytes) ≡ drop offset bytes
tail_whole bytes offset h = take_all (length bytes - offset) (drop offset bytes) (omega (arith, length-drop offset bytes))
