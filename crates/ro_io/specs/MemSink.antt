-- A sink over memory.
use Rattle.std.specs.Prelude.{ℕ, ◌+◌, ◌-◌, List, [], ◌∷◌, ◌++◌, length, take, drop, min, max, nat_le, if◌then◌else◌, Option, Some, None}
use Rattle.ro_io.specs.Outside.{risen}
use Rattle.ro_io.specs.declared.mem_sink.Act.{Act}
use Rattle.ro_io.specs.declared.mem_sink.Act.TheVariants.{Take, Fail}

-- the bytes that it holds, for how many in all it has room, what it does at the calls to come, and how often it failed
pub record SinkState : Type 0 where
  pub bytes : List ℕ
  pub room : ℕ
  pub acts : List Act
  pub failures : ℕ

-- how many more bytes a sink surely takes that has so many of its room: none while it has acts to come
abbrev pub room_left : List Act → (room used : ℕ) → ℕ
room_left [] room used = room - used
room_left (act ∷ acts) room used = 0

-- how many bytes of so many the next act takes, if any: all where no act is left
abbrev pub portion_of : List Act → (size : ℕ) → Option ℕ
portion_of [] size = Some size
portion_of (Take most ∷ acts) size = Some (min (max most 1) size)
portion_of (Fail ∷ acts) size = None

-- how many bytes of a piece the sink takes, if any: none of a piece for which it has no room
abbrev pub taken_of : SinkState → (piece : List ℕ) → Option ℕ
taken_of sink piece =
    if nat_le (length sink.bytes + length piece) sink.room then portion_of sink.acts (length piece) else None

-- the sink after it took so many bytes of the piece, or none
abbrev pub after_taking : SinkState → (piece : List ℕ) → Option ℕ → SinkState
after_taking sink piece (Some count) = record sink { bytes = sink.bytes ++ take count piece; acts = drop 1 sink.acts }
after_taking sink piece None = record sink { acts = drop 1 sink.acts; failures = risen sink.failures }

-- the sink after a piece was given to it
abbrev pub after_piece : SinkState → (piece : List ℕ) → SinkState
after_piece sink piece = after_taking sink piece (taken_of sink piece)
