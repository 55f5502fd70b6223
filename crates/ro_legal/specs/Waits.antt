-- How long threads have waited: for how many votes of others since each was voted on or freed itself.
use Rattle.std.specs.Prelude.{◌≡◌, ◌≢◌, ℕ, suc, ◌+◌, ◌≤◌, Bool, ◌==◌, nat_le, if◌then◌else◌, List, [], ◌∷◌, length, Option, Some, None, slice_get, slice_set}
use Rattle.std.specs.List.{fold}
use Rattle.ro_event.specs.declared.calls.Call.{Call}
use Rattle.ro_journal.specs.declared.Entry.{Entry}
use Rattle.ro_journal.specs.declared.Entry.TheVariants.{Vote, Free}
use Rattle.ro_legal.specs.declared.actions.Waits.{Waits}

-- a vote on another thread is one more, an event of its own begins anew
abbrev pub waited_after : (thread waited : ℕ) → Entry → ℕ
waited_after thread waited (Vote voted count won lost did) = if thread == voted then 0 else suc waited
waited_after thread waited (Free freed) = if thread == freed then 0 else waited
waited_after thread waited entry = waited

-- how long a thread has waited behind a journal
abbrev pub waited_of : List Entry → (thread : ℕ) → ℕ
waited_of journal thread = fold (waited_after thread) 0 journal

-- an event of a thread that was blocked is its free, any other a vote
abbrev pub waited_behind : (ℕ → ℕ) → (thread : ℕ) → (blocked : Option Call) → (ℕ → ℕ)
waited_behind waited thread None = λ t. if t == thread then 0 else suc (waited t)
waited_behind waited thread (Some call) = λ t. if t == thread then 0 else waited t

-- a thread that has waited for so many votes is overdue
abbrev pub is_overdue : (waited : ℕ) → Bool
is_overdue waited = nat_le 64 waited

-- what was noted of sixteen threads is how long they have waited
pub record AreWaits (waits : Waits) (waited : ℕ → ℕ) : Type 0 where
  pub count : length waits.since ≡ 16
  pub each : (thread since : ℕ) → slice_get waits.since thread ≡ Some since → since + waited thread ≡ waits.votes

-- how long threads have waited is noted, and no vote but those of so many entries
pub record NotesWaits (waits : Waits) (waited : ℕ → ℕ) (entries : ℕ) : Type 0 where
  pub are : AreWaits waits waited
  pub few : waits.votes ≤ entries

-- An event of a thread, which was blocked on this call if it was, is noted of how long threads wait.
pub record Notes (old new : Waits) (thread : ℕ) (blocked : Option Call) : Type 0 where
  pub waits : (waited : ℕ → ℕ) → AreWaits old waited → AreWaits new (waited_behind waited thread blocked)
  pub since : new.since ≡ slice_set old.since thread new.votes
  pub least : old.votes ≤ new.votes
  pub most : new.votes ≤ old.votes + 1

-- the entry is no vote and no free of the thread
abbrev pub IsOfAnother : (thread : ℕ) → Entry → Type 0
IsOfAnother thread (Vote voted count won lost did) = voted ≢ thread
IsOfAnother thread (Free freed) = freed ≢ thread
IsOfAnother thread entry = Unit {0}

-- how many votes a journal has
abbrev pub votes_in : List Entry → ℕ
votes_in [] = 0
votes_in (Vote voted count won lost did ∷ journal) = suc (votes_in journal)
votes_in (entry ∷ journal) = votes_in journal
