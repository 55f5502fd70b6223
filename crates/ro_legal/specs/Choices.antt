-- What a cooperative core does next: which entry decides a vote or a free, and which comes next.
use Rattle.std.specs.Prelude.{◌≡◌, ◌⊎◌, ℕ, List, [], ◌∷◌}
use Rattle.ro_journal.specs.declared.Entry.{Entry}
use Rattle.ro_journal.specs.declared.Entry.TheVariants.{Take, Put, Part, Vote, Free, Scrub, End}
use Rattle.ro_legal.specs.declared.actions.Action.TheVariants.{Vote as DoVote, Free as DoFree, Lend, End as DoEnd}
use Rattle.ro_legal.specs.Core.{Job, Core}
use Rattle.ro_legal.specs.Legal.{EndsFree, EndsSink}
use Rattle.ro_legal.specs.Action.{next_action}
use Rattle.ro_legal.specs.Cooperative.{EndsVote, after}

-- the entry decides the vote on a thread: the vote itself, or an end in its place
abbrev pub DecidesVote : Job → Core → (thread : ℕ) → Entry → Type 0
DecidesVote job core thread (Vote voted count won lost did) = voted ≡ thread
DecidesVote job core thread (End how) = EndsVote job core thread how
DecidesVote job core thread _ = ⊥

-- the entry frees a thread, or is an end in its place
abbrev pub DecidesFree : Job → Core → (thread : ℕ) → Entry → Type 0
DecidesFree job core thread (Free freed) = freed ≡ thread
DecidesFree job core thread (End how) = EndsFree job core how
DecidesFree job core thread _ = ⊥

-- the entry is what the core does next, or the end that comes in its place; a lease comes back at any time
abbrev pub IsNext : Job → Core → Entry → Type 0
IsNext job core (Take lease) = next_action job core ≡ Lend lease.replica lease.thread
IsNext job core (Put lease count hit) = Unit {0}
IsNext job core (Part lease count hit) = Unit {0}
IsNext job core (Vote thread count won lost did) = next_action job core ≡ DoVote thread
IsNext job core (Free thread) = next_action job core ≡ DoFree thread
IsNext job core (Scrub won lost) = ⊥
IsNext job core (End how) =
    (next_action job core ≡ DoEnd how) ⊎ EndsSink core how
    ⊎ ((thread : ℕ) × (next_action job core ≡ DoVote thread) × EndsVote job core thread how)
    ⊎ ((thread : ℕ) × (next_action job core ≡ DoFree thread) × EndsFree job core how)

abbrev pub EachIsNext : Job → Core → List Entry → Type 0
EachIsNext job core [] = Unit {0}
EachIsNext job core (entry ∷ journal) = IsNext job core entry × EachIsNext job (after job core entry) journal
