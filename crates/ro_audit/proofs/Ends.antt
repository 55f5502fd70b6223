-- An end that is not allowed, by the rules of the job's mode.
use Rattle.std.proofs.Common.{◌≡◌, ◌⊎◌, inl, inr, ℕ, ◌<◌, ◌≤◌, true, false, true≢false, Option, Some, None, List, [], length, refl, ap, arith}
use Rattle.std.specs.Prelude.{is_some}
use Rattle.ro_event.specs.declared.calls.Call.{Call}
use Rattle.ro_journal.specs.declared.How.{How}
use Rattle.ro_journal.specs.declared.Entry.{Entry}
use Rattle.ro_journal.specs.declared.Entry.TheVariants.{End}
use Rattle.ro_kernel.specs.Kernel.{lives_on}
use Rattle.ro_settings.specs.declared.Mode.TheVariants.{Voted, Cooperative}
use Rattle.ro_legal.specs.declared.actions.Action.TheVariants.{End as DoEnd}
use Rattle.ro_legal.specs.Action.{next_action}
use Rattle.ro_legal.specs.Core.{Job, Core, may_vote, may_free}
use Rattle.ro_legal.specs.Legal.{EndsAlone, EndsFree, may_scrub}
use Rattle.ro_legal.specs.Legal as votes
use Rattle.ro_legal.specs.Cooperative as together
use Rattle.ro_legal.specs.Modes.{Mode, in_mode}
use Rattle.ro_legal.specs.Modes as modes
use Rattle.ro_legal.specs.Rules.{IsFit, Legal, IsAllowed, replay}
use Rattle.ro_legal.proofs.Nexts.{next_due}
use Rattle.ro_legal.proofs.Ordered.{vote-parts, free-parts, ordered}
use Rattle.ro_legal.proofs.Ordered as voted_ordered
use Rattle.ro_legal.proofs.Together.{keeps-replicas}
use Rattle.ro_legal.proofs.TogetherLeases as shared_leases
use Rattle.ro_core.proofs.Tests.{lives-within}
use Rattle.ro_audit.specs.Following.{NotInPlace}

pub none-of : {X : Type 0} (o : Option X) → is_some o ≡ false → o ≡ None
none-of None e = refl
none-of (Some x) e = absurd (true≢false e)

-- what is kept of threads in either mode: there are no more than sixteen, and one that is blocked is live
record HasFew (core : Core) : Type 0 where
  few_lives : length core.kernel.lives ≤ 16
  blocked_live : core.due ≡ None → core.ended ≡ None → (thread : ℕ) (call : Call) → core.blocked thread ≡ Some call → lives_on core.kernel thread ≡ true

has-few : (mode : Mode) (job : Job) (journal : List Entry) → modes.Suits mode job → modes.Legal mode job journal → HasFew (modes.replay mode job journal)
has-few Voted job journal suits legal = let o = ordered job journal legal in record { few_lives = o.few_lives; blocked_live = o.blocked_live }
has-few Cooperative job journal suits legal = let o = keeps-replicas job journal suits.0 legal in record { few_lives = o.few_lives; blocked_live = o.blocked_live }

module _ (job : Job) (core : Core) (o : HasFew core) where
  -- a thread that may be voted on or freed is one of sixteen
  vote-few : (thread : ℕ) → may_vote core thread ≡ true → thread < 16
  vote-few thread may = let m = lives-within core.kernel thread (vote-parts core thread may).live in let few = o.few_lives in omega arith

  free-few : (thread : ℕ) → may_free job core thread ≡ true → thread < 16
  free-few thread may =
      let p = free-parts job core thread may in
      let m = lives-within core.kernel thread (o.blocked_live p.not_due p.not_ended thread p.call p.blocked_on) in
      let few = o.few_lives in
      omega arith

-- no vote, no free and no scrub would end so, by the rules of a mode
record NoneInPlace (mode : Mode) (job : Job) (core : Core) (how : How) : Type 0 where
  vote : (thread : ℕ) → thread < 16 → may_vote core thread ≡ true → modes.EndsVote mode job core thread how → ⊥
  free : (thread : ℕ) → thread < 16 → may_free job core thread ≡ true → EndsFree job core how → ⊥
  scrub : in_mode mode (may_scrub core) false ≡ true → modes.EndsScrub mode core how → ⊥

module _ (job : Job) (core : Core) (how : How) (o : HasFew core) (n : (next_action job core ≡ DoEnd how) ⊎ EndsAlone job core how → ⊥) where
  due-next : core.ended ≡ None → core.due ≡ Some how → ⊥
  due-next open_yet e = n (inl (next_due job core how (ap is_some open_yet) e))

  none-voted : NoneInPlace Voted job core how → core.ended ≡ None → votes.MayEnd job core how → ⊥
  none-voted z open_yet (votes.due e) = due-next open_yet e
  none-voted z open_yet (votes.alone e) = n (inr e)
  none-voted z open_yet (votes.for_vote thread may e) = z.vote thread (vote-few job core o thread may) may e
  none-voted z open_yet (votes.for_free thread may e) = z.free thread (free-few job core o thread may) may e
  none-voted z open_yet (votes.for_scrub may e) = z.scrub may e

  none-shared : NoneInPlace Cooperative job core how → core.ended ≡ None → together.MayEnd job core how → ⊥
  none-shared z open_yet (together.due e) = due-next open_yet e
  none-shared z open_yet (together.alone e) = n (inr e)
  none-shared z open_yet (together.for_vote thread may e) = z.vote thread (vote-few job core o thread may) may e
  none-shared z open_yet (together.for_free thread may e) = z.free thread (free-few job core o thread may) may e

none-in : (mode : Mode) (job : Job) (core : Core) (how : How) → HasFew core → ((next_action job core ≡ DoEnd how) ⊎ EndsAlone job core how → ⊥) → NoneInPlace mode job core how → modes.IsAllowed mode job core (End how) → ⊥
none-in Voted job core how o n z m = none-voted job core how o n z m.0 m.1
none-in Cooperative job core how o n z m = none-shared job core how o n z m.0 m.1

-- an end that is not next, does not come alone, and comes in the place of nothing
pub no-such-end : (job : Job) (journal : List Entry) (how : How) → IsFit job → Legal job journal → ((next_action job (replay job journal) ≡ DoEnd how) ⊎ EndsAlone job (replay job journal) how → ⊥) → NotInPlace job (replay job journal) how → IsAllowed job (replay job journal) (End how) → ⊥
no-such-end job journal how fit legal n z =
    none-in job.settings.mode job (replay job journal) how (has-few job.settings.mode job journal fit legal) n
    (record { vote = λ thread less. (z.threads thread less).0; free = λ thread less. (z.threads thread less).1; scrub = z.scrub })

-- nothing is lent where an end comes
alone-in : (mode : Mode) (job : Job) (journal : List Entry) (how : How) → modes.Suits mode job → modes.Legal mode job journal → modes.IsAllowed mode job (modes.replay mode job journal) (End how) → (modes.replay mode job journal).leases ≡ []
alone-in Voted job journal how suits legal m = voted_ordered.end-alone job (modes.replay Voted job journal) how m.1 (ordered job journal legal)
alone-in Cooperative job journal how suits legal m = shared_leases.end-alone job (modes.replay Cooperative job journal) how m.1 (keeps-replicas job journal suits.0 legal)

pub ends-alone : (job : Job) (journal : List Entry) (how : How) → IsFit job → Legal job journal → IsAllowed job (replay job journal) (End how) → (replay job journal).leases ≡ []
ends-alone job = alone-in job.settings.mode job
