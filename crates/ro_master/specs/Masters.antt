-- What a master says once its lock is let go.
use Rattle.std.specs.Prelude.{◌≡◌, ◌+◌, ℕ, List, [], ◌∷◌, length, Option, Some, None, Result, MatchResult, slice_get}
use Rattle.std.specs.declared.alloc.AllocError.{AllocError}
use Rattle.ro_legal.specs.Core.{Job}
use Rattle.ro_legal.specs.Action.{next_action}
use Rattle.ro_core.specs.Seen.{CoreOf}
use Rattle.ro_cores.specs.Cores.{state}
use Rattle.ro_post.specs.declared.posts.Turn.{Turn}
use Rattle.ro_post.specs.declared.posts.Driver.{Driver}
use Rattle.std.specs.Option.{MatchOption}
use Rattle.ro_master.specs.Passes.{PassOf, CountOf, Knew, fresh_pass}
use Rattle.ro_cores.specs.Loans.{LentOf, BackOf, ShareOf, SharedOf, IsShare, IsUnused}
use Rattle.ro_master.specs.Desks.{DeskOf, Tied, Looked, TurnIs, PutIs, TakesMemory, HeldOf, IsAtRest, IsOurs}

-- there was a desk, under the lock, of which the turn did what it answers
pub record TurnDid (start : CoreOf) (r : Result (Turn LentOf) AllocError) (p q : PassOf) : Type 0 where
  pub old : DeskOf
  pub new : DeskOf
  pub tied : Tied start old.core old.count
  pub now : Tied start new.core new.count
  pub did : MatchResult r (λ t. TurnIs t old new p q) (λ _. Looked old new p q × TakesMemory (next_action old.core.job (state old.core)))

-- there was a desk of which the pass has seen all, where what came next may want memory
pub record WantsMemory (start : CoreOf) (p : PassOf) : Type 0 where
  pub desk : DeskOf
  pub tied : Tied start desk.core desk.count
  pub seen : p.seen ≡ desk.count.history
  pub takes : TakesMemory (next_action desk.core.job (state desk.core))

pub record PutDid (start : CoreOf) (back : BackOf) (p q : PassOf) : Type 0 where
  pub old : DeskOf
  pub new : DeskOf
  pub tied : Tied start old.core old.count
  pub now : Tied start new.core new.count
  pub did : PutIs old new p q back

-- The put, where there was a lease, did what it was to do, and the turn behind it what it answers.
pub record NextDid (start : CoreOf) (back : Option BackOf) (r : Result (Turn LentOf) AllocError) (p q : PassOf) : Type 0 where
  pub between : PassOf
  pub put : MatchOption back (between ≡ p) (λ b. PutDid start b p between)
  pub turn : TurnDid start r between q

abbrev pub PassDriver : Type 0
PassDriver = Driver HeldOf

abbrev pub fresh_driver : ℕ → ShareOf → PassDriver
fresh_driver number share = record { pass = record { pass = fresh_pass number; share = share }; outcome = None }

-- a driver for each share, with the numbers from n on
abbrev pub fresh_drivers : ℕ → List ShareOf → List PassDriver
fresh_drivers n [] = []
fresh_drivers n (share ∷ shares) = fresh_driver n share ∷ fresh_drivers (n + 1) shares

-- the shares of so many drivers, by their numbers, none of which was used
pub record AreUnused (shared : SharedOf) (count : ℕ) (shares : List ShareOf) : Type 0 where
  pub count_is : length shares ≡ count
  pub each : (number : ℕ) (share : ShareOf) → slice_get shares number ≡ Some share → IsShare shared number share × IsUnused share

-- each pass knew the history: what it had seen is a beginning of it, and its own places are all that bear its number
abbrev pub AllKnew : CountOf → List PassDriver → Type 0
AllKnew c [] = Unit {0}
AllKnew c (d ∷ ds) = Knew d.pass.pass c × AllKnew c ds

-- the drivers have the numbers from n on, in order, and each is at rest, with its share
abbrev pub AreAll : Job → SharedOf → ℕ → List PassDriver → Type 0
AreAll job shared n [] = Unit {0}
AreAll job shared n (d ∷ ds) = (d.pass.pass.number ≡ n) × IsAtRest job d.pass × IsOurs shared d.pass × AreAll job shared (n + 1) ds
