-- Why an entry is not allowed, by the rules of the job's mode.
use Rattle.std.proofs.Common.{◌≡◌, inl, inr, ℕ, Bool, true, false, true≢false, List, [], Option, Some, None, refl, sym, subst}
use Rattle.ro_journal.specs.declared.How.{How}
use Rattle.ro_journal.specs.declared.Entry.{Entry}
use Rattle.ro_journal.specs.declared.Entry.TheVariants.{Put, Part, End}
use Rattle.ro_journal.specs.declared.Lease.{Lease}
use Rattle.ro_settings.specs.declared.Mode.TheVariants.{Voted, Cooperative}
use Rattle.ro_legal.specs.Core.{Job, Core, is_out}
use Rattle.ro_legal.specs.Legal.{may_scrub}
use Rattle.ro_legal.specs.Modes.{Mode, in_mode}
use Rattle.ro_legal.specs.Modes as modes
use Rattle.ro_legal.specs.Rules.{Legal, IsAllowed, DecidesScrub, replay}
use Rattle.ro_legal.proofs.Ordered.{scrub-parts}
use Rattle.ro_cores.specs.Loans.{LentOf, Returns, lease_in}
use Rattle.ro_audit.specs.declared.follower.Why.TheVariants.{NotOut, NoEnd}
use Rattle.ro_audit.specs.Audits.{IsRefused, scrubs}
use Rattle.ro_audit.specs.Following.{Slot}
use Rattle.ro_audit.proofs.Held.{one-each}
use Rattle.ro_audit.proofs.Slots.{none-out, lent-is}

-- ---- a lease that comes back is out, in a mode

put-out : (mode : Mode) (job : Job) (core : Core) (lease : Lease) (count hit : ℕ) → modes.IsAllowed mode job core (Put lease count hit) → is_out core lease ≡ true
put-out Voted job core lease count hit m = m.returns.out
put-out Cooperative job core lease count hit m = m.ran.out

part-out : (mode : Mode) (job : Job) (core : Core) (lease : Lease) (count hit : ℕ) → modes.IsAllowed mode job core (Part lease count hit) → is_out core lease ≡ true
part-out Voted job core lease count hit m = m.returns.out
part-out Cooperative job core lease count hit m = m.ran.out

-- ---- which entry is refused for what

module _ (job : Job) (journal : List Entry) where
  abbrev now : Core
  now = replay job journal

  false-unless : (b : Bool) → (b ≡ true → ⊥) → b ≡ false
  false-unless true none = absurd (none refl)
  false-unless false none = refl

  -- no such lease is out
  not-out : now.ended ≡ None → (lease : Lease) (entry : Entry) → Returns lease entry → (is_out now lease ≡ true → ⊥) → IsRefused job journal entry NotOut
  not-out going lease entry (count, hit, inl e) none =
      subst (λ (x : Entry). IsRefused job journal x NotOut) (sym e) (λ m j. none (put-out job.settings.mode job now lease count hit m), (going, false-unless (is_out now lease) none))
  not-out going lease entry (count, hit, inr e) none =
      subst (λ (x : Entry). IsRefused job journal x NotOut) (sym e) (λ m j. none (part-out job.settings.mode job now lease count hit m), (going, false-unless (is_out now lease) none))

  -- nothing is lent to the driver
  pub none-lent : now.ended ≡ None → (lease : Lease) (entry : Entry) → Returns lease entry → (o : Option LentOf) → o ≡ None → Slot job now lease.driver o → IsRefused job journal entry NotOut
  none-lent going lease entry returns o e s = not-out going lease entry returns (none-out now lease (subst (Slot job now lease.driver) e s))

  -- another lease is
  pub other-lent : now.ended ≡ None → (lease : Lease) (entry : Entry) → Returns lease entry → Legal job journal → (o : Option LentOf) (lent : LentOf) → o ≡ Some lent → Slot job now lease.driver o → (lease_in lent ≡ lease → ⊥) → IsRefused job journal entry NotOut
  other-lent going lease entry returns legal o lent e s fails =
      not-out going lease entry returns (λ out. fails (lent-is job now lease lent (one-each job.settings.mode job journal legal) (subst (Slot job now lease.driver) e s) out))

  pub end-refused : (how : How) → now.ended ≡ None → (IsAllowed job now (End how) → ⊥) → IsRefused job journal (End how) NoEnd
  end-refused how going none = (λ m j. none m, (going, none))

-- ---- a scrub

-- an end in its place decides it
ends-for-scrub : (mode : Mode) (core : Core) (how : How) → modes.EndsScrub mode core how → modes.DecidesScrub mode core (End how)
ends-for-scrub Voted core how ends = ends
ends-for-scrub Cooperative core how ends = absurd ends

pub scrub-end-decides : (job : Job) (core : Core) (how : How) → modes.EndsScrub job.settings.mode core how → DecidesScrub job core (End how)
scrub-end-decides job = ends-for-scrub job.settings.mode

-- nothing is lent where one may be made
alone-for-scrub : (mode : Mode) (core : Core) → in_mode mode (may_scrub core) false ≡ true → core.leases ≡ []
alone-for-scrub Voted core may = (scrub-parts core may).alone
alone-for-scrub Cooperative core may = absurd (true≢false (sym may))

pub scrubs-alone : (job : Job) (core : Core) → scrubs job core ≡ true → core.leases ≡ []
scrubs-alone job = alone-for-scrub job.settings.mode
