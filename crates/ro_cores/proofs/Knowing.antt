-- What drivers know of what their own entries got, by the mode of the run.
use Rattle.std.specs.Prelude.{◌≡◌, ℕ, List, [], ◌∷◌, ◌++◌, length, Some, None, slice_get}
use Rattle.std.proofs.Common.{sym, ◌∙◌, subst, inl, inr}
use Rattle.ro_journal.specs.declared.Entry.{Entry}
use Rattle.ro_journal.specs.declared.Entry.TheVariants.{Take}
use Rattle.ro_orders.specs.Copies.{Rows}
use Rattle.ro_legal.specs.Core.{Job, Core}
use Rattle.ro_legal.specs.Jobs.{CanRun}
use Rattle.ro_legal.specs.Modes.{Mode}
use Rattle.ro_legal.specs.Modes as modes
use Rattle.ro_legal.specs.Rules.{IsFit, Legal}
use Rattle.ro_cores.specs.History.{Turned, turned, journal_of, Owned, NoneBy, AreWithin, BringsNone}
use Rattle.ro_cores.specs.Loans.{LentOf, BackOf, ShareOf, SharedOf, lease_in, entry_of, IsLent, Gives, SharesIn, IsShare, IsUnused, AllAgreeWith, Knows, IsJoined}
use Rattle.ro_cores.proofs.Shares.{first-known, others-come, own-comes, joined}
use Rattle.ro_cores.proofs.Bringing.{comes-back}

pub knows-nothing : (job : Job) (number : ℕ) (share : ShareOf) → IsUnused share → Knows job number [] share
knows-nothing = first-known

pub knows-others : (job : Job) (number : ℕ) (history rest : List Turned) (share : ShareOf) → CanRun job → IsFit job → Legal job (journal_of (history ++ rest)) → NoneBy number rest → Knows job number history share → Knows job number (history ++ rest) share
knows-others job number history rest share can fit legal none = others-come job number history rest none share

pub knows-own : (job : Job) (number : ℕ) (history : List Turned) (entry : Entry) (share : ShareOf) → CanRun job → IsFit job → Legal job (journal_of (history ++ turned number entry ∷ [])) → BringsNone entry → Knows job number history share → Knows job number (history ++ turned number entry ∷ []) share
knows-own job number history entry share can fit legal none = own-comes job number history entry share none

pub knows-returns : (job : Job) (number : ℕ) (seen rest : List Turned) (before : List Entry) (core : Core) (lent : LentOf) (old : ShareOf) (back : BackOf) (new : ShareOf) → CanRun job → IsFit job → journal_of seen ≡ before ++ Take (lease_in lent) ∷ [] → (lease_in lent).driver ≡ number → Owned rest → NoneBy number rest
    → Legal job (journal_of ((seen ++ rest) ++ turned number (entry_of core back) ∷ [])) → IsLent job before lent → Gives lent old back new → Knows job number seen old → Knows job number ((seen ++ rest) ++ turned number (entry_of core back) ∷ []) new
knows-returns job number seen rest before core (inl lent) old (inl back) new can fit seen_is driver owned none legal is gives knows =
    subst (Knows job number ((seen ++ rest) ++ turned number (entry_of core (inl back)) ∷ [])) (sym (gives.1 ∙ gives.2)) tt
knows-returns job number seen rest before core (inl lent) old (inr back) new can fit seen_is driver owned none legal is gives knows = absurd gives
knows-returns job number seen rest before core (inr lent) None back new can fit seen_is driver owned none legal is gives knows = absurd gives
knows-returns job number seen rest before core (inr lent) (Some old) (inl back) new can fit seen_is driver owned none legal is gives knows = absurd gives
knows-returns job number seen rest before core (inr lent) (Some old) (inr back) None can fit seen_is driver owned none legal is gives knows = absurd gives
knows-returns job number seen rest before core (inr lent) (Some old) (inr back) (Some new) can fit seen_is driver owned none legal is gives knows =
    let suits = subst (λ (m : Mode). modes.Suits m job) is.0 fit in
    let together = subst (λ (m : Mode). modes.Legal m job (journal_of ((seen ++ rest) ++ turned number (entry_of core (inr back)) ∷ []))) is.0 legal in
    comes-back job number seen rest before lent back old new suits.0 seen_is driver owned none together is.2 gives knows

pub knows-join : (job : Job) (history : List Turned) (rows : Rows) (shares : List ShareOf) (shared : SharedOf) → CanRun job → IsFit job → Legal job (journal_of history) → AreWithin (length shares) history → SharesIn job.settings.mode shared → AllAgreeWith rows shares
    → ((number : ℕ) (share : ShareOf) → slice_get shares number ≡ Some share → IsShare shared number share × Knows job number history share) → IsJoined job (journal_of history)
knows-join job history rows shares shared can fit legal within shared_is agree each = joined job history rows shares agree within job.settings.mode shared shared_is each
