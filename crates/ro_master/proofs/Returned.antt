-- A lease that comes back was out, and no end had come.
use Rattle.std.proofs.Common.{◌≡◌, ◌⊎◌, inl, inr, ℕ, true, List, [], None, sym, ap, ◌∙◌, subst}
use Rattle.std.proofs.lemmas.Bool.{true≢false}
use Rattle.std.specs.List.{list_any}
use Rattle.ro_settings.specs.declared.Mode.TheVariants.{Voted, Cooperative}
use Rattle.ro_journal.specs.declared.Entry.{Entry}
use Rattle.ro_journal.specs.declared.Entry.TheVariants.{Put, Part}
use Rattle.ro_journal.specs.declared.Lease.{Lease}
use Rattle.ro_legal.specs.Core.{Job, Core, is_lease}
use Rattle.ro_legal.specs.Laws.{Names}
use Rattle.ro_legal.specs.Modes.{Mode, IsAllowed}
use Rattle.ro_cores.specs.Loans.{Returns}

some_out : (lease : Lease) (leases : List Lease) → list_any (is_lease lease) leases ≡ true → leases ≡ [] → ⊥
some_out lease leases out none = true≢false (sym out ∙ ap (list_any (is_lease lease)) none)

-- what a lease that may come back says of its core
pub record WasOut (core : Core) : Type 0 where
  pub some : core.leases ≡ [] → ⊥
  pub not_ended : core.ended ≡ None

pub was_out : (mode : Mode) (job : Job) (core : Core) (lease : Lease) (entry : Entry) → Returns lease entry → IsAllowed mode job core entry → WasOut core
was_out mode job core lease entry (count, hit, is) may = by mode is may
  where
    by : (mode : Mode) → (entry ≡ Put lease count hit) ⊎ (entry ≡ Part lease count hit) → IsAllowed mode job core entry → WasOut core
    by Voted (inl e) may = let m = subst (IsAllowed Voted job core) e may in record { some = some_out lease core.leases m.returns.out; not_ended = m.returns.not_ended }
    by Voted (inr e) may = let m = subst (IsAllowed Voted job core) e may in record { some = some_out lease core.leases m.returns.out; not_ended = m.returns.not_ended }
    by Cooperative (inl e) may = let m = subst (IsAllowed Cooperative job core) e may in record { some = some_out lease core.leases m.ran.out; not_ended = m.ran.not_ended }
    by Cooperative (inr e) may = let m = subst (IsAllowed Cooperative job core) e may in record { some = some_out lease core.leases m.ran.out; not_ended = m.ran.not_ended }

-- and its entry names the lease's driver
pub names_return : (lease : Lease) (entry : Entry) (number : ℕ) → Returns lease entry → lease.driver ≡ number → Names number entry
names_return lease entry number (count, hit, inl e) driver = subst (Names number) (sym e) driver
names_return lease entry number (count, hit, inr e) driver = subst (Names number) (sym e) driver
