-- A pass that was asked in a run is the one before it, with its ceilings.
use Rattle.std.specs.Prelude.{◌≡◌, ℕ, List}
use Rattle.std.proofs.Common.{sym, ap, ◌∙◌}
use Rattle.atomic_table.specs.Seated.{TableId}
use Rattle.ro_lockpage.specs.Pages.{PassOf}
use Rattle.ro_locking.specs.Asking.{Asking, seat_of}

module _ (old new : PassOf) (ceilings : List ℕ) (before after : Asking) (before_is : before ≡ record { pass = old; ceilings = ceilings }) (new_is : new ≡ after.pass) (stays : seat_of after ≡ seat_of before) where
  pub asked-is : after ≡ record { pass = new; ceilings = ceilings }
  asked-is =
      ap (λ (c : List ℕ). record { pass = after.pass; ceilings = c }) (ap (λ (t : TableId × ℕ × List ℕ). t.2) stays ∙ ap (λ (a : Asking). a.ceilings) before_is)
      ∙ ap (λ (p : PassOf). record { pass = p; ceilings = ceilings }) (sym new_is)

  pub same-page : new.page ≡ old.page
  same-page = ap (λ (p : PassOf). p.page) new_is ∙ (ap (λ (t : TableId × ℕ × List ℕ). t.0) stays ∙ ap (λ (a : Asking). a.pass.page) before_is)

  pub same-number : new.number ≡ old.number
  same-number = ap (λ (p : PassOf). p.number) new_is ∙ (ap (λ (t : TableId × ℕ × List ℕ). t.1) stays ∙ ap (λ (a : Asking). a.pass.number) before_is)
