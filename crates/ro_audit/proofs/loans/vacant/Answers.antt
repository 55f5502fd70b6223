use Rattle.std.proofs.Common.{◌≡◌, ◌∷◌, [], ℕ, List, length, None, sym, ap, ◌+◌, ◌∙◌, subst, length-append}
use Rattle.std.specs.Prelude.{slice_index_or, Option}
use Rattle.ro_cores.specs.Loans.{LentOf}
use Rattle.ro_audit.proofs.Slots.{vacant-more}
use Rattle.ro_audit.proofs.loans.vacant.Goals as goal

pub loop-preserved : goal.loop-preserved
loop-preserved g c =
    let i = c.loop.invariant in
    let items = c.in_ok-push.ensures.items in (
      ap length items ∙ length-append c.loop.lent.items (None ∷ []) ∙ ap (λ (n : ℕ). n + 1) i.0,
      subst (λ (xs : List (Option LentOf)). (driver : ℕ) → slice_index_or xs driver None ≡ None) (sym items) (vacant-more c.loop.lent.items i.1),
    )
