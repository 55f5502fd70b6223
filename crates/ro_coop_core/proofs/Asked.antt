-- The end that would come in the place of a vote, if one would.
use Rattle.std.proofs.Common.{◌≡◌, ℕ, Some, None, refl, sym, ap, ◌∙◌, subst, arith}
use Rattle.std.specs.Prelude.{◌↔◌}
use Rattle.ro_journal.specs.declared.Did.{Did}
use Rattle.ro_journal.specs.declared.How.{How}
use Rattle.ro_journal.specs.declared.How.TheVariants.{Differ, Limit}
use Rattle.ro_journal.specs.declared.losers.Lost.{Lost}
use Rattle.ro_journal.specs.Plan.{event_steps}
use Rattle.ro_plain.proofs.Calls.{some-injective}
use Rattle.ro_legal.specs.Core.{Job, Core}
use Rattle.ro_legal.specs.Event.{Event}
use Rattle.ro_legal.specs.Cooperative.{MayVote, PassesLimit, EndsVote}

module _ (job : Job) (core : Core) (thread : ℕ) where
  one-limit : (steps steps' next next' : ℕ) → PassesLimit job core thread steps next → PassesLimit job core thread steps' next' → Limit steps next ≡ Limit steps' next'
  one-limit steps steps' next next' p q =
      let event : p.event ≡ q.event = some-injective (sym p.comes ∙ q.comes) in
      ap (λ (n : ℕ). Limit n next) (p.steps_are ∙ sym q.steps_are) ∙ ap (Limit steps') (p.next_is ∙ ap (λ (e : Event). event_steps e.did) event ∙ sym q.next_is)

  -- one end at most comes in the place of a vote
  one-end : (how other : How) → EndsVote job core thread how → EndsVote job core thread other → how ≡ other
  one-end Differ Differ e f = refl
  one-end Differ (Limit steps next) e f = absurd (e f.view f.agreed)
  one-end Differ other e f = absurd f
  one-end (Limit steps next) Differ e f = absurd (f e.view e.agreed)
  one-end (Limit steps next) (Limit steps' next') e f = one-limit steps steps' next next' e f
  one-end (Limit steps next) other e f = absurd f
  one-end how other e f = absurd e

  -- where the views agree and the limit is not passed none does
  no-end : (count won : ℕ) (lost : Lost) (did : Did) → MayVote job core thread count won lost did → (how : How) → EndsVote job core thread how → ⊥
  no-end count won lost did m Differ e = e m.view m.agreed
  no-end count won lost did m (Limit steps next) p =
      let same : event_steps did ≡ event_steps p.event.did = ap event_steps (sym m.did_is ∙ ap (λ (e : Event). e.did) (some-injective (sym m.comes ∙ p.comes))) in
      let fits = m.fits in
      let above = p.above in
      let steps_are = p.steps_are in
      let next_is = p.next_is in
      omega arith
  no-end count won lost did m how e = e

  -- the answer where one end comes
  pub some-end : (how : How) → EndsVote job core thread how → (other : How) → (Some how ≡ Some other) ↔ EndsVote job core thread other
  some-end how e other = (
    λ f. subst (EndsVote job core thread) (some-injective f) e,
    λ f. ap (λ (h : How). Some h) (one-end how other e f),
  )

  -- and where none does
  pub none-ends : (count won : ℕ) (lost : Lost) (did : Did) → MayVote job core thread count won lost did → (other : How) → (None ≡ Some other) ↔ EndsVote job core thread other
  none-ends count won lost did m other = (
    λ f. absurd (let g : None ≡ Some other = f in cc),
    λ e. absurd (no-end count won lost did m other e),
  )
