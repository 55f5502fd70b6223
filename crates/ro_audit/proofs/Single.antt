-- A vote, a free or a scrub comes to one entry, or to one end in its place, by the rules of the job's mode.
use Rattle.std.proofs.Common.{◌≡◌, ℕ, refl, sym, ap, ◌∙◌, subst, arith}
use Rattle.ro_journal.specs.declared.Did.{Did}
use Rattle.ro_journal.specs.declared.How.{How}
use Rattle.ro_journal.specs.declared.How.TheVariants.{Limit, Differ}
use Rattle.ro_journal.specs.declared.Entry.{Entry}
use Rattle.ro_journal.specs.declared.Entry.TheVariants.{Vote, Free, End}
use Rattle.ro_journal.specs.declared.losers.Lost.{Lost}
use Rattle.ro_journal.specs.Plan.{event_steps}
use Rattle.ro_settings.specs.declared.Mode.TheVariants.{Voted, Cooperative}
use Rattle.ro_plain.proofs.Calls.{some-injective}
use Rattle.ro_legal.specs.Core.{Job, Core}
use Rattle.ro_legal.specs.Event.{Event}
use Rattle.ro_legal.specs.Legal.{EndsFree}
use Rattle.ro_legal.specs.Cooperative.{MayVote, MayFree, PassesLimit, EndsVote, IsAllowed}
use Rattle.ro_legal.specs.Choices.{DecidesVote, DecidesFree}
use Rattle.ro_legal.specs.Modes as modes
use Rattle.ro_legal.specs.Modes.{Mode}
use Rattle.ro_legal.proofs.Single as votes

-- ---- a vote of a cooperative run

module _ (job : Job) (core : Core) (thread : ℕ) where
  -- the vote is one
  one-vote : (count count' won won' : ℕ) (lost lost' : Lost) (did did' : Did) → MayVote job core thread count won lost did → MayVote job core thread count' won' lost' did' → Vote thread count won lost did ≡ Vote thread count' won' lost' did'
  one-vote count count' won won' lost lost' did did' m n =
      let c : count ≡ count' = some-injective (sym m.count_is ∙ n.count_is) in
      let w : won ≡ won' = m.first ∙ sym n.first in
      let l : lost ≡ lost' = m.none_lost ∙ sym n.none_lost in
      let d : did ≡ did' = sym m.did_is ∙ ap (λ (e : Event). e.did) (some-injective (sym m.comes ∙ n.comes)) ∙ n.did_is in
      ap (λ (x : ℕ). Vote thread x won lost did) c ∙ ap (λ (x : ℕ). Vote thread count' x lost did) w ∙ ap (λ (x : Lost). Vote thread count' won' x did) l ∙ ap (Vote thread count' won' lost') d

  one-limit : (steps steps' next next' : ℕ) → PassesLimit job core thread steps next → PassesLimit job core thread steps' next' → Limit steps next ≡ Limit steps' next'
  one-limit steps steps' next next' p q =
      let n : next ≡ next' = p.next_is ∙ ap (λ (e : Event). event_steps e.did) (some-injective (sym p.comes ∙ q.comes)) ∙ sym q.next_is in
      ap (λ (x : ℕ). Limit x next) (p.steps_are ∙ sym q.steps_are) ∙ ap (Limit steps') n

  -- where the vote fits into the limit no end comes in its place
  no-end : (count won : ℕ) (lost : Lost) (did : Did) → MayVote job core thread count won lost did → (how : How) → EndsVote job core thread how → ⊥
  no-end count won lost did m Differ e = e m.view m.agreed
  no-end count won lost did m (Limit steps next) p =
      let d : event_steps did ≡ event_steps p.event.did = ap event_steps (sym m.did_is ∙ ap (λ (e : Event). e.did) (some-injective (sym m.comes ∙ p.comes))) in
      let fits = m.fits in
      let above = p.above in
      let steps_are = p.steps_are in
      let next_is = p.next_is in
      omega arith
  no-end count won lost did m how e = absurd e

  -- one end at most comes in the place of a vote
  one-end : (how other : How) → EndsVote job core thread how → EndsVote job core thread other → how ≡ other
  one-end Differ Differ e f = refl
  one-end Differ (Limit steps next) e f = absurd (e f.view f.agreed)
  one-end (Limit steps next) Differ e f = absurd (f e.view e.agreed)
  one-end (Limit steps next) (Limit steps' next') e f = one-limit steps steps' next next' e f
  one-end Differ other e f = absurd f
  one-end (Limit steps next) other e f = absurd f
  one-end how other e f = absurd e

  -- so of two entries that decide the vote and are allowed both are the same
  one-decides : (entry other : Entry) → IsAllowed job core entry → DecidesVote job core thread entry → IsAllowed job core other → DecidesVote job core thread other → entry ≡ other
  one-decides (Vote t count won lost did) (Vote t' count' won' lost' did') m d n e =
      let here : MayVote job core thread count won lost did = subst (λ (x : ℕ). MayVote job core x count won lost did) d m in
      let there : MayVote job core thread count' won' lost' did' = subst (λ (x : ℕ). MayVote job core x count' won' lost' did') e n in
      ap (λ (x : ℕ). Vote x count won lost did) d ∙ one-vote count count' won won' lost lost' did did' here there ∙ ap (λ (x : ℕ). Vote x count' won' lost' did') (sym e)
  one-decides (Vote t count won lost did) (End how) m d n e = absurd (no-end count won lost did (subst (λ (x : ℕ). MayVote job core x count won lost did) d m) how e)
  one-decides (End how) (Vote t count won lost did) m d n e = absurd (no-end count won lost did (subst (λ (x : ℕ). MayVote job core x count won lost did) e n) how d)
  one-decides (End how) (End other) m d n e = ap End (one-end how other d e)
  one-decides (Vote t count won lost did) other m d n e = absurd e
  one-decides (End how) other m d n e = absurd e
  one-decides entry other m d n e = absurd d

  -- ---- a free

  free-no-end : MayFree job core thread → (how : How) → EndsFree job core how → ⊥
  free-no-end m (Limit steps next) e = let a = e.0 in let b = e.1 in let above = e.2 in let fits = m.fits in omega arith
  free-no-end m how e = absurd e

  -- of two entries that decide the free and are allowed both are the same
  one-frees : (entry other : Entry) → IsAllowed job core entry → DecidesFree job core thread entry → IsAllowed job core other → DecidesFree job core thread other → entry ≡ other
  one-frees (Free t) (Free t') m d n e = ap Free (d ∙ sym e)
  one-frees (Free t) (End how) m d n e = absurd (free-no-end (subst (MayFree job core) d m) how e)
  one-frees (End how) (Free t) m d n e = absurd (free-no-end (subst (MayFree job core) e n) how d)
  one-frees (End how) (End other) m d n e = ap End (votes.one-free-end job core thread how other d e)
  one-frees (Free t) other m d n e = absurd e
  one-frees (End how) other m d n e = absurd e
  one-frees entry other m d n e = absurd d

-- ---- in either mode

pub decides-one : (mode : Mode) (job : Job) (core : Core) (thread : ℕ) (entry other : Entry) → modes.IsAllowed mode job core entry → modes.DecidesVote mode job core thread entry → modes.IsAllowed mode job core other → modes.DecidesVote mode job core thread other → entry ≡ other
decides-one Voted job core thread = votes.one-decides job core thread
decides-one Cooperative job core thread = one-decides job core thread

pub frees-one : (mode : Mode) (job : Job) (core : Core) (thread : ℕ) (entry other : Entry) → modes.IsAllowed mode job core entry → modes.DecidesFree mode job core thread entry → modes.IsAllowed mode job core other → modes.DecidesFree mode job core thread other → entry ≡ other
frees-one Voted job core thread = votes.one-frees job core thread
frees-one Cooperative job core thread = one-frees job core thread

pub scrubs-one : (mode : Mode) (job : Job) (core : Core) (entry other : Entry) → modes.IsAllowed mode job core entry → modes.DecidesScrub mode core entry → modes.IsAllowed mode job core other → modes.DecidesScrub mode core other → entry ≡ other
scrubs-one Voted job core entry other m d n e = votes.one-scrubs job core entry other m d n e
scrubs-one Cooperative job core entry other m d n e = absurd d
