-- A vote comes to one entry, or to one end in its place; and so does a free.
use Rattle.std.proofs.Common.{◌≡◌, ℕ, ◌+◌, List, [], ◌∷◌, Some, refl, sym, ap, ◌∙◌, subst, arith}
use Rattle.ro_journal.specs.declared.Did.{Did}
use Rattle.ro_journal.specs.declared.How.{How}
use Rattle.ro_journal.specs.declared.How.TheVariants.{Exit, Deadlock, Trap, Limit, Differ, NoMajority, Sink}
use Rattle.ro_journal.specs.declared.Entry.{Entry}
use Rattle.ro_journal.specs.declared.Entry.TheVariants.{Take, Put, Part, Vote, Free, Scrub, End}
use Rattle.ro_journal.specs.declared.losers.Lost.{Lost}
use Rattle.ro_journal.specs.declared.losers.Lost.TheVariants.{Nobody, One, Two}
use Rattle.ro_journal.specs.Losers.{numbers}
use Rattle.ro_journal.specs.Plan.{event_steps}
use Rattle.ro_vote.specs.Verdict.{Won, Split, verdict_of}
use Rattle.ro_plain.proofs.Calls.{some-injective}
use Rattle.ro_legal.specs.Core.{Job, Core, views_of, snapshots_of}
use Rattle.ro_legal.specs.Event.{Event}
use Rattle.ro_legal.specs.Legal.{event_in, since_in, IsAllowed, MayVote, MayFree, MayScrub, PassesLimit, EndsVote, EndsFree, EndsScrub}
use Rattle.ro_legal.specs.Decides.{DecidesVote, DecidesFree, DecidesScrub}
use Rattle.ro_vote.proofs.Prevailing.{one-won, one-lost as same-losers}

-- the losers are known by their numbers
pub one-lost : (a b : Lost) → numbers a ≡ numbers b → a ≡ b
one-lost Nobody Nobody e = refl
one-lost Nobody (One n) e = absurd (let f : [] ≡ n ∷ [] = e in cc)
one-lost Nobody (Two n m) e = absurd (let f : [] ≡ n ∷ m ∷ [] = e in cc)
one-lost (One n) Nobody e = absurd (let f : n ∷ [] ≡ [] = e in cc)
one-lost (One n) (One m) e = let f : n ∷ [] ≡ m ∷ [] = e in let g : n ≡ m = cc in ap One g
one-lost (One n) (Two m k) e = absurd (let f : n ∷ [] ≡ m ∷ k ∷ [] = e in cc)
one-lost (Two n m) Nobody e = absurd (let f : n ∷ m ∷ [] ≡ [] = e in cc)
one-lost (Two n m) (One k) e = absurd (let f : n ∷ m ∷ [] ≡ k ∷ [] = e in cc)
one-lost (Two n m) (Two k l) e =
    let f : n ∷ m ∷ [] ≡ k ∷ l ∷ [] = e in
    let g : n ≡ k = cc in
    let h : m ≡ l = cc in
    ap (λ (x : ℕ). Two x m) g ∙ ap (Two k) h

module _ (job : Job) (core : Core) (thread : ℕ) where
  -- what a vote that is won comes to
  record Decided (won : ℕ) (lost : List ℕ) (count : ℕ) (event : Event) : Type 0 where
    pub verdict : verdict_of (views_of job core thread) ≡ Won won lost
    pub count_is : since_in core thread won ≡ Some count
    pub comes : event_in job core thread won ≡ Some event

  -- two of them are one
  record AreOne (won won' : ℕ) (lost lost' : List ℕ) (count count' : ℕ) (event event' : Event) : Type 0 where
    pub same_won : won ≡ won'
    pub same_lost : lost ≡ lost'
    pub same_count : count ≡ count'
    pub same_event : event ≡ event'

  decided-once : (won won' : ℕ) (lost lost' : List ℕ) (count count' : ℕ) (event event' : Event) → Decided won lost count event → Decided won' lost' count' event' → AreOne won won' lost lost' count count' event event'
  decided-once won won' lost lost' count count' event event' d e =
      let same : Won won lost ≡ Won won' lost' = sym d.verdict ∙ e.verdict in
      let w : won ≡ won' = cc in
      record {
        same_won = w;
        same_lost = cc;
        same_count = some-injective (sym d.count_is ∙ ap (since_in core thread) w ∙ e.count_is);
        same_event = some-injective (sym d.comes ∙ ap (event_in job core thread) w ∙ e.comes);
      }

  by-vote : (count won : ℕ) (lost : Lost) (did : Did) (m : MayVote job core thread count won lost did) → Decided won (numbers lost) count m.event
  by-vote count won lost did m = record { verdict = m.verdict; count_is = m.count_is; comes = m.comes }

  by-limit : (steps next : ℕ) (p : PassesLimit job core thread steps next) → Decided p.won p.lost p.count p.event
  by-limit steps next p = record { verdict = p.verdict; count_is = p.count_is; comes = p.comes }

  -- the vote is one
  pub one-vote : (count count' won won' : ℕ) (lost lost' : Lost) (did did' : Did) → MayVote job core thread count won lost did → MayVote job core thread count' won' lost' did' → Vote thread count won lost did ≡ Vote thread count' won' lost' did'
  one-vote count count' won won' lost lost' did did' m n =
      let s = decided-once won won' (numbers lost) (numbers lost') count count' m.event n.event (by-vote count won lost did m) (by-vote count' won' lost' did' n) in
      let d : did ≡ did' = sym m.did_is ∙ ap (λ (e : Event). e.did) s.same_event ∙ n.did_is in
      let l : lost ≡ lost' = one-lost lost lost' s.same_lost in
      ap (λ (x : ℕ). Vote thread x won lost did) s.same_count ∙ ap (λ (x : ℕ). Vote thread count' x lost did) s.same_won ∙ ap (λ (x : Lost). Vote thread count' won' x did) l ∙ ap (Vote thread count' won' lost') d

  one-limit : (steps steps' next next' : ℕ) → PassesLimit job core thread steps next → PassesLimit job core thread steps' next' → Limit steps next ≡ Limit steps' next'
  one-limit steps steps' next next' p q =
      let s = decided-once p.won q.won p.lost q.lost p.count q.count p.event q.event (by-limit steps next p) (by-limit steps' next' q) in
      let n : next ≡ next' =
      p.next_is ∙ ap (λ (x : ℕ). x + event_steps p.event.did) s.same_count ∙ ap (λ (e : Event). q.count + event_steps e.did) s.same_event ∙ sym q.next_is
      in
      ap (λ (x : ℕ). Limit x next) (p.steps_are ∙ sym q.steps_are) ∙ ap (Limit steps') n

  -- where the vote is won within the limit no end comes in its place
  pub no-end : (count won : ℕ) (lost : Lost) (did : Did) → MayVote job core thread count won lost did → (how : How) → EndsVote job core thread how → ⊥
  no-end count won lost did m Differ e = let f : Won won (numbers lost) ≡ Split = sym m.verdict ∙ e.0 in cc
  no-end count won lost did m NoMajority e = let f : Won won (numbers lost) ≡ Split = sym m.verdict ∙ e.0 in cc
  no-end count won lost did m (Limit steps next) p =
      let s = decided-once won p.won (numbers lost) p.lost count p.count m.event p.event (by-vote count won lost did m) (by-limit steps next p) in
      let c = s.same_count in
      let d : event_steps did ≡ event_steps p.event.did = ap event_steps (sym m.did_is ∙ ap (λ (e : Event). e.did) s.same_event) in
      let fits = m.fits in
      let above = p.above in
      let steps_are = p.steps_are in
      let next_is = p.next_is in
      omega arith
  no-end count won lost did m (Exit status) e = e
  no-end count won lost did m (Trap code) e = e
  no-end count won lost did m Deadlock e = e
  no-end count won lost did m (Sink bytes) e = e

  split-limit : (steps next : ℕ) → verdict_of (views_of job core thread) ≡ Split → PassesLimit job core thread steps next → ⊥
  split-limit steps next e p = let f : Won p.won p.lost ≡ Split = sym p.verdict ∙ e in cc

  -- one end at most comes in the place of a vote
  pub one-end : (how other : How) → EndsVote job core thread how → EndsVote job core thread other → how ≡ other
  one-end Differ Differ e f = refl
  one-end Differ NoMajority e f = absurd (let two = e.1 in let three = f.1 in omega arith)
  one-end Differ (Limit steps next) e f = absurd (split-limit steps next e.0 f)
  one-end Differ (Exit status) e f = absurd f
  one-end Differ (Trap code) e f = absurd f
  one-end Differ Deadlock e f = absurd f
  one-end Differ (Sink bytes) e f = absurd f
  one-end NoMajority Differ e f = absurd (let two = f.1 in let three = e.1 in omega arith)
  one-end NoMajority NoMajority e f = refl
  one-end NoMajority (Limit steps next) e f = absurd (split-limit steps next e.0 f)
  one-end NoMajority (Exit status) e f = absurd f
  one-end NoMajority (Trap code) e f = absurd f
  one-end NoMajority Deadlock e f = absurd f
  one-end NoMajority (Sink bytes) e f = absurd f
  one-end (Limit steps next) Differ e f = absurd (split-limit steps next f.0 e)
  one-end (Limit steps next) NoMajority e f = absurd (split-limit steps next f.0 e)
  one-end (Limit steps next) (Limit steps' next') e f = one-limit steps steps' next next' e f
  one-end (Limit steps next) (Exit status) e f = absurd f
  one-end (Limit steps next) (Trap code) e f = absurd f
  one-end (Limit steps next) Deadlock e f = absurd f
  one-end (Limit steps next) (Sink bytes) e f = absurd f
  one-end (Exit status) other e f = absurd e
  one-end (Trap code) other e f = absurd e
  one-end Deadlock other e f = absurd e
  one-end (Sink bytes) other e f = absurd e

  -- so of two entries that decide the vote and are allowed both are the same
  pub one-decides : (entry other : Entry) → IsAllowed job core entry → DecidesVote job core thread entry → IsAllowed job core other → DecidesVote job core thread other → entry ≡ other
  one-decides (Vote t count won lost did) (Vote t' count' won' lost' did') m d n e =
      let here : MayVote job core thread count won lost did = subst (λ (x : ℕ). MayVote job core x count won lost did) d m in
      let there : MayVote job core thread count' won' lost' did' = subst (λ (x : ℕ). MayVote job core x count' won' lost' did') e n in
      ap (λ (x : ℕ). Vote x count won lost did) d ∙ one-vote count count' won won' lost lost' did did' here there ∙ ap (λ (x : ℕ). Vote x count' won' lost' did') (sym e)
  one-decides (Vote t count won lost did) (End how) m d n e = absurd (no-end count won lost did (subst (λ (x : ℕ). MayVote job core x count won lost did) d m) how e)
  one-decides (Vote t count won lost did) (Take lease) m d n e = absurd e
  one-decides (Vote t count won lost did) (Put lease ran hit) m d n e = absurd e
  one-decides (Vote t count won lost did) (Part lease ran hit) m d n e = absurd e
  one-decides (Vote t count won lost did) (Free freed) m d n e = absurd e
  one-decides (Vote t count won lost did) (Scrub winner losers) m d n e = absurd e
  one-decides (End how) (Vote t count won lost did) m d n e = absurd (no-end count won lost did (subst (λ (x : ℕ). MayVote job core x count won lost did) e n) how d)
  one-decides (End how) (End other) m d n e = ap End (one-end how other d e)
  one-decides (End how) (Take lease) m d n e = absurd e
  one-decides (End how) (Put lease ran hit) m d n e = absurd e
  one-decides (End how) (Part lease ran hit) m d n e = absurd e
  one-decides (End how) (Free freed) m d n e = absurd e
  one-decides (End how) (Scrub winner losers) m d n e = absurd e
  one-decides (Take lease) other m d n e = absurd d
  one-decides (Put lease ran hit) other m d n e = absurd d
  one-decides (Part lease ran hit) other m d n e = absurd d
  one-decides (Free freed) other m d n e = absurd d
  one-decides (Scrub winner losers) other m d n e = absurd d

  one-free-limit : (steps steps' next next' : ℕ) → EndsFree job core (Limit steps next) → EndsFree job core (Limit steps' next') → Limit steps next ≡ Limit steps' next'
  one-free-limit steps steps' next next' e f = ap (λ (x : ℕ). Limit x next) (e.0 ∙ sym f.0) ∙ ap (Limit steps') (e.1 ∙ sym f.1)

  -- one end at most comes in the place of a free
  pub one-free-end : (how other : How) → EndsFree job core how → EndsFree job core other → how ≡ other
  one-free-end (Limit steps next) (Limit steps' next') e f = one-free-limit steps steps' next next' e f
  one-free-end (Limit steps next) Differ e f = absurd f
  one-free-end (Limit steps next) NoMajority e f = absurd f
  one-free-end (Limit steps next) (Exit status) e f = absurd f
  one-free-end (Limit steps next) (Trap code) e f = absurd f
  one-free-end (Limit steps next) Deadlock e f = absurd f
  one-free-end (Limit steps next) (Sink bytes) e f = absurd f
  one-free-end Differ other e f = absurd e
  one-free-end NoMajority other e f = absurd e
  one-free-end (Exit status) other e f = absurd e
  one-free-end (Trap code) other e f = absurd e
  one-free-end Deadlock other e f = absurd e
  one-free-end (Sink bytes) other e f = absurd e

  free-no-end : MayFree job core thread → (how : How) → EndsFree job core how → ⊥
  free-no-end m (Limit steps next) e = let a = e.0 in let b = e.1 in let above = e.2 in let fits = m.fits in omega arith
  free-no-end m Differ e = e
  free-no-end m NoMajority e = e
  free-no-end m (Exit status) e = e
  free-no-end m (Trap code) e = e
  free-no-end m Deadlock e = e
  free-no-end m (Sink bytes) e = e

  -- of two entries that decide the free and are allowed both are the same
  pub one-frees : (entry other : Entry) → IsAllowed job core entry → DecidesFree job core thread entry → IsAllowed job core other → DecidesFree job core thread other → entry ≡ other
  one-frees (Free t) (Free t') m d n e = ap Free (d ∙ sym e)
  one-frees (Free t) (End how) m d n e = absurd (free-no-end (subst (MayFree job core) d m) how e)
  one-frees (Free t) (Take lease) m d n e = absurd e
  one-frees (Free t) (Put lease ran hit) m d n e = absurd e
  one-frees (Free t) (Part lease ran hit) m d n e = absurd e
  one-frees (Free t) (Vote voted count won lost did) m d n e = absurd e
  one-frees (Free t) (Scrub winner losers) m d n e = absurd e
  one-frees (End how) (Free t) m d n e = absurd (free-no-end (subst (MayFree job core) e n) how d)
  one-frees (End how) (End other) m d n e = ap End (one-free-end how other d e)
  one-frees (End how) (Take lease) m d n e = absurd e
  one-frees (End how) (Put lease ran hit) m d n e = absurd e
  one-frees (End how) (Part lease ran hit) m d n e = absurd e
  one-frees (End how) (Vote voted count won lost did) m d n e = absurd e
  one-frees (End how) (Scrub winner losers) m d n e = absurd e
  one-frees (Take lease) other m d n e = absurd d
  one-frees (Put lease ran hit) other m d n e = absurd d
  one-frees (Part lease ran hit) other m d n e = absurd d
  one-frees (Vote voted count won lost did) other m d n e = absurd d
  one-frees (Scrub winner losers) other m d n e = absurd d

module _ (job : Job) (core : Core) where
  -- the scrub is one
  pub one-scrub : (won won' : ℕ) (lost lost' : Lost) → MayScrub core won lost → MayScrub core won' lost' → Scrub won lost ≡ Scrub won' lost'
  one-scrub won won' lost lost' m n =
      let w = one-won (snapshots_of core) won won' (numbers lost) (numbers lost') m.prevails n.prevails in
      let l = one-lost lost lost' (same-losers (snapshots_of core) won won' (numbers lost) (numbers lost') m.prevails n.prevails) in
      ap (λ (x : ℕ). Scrub x lost) w ∙ ap (Scrub won') l

  -- where a scrub is won no end comes in its place
  pub scrub-no-end : (won : ℕ) (lost : Lost) → MayScrub core won lost → (how : How) → EndsScrub core how → ⊥
  scrub-no-end won lost m Differ e = e.0 won (numbers lost) m.prevails
  scrub-no-end won lost m NoMajority e = e.0 won (numbers lost) m.prevails
  scrub-no-end won lost m (Limit steps next) e = e
  scrub-no-end won lost m (Exit status) e = e
  scrub-no-end won lost m (Trap code) e = e
  scrub-no-end won lost m Deadlock e = e
  scrub-no-end won lost m (Sink bytes) e = e

  -- one end at most comes in the place of a scrub
  pub one-scrub-end : (how other : How) → EndsScrub core how → EndsScrub core other → how ≡ other
  one-scrub-end Differ Differ e f = refl
  one-scrub-end Differ NoMajority e f = absurd (let two = e.1 in let three = f.1 in omega arith)
  one-scrub-end Differ (Limit steps next) e f = absurd f
  one-scrub-end Differ (Exit status) e f = absurd f
  one-scrub-end Differ (Trap code) e f = absurd f
  one-scrub-end Differ Deadlock e f = absurd f
  one-scrub-end Differ (Sink bytes) e f = absurd f
  one-scrub-end NoMajority Differ e f = absurd (let two = f.1 in let three = e.1 in omega arith)
  one-scrub-end NoMajority NoMajority e f = refl
  one-scrub-end NoMajority (Limit steps next) e f = absurd f
  one-scrub-end NoMajority (Exit status) e f = absurd f
  one-scrub-end NoMajority (Trap code) e f = absurd f
  one-scrub-end NoMajority Deadlock e f = absurd f
  one-scrub-end NoMajority (Sink bytes) e f = absurd f
  one-scrub-end (Limit steps next) other e f = absurd e
  one-scrub-end (Exit status) other e f = absurd e
  one-scrub-end (Trap code) other e f = absurd e
  one-scrub-end Deadlock other e f = absurd e
  one-scrub-end (Sink bytes) other e f = absurd e

  -- so of two entries that decide the scrub and are allowed both are the same
  pub one-scrubs : (entry other : Entry) → IsAllowed job core entry → DecidesScrub core entry → IsAllowed job core other → DecidesScrub core other → entry ≡ other
  one-scrubs (Scrub won lost) (Scrub won' lost') m d n e = one-scrub won won' lost lost' m n
  one-scrubs (Scrub won lost) (End how) m d n e = absurd (scrub-no-end won lost m how e)
  one-scrubs (Scrub won lost) (Take lease) m d n e = absurd e
  one-scrubs (Scrub won lost) (Put lease ran hit) m d n e = absurd e
  one-scrubs (Scrub won lost) (Part lease ran hit) m d n e = absurd e
  one-scrubs (Scrub won lost) (Vote voted count winner losers did) m d n e = absurd e
  one-scrubs (Scrub won lost) (Free freed) m d n e = absurd e
  one-scrubs (End how) (Scrub won lost) m d n e = absurd (scrub-no-end won lost n how d)
  one-scrubs (End how) (End other) m d n e = ap End (one-scrub-end how other d e)
  one-scrubs (End how) (Take lease) m d n e = absurd e
  one-scrubs (End how) (Put lease ran hit) m d n e = absurd e
  one-scrubs (End how) (Part lease ran hit) m d n e = absurd e
  one-scrubs (End how) (Vote voted count winner losers did) m d n e = absurd e
  one-scrubs (End how) (Free freed) m d n e = absurd e
  one-scrubs (Take lease) other m d n e = absurd d
  one-scrubs (Put lease ran hit) other m d n e = absurd d
  one-scrubs (Part lease ran hit) other m d n e = absurd d
  one-scrubs (Vote voted count winner losers did) other m d n e = absurd d
  one-scrubs (Free freed) other m d n e = absurd d
