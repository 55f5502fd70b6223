use Rattle.std.proofs.Common.{arith, refl, sym, ap, subst, ◌∙◌, ◌≡◌, inl, inr, ℕ, ◌+◌, ◌⊎◌, Bool}
use Rattle.std.specs.Prelude.{slice_get}
use Rattle.std.proofs.lemmas.Bool.{false≢true, cases_eq}
use Rattle.std.proofs.lemmas.Option.{get_or_from_slice_get, slice_get_within}
use Rattle.ro_kernel.specs.Kernel.{lives_on}
use Rattle.ro_replica.specs.Snapshots.{thread_snapshot}
use Rattle.ro_replica.proofs.Compared.{snapshots-same, read-same}
use Rattle.ro_replica.proofs.comparing.are_same.Goals as goal

pub returns-then-not-is_same_thread : goal.returns-then-not-is_same_thread
returns-then-not-is_same_thread c = (
  λ f. absurd (false≢true f),
  λ same.
      sym c.if-not-is_same_thread.true
      ∙ c.is_same_thread.ensures.1 (read-same c.args.kernel.now.kernel c.args.threads.now c.args.others.now c.loop-number.number _ _ c.lives_on.result c.requires.count c.loop-number-test.true c.lives_on.ensures same),
)

pub loop-number-preserved : goal.loop-number-preserved
loop-number-preserved c i x y low e f = by (cases_eq i c.loop-number.number)
  where
    by : (i ≡ c.loop-number.number) ⊎ (i ≡ c.loop-number.number → ⊥) → thread_snapshot (lives_on c.args.kernel.now.kernel i) x ≡ thread_snapshot (lives_on c.args.kernel.now.kernel i) y
    by (inr d) = c.loop-number.invariant i x y (omega arith) e f
    by (inl same) =
        let one = get_or_from_slice_get c.args.threads.now c.loop-number.number x _ (ap (slice_get c.args.threads.now) (sym same) ∙ e) in
        let other = get_or_from_slice_get c.args.others.now c.loop-number.number y _ (ap (slice_get c.args.others.now) (sym same) ∙ f) in
        let lives : c.lives_on.result ≡ lives_on c.args.kernel.now.kernel i = c.lives_on.ensures ∙ ap (lives_on c.args.kernel.now.kernel) (sym same) in
        subst (λ (b : Bool). thread_snapshot b x ≡ thread_snapshot b y) lives
        (ap (thread_snapshot c.lives_on.result) (sym one) ∙ (c.is_same_thread.ensures.0 c.if-not-is_same_thread.false ∙ ap (thread_snapshot c.lives_on.result) other))

pub returns : goal.returns
returns c = (
  λ _. snapshots-same c.args.kernel.now.kernel 0 c.args.threads.now c.args.others.now c.requires.count (λ i x y e f.
      let z : i ≡ 0 + i = omega arith in
      subst (λ (m : ℕ). thread_snapshot (lives_on c.args.kernel.now.kernel m) x ≡ thread_snapshot (lives_on c.args.kernel.now.kernel m) y) z (c.loop-number.invariant i x y (omega (arith, slice_get_within c.args.threads.now i x e)) e f)),
  λ _. refl,
)
