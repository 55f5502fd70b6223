use Rattle.std.proofs.Common.{◌≡◌, ◌⊎◌, inl, inr, ℕ, ◌+◌, ◌<◌, ◌≤◌, true, sym, ◌∙◌, subst, true≢false, arith}
use Rattle.std.specs.Prelude.{IfSome}
use Rattle.std.proofs.lemmas.Bool.{cases_lt}
use Rattle.ro_legal.specs.Core.{Job, Core}
use Rattle.ro_legal.specs.Rules.{EndsScrub}
use Rattle.ro_core.specs.Seen.{CoreOf}
use Rattle.ro_cores.specs.Cores.{left_by}
use Rattle.ro_audit.specs.Audits.{scrubs}
use Rattle.ro_audit.specs.Following.{IsInPlace, NotByThread}
use Rattle.ro_audit.proofs.Ends.{none-of}
use Rattle.ro_audit.proofs.Steps.{same-old, same-both}
use Rattle.ro_audit.proofs.follower.Follower.place_of.Goals as goal

pub returns-then-is_some-clause-some : goal.returns-then-is_some-clause-some
returns-then-is_some-clause-some g c =
    same-old (λ (j : Job) (k : Core). IfSome c.place_at-place.result (λ place. IsInPlace j k c.args.how place)) (g.C.RunCore.seen c.args.self.now.core) (g.C.RunCore.seen c.loop-thread.self.core) c.loop-thread.invariant.2 c.place_at-place.ensures.some

pub loop-thread-preserved : goal.loop-thread-preserved
loop-thread-preserved g c = (
  c.place_at-place.ensures.holds,
  c.place_at-place.ensures.follows,
  same-both old amid (g.C.RunCore.seen c.place_at-place.new.self.core) c.loop-thread.invariant.2 c.place_at-place.ensures.same,
  λ thread less. by thread (cases_lt thread c.loop-thread.thread) less,
)
  where
    old : CoreOf
    old = g.C.RunCore.seen c.args.self.now.core

    amid : CoreOf
    amid = g.C.RunCore.seen c.loop-thread.self.core

    here : NotByThread old.job (left_by old) c.args.how c.loop-thread.thread
    here =
        same-old (λ (j : Job) (k : Core). NotByThread j k c.args.how c.loop-thread.thread) old amid c.loop-thread.invariant.2
        (c.place_at-place.ensures.none (none-of c.place_at-place.result (sym c.is_some.ensures ∙ c.if-is_some.false)))

    by : (thread : ℕ) → (thread < c.loop-thread.thread) ⊎ (c.loop-thread.thread ≤ thread) → thread < c.loop-thread.thread + 1 → NotByThread old.job (left_by old) c.args.how thread
    by thread (inl less) low = c.loop-thread.invariant.3 thread less
    by thread (inr most) low = let same : thread ≡ c.loop-thread.thread = omega arith in subst (NotByThread old.job (left_by old) c.args.how) (sym same) here

pub returns-then-ends_scrub-clause-some : goal.returns-then-ends_scrub-clause-some
returns-then-ends_scrub-clause-some g c =
    same-old (λ (j : Job) (k : Core). (scrubs j k ≡ true) × EndsScrub j k c.args.how) (g.C.RunCore.seen c.args.self.now.core) (g.C.RunCore.seen c.loop-thread.self.core) c.loop-thread.invariant.2 (c.ends_scrub.ensures.0 c.if-ends_scrub.true)

pub returns-clause-none : goal.returns-clause-none
returns-clause-none g c none = record {
  threads = λ thread low. c.loop-thread.invariant.3 thread (let ended = c.loop-thread-test.false in omega (arith, ended));
  scrub = same-old (λ (j : Job) (k : Core). scrubs j k ≡ true → EndsScrub j k c.args.how → ⊥) (g.C.RunCore.seen c.args.self.now.core) (g.C.RunCore.seen c.loop-thread.self.core) c.loop-thread.invariant.2
      (λ may ends. true≢false (sym (c.ends_scrub.ensures.1 (may, ends)) ∙ c.if-ends_scrub.false));
}
