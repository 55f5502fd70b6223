use Rattle.std.proofs.Common.{rules, ◌≡◌, subst, sym, ℕ, ◌<◌, true, length}
use Rattle.ro_kernel.specs.Kernel.{lives_on}
use Rattle.ro_machine.specs.Seen.{PlainOf}
use Rattle.ro_machine.proofs.Serving.{lives-made}
use Rattle.ro_region.specs.declared.Kind.TheVariants.{Read, Write}
use Rattle.ro_machine.proofs.plain.Plain.lane_of.Goals as goal

pub returns-clause-opened : goal.returns-clause-opened
returns-clause-opened c = record {
  going = c.requires.going;
  live = c.requires.live;
  empty = c.requires.empty;
  few = c.requires.few;
  there = subst (λ (p : PlainOf). c.args.thread < length p.cpus) c.self.view_is
      (subst (λ (n : ℕ). c.args.thread < n) (sym c.self.invariant.all_made)
      (lives-made c.self.inside.kernel.kernel.lives c.args.thread (subst (λ (p : PlainOf). lives_on p.kernel c.args.thread ≡ true) (sym c.self.view_is) c.requires.live)));
  aligned = c.follow.ensures.aligned;
  bounded = c.follow.ensures.bounded;
  clear = search rules;
  kept = search rules;
  reads = c.new-2.ensures _ _ _ Read;
  writes = c.new-3.ensures _ _ _ Write;
}
