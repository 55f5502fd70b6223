use Rattle.std.proofs.Common.{arith}
use Rattle.ro_region.specs.declared.Kind.TheVariants.{Read, Write}
use Rattle.ro_exec.proofs.learnt.Learnt.nothing.Goals as goal

pub returns : goal.returns
returns c layout pages places = record {
  aligned = omega arith;
  bounded = omega arith;
  clear = λ cpu stands. absurd (omega arith);
  page = λ pc stands. absurd (omega arith);
  reads = c.new.ensures layout.ranges pages places Read;
  writes = c.new-2.ensures layout.ranges pages places Write;
}
