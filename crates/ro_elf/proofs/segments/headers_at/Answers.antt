use Rattle.std.proofs.Common.{arith}
use Rattle.ro_elf.proofs.Rows.{headers_more}
use Rattle.ro_elf.proofs.segments.headers_at.Goals as goal

pub loop-i-preserved : goal.loop-i-preserved
loop-i-preserved c = record {
  count = omega arith;
  all = headers_more c.args.bytes.now c.args.offset c.args.count c.loop-i.i c.loop-i.headers.items c.push.new.self.items _ c.header_at.result c.loop-i-test.true c.loop-i.invariant.all c.header_at.ensures c.push.ensures.items;
}
