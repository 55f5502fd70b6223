use Rattle.std.proofs.Common.{◌≡◌, ◌+◌, ◌++◌, replicate, vec_len, vec_capacity}
use Rattle.ro_takers.proofs.takers.add_ring.Given as goal

abbrev pub invariant-loop : goal.invariant-loop
invariant-loop l = record {
  items : l.rings.items ≡ l.fn.rings.items ++ replicate l.counter 0;
  len : vec_len l.rings ≡ vec_len l.fn.rings + l.counter;
  capacity : vec_capacity l.rings ≡ vec_capacity l.fn.rings;
}
