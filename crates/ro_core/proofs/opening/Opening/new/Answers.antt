use Rattle.std.proofs.Common.{rules, ◌≡◌, ap, ◌∙◌, arith, length}
use Rattle.ro_kernel.specs.State.{State}
use Rattle.ro_core.proofs.opening.Opening.new.Goals as goal

pub returns : goal.returns
returns c =
    let ranges : c.ranges-2.result.now ≡ c.args.image.now.ranges = search rules in
    let heap : c.heap.result ≡ c.args.image.now.heap = search rules in
    let kernel = c.in_ok-kernel.ensures in
    record {
      faults = search rules;
      journal = c.in_ok-with_capacity.ensures.items;
      room = omega (arith, c.in_ok-with_capacity.ensures.capacity, ap length c.in_ok-with_capacity.ensures.items, c.in_ok-with_capacity.field-0.ok.0);
      first = c.in_ok-homes.ensures.first;
      count = c.in_ok-homes.ensures.count;
      none = record { count = c.in_ok-new.ensures.count; none = c.in_ok-new.ensures.none };
      lent = c.in_ok-first_lent.ensures.none;
      lent_count = c.in_ok-first_lent.ensures.count;
      wishes = c.in_ok-first_wishes.ensures.none;
      wish_count = c.in_ok-first_wishes.ensures.count;
      setup = ap (λ (k : State). k.setup) c.kernel.view_is ∙ kernel.setup ∙ ap (λ rs. record { ranges = rs; heap = c.heap.result; input = c.args.input.now }) ranges ∙ ap (λ h. record { ranges = c.args.image.now.ranges; heap = h; input = c.args.input.now }) heap;
      kernel = search rules;
      views = c.in_ok-blank_views.ensures.count;
    }
