use Rattle.std.proofs.Common.{rules, arith, ap, subst, sym, ℕ, ◌≡◌, ◌+◌, ◌/◌, ◌%◌, ◌<◌, ◌≤◌, ◌∷◌, [], length, slice_index, Some}
use Rattle.std.specs.List.{slice_get}
use Rattle.std.proofs.lemmas.List.{length-append}
use Rattle.ro_region.specs.declared.windows.Window.{Window}
use Rattle.ro_region.specs.Windows.{IsOpen, IsTable}
use Rattle.ro_region.proofs.Opened.{all_closed, more_closed, more_within, more_open}
use Rattle.ro_region.proofs.windows.Windows.new.Goals as goal

pub loop-table-init : goal.loop-table-init
loop-table-init c =
    let none : length c.in_ok-firsts.firsts.items ≡ 0 = ap length c.in_ok-firsts.ensures.items in
    record {
      full = none;
      closed = all_closed _ (c.in_ok-windows.ensures.items_if_clones_equal (λ y e. search rules));
      within = λ t l. absurd (omega arith);
      sound = λ page window l e. absurd (omega arith);
    }

pub loop-table-preserved : goal.loop-table-preserved
loop-table-preserved c =
    let ranges = c.args.ranges.now in
    let fs = c.loop-table.firsts.items in
    let first = c.in_ok-table_of.field-0 in
    let added : IsTable ranges c.args.kind (length fs) first c.table_of.new.windows.items c.loop-table.windows.items =
    subst (λ t. IsTable ranges c.args.kind t first c.table_of.new.windows.items c.loop-table.windows.items) (sym c.loop-table.invariant.full) c.in_ok-table_of.ensures in
    let pushed = c.in_ok-push.ensures.items in
    let longer : length c.push.new.self.items ≡ length fs + 1 = omega (arith, ap length pushed, length-append fs (first ∷ [])) in
    record {
      full = omega (arith, c.loop-table.invariant.full);
      closed = more_closed _ _ _ _ _ _ added c.loop-table.invariant.closed;
      within = subst (λ gs. (t : ℕ) → t < length gs → slice_index gs t + 1024 ≤ length c.table_of.new.windows.items) (sym pushed) (λ t l. more_within ranges c.args.kind fs first _ _ added c.loop-table.invariant.within t (omega (arith, length-append fs (first ∷ []))));
      sound = subst (λ gs. (page : ℕ) (window : Window) → page / 1024 < length gs → slice_get c.table_of.new.windows.items (slice_index gs (page / 1024) + page % 1024) ≡ Some window → IsOpen ranges c.args.kind page window) (sym pushed)
          (λ page window l. more_open ranges c.args.kind fs first _ _ added c.loop-table.invariant.within c.loop-table.invariant.sound page window (omega (arith, length-append fs (first ∷ []))));
    }
