use Rattle.ro_races.proofs.checking.mark_all.Goals as goal

pub returns-clause-marks : goal.returns-clause-marks
returns-clause-marks c = record {
  between = c.mark.new.table.items;
  loads = c.in_ok-mark.ensures.marks;
  fetches = c.in_ok-mark-2.ensures.marks;
  stores = c.in_ok-mark-3.ensures.marks;
}
