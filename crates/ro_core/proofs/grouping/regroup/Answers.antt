use Rattle.ro_core.proofs.Grouped.{regrouped, regrouped-quiet}
use Rattle.ro_core.proofs.grouping.regroup.Goals as goal

pub returns-then-backs_pages : goal.returns-then-backs_pages
returns-then-backs_pages c job kernel before h made wait home = regrouped job kernel _ before _ _ _ _ _ _ c.requires.groups c.release.ensures.count c.release.ensures c.settle.ensures h made home

pub returns-else-backs_pages : goal.returns-else-backs_pages
returns-else-backs_pages c job kernel before h made wait home = regrouped-quiet _ before _ _ (c.backs_pages.ensures.0 c.if-backs_pages.false) c.release.ensures h wait
