use Rattle.ro_exec.specs.Stretches.{IsOpenTo}
use Rattle.ro_exec.proofs.Openings.{in_set}
use Rattle.ro_exec.proofs.data.Open.learn.Goals as goal
use Rattle.ro_region.specs.Permission.{ranges_of}

pub returns : goal.returns
returns g c =
    in_set (IsOpenTo (ranges_of c.args.regions.now) (g.M.Memory.backing c.args.memory.now) (g.M.Memory.kept c.args.memory.now) c.args.kind) c.args.self.now.stretches _ c.open_in_page.result c.open_in_page.ensures c.requires
