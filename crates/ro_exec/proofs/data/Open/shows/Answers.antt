use Rattle.std.proofs.Common.{◌/◌, ◌%◌}
use Rattle.ro_exec.proofs.Openings.{within, same_place}
use Rattle.ro_exec.proofs.data.Open.shows.Goals as goal

pub fits-requires-clause-bounded : goal.fits-requires-clause-bounded
fits-requires-clause-bounded g c = (c.requires.open _ c.at.result c.at.ensures).bounded

pub returns-then-fits-clause-permitted : goal.returns-then-fits-clause-permitted
returns-then-fits-clause-permitted g c _ =
    (c.requires.open _ c.at.result c.at.ensures).permitted _ _ (c.fits.ensures.begins c.if-fits.true) (c.fits.ensures.ends c.if-fits.true)

pub returns-then-fits-clause-backed : goal.returns-then-fits-clause-backed
returns-then-fits-clause-backed g c _ =
    (within _ _ _ _ c.at.result _ _ (c.requires.open _ c.at.result c.at.ensures) c.requires.size (c.fits.ensures.begins c.if-fits.true) (c.fits.ensures.ends c.if-fits.true)).backed

pub returns-then-fits-clause-kept : goal.returns-then-fits-clause-kept
returns-then-fits-clause-kept g c _ stretch e =
    same_place (g.M.Memory.kept c.args.memory.now) (c.args.address / 4096) c.args.self.now.stretches (c.args.address / 4096 % 128) c.at.result stretch c.at.ensures e
    (within _ _ _ _ c.at.result _ _ (c.requires.open _ c.at.result c.at.ensures) c.requires.size (c.fits.ensures.begins c.if-fits.true) (c.fits.ensures.ends c.if-fits.true)).kept
