use Rattle.ro_pages.proofs.WordParts.{half_replaced}
use Rattle.ro_pages.proofs.words.with_half.Goals as goal

pub returns : goal.returns
returns c i = half_replaced c.args.word c.args.half c.args.place i c.ranges.word.fits c.requires.half c.requires.place c.requires.even
