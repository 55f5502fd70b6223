use Rattle.ro_pages.proofs.WordParts.{byte_replaced}
use Rattle.ro_pages.proofs.words.with_byte.Goals as goal

pub returns : goal.returns
returns c i = byte_replaced c.args.word c.args.byte c.args.place i c.ranges.word.fits c.requires.byte c.requires.place
