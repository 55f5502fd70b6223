use Rattle.std.proofs.Common.{arith, ◌∙◌, ◌+◌, ◌-◌}
use Rattle.ro_pages.proofs.WordParts.{word_put}
use Rattle.ro_pages.proofs.words.put_word.Goals as goal

pub returns : goal.returns
returns c i =
    word_put c.args.bytes.now c.copy_from_slice.new.self c.args.place (c.args.place + 4 - c.args.place) c.args.word i c.requires (omega arith) (c.copy_from_slice.ensures.after ∙ c.to_le_bytes.ensures)
