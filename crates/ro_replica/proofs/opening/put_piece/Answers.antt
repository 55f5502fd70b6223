use Rattle.std.proofs.Common.{arith, ◌∙◌, ap, length}
use Rattle.ro_pages.specs.Held.{has_page}
use Rattle.ro_replica.proofs.Spans.{covered, backs_stretch}
use Rattle.ro_replica.proofs.opening.put_piece.Goals as goal

pub write_bytes-requires-clause-backed : goal.write_bytes-requires-clause-backed
write_bytes-requires-clause-backed c page h = covered (has_page c.reserve.new.self.pages) (has_page c.back_stretch.new.pages.pages) c.args.piece.now.place c.len-len.result (length c.as_slice.result.now) page (omega arith) c.back_stretch.ensures.backed h

pub returns-clause-backed : goal.returns-clause-backed
returns-clause-backed c = c.write_bytes.ensures.pages ∙ backs_stretch (has_page c.args.pages.now.pages) (has_page c.reserve.new.self.pages) (has_page c.back_stretch.new.pages.pages) c.args.piece.now.place c.len-len.result (length c.args.piece.now.bytes.items) (omega arith) (ap has_page c.reserve.ensures.pages) c.back_stretch.ensures.backed
