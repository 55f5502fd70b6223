use Rattle.std.proofs.Common.{arith, refl, ◌∙◌, length}
use Rattle.ro_pages.specs.Held.{has_page}
use Rattle.ro_replica.proofs.Spans.{covered, backs_stretch}
use Rattle.ro_replica.proofs.applying.store_bytes.Goals as goal

pub write_bytes-requires-clause-backed : goal.write_bytes-requires-clause-backed
write_bytes-requires-clause-backed c page h = covered (has_page c.args.pages.now.pages) (has_page c.back_stretch.new.pages.pages) c.args.place _ (length c.args.bytes.now) page (omega arith) c.back_stretch.ensures.backed h

pub returns-clause-backed : goal.returns-clause-backed
returns-clause-backed c =
    c.write_bytes.ensures.pages ∙
    backs_stretch (has_page c.args.pages.now.pages) (has_page c.args.pages.now.pages) (has_page c.back_stretch.new.pages.pages) c.args.place _ (length c.args.bytes.now) (omega arith) refl c.back_stretch.ensures.backed
