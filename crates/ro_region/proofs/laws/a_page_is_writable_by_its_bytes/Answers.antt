use Rattle.ro_region.proofs.Writable.{has-byte, no-byte}
use Rattle.ro_region.proofs.laws.a_page_is_writable_by_its_bytes.Goals as goal

pub returns-clause-some : goal.returns-clause-some
returns-clause-some c = λ ranges page is. let has = has-byte ranges page is in (has.byte, has.on_page, has.permitted)

pub returns-clause-none : goal.returns-clause-none
returns-clause-none c = no-byte
