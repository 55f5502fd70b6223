use Rattle.std.proofs.Common.{◌≡◌, ◌/◌, ◌∙◌, true, sym}
use Rattle.ro_region.specs.Permission.{lies_in_range, ranges_of}
use Rattle.ro_pages.specs.Held.{has_page}
use Rattle.ro_replica.proofs.Targets.{register_struck, pc_struck, byte_struck}
use Rattle.ro_replica.proofs.replicas.Replica.strike_at.Goals as goal

pub returns-in-Register-clause-struck : goal.returns-in-Register-clause-struck
returns-in-Register-clause-struck c =
    register_struck _ _ c.args.thread _ _ c.index_mut.result.now _ _ c.self.view_is c.requires.thread c.index_mut.ensures.value c.flip_register.ensures c.in-Register.is

pub returns-in-Pc-clause-struck : goal.returns-in-Pc-clause-struck
returns-in-Pc-clause-struck c =
    pc_struck _ _ c.args.thread _ c.index_mut-in-Pc.result.now _ _ c.self.view_is c.requires.thread c.index_mut-in-Pc.ensures.value c.flip_pc.ensures c.in-Pc.is

pub returns-then-contains-clause-struck : goal.returns-then-contains-clause-struck
returns-then-contains-clause-struck c =
    let has : has_page c.self.inside.pages.pages (c.in-Byte.address / 4096) ≡ true = sym c.if-backed.ensures in
    let maps : lies_in_range (ranges_of c.self.inside.regions) c.in-Byte.address ≡ true = sym c.contains.ensures ∙ c.if-contains.true in
    byte_struck _ _ c.args.thread _ _ _ _ _ _ _ c.self.view_is c.requires.target c.in-Byte.is has maps c.load-byte.ensures.value c.load-byte.ensures.below c.flip.ensures c.store.ensures.bytes c.store.ensures.pages
