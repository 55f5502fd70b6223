use Rattle.std.proofs.Common.{arith, ap, sym, ◌∙◌, ℕ, ◌≡◌, ◌+◌, ◌*◌, ◌/◌, ◌%◌, ◌<◌, true}
use Rattle.ro_region.specs.Permission.{permits_byte, ranges_of}
use Rattle.ro_region.proofs.Each.{permits_all}
use Rattle.ro_region.proofs.regions.Regions.window_holds.Goals as goal

pub returns : goal.returns
returns c held =
    let a = c.args.address in
    let inside = c.holds.ensures.0 held in
    let low = inside.0 in
    let high = inside.1 in
    let within = c.window.ensures.within in
    let each : (k : ℕ) → k < c.args.len → permits_byte (ranges_of c.args.self.now) c.args.kind (a + k) ≡ true = λ k l.
    let e : 4096 * (a / 4096) + (a % 4096 + k) ≡ a + k = omega arith in
    ap (permits_byte (ranges_of c.args.self.now) c.args.kind) (sym e) ∙ c.window.ensures.permitted (a % 4096 + k) (omega arith) (omega arith) in
    permits_all (ranges_of c.args.self.now) c.args.kind a c.args.len (omega arith) each
