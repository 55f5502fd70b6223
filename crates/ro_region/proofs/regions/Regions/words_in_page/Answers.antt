use Rattle.std.proofs.Common.{arith, ap, sym, ◌∙◌, ℕ, ◌≡◌, ◌+◌, ◌-◌, ◌*◌, ◌<◌, true}
use Rattle.ro_region.specs.Permission.{permits_byte, ranges_of}
use Rattle.ro_region.proofs.Each.{permits_all}
use Rattle.ro_region.proofs.regions.Regions.words_in_page.Goals as goal

pub returns-then-from-to-clause-permitted : goal.returns-then-from-to-clause-permitted
returns-then-from-to-clause-permitted c p n l h =
    let page = c.args.page in
    let within = c.window-window.ensures.within in
    let each : (k : ℕ) → k < n → permits_byte (ranges_of c.args.self.now) c.args.kind (p + k) ≡ true = λ k m.
    let e : 4096 * page + (p + k - 4096 * page) ≡ p + k = omega arith in
    ap (permits_byte (ranges_of c.args.self.now) c.args.kind) (sym e) ∙ c.window-window.ensures.permitted (p + k - 4096 * page) (omega arith) (omega arith) in
    permits_all (ranges_of c.args.self.now) c.args.kind p n (omega arith) each
