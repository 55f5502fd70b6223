use Rattle.std.proofs.Common.{refl, ap, ◌≡◌, ◌∷◌, [], ◌∙◌}
use Rattle.ro_region.specs.Permission.{ranges_of}
use Rattle.ro_exec.specs.Next.{Layout}
use Rattle.ro_replica.specs.Seen.{first_layout}
use Rattle.ro_image.specs.Image.{memory_of, holds_file_byte}
use Rattle.ro_exec.specs.Threads.{first_cpu}
use Rattle.ro_replica.specs.Replica.{unstopped}
use Rattle.ro_replica.proofs.Starts.{own_faults, first_holds, opens}
use Rattle.ro_replica.proofs.replicas.Replica.new.Goals as goal

pub invariant_of-result : goal.invariant_of-result
invariant_of-result c = (first_holds c.args.watchdog _ _ _ _ refl c.in_ok-threads.ensures.first c.in_ok-threads.ensures.places (own_faults c.args.faults.now _ _ (c.new-2.ensures ∙ c.in_ok-waiting.ensures) c.requires.faults), c.nothing.ensures _ _ _)

pub returns : goal.returns
returns c =
    let layout : ◌≡◌ {A = Layout} (record { ranges = ranges_of c.args.regions; calls = c.new.result }) (first_layout c.args.image.now) =
    let addresses = c.new.ensures ∙ (c.addresses.ensures ∙ ap (λ t. t.addresses) c.calls.ensures) in
    λ i. record { ranges = ranges_of (c.requires.regions i); calls = record { addresses = addresses i } } in
    record { opening = opens c.args.image.now c.args.number c.args.faults.now c.args.watchdog _ layout (ap (λ r. r.given) c.requires.regions) refl (c.in_ok-pages.ensures.bytes ∙ ap memory_of c.pieces.ensures.pieces) (c.in_ok-pages.ensures.backed ∙ ap holds_file_byte c.pieces.ensures.pieces) (c.in_ok-threads.ensures.first ∙ ap (λ e. unstopped (first_cpu e) ∷ []) c.entry.ensures) (c.new-2.ensures ∙ c.in_ok-waiting.ensures) }
