use Rattle.std.proofs.Common.{ap, ◌∙◌, [], ◌∷◌, None}
use Rattle.ro_exec.specs.Threads.{first_cpu}
use Rattle.ro_image.specs.Image.{Image, memory_of}
use Rattle.ro_kernel.specs.Kernel.{opening_kernel}
use Rattle.ro_plain.specs.Machine.{opening}
use Rattle.ro_machine.proofs.plain.Plain.begin.Goals as goal

pub returns-clause-opening : goal.returns-clause-opening
unfolding opening
returns-clause-opening c =
    let memory = c.in_ok-pages.ensures.bytes ∙ ap memory_of (c.pieces.ensures.pieces ∙ ap (λ (i : Image). i.pieces) c.deref.ensures) in
    let cpus = c.in_ok-cpus.ensures.first ∙ ap (λ e. first_cpu e ∷ []) (c.entry.ensures ∙ ap (λ (i : Image). i.entry) c.deref-2.ensures) in
    let kernel = c.in_ok-kernel.ensures.kernel ∙ ap opening_kernel (c.heap.ensures ∙ ap (λ (i : Image). i.heap) c.deref-3.ensures) in
    λ i. record { memory = memory i; cpus = cpus i; kernel = kernel i; output = []; ended = None }
