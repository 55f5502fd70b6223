use Rattle.std.proofs.Common.{◌≡◌, List, ℕ, IfOk, subst}
use Rattle.ro_make.specs.Made.{file_of}
use Rattle.ro_make.specs.Bench.{bench_names}
use Rattle.ro_make.proofs.bench.bench_image.Goals as goal

pub returns-clause-made : goal.returns-clause-made
returns-clause-made c =
    subst (λ (words : List ℕ). IfOk c.image_bytes.result (λ file. file.items ≡ file_of words 7 bench_names)) c.bench_words.ensures c.image_bytes.ensures.made
