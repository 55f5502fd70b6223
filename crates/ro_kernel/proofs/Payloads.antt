-- A payload ends below the end of the addresses.
use Rattle.std.specs.Prelude.{◌≡◌, ◌+◌, ◌≤◌, ◌^◌, ℕ, List, nat_le, true}
use Rattle.std.proofs.lemmas.Bool.{and_parts, leb-true}
use Rattle.ro_region.specs.declared.Kind.{Kind}
use Rattle.ro_region.specs.declared.Range.{Range}
use Rattle.ro_region.specs.Permission.{permits_each, permits_of}

pub permitted_ends : (ranges : List Range) (kind : Kind) (place count : ℕ) → permits_of ranges kind place count ≡ true → place + count ≤ 2 ^ 32
unfolding permits_of
permitted_ends ranges kind place count h = leb-true _ _ (and_parts (nat_le (place + count) (2 ^ 32)) (permits_each ranges kind place count) h).0
