-- The first race of a run.
use Rattle.std.specs.Prelude.{◌≡◌, ℕ, List}
use Rattle.std.proofs.Common.{arith, inl, inr}
use Rattle.ro_plain.specs.Machine.{Program}
use Rattle.ro_races.specs.First.{ComesAfter, IsFirstRace}

both-ways : (i j b x y z : ℕ) → ComesAfter i j b x y z → ComesAfter x y z i j b → (i ≡ x) × (j ≡ y) × (b ≡ z)
both-ways i j b x y z (inl f) (inl g) = (omega arith, omega arith, omega arith)
both-ways i j b x y z (inl f) (inr g) = (omega (arith, g.0), omega (arith, g.0), omega (arith, g.0))
both-ways i j b x y z (inr f) (inl g) = (omega (arith, f.0), omega (arith, f.0), omega (arith, f.0))
both-ways i j b x y z (inr (e, inl f)) (inr (d, inl g)) = (omega arith, omega arith, omega arith)
both-ways i j b x y z (inr (e, inl f)) (inr (d, inr g)) = (omega (arith, g.0), omega (arith, g.0), omega (arith, g.0))
both-ways i j b x y z (inr (e, inr f)) (inr (d, inl g)) = (omega (arith, f.0), omega (arith, f.0), omega (arith, f.0))
both-ways i j b x y z (inr (e, inr f)) (inr (d, inr g)) = (omega (arith, f.1, g.1), e, f.0)

pub one-first : (program : Program) (threads : List ℕ) (i j b x y z : ℕ) → IsFirstRace program threads i j b → IsFirstRace program threads x y z → (i ≡ x) × (j ≡ y) × (b ≡ z)
one-first program threads i j b x y z f g = both-ways i j b x y z (f.first x y z g.race) (g.first i j b f.race)
