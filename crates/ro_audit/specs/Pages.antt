-- Pages that are compared.
use Rattle.std.specs.Prelude.{◌≢◌, ◌<◌, ◌*◌, ◌+◌, ℕ}
use Rattle.ro_replica.specs.Replica.{Replica, word_at}

-- a word of the page is another one in the one replica than in the other; where the page isn't backed it has none
abbrev pub DiffersIn : Replica → Replica → (page : ℕ) → Type 0
DiffersIn one other page = (place : ℕ) × (place < 1024) × (word_at one (page * 4096 + 4 * place) ≢ word_at other (page * 4096 + 4 * place))
