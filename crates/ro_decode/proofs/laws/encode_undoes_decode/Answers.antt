use Rattle.ro_decode.proofs.WordsBack.{written_back}
use Rattle.ro_decode.proofs.laws.encode_undoes_decode.Goals as goal

pub returns : goal.returns
returns c = written_back
