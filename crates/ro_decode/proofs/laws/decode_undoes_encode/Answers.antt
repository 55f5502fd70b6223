use Rattle.ro_decode.proofs.InstructionsBack.{read_back}
use Rattle.ro_decode.proofs.laws.decode_undoes_encode.Goals as goal

pub returns : goal.returns
returns c = read_back
