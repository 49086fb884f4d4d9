use Rattle.right_side_text.proofs.ReadBack.{read_back}
use Rattle.right_side_text.proofs.laws.written_terms_are_read_back.Goals as goal

pub returns : goal.returns
returns c = read_back
