use Rattle.gaussian_pairings.proofs.Parity.{no_pairing}
use Rattle.gaussian_pairings.proofs.laws.vanishing_law.Goals as goal

pub returns : goal.returns
returns c = no_pairing
