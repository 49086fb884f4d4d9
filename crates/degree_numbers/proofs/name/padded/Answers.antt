use Rattle.degree_numbers.proofs.Names.{padded_text}
use Rattle.degree_numbers.proofs.name.padded.Goals as goal

pub returns : goal.returns
returns c = padded_text c.args.text.now _ c.copy_from_slice.ensures.after
