use Rattle.plain_trees.proofs.Answered.{back_of}
use Rattle.plain_trees.proofs.reading.read_tree.Goals as goal

pub returns-clause-back : goal.returns-clause-back
returns-clause-back c = back_of c.args.types.now c.requires.types c.args.most c.requires.most c.args.text.now c.read_text.result c.read_text.ensures.tree c.read_text.ensures.refusal
