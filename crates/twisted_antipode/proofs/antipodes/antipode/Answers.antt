use Rattle.plain_trees.specs.Plain.{Plain}
use Rattle.tree_pool.specs.Content.{tree_at}
use Rattle.antipode_laws.specs.Weighed.{Weighed}
use Rattle.antipode_laws.specs.Antipode.{IsAntipode}
use Rattle.twisted_antipode.specs.Values.{IsValueOf}
use Rattle.twisted_antipode.proofs.ConstantLaws.{antipode_value, antipode_answer, antipode_trees, antipode_refusal}
use Rattle.twisted_antipode.proofs.antipodes.antipode.Goals as goal

value : (c : goal.After-drop-memo-inside-5) (a : Plain → Weighed) → IsAntipode c.args.tables.now.pool.types a → IsValueOf (a (tree_at c.args.tables.now.pool c.args.id.0)) c.in_ok-value.value
value c = antipode_value c.args.tables.now.pool c.in_ok-memo.memo c.args.id.0 c.in_ok-value.value c.in_ok-memo.ensures.nothing c.in_ok-value.ensures.value

pub returns-clause-value : goal.returns-clause-value
returns-clause-value c = antipode_answer c.args.tables.now.pool c.args.id.0 c.in_ok-value.value c.poly_of.result (value c) c.poly_of.ensures.value

pub returns-clause-trees : goal.returns-clause-trees
returns-clause-trees c =
    antipode_trees c.args.tables.now.pool c.args.id.0 c.poly_of.result c.laws.ensures.grove.pooled c.requires.known c.poly_of.ensures.poly
    (antipode_answer c.args.tables.now.pool c.args.id.0 c.in_ok-value.value c.poly_of.result (value c) c.poly_of.ensures.value)

pub returns-clause-refusal : goal.returns-clause-refusal
returns-clause-refusal c = antipode_refusal c.args.tables.now.pool c.args.id.0 c.in_ok-value.value c.poly_of.result (value c) c.poly_of.ensures.refusal c.poly_of.ensures.large
