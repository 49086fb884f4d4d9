use mir.Syntax.{w128}
use mir.Val.{SFits}
use Rattle.std.proofs.Common.{◌≡◌, ◌∷◌, [], rules}
use Rattle.std.proofs.lemmas.Int.{to_z-of_z}
use Rattle.tree_pool.specs.Content.{tree_at}
use Rattle.tree_pool.specs.Forests.{numbers, forest_at}
use Rattle.extraction_coproduct.specs.Finished.{grove_of}
use Rattle.characters.proofs.TermQuestions.{trees_by_number, trees_known, question_is}
use Rattle.characters.proofs.questions.question.Goals as goal

pub returns-clause-known : goal.returns-clause-known
returns-clause-known c =
    let b = c.args.tables.now in
    let f = c.args.term.now.forest.0 in
    let ids = c.trees.result.now in
    let named : numbers ids ≡ forest_at b.forests f = rw c.forests.ensures at c.trees.ensures in
    record { key = c.requires.quotient; first = trees_known (grove_of b) ids f c.laws.ensures.grove c.requires.forest named; second = (c.requires.quotient, tt) }

pub returns-clause-question : goal.returns-clause-question
returns-clause-question c =
    let b = c.args.tables.now in
    let f = c.args.term.now.forest.0 in
    let ids = c.trees.result.now in
    let z = c.args.term.now.coefficient in
    let fits : SFits w128 z = search rules in
    let named : numbers ids ≡ forest_at b.forests f = rw c.forests.ensures at c.trees.ensures in
    question_is (tree_at b.pool c.args.term.now.quotient.0) (tree_at b.pool c.args.term.now.quotient.0 ∷ []) _ z _ _ (to_z-of_z w128 z fits) (trees_by_number b.pool ids
    (forest_at b.forests f) named)
