use Rattle.std.proofs.Common.{◌≡◌, ◌+◌, ◌++◌, ◌∷◌, [], sym, subst, List}
use Rattle.std.proofs.lemmas.Result.{IfOk-weaker}
use Rattle.normal_rule.specs.declared.EdgeType.{EdgeType}
use Rattle.tree_budgets.specs.Fronts.{AreExtensions, IsExtension}
use Rattle.tree_budgets.proofs.Extensions.{one_more, no_more, read_at}
use Rattle.tree_budgets.proofs.rows.extend.Goals as goal

pub returns-in-Some : goal.returns-in-Some
returns-in-Some c =
    let at = read_at c.args.row.now.nodes c.as_slice.result.now c.args.i c.index-as_slice-i.result c.index-as_slice-i.result c.requires.place c.as_slice.ensures c.index-as_slice-i.is in
    let is = subst (λ (es : List EdgeType). IsExtension c.index-as_slice-i.result es c.in-Some.edge) c.as_slice-2.ensures c.in-Some.ensures in
    let more = one_more c.args.row.now.nodes c.args.node.now.edges c.args.i c.index-as_slice-i.result c.in-Some.edge c.args.extensions.now at is c.requires.before in
    IfOk-weaker c.push.result (λ u. c.push.new.self ≡ c.args.extensions.now ++ record { edge = c.in-Some.edge; node = c.args.i } ∷ [])
    (λ u. AreExtensions c.args.row.now.nodes c.args.node.now.edges (c.args.i + 1) c.push.new.self)
    (λ u same. subst (AreExtensions c.args.row.now.nodes c.args.node.now.edges (c.args.i + 1)) (sym same) more) c.push.ensures.ok

pub returns-in-None : goal.returns-in-None
returns-in-None c =
    let at = read_at c.args.row.now.nodes c.as_slice.result.now c.args.i c.index-as_slice-i.result c.index-as_slice-i.result c.requires.place c.as_slice.ensures c.index-as_slice-i.is in
    no_more c.args.row.now.nodes c.args.node.now.edges c.args.i c.index-as_slice-i.result c.args.extensions.now at
    (λ e h. c.in-None.ensures e (subst (λ (es : List EdgeType). IsExtension c.index-as_slice-i.result es e) (sym c.as_slice-2.ensures) h)) c.requires.before
