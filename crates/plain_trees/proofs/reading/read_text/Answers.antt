use Rattle.std.proofs.Common.{arith}
use Rattle.plain_trees.specs.View.{plain}
use Rattle.plain_trees.proofs.Readings.{built_is, no_canonical, no_text, true_is, false_not}
use Rattle.plain_trees.proofs.reading.read_text.Goals as goal

pub is_canonical-requires : goal.is_canonical-requires
is_canonical-requires c = (built_is c.args.types.now c.requires.types c.args.most c.requires.most c.args.text.now (plain c.in_ok-t.t) c.in_ok-check_text.ensures.passes c.in_ok-t.ensures.tree).edges

pub has_text-requires-clause-tree : goal.has_text-requires-clause-tree
has_text-requires-clause-tree c = (built_is c.args.types.now c.requires.types c.args.most c.requires.most c.args.text.now (plain c.in_ok-t.t) c.in_ok-check_text.ensures.passes c.in_ok-t.ensures.tree).types_of

pub has_text-requires-clause-small : goal.has_text-requires-clause-small
has_text-requires-clause-small c =
    let b = built_is c.args.types.now c.requires.types c.args.most c.requires.most c.args.text.now (plain c.in_ok-t.t) c.in_ok-check_text.ensures.passes c.in_ok-t.ensures.tree in
    record { edges = b.edges; decorations = omega (arith, b.decorations, c.requires.most) }

pub returns-then-not-is_canonical-clause-refusal : goal.returns-then-not-is_canonical-clause-refusal
returns-then-not-is_canonical-clause-refusal c =
    let b = built_is c.args.types.now c.requires.types c.args.most c.requires.most c.args.text.now (plain c.in_ok-t.t) c.in_ok-check_text.ensures.passes c.in_ok-t.ensures.tree in
    (c.in_ok-check_text.ensures.passes, no_canonical c.args.types.now c.requires.types c.args.most c.requires.most c.args.text.now (plain c.in_ok-t.t) b (λ h. false_not c.is_canonical.result c.if-not-is_canonical.true (c.is_canonical.ensures.1 h)))

pub returns-then-not-branch-clause-refusal : goal.returns-then-not-branch-clause-refusal
returns-then-not-branch-clause-refusal c =
    let b = built_is c.args.types.now c.requires.types c.args.most c.requires.most c.args.text.now (plain c.in_ok-t.t) c.in_ok-check_text.ensures.passes c.in_ok-t.ensures.tree in
    (c.in_ok-check_text.ensures.passes, no_text c.args.types.now c.requires.types c.args.most c.requires.most c.args.text.now (plain c.in_ok-t.t) b (λ h. false_not c.in_ok-has_text.field-0 c.if-not-branch.true (c.in_ok-has_text.ensures.same.1 h)))

pub returns-clause-tree : goal.returns-clause-tree
returns-clause-tree c =
    let b = built_is c.args.types.now c.requires.types c.args.most c.requires.most c.args.text.now (plain c.in_ok-t.t) c.in_ok-check_text.ensures.passes c.in_ok-t.ensures.tree in
    record { types = b.types_of; canonical = c.is_canonical.ensures.0 (true_is c.is_canonical.result c.if-not-is_canonical.false); edges = b.edges; decorations = b.decorations; printed = c.in_ok-has_text.ensures.same.0 (true_is c.in_ok-has_text.field-0 c.if-not-branch.false) }
