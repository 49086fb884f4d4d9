use Rattle.std.proofs.Common.{arith, refl, sym, subst, [], map, drop}
use Rattle.plain_trees.specs.Canon.{IsCanonical}
use Rattle.plain_trees.specs.View.{plain, labelled}
use Rattle.plain_trees.specs.declared.tree.Tree.{out-Tree}
use Rattle.plain_trees.specs.declared.tree.Edge.{Edge, out-Edge}
use Rattle.plain_trees.proofs.CanonTests.{count-root, canonical_parts, canonical_whole}
use Rattle.plain_trees.proofs.DegreeBounds.{cut_at}
use Rattle.plain_trees.proofs.canon.+is_canonical.Goals as goal

pub is_at_most_next-requires-clause-small : goal.is_at_most_next-requires-clause-small
is_at_most_next-requires-clause-small t c =
    let n = (out-Tree c.args.t.now).n.entries in
    rw (count-root [] n (map labelled (drop c.loop-i.i c.as_slice-edges.result.now))) c.loop-i.invariant.small

pub returns-then-not-is_canonical : goal.returns-then-not-is_canonical
returns-then-not-is_canonical t c =
    let n = (out-Tree c.args.t.now).n.entries in
    let parts = canonical_parts n c.as_slice-edges.result.now c.loop-i.i c.index-edges-i.result c.loop-i-test.true c.index-edges-i.is in
    (λ h. absurd cc, λ h. c.if-not-is_canonical.ensures.1 (subst (λ (y : Edge). IsCanonical (plain (out-Edge y).child)) c.index-edges-i.is (parts (c.loop-i.invariant.back h)).0))

pub returns-then-not-is_at_most_next : goal.returns-then-not-is_at_most_next
returns-then-not-is_at_most_next t c =
    let n = (out-Tree c.args.t.now).n.entries in
    let parts = canonical_parts n c.as_slice-edges.result.now c.loop-i.i c.index-edges-i.result c.loop-i-test.true c.index-edges-i.is in
    (λ h. absurd cc, λ h. c.if-not-is_at_most_next.ensures.1 (parts (c.loop-i.invariant.back h)).2)

pub loop-i-preserved : goal.loop-i-preserved
loop-i-preserved t c =
    let n = (out-Tree c.args.t.now).n.entries in
    let items = c.as_slice-edges.result.now in
    let x = c.index-edges-i.result in
    let cut = cut_at n items c.loop-i.i x c.loop-i-test.true c.index-edges-i.is in
    let small = rw cut at c.loop-i.invariant.small in
    let child = subst (λ (y : Edge). IsCanonical (plain (out-Edge y).child)) (sym c.index-edges-i.is) (c.if-not-is_canonical.ensures.0 refl) in
    record {
      within = omega arith;
      small = omega (arith, small);
      onward = λ h. c.loop-i.invariant.onward (canonical_whole n items c.loop-i.i x c.loop-i-test.true c.index-edges-i.is child (c.if-not-is_at_most_next.ensures.0 refl) h);
      back = λ h. (canonical_parts n items c.loop-i.i x c.loop-i-test.true c.index-edges-i.is (c.loop-i.invariant.back h)).1;
    }
