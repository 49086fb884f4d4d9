use Rattle.tree_pool.proofs.Nodes.{tree_there, pool_pushed, measures_pushed, pushed_holds, pushed_grown}
use Rattle.tree_pool.proofs.pool.Pool.intern_sorted.Goals as goal

pub returns-in-Some-clause-tree : goal.returns-in-Some-clause-tree
returns-in-Some-clause-tree c =
    tree_there c.self.inside.nodes.keys c.args.self.now c.self.inside.types c.in-Some.i c.args.n.entries c.args.edges.now c.self.view_is c.self.invariant.nodes c.in-Some.ensures

pub invariant_of-self-2 : goal.invariant_of-self-2
invariant_of-self-2 c =
    record {
      nodes = pool_pushed c.self.inside.nodes.keys c.push_node.new.nodes.keys c.args.self.now c.self.inside.types c.args.n.entries c.args.edges.now c.self.view_is c.self.invariant.nodes c.requires.known
          c.in_default.ensures c.in_ok-push_node.ensures.nodes c.requires.kept;
      measured = measures_pushed c.self.inside.nodes.keys c.push_node.new.nodes.keys c.self.inside.measures.items c.push_node.new.measures.items c.args.self.now c.self.inside.types c.args.n.entries c.args.edges.now
          c.measures_over-measures.result c.self.view_is c.self.invariant.measured c.in_ok-push_node.ensures.nodes c.in_ok-push_node.ensures.measures c.measures_over-measures.ensures;
    }

pub returns-clause-tree : goal.returns-clause-tree
returns-clause-tree c =
    pushed_holds c.self.inside.nodes.keys c.push_node.new.nodes.keys c.args.self.now c.self.inside.types c.args.n.entries c.args.edges.now c.len-id.result c.self.view_is c.in_ok-push_node.ensures.nodes c.len-id.ensures.len

pub returns-clause-grown : goal.returns-clause-grown
returns-clause-grown c = pushed_grown c.self.inside.nodes.keys c.push_node.new.nodes.keys c.args.self.now c.self.inside.types c.args.n.entries c.args.edges.now c.self.view_is c.in_ok-push_node.ensures.nodes
