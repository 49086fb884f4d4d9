use Rattle.cutting_sizes.proofs.Counts.{edges_add_up, types_add_up, nodes_add_up, derivatives_add_up, node_entries_add_up, edge_entries_add_up, directions_add_up, components_keep, quotient_keeps}
use Rattle.cutting_sizes.proofs.laws.sums_of_parts.Goals as goal

pub returns-clause-edges : goal.returns-clause-edges
returns-clause-edges c = λ t q fs up. edges_add_up t fs q up

pub returns-clause-types : goal.returns-clause-types
returns-clause-types c = λ t q fs which up. types_add_up t fs q up which

pub returns-clause-nodes : goal.returns-clause-nodes
returns-clause-nodes c = λ t q fs up. nodes_add_up t fs q up

pub returns-clause-derivatives : goal.returns-clause-derivatives
returns-clause-derivatives c = λ t q fs up. derivatives_add_up t fs q up

pub returns-clause-node_entries : goal.returns-clause-node_entries
returns-clause-node_entries c = λ t q fs up d. node_entries_add_up t fs q up d

pub returns-clause-edge_entries : goal.returns-clause-edge_entries
returns-clause-edge_entries c = λ t q fs up d. edge_entries_add_up t fs q up d

pub returns-clause-directions : goal.returns-clause-directions
returns-clause-directions c = λ t q fs up d. directions_add_up t fs q up d

pub returns-clause-components : goal.returns-clause-components
returns-clause-components c = λ t q fs up. components_keep t fs q up

pub returns-clause-quotient : goal.returns-clause-quotient
returns-clause-quotient c = λ t q fs up. quotient_keeps t fs q up
