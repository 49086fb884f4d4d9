-- Edge types: pairs of a type and a derivative multiindex.
--   EdgeType == a type and a derivative multiindex
--   edge_type_order e f == by type number, then by multiindex
--   node_type_order es fs == by length, then by edge types from the front
--   IsInOrder es == the edge types ascend, and equal ones may stand side by side
use Rattle.std.specs.Prelude.{List, length, IsSorted}
use Rattle.std.specs.declared.cmp.Ordering.{Ordering}
use Rattle.std.specs.Ordering.{nat_cmp, on, then_cmp}
use Rattle.std.specs.Cmp.Lexicographic.{slice_cmp}
use Rattle.degree_numbers.specs.declared.multi.Multi.{Multi}
use Rattle.degree_numbers.specs.declared.types.TypeId.{TypeId}
use Rattle.degree_numbers.specs.Multi.{multi_order}

abbrev pub EdgeType : Type 0
EdgeType = TypeId × Multi

abbrev pub edge_type_order : EdgeType → EdgeType → Ordering
edge_type_order = then_cmp (on (λ e. e.0.0) nat_cmp) (on (λ e. e.1.entries) multi_order)

abbrev pub node_type_order : List EdgeType → List EdgeType → Ordering
node_type_order = then_cmp (on length nat_cmp) (slice_cmp edge_type_order)

abbrev pub IsInOrder : List EdgeType → Type 0
IsInOrder es = IsSorted edge_type_order es
