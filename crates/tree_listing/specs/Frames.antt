-- What is known of a site before a tree stands above its new edge.
-- Working notions of the code and of proofs, which no contract of a public call names:
--   is_in_front c f i == the tree with the number i is one of f
--   IsFrontIn c f == the tree that f names is one of the content
--   front o j == the trees that may stand above an edge whose type compares so with that of the
--       first one, where j stands above the first one
--   IsFront c e r f == f are the trees that may stand above an edge of type e in front of the edges
--       of the root of the tree r
--   degree_beside c s == the degree of the new edge of the site s with its stem and its reserve
--   entries_beside c s == the decoration sum of both
--   IsFrame c s f == f has these, and the trees that may stand there
--   keeps c s f i == with the tree i above the new edge the reserve is left, the decoration sum is
--       at most 64, and the edges are in order
use Rattle.std.specs.Prelude.{◌≡◌, ℕ, ◌+◌, ◌<◌, ◌≤◌, ◌&&◌, Bool, true, false, not, nat_le, length, sum, ⊤}
use Rattle.std.specs.Ordering.{is_gt}
use Rattle.std.specs.declared.cmp.Ordering.{Ordering}
use Rattle.std.specs.declared.cmp.Ordering.TheVariants.{Less, Equal, Greater}
use Rattle.degree_numbers.specs.declared.degree.Degree.{Degree}
use Rattle.degree_numbers.specs.Degree.{degree_plus, IsWithin}
use Rattle.plain_trees.specs.Plain.{decoration_sum_of, tree_order}
use Rattle.plain_trees.specs.Degree.{degree_of, edge_degree_of}
use Rattle.normal_rule.specs.declared.rule.EdgeType.{EdgeType}
use Rattle.tree_pool.specs.Content.{Content, tree_at}
use Rattle.tree_pool.specs.declared.node.TreeId.{TreeId}
use Rattle.tree_listing.specs.declared.level.Site.{Site}
use Rattle.tree_listing.specs.declared.passes.Front.{Front}
use Rattle.tree_listing.specs.declared.passes.Front.TheVariants.{All, UpTo, None}
use Rattle.tree_listing.specs.declared.passes.Frame.{Frame}
use Rattle.tree_listing.specs.Made.{is_at_most_first, is_not_above}

abbrev pub is_in_front : Content → Front → TreeId → Bool
is_in_front c All i = true
is_in_front c (UpTo j) i = not (is_gt (tree_order (tree_at c i.0) (tree_at c j.0)))
is_in_front c None i = false

abbrev pub IsFrontIn : Content → Front → Type 0
IsFrontIn c All = ⊤
IsFrontIn c (UpTo j) = j.0 < length c.trees
IsFrontIn c None = ⊤

abbrev pub front : Ordering → TreeId → Front
front Less j = All
front Equal j = UpTo j
front Greater j = None

pub record IsFront (c : Content) (e : EdgeType) (r : TreeId) (f : Front) : Type 0 where
  pub known : IsFrontIn c f
  pub is : (i : TreeId) →
      is_in_front c f i ≡ is_at_most_first e.kind.0 e.p.entries (tree_at c i.0) (tree_at c r.0)

abbrev pub degree_beside : Content → Site → Degree
degree_beside c s = degree_plus (degree_plus (edge_degree_of c.types s.edge.kind.0 s.edge.p.entries)
    (degree_of c.types (tree_at c s.rest.0))) s.reserve

abbrev pub entries_beside : Content → Site → ℕ
entries_beside c s = sum s.edge.p.entries + decoration_sum_of (tree_at c s.rest.0)

pub record IsFrame (c : Content) (s : Site) (f : Frame) : Type 0 where
  pub degree : f.degree ≡ degree_beside c s
  pub degree_a : IsWithin f.degree.a 1001000000000000
  pub degree_b : IsWithin f.degree.b 1001000000000000
  pub entries : f.entries ≡ entries_beside c s
  pub few : f.entries ≤ 8192
  pub front : IsFront c s.edge s.rest f.front

abbrev pub keeps : Content → Site → Frame → TreeId → Bool
keeps c s f i =
    (is_not_above (degree_plus f.degree (degree_of c.types (tree_at c i.0))) s.most
    && nat_le (f.entries + decoration_sum_of (tree_at c i.0)) 64) && is_in_front c f.front i
