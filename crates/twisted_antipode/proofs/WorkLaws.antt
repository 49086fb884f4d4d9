-- How much is counted: at most one for each tree of a list for which nothing is held.
use Rattle.std.proofs.Common.{◌≡◌, ℕ, ◌+◌, ◌<◌, ◌≤◌, List, [], ◌∷◌, map, length, Option, Some, is_none, ap, ◌∙◌, subst, arith, length-append}
use Rattle.std.specs.List.{AllByRecursion}
use Rattle.std.proofs.lemmas.List.{length-map}
use Rattle.ordered_lists.specs.Members.{IsIn}
use Rattle.ordered_lists.proofs.Members.{from_map}
use Rattle.multiplicities.specs.Distinct.{AreDistinct}
use Rattle.multiplicities.proofs.DistinctLists.{distinct_length}
use Rattle.degree_numbers.proofs.TypeBounds.{all_weaker}
use Rattle.plain_trees.specs.Plain.{Plain}
use Rattle.tree_pool.specs.Content.{Content, IsPooled, tree_at}
use Rattle.extraction_coproduct.specs.Finished.{TablesContent}
use Rattle.antipode_laws.specs.Weighed.{Weighed}
use Rattle.antipode_laws.proofs.OtherTerms.{member_of}
use Rattle.antipode_laws.proofs.UncutTerm.{in_filter}
use Rattle.twisted_antipode.specs.Held.{Held, held_over, AreHeldOver}
use Rattle.twisted_antipode.specs.Counts.{IsCountOf, IsNewAmong, AreFinishedAmong, unheld_of}
use Rattle.twisted_antipode.proofs.Pooled.{holds_at}
use Rattle.twisted_antipode.proofs.KnownLaws.{held_first}
use Rattle.twisted_antipode.proofs.SolutionLaws.{well_of}
use Rattle.twisted_antipode.proofs.CountLaws.{count_most}

-- different numbers are those of different trees
distinct_trees : (c : Content) (is : List ℕ) → IsPooled c → AllByRecursion (λ i. i < length c.trees) is → AreDistinct is → AreDistinct (map (tree_at c) is)
distinct_trees c [] pooled known once = tt
distinct_trees c (i ∷ is) pooled known once = (
  λ m.
      let from = from_map (tree_at c) (tree_at c i) is m in
      let there = member_of (λ (j : ℕ). j < length c.trees) is from.0 known.1 from.1 in
      let same : from.0 ≡ i = pooled.distinct from.0 i (tree_at c i) (holds_at c from.0 there ∙ ap (λ (t : Plain). Some t) from.2) (holds_at c i known.0) in
      once.0 (subst (λ (j : ℕ). IsIn j is) same from.1),
  distinct_trees c is pooled known.1 once.1,
)

trees_most : (c : Content) (hs : List Held) (ts : List Plain) (old is : List ℕ) → IsPooled c → AreHeldOver c hs → AllByRecursion (IsNewAmong c hs ts old) is → AreDistinct is →
    length is ≤ length (unheld_of c hs ts)
trees_most c hs ts old is pooled over each once =
    let trees = distinct_trees c is pooled (all_weaker (IsNewAmong c hs ts old) (λ (i : ℕ). i < length c.trees) is (λ i n. n.known) each) once in
    let most = distinct_length (map (tree_at c) is) (unheld_of c hs ts) trees
    (λ t m.
    let from = from_map (tree_at c) t is m in
    let new = member_of (IsNewAmong c hs ts old) is from.0 each from.1 in
    let none = held_first c hs from.0 pooled (well_of c hs over) new.known ∙ new.unheld in
    subst (λ (s : Plain). IsIn s (unheld_of c hs ts)) from.2
    (in_filter (λ (s : Plain). is_none (held_over c hs s)) (tree_at c from.0) ts new.tree (ap (λ (o : Option Weighed). is_none o) none))) in
    let same = length-map is (tree_at c) in
    omega (arith, most, same)

pub work_most : (old new : TablesContent) (hs : List Held) (ts : List Plain) (before after : ℕ) → IsPooled new.pool → AreHeldOver new.pool hs → IsCountOf old new before after →
    AreFinishedAmong new.pool hs ts old.finished new.finished → after ≤ before + length (unheld_of new.pool hs ts)
work_most old new hs ts before after pooled over counted among =
    let most = count_most old new before after counted in
    let few = trees_most new.pool hs ts old.finished among.more pooled over among.each among.once in
    let first = ap (λ (is : List ℕ). length is) counted.finished ∙ length-append old.finished counted.more in
    let second = ap (λ (is : List ℕ). length is) among.finished ∙ length-append old.finished among.more in
    omega (arith, most, few, first, second)
