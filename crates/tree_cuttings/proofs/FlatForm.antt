-- The flat form of a tree gives back the tree.
use Rattle.std.proofs.Common.{◌≡◌, ℕ, ◌+◌, ◌<◌, ◌≤◌, ◌≢◌, ◌⊎◌, inl, inr, List, [], ◌++◌, refl, sym, ap, ◌∙◌, arith, append_assoc, append-nil}
use Rattle.plain_trees.specs.Plain.{Plain, bare, graft, root_of, edge_count_of}
use Rattle.plain_trees.specs.Flat.{Link, links_from, links_of, tree_at}
use Rattle.tree_cuttings.proofs.Rows.{test_yes, test_no}
use Rattle.tree_cuttings.proofs.FlatQuotients.{LinkApart, link_apart-append, link_skip, link_none, onto, onto-self}

links_apart_from : (j r next : ℕ) (t : Plain) → r ≢ j → (j < next) ⊎ (next + edge_count_of t ≤ j) → LinkApart j (links_from r next t)
links_apart_from j r next (bare n) h d = tt
links_apart_from j r next (graft k p c t) h (inl d) = (
  test_no r j h,
  link_apart-append j (links_from next (1 + next) c) (links_from r (1 + next + edge_count_of c) t)
      (links_apart_from j next (1 + next) c (omega (arith, d)) (inl (omega (arith, d))))
      (links_apart_from j r (1 + next + edge_count_of c) t h (inl (omega (arith, d)))),
)
links_apart_from j r next (graft k p c t) h (inr d) = (
  test_no r j h,
  link_apart-append j (links_from next (1 + next) c) (links_from r (1 + next + edge_count_of c) t)
      (links_apart_from j next (1 + next) c (omega (arith, d)) (inr (omega (arith, d))))
      (links_apart_from j r (1 + next + edge_count_of c) t h (inr (omega (arith, d)))),
)

tree_of_links : (r next : ℕ) (t : Plain) (n : List ℕ) (ys : List Link) → r < next → ((j : ℕ) → next ≤ j → j < next + edge_count_of t → LinkApart j ys) →
    tree_at r n (links_from r next t ++ ys) ≡ onto t (tree_at r n ys)
tree_of_links r next (bare m) n ys low h = refl
tree_of_links r next (graft k p c t) n ys low h =
    let above = links_from next (1 + next) c in
    let beside = links_from r (1 + next + edge_count_of c) t in
    let later : (j : ℕ) → next ≤ j → j < 1 + next + edge_count_of c → LinkApart j (beside ++ ys) =
    λ j d e. link_apart-append j beside ys (links_apart_from j r (1 + next + edge_count_of c) t (omega (arith, low, d)) (inl e)) (h j d (omega (arith, e))) in
    let split : (above ++ beside) ++ ys ≡ above ++ (beside ++ ys) = append_assoc above beside ys in
    let child : tree_at next (root_of c) (above ++ (beside ++ ys)) ≡ c =
    tree_of_links next (1 + next) c (root_of c) (beside ++ ys) (omega arith) (λ j d e. later j (omega (arith, d)) e)
    ∙ ap (onto c) (link_none next (root_of c) (beside ++ ys) (later next (omega arith) (omega arith)))
    ∙ onto-self c in
    let rest : tree_at r n (above ++ (beside ++ ys)) ≡ onto t (tree_at r n ys) =
    link_skip r n above (beside ++ ys) (links_apart_from r next (1 + next) c (omega (arith, low)) (inl (omega (arith, low))))
    ∙ tree_of_links r (1 + next + edge_count_of c) t n ys (omega (arith, low)) (λ j d e. h j (omega (arith, d)) (omega (arith, e))) in
    rw (split, test_yes r, child, rest) refl

pub flat_form : (t : Plain) → tree_at 0 (root_of t) (links_of t) ≡ t
flat_form t =
    ap (tree_at 0 (root_of t)) (sym (append-nil (links_from 0 1 t)))
    ∙ tree_of_links 0 1 t (root_of t) [] (omega arith) (λ j d e. tt)
    ∙ onto-self t
