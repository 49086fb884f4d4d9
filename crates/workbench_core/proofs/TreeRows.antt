-- The rows of a tree list, one more at the end.
use Rattle.std.proofs.Common.{◌≡◌, ◌<◌, ◌+◌, ◌++◌, ℕ, List, [], ◌∷◌, length, take, get_or, sym, refl, ap, ◌∙◌, subst, arith, append_assoc, append-nil}
use Rattle.std.proofs.lemmas.List.{take_more, map-append, length-map, length-take-le}
use Rattle.degree_numbers.specs.declared.types.Types.{Types}
use Rattle.plain_trees.specs.Plain.{Plain}
use Rattle.tree_pool.specs.Content.{Content, tree_at}
use Rattle.tree_pool.specs.declared.node.TreeId.{TreeId}
use Rattle.rule_steps.specs.Steps.{trees_of}
use Rattle.workbench_core.specs.TreeList.{IsRow, AreRows}

pub AreRows-push : (ty : Types) (i n : ℕ) (ts : List Plain) (t : Plain) (text row : List ℕ) → n ≡ i + length ts → AreRows ty i ts text → IsRow ty n t row → AreRows ty i (ts ++ t ∷ []) (text ++ row)
AreRows-push ty i n [] t text row e p h =
    let same : n ≡ i = omega (arith, e) in
    (row, [], subst (λ m. IsRow ty m t row) same h, refl, ap (λ l. l ++ row) p ∙ sym (append-nil row))
AreRows-push ty i n (s ∷ ts) t text row e p h =
    let next : n ≡ (i + 1) + length ts = omega (arith, e) in
    (p.0, p.1 ++ row, p.2, AreRows-push ty (i + 1) n ts t p.1 row next p.3 h, ap (λ l. l ++ row) p.4 ∙ append_assoc p.0 p.1 row)

trees_of-more : (c : Content) (ids : List TreeId) (i : ℕ) (d : TreeId) → i < length ids → trees_of c (take (i + 1) ids) ≡ trees_of c (take i ids) ++ tree_at c (get_or ids i d).0 ∷ []
trees_of-more c ids i d lt = ap (trees_of c) (take_more ids i d lt) ∙ map-append (λ (id : TreeId). tree_at c id.0) (take i ids) (get_or ids i d ∷ [])

pub AreRows-next : (ty : Types) (c : Content) (ids : List TreeId) (i : ℕ) (d : TreeId) (text row : List ℕ) → i < length ids
    → AreRows ty 1 (trees_of c (take i ids)) text → IsRow ty (i + 1) (tree_at c (get_or ids i d).0) row → AreRows ty 1 (trees_of c (take (i + 1) ids)) (text ++ row)
AreRows-next ty c ids i d text row lt p h =
    let before = trees_of c (take i ids) in
    let count : length before ≡ i = length-map (take i ids) (λ (id : TreeId). tree_at c id.0) ∙ length-take-le i ids (omega (arith, lt)) in
    let number : i + 1 ≡ 1 + length before = omega (arith, count) in
    subst (λ ts. AreRows ty 1 ts (text ++ row)) (sym (trees_of-more c ids i d lt)) (AreRows-push ty 1 (i + 1) before (tree_at c (get_or ids i d).0) text row number p h)
