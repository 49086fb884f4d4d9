-- A tree with two edges or more at its root is not planted.
use Rattle.std.proofs.Common.{◌≡◌, ℕ, ◌≤◌, Bool, true, false, ◌&&◌, List, [], ◌∷◌, map, length, refl, arith}
use Rattle.std.proofs.lemmas.List.{length-map}
use Rattle.degree_numbers.specs.declared.types.Types.{Types}
use Rattle.plain_trees.specs.declared.tree.Tree.{Tree, out-Tree}
use Rattle.plain_trees.specs.View.{Labelled, grafted, plain, labelled}
use Rattle.plain_trees.specs.Degree.{planted, is_kernel}
use Rattle.plain_trees.proofs.Views.{plain_out}

and_false : (b : Bool) → false ≡ (b && false)
and_false true = refl
and_false false = refl

many : (ty : Types) (n : List ℕ) (es : List Labelled) → 2 ≤ length es → false ≡ planted ty (grafted n es)
many ty n [] h = absurd (omega arith)
many ty n (e ∷ []) h = absurd (omega arith)
many ty n (e ∷ f ∷ es) h = and_false (is_kernel ty e.kind.0)

pub planted_many : (ty : Types) (t : Tree) → 2 ≤ length (out-Tree t).edges → false ≡ planted ty (plain t)
planted_many ty t h = rw (plain_out t) (many ty (out-Tree t).n.entries (map labelled (out-Tree t).edges) (rw (length-map (out-Tree t).edges labelled) h))
