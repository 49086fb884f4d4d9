-- Terms by the numbers of their trees.
--   memo_of es == the entries es, as contracts see them
--   numbers_in fs == the numbers of the trees
use Rattle.std.specs.Prelude.{ℕ, List, map}
use Rattle.tree_pool.specs.declared.TreeId.{TreeId}
use Rattle.extraction_coproduct.specs.declared.term.ExtractTerm.{ExtractTerm}
use denote.Ref.{Bor}

abbrev pub memo_of : List (TreeId × Bor (List ExtractTerm)) → List (ℕ × List ExtractTerm)
memo_of = map (λ e. (e.0.0, e.1.now))

abbrev pub numbers_in : List (ℕ × List ExtractTerm) → List ℕ
numbers_in = map (λ f. f.0)
