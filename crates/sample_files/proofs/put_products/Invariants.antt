use Rattle.std.proofs.Common.{◌≡◌, ◌++◌, codes}
use Rattle.sample_files.specs.Sample.{joined_to, product_text}
use Rattle.sample_files.proofs.put_products.Given as goal

-- so many were written
abbrev pub invariant-loop-before : goal.invariant-loop-before
invariant-loop-before l = l.text.items ≡ l.fn.text.items ++ joined_to l.before (λ j. product_text l.number l.index j ++ codes "+")
