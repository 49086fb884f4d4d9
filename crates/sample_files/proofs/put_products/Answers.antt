use Rattle.std.proofs.Common.{◌++◌, codes}
use Rattle.sample_files.specs.Sample.{product_text}
use Rattle.sample_files.proofs.Joined.{joined_next}
use Rattle.sample_files.proofs.put_products.Goals as goal

pub loop-before-preserved : goal.loop-before-preserved
loop-before-preserved c = joined_next (λ j. product_text c.args.number c.args.index j ++ codes "+") c.loop-before.before _ _ _ c.loop-before.invariant c.in_ok-put_product.ensures
