use Rattle.std.proofs.Common.{ℕ, length, codes, unsigned_abs, sym, ◌∙◌}
use Rattle.std.proofs.lemmas.List.{length-map}
use Rattle.plain_trees.specs.Coproducts.{Recentred}
use Rattle.pooled_cuttings.specs.Lines.{recentred_in}
use Rattle.recentring_coproduct.specs.declared.term.RightTerm.{RightTerm}
use Rattle.recentring_coproduct.specs.Terms.{key_of}
use Rattle.tree_details.specs.Detail.{recentring_line}
use Rattle.tree_details.specs.Values.{recentred_pairs}
use Rattle.tree_details.proofs.Sections.{begun}
use Rattle.tree_details.proofs.coproducts.put_recentring.Goals as goal

pub loop-term-init : goal.loop-term-init
loop-term-init c =
    let pool = c.args.pool.now in
    let ts = c.args.terms.now in
    let pair : RightTerm → Recentred × ℕ = λ e. (recentred_in pool (key_of e), unsigned_abs e.coefficient) in
    begun (codes "recentring ") (recentring_line pool.types) (recentred_pairs pool ts) (length ts) c.as_bytes.result.now c.args.out.now.items c.put_line.new.out.items (sym (length-map ts pair))
    (c.as_bytes.ensures.value ∙ c.format.ensures.text) c.in_ok-put_line.ensures
