use Rattle.std.proofs.Common.{ℕ, length, codes, unsigned_abs, sym, ◌∙◌}
use Rattle.std.proofs.lemmas.List.{length-map}
use Rattle.plain_trees.specs.Coproducts.{Extracted}
use Rattle.pooled_cuttings.specs.Lines.{extracted_in}
use Rattle.extraction_coproduct.specs.declared.term.ExtractTerm.{ExtractTerm}
use Rattle.extraction_coproduct.specs.Finished.{grove_of}
use Rattle.extraction_coproduct.specs.Terms.{key_of}
use Rattle.twisted_antipode.specs.Known.{pairs_in}
use Rattle.tree_details.specs.Detail.{extraction_line}
use Rattle.tree_details.proofs.Sections.{begun}
use Rattle.tree_details.proofs.coproducts.put_extraction.Goals as goal

pub loop-term-init : goal.loop-term-init
loop-term-init c =
    let b = c.args.tables.now in
    let ts = c.args.terms.now in
    let pair : ExtractTerm → Extracted × ℕ = λ e. (extracted_in (grove_of b) (key_of e), unsigned_abs e.coefficient) in
    begun (codes "extraction ") (extraction_line b.pool.types) (pairs_in (grove_of b) ts) (length ts) c.as_bytes.result.now c.args.out.now.items c.put_line.new.out.items (sym (length-map ts pair))
    (c.as_bytes.ensures.value ∙ c.format.ensures.text) c.in_ok-put_line.ensures
