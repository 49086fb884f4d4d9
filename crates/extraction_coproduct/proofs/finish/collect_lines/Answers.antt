use Rattle.pooled_cuttings.proofs.SameKeys.{extracted_same}
use Rattle.pooled_cuttings.specs.contracts.keys.ExtractKeyPartialEq.TheImpl.{eq-value}
use Rattle.extraction_coproduct.proofs.Lines.{joined_lines, joined_lines_sums, joined_lines_collected}
use Rattle.extraction_coproduct.proofs.finish.collect_lines.Goals as goal

pub returns : goal.returns
returns c =
    let g = c.args.grove.now in
    let grove = c.laws.ensures in
    let xs = c.args.lines.now.items in
    let ys = c.sort_lines.new.lines.items in
    let zs = c.join_equal.new.terms.items in
    let moved = c.sort_lines.ensures.same in
    let sorted = c.sort_lines.ensures.sorted in
    let joined = c.join_equal.ensures in
    record {
      lines = joined_lines g grove eq-value.it (λ k l a b. extracted_same g k l grove a b) xs ys zs c.requires moved sorted joined;
      sums = joined_lines_sums g grove eq-value.it (λ k l a b. extracted_same g k l grove a b) xs ys zs c.requires moved sorted joined;
      collected = joined_lines_collected g grove eq-value.it (λ k l a b. extracted_same g k l grove a b) xs ys zs c.requires moved sorted joined;
    }
