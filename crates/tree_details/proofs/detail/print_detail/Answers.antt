use Rattle.std.proofs.Common.{◌≡◌, ◌++◌, List, codes, unsigned_abs, ap, ◌∙◌, subst}
use Rattle.degree_numbers.specs.Printing.{IsDegreeText}
use Rattle.plain_trees.specs.Degree.{degree_of}
use Rattle.tree_pool.specs.Content.{Content, tree_at}
use Rattle.gaussian_pairings.specs.declared.pairing.Pairing.{Pairing}
use Rattle.gaussian_pairings.specs.Pairings.{pairs_of}
use Rattle.tree_details.specs.Detail.{section, head_text, pairing_line, recentring_line}
use Rattle.tree_details.specs.Values.{recentred_pairs}
use Rattle.tree_details.proofs.Assembled.{detail_text, antipode_printed, constant_printed}
use Rattle.tree_details.proofs.SumTexts.{one_for_each}
use Rattle.tree_details.proofs.detail.print_detail.Goals as goal

pub put_polynomials-requires-clause-antipode : goal.put_polynomials-requires-clause-antipode
put_polynomials-requires-clause-antipode c = antipode_printed c.args.eq.now c.args.tables.now c.args.detail.now c.requires.detail

pub put_polynomials-requires-clause-constant : goal.put_polynomials-requires-clause-constant
put_polynomials-requires-clause-constant c = constant_printed c.args.eq.now c.args.tables.now c.args.detail.now c.requires.detail

pub put_polynomials-requires-clause-each : goal.put_polynomials-requires-clause-each
put_polynomials-requires-clause-each c =
    one_for_each c.args.eq.now (tree_at c.args.tables.now.pool c.args.detail.now.tree.0) c.args.eq.now.unknowns c.args.detail.now.polynomials.differentials c.requires.detail.polynomials.differentials

pub returns : goal.returns
returns c =
    let d = c.args.detail.now in
    let head = c.in_ok-put_head.ensures in
    detail_text c.args.eq.now c.args.tables.now d c.requires.detail head.0 c.put_head.new.out.items c.put_pairings.new.out.items c.put_extraction.new.out.items c.put_recentring.new.out.items
    c.put_polynomials.new.out.items
    (subst (λ (p : Content). IsDegreeText (degree_of p.types (tree_at p d.tree.0)) (unsigned_abs p.types.units.den) head.0) c.pool.ensures head.1)
    (subst (λ (p : Content). c.put_head.new.out.items ≡ c.new-out.result.items ++ head_text p.types (tree_at p d.tree.0) head.0) c.pool.ensures head.2
    ∙ ap (λ l. l ++ head_text c.args.tables.now.pool.types (tree_at c.args.tables.now.pool d.tree.0) head.0) c.new-out.ensures.items)
    (subst (λ (ps : List Pairing). c.put_pairings.new.out.items ≡ c.put_head.new.out.items ++ section (codes "pairings ") pairing_line (pairs_of ps)) c.as_slice.ensures c.in_ok-put_pairings.ensures)
    c.in_ok-put_extraction.ensures
    (subst (λ (p : Content). c.put_recentring.new.out.items ≡ c.put_extraction.new.out.items ++ section (codes "recentring ") (recentring_line p.types) (recentred_pairs p d.recentring.now)) c.pool-2.ensures
    c.in_ok-put_recentring.ensures)
    c.in_ok-put_polynomials.ensures
