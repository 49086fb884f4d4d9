use Rattle.std.proofs.Common.{◌≡◌, ◌∙◌, ◌++◌, sym, ap, List, [], ℕ, arith, pos, refl}
use Rattle.degree_numbers.specs.declared.types.Types.{Types}
use Rattle.degree_numbers.specs.Multi.{minus_of}
use Rattle.plain_trees.specs.Plain.{Plain, bare}
use Rattle.tree_pool.specs.Content.{Content}
use Rattle.cutting_tables.specs.Keys.{Opened}
use Rattle.pooled_cuttings.specs.Lines.{opened_terms_in}
use Rattle.pooled_cuttings.specs.Products.{is_low}
use Rattle.pooled_cuttings.proofs.Means.{open_of}
use Rattle.pooled_cuttings.proofs.Degrees.{low_same}
use Rattle.pooled_cuttings.proofs.MadeKeys.{open_pushed_lines, open_pushed, kept_one, nothing_kept}
use Rattle.pooled_cuttings.proofs.seeds.push_seed.Goals as goal

pub returns-in_ok-push_line-clause-lines : goal.returns-in_ok-push_line-clause-lines
returns-in_ok-push_line-clause-lines c =
    open_pushed_lines c.args.grove.now c.seed_key.new.grove c.args.lines.now.items c.push_line.new.lines.items (c.in_ok-key.key, c.of.result) c.in_ok-key.ensures.grown c.requires.lines
    (c.in_ok-key.ensures.known, omega (arith, c.of.ensures), omega (arith, c.of.ensures)) c.in_ok-push_line.ensures

pub returns-in_ok-push_line-clause-terms : goal.returns-in_ok-push_line-clause-terms
returns-in_ok-push_line-clause-terms c =
    let g = c.args.grove.now in
    let a = c.args.a.now.entries in
    let x = open_of [] (bare a) (bare (minus_of c.args.n.now.entries a)) in
    let means = c.in_ok-key.ensures.means ∙ ap (λ (m : List ℕ). open_of [] (bare a) (bare m)) c.left_of.ensures in
    let types = c.types.ensures.types ∙ ap (λ (p : Content). p.types) c.pool.ensures in
    let low = low_same c.is_low_node.result c.types.result.now g.pool.types (pos c.args.bounds.now.excess) (pos c.args.bounds.now.excess) (bare a) c.is_low_node.ensures refl types ∙ c.if-is_low_node.true in
    open_pushed g c.seed_key.new.grove c.args.lines.now.items c.push_line.new.lines.items c.in_ok-key.key c.of.result x 1
    c.laws.ensures c.in_ok-key.ensures.grown c.requires.lines means c.of.ensures c.in_ok-push_line.ensures
    ∙ sym (ap (λ (ts : List (Opened × ℕ)). opened_terms_in g c.args.lines.now.items ++ ts) (kept_one g.pool.types (pos c.args.bounds.now.excess) x 1 low))

pub returns-else-is_low_node-clause-terms : goal.returns-else-is_low_node-clause-terms
returns-else-is_low_node-clause-terms c =
    let g = c.args.grove.now in
    let a = c.args.a.now.entries in
    let types = c.types.ensures.types ∙ ap (λ (p : Content). p.types) c.pool.ensures in
    let low = low_same c.is_low_node.result c.types.result.now g.pool.types (pos c.args.bounds.now.excess) (pos c.args.bounds.now.excess) (bare a) c.is_low_node.ensures refl types ∙ c.if-is_low_node.false in
    nothing_kept g.pool.types (pos c.args.bounds.now.excess) (opened_terms_in g c.args.lines.now.items) (open_of [] (bare a) (bare (minus_of c.args.n.now.entries a))) 1 low
