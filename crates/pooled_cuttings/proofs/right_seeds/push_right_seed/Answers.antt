use Rattle.std.proofs.Common.{◌≡◌, ◌∙◌, ap, List, ℕ, arith}
use Rattle.degree_numbers.specs.Multi.{minus_of}
use Rattle.plain_trees.specs.Plain.{bare}
use Rattle.pooled_cuttings.proofs.Means.{pair_of}
use Rattle.pooled_cuttings.proofs.RightKeys.{right_pushed_lines, right_pushed}
use Rattle.pooled_cuttings.proofs.right_seeds.push_right_seed.Goals as goal

pub returns-clause-lines : goal.returns-clause-lines
returns-clause-lines c =
    right_pushed_lines c.args.pool.now c.right_seed_key.new.pool c.args.lines.now.items c.push_line.new.lines.items (c.in_ok-key.key, c.of.result) c.in_ok-key.ensures.grown
    c.requires.lines (c.in_ok-key.ensures.known, omega (arith, c.of.ensures), omega (arith, c.of.ensures)) c.in_ok-push_line.ensures

pub returns-clause-terms : goal.returns-clause-terms
returns-clause-terms c =
    let a = c.args.a.now.entries in
    let means = c.in_ok-key.ensures.means ∙ ap (λ (m : List ℕ). pair_of (bare a) (bare m)) c.left_of.ensures in
    right_pushed c.args.pool.now c.right_seed_key.new.pool c.args.lines.now.items c.push_line.new.lines.items c.in_ok-key.key c.of.result
    (pair_of (bare a) (bare (minus_of c.args.n.now.entries a))) 1 c.in_ok-key.ensures.grown c.requires.lines means c.of.ensures c.in_ok-push_line.ensures
