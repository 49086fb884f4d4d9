use Rattle.std.proofs.Common.{◌≡◌, ◌∙◌, ◌++◌, ap, refl, subst, sym, List, [], ◌∷◌, ℕ}
use Rattle.degree_numbers.specs.declared.types.Types.{Types}
use Rattle.tree_pool.proofs.Growth.{grown_trans}
use Rattle.pooled_cuttings.specs.Lines.{recentred_terms_in}
use Rattle.pooled_cuttings.specs.Products.{IsPart}
use Rattle.pooled_cuttings.specs.RightProducts.{right_seed}
use Rattle.pooled_cuttings.proofs.Loops.{shift_at, shift_is}
use Rattle.pooled_cuttings.proofs.RightLoops.{right_seeds_row, right_seeds_parts}
use Rattle.pooled_cuttings.proofs.Rows.{row_step, row_end, all_at}
use Rattle.pooled_cuttings.proofs.right_seeds.push_right_seeds.Goals as goal

pub push_right_seed-requires-clause-part : goal.push_right_seed-requires-clause-part
push_right_seed-requires-clause-part c =
    let n = c.args.n.now.entries in
    let a = shift_at c.args.parts.now c.loop-a.a-index in
    subst (λ (ty : Types). IsPart ty n a.entries) (sym c.loop-a.invariant.grown.types)
    (all_at (λ a. IsPart c.args.pool.now.types n a.entries) c.args.parts.now c.loop-a.a-index a c.loop-a-test.true (shift_is c.args.parts.now c.loop-a.a-index c.loop-a-test.true) c.requires.parts)

pub push_right_seed-requires-clause-lines : goal.push_right_seed-requires-clause-lines
push_right_seed-requires-clause-lines c = c.loop-a.invariant.lines

pub loop-a-preserved : goal.loop-a-preserved
loop-a-preserved c =
    let p = c.args.pool.now in
    let q = c.loop-a.pool in
    let n = c.args.n.now.entries in
    let a = shift_at c.args.parts.now c.loop-a.a-index in
    record {
      grown = grown_trans p q c.push_right_seed.new.pool c.loop-a.invariant.grown c.in_ok-push_right_seed.ensures.grown;
      lines = c.in_ok-push_right_seed.ensures.lines;
      terms =
          row_step (right_seeds_row n) (λ a. right_seed n a.entries ∷ []) (right_seeds_parts n) c.args.parts.now c.loop-a.a-index a
          (recentred_terms_in q c.loop-a.lines.items) (recentred_terms_in c.push_right_seed.new.pool c.push_right_seed.new.lines.items) _ c.loop-a-test.true
          (shift_is c.args.parts.now c.loop-a.a-index c.loop-a-test.true) c.in_ok-push_right_seed.ensures.terms c.loop-a.invariant.terms;
    }

pub returns-in_err-push_right_seed-clause-grown : goal.returns-in_err-push_right_seed-clause-grown
returns-in_err-push_right_seed-clause-grown c =
    grown_trans c.args.pool.now c.loop-a.pool c.push_right_seed.new.pool c.loop-a.invariant.grown c.in_err-push_right_seed.ensures.grown

pub returns-clause-terms : goal.returns-clause-terms
returns-clause-terms c =
    row_end (right_seeds_row c.args.n.now.entries) c.args.parts.now c.loop-a.a-index (recentred_terms_in c.loop-a.pool c.loop-a.lines.items) _ refl c.loop-a-test.false c.loop-a.invariant.terms
