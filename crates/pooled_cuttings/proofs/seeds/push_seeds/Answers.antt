use Rattle.std.proofs.Common.{◌≡◌, ◌∙◌, ◌++◌, ap, refl, subst, sym, List, [], ◌∷◌, ℕ, pos}
use Rattle.degree_numbers.specs.declared.types.Types.{Types}
use Rattle.pooled_cuttings.specs.Lines.{opened_terms_in}
use Rattle.pooled_cuttings.specs.Products.{IsPart, kept_terms, seed}
use Rattle.pooled_cuttings.proofs.Groves.{grove_trans, holds_forest_grown}
use Rattle.pooled_cuttings.proofs.Rows.{row_step, row_end, all_at}
use Rattle.pooled_cuttings.proofs.Loops.{seed_row, seed_row_parts, shift_at, shift_is}
use Rattle.pooled_cuttings.proofs.seeds.push_seeds.Goals as goal

pub push_seed-requires-clause-none : goal.push_seed-requires-clause-none
push_seed-requires-clause-none c =
    holds_forest_grown c.args.grove.now c.loop-a.grove c.args.none.0 [] c.laws.ensures c.loop-a.invariant.grown c.requires.none

pub push_seed-requires-clause-part : goal.push_seed-requires-clause-part
push_seed-requires-clause-part c =
    let n = c.args.n.now.entries in
    let a = shift_at c.args.parts.now c.loop-a.a-index in
    subst (λ (ty : Types). IsPart ty n a.entries) (sym c.loop-a.invariant.grown.pool.types)
    (all_at (λ a. IsPart c.args.grove.now.pool.types n a.entries) c.args.parts.now c.loop-a.a-index a c.loop-a-test.true (shift_is c.args.parts.now c.loop-a.a-index c.loop-a-test.true) c.requires.parts)

pub push_seed-requires-clause-lines : goal.push_seed-requires-clause-lines
push_seed-requires-clause-lines c = c.loop-a.invariant.lines

pub loop-a-preserved : goal.loop-a-preserved
loop-a-preserved c =
    let g = c.args.grove.now in
    let h = c.loop-a.grove in
    let n = c.args.n.now.entries in
    let a = shift_at c.args.parts.now c.loop-a.a-index in
    let put = c.in_ok-push_seed.ensures.terms ∙ ap (λ (ty : Types). opened_terms_in h c.loop-a.lines.items ++ kept_terms ty (pos c.args.bounds.now.excess) (seed n a.entries ∷ [])) c.loop-a.invariant.grown.pool.types in
    record {
      grown = grove_trans g h c.push_seed.new.grove c.loop-a.invariant.grown c.in_ok-push_seed.ensures.grown;
      lines = c.in_ok-push_seed.ensures.lines;
      terms =
          row_step (seed_row g (pos c.args.bounds.now.excess) n) (λ a. kept_terms g.pool.types (pos c.args.bounds.now.excess) (seed n a.entries ∷ [])) (seed_row_parts g (pos c.args.bounds.now.excess) n) c.args.parts.now c.loop-a.a-index a
          (opened_terms_in h c.loop-a.lines.items) (opened_terms_in c.push_seed.new.grove c.push_seed.new.lines.items) _ c.loop-a-test.true (shift_is c.args.parts.now c.loop-a.a-index c.loop-a-test.true) put c.loop-a.invariant.terms;
    }

pub returns-in_err-push_seed-clause-grown : goal.returns-in_err-push_seed-clause-grown
returns-in_err-push_seed-clause-grown c =
    grove_trans c.args.grove.now c.loop-a.grove c.push_seed.new.grove c.loop-a.invariant.grown c.in_err-push_seed.ensures.grown

pub returns-clause-terms : goal.returns-clause-terms
returns-clause-terms c =
    let g = c.args.grove.now in
    row_end (seed_row g (pos c.args.bounds.now.excess) c.args.n.now.entries) c.args.parts.now c.loop-a.a-index (opened_terms_in c.loop-a.grove c.loop-a.lines.items) _ refl c.loop-a-test.false c.loop-a.invariant.terms
