use Rattle.std.proofs.Common.{arith, ◌≡◌, ℤ, ◌∙◌, sym, subst, unsigned_abs, to_z, of_z}
use Rattle.std.specs.Int.{w128}
use Rattle.symbol_polys.proofs.PolyLaws.{mass_kept}
use Rattle.tree_pool.specs.Content.{tree_at}
use Rattle.twisted_antipode.specs.Values.{IsValueOf}
use Rattle.twisted_antipode.specs.Quotients.{quotient_value}
use Rattle.twisted_antipode.specs.RunTerms.{multiple_of}
use Rattle.twisted_antipode.proofs.runs.with_quotient.Goals as goal

pub returns-clause-value : goal.returns-clause-value
returns-clause-value c = λ w most h.
    let q = quotient_value c.args.reading c.args.pool.now.types (tree_at c.args.pool.now c.args.term.now.quotient.0) in
    let z = c.args.term.now.coefficient in
    let number = c.requires.term.coefficient in
    let kept : to_z w128 (of_z w128 z) ≡ z = mass_kept (unsigned_abs z) z number.is number.fits ∙ sym number.is in
    c.in_ok-sum.ensures.value w (multiple_of (unsigned_abs z) q) most (omega arith) h
    (subst (λ (y : ℤ). IsValueOf (multiple_of (unsigned_abs y) q) c.in_ok-all.all) kept (c.in_ok-all.ensures.value q c.in_ok-one.ensures.value))
