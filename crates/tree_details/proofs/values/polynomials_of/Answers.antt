use Rattle.std.proofs.Common.{◌<◌, ◌≤◌, ap, ◌∙◌, subst}
use Rattle.std.proofs.lemmas.Result.{err_from_is_err_and}
use Rattle.exact_sums.specs.Saturating.{overflow}
use Rattle.plain_trees.specs.Plain.{Plain}
use Rattle.tree_pool.specs.Content.{Content, tree_at}
use Rattle.tree_values.specs.Quantities.{quantities_at}
use Rattle.tree_values.specs.Ranges.{IsDifferentialPast, IsFirstOf, AreInRange}
use Rattle.tree_values.specs.Values.{AreDifferentialsOf}
use Rattle.tree_details.specs.Values.{IsPolynomialOf}
use Rattle.tree_details.proofs.Found.{still_there}
use Rattle.tree_details.proofs.Refused.{refused_as, polynomials_range, constant_first, differential_first}
use Rattle.tree_details.proofs.values.polynomials_of.Goals as goal

pub returns-in_err-constant-clause-refusal : goal.returns-in_err-constant-clause-refusal
returns-in_err-constant-clause-refusal c =
    let p = err_from_is_err_and c.from_residual-in_err-constant.result c.from_residual-in_err-constant.ensures.1 in
    let eq = c.args.eq.now in
    let t = tree_at c.args.tables.now.pool c.args.id.0 in
    let same = (still_there c.args.tables.now c.antipode_of.new.tables c.args.id.0 c.antipode_of.ensures.grown c.requires.known).1 in
    rw (p.1, p.2)
    (λ a k is_a is_k.
    refused_as c.args.id _ _ c.in_err-constant.field-0.0
    (λ q h. constant_first eq a k t q (c.in_ok-antipode.ensures.value a is_a).1 (h.0, subst (λ (u : Plain). overflow ≤ (k u).mass) same (h.1 k is_k))) c.in_err-constant.ensures.refusal)

pub returns-in_err-differentials-clause-refusal : goal.returns-in_err-differentials-clause-refusal
returns-in_err-differentials-clause-refusal c =
    let p = err_from_is_err_and c.from_residual-in_err-differentials.result c.from_residual-in_err-differentials.ensures.1 in
    let eq = c.args.eq.now in
    let id = c.args.id.0 in
    let t = tree_at c.args.tables.now.pool id in
    let first = still_there c.args.tables.now c.antipode_of.new.tables id c.antipode_of.ensures.grown c.requires.known in
    let second = still_there c.antipode_of.new.tables c.constant_of.new.tables id c.constant_of.ensures.grown first.0 in
    let third = ap (λ (pool : Content). tree_at pool id) c.pool.ensures ∙ second.1 ∙ first.1 in
    rw (p.1, p.2)
    (λ a k is_a is_k.
    refused_as c.args.id _ _ c.in_err-differentials.field-0.0
    (λ q h.
    differential_first eq a k t q (c.in_ok-antipode.ensures.value a is_a).1 (subst (λ (u : Plain). (k u).mass < overflow) first.1 (c.in_ok-constant.ensures.value k is_k).1)
    (subst (λ (u : Plain). IsFirstOf (IsDifferentialPast eq u) (quantities_at eq.unknowns) q) third h)) c.in_err-differentials.ensures.refusal)

pub returns-clause-polynomials : goal.returns-clause-polynomials
returns-clause-polynomials c =
    let eq = c.args.eq.now in
    let id = c.args.id.0 in
    let first = still_there c.args.tables.now c.antipode_of.new.tables id c.antipode_of.ensures.grown c.requires.known in
    let second = still_there c.antipode_of.new.tables c.constant_of.new.tables id c.constant_of.ensures.grown first.0 in
    let third = ap (λ (pool : Content). tree_at pool id) c.pool.ensures ∙ second.1 ∙ first.1 in
    record {
      antipode = λ a is. (c.in_ok-antipode.ensures.value a is).0;
      constant = λ k is. subst (λ (u : Plain). IsPolynomialOf eq (k u).terms c.in_ok-constant.constant) first.1 (c.in_ok-constant.ensures.value k is).0;
      differentials = subst (λ (u : Plain). AreDifferentialsOf eq u eq.unknowns c.in_ok-differentials.differentials) third c.in_ok-differentials.ensures.values;
      printed = c.in_ok-differentials.ensures.printed;
    }

pub returns-clause-range : goal.returns-clause-range
returns-clause-range c = λ a k is_a is_k.
    let eq = c.args.eq.now in
    let id = c.args.id.0 in
    let first = still_there c.args.tables.now c.antipode_of.new.tables id c.antipode_of.ensures.grown c.requires.known in
    let second = still_there c.antipode_of.new.tables c.constant_of.new.tables id c.constant_of.ensures.grown first.0 in
    let third = ap (λ (pool : Content). tree_at pool id) c.pool.ensures ∙ second.1 ∙ first.1 in
    polynomials_range eq a k (tree_at c.args.tables.now.pool id) (c.in_ok-antipode.ensures.value a is_a).1 (subst (λ (u : Plain). (k u).mass < overflow) first.1 (c.in_ok-constant.ensures.value k is_k).1)
    (subst (λ (u : Plain). AreInRange (IsDifferentialPast eq u) (quantities_at eq.unknowns)) third c.in_ok-differentials.ensures.range)
