use Rattle.std.proofs.Common.{◌≡◌, [], IfOk, MatchOption, sym, subst, ◌∙◌}
use Rattle.degree_numbers.specs.declared.types.Types.{Types}
use Rattle.symbol_polys.specs.View.{terms_of}
use Rattle.tree_pool.specs.Content.{tree_at}
use Rattle.cutting_sizes.proofs.Recentred.{fit_bounded}
use Rattle.twisted_antipode.proofs.Pooled.{kept_at}
use Rattle.twisted_antipode.proofs.HeldLaws.{extended_twice}
use Rattle.counterterm_report.specs.Stored.{value_text}
use Rattle.counterterm_report.specs.Values.{IsValue}
use Rattle.stored_constants.specs.Audits.{IsOtherText}
use Rattle.stored_constants.proofs.AuditLaws.{judged, not_computed}
use Rattle.stored_constants.proofs.ConstantTexts.{value_from}
use Rattle.stored_constants.proofs.audit.audit_tree.Goals as goal

pub constant-computed-requires-clause-bounded : goal.constant-computed-requires-clause-bounded
constant-computed-requires-clause-bounded c = fit_bounded (tree_at c.args.tables.now.pool c.args.id.0) c.requires.fit

pub judge-requires-clause-constant : goal.judge-requires-clause-constant
judge-requires-clause-constant c =
    subst (λ (ty : Types). IsValue ty c.in-Ok.constant.mass (terms_of c.in-Ok.constant.terms)) (sym (c.types.ensures.types ∙ c.in-Ok.ensures.grown.pool.types))
    (value_from c.args.tables.now.pool.types c.in-Ok.constant c.in-Ok.ensures.poly c.in-Ok.ensures.expectations (c.in-Ok.ensures.typed c.requires.typed))

pub returns-in-Ok-clause-truth : goal.returns-in-Ok-clause-truth
returns-in-Ok-clause-truth c =
    let pool = c.args.tables.now.pool in
    let p = c.in-Ok.constant in
    judged pool c.args.constants.now (tree_at pool c.args.id.0) (kept_at pool c.args.id.0 c.laws.ensures.grove.pooled c.requires.known).known c.requires.computed p c.args.value.now c.judge.result c.in-Ok.ensures.value c.in-Ok.ensures.range
    (value_from pool.types p c.in-Ok.ensures.poly c.in-Ok.ensures.expectations (c.in-Ok.ensures.typed c.requires.typed))
    (subst (λ (ty : Types). IfOk c.judge.result (λ o. MatchOption o (c.args.value.now ≡ value_text ty p.mass (terms_of p.terms)) (IsOtherText c.args.value.now (value_text ty p.mass (terms_of p.terms)))))
    (c.types.ensures.types ∙ c.in-Ok.ensures.grown.pool.types) c.judge.ensures.text)

pub returns-in-Ok-clause-computed : goal.returns-in-Ok-clause-computed
returns-in-Ok-clause-computed c =
    extended_twice c.args.tables.now.pool c.constant-computed.new.tables.pool [] c.args.constants.now c.constant-computed.new.constants c.in-Ok.ensures.grown.pool c.laws-2.ensures.grove.pooled tt c.requires.held
    c.in-Ok.ensures.held c.requires.computed c.in-Ok.ensures.extended

pub returns-in-Err-clause-truth : goal.returns-in-Err-clause-truth
returns-in-Err-clause-truth c =
    let pool = c.args.tables.now.pool in
    not_computed pool c.args.constants.now (tree_at pool c.args.id.0) (kept_at pool c.args.id.0 c.laws.ensures.grove.pooled c.requires.known).known c.requires.computed c.in-Err.e c.args.value.now c.cause_of.result
    c.in-Err.ensures.refusal c.cause_of.ensures.cause

pub returns-in-Err-clause-computed : goal.returns-in-Err-clause-computed
returns-in-Err-clause-computed c =
    extended_twice c.args.tables.now.pool c.constant-computed.new.tables.pool [] c.args.constants.now c.constant-computed.new.constants c.in-Err.ensures.grown.pool c.laws-2.ensures.grove.pooled tt c.requires.held
    c.in-Err.ensures.held c.requires.computed c.in-Err.ensures.extended
