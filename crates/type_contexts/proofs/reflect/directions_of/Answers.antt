use Rattle.std.proofs.Common.{◌≡◌, sym, ◌∙◌}
use Rattle.std.specs.Prelude.{codes}
use Rattle.std.proofs.lemmas.Bool.{true≢false}
use Rattle.std.proofs.lemmas.Slice.Eq.{bytes_eq-Decides}
use Rattle.type_contexts.proofs.DirectionsRead.{minus_directions, numbers_said}
use Rattle.type_contexts.proofs.reflect.directions_of.Goals as goal

pub returns-then-eq-clause-ok : goal.returns-then-eq-clause-ok
returns-then-eq-clause-ok c is few e =
    c.new.ensures ∙ minus_directions is few (sym ((bytes_eq-Decides c.args.text.now c.as_slice.result.now).0 (sym c.eq.ensures ∙ c.if-eq.true) ∙ c.as_slice.ensures) ∙ e)

pub returns-clause-ok : goal.returns-clause-ok
returns-clause-ok c is few e =
    let other : c.args.text.now ≡ codes "-" → ⊥ = λ t. true≢false (sym (c.eq.ensures ∙ (bytes_eq-Decides c.args.text.now c.as_slice.result.now).1 (t ∙ sym c.as_slice.ensures)) ∙ c.if-eq.false) in
    c.numbers_of.ensures.ok is (numbers_said (λ s. s.now) is c.args.text.now c.in_ok-parts.parts.items c.as_slice-2.result.now other few e c.in_ok-parts.ensures c.as_slice-2.ensures.value) few

pub returns-clause-err : goal.returns-clause-err
returns-clause-err c is few e =
    let other : c.args.text.now ≡ codes "-" → ⊥ = λ t. true≢false (sym (c.eq.ensures ∙ (bytes_eq-Decides c.args.text.now c.as_slice.result.now).1 (t ∙ sym c.as_slice.ensures)) ∙ c.if-eq.false) in
    c.numbers_of.ensures.err is (numbers_said (λ s. s.now) is c.args.text.now c.in_ok-parts.parts.items c.as_slice-2.result.now other few e c.in_ok-parts.ensures c.as_slice-2.ensures.value) few
