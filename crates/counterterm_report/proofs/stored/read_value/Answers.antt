use mir.Syntax.{w128}
use mir.Val.{SFits}
use Rattle.std.proofs.Common.{Err, rules}
use Rattle.std.proofs.lemmas.Int.{to_z-of_z}
use Rattle.counterterm_report.proofs.ReadValues.{no_parts, no_mass, parts_are, read_is, value_read, text_read, refused_read}
use Rattle.counterterm_report.proofs.stored.read_value.Goals as goal

pub returns-in_default-clause-refusal : goal.returns-in_default-clause-refusal
returns-in_default-clause-refusal c = λ e mass ts v r t. no_parts c.args.types.now c.args.text.now mass ts v r t c.in_default.ensures

pub returns-in_default-clause-back : goal.returns-in_default-clause-back
returns-in_default-clause-back c = λ mass ts v r t. absurd (no_parts c.args.types.now c.args.text.now mass ts v r t c.in_default.ensures)

pub returns-in_default-mass_of-clause-refusal : goal.returns-in_default-mass_of-clause-refusal
returns-in_default-mass_of-clause-refusal c = λ e mass ts v r t. no_mass c.args.types.now c.args.text.now mass ts v r t c.in-Some.digits.now c.in-Some.rest.now c.in-Some.ensures c.in_default-mass_of.ensures.back

pub returns-in_default-mass_of-clause-back : goal.returns-in_default-mass_of-clause-back
returns-in_default-mass_of-clause-back c = λ mass ts v r t. absurd (no_mass c.args.types.now c.args.text.now mass ts v r t c.in-Some.digits.now c.in-Some.rest.now c.in-Some.ensures c.in_default-mass_of.ensures.back)

pub returns-in-Ok-clause-value : goal.returns-in-Ok-clause-value
returns-in-Ok-clause-value c =
    let z = c.in-Some-mass_of.mass in
    let fits : SFits w128 z = search rules in
    let cast = to_z-of_z w128 z fits in
    value_read c.args.types.now c.in-Some-mass_of.mass c.in-Ok.p c.with_mass.result c.in-Ok.ensures.value (rw cast at c.with_mass.ensures.value)

pub returns-in-Ok-clause-text : goal.returns-in-Ok-clause-text
returns-in-Ok-clause-text c =
    let z = c.in-Some-mass_of.mass in
    let fits : SFits w128 z = search rules in
    let cast = to_z-of_z w128 z fits in
    text_read c.args.types.now c.args.text.now c.in-Some.digits.now c.in-Some.rest.now c.in-Some-mass_of.mass c.in-Ok.p c.with_mass.result c.in-Some.ensures c.in-Some-mass_of.ensures.value.1 c.in-Ok.ensures.text (rw cast at c.with_mass.ensures.value)

pub returns-in-Ok-clause-back : goal.returns-in-Ok-clause-back
returns-in-Ok-clause-back c = λ mass ts v r t.
    let z = c.in-Some-mass_of.mass in
    let fits : SFits w128 z = search rules in
    let cast = to_z-of_z w128 z fits in
    read_is c.args.types.now c.args.text.now mass ts v r t c.in-Some.digits.now c.in-Some.rest.now c.in-Some-mass_of.mass c.in-Ok.p c.with_mass.result c.in-Some.ensures c.in-Some-mass_of.ensures.back c.in-Ok.ensures.mass
    (c.in-Ok.ensures.back mass ts v r (parts_are c.args.types.now c.args.text.now mass ts v r t c.in-Some.digits.now c.in-Some.rest.now c.in-Some.ensures).1) (rw cast at c.with_mass.ensures.value) (rw cast at c.with_mass.ensures.refusal)

pub returns-in-Ok-clause-refusal : goal.returns-in-Ok-clause-refusal
returns-in-Ok-clause-refusal c = refused_read c.args.types.now c.args.text.now c.with_mass.result (returns-in-Ok-clause-back c)

pub returns-in-Err-clause-back : goal.returns-in-Err-clause-back
returns-in-Err-clause-back c = λ mass ts v r t.
    c.in-Err.ensures.back mass ts v r (parts_are c.args.types.now c.args.text.now mass ts v r t c.in-Some.digits.now c.in-Some.rest.now c.in-Some.ensures).1

pub returns-in-Err-clause-refusal : goal.returns-in-Err-clause-refusal
returns-in-Err-clause-refusal c = λ e mass ts v r t. refused_read c.args.types.now c.args.text.now (Err c.in-Err.e) (returns-in-Err-clause-back c) e mass ts v r t
