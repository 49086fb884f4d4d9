use Rattle.std.proofs.Common.{sym, subst, ◌∙◌}
use Rattle.std.proofs.lemmas.Slice.Eq.{bytes_eq-Decides}
use Rattle.type_contexts.specs.Context.{IsTextIn}
use Rattle.type_contexts.proofs.SameNumbers.{size_above}
use Rattle.type_contexts.proofs.SameTypes.{text_one}
use Rattle.type_contexts.proofs.read.has_text.Goals as goal

pub returns : goal.returns
returns c =
    let decides = bytes_eq-Decides c.as_slice.result.now c.args.text.now in (
      λ t. subst (IsTextIn c.args.form c.args.types.now) (sym c.as_slice.ensures.value ∙ decides.0 (sym c.eq.ensures ∙ t)) c.in_ok-printed.ensures,
      λ h. c.eq.ensures ∙ decides.1 (c.as_slice.ensures.value ∙ text_one c.args.form c.args.types.now c.in_ok-printed.printed.items c.args.text.now (size_above c.args.types.now.units.den c.requires.above) c.in_ok-printed.ensures h),
    )
