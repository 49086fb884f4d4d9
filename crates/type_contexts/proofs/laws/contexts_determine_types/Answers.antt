use Rattle.type_contexts.proofs.LeastUnits.{types_have_text, least_one}
use Rattle.type_contexts.proofs.OneText.{types_one}
use Rattle.type_contexts.proofs.SameNumbers.{size_above}
use Rattle.type_contexts.proofs.SameTypes.{text_one, text_same}
use Rattle.type_contexts.proofs.laws.contexts_determine_types.Goals as goal

pub returns : goal.returns
returns c = record {
  some = types_have_text;
  one = λ form ty text other types h k. text_one form ty text other (size_above ty.units.den types.den_above) h k;
  units = λ form s t text types same h. text_same form s t text (size_above s.units.den types.den_above) same h;
  types = λ form s t text s_types t_types h k. types_one form s t text s_types t_types h k;
  least = λ form s t text s_types t_types s_least t_least h k. least_one s t s_types t_types s_least t_least (types_one form s t text s_types t_types h k);
}
