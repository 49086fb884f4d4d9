use Rattle.std.proofs.Common.{◌≡◌, true, sym, ◌∙◌}
use Rattle.std.proofs.lemmas.Bool.{false≢true}
use Rattle.degree_numbers.specs.Name.{is_name}
use Rattle.type_contexts.proofs.Decided.{all_true, all_tested}
use Rattle.type_contexts.proofs.file_types.are_names.Goals as goal

pub returns-then-have_name_texts : goal.returns-then-have_name_texts
returns-then-have_name_texts c = (
  λ t. record { are_names = all_true is_name (λ name. is_name name ≡ true) (λ name told. told) c.args.names.now (sym c.have_name_texts.ensures ∙ c.if-have_name_texts.true); different = c.are_different.ensures.0 t },
  λ h. c.are_different.ensures.1 h.different,
)

pub returns-else-have_name_texts : goal.returns-else-have_name_texts
returns-else-have_name_texts c = (
  λ t. absurd (false≢true (sym c.if-have_name_texts.false ∙ t)),
  λ h. c.have_name_texts.ensures ∙ all_tested is_name (λ name. is_name name ≡ true) (λ name told. told) c.args.names.now h.are_names,
)
