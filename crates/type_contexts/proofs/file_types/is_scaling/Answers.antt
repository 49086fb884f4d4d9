use Rattle.std.proofs.Common.{arith, rules, ap, sym, ◌∙◌}
use Rattle.std.specs.Prelude.{◌==◌, ◌&&◌, nat_lt, nat_le}
use Rattle.std.specs.List.{list_all}
use Rattle.std.proofs.lemmas.Bool.{false≢true}
use Rattle.type_contexts.proofs.Decided.{scaling_true, scaling_entries, scaling_rest}
use Rattle.type_contexts.proofs.file_types.is_scaling.Goals as goal

pub returns-then-are_scaling_entries : goal.returns-then-are_scaling_entries
returns-then-are_scaling_entries c = (
  λ t. scaling_true c.args.dims c.args.scaling.now (search rules) (omega arith) (omega arith)
      (ap (list_all (λ x. nat_lt 0 x && nat_le x 10)) (sym c.split_at.ensures.front) ∙ sym c.are_scaling_entries.ensures ∙ c.if-are_scaling_entries.true)
      (ap (list_all (λ x. x == 0)) (sym c.split_at.ensures.back) ∙ sym c.are_zero.ensures ∙ t),
  λ h. c.are_zero.ensures ∙ ap (list_all (λ x. x == 0)) c.split_at.ensures.back ∙ scaling_rest c.args.dims c.args.scaling.now h,
)

pub returns-else-are_scaling_entries : goal.returns-else-are_scaling_entries
returns-else-are_scaling_entries c = (
  λ t. absurd (false≢true (sym c.if-are_scaling_entries.false ∙ t)),
  λ h. c.are_scaling_entries.ensures ∙ ap (list_all (λ x. nat_lt 0 x && nat_le x 10)) c.split_at.ensures.front ∙ scaling_entries c.args.dims c.args.scaling.now h,
)
