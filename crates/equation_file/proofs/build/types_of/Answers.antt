use Rattle.std.proofs.Common.{◌≤◌, length, ap, subst, ◌∙◌, arith}
use Rattle.equation_document.specs.FirstOf.{first_of}
use Rattle.equation_document.specs.Limits.{noise_number, unknown_number}
use Rattle.equation_document.proofs.FirstOfLemmas.{none_index}
use Rattle.equation_document.proofs.LimitFacts.{is_within}
use Rattle.equation_file.proofs.build.types_of.Goals as goal

pub add_noise_types-requires-clause-few : goal.add_noise_types-requires-clause-few
add_noise_types-requires-clause-few c =
    let few : length c.in_ok-groups.groups ≤ length c.args.document.now.noises = subst (λ xs. length c.in_ok-groups.groups ≤ length xs) c.as_slice.ensures c.in_ok-groups.ensures.few in
    rw c.as_slice-2.ensures (omega (arith, few, (is_within _ c.requires.limits).noises))

pub add_noise_types-requires-clause-small : goal.add_noise_types-requires-clause-small
add_noise_types-requires-clause-small c = ap (first_of noise_number) c.as_slice-3.ensures ∙ (is_within _ c.requires.limits).noise_numbers

pub add_kernel_types-requires-clause-small : goal.add_kernel_types-requires-clause-small
add_kernel_types-requires-clause-small c = ap (first_of unknown_number) c.as_slice-4.ensures ∙ (is_within _ c.requires.limits).unknown_numbers

pub reflect_of-requires : goal.reflect_of-requires
reflect_of-requires c = omega (arith, c.len.ensures, (is_within _ c.requires.limits).dimensions)

pub overflow_cast-result : goal.overflow_cast-result
overflow_cast-result c = omega (arith, c.len.ensures, (is_within _ c.requires.limits).dimensions)

pub five-requires : goal.five-requires
five-requires c i = rw c.as_slice-6.ensures (none_index 10 c.args.document.now.scaling i (is_within _ c.requires.limits).scaling)
