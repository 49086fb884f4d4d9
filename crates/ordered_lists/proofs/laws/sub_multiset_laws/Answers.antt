use Rattle.ordered_lists.proofs.Subs.{sub_refl, sub_trans, in_sub_lists, from_sub_lists}
use Rattle.ordered_lists.proofs.Counts.{sub_counts, sub_from_counts, sub_sorted}
use Rattle.ordered_lists.proofs.laws.sub_multiset_laws.Goals as goal

pub returns-clause-itself : goal.returns-clause-itself
returns-clause-itself g c = λ xs. sub_refl xs

pub returns-clause-transitive : goal.returns-clause-transitive
returns-clause-transitive g c = λ ms ns xs h k. sub_trans ms ns xs h k

pub returns-clause-listed : goal.returns-clause-listed
returns-clause-listed g c = λ ns xs. ((λ h. in_sub_lists xs ns h), (λ h. from_sub_lists xs ns h))

pub returns-clause-counts : goal.returns-clause-counts
returns-clause-counts g c = λ o ns xs t e h k. ((λ s. sub_counts o ns xs s), (λ f. sub_from_counts o t e ns xs h k f))

pub returns-clause-ascending : goal.returns-clause-ascending
returns-clause-ascending g c = λ o ns xs t h s. sub_sorted o t ns xs s h
