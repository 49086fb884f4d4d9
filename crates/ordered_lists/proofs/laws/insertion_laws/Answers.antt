use Rattle.ordered_lists.proofs.Insertion.{insert_all_sorted, from_insert_all, insert_all_old, insert_all_new}
use Rattle.ordered_lists.proofs.laws.insertion_laws.Goals as goal

pub returns-clause-sorted : goal.returns-clause-sorted
returns-clause-sorted g c = λ o ks ns t h. insert_all_sorted o t ks ns h

pub returns-clause-from : goal.returns-clause-from
returns-clause-from g c = λ o ks ns n h. from_insert_all o ks ns n h

pub returns-clause-old : goal.returns-clause-old
returns-clause-old g c = λ o ks ns n h. insert_all_old o ks ns n h

pub returns-clause-new : goal.returns-clause-new
returns-clause-new g c = λ o ks ns n e h. insert_all_new o e ks ns n h
