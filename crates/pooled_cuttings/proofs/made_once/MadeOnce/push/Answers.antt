use Rattle.std.proofs.Common.{ℕ, List, [], ◌∷◌, ◌++◌, ap, subst, ◌∙◌}
use Rattle.indexmap.proofs.CallerLemmas.{insert_entry-new}
use Rattle.ordered_lists.specs.Members.{IsIn}
use Rattle.pooled_cuttings.specs.contracts.made_once.PairPartialEq.TheImpl.{eq-value}
use Rattle.pooled_cuttings.specs.declared.made_once.Pair.{Pair}
use Rattle.pooled_cuttings.specs.MadeOnce.{made_of, pairs_in}
use Rattle.pooled_cuttings.proofs.Lookups.{key, Pair-Decides, lookup-missing, made_of-push}
use Rattle.pooled_cuttings.proofs.made_once.MadeOnce.push.Goals as goal

pub returns-clause-pushed : goal.returns-clause-pushed
returns-clause-pushed c =
    let a = c.args.first in
    let b = c.args.second in
    let n = c.args.made in
    let m = c.self.inside.entries in
    let Has : List ((ℕ × ℕ) × ℕ) → Type 0 = λ ms. IsIn (a, b) (pairs_in ms) in
    let lacking = lookup-missing (λ (k : Pair). eq-value.it (key a b) k) (a, b) (Pair-Decides a b) m.entries (λ h. c.requires (subst Has c.self.view_is h)) in
    ap made_of (c.in_ok-insert.ensures.entries ∙ insert_entry-new eq-value.it m (key a b) n lacking)
    ∙ made_of-push m.entries (key a b) n
    ∙ ap (λ (ms : List ((ℕ × ℕ) × ℕ)). ms ++ ((a, b), n) ∷ []) c.self.view_is
