use Rattle.std.proofs.Common.{ℕ, List, MatchOption, subst, ◌∙◌}
use Rattle.ordered_lists.specs.Members.{IsIn}
use Rattle.pooled_cuttings.specs.contracts.made_once.PairPartialEq.TheImpl.{eq-value}
use Rattle.pooled_cuttings.specs.declared.made_once.Pair.{Pair}
use Rattle.pooled_cuttings.specs.MadeOnce.{pairs_in}
use Rattle.pooled_cuttings.proofs.Lookups.{key, Pair-Decides, looked_up}
use Rattle.pooled_cuttings.proofs.made_once.MadeOnce.get.Goals as goal

pub returns : goal.returns
returns c =
    let a = c.args.first in
    let b = c.args.second in
    let P : List ((ℕ × ℕ) × ℕ) → Type 0 = λ ms. MatchOption c.copied.result (IsIn (a, b) (pairs_in ms) → ⊥) (λ n. IsIn ((a, b), n) ms) in
    subst P c.self.view_is
    (looked_up (λ (k : Pair). eq-value.it (key a b) k) (a, b) (Pair-Decides a b) c.self.inside.entries.entries c.copied.result (c.copied.ensures ∙ c.get.ensures.value))
