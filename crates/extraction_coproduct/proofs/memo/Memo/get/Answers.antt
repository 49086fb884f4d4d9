use Rattle.std.proofs.Common.{ℕ, eqb, List, MatchOption, subst, ◌∙◌}
use Rattle.std.proofs.lemmas.Bool.Decides.{Decides-eqb}
use Rattle.ordered_lists.specs.Members.{IsIn}
use Rattle.tree_pool.specs.declared.TreeId.{TreeId}
use Rattle.extraction_coproduct.specs.declared.term.ExtractTerm.{ExtractTerm}
use Rattle.extraction_coproduct.specs.Memo.{numbers_in}
use Rattle.extraction_coproduct.proofs.Memos.{looked_up}
use Rattle.extraction_coproduct.proofs.memo.Memo.get.Goals as goal

pub returns : goal.returns
returns c =
    let i = c.args.id.0 in
    let P : List (ℕ × List ExtractTerm) → Type 0 =
    λ m. MatchOption c.copied.result (IsIn i (numbers_in m) → ⊥) (λ ts. IsIn (i, ts.now) m) in
    subst P c.self.view_is
    (looked_up (λ (k : TreeId). eqb i k.0) i (λ k. Decides-eqb i k.0) c.self.inside.entries.entries c.copied.result (c.copied.ensures ∙ c.get.ensures.value))
