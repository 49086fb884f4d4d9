use Rattle.std.proofs.Common.{ℕ, eqb, List, [], ◌∷◌, ◌++◌, Bor, ap, subst, ◌∙◌}
use Rattle.std.proofs.lemmas.Bool.Decides.{Decides-eqb}
use Rattle.indexmap.proofs.CallerLemmas.{insert_entry-new}
use Rattle.ordered_lists.specs.Members.{IsIn}
use Rattle.tree_pool.specs.declared.TreeId.{TreeId}
use Rattle.tree_pool.specs.contracts.node.TreeIdPartialEq.TheImpl.{eq-value}
use Rattle.extraction_coproduct.specs.declared.term.ExtractTerm.{ExtractTerm}
use Rattle.extraction_coproduct.specs.Memo.{memo_of, numbers_in}
use Rattle.extraction_coproduct.proofs.Memos.{lookup-missing, memo_of-push}
use Rattle.extraction_coproduct.proofs.memo.Memo.push.Goals as goal

pub returns-clause-pushed : goal.returns-clause-pushed
returns-clause-pushed c =
    let i = c.args.id.0 in
    let m = c.self.inside.entries in
    let v : Bor (List ExtractTerm) = record { ref_ptr = c.in_ok-terms.field-0.ref_ptr; now = c.in_ok-terms.field-0.now } in
    let Has : List (ℕ × List ExtractTerm) → Type 0 = λ fs. IsIn i (numbers_in fs) in
    let lacking = lookup-missing (λ (k : TreeId). eqb i k.0) i (λ k. Decides-eqb i k.0) m.entries (λ h. c.requires (subst Has c.self.view_is h)) in
    ap memo_of (c.in_ok-insert.ensures.entries ∙ insert_entry-new eq-value.it m c.args.id v lacking)
    ∙ memo_of-push m.entries c.args.id v
    ∙ ap (λ (fs : List (ℕ × List ExtractTerm)). fs ++ (i, v.now) ∷ []) c.self.view_is
    ∙ ap (λ (ts : List ExtractTerm). c.args.self.now ++ (i, ts) ∷ []) c.in_ok-terms.ensures
