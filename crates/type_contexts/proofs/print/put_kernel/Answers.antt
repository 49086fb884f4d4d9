use Rattle.std.proofs.Common.{◌≡◌, [], ◌∷◌, ◌++◌, refl, ap, ◌∙◌}
use Rattle.std.specs.Prelude.{codes}
use Rattle.std.specs.List.{join_with_byte}
use Rattle.std.proofs.lemmas.Result.{on_ok_weaker}
use Rattle.type_contexts.specs.Context.{moments_words}
use Rattle.type_contexts.proofs.Pieces.{kernel_pieces}
use Rattle.type_contexts.proofs.print.put_kernel.Goals as goal

pub returns : goal.returns
returns c =
    let t = c.in_ok-put_degree.ensures in
    let ws = moments_words c.args.form c.args.entry.now.moments in
    let put : c.put_degree.new.out.items ≡ (((c.args.out.now.items ++ codes "kernel ") ++ c.args.entry.now.name) ++ 32 ∷ []) ++ t.0 =
    t.2 ∙ rw (c.in_ok-push.ensures.items, c.in_ok-extend_from_slice-2.ensures.items, c.bytes.ensures, c.in_ok-extend_from_slice.ensures.items) refl in
    on_ok_weaker c.put_moments_words.result (λ e. (t.0, t.1, e ∙ ap (λ x. join_with_byte 32 (x ∷ ws)) put ∙ kernel_pieces c.args.out.now.items c.args.entry.now.name t.0 ws)) c.put_moments_words.ensures
