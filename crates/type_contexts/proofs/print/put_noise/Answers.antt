use Rattle.std.proofs.Common.{◌∙◌}
use Rattle.std.proofs.lemmas.Result.{on_ok_weaker}
use Rattle.type_contexts.specs.Context.{name_at}
use Rattle.type_contexts.proofs.Pieces.{noise_pieces}
use Rattle.type_contexts.proofs.print.put_noise.Goals as goal

pub returns : goal.returns
returns c =
    let t = c.in_ok-put_degree.ensures in
    on_ok_weaker c.put_group.result (λ e. (t.0, t.1, e ∙ rw (c.in_ok-push-2.ensures.items, t.2, c.in_ok-push.ensures.items, c.in_ok-extend_from_slice-2.ensures.items, c.bytes.ensures, c.in_ok-extend_from_slice.ensures.items) (noise_pieces c.args.out.now.items c.args.entry.now.name t.0 (name_at c.args.groups.now c.args.entry.now.group)))) c.put_group.ensures
