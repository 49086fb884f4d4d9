use Rattle.std.proofs.Common.{◌++◌, ap, ◌∙◌}
use Rattle.std.specs.List.{join_with_byte}
use Rattle.type_contexts.specs.Context.{front_pieces}
use Rattle.type_contexts.proofs.PartsFound.{whole_text}
use Rattle.type_contexts.proofs.print.text_in.Goals as goal

pub returns : goal.returns
returns c =
    let told = c.in_ok-put_entries.ensures in (
      told.0,
      rw (← c.as_slice.ensures, ← c.as_slice-2.ensures) told.1,
      whole_text c.args.form c.args.types.now told.0 c.put_front.new.out.items c.put_entries.new.out.items c.put_back.new.out.items (c.in_ok-put_front.ensures ∙ ap (λ xs. xs ++ join_with_byte 124 (front_pieces c.args.form c.args.types.now)) c.new-out.ensures.items) told.2 c.in_ok-put_back.ensures,
    )
