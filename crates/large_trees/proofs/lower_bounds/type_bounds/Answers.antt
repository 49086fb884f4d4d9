use Rattle.std.proofs.Common.{◌≡◌, ◌<◌, ℤ, length, get_or, sym, subst, arith}
use Rattle.degree_numbers.specs.Degree.{IsWithin}
use Rattle.large_trees.proofs.TypeBounds.{entry_within, read_back}
use Rattle.large_trees.proofs.lower_bounds.type_bounds.Goals as goal

pub fine-requires : goal.fine-requires
fine-requires c =
    let lt : c.loop-entry.entry-index < length c.args.types.now.list = rw (← c.as_slice-entry-items.ensures) c.loop-entry-test.true in
    let is : c.entry-item.result ≡ get_or c.args.types.now.list c.loop-entry.entry-index c.entry-item.result = rw (← c.as_slice-entry-items.ensures) c.entry-item.is in
    let within = entry_within c.args.types.now c.requires c.loop-entry.entry-index c.entry-item.result c.entry-item.result lt is in
    subst (λ (z : ℤ). IsWithin z 20000000) (sym (read_back c.entry-item.result.degree.a 20000000 within (omega arith))) within
