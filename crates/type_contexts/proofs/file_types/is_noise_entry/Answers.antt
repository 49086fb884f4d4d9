use Rattle.std.proofs.Common.{◌≡◌, unsigned_abs, sym, ◌∙◌, rules}
use Rattle.type_contexts.proofs.Decided.{none_of}
use Rattle.type_contexts.proofs.file_types.is_noise_entry.Goals as goal

pub returns-then-is_writable : goal.returns-then-is_writable
returns-then-is_writable c =
    let a : unsigned_abs c.args.entry.now.degree.a ≡ c.unsigned_abs.result = search rules in
    let b : unsigned_abs c.args.entry.now.degree.b ≡ c.unsigned_abs-then-is_writable.result = search rules in (
      λ t. record { kind = c.in-Noise.is; moments = none_of c.args.entry.now.moments (sym c.is_some.ensures ∙ c.if-is_some.false); a = (c.is_writable.ensures c.args.entry.now.degree.a a).0 c.if-is_writable.true; b = (c.is_writable-then-is_writable.ensures c.args.entry.now.degree.b b).0 t },
      λ h. (c.is_writable-then-is_writable.ensures c.args.entry.now.degree.b b).1 h.b,
    )
