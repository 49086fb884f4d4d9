use Rattle.type_contexts.proofs.PartsFound.{old_seen}
use Rattle.type_contexts.proofs.form.old_parts.Goals as goal

pub returns : goal.returns
returns c = old_seen (λ s. s.now) c.args.scaling.now c.reflect_at.result.now c.args.rest.now c.entry_count-count.result c.entry_count-count.ensures.value c.reflect_at.ensures
