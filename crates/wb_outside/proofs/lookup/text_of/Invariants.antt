use Rattle.std.proofs.Common.{◌≡◌, drop}
use Rattle.wb_outside.specs.Texts.{text_in}
use Rattle.wb_outside.proofs.lookup.text_of.Given as goal

-- the text is found among those that are left
abbrev pub invariant-loop-text : goal.invariant-loop-text
invariant-loop-text l = text_in l.texts l.name ≡ text_in (drop l.text-index l.texts) l.name
