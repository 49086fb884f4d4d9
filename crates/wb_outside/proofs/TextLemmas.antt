-- Named texts.
use Rattle.std.proofs.Common.{◌<◌, List, [], ◌∷◌, length, arith}
use Rattle.std.specs.List.{IsDistinct}
use Rattle.wb_outside.specs.Texts.{AreDistinct}
use Rattle.wb_outside.specs.declared.named_text.NamedText.{NamedText}

-- one text has no name twice
pub distinct_one : (texts : List NamedText) → length texts < 2 → AreDistinct texts
unfolding IsDistinct
distinct_one [] h = tt
distinct_one (t ∷ []) h = (tt, tt)
distinct_one (t ∷ s ∷ texts) h = absurd (omega arith)
