-- The names of the files in memory.
use Rattle.std.proofs.Common.{◌≡◌, List, ℕ, [], ◌∷◌, map, codes, refl, sym, subst}
use Rattle.std.specs.List.{IsDistinct}
use Rattle.std.specs.Str.{bytes_eq}
use Rattle.wb_outside.specs.Texts.{name_of, AreDistinct}
use Rattle.wb_outside.specs.declared.named_text.NamedText.{NamedText}

pub distinct_names : (texts : List NamedText) → map name_of texts ≡ codes "kpz" ∷ codes "table" ∷ codes "other" ∷ [] → AreDistinct texts
unfolding IsDistinct
distinct_names texts names = subst (λ (ns : List (List ℕ)). IsDistinct bytes_eq ns) (sym names) ((refl, (refl, tt)), ((refl, tt), (tt, tt)))
