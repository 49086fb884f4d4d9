-- Steps of the reading of terms.
use Rattle.std.proofs.Common.{◌≡◌, List, [], ◌∷◌, ◌++◌, map, ap, sym, subst, ◌∙◌, append_assoc}
use Rattle.std.proofs.lemmas.List.{map_push}
use Rattle.std.specs.List.{AllByRecursion}
use Rattle.symbol_polys.specs.Polynomials.{PlainTerm}
use Rattle.symbol_polys.specs.TermReading.{written_of}
use Rattle.symbol_polys.specs.declared.written.WrittenTerm.{WrittenTerm}

-- one more term
pub term_met : (old : List WrittenTerm) (w : WrittenTerm) (new : List WrittenTerm) (t : PlainTerm) (more whole : List PlainTerm) →
    new ≡ old ++ w ∷ [] → written_of w ≡ t → map written_of old ++ (t ∷ more) ≡ whole →
    map written_of new ++ more ≡ whole
term_met old w new t more whole e is h =
    ap (λ (ws : List WrittenTerm). map written_of ws ++ more) e ∙ ap (λ (ts : List PlainTerm). ts ++ more) (map_push written_of old w) ∙ append_assoc (map written_of old) (written_of w ∷ []) more
    ∙ ap (λ (x : PlainTerm). map written_of old ++ (x ∷ more)) is ∙ h

all-push : (P : WrittenTerm → Type 0) (xs : List WrittenTerm) (x : WrittenTerm) → P x → AllByRecursion P xs → AllByRecursion P (xs ++ x ∷ [])
all-push P [] x h a = (h, tt)
all-push P (y ∷ xs) x h a = (a.0, all-push P xs x h a.1)

pub all_met : (P : WrittenTerm → Type 0) (old : List WrittenTerm) (w : WrittenTerm) (new : List WrittenTerm) →
    new ≡ old ++ w ∷ [] → P w → AllByRecursion P old → AllByRecursion P new
all_met P old w new e h a = subst (AllByRecursion P) (sym e) (all-push P old w h a)
