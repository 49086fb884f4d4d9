-- What is asked of terms.
use Rattle.std.proofs.Common.{◌≡◌, ℕ, ◌+◌, ◌<◌, ℤ, List, [], ◌∷◌, ◌++◌, map, drop, length, get_or, refl, sym, ap, ◌∙◌, subst}
use Rattle.std.proofs.lemmas.List.{map-append}
use Rattle.plain_trees.specs.Plain.{Plain}
use Rattle.tree_pool.specs.Content.{Content, tree_at, trees_at, trees_of}
use Rattle.tree_pool.specs.Forests.{numbers, forest_at, AreKnown}
use Rattle.tree_pool.specs.declared.TreeId.{TreeId}
use Rattle.tree_pool.proofs.Ids.{known_forest}
use Rattle.pooled_cuttings.specs.Groves.{GroveContent, IsGrove}
use Rattle.pooled_cuttings.proofs.Rows.{all_append, row_step}
use Rattle.characters.specs.declared.asked.Asked.{Asked}
use Rattle.characters.specs.Asked.{Question, AreTrees, IsKnown, AreKnown as AreAsked, asked_in}

abbrev pub asks : Plain → ℤ → List Plain → List Plain → Question
asks k z first second = record { key = k; coefficient = z; first = first; second = second }

pub trees_by_number : (c : Content) (ids : List TreeId) (is : List ℕ) → numbers ids ≡ is → trees_of c ids ≡ trees_at c is
trees_by_number c ids is e = one ids ∙ ap (trees_at c) e
  where
    one : (xs : List TreeId) → trees_of c xs ≡ trees_at c (numbers xs)
    one [] = refl
    one (x ∷ xs) = ap (λ (ts : List Plain). tree_at c x.0 ∷ ts) (one xs)

pub trees_known : (g : GroveContent) (ids : List TreeId) (f : ℕ) → IsGrove g → f < length g.forests → numbers ids ≡ forest_at g.forests f → AreTrees g.pool ids
trees_known g ids f grove h e = each ids (subst (AreKnown g.pool) (sym e) (known_forest g.forests g.pool f grove.fits h))
  where
    each : (xs : List TreeId) → AreKnown g.pool (numbers xs) → AreTrees g.pool xs
    each [] k = tt
    each (x ∷ xs) k = (k.0, each xs k.1)

-- questions that are put behind each other
module _ {T : Type 0} (c : Content) (row : List T → List Question) (q : T → Question) (parts : (t : T) (ts : List T) → row (t ∷ ts) ≡ (q t ∷ []) ++ row ts)
    (ts : List T) (i : ℕ) (t : T) (within : i < length ts) (at : t ≡ get_or ts i t) (old new : List Asked) (a : Asked) (put : new ≡ old ++ a ∷ []) where
  pub question_step : asked_in c a ≡ q t → map (asked_in c) old ++ row (drop i ts) ≡ row ts → map (asked_in c) new ++ row (drop (i + 1) ts) ≡ row ts
  question_step e h =
      row_step row (λ (u : T). q u ∷ []) parts ts i t (map (asked_in c) old) (map (asked_in c) new) (row ts) within at
      (ap (map (asked_in c)) put ∙ map-append (asked_in c) old (a ∷ []) ∙ ap (λ (x : Question). map (asked_in c) old ++ x ∷ []) e)
      h

  pub known_step : IsKnown c a → AreAsked c old → AreAsked c new
  known_step k h = rw put (all_append (IsKnown c) old (a ∷ []) h (k, tt))

-- questions with the same parts
pub question_is : (k : Plain) (second : List Plain) (y z : ℤ) (ts us : List Plain) → y ≡ z → ts ≡ us → asks k y ts second ≡ asks k z us second
question_is k second y z ts us e f = ap (λ (x : ℤ). asks k x ts second) e ∙ ap (λ (xs : List Plain). asks k z xs second) f
