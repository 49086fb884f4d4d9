-- The two forms of a context.
use Rattle.std.proofs.Common.{◌≡◌, ◌≢◌, ℕ, List, [], ◌∷◌, ◌++◌, map, take, decimal, arith, refl, ap, sym, subst, ◌∙◌}
use Rattle.std.specs.Prelude.{slice_index, codes}
use Rattle.std.specs.List.{join_with_byte}
use Rattle.degree_numbers.specs.declared.types.Types.{Types}
use Rattle.degree_numbers.specs.Types.{AreTypes}
use Rattle.type_contexts.specs.declared.form.Form.{Form}
use Rattle.type_contexts.specs.declared.form.Form.TheVariants.{Old, New}
use Rattle.type_contexts.specs.Context.{scaling_text, back_pieces, IsTextIn, IsContextText, IsOldContextText}
use Rattle.type_contexts.proofs.OneText.{types_one}
use Rattle.type_contexts.proofs.SameNumbers.{size_above}
use Rattle.type_contexts.proofs.SameTypes.{text_one, text_same}

pub old_apart : (s t : Types) (text other old old_other : List ℕ) → AreTypes s → AreTypes t →
    IsContextText s text → IsContextText t other → IsOldContextText s old →
    IsOldContextText t old_other → old ≢ old_other → text ≢ other
old_apart s t text other old old_other s_types t_types h k old_h old_k differ same =
    let types = types_one New s t other s_types t_types (subst (IsTextIn New s) same h) k in
    let told = text_same Old s t old (size_above s.units.den s_types.den_above) types old_h in
    differ (text_one Old t old old_other (size_above t.units.den t_types.den_above) told old_k)

first_byte : (c : ℕ) (b : ℕ) (x : List ℕ) (xs : List (List ℕ)) → take 1 (join_with_byte c ((b ∷ x) ∷ xs)) ≡ b ∷ []
first_byte c b x [] = refl
first_byte c b x (y ∷ ys) = refl

bytes_apart : ◌≡◌ {A = List ℕ} (99 ∷ []) (115 ∷ []) → ⊥
bytes_apart e = let first : ◌≡◌ {A = ℕ} 99 115 = ap (λ xs. slice_index xs 0) e in absurd (omega (arith, first))

-- one begins with another byte than the other
pub not_old : (s t : Types) (text : List ℕ) → IsContextText s text → IsOldContextText t text → ⊥
not_old s t text h k =
    let same : ◌≡◌ {A = List ℕ} (99 ∷ []) (115 ∷ []) = sym (ap (take 1) h.2) ∙ ap (take 1) k.2 ∙ first_byte 124 115 (codes "caling" ++ (32 ∷ join_with_byte 44 (map decimal (take t.dims t.scaling)))) (k.0 ++ back_pieces Old t) in
    bytes_apart same
