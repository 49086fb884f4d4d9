-- The pieces of a context by what they say.
-- Working notions of the code and of proofs, which no contract of a public call names:
--   Parts == the text of the scaling, that of the directions that may be reflected, and those of
--       the types
--   seen_parts p == what the parts that the code keeps mean
--   is_reflect_piece piece == the piece begins as the text of the directions that may be reflected
--   entry_count rest == how many pieces stand before the first such one
--   old_parts scaling rest == the parts in the old form: the types up to such a piece, which is
--       left out where there are no such directions
--   parts_in form pieces == the parts in this form, where there are enough pieces
--   ArePartsOf form ty p == p are the texts of the scaling, of the directions that may be reflected
--       and of the types of ty
use Rattle.std.specs.Prelude.{◌≡◌, ℕ, unsigned_abs, Bool, not, nat_eq, List, [], ◌∷◌, codes, map, take, slice_get, unwrap_or, Option, Some, None}
use Rattle.std.specs.List.{AllZip, prefix_len, starts_with}
use Rattle.degree_numbers.specs.declared.types.Types.{Types}
use Rattle.type_contexts.specs.Context.{IsEntryText, scaling_text, reflect_text}
use Rattle.type_contexts.specs.declared.form.Form.{Form}
use Rattle.type_contexts.specs.declared.form.Form.TheVariants.{Old, New}
use Rattle.type_contexts.specs.declared.form.Parts.{Parts as KeptParts}

pub record Parts : Type 0 where
  pub scaling : List ℕ
  pub reflect : List ℕ
  pub entries : List (List ℕ)

abbrev pub seen_parts : KeptParts → Parts
seen_parts p = record {
  scaling = p.scaling.now;
  reflect = p.reflect.now;
  entries = map (λ s. s.now) p.entries.now;
}

abbrev pub is_reflect_piece : List ℕ → Bool
is_reflect_piece piece = starts_with nat_eq piece (codes "reflect ")

abbrev pub entry_count : List (List ℕ) → ℕ
entry_count rest = prefix_len (λ p. not (is_reflect_piece p)) rest

abbrev pub old_parts : List ℕ → List (List ℕ) → Parts
old_parts scaling rest = record {
  scaling = scaling;
  reflect = unwrap_or (slice_get rest (entry_count rest)) (codes "reflect -");
  entries = take (entry_count rest) rest;
}

abbrev pub parts_in : Form → List (List ℕ) → Option Parts
parts_in Old [] = None
parts_in Old (scaling ∷ rest) = Some (old_parts scaling rest)
parts_in New [] = None
parts_in New (context ∷ []) = None
parts_in New (context ∷ scaling ∷ []) = None
parts_in New (context ∷ scaling ∷ reflect ∷ entries) =
    Some (record { scaling = scaling; reflect = reflect; entries = entries })

pub record ArePartsOf (form : Form) (ty : Types) (p : Parts) : Type 0 where
  pub scaling : p.scaling ≡ scaling_text ty
  pub reflect : p.reflect ≡ reflect_text ty
  pub entries : AllZip (IsEntryText form (unsigned_abs ty.units.den) ty.groups) ty.list p.entries
