-- The context of an equation: the text of its types, under which constants are kept.
--   name_at groups g == the name of group g
--   noise_words groups e degree == `noise`, the name of a noise, its degree and its group
--   moments_text moments == the moment number, or `-` where none is declared
--   moments_words form moments == the words of a moment number behind a kernel: in the new form its
--       text, in the old form `moments` and the number, or none
--   kernel_words form e degree == `kernel`, the name of a kernel, its degree and its moments
--   words_by kind form groups e degree == the one or the other, by the kind
--   entry_words form groups e degree == the words that are written of a type
--   IsEntryText form den groups e text == text is the words of the type e, joined by spaces; its
--       degree is in units of one over den
--   scaling_text ty == `scaling`, a space, and the entries of the scaling, joined by commas
--   directions_text is == the directions, joined by commas, or `-` where there are none
--   reflect_text ty == `reflect`, a space, and the directions that may be reflected
--   front_pieces form ty == what stands before the types: in the new form `context 2`, the scaling
--       and the reflections, in the old form the scaling
--   reflect_pieces is ty == the reflections as a piece, where the directions `is` are not none
--   back_pieces form ty == what stands behind them: in the old form the reflections, where there
--       are any
--   pieces_in form ty entries == these, with the texts of the types between them
--   IsTextIn form ty text == text is made of these pieces, joined by bars
--   IsContextText, IsOldContextText ty text == so it is in the new form, and in the old one
use Rattle.std.specs.Prelude.{◌≡◌, ℕ, List, [], ◌∷◌, ◌++◌, Option, Some, None, codes, decimal, map, take, slice_get, unwrap_or, unsigned_abs}
use Rattle.std.specs.List.{AllZip, join_with_byte}
use Rattle.degree_numbers.specs.declared.types.Kind.{Kind}
use Rattle.degree_numbers.specs.declared.types.Kind.TheVariants.{Noise, Kernel}
use Rattle.degree_numbers.specs.declared.types.TypeEntry.{TypeEntry}
use Rattle.degree_numbers.specs.declared.types.Types.{Types}
use Rattle.degree_numbers.specs.Printing.{IsDegreeText}
use Rattle.type_contexts.specs.declared.form.Form.{Form}
use Rattle.type_contexts.specs.declared.form.Form.TheVariants.{Old, New}

abbrev pub name_at : List (List ℕ) → ℕ → List ℕ
name_at groups g = unwrap_or (slice_get groups g) []

abbrev pub noise_words : List (List ℕ) → TypeEntry → List ℕ → List (List ℕ)
noise_words groups e degree = codes "noise" ∷ e.name ∷ degree ∷ name_at groups e.group ∷ []

abbrev pub moments_text : Option ℕ → List ℕ
moments_text None = codes "-"
moments_text (Some r) = decimal r

abbrev pub moments_words : Form → Option ℕ → List (List ℕ)
moments_words New moments = moments_text moments ∷ []
moments_words Old None = []
moments_words Old (Some r) = codes "moments" ∷ decimal r ∷ []

abbrev pub kernel_words : Form → TypeEntry → List ℕ → List (List ℕ)
kernel_words form e degree = codes "kernel" ∷ e.name ∷ degree ∷ moments_words form e.moments

abbrev pub words_by : Kind → Form → List (List ℕ) → TypeEntry → List ℕ → List (List ℕ)
words_by Noise form groups e degree = noise_words groups e degree
words_by Kernel form groups e degree = kernel_words form e degree

abbrev pub entry_words : Form → List (List ℕ) → TypeEntry → List ℕ → List (List ℕ)
entry_words form groups e degree = words_by e.kind form groups e degree

abbrev pub IsEntryText : Form → ℕ → List (List ℕ) → TypeEntry → List ℕ → Type 0
IsEntryText form den groups e text = (degree : List ℕ) × IsDegreeText e.degree den degree
    × (text ≡ join_with_byte 32 (entry_words form groups e degree))

abbrev pub scaling_text : Types → List ℕ
scaling_text ty = join_with_byte 32 (codes "scaling" ∷ join_with_byte 44
    (map decimal (take ty.dims ty.scaling)) ∷ [])

abbrev pub directions_text : List ℕ → List ℕ
directions_text [] = codes "-"
directions_text (i ∷ is) = join_with_byte 44 (map decimal (i ∷ is))

abbrev pub reflect_text : Types → List ℕ
reflect_text ty = join_with_byte 32 (codes "reflect" ∷ directions_text ty.reflect ∷ [])

abbrev pub front_pieces : Form → Types → List (List ℕ)
front_pieces New ty = codes "context 2" ∷ scaling_text ty ∷ reflect_text ty ∷ []
front_pieces Old ty = scaling_text ty ∷ []

abbrev pub reflect_pieces : List ℕ → Types → List (List ℕ)
reflect_pieces [] ty = []
reflect_pieces (i ∷ is) ty = reflect_text ty ∷ []

abbrev pub back_pieces : Form → Types → List (List ℕ)
back_pieces New ty = []
back_pieces Old ty = reflect_pieces ty.reflect ty

abbrev pub pieces_in : Form → Types → List (List ℕ) → List (List ℕ)
pieces_in form ty entries = front_pieces form ty ++ (entries ++ back_pieces form ty)

abbrev pub IsTextIn : Form → Types → List ℕ → Type 0
IsTextIn form ty text =
    (entries : List (List ℕ)) × AllZip (IsEntryText form (unsigned_abs ty.units.den) ty.groups)
    ty.list entries × (text ≡ join_with_byte 124 (pieces_in form ty entries))

abbrev pub IsContextText : Types → List ℕ → Type 0
IsContextText ty text = IsTextIn New ty text

abbrev pub IsOldContextText : Types → List ℕ → Type 0
IsOldContextText ty text = IsTextIn Old ty text
