-- The pieces of a context are found again by what they say.
use Rattle.std.proofs.Common.{◌≡◌, ℕ, zero, suc, ◌+◌, Bool, true, false, not, cond, List, [], ◌∷◌, ◌++◌, length, map, take, slice_get, Option, Some, None, refl, ap, sym, subst, ◌∙◌, arith, append-nil}
use Rattle.std.proofs.Math.Seq.{take-append_seam}
use Rattle.std.specs.Prelude.{codes, unwrap_or, option_map}
use Rattle.std.specs.List.{AllByRecursion, AllZip, join_with_byte, prefix_len}
use Rattle.degree_numbers.specs.declared.types.Kind.{Kind}
use Rattle.degree_numbers.specs.declared.types.Kind.TheVariants.{Noise, Kernel}
use Rattle.degree_numbers.specs.declared.types.TypeEntry.{TypeEntry}
use Rattle.degree_numbers.specs.declared.types.Types.{Types}
use Rattle.type_contexts.specs.declared.form.Form.{Form}
use Rattle.type_contexts.specs.declared.form.Form.TheVariants.{Old, New}
use Rattle.type_contexts.specs.Context.{words_by, moments_words, IsEntryText, scaling_text, directions_text, reflect_text, front_pieces, reflect_pieces, back_pieces, pieces_in}
use Rattle.type_contexts.proofs.Pieces.{three_parts}
use Rattle.type_contexts.specs.Parts.{Parts, is_reflect_piece, entry_count, old_parts, parts_in}

words_other : (kind : Kind) (form : Form) (groups : List (List ℕ)) (e : TypeEntry) (degree : List ℕ) →
    is_reflect_piece (join_with_byte 32 (words_by kind form groups e degree)) ≡ false
words_other Noise form groups e degree = refl
words_other Kernel form groups e degree = refl

entries_other : (form : Form) (den : ℕ) (groups : List (List ℕ)) (es : List TypeEntry) (entries : List (List ℕ)) →
    AllZip (IsEntryText form den groups) es entries →
    AllByRecursion (λ p. is_reflect_piece p ≡ false) entries
entries_other form den groups [] [] h = tt
entries_other form den groups [] (p ∷ ps) h = absurd h
entries_other form den groups (e ∷ es) [] h = absurd h
entries_other form den groups (e ∷ es) (p ∷ ps) h = (ap is_reflect_piece h.0.2 ∙ words_other e.kind form groups e h.0.0, entries_other form den groups es ps h.1)

reflect_is : (ty : Types) → is_reflect_piece (reflect_text ty) ≡ true
reflect_is ty = refl

none_counted : (is : List ℕ) (ty : Types) → entry_count (reflect_pieces is ty) ≡ 0
none_counted [] ty = refl
none_counted (i ∷ is) ty = refl

one_more : (b : Bool) (n m : ℕ) → b ≡ false → n ≡ m → cond (not b) (1 + n) 0 ≡ suc m
one_more false n m e same = omega (arith, same)
one_more true n m e same = absurd cc

counted : (entries rest : List (List ℕ)) →
    AllByRecursion (λ p. is_reflect_piece p ≡ false) entries → entry_count rest ≡ 0 →
    entry_count (entries ++ rest) ≡ length entries
counted [] rest h none = none
counted (p ∷ entries) rest h none = one_more (is_reflect_piece p) (entry_count (entries ++ rest)) (length entries) h.0 (counted entries rest h.1 none)

behind : (entries rest : List (List ℕ)) → slice_get (entries ++ rest) (length entries) ≡ slice_get rest 0
behind [] rest = refl
behind (p ∷ entries) rest = behind entries rest

first_reflect : (is : List ℕ) (ty : Types) → ty.reflect ≡ is → unwrap_or (slice_get (reflect_pieces is ty) 0) (codes "reflect -") ≡ reflect_text ty
first_reflect [] ty e = ap (λ is. join_with_byte 32 (codes "reflect" ∷ directions_text is ∷ [])) (sym e)
first_reflect (i ∷ is) ty e = refl

abbrev parts_by : List ℕ → List ℕ → List (List ℕ) → Parts
parts_by scaling reflect entries = record { scaling = scaling; reflect = reflect; entries = entries }

old_found : (ty : Types) (entries : List (List ℕ)) →
    AllByRecursion (λ p. is_reflect_piece p ≡ false) entries →
    old_parts (scaling_text ty) (entries ++ reflect_pieces ty.reflect ty) ≡ parts_by (scaling_text ty) (reflect_text ty) entries
old_found ty entries h =
    let rest = reflect_pieces ty.reflect ty in
    let count : entry_count (entries ++ rest) ≡ length entries = counted entries rest h (none_counted ty.reflect ty) in
    ap (λ n. parts_by (scaling_text ty) (unwrap_or (slice_get (entries ++ rest) n) (codes "reflect -")) (take n (entries ++ rest))) count
    ∙ ap (λ r. parts_by (scaling_text ty) r (take (length entries) (entries ++ rest))) (ap (λ o. unwrap_or o (codes "reflect -")) (behind entries rest) ∙ first_reflect ty.reflect ty refl)
    ∙ ap (λ es. parts_by (scaling_text ty) (reflect_text ty) es) (take-append_seam entries rest)

prefix_mapped : {A : Type 0} (f : A → List ℕ) (rest : List A) → prefix_len (λ s. not (is_reflect_piece (f s))) rest ≡ entry_count (map f rest)
prefix_mapped f [] = refl
prefix_mapped f (p ∷ rest) = ap (λ n. cond (not (is_reflect_piece (f p))) (1 + n) 0) (prefix_mapped f rest)

get_mapped : {A : Type 0} (f : A → List ℕ) (rest : List A) (i : ℕ) → option_map f (slice_get rest i) ≡ slice_get (map f rest) i
get_mapped f [] i = refl
get_mapped f (p ∷ rest) zero = refl
get_mapped f (p ∷ rest) (suc i) = get_mapped f rest i

take_mapped : {A : Type 0} (f : A → List ℕ) (rest : List A) (n : ℕ) → map f (take n rest) ≡ take n (map f rest)
take_mapped f rest zero = refl
take_mapped f [] (suc n) = refl
take_mapped f (p ∷ rest) (suc n) = ap (λ ps. f p ∷ ps) (take_mapped f rest n)

-- the parts that the code keeps
pub old_seen : {A : Type 0} (f : A → List ℕ) (scaling reflect : List ℕ) (rest : List A) (count : ℕ) →
    count ≡ prefix_len (λ s. not (is_reflect_piece (f s))) rest →
    reflect ≡ unwrap_or (option_map f (slice_get rest count)) (codes "reflect -") →
    parts_by scaling reflect (map f (take count rest)) ≡ old_parts scaling (map f rest)
old_seen f scaling reflect rest count counted is =
    ap (λ r. parts_by scaling r (map f (take count rest))) (is ∙ ap (λ o. unwrap_or o (codes "reflect -")) (get_mapped f rest count))
    ∙ ap (λ ps. parts_by scaling (unwrap_or (slice_get (map f rest) count) (codes "reflect -")) ps) (take_mapped f rest count)
    ∙ ap (λ n. parts_by scaling (unwrap_or (slice_get (map f rest) n) (codes "reflect -")) (take n (map f rest))) (counted ∙ prefix_mapped f rest)

-- the text of a context from its parts
pub whole_text : (form : Form) (ty : Types) (entries : List (List ℕ)) (front middle whole : List ℕ) →
    front ≡ join_with_byte 124 (front_pieces form ty) →
    middle ≡ join_with_byte 124 (front ∷ entries) →
    whole ≡ join_with_byte 124 (middle ∷ back_pieces form ty) →
    whole ≡ join_with_byte 124 (pieces_in form ty entries)
whole_text New ty entries front middle whole f m w =
    w ∙ ap (λ x. join_with_byte 124 (x ∷ [])) (m ∙ ap (λ x. join_with_byte 124 (x ∷ entries)) f) ∙ three_parts 124 (codes "context 2") (scaling_text ty ∷ reflect_text ty ∷ []) entries []
whole_text Old ty entries front middle whole f m w =
    w ∙ ap (λ x. join_with_byte 124 (x ∷ reflect_pieces ty.reflect ty)) (m ∙ ap (λ x. join_with_byte 124 (x ∷ entries)) f) ∙ three_parts 124 (scaling_text ty) [] entries (reflect_pieces ty.reflect ty)

-- the parts of the pieces of a context
pub parts_found : (form : Form) (ty : Types) (den : ℕ) (groups : List (List ℕ)) (es : List TypeEntry) (entries : List (List ℕ)) →
    AllZip (IsEntryText form den groups) es entries →
    parts_in form (pieces_in form ty entries) ≡ Some (parts_by (scaling_text ty) (reflect_text ty) entries)
parts_found New ty den groups es entries h = ap (λ ps. Some (parts_by (scaling_text ty) (reflect_text ty) ps)) (append-nil entries)
parts_found Old ty den groups es entries h = ap Some (old_found ty entries (entries_other Old den groups es entries h))
