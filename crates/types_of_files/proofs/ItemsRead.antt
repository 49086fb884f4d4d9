-- The items of the file that is written for types are read as they were written.
use Rattle.std.proofs.Common.{◌≡◌, ◌≢◌, ℕ, ◌+◌, ◌<◌, ◌≤◌, true, false, not, List, [], ◌∷◌, ◌++◌, length, map, pos, cond, Option, Some, None, Ok, arith, refl, ap, sym, subst, ◌∙◌, append_assoc, append-nil}
use Rattle.std.specs.Prelude.{nat_eq}
use Rattle.std.specs.List.{AllByRecursion, list_any}
use Rattle.std.proofs.lemmas.Bool.Decides.{nat_tests}
use Rattle.std.specs.Str.{bytes_eq}
use Rattle.std.proofs.lemmas.Bool.{lt-ltb, le-ltb, le-leb}
use Rattle.std.proofs.lemmas.Slice.Eq.{bytes_eq-Decides}
use Rattle.toml.specs.Data.{integer}
use Rattle.degree_numbers.specs.declared.types.TypeEntry.{TypeEntry}
use Rattle.degree_numbers.specs.DegreeText.{Written, written_of}
use Rattle.degree_numbers.specs.Name.{is_name}
use Rattle.degree_numbers.specs.Types.{AreDifferent, IsMoments, AreDirections}
use Rattle.equation_document.specs.declared.document.NoiseEntry.{NoiseEntry}
use Rattle.equation_document.specs.declared.document.UnknownEntry.{UnknownEntry}
use Rattle.equation_document.specs.declared.names.Names.{Names}
use Rattle.equation_document.specs.declared.versions.FileVersion.TheVariants.{Two}
use Rattle.equation_document.specs.DegreeEntry.{is_positive, is_standard}
use Rattle.equation_document.specs.Names.{place_of, stands_in}
use Rattle.equation_document.specs.Reading.{number_of, numbers_from, direction_of, directions_from, moments_of, new_name, table_of, text_of, name_of, degree_of, group_of, noise_of, noises_from, positive_of, standard_of, unknown_of, unknowns_from, right_of, rights_from}
use Rattle.right_side_text.specs.Grammar.{right_side}
use Rattle.right_side_text.specs.declared.written.WrittenTerm.{WrittenTerm}
use Rattle.text_parts.specs.Reading.{skip}
use Rattle.type_contexts.specs.Context.{name_at}
use Rattle.types_of_files.proofs.WrittenFile.{noise_data, unknown_by, unknown_data, items_by}

pub numbers_read : (ns : List ℕ) (at : ℕ) (found : List ℕ) → AllByRecursion (λ n. 0 < n) ns →
    numbers_from at found (items_by (λ n. integer (pos n)) ns) ≡ Ok (found ++ ns)
unfolding numbers_from number_of
numbers_read [] at found h = ap Ok (sym (append-nil found))
numbers_read (n ∷ ns) at found h = rw (lt-ltb 0 n h.0) (numbers_read ns (at + 1) (found ++ n ∷ []) h.1 ∙ ap Ok (append_assoc found (n ∷ []) ns))

-- directions that ascend are new
not_seen : (seen : List ℕ) (i : ℕ) → AllByRecursion (λ j. j < i) seen → list_any (λ j. nat_eq j i) seen ≡ false
not_seen [] i h = refl
not_seen (j ∷ seen) i h = let lt = h.0 in rw (other j i lt, not_seen seen i h.1) refl
  where
    other : (j i : ℕ) → j < i → nat_eq j i ≡ false
    other j i lt = grind (arith, nat_tests)

seen_more : (seen : List ℕ) (past i : ℕ) → past < i → AllByRecursion (λ j. j ≤ past) seen → AllByRecursion (λ j. j < i) seen
seen_more [] past i lt h = tt
seen_more (j ∷ seen) past i lt h = (let le = h.0 in omega (arith, lt, le), seen_more seen past i lt h.1)

seen_push : (seen : List ℕ) (i : ℕ) → AllByRecursion (λ j. j < i) seen → AllByRecursion (λ j. j ≤ i) (seen ++ i ∷ [])
seen_push [] i h = (omega arith, tt)
seen_push (j ∷ seen) i h = (let lt = h.0 in omega (arith, lt), seen_push seen i h.1)

pub directions_read : (dims past at : ℕ) (is seen : List ℕ) → AreDirections past dims is →
    AllByRecursion (λ j. j ≤ past) seen →
    directions_from dims at seen (items_by (λ i. integer (pos i)) is) ≡ Ok (seen ++ is)
unfolding directions_from direction_of
directions_read dims past at [] seen h s = ap Ok (sym (append-nil seen))
directions_read dims past at (i ∷ is) seen h s =
    let lt = h.0 in
    let new = seen_more seen past i lt s in
    rw (lt-ltb 0 i (omega (arith, lt)), le-leb i dims h.1, not_seen seen i new)
    (directions_read dims i (at + 1) is (seen ++ i ∷ []) h.2 (seen_push seen i new) ∙ ap Ok (append_assoc seen (i ∷ []) is))

-- a name that differs from all is not there
not_same : (a b : List ℕ) → a ≢ b → bytes_eq a b ≡ false
not_same a b other =
    (elim (bytes_eq a b) as (λ t. bytes_eq a b ≡ t → t ≡ false) [
      | true ↦ λ e. absurd (other ((bytes_eq-Decides a b).0 e))
      | false ↦ λ e. refl
    ]) refl

place_behind : (names : List (List ℕ)) (name : List ℕ) → AllByRecursion (λ m. m ≢ name) names → place_of names name ≡ length names
place_behind [] name h = refl
place_behind (m ∷ names) name h = ap (λ b. cond (not b) (1 + place_of names name) 0) (not_same m name h.0) ∙ (let more = place_behind names name h.1 in omega (arith, more))

not_there : (names : List (List ℕ)) (name : List ℕ) → AllByRecursion (λ m. m ≢ name) names → stands_in names name ≡ false
not_there names name h = le-ltb (place_of names name) (length names) (let place = place_behind names name h in omega (arith, place))

all_after : {A : Type 0} (P : A → Type 0) (xs : List A) (y : A) (ys : List A) → AllByRecursion P (xs ++ y ∷ ys) → P y
all_after P [] y ys h = h.0
all_after P (x ∷ xs) y ys h = all_after P xs y ys h.1

others : (seen : List (List ℕ)) (n : List ℕ) (ns : List (List ℕ)) → AreDifferent (seen ++ n ∷ ns) → AllByRecursion (λ m. m ≢ n) seen
others [] n ns h = tt
others (m ∷ seen) n ns h = ((λ e. all_after (λ o. o ≢ m) seen n ns h.0 (sym e)), others seen n ns h.1)

-- how an entry is written
pub record IsWrittenAs (t : TypeEntry → List ℕ) (w : TypeEntry → Written) (e : TypeEntry) : Type 0 where
  pub name : is_name e.name ≡ true
  pub read : written_of (t e) ≡ Some (w e)

abbrev pub noise_entry : (TypeEntry → Written) → List (List ℕ) → TypeEntry → NoiseEntry
noise_entry w groups e = record { name = e.name; degree = w e; group = name_at groups e.group }

noise_read : (t : TypeEntry → List ℕ) (w : TypeEntry → Written) (groups : List (List ℕ)) (at : ℕ) (seen : List (List ℕ)) (e : TypeEntry) →
    IsWrittenAs t w e → is_name (name_at groups e.group) ≡ true → stands_in seen e.name ≡ false →
    noise_of at seen (noise_data t groups e) ≡ Ok (noise_entry w groups e)
unfolding noise_of table_of name_of text_of new_name degree_of group_of
noise_read t w groups at seen e h group new = rw (h.name, new, h.read, group) refl

pub noises_read : (t : TypeEntry → List ℕ) (w : TypeEntry → Written) (groups : List (List ℕ)) (es : List TypeEntry) (at : ℕ) (seen : List (List ℕ)) (found : List NoiseEntry) (more : List (List ℕ)) →
    AllByRecursion (IsWrittenAs t w) es →
    AllByRecursion (λ e. is_name (name_at groups e.group) ≡ true) es →
    AreDifferent (seen ++ (map (λ e. e.name) es ++ more)) →
    noises_from at seen found (items_by (noise_data t groups) es) ≡ Ok (seen ++ map (λ e. e.name) es, found ++ map (noise_entry w groups) es)
unfolding noises_from
noises_read t w groups [] at seen found more h g d = rw (append-nil seen, append-nil found) refl
noises_read t w groups (e ∷ es) at seen found more h g d =
    let names = map (λ (x : TypeEntry). x.name) es in
    rw (noise_read t w groups at seen e h.0 g.0 (not_there seen e.name (others seen e.name (names ++ more) d)))
    (noises_read t w groups es (at + 1) (seen ++ e.name ∷ []) (found ++ noise_entry w groups e ∷ []) more h.1 g.1 (subst AreDifferent (sym (append_assoc seen (e.name ∷ []) (names ++ more))) d)
    ∙ rw (append_assoc seen (e.name ∷ []) names, append_assoc found (noise_entry w groups e ∷ []) (map (noise_entry w groups) es)) refl)

abbrev pub unknown_entry : (TypeEntry → Written) → Written → TypeEntry → UnknownEntry
unknown_entry w regularity e = record { name = e.name; degree = w e; regularity = regularity; moments = e.moments }

unknown_read_by : (degree name zero_text : List ℕ) (degree_read zero_read : Written) (moments : Option ℕ) (at : ℕ) (seen : List (List ℕ)) → is_name name ≡ true → written_of degree ≡ Some degree_read → is_positive degree_read ≡ true → written_of zero_text ≡ Some zero_read → is_standard zero_read ≡ true → stands_in seen name ≡ false → IsMoments moments → unknown_of Two at seen (unknown_by degree zero_text name moments) ≡ Ok (record { name = name; degree = degree_read; regularity = zero_read; moments = moments })
unfolding unknown_of table_of name_of text_of new_name degree_of positive_of standard_of moments_of
unknown_read_by degree name zero_text degree_read zero_read None at seen named d above z standard new m = rw (named, new, d, above, z, standard) refl
unknown_read_by degree name zero_text degree_read zero_read (Some r) at seen named d above z standard new m = rw (named, new, d, above, z, standard, le-leb r 20 m) refl

pub unknowns_read : (t : TypeEntry → List ℕ) (w : TypeEntry → Written) (zero_text : List ℕ) (zero_read : Written) (es : List TypeEntry) (at : ℕ) (seen : List (List ℕ)) (found : List UnknownEntry) →
    AllByRecursion (IsWrittenAs t w) es →
    AllByRecursion (λ e. (is_positive (w e) ≡ true) × IsMoments e.moments) es →
    written_of zero_text ≡ Some zero_read → is_standard zero_read ≡ true →
    AreDifferent (seen ++ map (λ e. e.name) es) →
    unknowns_from Two at seen found (items_by (unknown_data t zero_text) es) ≡ Ok (seen ++ map (λ e. e.name) es, found ++ map (unknown_entry w zero_read) es)
unfolding unknowns_from
unknowns_read t w zero_text zero_read [] at seen found h p z s d = rw (append-nil seen, append-nil found) refl
unknowns_read t w zero_text zero_read (e ∷ es) at seen found h p z s d =
    let names = map (λ (x : TypeEntry). x.name) es in
    rw (unknown_read_by (t e) e.name zero_text (w e) zero_read e.moments at seen h.0.name h.0.read p.0.0 z s (not_there seen e.name (others seen e.name names d)) p.0.1)
    (unknowns_read t w zero_text zero_read es (at + 1) (seen ++ e.name ∷ []) (found ++ unknown_entry w zero_read e ∷ []) h.1 p.1 z s (subst AreDifferent (sym (append_assoc seen (e.name ∷ []) names)) d)
    ∙ rw (append_assoc seen (e.name ∷ []) names, append_assoc found (unknown_entry w zero_read e ∷ []) (map (unknown_entry w zero_read) es)) refl)

empty_right : (dims : ℕ) → right_side dims [] ≡ Some []
unfolding right_side skip
empty_right dims = refl

right_read : (degree zero_text name : List ℕ) (moments : Option ℕ) (names : Names) (dims at : ℕ) →
    right_of names dims at (unknown_by degree zero_text name moments) ≡ Ok []
unfolding right_of text_of
right_read degree zero_text name None names dims at = rw (empty_right dims) refl
right_read degree zero_text name (Some r) names dims at = rw (empty_right dims) refl

abbrev pub no_terms : TypeEntry → List WrittenTerm
no_terms e = []

pub rights_read : (t : TypeEntry → List ℕ) (zero_text : List ℕ) (names : Names) (dims : ℕ) (es : List TypeEntry) (at : ℕ) (found : List (List WrittenTerm)) →
    rights_from names dims at found (items_by (unknown_data t zero_text) es) ≡ Ok (found ++ map no_terms es)
unfolding rights_from
rights_read t zero_text names dims [] at found = rw (append-nil found) refl
rights_read t zero_text names dims (e ∷ es) at found =
    rw (right_read (t e) zero_text e.name e.moments names dims at) (rights_read t zero_text names dims es (at + 1) (found ++ [] ∷ []) ∙ rw (append_assoc found ([] ∷ []) (map no_terms es)) refl)
