-- Types with the same text are the same types.
use Rattle.std.proofs.Common.{◌≡◌, ℕ, ◌+◌, ◌<◌, ◌≤◌, unsigned_abs, List, [], ◌∷◌, ◌++◌, length, map, take, fold, decimal, Option, Some, None, arith, refl, ap, sym, subst, ◌∙◌}
use Rattle.std.proofs.Math.Logic.{inl, inr}
use Rattle.std.proofs.Math.Seq.{take-length}
use Rattle.std.specs.Prelude.{◌==◌, slice_index, if◌then◌else◌}
use Rattle.std.specs.List.{AllByRecursion, AllZip, slice_split}
use Rattle.std.specs.Str.Parse.{digits_value}
use Rattle.std.proofs.lemmas.Fmt.{decimal_is_IsNumeral}
use Rattle.std.proofs.lemmas.List.{length-take}
use Rattle.degree_numbers.specs.declared.types.Kind.{Kind}
use Rattle.degree_numbers.specs.declared.types.Kind.TheVariants.{Noise, Kernel}
use Rattle.degree_numbers.specs.declared.types.TypeEntry.{TypeEntry}
use Rattle.degree_numbers.specs.declared.types.Types.{Types}
use Rattle.degree_numbers.specs.Printing.{IsDegreeText}
use Rattle.degree_numbers.specs.Types.{IsScaling, IsMoments, AreDifferent, AreTypes}
use Rattle.degree_numbers.proofs.TypeBounds.{all_weaker}
use Rattle.type_contexts.specs.declared.form.Form.{Form}
use Rattle.type_contexts.specs.Context.{name_at, moments_text, IsEntryText, scaling_text, directions_text, reflect_text, IsTextIn}
use Rattle.type_contexts.specs.Parts.{Parts}
use Rattle.type_contexts.specs.Draft.{Words, piece_words}
use Rattle.type_contexts.specs.Made.{place_of, with_name}
use Rattle.type_contexts.specs.Same.{IsSameFraction, IsSameEntry, AreSameTypes}
use Rattle.type_contexts.proofs.DegreesRead.{degrees_one}
use Rattle.type_contexts.proofs.DirectionsRead.{directions_small, directions_cut, reflect_words, minus_is_none, numbers_are}
use Rattle.type_contexts.proofs.DraftsRead.{group_by, IsReadable, the_words, piece_found}
use Rattle.type_contexts.proofs.FileTypes.{types_ordered, types_numbered, types_readable}
use Rattle.type_contexts.proofs.Groups.{IsStep, IsOrdered, IsNumber, IsNumbered, ordered_most, stands_before, not_yet, one_more_name, place_whole}
use Rattle.type_contexts.proofs.Remade.{context_parts}
use Rattle.type_contexts.proofs.SameNumbers.{size_above}
use Rattle.type_contexts.proofs.Scalings.{scaling_words, scaling_entries, scaling_back, entries_small}

number_one : (m n : ℕ) → m ≤ 20 → n ≤ 20 → decimal m ≡ decimal n → m ≡ n
number_one m n m_small n_small e = sym (decimal_is_IsNumeral m (omega (arith, m_small))).1 ∙ ap (digits_value 10) e ∙ (decimal_is_IsNumeral n (omega (arith, n_small))).1

head_one : {x y : List ℕ} {xs ys : List (List ℕ)} → x ∷ xs ≡ y ∷ ys → x ≡ y
head_one e = cc

tail_one : {x y : List ℕ} {xs ys : List (List ℕ)} → x ∷ xs ≡ y ∷ ys → xs ≡ ys
tail_one e = cc

numbers_one : (ms ns : List ℕ) → AllByRecursion (λ n. n ≤ 10) ms → AllByRecursion (λ n. n ≤ 10) ns → map decimal ms ≡ map decimal ns → ms ≡ ns
numbers_one [] [] m n e = refl
numbers_one [] (y ∷ ns) m n e = absurd cc
numbers_one (x ∷ ms) [] m n e = absurd cc
numbers_one (x ∷ ms) (y ∷ ns) m n e =
    let x_small = m.0 in
    let y_small = n.0 in
    ap (λ z. z ∷ ms) (number_one x y (omega (arith, x_small)) (omega (arith, y_small)) (head_one e)) ∙ ap (λ zs. y ∷ zs) (numbers_one ms ns m.1 n.1 (tail_one e))

entries_one : (s t : Types) → IsScaling s.dims s.scaling → IsScaling t.dims t.scaling →
    scaling_text s ≡ scaling_text t → take s.dims s.scaling ≡ take t.dims t.scaling
entries_one s t h k e =
    let words = sym (scaling_words s h) ∙ ap (slice_split (λ b. b == 32)) e ∙ scaling_words t k in
    let joined = head_one (tail_one words) in
    numbers_one (take s.dims s.scaling) (take t.dims t.scaling) (entries_small s.dims s.scaling h) (entries_small t.dims t.scaling k)
    (sym (scaling_entries s.dims s.scaling h) ∙ ap (slice_split (λ b. b == 44)) joined ∙ scaling_entries t.dims t.scaling k)

abbrev five : List ℕ → List ℕ
five es = slice_index es 0 ∷ slice_index es 1 ∷ slice_index es 2 ∷ slice_index es 3 ∷ slice_index es 4 ∷ []

scaling_one : (s t : Types) → IsScaling s.dims s.scaling → IsScaling t.dims t.scaling →
    scaling_text s ≡ scaling_text t → (s.dims ≡ t.dims) × (s.scaling ≡ t.scaling)
scaling_one s t h k e =
    let same = entries_one s t h k e in
    let long : length (take s.dims s.scaling) ≡ length (take t.dims t.scaling) = ap length same in (
      omega (arith, long, length-take s.dims s.scaling, length-take t.dims t.scaling, h.most, k.most, h.entries, k.entries),
      sym (scaling_back s.dims s.scaling h) ∙ ap five same ∙ scaling_back t.dims t.scaling k,
    )

-- the directions that may be reflected are the same
directions_one : (is js : List ℕ) → AllByRecursion (λ i. i ≤ 5) is → AllByRecursion (λ i. i ≤ 5) js → directions_text is ≡ directions_text js → is ≡ js
directions_one [] [] h k e = refl
directions_one [] (j ∷ js) h k e = absurd (numbers_are j js k e)
directions_one (i ∷ is) [] h k e = absurd (numbers_are i is h (sym e))
directions_one (i ∷ is) (j ∷ js) h k e =
    numbers_one (i ∷ is) (j ∷ js) (all_weaker (λ n. n ≤ 5) (λ n. n ≤ 10) (i ∷ is) (λ n le. omega (arith, le)) h) (all_weaker (λ n. n ≤ 5) (λ n. n ≤ 10) (j ∷ js) (λ n le. omega (arith, le)) k)
    (sym (directions_cut i is h) ∙ ap (slice_split (λ b. b == 44)) e ∙ directions_cut j js k)

moments_one : (m n : Option ℕ) → IsMoments m → IsMoments n → moments_text m ≡ moments_text n → m ≡ n
moments_one None None h k e = refl
moments_one None (Some n) h k e = absurd (minus_is_none n k e)
moments_one (Some m) None h k e = absurd (minus_is_none m h (sym e))
moments_one (Some m) (Some n) h k e = ap Some (number_one m n h k e)

-- the words of types are the same
record HasWords (gs hs : List (List ℕ)) (s t : TypeEntry) : Type 0 where
  kind : s.kind ≡ t.kind
  name : s.name ≡ t.name
  group : group_by s.kind gs s ≡ group_by t.kind hs t
  moments : s.moments ≡ t.moments

some_words : (v w : Words) (o : Option Words) → o ≡ Some v → o ≡ Some w → v ≡ w
some_words v w o h k = let e : Some v ≡ Some w = sym h ∙ k in cc

entry_one : (form : Form) (d e : ℕ) (gs hs : List (List ℕ)) (s t : TypeEntry) (piece : List ℕ) →
    0 < d → 0 < e → IsReadable d gs s → IsReadable e hs t → IsEntryText form d gs s piece →
    IsEntryText form e hs t piece →
    HasWords gs hs s t × IsSameFraction s.degree.a d t.degree.a e × IsSameFraction s.degree.b d t.degree.b e
entry_one form d e gs hs s t piece d_above e_above r q h k =
    let same = some_words (the_words s.kind gs s h.0) (the_words t.kind hs t k.0) (piece_words piece) (piece_found form d gs s piece d_above r h) (piece_found form e hs t piece e_above q k) in
    let numbers = degrees_one s.degree d t.degree e k.0 d_above e_above r.a r.b q.a q.b (subst (λ text. IsDegreeText s.degree d text) (ap (λ w. w.degree) same) h.1) k.1 in
    (record { kind = ap (λ w. w.kind) same; name = ap (λ w. w.name) same; group = ap (λ w. w.group) same; moments = moments_one s.moments t.moments r.moments q.moments (sym r.moments_are ∙ ap (λ w. w.moments) same ∙ q.moments_are) }, numbers.0, numbers.1)

-- the groups of types, from their names
abbrev with_entry : List (List ℕ) → List (List ℕ) → TypeEntry → List (List ℕ)
with_entry gs met e = with_name e.kind met (group_by e.kind gs e)

step_by : (names : List (List ℕ)) (e : TypeEntry) (es : List TypeEntry) (met : ℕ) (kind : Kind) →
    AreDifferent names →
    IsStep kind e.group met (IsOrdered met es (length names)) (IsOrdered (met + 1) es (length names)) →
    (IsOrdered met es (length names) → fold (with_entry names) (take met names) es ≡ names) →
    (IsOrdered (met + 1) es (length names) → fold (with_entry names) (take (met + 1) names) es ≡ names) →
    fold (with_entry names) (with_name kind (take met names) (group_by kind names e)) es ≡ names
step_by names e es met Noise h (inl p) old new =
    ap (λ b. fold (with_entry names) (if b then take met names else take met names ++ name_at names e.group ∷ []) es) (stands_before names met e.group p.0 (ordered_most met es (length names) p.1) h) ∙ old p.1
step_by names e es met Noise h (inr p) old new =
    let lt : met < length names = (let le = ordered_most (met + 1) es (length names) p.1 in omega (arith, le)) in
    ap (λ g. fold (with_entry names) (with_name Noise (take met names) (name_at names g)) es) p.0
    ∙ ap (λ b. fold (with_entry names) (if b then take met names else take met names ++ name_at names met ∷ []) es) (not_yet names met lt h) ∙ ap (λ ns. fold (with_entry names) ns es) (one_more_name names met lt) ∙ new p.1
step_by names e es met Kernel h p old new = old p

names_found : (names : List (List ℕ)) (es : List TypeEntry) (met : ℕ) → AreDifferent names →
    IsOrdered met es (length names) → fold (with_entry names) (take met names) es ≡ names
names_found names [] met h order = ap (λ n. take n names) order ∙ take-length names
names_found names (e ∷ es) met h order = step_by names e es met e.kind h order (names_found names es met h) (names_found names es (met + 1) h)

same_fold : (gs hs met : List (List ℕ)) (ss ts : List TypeEntry) → AllZip (HasWords gs hs) ss ts → fold (with_entry gs) met ss ≡ fold (with_entry hs) met ts
same_fold gs hs met [] [] h = refl
same_fold gs hs met [] (t ∷ ts) h = absurd h
same_fold gs hs met (s ∷ ss) [] h = absurd h
same_fold gs hs met (s ∷ ss) (t ∷ ts) h =
    ap (λ name. fold (with_entry gs) (with_name s.kind met name) ss) h.0.group ∙ ap (λ kind. fold (with_entry gs) (with_name kind met (group_by t.kind hs t)) ss) h.0.kind ∙ same_fold gs hs (with_entry hs met t) ss ts h.1

all_words : (form : Form) (d e : ℕ) (gs hs : List (List ℕ)) (ss ts : List TypeEntry) (pieces : List (List ℕ)) →
    0 < d → 0 < e → AllByRecursion (IsReadable d gs) ss → AllByRecursion (IsReadable e hs) ts →
    AllZip (IsEntryText form d gs) ss pieces → AllZip (IsEntryText form e hs) ts pieces →
    AllZip (HasWords gs hs) ss ts
all_words form d e gs hs [] [] [] above other r q h k = tt
all_words form d e gs hs [] ts (p ∷ pieces) above other r q h k = absurd h
all_words form d e gs hs [] (t ∷ ts) [] above other r q h k = absurd k
all_words form d e gs hs (s ∷ ss) ts [] above other r q h k = absurd h
all_words form d e gs hs (s ∷ ss) [] (p ∷ pieces) above other r q h k = absurd k
all_words form d e gs hs (s ∷ ss) (t ∷ ts) (p ∷ pieces) above other r q h k = ((entry_one form d e gs hs s t p above other r.0 q.0 h.0 k.0).0, all_words form d e gs hs ss ts pieces above other r.1 q.1 h.1 k.1)

groups_one : (s t : Types) → AreTypes s → AreTypes t → AllZip (HasWords s.groups t.groups) s.list t.list → s.groups ≡ t.groups
groups_one s t h k words =
    sym (names_found s.groups s.list 0 h.groups.different (types_ordered s h)) ∙ same_fold s.groups t.groups [] s.list t.list words ∙ names_found t.groups t.list 0 k.groups.different (types_ordered t k)

number_by : (names : List (List ℕ)) (s t : TypeEntry) (kind : Kind) → AreDifferent names →
    IsNumber kind s.group (length names) → IsNumber kind t.group (length names) →
    group_by kind names s ≡ group_by kind names t → s.group ≡ t.group
number_by names s t Noise h a b e = sym (place_whole names s.group a h) ∙ ap (place_of names) e ∙ place_whole names t.group b h
number_by names s t Kernel h a b e = a ∙ sym b

entries_same : (form : Form) (d e : ℕ) (gs : List (List ℕ)) (ss ts : List TypeEntry) (pieces : List (List ℕ)) →
    0 < d → 0 < e → AreDifferent gs → AllByRecursion (IsNumbered (length gs)) ss →
    AllByRecursion (IsNumbered (length gs)) ts → AllByRecursion (IsReadable d gs) ss →
    AllByRecursion (IsReadable e gs) ts → AllZip (IsEntryText form d gs) ss pieces →
    AllZip (IsEntryText form e gs) ts pieces → AllZip (IsSameEntry d e) ss ts
entries_same form d e gs [] [] [] above other different m n r q h k = tt
entries_same form d e gs [] ts (p ∷ pieces) above other different m n r q h k = absurd h
entries_same form d e gs [] (t ∷ ts) [] above other different m n r q h k = absurd k
entries_same form d e gs (s ∷ ss) ts [] above other different m n r q h k = absurd h
entries_same form d e gs (s ∷ ss) [] (p ∷ pieces) above other different m n r q h k = absurd k
entries_same form d e gs (s ∷ ss) (t ∷ ts) (p ∷ pieces) above other different m n r q h k =
    let one = entry_one form d e gs gs s t p above other r.0 q.0 h.0 k.0 in
    let words = one.0 in (
      record {
        name = words.name;
        kind = words.kind;
        group = number_by gs s t t.kind different (subst (λ kind. IsNumber kind s.group (length gs)) words.kind m.0) n.0 (ap (λ kind. group_by kind gs s) (sym words.kind) ∙ words.group);
        moments = words.moments;
        a = one.1;
        b = one.2;
      },
      entries_same form d e gs ss ts pieces above other different m.1 n.1 r.1 q.1 h.1 k.1,
    )

some_parts : (p q : Parts) → ◌≡◌ {A = Option Parts} (Some p) (Some q) → p ≡ q
some_parts p q e = cc

-- types with the same text are the same types
pub types_one : (form : Form) (s t : Types) (text : List ℕ) → AreTypes s → AreTypes t → IsTextIn form s text → IsTextIn form t text → AreSameTypes s t
types_one form s t text s_types t_types h k =
    let d = unsigned_abs s.units.den in
    let e = unsigned_abs t.units.den in
    let d_above = size_above s.units.den s_types.den_above in
    let e_above = size_above t.units.den t_types.den_above in
    let parts = some_parts (record { scaling = scaling_text s; reflect = reflect_text s; entries = h.0 }) (record { scaling = scaling_text t; reflect = reflect_text t; entries = k.0 }) (sym (context_parts form s text s_types h) ∙ context_parts form t text t_types k) in
    let scaling = scaling_one s t s_types.scaling t_types.scaling (ap (λ p. p.scaling) parts) in
    let words = sym (reflect_words s s_types) ∙ ap (slice_split (λ b. b == 32)) (ap (λ p. p.reflect) parts) ∙ reflect_words t t_types in
    let reflect = directions_one s.reflect t.reflect (directions_small s s_types) (directions_small t t_types) (head_one (tail_one words)) in
    let pieces : AllZip (IsEntryText form d s.groups) s.list k.0 = subst (AllZip (IsEntryText form d s.groups) s.list) (ap (λ p. p.entries) parts) h.1 in
    let readable = types_readable s s_types in
    let groups = groups_one s t s_types t_types (all_words form d e s.groups t.groups s.list t.list k.0 d_above e_above readable (types_readable t t_types) pieces k.1) in
    record {
      dims = scaling.0;
      scaling = scaling.1;
      list =
          entries_same form d e t.groups s.list t.list k.0 d_above e_above t_types.groups.different (subst (λ gs. AllByRecursion (IsNumbered (length gs)) s.list) groups (types_numbered s s_types)) (types_numbered t t_types)
          (subst (λ gs. AllByRecursion (IsReadable d gs) s.list) groups readable) (types_readable t t_types) (subst (λ gs. AllZip (IsEntryText form d gs) s.list k.0) groups pieces) k.1;
      groups = groups;
      reflect = reflect;
    }
