-- Types that are made of what is read of their text are the same types.
use Rattle.std.proofs.Common.{◌≡◌, ℕ, ◌<◌, ℤ, pos, ◌<ℤ◌, unsigned_abs, List, [], ◌∷◌, ◌++◌, length, map, take, decimal, Option, Some, None, arith, refl, ap, sym, subst, ◌∙◌}
use Rattle.std.specs.Prelude.{◌==◌, codes}
use Rattle.std.specs.List.{AllByRecursion, AllZip, join_with_byte, slice_split}
use Rattle.degree_numbers.specs.declared.types.Kind.{Kind}
use Rattle.degree_numbers.specs.declared.types.Kind.TheVariants.{Noise, Kernel}
use Rattle.degree_numbers.specs.declared.types.TypeEntry.{TypeEntry}
use Rattle.degree_numbers.specs.declared.types.Types.{Types}
use Rattle.degree_numbers.specs.Fraction.{Fraction, ClearsAll}
use Rattle.degree_numbers.specs.Types.{IsScaling, AreDifferent, AreTypes}
use Rattle.degree_numbers.specs.Units.{fractions, IsPast}
use Rattle.degree_numbers.proofs.TypeBounds.{den_small}
use Rattle.type_contexts.specs.declared.draft.Draft.{Draft}
use Rattle.type_contexts.specs.declared.form.Form.{Form}
use Rattle.type_contexts.specs.declared.form.Form.TheVariants.{Old, New}
use Rattle.type_contexts.specs.Context.{moments_text, moments_words, words_by, IsEntryText, scaling_text, reflect_text, reflect_pieces, pieces_in, IsTextIn}
use Rattle.type_contexts.specs.Made.{number_by, IsEntryOf, AreMadeOf}
use Rattle.type_contexts.specs.Parts.{parts_in}
use Rattle.type_contexts.specs.Same.{IsSameFraction, IsSameEntry, AreSameTypes, degree_fractions, AreInLeastUnits}
use Rattle.type_contexts.proofs.Bytes.{Lacks, lacks-append, lacks_join, lacks_name, split_join, bar_is_other}
use Rattle.type_contexts.proofs.DirectionsRead.{moments_lack, reflect_lacks}
use Rattle.type_contexts.proofs.PartsFound.{parts_found}
use Rattle.type_contexts.proofs.DraftsRead.{group_by, IsReadable, IsEntryDraft, degree_lacks}
use Rattle.type_contexts.proofs.FileTypes.{types_ordered, types_numbered, types_readable}
use Rattle.type_contexts.proofs.Groups.{IsNumbered, groups_found, number_found}
use Rattle.type_contexts.proofs.SameNumbers.{same_sym, same_trans, same_from_products, clears_same, whole_same, size_above}
use Rattle.type_contexts.proofs.Scalings.{entries_lack}

abbrev degrees : List Draft → List Fraction
degrees drafts = fractions (map (λ d. d.degree) drafts)

clears_drafts : (den : ℕ) (groups : List (List ℕ)) (es : List TypeEntry) (drafts : List Draft) →
    AllZip (IsEntryDraft den groups) es drafts → ClearsAll den (degrees drafts)
clears_drafts den groups [] [] h = tt
clears_drafts den groups [] (d ∷ drafts) h = absurd h
clears_drafts den groups (e ∷ es) [] h = absurd h
clears_drafts den groups (e ∷ es) (d ∷ drafts) h = (
  whole_same e.degree.a den d.degree.a_num (unsigned_abs d.degree.a_den) h.0.degree.a,
  (whole_same e.degree.b den d.degree.b_num (unsigned_abs d.degree.b_den) h.0.degree.b, clears_drafts den groups es drafts h.1),
)

-- the degrees that are read have a common denominator
pub not_past : (ty : Types) (drafts : List Draft) → AreTypes ty →
    AllZip (IsEntryDraft (unsigned_abs ty.units.den) ty.groups) ty.list drafts →
    IsPast (degrees drafts) → ⊥
not_past ty drafts types h past =
    let most = past (unsigned_abs ty.units.den) (size_above ty.units.den types.den_above) (clears_drafts (unsigned_abs ty.units.den) ty.groups ty.list drafts h) in
    let small = den_small ty types in
    omega (arith, most, small)

record IsUnit (u : ℤ) (groups : List (List ℕ)) (d : Draft) (e : TypeEntry) : Type 0 where
  a : IsSameFraction e.degree.a (unsigned_abs u) d.degree.a_num (unsigned_abs d.degree.a_den)
  b : IsSameFraction e.degree.b (unsigned_abs u) d.degree.b_num (unsigned_abs d.degree.b_den)

in_unit : (u : ℤ) (groups : List (List ℕ)) (d : Draft) (e : TypeEntry) → pos 0 <ℤ u → IsEntryOf u groups d e → IsUnit u groups d e
in_unit u groups d e above h = record {
  a = same_from_products e.degree.a u d.degree.a_num d.degree.a_den above d.degree.a_den_above h.a;
  b = same_from_products e.degree.b u d.degree.b_num d.degree.b_den above d.degree.b_den_above h.b;
}

clears_entries : (l : ℕ) (u : ℤ) (groups : List (List ℕ)) (drafts : List Draft) (es : List TypeEntry) →
    pos 0 <ℤ u → AllZip (IsEntryOf u groups) drafts es → ClearsAll l (degrees drafts) →
    ClearsAll l (degree_fractions u es)
clears_entries l u groups [] [] above h c = tt
clears_entries l u groups [] (e ∷ es) above h c = absurd h
clears_entries l u groups (d ∷ drafts) [] above h c = absurd h
clears_entries l u groups (d ∷ drafts) (e ∷ es) above h c =
    let unit = in_unit u groups d e above h.0 in (
      clears_same d.degree.a_num (unsigned_abs d.degree.a_den) e.degree.a (unsigned_abs u) l (size_above d.degree.a_den d.degree.a_den_above) (same_sym e.degree.a (unsigned_abs u) d.degree.a_num (unsigned_abs d.degree.a_den) unit.a) c.0,
      (
        clears_same d.degree.b_num (unsigned_abs d.degree.b_den) e.degree.b (unsigned_abs u) l (size_above d.degree.b_den d.degree.b_den_above) (same_sym e.degree.b (unsigned_abs u) d.degree.b_num (unsigned_abs d.degree.b_den) unit.b) c.1.0,
        clears_entries l u groups drafts es above h.1 c.1.1,
      ),
    )

cleared_drafts : (l : ℕ) (u : ℤ) (groups : List (List ℕ)) (drafts : List Draft) (es : List TypeEntry) →
    pos 0 <ℤ u → AllZip (IsEntryOf u groups) drafts es → ClearsAll l (degree_fractions u es) →
    ClearsAll l (degrees drafts)
cleared_drafts l u groups [] [] above h c = tt
cleared_drafts l u groups [] (e ∷ es) above h c = absurd h
cleared_drafts l u groups (d ∷ drafts) [] above h c = absurd h
cleared_drafts l u groups (d ∷ drafts) (e ∷ es) above h c =
    let unit = in_unit u groups d e above h.0 in (
      clears_same e.degree.a (unsigned_abs u) d.degree.a_num (unsigned_abs d.degree.a_den) l (size_above u above) unit.a c.0,
      (clears_same e.degree.b (unsigned_abs u) d.degree.b_num (unsigned_abs d.degree.b_den) l (size_above u above) unit.b c.1.0, cleared_drafts l u groups drafts es above h.1 c.1.1),
    )

-- the units are the least common denominator
pub made_least : (dims : ℕ) (scaling reflect : List ℕ) (drafts : List Draft) (ty : Types) → AreMadeOf dims scaling reflect drafts ty → AreInLeastUnits ty
made_least dims scaling reflect drafts ty h = record {
  clears = clears_entries (unsigned_abs ty.units.den) ty.units.den ty.groups drafts ty.list h.units.above h.list h.units.least.clears;
  least = λ x c. h.units.least.least x (cleared_drafts x ty.units.den ty.groups drafts ty.list h.units.above h.list c);
}

same_entry : (den : ℕ) (u : ℤ) (groups : List (List ℕ)) (e t : TypeEntry) (d : Draft) → pos 0 <ℤ u →
    AreDifferent groups → IsNumbered (length groups) e → IsEntryDraft den groups e d →
    IsEntryOf u groups d t → IsSameEntry den (unsigned_abs u) e t
same_entry den u groups e t d above different number h k =
    let unit = in_unit u groups d t above k in
    record {
      name = sym (k.name ∙ h.name);
      kind = sym (k.kind ∙ h.kind);
      group = sym (k.group ∙ ap (λ kind. number_by kind groups d.group) h.kind ∙ ap (number_by e.kind groups) h.group ∙ number_found groups e e.kind different number);
      moments = sym (k.moments ∙ h.moments);
      a = same_trans e.degree.a den d.degree.a_num (unsigned_abs d.degree.a_den) t.degree.a (unsigned_abs u) (size_above d.degree.a_den d.degree.a_den_above) h.degree.a (same_sym t.degree.a (unsigned_abs u) d.degree.a_num (unsigned_abs d.degree.a_den) unit.a);
      b = same_trans e.degree.b den d.degree.b_num (unsigned_abs d.degree.b_den) t.degree.b (unsigned_abs u) (size_above d.degree.b_den d.degree.b_den_above) h.degree.b (same_sym t.degree.b (unsigned_abs u) d.degree.b_num (unsigned_abs d.degree.b_den) unit.b);
    }

same_entries : (den : ℕ) (u : ℤ) (groups : List (List ℕ)) (es ts : List TypeEntry) (drafts : List Draft) →
    pos 0 <ℤ u → AreDifferent groups → AllByRecursion (IsNumbered (length groups)) es →
    AllZip (IsEntryDraft den groups) es drafts → AllZip (IsEntryOf u groups) drafts ts →
    AllZip (IsSameEntry den (unsigned_abs u)) es ts
same_entries den u groups [] [] [] above different number h k = tt
same_entries den u groups [] (t ∷ ts) [] above different number h k = absurd k
same_entries den u groups [] ts (d ∷ drafts) above different number h k = absurd h
same_entries den u groups (e ∷ es) ts [] above different number h k = absurd h
same_entries den u groups (e ∷ es) [] (d ∷ drafts) above different number h k = absurd k
same_entries den u groups (e ∷ es) (t ∷ ts) (d ∷ drafts) above different number h k = (same_entry den u groups e t d above different number.0 h.0 k.0, same_entries den u groups es ts drafts above different number.1 h.1 k.1)

-- the types that are made are the same types
pub made_same : (ty made : Types) (drafts : List Draft) → AreTypes ty →
    AllZip (IsEntryDraft (unsigned_abs ty.units.den) ty.groups) ty.list drafts →
    AreMadeOf ty.dims ty.scaling ty.reflect drafts made → AreSameTypes ty made
made_same ty made drafts types h m =
    let groups : made.groups ≡ ty.groups = m.groups ∙ groups_found (unsigned_abs ty.units.den) ty.groups ty.list drafts 0 types.groups.different h (types_ordered ty types) in
    record {
      dims = sym m.dims_are;
      scaling = sym m.scaling_is;
      list = same_entries (unsigned_abs ty.units.den) made.units.den ty.groups ty.list made.list drafts m.units.above types.groups.different (types_numbered ty types) h (subst (λ gs. AllZip (IsEntryOf made.units.den gs) drafts made.list) groups m.list);
      groups = sym groups;
      reflect = sym m.reflect_is;
    }

kernel_lacks : (form : Form) (m : Option ℕ) (name degree : List ℕ) → Lacks 124 name →
    Lacks 124 degree → Lacks 124 (moments_text m) →
    Lacks 124 (join_with_byte 32 (codes "kernel" ∷ name ∷ degree ∷ moments_words form m))
kernel_lacks New m name degree named text moments = lacks_join 124 32 (codes "kernel" ∷ name ∷ degree ∷ moments_words New m) refl ((refl, (refl, (refl, (refl, (refl, (refl, tt)))))), (named, (text, (moments, tt))))
kernel_lacks Old None name degree named text moments = lacks_join 124 32 (codes "kernel" ∷ name ∷ degree ∷ []) refl ((refl, (refl, (refl, (refl, (refl, (refl, tt)))))), (named, (text, tt)))
kernel_lacks Old (Some r) name degree named text moments =
    lacks_join 124 32 (codes "kernel" ∷ name ∷ degree ∷ moments_words Old (Some r)) refl
    ((refl, (refl, (refl, (refl, (refl, (refl, tt)))))), (named, (text, ((refl, (refl, (refl, (refl, (refl, (refl, (refl, tt))))))), (moments, tt)))))

words_lack : (kind : Kind) (form : Form) (groups : List (List ℕ)) (e : TypeEntry) (degree : List ℕ) →
    Lacks 124 e.name → Lacks 124 degree → Lacks 124 (group_by kind groups e) →
    Lacks 124 (moments_text e.moments) →
    Lacks 124 (join_with_byte 32 (words_by kind form groups e degree))
words_lack Noise form groups e degree name text group moments = lacks_join 124 32 (words_by Noise form groups e degree) refl ((refl, (refl, (refl, (refl, (refl, tt))))), (name, (text, (group, tt))))
words_lack Kernel form groups e degree name text group moments = kernel_lacks form e.moments e.name degree name text moments

pieces_lack : (form : Form) (den : ℕ) (groups : List (List ℕ)) (es : List TypeEntry) (pieces : List (List ℕ)) →
    0 < den → AllByRecursion (IsReadable den groups) es →
    AllZip (IsEntryText form den groups) es pieces → AllByRecursion (Lacks 124) pieces
pieces_lack form den groups [] [] above r h = tt
pieces_lack form den groups [] (p ∷ pieces) above r h = absurd h
pieces_lack form den groups (e ∷ es) [] above r h = absurd h
pieces_lack form den groups (e ∷ es) (p ∷ pieces) above r h = (
  subst (Lacks 124) (sym h.0.2)
      (words_lack e.kind form groups e h.0.0 (lacks_name 124 e.name refl r.0.name) (degree_lacks 124 den e.degree h.0.0 bar_is_other above r.0.a r.0.b h.0.1) (lacks_name 124 (group_by e.kind groups e) refl r.0.group) (moments_lack 124 e.moments refl refl r.0.moments)),
  pieces_lack form den groups es pieces above r.1 h.1,
)

scaling_lacks : (ty : Types) → IsScaling ty.dims ty.scaling → Lacks 124 (scaling_text ty)
scaling_lacks ty h = lacks-append 124 (codes "scaling ") (join_with_byte 44 (map decimal (take ty.dims ty.scaling))) (refl, (refl, (refl, (refl, (refl, (refl, (refl, (refl, tt)))))))) (lacks_join 124 44 (map decimal (take ty.dims ty.scaling)) refl (entries_lack 124 ty.dims ty.scaling refl h))

all_lack : (xs ys : List (List ℕ)) → AllByRecursion (Lacks 124) xs → AllByRecursion (Lacks 124) ys → AllByRecursion (Lacks 124) (xs ++ ys)
all_lack [] ys h k = k
all_lack (x ∷ xs) ys h k = (h.0, all_lack xs ys h.1 k)

back_lack : (is : List ℕ) (ty : Types) → Lacks 124 (reflect_text ty) → AllByRecursion (Lacks 124) (reflect_pieces is ty)
back_lack [] ty h = tt
back_lack (i ∷ is) ty h = (h, tt)

-- a context is cut into its pieces
pub context_cut : (form : Form) (ty : Types) (text : List ℕ) → AreTypes ty →
    (h : IsTextIn form ty text) → slice_split (λ b. b == 124) text ≡ pieces_in form ty h.0
context_cut New ty text types h =
    let entries = pieces_lack New (unsigned_abs ty.units.den) ty.groups ty.list h.0 (size_above ty.units.den types.den_above) (types_readable ty types) h.1 in
    ap (slice_split (λ b. b == 124)) h.2
    ∙ split_join 124 (codes "context 2") (scaling_text ty ∷ reflect_text ty ∷ (h.0 ++ [])) refl (refl, (refl, (refl, (refl, (refl, (refl, (refl, (refl, (refl, tt)))))))))
    (scaling_lacks ty types.scaling, (reflect_lacks ty types, all_lack h.0 [] entries tt))
context_cut Old ty text types h =
    let entries = pieces_lack Old (unsigned_abs ty.units.den) ty.groups ty.list h.0 (size_above ty.units.den types.den_above) (types_readable ty types) h.1 in
    ap (slice_split (λ b. b == 124)) h.2
    ∙ split_join 124 (scaling_text ty) (h.0 ++ reflect_pieces ty.reflect ty) refl (scaling_lacks ty types.scaling)
    (all_lack h.0 (reflect_pieces ty.reflect ty) entries (back_lack ty.reflect ty (reflect_lacks ty types)))

-- and its parts are found
pub context_parts : (form : Form) (ty : Types) (text : List ℕ) → AreTypes ty → (h : IsTextIn form ty text) → parts_in form (slice_split (λ b. b == 124) text) ≡ Some (record { scaling = scaling_text ty; reflect = reflect_text ty; entries = h.0 })
context_parts form ty text types h = ap (parts_in form) (context_cut form ty text types h) ∙ parts_found form ty (unsigned_abs ty.units.den) ty.groups ty.list h.0 h.1
