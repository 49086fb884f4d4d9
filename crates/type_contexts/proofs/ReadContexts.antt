-- Contexts, read.
use Rattle.std.proofs.Common.{◌≡◌, ℕ, ◌+◌, ◌-◌, ◌<◌, ◌≤◌, List, [], ◌∷◌, length, map, unsigned_abs, arith, refl, ap, sym, subst, ◌∙◌}
use Rattle.std.specs.Prelude.{◌==◌, Option, Some, None, Result, Ok, Err, IfErr}
use Rattle.std.specs.List.{AllByRecursion, AllZip, slice_split}
use Rattle.std.proofs.lemmas.List.{length-map}
use Rattle.std.proofs.lemmas.Slice.Zip.{AllZip-long}
use Rattle.degree_numbers.specs.declared.types.Types.{Types}
use Rattle.degree_numbers.specs.Types.{AreTypes}
use Rattle.degree_numbers.proofs.TypeBounds.{type_count_most}
use Rattle.type_contexts.specs.declared.draft.Draft.{Draft}
use Rattle.type_contexts.specs.declared.refusal.ContextRefusal.{ContextRefusal}
use Rattle.type_contexts.specs.declared.refusal.ContextRefusal.TheVariants.{ContextText, Memory}
use Rattle.type_contexts.specs.declared.form.Form.{Form}
use Rattle.type_contexts.specs.Context.{IsEntryText, scaling_text, reflect_text, IsTextIn}
use Rattle.type_contexts.specs.Parts.{Parts, parts_in, ArePartsOf}
use Rattle.type_contexts.specs.Draft.{IsGoodPiece, IsPieceDraft}
use Rattle.type_contexts.proofs.DraftsRead.{IsEntryDraft, good_pieces, entry_drafts}
use Rattle.type_contexts.proofs.FileTypes.{types_readable}
use Rattle.type_contexts.proofs.Pieces.{zip_map}
use Rattle.type_contexts.proofs.Remade.{context_parts}
use Rattle.type_contexts.proofs.SameNumbers.{size_above}

pub memory_else : (e : ContextRefusal) → (e ≡ ContextText → ⊥) → e ≡ Memory
memory_else ContextText other = absurd (other refl)
memory_else Memory other = refl

-- there are as many entries as types
pub entries_few : {A : Type 0} (f : A → List ℕ) (form : Form) (ty : Types) (entries : List A) →
    AreTypes ty →
    AllZip (IsEntryText form (unsigned_abs ty.units.den) ty.groups) ty.list (map f entries) →
    length entries ≤ 16
entries_few f form ty entries types h =
    let same : length (map f entries) ≡ length ty.list = AllZip-long (IsEntryText form (unsigned_abs ty.units.den) ty.groups) ty.list (map f entries) h in
    omega (arith, length-map entries f, same, type_count_most ty types)

pub entries_good : {A : Type 0} (f : A → List ℕ) (form : Form) (ty : Types) (entries : List A) →
    AreTypes ty →
    AllZip (IsEntryText form (unsigned_abs ty.units.den) ty.groups) ty.list (map f entries) →
    AllByRecursion IsGoodPiece (map f entries)
entries_good f form ty entries types h = good_pieces form (unsigned_abs ty.units.den) ty.groups ty.list (map f entries) (size_above ty.units.den types.den_above) (types_readable ty types) h

pub entries_drafts : {A : Type 0} (f : A → List ℕ) (form : Form) (ty : Types) (entries : List A) (drafts : List Draft) →
    AreTypes ty →
    AllZip (IsEntryText form (unsigned_abs ty.units.den) ty.groups) ty.list (map f entries) →
    AllZip (λ s d. IsPieceDraft (f s) d) entries drafts →
    AllZip (IsEntryDraft (unsigned_abs ty.units.den) ty.groups) ty.list drafts
entries_drafts f form ty entries drafts types h k =
    entry_drafts form (unsigned_abs ty.units.den) ty.groups ty.list (map f entries) drafts (size_above ty.units.den types.den_above) (types_readable ty types) h (zip_map IsPieceDraft f entries drafts k)

pub drafts_few : {A : Type 0} (R : A → Draft → Type 0) (entries : List A) (drafts : List Draft) →
    length entries ≤ 16 → AllZip R entries drafts → length drafts ≤ 255
drafts_few R entries drafts few h =
    let long : length drafts ≡ length entries = AllZip-long R entries drafts h in
    omega (arith, long, few)

parts_are : (form : Form) (ty : Types) (p q : Parts) → q ≡ p → ArePartsOf form ty p → ArePartsOf form ty q
parts_are form ty p q e h = subst (ArePartsOf form ty) (sym e) h

some_parts : (p q : Parts) → ◌≡◌ {A = Option Parts} (Some p) (Some q) → p ≡ q
some_parts p q e = cc

-- what is found in the pieces of a context are its parts
pub parts_said : (form : Form) (ty : Types) (text : List ℕ) (pieces : List (List ℕ)) (p : Parts) →
    AreTypes ty → IsTextIn form ty text → pieces ≡ slice_split (λ b. b == 124) text →
    Some p ≡ parts_in form pieces → ArePartsOf form ty p
parts_said form ty text pieces p types told cut found =
    parts_are form ty (record { scaling = scaling_text ty; reflect = reflect_text ty; entries = told.0 }) p
    (some_parts p (record { scaling = scaling_text ty; reflect = reflect_text ty; entries = told.0 }) (found ∙ ap (parts_in form) cut ∙ context_parts form ty text types told))
    (record { scaling = refl; reflect = refl; entries = told.1 })

pub parts_none : (form : Form) (ty : Types) (text : List ℕ) (pieces : List (List ℕ)) → AreTypes ty →
    IsTextIn form ty text → pieces ≡ slice_split (λ b. b == 124) text →
    None ≡ parts_in form pieces → ⊥
parts_none form ty text pieces types told cut found =
    never (record { scaling = scaling_text ty; reflect = reflect_text ty; entries = told.0 }) (found ∙ ap (parts_in form) cut ∙ context_parts form ty text types told)
  where
    never : (p : Parts) → ◌≡◌ {A = Option Parts} None (Some p) → ⊥
    never p e = absurd cc

pub memory_or : {e : ContextRefusal} → e ≡ ContextText → e ≡ Memory → ⊥
memory_or h k = let e : ContextText ≡ Memory = sym h ∙ k in cc

pub err_memory : {T : Type 0} {P : Type 0} (r : Result T ContextRefusal) → IfErr r (λ e. e ≡ ContextText → P) → (P → ⊥) → IfErr r (λ e. e ≡ Memory)
err_memory (Ok x) h never = tt
err_memory (Err e) h never = memory_else e (λ is. never (h is))

pub dims_of : {m n : ℕ} {xs ys : List ℕ} → ◌≡◌ {A = ℕ × List ℕ} (m, xs) (n, ys) → m ≡ n
dims_of e = ap (λ r. r.0) e

pub scaling_from : {m n : ℕ} {xs ys : List ℕ} → ◌≡◌ {A = ℕ × List ℕ} (m, xs) (n, ys) → xs ≡ ys
scaling_from e = ap (λ r. r.1) e
