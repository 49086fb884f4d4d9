-- The file that is written for types is accepted.
use Rattle.std.proofs.Common.{◌≡◌, ℕ, ◌<◌, true, List, [], ◌∷◌, ◌++◌, length, map, take, pos, Some, Ok, arith, refl}
use Rattle.std.specs.List.{AllByRecursion}
use Rattle.toml.specs.Data.{Data, integer}
use Rattle.degree_numbers.specs.declared.types.TypeEntry.{TypeEntry}
use Rattle.degree_numbers.specs.declared.types.Types.{Types}
use Rattle.degree_numbers.specs.DegreeText.{Written, written_of}
use Rattle.degree_numbers.specs.Name.{is_name}
use Rattle.degree_numbers.specs.Types.{noises, kernels, AreDifferent, IsMoments, AreDirections}
use Rattle.equation_document.specs.declared.document.Document.{Document}
use Rattle.equation_document.specs.declared.fault.Section.{Section}
use Rattle.equation_document.specs.declared.fault.Section.TheVariants as sections
use Rattle.equation_document.specs.DegreeEntry.{is_positive, is_standard}
use Rattle.equation_document.specs.File.{accepted}
use Rattle.equation_document.specs.Limits.{limits_of}
use Rattle.equation_document.specs.Reading.{some_items, version_of, directions_of, reflect_of, list_of, parameters_of, noises_of, unknown_part, document_of}
use Rattle.type_contexts.specs.Context.{name_at}
use Rattle.types_of_files.proofs.WrittenFile.{unknown_data, items_by, file_of}
use Rattle.types_of_files.proofs.ItemsRead.{IsWrittenAs, numbers_read, directions_read, noises_read, unknowns_read, rights_read}
use Rattle.types_of_files.proofs.LimitsKept.{document_by}

some_read : {A : Type 0} (s : Section) (f : A → Data) (xs : List A) → 0 < length xs → some_items s (items_by f xs) ≡ Ok (items_by f xs)
some_read s f [] h = absurd (omega (arith, h))
some_read s f (x ∷ xs) h = refl

abbrev pub the_document : (TypeEntry → Written) → Written → Types → Document
the_document w z ty = document_by w z ty.groups (take ty.dims ty.scaling) ty.reflect (map (λ e. e.name) (noises ty) ++ map (λ e. e.name) (kernels ty)) (noises ty) (kernels ty)

document_read : (t : TypeEntry → List ℕ) (w : TypeEntry → Written) (zt : List ℕ) (z : Written) (ty : Types) →
    0 < length (take ty.dims ty.scaling) → AllByRecursion (λ n. 0 < n) (take ty.dims ty.scaling) →
    AreDirections 0 (length (take ty.dims ty.scaling)) ty.reflect → 0 < length (kernels ty) →
    AllByRecursion (IsWrittenAs t w) (noises ty) →
    AllByRecursion (λ e. is_name (name_at ty.groups e.group) ≡ true) (noises ty) →
    AllByRecursion (IsWrittenAs t w) (kernels ty) →
    AllByRecursion (λ e. (is_positive (w e) ≡ true) × IsMoments e.moments) (kernels ty) →
    written_of zt ≡ Some z → is_standard z ≡ true →
    AreDifferent (map (λ e. e.name) (noises ty) ++ map (λ e. e.name) (kernels ty)) →
    document_of (file_of t zt ty) ≡ Ok (the_document w z ty)
unfolding document_of version_of directions_of reflect_of list_of parameters_of noises_of unknown_part
document_read t w zt z ty dims entries directions some n g k p zr zs d =
    let names = λ (es : List TypeEntry). map (λ (e : TypeEntry). e.name) es in
    rw (some_read sections.Scaling (λ n. integer (pos n)) (take ty.dims ty.scaling) dims, numbers_read (take ty.dims ty.scaling) 1 [] entries, directions_read (length (take ty.dims ty.scaling)) 0 1 ty.reflect [] directions tt, noises_read t w ty.groups (noises ty) 1 [] [] (names (kernels ty)) n g d, some_read sections.Unknown (unknown_data t zt) (kernels ty) some, unknowns_read t w zt z (kernels ty) 1 (names (noises ty)) [] k p zr zs d, rights_read t zt (record { list = names (noises ty) ++ names (kernels ty); first_noise = 0; first_unknown = length (names (noises ty)) }) (length (take ty.dims ty.scaling)) (kernels ty) 1 []) refl

pub file_accepted : (t : TypeEntry → List ℕ) (w : TypeEntry → Written) (zt : List ℕ) (z : Written) (ty : Types) →
    0 < length (take ty.dims ty.scaling) → AllByRecursion (λ n. 0 < n) (take ty.dims ty.scaling) →
    AreDirections 0 (length (take ty.dims ty.scaling)) ty.reflect → 0 < length (kernels ty) →
    AllByRecursion (IsWrittenAs t w) (noises ty) →
    AllByRecursion (λ e. is_name (name_at ty.groups e.group) ≡ true) (noises ty) →
    AllByRecursion (IsWrittenAs t w) (kernels ty) →
    AllByRecursion (λ e. (is_positive (w e) ≡ true) × IsMoments e.moments) (kernels ty) →
    written_of zt ≡ Some z → is_standard z ≡ true →
    AreDifferent (map (λ e. e.name) (noises ty) ++ map (λ e. e.name) (kernels ty)) →
    limits_of (the_document w z ty) ≡ Ok tt → accepted (file_of t zt ty) ≡ Ok (the_document w z ty)
unfolding accepted
file_accepted t w zt z ty dims entries directions some n g k p zr zs d limits =
    rw (document_read t w zt z ty dims entries directions some n g k p zr zs d, limits) refl
