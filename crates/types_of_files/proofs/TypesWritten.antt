-- For each types of a file there is a table of a file that has them.
use Rattle.std.proofs.Common.{◌≡◌, ℕ, zero, suc, ◌+◌, ◌<◌, ◌≤◌, true, ℤ, pos, ◌<ℤ◌, unsigned_abs, List, [], ◌∷◌, ◌++◌, length, map, take, drop, None, Ok, arith, refl, ap, sym, subst, ◌∙◌}
use Rattle.std.proofs.Math.Logic.{inl, inr}
use Rattle.std.specs.List.{AllByRecursion}
use Rattle.std.proofs.lemmas.List.{length-take, take-append-drop, map-append}
use Rattle.toml.specs.Data.{Members}
use Rattle.degree_numbers.specs.declared.types.Kind.TheVariants.{Noise, Kernel}
use Rattle.degree_numbers.specs.declared.types.TypeEntry.{TypeEntry}
use Rattle.degree_numbers.specs.declared.types.Types.{Types}
use Rattle.degree_numbers.specs.Degree.{degree_zero}
use Rattle.degree_numbers.specs.Name.{is_name}
use Rattle.degree_numbers.specs.Types.{noise_count, noises, kernels, IsNoiseEntry, IsKernelEntry, IsWritable, IsMoments, AreDirections, AreDifferent, AreInOrder, AreTypes}
use Rattle.degree_numbers.proofs.InUnits.{lowest_exists}
use Rattle.degree_numbers.proofs.TypeBounds.{all_weaker, den_small}
use Rattle.equation_document.specs.declared.document.Document.{Document}
use Rattle.equation_document.specs.DegreeEntry.{is_positive}
use Rattle.equation_document.specs.File.{accepted}
use Rattle.equation_document.specs.Limits.{units_of}
use Rattle.equation_file.specs.Meaning.{types_of}
use Rattle.type_contexts.specs.Context.{name_at}
use Rattle.type_contexts.specs.Same.{AreSameTypes}
use Rattle.type_contexts.proofs.Groups.{named_at}
use Rattle.type_contexts.proofs.SameNumbers.{size_above}
use Rattle.type_contexts.proofs.Scalings.{entries_small}
use Rattle.types_of_files.proofs.WrittenFile.{file_of}
use Rattle.types_of_files.proofs.FileRead.{the_document, file_accepted}
use Rattle.types_of_files.proofs.ItemsRead.{IsWrittenAs}
use Rattle.types_of_files.proofs.LimitsKept.{IsSmallWritten, units_most, limits_kept}
use Rattle.types_of_files.proofs.TypesBack.{by_text, order_most, both, unmapped, types_back}
use Rattle.types_of_files.proofs.WrittenBack.{IsBack, degree_has_text, read_of, written_back, standard, positive}

all_front : {A : Type 0} (P : A → Type 0) (n : ℕ) (xs : List A) → AllByRecursion P xs → AllByRecursion P (take n xs)
all_front P zero xs h = tt
all_front P (suc n) [] h = tt
all_front P (suc n) (x ∷ xs) h = (h.0, all_front P n xs h.1)

all_back : {A : Type 0} (P : A → Type 0) (n : ℕ) (xs : List A) → AllByRecursion P xs → AllByRecursion P (drop n xs)
all_back P zero xs h = h
all_back P (suc n) [] h = tt
all_back P (suc n) (x ∷ xs) h = all_back P n xs h.1

order_within : (met : ℕ) (gs : List ℕ) (all : ℕ) → AreInOrder met gs all → AllByRecursion (λ g. g < all) gs
order_within met [] all h = tt
order_within met (g ∷ gs) all (inl p) = (let le = order_most met gs all p.1 in let lt = p.0 in omega (arith, le, lt), order_within met gs all p.1)
order_within met (g ∷ gs) all (inr p) = (let le = order_most (met + 1) gs all p.1 in let is = p.0 in omega (arith, le, is), order_within (met + 1) gs all p.1)

zero_writable : (den : ℕ) (z : ℤ) → 0 < den → den ≤ 1000000 → z ≡ pos 0 → IsWritable den z
zero_writable den z above fits none =
    let low = lowest_exists 0 den above in
    let le = low.3 in
    let most = low.4 in
    subst (IsWritable den) (sym none) record { size = omega arith; written = (low.0, low.1, low.2, omega (arith, le), omega (arith, most, fits)) }

record IsNoiseWritten (den all : ℕ) (t : TypeEntry → List ℕ) (e : TypeEntry) : Type 0 where
  kind : e.kind ≡ Noise
  group : e.group < all
  back : IsBack den e.degree (t e)
  name : is_name e.name ≡ true
  moments : e.moments ≡ None

record IsKernelWritten (den : ℕ) (t : TypeEntry → List ℕ) (e : TypeEntry) : Type 0 where
  kind : e.kind ≡ Kernel
  group : e.group ≡ 0
  back : IsBack den e.degree (t e)
  name : is_name e.name ≡ true
  above : pos 0 <ℤ e.degree.a
  without_k : e.degree.b ≡ pos 0
  moments : IsMoments e.moments

abbrev texts : (den : ℕ) → 0 < den → TypeEntry → List ℕ
texts den above e = (degree_has_text e.degree den above).0

noise_written : (den all : ℕ) (above : 0 < den) (e : TypeEntry) → IsNoiseEntry den e →
    (e.group < all) × (is_name e.name ≡ true) → IsNoiseWritten den all (texts den above) e
noise_written den all above e n p = record {
  kind = n.kind;
  group = p.0;
  back = written_back e.degree den (texts den above e) above record { a = n.a; b = n.b } (degree_has_text e.degree den above).1;
  name = p.1;
  moments = n.moments;
}

kernel_written : (den : ℕ) (above : 0 < den) (e : TypeEntry) → den ≤ 1000000 → IsKernelEntry den e →
    is_name e.name ≡ true → IsKernelWritten den (texts den above) e
kernel_written den above e fits k name = record {
  kind = k.kind;
  group = k.group;
  back = written_back e.degree den (texts den above e) above record { a = k.a; b = zero_writable den e.degree.b above fits k.without_k } (degree_has_text e.degree den above).1;
  name = name;
  above = k.above;
  without_k = k.without_k;
  moments = k.moments;
}

noises_written : (ty : Types) (types : AreTypes ty) (above : 0 < unsigned_abs ty.units.den) →
    AllByRecursion (IsNoiseWritten (unsigned_abs ty.units.den) (length ty.groups) (texts (unsigned_abs ty.units.den) above)) (noises ty)
noises_written ty types above =
    let den = unsigned_abs ty.units.den in
    both (IsNoiseEntry den) (λ e. (e.group < length ty.groups) × (is_name e.name ≡ true)) (IsNoiseWritten den (length ty.groups) (texts den above)) (noises ty) (noise_written den (length ty.groups) above) types.of_noises
    (both (λ e. e.group < length ty.groups) (λ e. is_name e.name ≡ true) (λ e. (e.group < length ty.groups) × (is_name e.name ≡ true)) (noises ty) (λ e g n. (g, n))
    (unmapped (λ g. g < length ty.groups) (λ e. e.group) (noises ty) (order_within 0 (map (λ e. e.group) (noises ty)) (length ty.groups) types.numbered))
    (all_front (λ e. is_name e.name ≡ true) (noise_count ty) ty.list (unmapped (λ n. is_name n ≡ true) (λ e. e.name) ty.list types.names.are_names)))

kernels_written : (ty : Types) (types : AreTypes ty) (above : 0 < unsigned_abs ty.units.den) →
    AllByRecursion (IsKernelWritten (unsigned_abs ty.units.den) (texts (unsigned_abs ty.units.den) above)) (kernels ty)
kernels_written ty types above =
    let den = unsigned_abs ty.units.den in
    both (IsKernelEntry den) (λ e. is_name e.name ≡ true) (IsKernelWritten den (texts den above)) (kernels ty) (λ e k n. kernel_written den above e (den_small ty types) k n) types.of_kernels
    (all_back (λ e. is_name e.name ≡ true) (noise_count ty) ty.list (unmapped (λ n. is_name n ≡ true) (λ e. e.name) ty.list types.names.are_names))

names_joined : (ty : Types) →
    map (λ (e : TypeEntry). e.name) ty.list ≡ map (λ (e : TypeEntry). e.name) (noises ty) ++ map (λ (e : TypeEntry). e.name) (kernels ty)
names_joined ty = ap (map (λ (e : TypeEntry). e.name)) (sym (take-append-drop (noise_count ty) ty.list)) ∙ map-append (λ (e : TypeEntry). e.name) (noises ty) (kernels ty)

pub types_written : (ty : Types) → AreTypes ty → (ms : Members) × (doc : Document) × (accepted ms ≡ Ok doc) × AreSameTypes ty (types_of (units_of doc) doc)
types_written ty types =
    let den = unsigned_abs ty.units.den in
    let above : 0 < den = size_above ty.units.den types.den_above in
    let fits : den ≤ 1000000 = den_small ty types in
    let t = texts den above in
    let zero_text = degree_has_text degree_zero den above in
    let zero_back = written_back degree_zero den zero_text.0 above record { a = zero_writable den (pos 0) above fits refl; b = zero_writable den (pos 0) above fits refl } zero_text.1 in
    let z = read_of zero_text.0 in
    let doc = the_document (by_text t) z ty in
    let n = noises_written ty types above in
    let k = kernels_written ty types above in
    let scaling = take ty.dims ty.scaling in
    let long : length scaling ≡ ty.dims = length-take ty.dims ty.scaling ∙ omega (arith, types.scaling.most, types.scaling.entries) in
    let small_n = all_weaker (IsNoiseWritten den (length ty.groups) t) (λ e. IsSmallWritten den (by_text t e)) (noises ty) (λ e h. h.back.small) n in
    let small_k = all_weaker (IsKernelWritten den t) (λ e. IsSmallWritten den (by_text t e)) (kernels ty) (λ e h. h.back.small) k in
    let names = map (λ (e : TypeEntry). e.name) (noises ty) ++ map (λ (e : TypeEntry). e.name) (kernels ty) in
    let few : length (noises ty) ≤ 8 = omega (arith, length-take (noise_count ty) ty.list, types.noises_most) in
    let limits = limits_kept den (by_text t) z ty.groups scaling ty.reflect names (noises ty) (kernels ty) (omega (arith, long, types.scaling.most)) (entries_small ty.dims ty.scaling types.scaling) few types.kernels_most above fits zero_back.small small_n small_k in
    let most : units_of doc ≤ den = units_most den (by_text t) z ty.groups scaling ty.reflect names (noises ty) (kernels ty) above fits zero_back.small small_n small_k in (
      file_of t zero_text.0 ty,
      doc,
      file_accepted t (by_text t) zero_text.0 z ty (omega (arith, long, types.scaling.some)) (all_weaker (λ s. (0 < s) × (s ≤ 10)) (λ s. 0 < s) scaling (λ s p. p.0) types.scaling.within) (subst (λ n. AreDirections 0 n ty.reflect) (sym long) types.reflected) types.kernels_some
          (all_weaker (IsNoiseWritten den (length ty.groups) t) (IsWrittenAs t (by_text t)) (noises ty) (λ e h. record { name = h.name; read = h.back.read }) n)
          (all_weaker (IsNoiseWritten den (length ty.groups) t) (λ e. is_name (name_at ty.groups e.group) ≡ true) (noises ty) (λ e h. named_at (λ g. is_name g ≡ true) ty.groups e.group h.group types.groups.are_names) n)
          (all_weaker (IsKernelWritten den t) (IsWrittenAs t (by_text t)) (kernels ty) (λ e h. record { name = h.name; read = h.back.read }) k)
          (all_weaker (IsKernelWritten den t) (λ e. (is_positive (by_text t e) ≡ true) × IsMoments e.moments) (kernels ty) (λ e h. (positive e.degree den (t e) above h.back h.without_k h.above, h.moments)) k)
          zero_back.read (standard degree_zero den zero_text.0 above zero_back refl) (subst AreDifferent (names_joined ty) types.names.different) limits,
      types_back ty t z types
          (all_weaker (IsNoiseWritten den (length ty.groups) t) _ (noises ty) (λ e h. (h.kind, h.group, h.moments, h.back)) n)
          (all_weaker (IsKernelWritten den t) _ (kernels ty) (λ e h. (h.kind, h.group, h.back)) k) (omega (arith, most, fits)),
    )
