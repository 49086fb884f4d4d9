-- The types of the file that is written for types are the same types.
use Rattle.std.proofs.Common.{◌≡◌, ◌≢◌, ℕ, zero, suc, Bool, true, false, None, ◌+◌, ◌<◌, ◌≤◌, unsigned_abs, List, [], ◌∷◌, ◌++◌, length, map, take, fold, arith, refl, ap, sym, subst, ◌∙◌}
use Rattle.std.proofs.Math.Logic.{inl, inr}
use Rattle.std.proofs.Math.Seq.{take-length}
use Rattle.std.specs.Prelude.{◌||◌, nat_eq, if◌then◌else◌}
use Rattle.std.proofs.lemmas.Bool.Decides.{nat_tests}
use Rattle.std.specs.List.{AllByRecursion, AllZip, list_any, filter, range_with_len}
use Rattle.std.proofs.lemmas.List.{length-take, take-append-drop}
use Rattle.degree_numbers.specs.declared.types.Kind.TheVariants.{Noise, Kernel}
use Rattle.degree_numbers.specs.declared.types.TypeEntry.{TypeEntry}
use Rattle.degree_numbers.specs.declared.types.Types.{Types}
use Rattle.degree_numbers.specs.declared.degree.Degree.{Degree}
use Rattle.degree_numbers.specs.DegreeText.{Written}
use Rattle.degree_numbers.specs.Types.{noise_count, noises, kernels, AreDifferent, AreInOrder, AreDirections, AreTypes}
use Rattle.degree_numbers.specs.Fraction.{under_sign}
use Rattle.degree_numbers.specs.Written.{in_units_of}
use Rattle.degree_numbers.proofs.TypeBounds.{all_weaker}
use Rattle.equation_document.specs.declared.document.Document.{Document}
use Rattle.equation_document.specs.Limits.{units_of, degree_fractions}
use Rattle.equation_document.specs.Names.{place_of, stands_in}
use Rattle.equation_document.proofs.LeastCommon.{least_above}
use Rattle.equation_file.specs.Meaning.{with_group, groups_of, is_written, noise_type, kernel_type, types_of}
use Rattle.equation_file.proofs.ClearedDegrees.{AreCleared, units_clear}
use Rattle.type_contexts.specs.Context.{name_at}
use Rattle.type_contexts.specs.Same.{IsSameFraction, IsSameEntry, AreSameTypes}
use Rattle.type_contexts.proofs.Groups.{stands_before, not_yet, one_more_name, place_whole}
use Rattle.type_contexts.proofs.SameNumbers.{same_trans}
use Rattle.type_contexts.proofs.Scalings.{scaling_back}
use Rattle.types_of_files.proofs.FileRead.{the_document}
use Rattle.types_of_files.proofs.ItemsRead.{noise_entry, unknown_entry}
use Rattle.types_of_files.proofs.WrittenBack.{IsBack, read_of, unit_same}

pub order_most : (met : ℕ) (gs : List ℕ) (all : ℕ) → AreInOrder met gs all → met ≤ all
order_most met [] all h = omega (arith, h)
order_most met (g ∷ gs) all (inl p) = order_most met gs all p.1
order_most met (g ∷ gs) all (inr p) = let le = order_most (met + 1) gs all p.1 in omega (arith, le)

-- the groups of the document
groups_back : (w : TypeEntry → Written) (names : List (List ℕ)) (es : List TypeEntry) (met : ℕ) →
    AreDifferent names → AreInOrder met (map (λ e. e.group) es) (length names) →
    fold with_group (take met names) (map (noise_entry w names) es) ≡ names
groups_back w names [] met d h = ap (λ n. take n names) h ∙ take-length names
groups_back w names (e ∷ es) met d (inl p) =
    ap (λ b. fold with_group (if b then take met names else take met names ++ name_at names e.group ∷ []) (map (noise_entry w names) es)) (stands_before names met e.group p.0 (order_most met (map (λ x. x.group) es) (length names) p.1) d) ∙ groups_back w names es met d p.1
groups_back w names (e ∷ es) met d (inr p) =
    let lt : met < length names = (let le = order_most (met + 1) (map (λ (x : TypeEntry). x.group) es) (length names) p.1 in omega (arith, le)) in
    ap (λ b. fold with_group (if b then take met names else take met names ++ name_at names e.group ∷ []) (map (noise_entry w names) es)) (ap (λ g. stands_in (take met names) (name_at names g)) p.0 ∙ not_yet names met lt d)
    ∙ ap (λ g. fold with_group (take met names ++ name_at names g ∷ []) (map (noise_entry w names) es)) p.0 ∙ ap (λ ns. fold with_group ns (map (noise_entry w names) es)) (one_more_name names met lt) ∙ groups_back w names es (met + 1) d p.1

none_there : (past dims : ℕ) (is : List ℕ) (j : ℕ) → AreDirections past dims is → j ≤ past → list_any (λ i. nat_eq i j) is ≡ false
none_there past dims [] j h le = refl
none_there past dims (i ∷ is) j h le =
    let lt = h.0 in
    rw (other i j (omega (arith, lt, le)), none_there i dims is j h.2 (omega (arith, lt, le))) refl
  where
    other : (i j : ℕ) → j < i → nat_eq i j ≡ false
    other i j lt = grind (arith, nat_tests)

-- the directions that stand in an ascending list are that list
directions_back : (p : ℕ → Bool) (past n : ℕ) (is : List ℕ) → AreDirections past (past + n) is →
    ((j : ℕ) → past < j → p j ≡ list_any (λ i. nat_eq i j) is) →
    filter p (range_with_len (past + 1) n) ≡ is
directions_back p past zero [] h told = refl
directions_back p past zero (i ∷ is) h told = let lt = h.0 in let le = h.1 in absurd (omega (arith, lt, le))
directions_back p past (suc n) [] h told = rw (told (past + 1) (omega arith)) (directions_back p (past + 1) n [] tt (λ j lt. told j (omega (arith, lt))))
directions_back p past (suc n) (i ∷ is) h told =
    (elim (nat_eq i (past + 1)) as (λ b. nat_eq i (past + 1) ≡ b → filter p (range_with_len (past + 1) (suc n)) ≡ i ∷ is) [
      | true ↦ λ e.
          let same : i ≡ past + 1 = grind (arith, nat_tests) in
          let rest : AreDirections (past + 1) (past + 1 + n) is = subst (λ m. AreDirections (past + 1) m is) (omega arith) (subst (λ m. AreDirections m (past + suc n) is) same h.2) in
          rw (told (past + 1) (omega arith), e)
          (ap (λ m. m ∷ filter p (range_with_len (past + 1 + 1) n)) (sym same) ∙ ap (λ ms. i ∷ ms) (directions_back p (past + 1) n is rest (λ j lt. told j (omega (arith, lt)) ∙ ap (λ b. b || list_any (λ k. nat_eq k j) is) (not_this i j same lt))))
      | false ↦ λ e.
          let lt = h.0 in
          let later : past + 1 < i = (let other = not_same i (past + 1) e in omega (arith, lt, other)) in
          let rest : AreDirections (past + 1) (past + 1 + n) (i ∷ is) = (later, (let le = h.1 in omega (arith, le)), subst (λ m. AreDirections i m is) (omega arith) h.2) in
          rw (told (past + 1) (omega arith), e, none_there i (past + suc n) is (past + 1) h.2 (omega (arith, later)))
          (directions_back p (past + 1) n (i ∷ is) rest (λ j lt. told j (omega (arith, lt))))
    ]) refl
  where
    not_this : (i j : ℕ) → i ≡ past + 1 → past + 1 < j → nat_eq i j ≡ false
    not_this i j same lt = grind (arith, nat_tests)

    not_same : (i j : ℕ) → nat_eq i j ≡ false → i ≢ j
    not_same i j e same = grind (arith, nat_tests)

abbrev pub by_text : (TypeEntry → List ℕ) → TypeEntry → Written
by_text t e = read_of (t e)

same_a : (den l : ℕ) (d : Degree) (text : List ℕ) → 0 < l → IsBack den d text →
    AreCleared l (read_of text) → IsSameFraction d.a den (in_units_of l (read_of text).plain) l
same_a den l d text above h c =
    let f = (read_of text).plain in
    same_trans d.a den (under_sign f.negative f.num) f.den (in_units_of l f) l h.small.plain_above h.same.a (unit_same l f above h.small.plain_above c.0)

same_b : (den l : ℕ) (d : Degree) (text : List ℕ) → 0 < l → IsBack den d text →
    AreCleared l (read_of text) → IsSameFraction d.b den (in_units_of l (read_of text).with_k) l
same_b den l d text above h c =
    let f = (read_of text).with_k in
    same_trans d.b den (under_sign f.negative f.num) f.den (in_units_of l f) l h.small.k_above h.same.b (unit_same l f above h.small.k_above c.1)

-- a noise, and how it comes back
record IsNoiseBack (den l : ℕ) (t : TypeEntry → List ℕ) (all : ℕ) (e : TypeEntry) : Type 0 where
  kind : e.kind ≡ Noise
  group : e.group < all
  moments : e.moments ≡ None
  back : IsBack den e.degree (t e)
  clears : AreCleared l (read_of (t e))

record IsKernelBack (den l : ℕ) (t : TypeEntry → List ℕ) (e : TypeEntry) : Type 0 where
  kind : e.kind ≡ Kernel
  group : e.group ≡ 0
  back : IsBack den e.degree (t e)
  clears : AreCleared l (read_of (t e))

noises_back : (den l : ℕ) (t : TypeEntry → List ℕ) (names gs : List (List ℕ)) (es : List TypeEntry) →
    0 < l → gs ≡ names → AreDifferent names →
    AllByRecursion (IsNoiseBack den l t (length names)) es →
    AllZip (IsSameEntry den l) es (map (noise_type l gs) (map (noise_entry (by_text t) names) es))
noises_back den l t names gs [] above same d h = tt
noises_back den l t names gs (e ∷ es) above same d h = (
  record {
    name = refl;
    kind = h.0.kind;
    moments = h.0.moments;
    group = sym (ap (λ ns. place_of ns (name_at names e.group)) same ∙ place_whole names e.group h.0.group d);
    a = same_a den l e.degree (t e) above h.0.back h.0.clears;
    b = same_b den l e.degree (t e) above h.0.back h.0.clears;
  },
  noises_back den l t names gs es above same d h.1,
)

kernels_back : (den l : ℕ) (t : TypeEntry → List ℕ) (z : Written) (es : List TypeEntry) → 0 < l →
    AllByRecursion (IsKernelBack den l t) es →
    AllZip (IsSameEntry den l) es (map (kernel_type l) (map (unknown_entry (by_text t) z) es))
kernels_back den l t z [] above h = tt
kernels_back den l t z (e ∷ es) above h = (
  record {
    name = refl;
    kind = h.0.kind;
    group = h.0.group;
    moments = refl;
    a = same_a den l e.degree (t e) above h.0.back h.0.clears;
    b = same_b den l e.degree (t e) above h.0.back h.0.clears;
  },
  kernels_back den l t z es above h.1,
)

zip_joined : {A B : Type 0} (R : A → B → Type 0) (xs zs : List A) (ys ws : List B) → AllZip R xs ys → AllZip R zs ws → AllZip R (xs ++ zs) (ys ++ ws)
zip_joined R [] zs [] ws h k = k
zip_joined R [] zs (y ∷ ys) ws h k = absurd h
zip_joined R (x ∷ xs) zs [] ws h k = absurd h
zip_joined R (x ∷ xs) zs (y ∷ ys) ws h k = (h.0, zip_joined R xs zs ys ws h.1 k)

units_above : (doc : Document) → 0 < units_of doc
unfolding units_of
units_above doc = least_above (degree_fractions doc)

pub unmapped : {A B : Type 0} (P : B → Type 0) (f : A → B) (xs : List A) → AllByRecursion P (map f xs) → AllByRecursion (λ x. P (f x)) xs
unmapped P f [] h = tt
unmapped P f (x ∷ xs) h = (h.0, unmapped P f xs h.1)

pub both : {A : Type 0} (P Q R : A → Type 0) (xs : List A) → ((x : A) → P x → Q x → R x) → AllByRecursion P xs → AllByRecursion Q xs → AllByRecursion R xs
both P Q R [] join p q = tt
both P Q R (x ∷ xs) join p q = (join x p.0 q.0, both P Q R xs join p.1 q.1)

whole : (n m : ℕ) → n ≡ m → m ≡ 0 + n
whole n m e = omega (arith, e)

-- the types of the document are the same types
pub types_back : (ty : Types) (t : TypeEntry → List ℕ) (z : Written) → AreTypes ty →
    AllByRecursion (λ e. (e.kind ≡ Noise) × (e.group < length ty.groups) × (e.moments ≡ None) × IsBack (unsigned_abs ty.units.den) e.degree (t e)) (noises ty) →
    AllByRecursion (λ e. (e.kind ≡ Kernel) × (e.group ≡ 0) × IsBack (unsigned_abs ty.units.den) e.degree (t e)) (kernels ty) →
    units_of (the_document (by_text t) z ty) ≤ 1000000 →
    AreSameTypes ty (types_of (units_of (the_document (by_text t) z ty)) (the_document (by_text t) z ty))
types_back ty t z types n k fits =
    let doc = the_document (by_text t) z ty in
    let den = unsigned_abs ty.units.den in
    let l = units_of doc in
    let cleared = units_clear doc fits in
    let long : length (take ty.dims ty.scaling) ≡ ty.dims = length-take ty.dims ty.scaling ∙ omega (arith, types.scaling.most, types.scaling.entries) in
    let groups : groups_of doc.noises ≡ ty.groups = groups_back (by_text t) ty.groups (noises ty) 0 types.groups.different types.numbered in
    record {
      dims = sym long;
      scaling = sym (scaling_back ty.dims ty.scaling types.scaling);
      list =
          subst (λ es. AllZip (IsSameEntry den l) es (map (noise_type l (groups_of doc.noises)) doc.noises ++ map (kernel_type l) doc.unknowns)) (take-append-drop (noise_count ty) ty.list)
          (zip_joined (IsSameEntry den l) (noises ty) (kernels ty) (map (noise_type l (groups_of doc.noises)) doc.noises) (map (kernel_type l) doc.unknowns)
          (noises_back den l t ty.groups (groups_of doc.noises) (noises ty) (units_above doc) groups types.groups.different
          (both _ (λ e. AreCleared l (read_of (t e))) (IsNoiseBack den l t (length ty.groups)) (noises ty) (λ e p c. record { kind = p.0; group = p.1; moments = p.2; back = p.3; clears = c }) n (unmapped (λ m. AreCleared l m.degree) (noise_entry (by_text t) ty.groups) (noises ty) cleared.0)))
          (kernels_back den l t z (kernels ty) (units_above doc)
          (both _ (λ e. AreCleared l (read_of (t e))) (IsKernelBack den l t) (kernels ty) (λ e p c. record { kind = p.0; group = p.1; back = p.2; clears = c }) k
          (all_weaker _ (λ e. AreCleared l (read_of (t e))) (kernels ty) (λ e c. c.0) (unmapped (λ u. AreCleared l u.degree × AreCleared l u.regularity) (unknown_entry (by_text t) z) (kernels ty) cleared.1)))));
      groups = sym groups;
      reflect = sym (directions_back (is_written ty.reflect) 0 (length (take ty.dims ty.scaling)) ty.reflect (subst (λ n. AreDirections 0 n ty.reflect) (whole (length (take ty.dims ty.scaling)) ty.dims long) types.reflected) (λ j lt. refl));
    }
