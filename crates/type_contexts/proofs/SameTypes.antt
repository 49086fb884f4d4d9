-- Types that are the same but for their units: both are those of a file, and their texts are the
-- same.
use Rattle.std.proofs.Common.{◌≡◌, ℕ, zero, suc, negsuc, ◌*◌, ◌<◌, ◌≤◌, ℤ, pos, ◌<ℤ◌, ◌≤ℤ◌, unsigned_abs, List, [], ◌∷◌, ◌++◌, map, take, drop, length, decimal, arith, refl, ap, sym, subst, ◌∙◌}
use Rattle.std.specs.Prelude.{codes}
use Rattle.std.specs.Int.{is_negative}
use Rattle.std.proofs.lemmas.Bool.{false≢true}
use Rattle.std.specs.List.{AllByRecursion, AllZip, join_with_byte, prefix_len}
use Rattle.std.proofs.lemmas.Int.{ints}
use Rattle.degree_numbers.specs.declared.degree.Degree.{Degree}
use Rattle.degree_numbers.specs.declared.types.Kind.{Kind}
use Rattle.degree_numbers.specs.declared.types.Kind.TheVariants.{Noise, Kernel}
use Rattle.degree_numbers.specs.declared.types.TypeEntry.{TypeEntry}
use Rattle.degree_numbers.specs.declared.types.Types.{Types}
use Rattle.degree_numbers.specs.Printing.{IsDegreeText, degree_text}
use Rattle.degree_numbers.specs.Types.{is_noise, noise_count, noises, kernels, IsScaling, IsMoments, AreDirections, IsNoiseEntry, IsKernelEntry, AreNames, AreInOrder, AreTypes}
use Rattle.type_contexts.specs.declared.form.Form.{Form}
use Rattle.type_contexts.specs.declared.form.Form.TheVariants.{Old, New}
use Rattle.type_contexts.specs.Context.{words_by, entry_words, IsEntryText, scaling_text, directions_text, reflect_text, reflect_pieces, pieces_in, IsTextIn}
use Rattle.type_contexts.specs.Same.{IsSameFraction, IsSameEntry, AreSameTypes}
use Rattle.type_contexts.proofs.SameNumbers.{lowest_same, lowest_form, writable_same, size_above, not_negative, some_too}

abbrev AreSame : ℕ → ℕ → List TypeEntry → List TypeEntry → Type 0
AreSame d e ss ts = AllZip (IsSameEntry d e) ss ts

same_count : (d e : ℕ) (ss ts : List TypeEntry) → AreSame d e ss ts → prefix_len (λ x. is_noise x.kind) ss ≡ prefix_len (λ x. is_noise x.kind) ts
same_count d e [] [] h = refl
same_count d e [] (t ∷ ts) h = absurd h
same_count d e (s ∷ ss) [] h = absurd h
same_count d e (s ∷ ss) (t ∷ ts) h = rw (h.0.kind, same_count d e ss ts h.1) refl

same_front : (d e n : ℕ) (ss ts : List TypeEntry) → AreSame d e ss ts → AreSame d e (take n ss) (take n ts)
same_front d e zero ss ts h = tt
same_front d e (suc n) [] [] h = tt
same_front d e (suc n) [] (t ∷ ts) h = absurd h
same_front d e (suc n) (s ∷ ss) [] h = absurd h
same_front d e (suc n) (s ∷ ss) (t ∷ ts) h = (h.0, same_front d e n ss ts h.1)

same_back : (d e n : ℕ) (ss ts : List TypeEntry) → AreSame d e ss ts → AreSame d e (drop n ss) (drop n ts)
same_back d e zero ss ts h = h
same_back d e (suc n) [] [] h = tt
same_back d e (suc n) [] (t ∷ ts) h = absurd h
same_back d e (suc n) (s ∷ ss) [] h = absurd h
same_back d e (suc n) (s ∷ ss) (t ∷ ts) h = same_back d e n ss ts h.1

same_map : {A : Type 0} (d e : ℕ) (f : TypeEntry → A) (ss ts : List TypeEntry) →
    ((s t : TypeEntry) → IsSameEntry d e s t → f s ≡ f t) → AreSame d e ss ts → map f ss ≡ map f ts
same_map d e f [] [] here h = refl
same_map d e f [] (t ∷ ts) here h = absurd h
same_map d e f (s ∷ ss) [] here h = absurd h
same_map d e f (s ∷ ss) (t ∷ ts) here h = ap (λ x. x ∷ map f ss) (here s t h.0) ∙ ap (λ xs. f t ∷ xs) (same_map d e f ss ts here h.1)

same_length : (d e : ℕ) (ss ts : List TypeEntry) → AreSame d e ss ts → length ss ≡ length ts
same_length d e [] [] h = refl
same_length d e [] (t ∷ ts) h = absurd h
same_length d e (s ∷ ss) [] h = absurd h
same_length d e (s ∷ ss) (t ∷ ts) h = ap suc (same_length d e ss ts h.1)

all_same : (d e : ℕ) (P Q : TypeEntry → Type 0) (ss ts : List TypeEntry) →
    ((s t : TypeEntry) → IsSameEntry d e s t → P s → Q t) → AreSame d e ss ts →
    AllByRecursion P ss → AllByRecursion Q ts
all_same d e P Q [] [] here h p = tt
all_same d e P Q [] (t ∷ ts) here h p = absurd h
all_same d e P Q (s ∷ ss) [] here h p = absurd h
all_same d e P Q (s ∷ ss) (t ∷ ts) here h p = (here s t h.0 p.0, all_same d e P Q ss ts here h.1 p.1)

noise_same : (d e : ℕ) → 0 < d → (s t : TypeEntry) → IsSameEntry d e s t → IsNoiseEntry d s → IsNoiseEntry e t
noise_same d e above s t h n = record { kind = sym h.kind ∙ n.kind; a = writable_same s.degree.a d t.degree.a e above h.a n.a; b = writable_same s.degree.b d t.degree.b e above h.b n.b; moments = sym h.moments ∙ n.moments }

positive_same : (x y : ℤ) → is_negative x ≡ is_negative y → (0 < unsigned_abs x → 0 < unsigned_abs y) → pos 0 <ℤ x → pos 0 <ℤ y
positive_same x (pos n) sign size h = let some : 0 < n = size (size_above x h) in omega (arith, ints, some)
positive_same (pos m) (negsuc n) sign size h = absurd (false≢true (sym (not_negative m) ∙ sign))
positive_same (negsuc m) (negsuc n) sign size h = absurd (omega (arith, ints, h))

no_factor : (m d : ℕ) → 0 < d → m * d ≡ 0 → m ≡ 0
no_factor m d above h = grind (arith, above, h)

size_zero : (z : ℤ) → unsigned_abs z ≡ 0 → z ≡ pos 0
size_zero z h = omega (arith, ints)

zero_same : (x : ℤ) (d : ℕ) (y : ℤ) (e : ℕ) → 0 < d → IsSameFraction x d y e → x ≡ pos 0 → y ≡ pos 0
zero_same x d y e above h none =
    size_zero y (no_factor (unsigned_abs y) d above (sym h.size ∙ ap (λ z. unsigned_abs z * e) none ∙ omega arith))

kernel_same : (d e : ℕ) → 0 < d → 0 < e → (s t : TypeEntry) → IsSameEntry d e s t → IsKernelEntry d s → IsKernelEntry e t
kernel_same d e above e_above s t h k = record {
  kind = sym h.kind ∙ k.kind;
  a = writable_same s.degree.a d t.degree.a e above h.a k.a;
  above = positive_same s.degree.a t.degree.a h.a.sign (some_too (unsigned_abs s.degree.a) d (unsigned_abs t.degree.a) e e_above h.a.size) k.above;
  without_k = zero_same s.degree.b d t.degree.b e above h.b k.without_k;
  group = sym h.group ∙ k.group;
  moments = subst IsMoments h.moments k.moments;
}

-- the types in another common denominator are those of a file, too
pub types_same : (s t : Types) → AreSameTypes s t → pos 0 <ℤ t.units.den → t.units.den ≤ℤ pos 1000000 → AreTypes s → AreTypes t
types_same s t h above fits types =
    let d = unsigned_abs s.units.den in
    let e = unsigned_abs t.units.den in
    let count : noise_count s ≡ noise_count t = same_count d e s.list t.list h.list in
    let same_noises : AreSame d e (noises s) (noises t) = subst (λ n. AreSame d e (noises s) (take n t.list)) count (same_front d e (noise_count s) s.list t.list h.list) in
    let same_kernels : AreSame d e (kernels s) (kernels t) = subst (λ n. AreSame d e (kernels s) (drop n t.list)) count (same_back d e (noise_count s) s.list t.list h.list) in
    let long : length (kernels s) ≡ length (kernels t) = same_length d e (kernels s) (kernels t) same_kernels in
    let d_above = size_above s.units.den types.den_above in
    let e_above = size_above t.units.den above in
    record {
      scaling = subst (λ n. IsScaling n t.scaling) h.dims (subst (λ xs. IsScaling s.dims xs) h.scaling types.scaling);
      den_above = above;
      den_most = fits;
      noises_most = subst (λ n. n ≤ 8) count types.noises_most;
      kernels_some = subst (λ n. 0 < n) long types.kernels_some;
      kernels_most = subst (λ n. n ≤ 8) long types.kernels_most;
      of_noises = all_same d e (IsNoiseEntry d) (IsNoiseEntry e) (noises s) (noises t) (noise_same d e d_above) same_noises types.of_noises;
      of_kernels = all_same d e (IsKernelEntry d) (IsKernelEntry e) (kernels s) (kernels t) (kernel_same d e d_above e_above) same_kernels types.of_kernels;
      names = subst AreNames (same_map d e (λ x. x.name) s.list t.list (λ x y k. k.name) h.list) types.names;
      groups = subst AreNames h.groups types.groups;
      numbered =
          subst (λ n. AreInOrder 0 (map (λ x. x.group) (noises t)) n) (ap length h.groups)
          (subst (λ gs. AreInOrder 0 gs (length s.groups)) (same_map d e (λ x. x.group) (noises s) (noises t) (λ x y k. k.group) same_noises) types.numbered);
      reflected = subst (λ n. AreDirections 0 n t.reflect) h.dims (subst (λ is. AreDirections 0 s.dims is) h.reflect types.reflected);
    }

words_same : (form : Form) (d e : ℕ) (groups : List (List ℕ)) (s t : TypeEntry) (degree : List ℕ) →
    IsSameEntry d e s t → entry_words form groups s degree ≡ entry_words form groups t degree
words_same form d e groups s t degree h = by s.kind ∙ ap (λ kind. words_by kind form groups t degree) h.kind
  where
    by : (kind : Kind) → words_by kind form groups s degree ≡ words_by kind form groups t degree
    by Noise = rw (h.name, h.group) refl
    by Kernel = rw (h.name, h.moments) refl

entry_text_same : (form : Form) (d e : ℕ) (groups : List (List ℕ)) (s t : TypeEntry) (text : List ℕ) →
    0 < d → IsSameEntry d e s t → IsEntryText form d groups s text →
    IsEntryText form e groups t text
entry_text_same form d e groups s t text above h told = (
  told.0,
  (told.1.0, told.1.1, lowest_same s.degree.a d t.degree.a e told.1.0 above h.a told.1.2, lowest_same s.degree.b d t.degree.b e told.1.1 above h.b told.1.3, told.1.4),
  told.2 ∙ ap (join_with_byte 32) (words_same form d e groups s t told.0 h),
)

entry_texts_same : (form : Form) (d e : ℕ) (groups : List (List ℕ)) (ss ts : List TypeEntry) (pieces : List (List ℕ)) →
    0 < d → AreSame d e ss ts → AllZip (IsEntryText form d groups) ss pieces →
    AllZip (IsEntryText form e groups) ts pieces
entry_texts_same form d e groups [] [] [] above h told = tt
entry_texts_same form d e groups [] [] (p ∷ pieces) above h told = absurd told
entry_texts_same form d e groups [] (t ∷ ts) pieces above h told = absurd h
entry_texts_same form d e groups (s ∷ ss) [] pieces above h told = absurd h
entry_texts_same form d e groups (s ∷ ss) (t ∷ ts) [] above h told = absurd told
entry_texts_same form d e groups (s ∷ ss) (t ∷ ts) (p ∷ pieces) above h told = (entry_text_same form d e groups s t p above h.0 told.0, entry_texts_same form d e groups ss ts pieces above h.1 told.1)

-- what stands around the types
abbrev scaling_by : ℕ → List ℕ → List ℕ
scaling_by n xs = join_with_byte 32 (codes "scaling" ∷ join_with_byte 44 (map decimal (take n xs)) ∷ [])

abbrev reflect_by : List ℕ → List ℕ
reflect_by is = join_with_byte 32 (codes "reflect" ∷ directions_text is ∷ [])

scaling_same : (s t : Types) → s.dims ≡ t.dims → s.scaling ≡ t.scaling → scaling_text s ≡ scaling_text t
scaling_same s t dims scaling = ap (λ n. scaling_by n s.scaling) dims ∙ ap (λ xs. scaling_by t.dims xs) scaling

reflect_same : (s t : Types) → s.reflect ≡ t.reflect → reflect_text s ≡ reflect_text t
reflect_same s t reflect = ap (λ is. reflect_by is) reflect

back_same : (s t : Types) (is : List ℕ) → s.reflect ≡ t.reflect → reflect_pieces is s ≡ reflect_pieces is t
back_same s t [] reflect = refl
back_same s t (i ∷ is) reflect = ap (λ x. x ∷ []) (reflect_same s t reflect)

pieces_same : (form : Form) (s t : Types) (entries : List (List ℕ)) → s.dims ≡ t.dims →
    s.scaling ≡ t.scaling → s.reflect ≡ t.reflect →
    pieces_in form s entries ≡ pieces_in form t entries
pieces_same New s t entries dims scaling reflect =
    ap (λ x. codes "context 2" ∷ x ∷ reflect_text s ∷ (entries ++ [])) (scaling_same s t dims scaling) ∙ ap (λ x. codes "context 2" ∷ scaling_text t ∷ x ∷ (entries ++ [])) (reflect_same s t reflect)
pieces_same Old s t entries dims scaling reflect =
    ap (λ x. x ∷ (entries ++ reflect_pieces s.reflect s)) (scaling_same s t dims scaling) ∙ ap (λ xs. scaling_text t ∷ (entries ++ xs)) (back_same s t s.reflect reflect ∙ ap (λ is. reflect_pieces is t) reflect)

-- the text is the same in every common denominator
pub text_same : (form : Form) (s t : Types) (text : List ℕ) → 0 < unsigned_abs s.units.den → AreSameTypes s t → IsTextIn form s text → IsTextIn form t text
text_same form s t text above h told = (
  told.0,
  subst (λ gs. AllZip (IsEntryText form (unsigned_abs t.units.den) gs) t.list told.0) h.groups (entry_texts_same form (unsigned_abs s.units.den) (unsigned_abs t.units.den) s.groups s.list t.list told.0 above h.list told.1),
  told.2 ∙ ap (join_with_byte 124) (pieces_same form s t told.0 h.dims h.scaling h.reflect),
)

degree_text_one : (d : Degree) (den : ℕ) (text other : List ℕ) → 0 < den → IsDegreeText d den text → IsDegreeText d den other → text ≡ other
degree_text_one d den text other above h k =
    let a = lowest_form d.a den h.0 k.0 above h.2 k.2 in
    let b = lowest_form d.b den h.1 k.1 above h.3 k.3 in
    h.4 ∙ ap (λ f. degree_text f h.1) a ∙ ap (λ g. degree_text k.0 g) b ∙ sym k.4

entry_texts_one : (form : Form) (den : ℕ) (groups : List (List ℕ)) (es : List TypeEntry) (ps qs : List (List ℕ)) →
    0 < den → AllZip (IsEntryText form den groups) es ps →
    AllZip (IsEntryText form den groups) es qs → ps ≡ qs
entry_texts_one form den groups [] [] [] above h k = refl
entry_texts_one form den groups [] [] (q ∷ qs) above h k = absurd k
entry_texts_one form den groups [] (p ∷ ps) qs above h k = absurd h
entry_texts_one form den groups (e ∷ es) [] qs above h k = absurd h
entry_texts_one form den groups (e ∷ es) (p ∷ ps) [] above h k = absurd k
entry_texts_one form den groups (e ∷ es) (p ∷ ps) (q ∷ qs) above h k =
    let degree = degree_text_one e.degree den h.0.0 k.0.0 above h.0.1 k.0.1 in
    let here : p ≡ q = h.0.2 ∙ ap (λ t. join_with_byte 32 (entry_words form groups e t)) degree ∙ sym k.0.2 in
    ap (λ x. x ∷ ps) here ∙ ap (λ xs. q ∷ xs) (entry_texts_one form den groups es ps qs above h.1 k.1)

-- types have one text
pub text_one : (form : Form) (ty : Types) (text other : List ℕ) → 0 < unsigned_abs ty.units.den → IsTextIn form ty text → IsTextIn form ty other → text ≡ other
text_one form ty text other above h k =
    h.2 ∙ ap (λ ps. join_with_byte 124 (pieces_in form ty ps)) (entry_texts_one form (unsigned_abs ty.units.den) ty.groups ty.list h.0 k.0 above h.1 k.1) ∙ sym k.2
