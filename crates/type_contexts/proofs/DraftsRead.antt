-- What is read of the pieces of a context.
use Rattle.std.proofs.Common.{◌≡◌, ℕ, ◌<◌, true, List, [], ◌∷◌, Option, Some, None, unsigned_abs, arith, refl, ap, sym, subst, ◌∙◌}
use Rattle.std.specs.Prelude.{codes}
use Rattle.std.specs.List.{AllByRecursion, AllZip, join_with_byte}
use Rattle.degree_numbers.specs.declared.degree.Degree.{Degree}
use Rattle.degree_numbers.specs.declared.types.Kind.{Kind}
use Rattle.degree_numbers.specs.declared.types.Kind.TheVariants.{Noise, Kernel}
use Rattle.degree_numbers.specs.declared.types.TypeEntry.{TypeEntry}
use Rattle.degree_numbers.specs.Fraction.{IsFractionInRange}
use Rattle.degree_numbers.specs.Name.{is_name}
use Rattle.degree_numbers.specs.Printing.{IsDegreeText}
use Rattle.degree_numbers.specs.Types.{IsMoments}
use Rattle.degree_numbers.proofs.Back.{degree_back}
use Rattle.degree_numbers.proofs.LowestTerms.{lowest_one}
use Rattle.type_contexts.specs.declared.draft.Draft.{Draft}
use Rattle.type_contexts.specs.declared.form.Form.{Form}
use Rattle.type_contexts.specs.declared.form.Form.TheVariants.{Old, New}
use Rattle.type_contexts.specs.Context.{name_at, moments_text, moments_words, words_by, IsEntryText}
use Rattle.type_contexts.specs.Draft.{Words, words_of, piece_words, IsDraftOf, IsGoodPiece, IsPieceDraft}
use Rattle.type_contexts.proofs.Bytes.{Lacks, IsOther, lacks_name, lacks_degree, split_join, space_is_other}
use Rattle.type_contexts.proofs.DirectionsRead.{moments_lack}
use Rattle.type_contexts.proofs.DegreesRead.{IsSameDegree, degree_read}

-- the name that stands for the group of a type
abbrev pub group_by : Kind → List (List ℕ) → TypeEntry → List ℕ
group_by Noise groups e = name_at groups e.group
group_by Kernel groups e = e.name

-- the text that stands for the moment number of a type
abbrev pub moments_by : Kind → TypeEntry → List ℕ
moments_by Noise e = codes "-"
moments_by Kernel e = moments_text e.moments

-- a type whose words are read
pub record IsReadable (den : ℕ) (groups : List (List ℕ)) (e : TypeEntry) : Type 0 where
  pub name : is_name e.name ≡ true
  pub group : is_name (group_by e.kind groups e) ≡ true
  pub a : IsFractionInRange den e.degree.a
  pub b : IsFractionInRange den e.degree.b
  pub moments : IsMoments e.moments
  pub moments_are : moments_by e.kind e ≡ moments_text e.moments

-- d is what is read of the type e
pub record IsEntryDraft (den : ℕ) (groups : List (List ℕ)) (e : TypeEntry) (d : Draft) : Type 0 where
  pub kind : d.kind ≡ e.kind
  pub name : d.name ≡ e.name
  pub group : d.group ≡ group_by e.kind groups e
  pub degree : IsSameDegree e.degree den d.degree
  pub moments : d.moments ≡ e.moments

pub degree_lacks : (c den : ℕ) (d : Degree) (text : List ℕ) → IsOther c → 0 < den →
    IsFractionInRange den d.a → IsFractionInRange den d.b → IsDegreeText d den text → Lacks c text
degree_lacks c den d text other above a b h =
    let same_a = lowest_one (unsigned_abs d.a) den a.0 a.1 h.0.num h.0.den above a.2 h.2.value in
    let same_b = lowest_one (unsigned_abs d.b) den b.0 b.1 h.1.num h.1.den above b.2 h.3.value in
    subst (Lacks c) (sym h.4)
    (lacks_degree c h.0 h.1 other (omega (arith, same_a.0, a.3)) (omega (arith, same_a.1, a.4)) (omega (arith, same_b.0, b.3)) (omega (arith, same_b.1, b.4)))

abbrev pub the_words : Kind → List (List ℕ) → TypeEntry → List ℕ → Words
the_words kind groups e degree = record { kind = kind; name = e.name; degree = degree; group = group_by kind groups e; moments = moments_by kind e }

kernel_found : (form : Form) (m : Option ℕ) (name degree : List ℕ) → Lacks 32 name → Lacks 32 degree → Lacks 32 (moments_text m) → piece_words (join_with_byte 32 (codes "kernel" ∷ name ∷ degree ∷ moments_words form m)) ≡ Some (record { kind = Kernel; name = name; degree = degree; group = name; moments = moments_text m })
kernel_found New m name degree named text moments = ap words_of (split_join 32 (codes "kernel") (name ∷ degree ∷ moments_text m ∷ []) refl (refl, (refl, (refl, (refl, (refl, (refl, tt)))))) (named, (text, (moments, tt))))
kernel_found Old None name degree named text moments = ap words_of (split_join 32 (codes "kernel") (name ∷ degree ∷ []) refl (refl, (refl, (refl, (refl, (refl, (refl, tt)))))) (named, (text, tt)))
kernel_found Old (Some r) name degree named text moments =
    ap words_of (split_join 32 (codes "kernel") (name ∷ degree ∷ codes "moments" ∷ moments_text (Some r) ∷ []) refl (refl, (refl, (refl, (refl, (refl, (refl, tt)))))) (named, (text, ((refl, (refl, (refl, (refl, (refl, (refl, (refl, tt))))))), (moments, tt)))))

words_found : (kind : Kind) (form : Form) (groups : List (List ℕ)) (e : TypeEntry) (degree : List ℕ) →
    Lacks 32 e.name → Lacks 32 degree → Lacks 32 (group_by kind groups e) →
    Lacks 32 (moments_text e.moments) →
    piece_words (join_with_byte 32 (words_by kind form groups e degree)) ≡ Some (the_words kind groups e degree)
words_found Noise form groups e degree name text group moments = ap words_of (split_join 32 (codes "noise") (e.name ∷ degree ∷ name_at groups e.group ∷ []) refl (refl, (refl, (refl, (refl, (refl, tt))))) (name, (text, (group, tt))))
words_found Kernel form groups e degree name text group moments = kernel_found form e.moments e.name degree name text moments

pub piece_found : (form : Form) (den : ℕ) (groups : List (List ℕ)) (e : TypeEntry) (piece : List ℕ) →
    0 < den → IsReadable den groups e → (h : IsEntryText form den groups e piece) →
    piece_words piece ≡ Some (the_words e.kind groups e h.0)
piece_found form den groups e piece above r h =
    ap piece_words h.2
    ∙ words_found e.kind form groups e h.0 (lacks_name 32 e.name refl r.name) (degree_lacks 32 den e.degree h.0 space_is_other above r.a r.b h.1) (lacks_name 32 (group_by e.kind groups e) refl r.group) (moments_lack 32 e.moments refl refl r.moments)

good_piece : (form : Form) (den : ℕ) (groups : List (List ℕ)) (e : TypeEntry) (piece : List ℕ) →
    0 < den → IsReadable den groups e → IsEntryText form den groups e piece → IsGoodPiece piece
good_piece form den groups e piece above r h =
    let back = degree_back e.degree den h.0 above r.a r.b h.1 in
    record { words = the_words e.kind groups e h.0; are = piece_found form den groups e piece above r h; good = record { name = r.name; degree = (back.0, back.1, back.2); group = r.group; moments = (e.moments, r.moments, r.moments_are) } }

same_words : (v w : Words) (piece : List ℕ) → piece_words piece ≡ Some v → piece_words piece ≡ Some w → v ≡ w
same_words v w piece h k = let e : Some v ≡ Some w = sym h ∙ k in cc

entry_draft : (form : Form) (den : ℕ) (groups : List (List ℕ)) (e : TypeEntry) (piece : List ℕ) (d : Draft) →
    0 < den → IsReadable den groups e → IsEntryText form den groups e piece → IsPieceDraft piece d →
    IsEntryDraft den groups e d
entry_draft form den groups e piece d above r h p =
    let draft : IsDraftOf (the_words e.kind groups e h.0) d = subst (λ w. IsDraftOf w d) (same_words p.words (the_words e.kind groups e h.0) piece p.are (piece_found form den groups e piece above r h)) p.draft in
    record { kind = draft.kind; name = draft.name; group = draft.group; degree = degree_read e.degree den h.0 d.degree above r.a r.b h.1 draft.degree; moments = draft.moments e.moments r.moments r.moments_are }

-- the pieces of a context are good
pub good_pieces : (form : Form) (den : ℕ) (groups : List (List ℕ)) (es : List TypeEntry) (pieces : List (List ℕ)) →
    0 < den → AllByRecursion (IsReadable den groups) es →
    AllZip (IsEntryText form den groups) es pieces → AllByRecursion IsGoodPiece pieces
good_pieces form den groups [] [] above r h = tt
good_pieces form den groups [] (p ∷ pieces) above r h = absurd h
good_pieces form den groups (e ∷ es) [] above r h = absurd h
good_pieces form den groups (e ∷ es) (p ∷ pieces) above r h = (good_piece form den groups e p above r.0 h.0, good_pieces form den groups es pieces above r.1 h.1)

-- and what is read of them is read of the types
pub entry_drafts : (form : Form) (den : ℕ) (groups : List (List ℕ)) (es : List TypeEntry) (pieces : List (List ℕ)) (drafts : List Draft) →
    0 < den → AllByRecursion (IsReadable den groups) es →
    AllZip (IsEntryText form den groups) es pieces → AllZip IsPieceDraft pieces drafts →
    AllZip (IsEntryDraft den groups) es drafts
entry_drafts form den groups [] [] [] above r h p = tt
entry_drafts form den groups [] [] (d ∷ drafts) above r h p = absurd p
entry_drafts form den groups [] (q ∷ pieces) drafts above r h p = absurd h
entry_drafts form den groups (e ∷ es) [] drafts above r h p = absurd h
entry_drafts form den groups (e ∷ es) (q ∷ pieces) [] above r h p = absurd p
entry_drafts form den groups (e ∷ es) (q ∷ pieces) (d ∷ drafts) above r h p = (entry_draft form den groups e q d above r.0 h.0 p.0, entry_drafts form den groups es pieces drafts above r.1 h.1 p.1)
