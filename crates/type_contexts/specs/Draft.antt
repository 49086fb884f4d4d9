-- What is read of the pieces of a context, before the common denominator is known.
-- Working notions of the code and of proofs, which no contract of a public call names:
--   Words == whether they are those of a noise or of a kernel, a name, the text of a degree, the
--       name of a group, and the text of a moment number; a kernel has no group, and its name
--       stands there; `-` stands where no moment number is written
--   words_by_kind is_noise name degree last == the words of a noise, whose group is the last one;
--       of a kernel, whose moment number is the last one
--   words_of parts == the words of a type, in both forms of a context; the first tells a noise of a
--       kernel where both may be
--   piece_words piece == those of a piece, which is cut at its spaces
--   seen w == what the words that the code keeps mean
--   IsGood w == the words are names, a degree in which no number passes 1,000,000
--       (`LARGEST_NUMBER`), and the text of a moment number
--   IsDraftOf w d == d is what the words say
--   IsGoodPiece piece == the piece has such words
--   IsPieceDraft piece d == the piece has words, and d is what they say
use Rattle.std.specs.Prelude.{◌≡◌, ◌==◌, ℕ, Bool, true, false, List, [], ◌∷◌, codes, Option, Some, None, Ok}
use Rattle.std.specs.List.{slice_split}
use Rattle.std.specs.Str.{bytes_eq}
use Rattle.degree_numbers.specs.declared.types.Kind.{Kind}
use Rattle.degree_numbers.specs.declared.types.Kind.TheVariants.{Noise, Kernel}
use Rattle.degree_numbers.specs.Name.{is_name}
use Rattle.degree_numbers.specs.DegreeText.{Written, written_of}
use Rattle.degree_numbers.specs.Types.{IsMoments}
use Rattle.degree_numbers.specs.Written.{IsRead}
use Rattle.type_contexts.specs.Context.{moments_text}
use Rattle.type_contexts.specs.declared.draft.Draft.{Draft}
use Rattle.type_contexts.specs.declared.draft.Words.{Words as KeptWords}

pub record Words : Type 0 where
  pub kind : Kind
  pub name : List ℕ
  pub degree : List ℕ
  pub group : List ℕ
  pub moments : List ℕ

abbrev pub words_by_kind : Bool → List ℕ → List ℕ → List ℕ → Words
words_by_kind true name degree last =
    record { kind = Noise; name = name; degree = degree; group = last; moments = codes "-" }
words_by_kind false name degree last =
    record { kind = Kernel; name = name; degree = degree; group = name; moments = last }

abbrev pub words_of : List (List ℕ) → Option Words
words_of (word ∷ name ∷ degree ∷ []) = Some (words_by_kind false name degree (codes "-"))
words_of (word ∷ name ∷ degree ∷ last ∷ []) =
    Some (words_by_kind (bytes_eq word (codes "noise")) name degree last)
words_of (word ∷ name ∷ degree ∷ moments ∷ number ∷ []) =
    Some (words_by_kind false name degree number)
words_of [] = None
words_of (word ∷ []) = None
words_of (word ∷ name ∷ []) = None
words_of (word ∷ name ∷ degree ∷ moments ∷ number ∷ further ∷ more) = None

abbrev pub piece_words : List ℕ → Option Words
piece_words piece = words_of (slice_split (λ b. b == 32) piece)

abbrev pub seen : KeptWords → Words
seen w = record {
  kind = w.kind;
  name = w.name.now;
  degree = w.degree.now;
  group = w.group.now;
  moments = w.moments.now;
}

pub record IsGood (w : Words) : Type 0 where
  pub name : is_name w.name ≡ true
  pub degree : (read : Written) × (written_of w.degree ≡ Some read) × (read.large ≡ None)
  pub group : is_name w.group ≡ true
  pub moments : (m : Option ℕ) × IsMoments m × (w.moments ≡ moments_text m)

pub record IsDraftOf (w : Words) (d : Draft) : Type 0 where
  pub kind : d.kind ≡ w.kind
  pub name : d.name ≡ w.name
  pub degree : IsRead w.degree (Ok d.degree)
  pub group : d.group ≡ w.group
  pub moments : (m : Option ℕ) → IsMoments m → w.moments ≡ moments_text m → d.moments ≡ m

pub record IsGoodPiece (piece : List ℕ) : Type 0 where
  pub words : Words
  pub are : piece_words piece ≡ Some words
  pub good : IsGood words

pub record IsPieceDraft (piece : List ℕ) (d : Draft) : Type 0 where
  pub words : Words
  pub are : piece_words piece ≡ Some words
  pub draft : IsDraftOf words d
