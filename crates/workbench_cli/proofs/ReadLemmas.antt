-- Files that are read one after the other.
use Rattle.std.proofs.Common.{◌≡◌, ◌≢◌, ◌⊎◌, ◌<◌, ◌+◌, inl, inr, ℕ, List, [], ◌∷◌, ◌++◌, length, Option, None, Some, map, take, drop, get_or, Bor, refl, sym, ap, ◌∙◌, subst, append_assoc, append-nil, arith}
use Rattle.std.proofs.lemmas.List.{take_more, map-append, take-append-drop}
use Rattle.wb_outside.specs.Told.{Lengthens}
use Rattle.workbench_core.specs.declared.refusal.Refusal.{Refusal}
use Rattle.workbench_core.specs.declared.refusal.Refusal.TheVariants.{FileFault, Memory}
use Rattle.workbench_cli.specs.Reading.{AreRead}
use Rattle.workbench_cli.specs.Runs.{AsksFor}

lengthens_more : (old now new : Option (List (List ℕ))) (names more : List (List ℕ)) → Lengthens old now names → Lengthens now new more → Lengthens old new (names ++ more)
lengthens_more None now new names more h k = tt
lengthens_more (Some old) None new names more h k = absurd h
lengthens_more (Some old) (Some now) None names more h k = absurd k
lengthens_more (Some old) (Some now) (Some new) names more h k = k ∙ ap (λ l. l ++ more) h ∙ append_assoc old names more

pub lengthens_nothing : (told : Option (List (List ℕ))) → Lengthens told told []
lengthens_nothing None = tt
lengthens_nothing (Some names) = sym (append-nil names)

-- nothing is asked for
pub asks_nothing : (names : List (List ℕ)) (e : Refusal) (old new : Option (List (List ℕ))) → e ≡ Memory → Lengthens old new [] → AsksFor names (e ≡ FileFault) (e ≡ Memory) old new
asks_nothing names e old new memory h = record {
  front = [];
  rest = names;
  parts = refl;
  asked = h;
  all = λ f m. absurd (m memory);
  one = λ f. let wrong : Memory ≡ FileFault = sym memory ∙ f in cc;
}

-- each name is asked for
pub asks_all : (names : List (List ℕ)) (fault memory : Type 0) (old new : Option (List (List ℕ))) → (fault → names ≢ []) → Lengthens old new names → AsksFor names fault memory old new
asks_all names fault memory old new some h = record { front = names; rest = []; parts = sym (append-nil names); asked = h; all = λ f m. refl; one = some }

-- the same by other words for the causes
pub asks_as : (names : List (List ℕ)) (fault memory fault2 memory2 : Type 0) (old new : Option (List (List ℕ))) → (fault2 → fault) → (fault → fault2 ⊎ memory2) → (memory → memory2)
    → AsksFor names fault memory old new → AsksFor names fault2 memory2 old new
asks_as names fault memory fault2 memory2 old new back on wanting h = record {
  front = h.front;
  rest = h.rest;
  parts = h.parts;
  asked = h.asked;
  all = λ f m. h.all (λ x. elim (on x) [ inl y ↦ f y | inr y ↦ m y ]) (λ x. m (wanting x));
  one = λ f. h.one (back f);
}

not_empty : (before front : List (List ℕ)) → front ≢ [] → before ++ front ≢ []
not_empty [] front some none = some none
not_empty (n ∷ before) front some none = cc

-- the last of several names is not read
asks_after : (names before rest : List (List ℕ)) (name : List ℕ) (fault memory : Type 0) (old now new : Option (List (List ℕ))) → names ≡ before ++ name ∷ rest → fault ⊎ memory
    → Lengthens old now before → AsksFor (name ∷ []) fault memory now new → AsksFor names fault memory old new
asks_after names before rest name fault memory old now new whole stopped so_far h = record {
  front = before ++ h.front;
  rest = h.rest ++ rest;
  parts = whole ∙ ap (λ l. before ++ (l ++ rest)) h.parts ∙ ap (λ l. before ++ l) (append_assoc h.front h.rest rest) ∙ sym (append_assoc before h.front (h.rest ++ rest));
  asked = lengthens_more old now new before h.front so_far h.asked;
  all = λ f m. absurd (elim stopped [ inl x ↦ f x | inr x ↦ m x ]);
  one = λ f. not_empty before h.front (h.one f);
}

read_more : (texts : List ℕ → Option (List ℕ)) (names pieces : List (List ℕ)) (name piece : List ℕ) → AreRead texts names pieces → ((text : List ℕ) → texts name ≡ Some text → piece ≡ take 65537 text)
    → AreRead texts (names ++ name ∷ []) (pieces ++ piece ∷ [])
read_more texts [] [] name piece h front = (front, refl)
read_more texts [] (p ∷ pieces) name piece h front = cc
read_more texts (n ∷ names) [] name piece h front = absurd h
read_more texts (n ∷ names) (p ∷ pieces) name piece h front = (h.0, read_more texts names pieces name piece h.1 front)

abbrev pub texts_of : List (Bor (List ℕ)) → List (List ℕ)
texts_of names = map (λ name. name.now) names

module _ (names : List (Bor (List ℕ))) (i : ℕ) (d : Bor (List ℕ)) (lt : i < length names) where
  one_more : texts_of (take (i + 1) names) ≡ texts_of (take i names) ++ (get_or names i d).now ∷ []
  one_more = ap texts_of (take_more names i d lt) ∙ map-append (λ (name : Bor (List ℕ)). name.now) (take i names) (get_or names i d ∷ [])

  whole : texts_of names ≡ texts_of (take i names) ++ (get_or names i d).now ∷ texts_of (drop (i + 1) names)
  whole =
      ap texts_of (sym (take-append-drop (i + 1) names))
      ∙ map-append (λ (name : Bor (List ℕ)). name.now) (take (i + 1) names) (drop (i + 1) names)
      ∙ ap (λ l. l ++ texts_of (drop (i + 1) names)) one_more
      ∙ append_assoc (texts_of (take i names)) ((get_or names i d).now ∷ []) (texts_of (drop (i + 1) names))

  pub next_read : (texts now : List ℕ → Option (List ℕ)) (pieces : List (List ℕ)) (piece : List ℕ) → AreRead texts (texts_of (take i names)) pieces → ((n : List ℕ) → now n ≡ texts n)
      → ((text : List ℕ) → now (get_or names i d).now ≡ Some text → piece ≡ take 65537 text) → AreRead texts (texts_of (take (i + 1) names)) (pieces ++ piece ∷ [])
  next_read texts now pieces piece so_far same front =
      subst (λ ns. AreRead texts ns (pieces ++ piece ∷ [])) (sym one_more)
      (read_more texts (texts_of (take i names)) pieces (get_or names i d).now piece so_far (λ text told. front text (same (get_or names i d).now ∙ told)))

  pub next_asked : (old now new : Option (List (List ℕ))) → Lengthens old now (texts_of (take i names)) → Lengthens now new ((get_or names i d).now ∷ []) → Lengthens old new (texts_of (take (i + 1) names))
  next_asked old now new so_far h = subst (λ ns. Lengthens old new ns) (sym one_more) (lengthens_more old now new (texts_of (take i names)) ((get_or names i d).now ∷ []) so_far h)

  -- this file is not read
  pub asks_unread : (fault memory : Type 0) (old now new : Option (List (List ℕ))) → fault ⊎ memory → Lengthens old now (texts_of (take i names))
      → AsksFor ((get_or names i d).now ∷ []) fault memory now new → AsksFor (texts_of names) fault memory old new
  asks_unread fault memory old now new stopped so_far h =
      asks_after (texts_of names) (texts_of (take i names)) (texts_of (drop (i + 1) names)) (get_or names i d).now fault memory old now new whole stopped so_far h

  -- it is read, and then there is no memory
  pub asks_unkept : (e : Refusal) (old now new : Option (List (List ℕ))) → e ≡ Memory → Lengthens old now (texts_of (take i names)) → Lengthens now new ((get_or names i d).now ∷ [])
      → AsksFor (texts_of names) (e ≡ FileFault) (e ≡ Memory) old new
  asks_unkept e old now new memory so_far h =
      asks_unread (e ≡ FileFault) (e ≡ Memory) old now new (inr memory) so_far (asks_all ((get_or names i d).now ∷ []) (e ≡ FileFault) (e ≡ Memory) now new (λ f none. cc) h)
