-- The marks of a written tree's text build the tree that it writes.
use Rattle.std.proofs.Common.{◌≡◌, ℕ, ◌<◌, ◌≤◌, Bool, true, false, List, [], ◌∷◌, ◌++◌, Option, Some, None, refl, sym, ap, ◌∙◌, arith, append-nil, append_assoc}
use Rattle.std.proofs.lemmas.Bool.Decides.{nat_tests}
use Rattle.std.specs.Prelude.{◌==◌, is_some, unwrap_or}
use Rattle.std.specs.List.{AllByRecursion}
use Rattle.degree_numbers.specs.Name.{is_name, is_name_byte}
use Rattle.degree_numbers.specs.declared.types.Types.{Types}
use Rattle.tree_grammar.specs.Grammar.{Written, root, leaf, planted, entries_onto, quoted_onto, written_root, inside, starred_onto, written_text, IsNumber, IsMulti, IsGrammatical, number_named}
use Rattle.tree_grammar.specs.Words.{word, entries_at, multi_of, AreKnown}
use Rattle.tree_grammar.proofs.WordSums.{AreNameBytes, name_bytes, number_bytes, word_of, word_quoted, word_starred}
use Rattle.tree_grammar.proofs.Entries.{entries_law}
use Rattle.plain_trees.specs.Plain.{Plain, bare, graft}
use Rattle.plain_trees.specs.Canon.{Planted}
use Rattle.plain_trees.specs.Degree.{empty_tree}
use Rattle.plain_trees.specs.Building.{OpenTree, Building, type_of, plain_of, zeros, over, ended, with_subtree, label_at, step, run, start}

is_it : (b c : ℕ) → (b == c) ≡ true → b ≡ c
is_it b c h = grind (arith, nat_tests)

-- a letter, a digit or `_` is no mark
apart : (c b : ℕ) (t : Bool) → (b == c) ≡ t → is_name_byte c ≡ false → is_name_byte b ≡ true → (b == c) ≡ false
apart c b false h fails passes = h
apart c b true h fails passes = let w : true ≡ false = sym passes ∙ ap is_name_byte (is_it b c h) ∙ fails in absurd cc

known_number : (o : Option ℕ) → is_some o ≡ true → o ≡ Some (unwrap_or o 0)
known_number None h = absurd cc
known_number (Some k) h = refl

module _ (ty : Types) (some_dims : 0 < ty.dims) (five_dims : ty.dims ≤ 5) where
  abbrev at : List OpenTree → List ℕ → List Planted → Option (ℕ × List ℕ) → Building
  at os n es l = record { outer = os; inner = record { n = n; edges = es; label = l } }

  step_word : (b : ℕ) (bs : List ℕ) (s : Building) → is_name_byte b ≡ true → step ty b bs s ≡ s
  step_word b bs s h = rw (apart 91 b (b == 91) refl refl h, apart 42 b (b == 42) refl refl h, apart 40 b (b == 40) refl refl h, apart 93 b (b == 93) refl refl h) refl

  run_word : (v text : List ℕ) (s : Building) → AreNameBytes v → run ty s (v ++ text) ≡ run ty s text
  run_word [] text s h = refl
  run_word (b ∷ v) text s h = ap (λ (r : Building). run ty r (v ++ text)) (step_word b (v ++ text) s h.0) ∙ run_word v text s h.1

  run_entries : (es : List (List ℕ)) (text : List ℕ) (s : Building) → AllByRecursion IsNumber es → run ty s (entries_onto es text) ≡ run ty s text
  run_entries [] text s h = refl
  run_entries (e ∷ []) text s h = run_word e (41 ∷ text) s (number_bytes e h.0)
  run_entries (e ∷ f ∷ es) text s h = run_word e (44 ∷ entries_onto (f ∷ es) text) s (number_bytes e h.0) ∙ run_entries (f ∷ es) text s h.1

  multi : (es : List (List ℕ)) (text : List ℕ) → IsMulti ty.dims (Some es) → entries_at 5 (entries_onto es text) ≡ multi_of (Some es)
  multi es text h = entries_law es text (omega (arith, h.0, some_dims)) (omega (arith, h.0, five_dims)) h.1

  run_quoted : (os : List OpenTree) (n : List ℕ) (es : List Planted) (k : ℕ) (p : Option (List (List ℕ))) (text : List ℕ) → IsMulti ty.dims p →
      run ty (at os n es (Some (k, zeros))) (quoted_onto p text) ≡ run ty (at os n es (Some (k, multi_of p))) text
  run_quoted os n es k None text h = refl
  run_quoted os n es k (Some ms) text h =
      ap (λ (m : List ℕ). run ty (at os n es (Some (k, m))) (entries_onto ms text)) (multi ms text h) ∙ run_entries ms text (at os n es (Some (k, multi_of (Some ms)))) h.1

  label_named : (n text : List ℕ) (k : ℕ) → is_name n ≡ true → number_named ty n ≡ Some k → word text ≡ [] → label_at ty (n ++ text) ≡ Some (k, zeros)
  label_named n text k h found e = rw (word_of n text (name_bytes n h) e, h, found) refl

  run_edge : (os : List OpenTree) (n : List ℕ) (es : List Planted) (l : Option (ℕ × List ℕ)) (m : List ℕ) (p : Option (List (List ℕ))) (text : List ℕ) (k : ℕ) →
      is_name m ≡ true → number_named ty m ≡ Some k → IsMulti ty.dims p → word text ≡ [] →
      run ty (at os n es l) (42 ∷ (m ++ quoted_onto p text)) ≡ run ty (at os n (es ++ ended l empty_tree) (Some (k, multi_of p))) text
  run_edge os n es l m p text k h found q e =
      ap (λ (x : Option (ℕ × List ℕ)). run ty (at os n (es ++ ended l empty_tree) x) (m ++ quoted_onto p text)) (label_named m (quoted_onto p text) k h found (word_quoted p text e))
      ∙ run_word m (quoted_onto p text) (at os n (es ++ ended l empty_tree) (Some (k, zeros))) (name_bytes m h)
      ∙ run_quoted os n (es ++ ended l empty_tree) k p text q

  no_label : (text : List ℕ) → word text ≡ [] → label_at ty text ≡ None
  no_label text e = rw e refl

  run_inside : (os : List OpenTree) (o : OpenTree) (x : Option (List (List ℕ))) (c : Written) (v : List ℕ) → IsMulti ty.dims x → word v ≡ [] →
      run ty record { outer = os; inner = o } (91 ∷ inside x c (starred_onto c v)) ≡ run ty (at (o ∷ os) (multi_of x) [] None) (starred_onto c v)
  run_inside os o None (root y) v h e = ap (λ (l : Option (ℕ × List ℕ)). run ty (at (o ∷ os) zeros [] l) v) (no_label v e)
  run_inside os o None (leaf n p t) v h e = refl
  run_inside os o None (planted n p c t) v h e = refl
  run_inside os o (Some es) c v h e =
      ap (λ (m : List ℕ). run ty (at (o ∷ os) m [] None) (entries_onto es (starred_onto c v))) (multi es (starred_onto c v) h)
      ∙ run_entries es (starred_onto c v) (at (o ∷ os) (multi_of (Some es)) [] None) h.1

  abbrev edges_listed : Written → List Planted
  edges_listed (root x) = []
  edges_listed (leaf n p t) = record { kind = type_of ty n; p = multi_of p; child = empty_tree } ∷ edges_listed t
  edges_listed (planted n p c t) = record { kind = type_of ty n; p = multi_of p; child = plain_of ty c } ∷ edges_listed t

  over_listed : (t : Written) → over (edges_listed t) (bare (multi_of (written_root t))) ≡ plain_of ty t
  over_listed (root x) = refl
  over_listed (leaf n p t) = ap (graft (type_of ty n) (multi_of p) empty_tree) (over_listed t)
  over_listed (planted n p c t) = ap (graft (type_of ty n) (multi_of p) (plain_of ty c)) (over_listed t)

  root_multi : (t : Written) → IsGrammatical ty t → IsMulti ty.dims (written_root t)
  root_multi (root x) h = h
  root_multi (leaf n p t) h = root_multi t h.3
  root_multi (planted n p c t) h = root_multi t h.4

  -- the state after a tree with these edges has ended
  abbrev after : OpenTree → List OpenTree → List ℕ → List Planted → Building
  after o os n es = record { outer = os; inner = with_subtree o (over es (bare n)) }

  run_starred : (t : Written) → IsGrammatical ty t → AreKnown ty t →
      (o : OpenTree) (os : List OpenTree) (n : List ℕ) (es : List Planted) (l : Option (ℕ × List ℕ)) (u : List ℕ) →
      run ty (at (o ∷ os) n es l) (starred_onto t (93 ∷ u)) ≡ run ty (after o os n ((es ++ ended l empty_tree) ++ edges_listed t)) u
  run_starred (root x) h k o os n es l u = ap (λ (fs : List Planted). run ty (after o os n fs) u) (sym (append-nil (es ++ ended l empty_tree)))
  run_starred (leaf m p t) h k o os n es l u =
      let done = es ++ ended l empty_tree in
      let e : Planted = record { kind = type_of ty m; p = multi_of p; child = empty_tree } in
      run_edge (o ∷ os) n es l m p (starred_onto t (93 ∷ u)) (type_of ty m) h.0 (known_number (number_named ty m) k.0) h.1 (word_starred t (93 ∷ u) refl)
      ∙ run_starred t h.3 k.1 o os n done (Some (type_of ty m, multi_of p)) u
      ∙ ap (λ (fs : List Planted). run ty (after o os n fs) u) (append_assoc done (e ∷ []) (edges_listed t))
  run_starred (planted m p c t) h k o os n es l u =
      let done = es ++ ended l empty_tree in
      let x = multi_of (written_root c) in
      let e : Planted = record { kind = type_of ty m; p = multi_of p; child = plain_of ty c } in
      let inner : OpenTree = record { n = n; edges = done; label = Some (type_of ty m, multi_of p) } in
      let rest = starred_onto t (93 ∷ u) in
      run_edge (o ∷ os) n es l m p (91 ∷ inside (written_root c) c (starred_onto c (93 ∷ rest))) (type_of ty m) h.0 (known_number (number_named ty m) k.0) h.1 refl
      ∙ run_inside (o ∷ os) inner (written_root c) c (93 ∷ rest) (root_multi c h.3) refl
      ∙ run_starred c h.3 k.1 inner (o ∷ os) x [] None rest
      ∙ ap (λ (s : Plain). run ty record { outer = o ∷ os; inner = with_subtree inner s } rest) (over_listed c)
      ∙ run_starred t h.4 k.2 o os n (done ++ e ∷ []) None u
      ∙ ap (λ (fs : List Planted). run ty (after o os n (fs ++ edges_listed t)) u) (append-nil (done ++ e ∷ []))
      ∙ ap (λ (fs : List Planted). run ty (after o os n fs) u) (append_assoc done (e ∷ []) (edges_listed t))

  pub run_written : (t : Written) → IsGrammatical ty t → AreKnown ty t → run ty start (written_text t) ≡ at [] zeros (record { kind = 0; p = zeros; child = plain_of ty t } ∷ []) None
  run_written t h k =
      let o : OpenTree = start.inner in
      run_inside [] o (written_root t) t (93 ∷ []) (root_multi t h) refl
      ∙ run_starred t h k o [] (multi_of (written_root t)) [] None []
      ∙ ap (λ (s : Plain). record { outer = []; inner = with_subtree o s }) (over_listed t)
