use Rattle.std.proofs.Common.{◌≡◌, ◌<◌, ◌≤◌, ℕ, Bool, not, true, false, List, [], ◌∷◌, map, length, get_or, Vec, Global, refl, sym, ap, subst, ◌∙◌, arith, rules}
use Rattle.std.specs.List.{IsDistinct, list_any}
use Rattle.std.specs.Str.{bytes_eq}
use Rattle.std.proofs.lemmas.List.Elements.{All-from_recursion}
use Rattle.result_keeper.specs.declared.parts.ContextPair.{ContextPair}
use Rattle.result_keeper.specs.Entries.{context_pair}
use Rattle.result_keeper.specs.Kept.{Kept, contexts_of, CanMigrate}
use Rattle.sqlite_keeper.proofs.tests.migration.pairs_of.Goals as goal

-- two contexts move under new ones
two_can_move : (k : Kept) (a b m n : List ℕ) → a ∷ b ∷ [] ≡ contexts_of k → bytes_eq m n ≡ false → list_any (bytes_eq m) (a ∷ b ∷ []) ≡ false → list_any (bytes_eq n) (a ∷ b ∷ []) ≡ false → CanMigrate ((a, m) ∷ (b, n) ∷ []) k
unfolding IsDistinct
two_can_move k a b m n olds news one other =
    record {
      olds = olds;
      news = ((news, tt), (tt, tt));
      apart = All-from_recursion (λ (p : List ℕ × List ℕ). list_any (bytes_eq p.1) (contexts_of k) ≡ false) ((a, m) ∷ (b, n) ∷ []) (subst (λ (cs : List (List ℕ)). list_any (bytes_eq m) cs ≡ false) olds one, (subst (λ (cs : List (List ℕ)). list_any (bytes_eq n) cs ≡ false) olds other, tt));
    }

-- a list of two is its first and its second element
two_texts : (xs : List (Vec ℕ Global)) (x y : Vec ℕ Global) → 2 ≤ length xs → length xs < 3 → x ≡ get_or xs 0 x → y ≡ get_or xs 1 y → map (λ c. c.items) xs ≡ x.items ∷ y.items ∷ []
two_texts [] x y l h e f = absurd (omega arith)
two_texts (u ∷ []) x y l h e f = absurd (omega arith)
two_texts (u ∷ v ∷ []) x y l h e f = ap (λ (w : Vec ℕ Global). w.items ∷ v.items ∷ []) (sym e) ∙ ap (λ (w : Vec ℕ Global). x.items ∷ w.items ∷ []) (sym f)
two_texts (u ∷ v ∷ w ∷ xs) x y l h e f = absurd (omega arith)

two_pairs : (ps : List ContextPair) (p q : ContextPair) (x y : List ℕ × List ℕ) → ps ≡ p ∷ q ∷ [] → context_pair p ≡ x → context_pair q ≡ y → map context_pair ps ≡ x ∷ y ∷ []
two_pairs ps p q x y e f g =
    ap (λ (rs : List ContextPair). map context_pair rs) e ∙ (ap (λ (u : List ℕ × List ℕ). u ∷ context_pair q ∷ []) f ∙ ap (λ (u : List ℕ × List ℕ). x ∷ u ∷ []) g)

neither_of : (m x y a b : List ℕ) (v : Bool) → x ≡ a → y ≡ b → list_any (bytes_eq m) (x ∷ y ∷ []) ≡ not v → v ≡ true → list_any (bytes_eq m) (a ∷ b ∷ []) ≡ false
neither_of m x y a b v e f h t =
    subst (λ (u : List ℕ). list_any (bytes_eq m) (u ∷ b ∷ []) ≡ false) e (subst (λ (u : List ℕ). list_any (bytes_eq m) (x ∷ u ∷ []) ≡ false) f (h ∙ ap not t))

pub returns : goal.returns
returns c k olds =
    let a = c.first-item.result.items in
    let b = c.second-item.result.items in
    let m = c.args.one.now in
    let n = c.args.other.now in
    let texts = two_texts c.args.contexts.now c.first-item.result c.second-item.result (omega arith) (omega arith) c.first-item.is c.second-item.is in
    let news : bytes_eq m n ≡ false = search rules in
    let one = neither_of m c.deref.result.now c.deref-2.result.now a b c.is_neither.result c.deref.ensures.value c.deref-2.ensures.value c.is_neither.ensures c.if-not-is_neither.false in
    let other = neither_of n c.deref-3.result.now c.deref-4.result.now a b c.is_neither-2.result c.deref-3.ensures.value c.deref-4.ensures.value c.is_neither-2.ensures c.if-not-is_neither-2.false in
    let first = c.in_ok-pair.ensures ∙ ap (λ (u : List ℕ). (u, m)) c.deref-5.ensures.value in
    let second = c.in_ok-pair-2.ensures ∙ ap (λ (u : List ℕ). (u, n)) c.deref-6.ensures.value in
    let pairs = two_pairs c.in_ok-pairs.pairs.items c.in_ok-pair.field-0 c.in_ok-pair-2.field-0 (a, m) (b, n) c.in_ok-pairs.ensures.items first second in
    subst (λ (ps : List (List ℕ × List ℕ)). CanMigrate ps k) (sym pairs) (two_can_move k a b m n (sym texts ∙ olds) news one other)
