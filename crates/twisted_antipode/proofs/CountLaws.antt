-- Counts of finished coproducts, and of which trees they are, one call after the other.
use Rattle.std.proofs.Common.{◌≡◌, ◌==◌, ℕ, zero, suc, ◌+◌, ◌<◌, ◌≤◌, inl, inr, true, false, cond, List, [], ◌∷◌, ◌++◌, fold, get_or, length, Option, Some, None, Result, Ok, Err, refl, sym, ap, ◌∙◌, subst, arith, append_assoc, append-nil}
use Rattle.std.proofs.lemmas.Bool.Decides.{Decides-eqb}
use Rattle.std.proofs.lemmas.List.Sums.{fold-append}
use Rattle.ordered_lists.specs.Members.{IsIn}
use Rattle.ordered_lists.proofs.Members.{in_append_left, in_append_right}
use Rattle.multiplicities.proofs.DistinctLists.{distinct_append}
use Rattle.degree_numbers.specs.declared.types.Types.{Types}
use Rattle.degree_numbers.proofs.TypeBounds.{all_weaker}
use Rattle.plain_trees.specs.Plain.{Plain}
use Rattle.tree_pool.specs.Content.{Content, IsGrown, tree_at, trees_of}
use Rattle.tree_pool.specs.Forests.{numbers}
use Rattle.tree_pool.specs.declared.TreeId.{TreeId}
use Rattle.tree_pool.proofs.Growth.{grown_at, grown_length}
use Rattle.pooled_cuttings.proofs.Rows.{all_append}
use Rattle.extraction_coproduct.specs.Finished.{TablesContent, IsCounted, raised}
use Rattle.antipode_laws.specs.Weighed.{Weighed}
use Rattle.antipode_laws.proofs.OtherTerms.{member_of}
use Rattle.twisted_antipode.specs.Held.{Held}
use Rattle.twisted_antipode.specs.Known.{first_held, AreParts}
use Rattle.twisted_antipode.proofs.RecursionLaws.{no_tree, part_at}
use Rattle.twisted_antipode.specs.Counts.{IsCountOf, HasAll, HasAllComponents, IsNewAmong, AreFinishedAmong, AreFinishedOver}

-- counts
abbrev once_more : ℕ → ℕ → ℕ
once_more n i = raised n

pub count_same : (b : TablesContent) (n : ℕ) → IsCountOf b b n n
count_same b n = record { more = []; finished = sym (append-nil b.finished); count = refl }

pub count_after : (a b c : TablesContent) (l m n : ℕ) → IsCountOf a b l m → IsCountOf b c m n → IsCountOf a c l n
count_after a b c l m n p q = record {
  more = p.more ++ q.more;
  finished = q.finished ∙ ap (λ (fs : List ℕ). fs ++ q.more) p.finished ∙ append_assoc a.finished p.more q.more;
  count = q.count ∙ ap (λ (k : ℕ). fold once_more k q.more) p.count ∙ sym (fold-append once_more l p.more q.more);
}

pub count_one : {T E : Type 0} (a b : TablesContent) (i m n : ℕ) (r : Result T E) → IsCounted a b i m n r → IsCountOf a b m n
count_one a b i m n (Ok v) (inl h) = record { more = i ∷ []; finished = h.finished; count = h.count }
count_one a b i m n (Ok v) (inr h) = record { more = []; finished = h.1.finished ∙ sym (append-nil a.finished); count = h.1.count }
count_one a b i m n (Err e) h = record { more = []; finished = h.finished ∙ sym (append-nil a.finished); count = h.count }

-- at most one for each that is finished
raised_most : (n : ℕ) (is : List ℕ) → fold once_more n is ≤ n + length is
raised_most n [] = omega arith
raised_most n (i ∷ is) = let rest = raised_most (raised n) is in omega (arith, rest)

pub count_most : (a b : TablesContent) (m n : ℕ) (h : IsCountOf a b m n) → n ≤ m + length h.more
count_most a b m n h = let is = h.count in let most = raised_most m h.more in omega (arith, is, most)

-- numbers for which nothing is held
held_number : (hs : List Held) (i : ℕ) (w : Weighed) → first_held hs i ≡ Some w → (h : Held) × IsIn h hs × (h.0 ≡ i)
held_number [] i w e = absurd cc
held_number (h ∷ hs) i w e =
    (elim (i == h.0) as (λ b. (i == h.0) ≡ b → cond b (Some h.1) (first_held hs i) ≡ Some w → (k : Held) × IsIn k (h ∷ hs) × (k.0 ≡ i)) [
      | true ↦ λ t f. (h, inl refl, sym ((Decides-eqb i h.0).0 t))
      | false ↦ λ t f. (let rest = held_number hs i w f in (rest.0, inr rest.1, rest.2))
    ]) refl e

not_none : (ks : List Held) (h : Held) (i : ℕ) → IsIn h ks → h.0 ≡ i → first_held ks i ≡ None → ⊥
not_none [] h i m e n = absurd m
not_none (k ∷ ks) h i m e n =
    (elim (i == k.0) as (λ b. (i == k.0) ≡ b → cond b (Some k.1) (first_held ks i) ≡ None → ⊥) [
      | true ↦ λ t f. absurd cc
      | false ↦ λ t f. elim m [
        | inl here ↦ (let same = (Decides-eqb i k.0).1 (sym e ∙ ap (λ (l : Held). l.0) (sym here)) in absurd cc)
        | inr there ↦ not_none ks h i there e f
      ]
    ]) refl n

still_none : (hs ks : List Held) (i : ℕ) → ((h : Held) → IsIn h hs → IsIn h ks) → first_held ks i ≡ None → first_held hs i ≡ None
still_none hs ks i kept none =
    (elim (first_held hs i) as (λ (o : Option Weighed). first_held hs i ≡ o → o ≡ None) [
      | None ↦ λ e. refl
      | Some w ↦ λ e. (let found = held_number hs i w e in absurd (not_none ks found.0 i (kept found.0 found.1) found.2 none))
    ]) refl

-- what is finished
new_grown : (c d : Content) (hs : List Held) (ts : List Plain) (old : List ℕ) (i : ℕ) → IsGrown c d → IsNewAmong c hs ts old i → IsNewAmong d hs ts old i
new_grown c d hs ts old i g n =
    let more = grown_length c d g in
    let known = n.known in
    record {
      known = omega (arith, more, known);
      tree = subst (λ (t : Plain). IsIn t ts) (sym (grown_at c d i g n.known)) n.tree;
      unheld = n.unheld;
      lacking = n.lacking;
    }

pub among_none : (c : Content) (hs : List Held) (ts : List Plain) (old new : List ℕ) → new ≡ old → AreFinishedAmong c hs ts old new
among_none c hs ts old new e = record { more = []; finished = e ∙ sym (append-nil old); each = tt; once = tt }

pub among_grown : (c d : Content) (hs : List Held) (ts : List Plain) (old new : List ℕ) → IsGrown c d → AreFinishedAmong c hs ts old new → AreFinishedAmong d hs ts old new
among_grown c d hs ts old new g a = record {
  more = a.more;
  finished = a.finished;
  each = all_weaker (IsNewAmong c hs ts old) (IsNewAmong d hs ts old) a.more (λ i n. new_grown c d hs ts old i g n) a.each;
  once = a.once;
}

pub among_after : (c d : Content) (hs ks : List Held) (ts : List Plain) (old mid new : List ℕ) → IsGrown c d → ((h : Held) → IsIn h hs → IsIn h ks) →
    AreFinishedAmong c hs ts old mid → AreFinishedAmong d ks ts mid new → AreFinishedAmong d hs ts old new
among_after c d hs ks ts old mid new g kept a b =
    let later : (i : ℕ) → IsNewAmong d ks ts mid i → IsNewAmong d hs ts old i = λ i n. record {
      known = n.known;
      tree = n.tree;
      unheld = still_none hs ks i kept n.unheld;
      lacking = λ j. n.lacking (subst (IsIn i) (sym a.finished) (in_append_left i old a.more j));
    } in
    record {
      more = a.more ++ b.more;
      finished = b.finished ∙ ap (λ (fs : List ℕ). fs ++ b.more) a.finished ∙ append_assoc old a.more b.more;
      each = all_append (IsNewAmong d hs ts old) a.more b.more (all_weaker (IsNewAmong c hs ts old) (IsNewAmong d hs ts old) a.more (λ i n. new_grown c d hs ts old i g n) a.each)
          (all_weaker (IsNewAmong d ks ts mid) (IsNewAmong d hs ts old) b.more later b.each);
      once = distinct_append a.more b.more a.once b.once
          (λ n j i. (member_of (IsNewAmong d ks ts mid) b.more n b.each i).lacking (subst (IsIn n) (sym a.finished) (in_append_right n old a.more j)));
    }

pub among_one : {T E : Type 0} (a b : TablesContent) (hs : List Held) (ts : List Plain) (i m n : ℕ) (r : Result T E) → IsGrown a.pool b.pool → i < length a.pool.trees → IsIn (tree_at a.pool i) ts →
    first_held hs i ≡ None → IsCounted a b i m n r → AreFinishedAmong b.pool hs ts a.finished b.finished
among_one a b hs ts i m n (Ok v) g l tree none (inl h) =
    let new : IsNewAmong a.pool hs ts a.finished i = record { known = l; tree = tree; unheld = none; lacking = h.lacking } in
    record { more = i ∷ []; finished = h.finished; each = (new_grown a.pool b.pool hs ts a.finished i g new, tt); once = (λ j. j, tt) }
among_one a b hs ts i m n (Ok v) g l tree none (inr h) = among_none b.pool hs ts a.finished b.finished h.1.finished
among_one a b hs ts i m n (Err e) g l tree none h = among_none b.pool hs ts a.finished b.finished h.finished

-- one call after the other
pub over_after : (a b c : TablesContent) (hs ks : List Held) (fs : List Plain) → IsGrown a.pool b.pool → IsGrown b.pool c.pool → ((h : Held) → IsIn h hs → IsIn h ks) →
    AreFinishedOver a b hs fs → AreFinishedOver b c ks fs → AreFinishedOver a c hs fs
over_after a b c hs ks fs g h kept m n = λ ts has all.
    among_after b.pool c.pool hs ks ts a.finished b.finished c.finished h kept (m ts has all) (n ts has (subst (λ (ty : Types). HasAllComponents ty ts) (sym g.types) all))

pub over_same : (a b : TablesContent) (hs : List Held) (fs : List Plain) → b.finished ≡ a.finished → AreFinishedOver a b hs fs
over_same a b hs fs e = λ ts has all. among_none b.pool hs ts a.finished b.finished e

-- the trees of a forest, one after the other
has_at : (c : Content) (ids : List TreeId) (j : ℕ) (ts : List Plain) → HasAll (trees_of c ids) ts → j < length ids → IsIn (tree_at c (get_or ids j no_tree).0) ts
has_at c [] j ts h l = absurd (omega (arith, l))
has_at c (i ∷ ids) zero ts h l = h.0
has_at c (i ∷ ids) (suc j) ts h l = has_at c ids j ts h.1 (omega (arith, l))

pub over_part : (a b c : TablesContent) (hs ks : List Held) (t : Plain) (ids : List TreeId) (j : ℕ) → IsGrown a.pool b.pool → IsGrown b.pool c.pool → ((h : Held) → IsIn h hs → IsIn h ks) →
    AreParts a.pool t (numbers ids) → j < length ids → AreFinishedOver a b hs (trees_of a.pool ids) → AreFinishedOver b c ks (tree_at b.pool (get_or ids j no_tree).0 ∷ []) →
    AreFinishedOver a c hs (trees_of a.pool ids)
over_part a b c hs ks t ids j g h kept parts l m n = λ ts has all.
    let k = (get_or ids j no_tree).0 in
    let same = grown_at a.pool b.pool k g (part_at a.pool t ids j parts l).known in
    among_after b.pool c.pool hs ks ts a.finished b.finished c.finished h kept (m ts has all)
    (n ts (subst (λ (s : Plain). IsIn s ts) (sym same) (has_at a.pool ids j ts has l), tt) (subst (λ (ty : Types). HasAllComponents ty ts) (sym g.types) all))

-- the coproduct of the tree itself, and what follows
pub over_one : {T E : Type 0} (a b : TablesContent) (hs : List Held) (i m n : ℕ) (r : Result T E) → IsGrown a.pool b.pool → i < length a.pool.trees → first_held hs i ≡ None →
    IsCounted a b i m n r → AreFinishedOver a b hs (tree_at a.pool i ∷ [])
over_one a b hs i m n r g l none counted = λ ts has all. among_one a b hs ts i m n r g l has.0 none counted

pub over_coproduct : {T E : Type 0} (a b c : TablesContent) (hs : List Held) (i m n : ℕ) (r : Result T E) → IsGrown a.pool b.pool → IsGrown b.pool c.pool → i < length a.pool.trees →
    first_held hs i ≡ None → IsCounted a b i m n r → AreFinishedOver b c hs (tree_at b.pool i ∷ []) → AreFinishedOver a c hs (tree_at a.pool i ∷ [])
over_coproduct a b c hs i m n r g h l none counted rest =
    over_after a b c hs hs (tree_at a.pool i ∷ []) g h (λ k j. j) (over_one a b hs i m n r g l none counted)
    (subst (λ (s : Plain). AreFinishedOver b c hs (s ∷ [])) (grown_at a.pool b.pool i g l) rest)
