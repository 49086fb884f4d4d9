-- What is kept while wholes are put in.
use Rattle.std.proofs.Common.{◌≡◌, ℕ, zero, suc, ◌+◌, ◌<◌, ◌≤◌, true, false, List, [], ◌∷◌, ◌++◌, map, take, drop, length, get_or, flat_map, if◌then◌else◌, Some, None, refl, sym, ap, ◌∙◌, subst, arith, All, Option}
use Rattle.std.proofs.lemmas.List.{map-append, take_more, append_assoc}
use Rattle.std.proofs.lemmas.List.Elements.{All-push}
use Rattle.std.proofs.lemmas.Grind.{flat_map-append}
use Rattle.std.specs.Option.{option_map}
use Rattle.std.specs.List.Sorted.{IsStrictlySortedBy}
use Rattle.std.specs.declared.cmp.Ordering.{Ordering}
use Rattle.std.specs.declared.cmp.Ordering.TheVariants.{Less, Equal, Greater}
use Rattle.degree_numbers.specs.declared.degree.Degree.{Degree}
use Rattle.degree_numbers.specs.declared.multi.Multi.{Multi}
use Rattle.degree_numbers.specs.declared.types.Types.{Types}
use Rattle.degree_numbers.specs.Degree.{degree_order, degree_zero}
use Rattle.ordered_lists.proofs.Insertion.{insert_key_sorted}
use Rattle.plain_trees.specs.Plain.{Plain}
use Rattle.plain_trees.specs.Degree.{degree_of}
use Rattle.plain_trees.proofs.DegreeBounds.{small_a, small_b}
use Rattle.conforming_trees.specs.Listed.{listing_order}
use Rattle.conforming_trees.proofs.Orders.{listing_order_total}
use Rattle.tree_pool.specs.Content.{Content, Holds, tree_at, IsGrown, IsKept, IsPooled}
use Rattle.tree_pool.specs.declared.node.TreeId.{TreeId}
use Rattle.tree_pool.proofs.Growth.{grown_at}
use Rattle.tree_pool.proofs.Walks.{at_holds}
use Rattle.tree_listing.specs.declared.found.Found.{Found}
use Rattle.tree_listing.specs.declared.level.Stem.{Stem}
use Rattle.tree_listing.specs.declared.roots.Room.{Room}
use Rattle.tree_listing.specs.Levels.{trees, stem_tree, stem_trees}
use Rattle.tree_listing.specs.Roots.{IsRoom, roots_to}
use Rattle.tree_listing.specs.Gathered.{Gathered, gathered, IsFoundIn, IsKeeping, IsDecorable, is_possible, with_possible, with_tree, with_trees, IsOverfull, room_of, with_root_of, decorated, decorated_all}
use Rattle.tree_listing.proofs.Growing.{trees-grown, ids-grown, grown_below, holds_below}
use Rattle.tree_listing.proofs.Places.{length-trees}
use Rattle.tree_listing.proofs.Walks.{small_at}
use Rattle.tree_listing.proofs.RootLaws.{all_of_members}

abbrev gathered_made : List Plain → Option Plain → Gathered
gathered_made ts z = record { listed = ts; zero = z }

zero-grown : (c d : Content) (z : Option TreeId) → IsGrown c d →
    ((i : TreeId) → z ≡ Some i → i.0 < length c.trees) →
    option_map (λ i. tree_at d i.0) z ≡ option_map (λ i. tree_at c i.0) z
zero-grown c d None g h = refl
zero-grown c d (Some i) g h = ap Some (grown_at c d i.0 g (h i refl))

pub gathered-grown : (c d : Content) (f : Found) → IsGrown c d → IsFoundIn c f → gathered d f ≡ gathered c f
gathered-grown c d f g h =
    ap (λ (ts : List Plain). gathered_made ts (option_map (λ i. tree_at d i.0) f.zero)) (trees-grown c d f.listed.items g h.listed) ∙ ap (gathered_made (trees c f.listed.items)) (zero-grown c d f.zero g h.zero)

pub found-grown : (c d : Content) (f : Found) → IsGrown c d → IsFoundIn c f → IsFoundIn d f
found-grown c d f g h = record { listed = ids-grown c d f.listed.items g h.listed; zero = λ i e. grown_below c d i.0 g (h.zero i e) }

pub keeping-grown : (c d : Content) (f : Found) (is : List TreeId) → IsGrown c d → IsKeeping c f is → IsKeeping d f is
keeping-grown c d f is g h = record {
  found = found-grown c d f g h.found;
  ascending = rw (trees-grown c d f.listed.items g h.found.listed, g.types) h.ascending;
  few = h.few;
  wholes = ids-grown c d is g h.wholes;
}

possible_ascending : (ty : Types) (o : Ordering) (g : Gathered) (t : Plain) →
    IsStrictlySortedBy (listing_order ty) g.listed →
    IsStrictlySortedBy (listing_order ty) (with_possible ty o g t).listed
possible_ascending ty Less g t h = insert_key_sorted (listing_order ty) (listing_order_total ty) g.listed t h
possible_ascending ty Equal g t h = h
possible_ascending ty Greater g t h = h

pub with_tree_ascending : (ty : Types) (g : Gathered) (t : Plain) →
    IsStrictlySortedBy (listing_order ty) g.listed →
    IsStrictlySortedBy (listing_order ty) (with_tree ty g t).listed
with_tree_ascending ty g t h =
    elim (is_possible ty t) as (λ b. IsStrictlySortedBy (listing_order ty) (if b then with_possible ty (degree_order (degree_of ty t) degree_zero) g t else g).listed) [
      | true ↦ possible_ascending ty (degree_order (degree_of ty t) degree_zero) g t h
      | false ↦ h
    ]

-- one more whole
pub put_gathered : (c d : Content) (f new : Found) (id : TreeId) (t : Plain) → IsGrown c d →
    IsFoundIn c f → Holds d id.0 t →
    gathered d new ≡ with_tree d.types (gathered d f) (tree_at d id.0) →
    gathered d new ≡ with_tree c.types (gathered c f) t
put_gathered c d f new id t g h there is = is ∙ rw (g.types, gathered-grown c d f g h, at_holds d id.0 t there) refl

pub put_many : (c d : Content) (f new : Found) (id : TreeId) (t : Plain) (n : ℕ) → IsGrown c d →
    IsFoundIn c f → Holds d id.0 t →
    gathered d new ≡ with_tree d.types (gathered d f) (tree_at d id.0) →
    n ≡ length new.listed.items → 4000 < n →
    4000 < length (with_tree c.types (gathered c f) t).listed
put_many c d f new id t n g h there is l m =
    let same : length (gathered d new).listed ≡ length (with_tree c.types (gathered c f) t).listed = ap (λ (x : Gathered). length x.listed) (put_gathered c d f new id t g h there is) in
    omega (arith, l, m, same, length-trees d new.listed.items)

pub put_trees : (c d : Content) (is new : List TreeId) (id : TreeId) (t : Plain) → IsGrown c d →
    All (λ i. i.0 < length c.trees) is → Holds d id.0 t → new ≡ is ++ id ∷ [] →
    trees d new ≡ trees c is ++ t ∷ []
put_trees c d is new id t g h there e = rw (e, map-append (λ (i : TreeId). tree_at d i.0) is (id ∷ []), trees-grown c d is g h, at_holds d id.0 t there) refl

pub put_keeping : (c d : Content) (f new : Found) (is js : List TreeId) (id : TreeId) (t : Plain) (n : ℕ) →
    IsGrown c d → IsKeeping c f is → Holds d id.0 t →
    gathered d new ≡ with_tree d.types (gathered d f) (tree_at d id.0) → IsFoundIn d new →
    n ≡ length new.listed.items → n ≤ 4000 → js ≡ is ++ id ∷ [] → IsKeeping d new js
put_keeping c d f new is js id t n g h there eq found l m e = record {
  found = found;
  ascending = subst (λ (x : Gathered). IsStrictlySortedBy (listing_order d.types) x.listed) (sym eq) (with_tree_ascending d.types (gathered d f) (tree_at d id.0) (keeping-grown c d f is g h).ascending);
  few = omega (arith, l, m);
  wholes = rw e (All-push (λ (i : TreeId). i.0 < length d.trees) is id (ids-grown c d is g h.wholes) (holds_below d id.0 t there));
}

-- first trees, then more
pub with_trees-append : (ty : Types) (g : Gathered) (ts us : List Plain) → with_trees ty g (ts ++ us) ≡ with_trees ty (with_trees ty g ts) us
with_trees-append ty g [] us = refl
with_trees-append ty g (t ∷ ts) us = with_trees-append ty (with_tree ty g t) ts us

pub overfull_after : (ty : Types) (g : Gathered) (before ts rest all : List Plain) →
    all ≡ (before ++ ts) ++ rest → IsOverfull ty (with_trees ty g before) ts → IsOverfull ty g all
overfull_after ty g before ts rest all e h =
    let m = h.many in record {
      first = before ++ h.first;
      rest = h.rest ++ rest;
      all = e ∙ ap (λ (us : List Plain). (before ++ us) ++ rest) h.all ∙ ap (λ (us : List Plain). us ++ rest) (sym (append_assoc before h.first h.rest)) ∙ append_assoc (before ++ h.first) h.rest rest;
      many = omega (arith, m, ap (λ (x : Gathered). length x.listed) (with_trees-append ty g before h.first));
    }

pub one_overfull : (ty : Types) (g : Gathered) (t : Plain) → 4000 < length (with_tree ty g t).listed → IsOverfull ty g (t ∷ [])
one_overfull ty g t h = record { first = t ∷ []; rest = []; all = refl; many = h }

split_at : {X : Type 0} (xs : List X) (i : ℕ) (d : X) → i < length xs → xs ≡ (take i xs ++ get_or xs i d ∷ []) ++ drop (i + 1) xs
split_at [] i d h = absurd (omega (arith, h))
split_at (x ∷ xs) zero d h = refl
split_at (x ∷ xs) (suc i) d h =
    let one : suc i + 1 ≡ suc (i + 1) = omega arith in
    rw one (ap (λ ys. x ∷ ys) (split_at xs i d (omega (arith, h))))

pub overfull_at : (ty : Types) (g h : Gathered) (f : Multi → Plain) (ns : List Multi) (i : ℕ) (d : Multi) →
    i < length ns → h ≡ with_trees ty g (map f (take i ns)) →
    4000 < length (with_tree ty h (f (get_or ns i d))).listed → IsOverfull ty g (map f ns)
overfull_at ty g h f ns i d l is m =
    overfull_after ty g (map f (take i ns)) (f (get_or ns i d) ∷ []) (map f (drop (i + 1) ns)) (map f ns)
    (ap (map f) (split_at ns i d l) ∙ map-append f (take i ns ++ get_or ns i d ∷ []) (drop (i + 1) ns) ∙ ap (λ (us : List Plain). us ++ map f (drop (i + 1) ns)) (map-append f (take i ns) (get_or ns i d ∷ [])))
    (one_overfull ty (with_trees ty g (map f (take i ns))) (f (get_or ns i d)) (subst (λ (x : Gathered). 4000 < length (with_tree ty x (f (get_or ns i d))).listed) is m))

-- the room of a stem
pub room_is : (c : Content) (most : Degree) (i : ℕ) → IsPooled c → i < length c.trees → IsRoom (room_of c.types most (tree_at c i))
room_is c most i p h = record {
  entries = omega arith;
  degree_a = small_a c.types (tree_at c i) p.types (small_at c i p h);
  degree_b = small_b c.types (tree_at c i) p.types (small_at c i p h);
}

pub decorable-grown : (c d : Content) (most : Degree) (s : Stem) → IsGrown c d → IsDecorable c most s → IsDecorable d most s
decorable-grown c d most s g h =
    let same : tree_at d s.id.0 ≡ tree_at c s.id.0 = grown_at c d s.id.0 g h.id in
    record { id = grown_below c d s.id.0 g h.id; kept = rw (same, g.types) h.kept }

pub kept_all : (c : Content) (most : Degree) (s : Stem) (ns : List Multi) → IsDecorable c most s →
    ns ≡ roots_to c.types (room_of c.types most (tree_at c s.id.0)) c.types.dims →
    All (λ n. IsKept c.types (with_root_of (tree_at c s.id.0) n)) ns
kept_all c most s ns h e = rw e (all_of_members (λ (n : Multi). IsKept c.types (with_root_of (tree_at c s.id.0) n)) (roots_to c.types (room_of c.types most (tree_at c s.id.0)) c.types.dims) h.kept)

pub decorated-at : (c d : Content) (most : Degree) (s : Stem) → IsGrown c d →
    s.id.0 < length c.trees →
    decorated d.types most (tree_at d s.id.0) ≡ decorated c.types most (tree_at c s.id.0)
decorated-at c d most s g h = rw (grown_at c d s.id.0 g h, g.types) refl

abbrev pub all_of : Content → Degree → List Stem → List Plain
all_of c most ss = decorated_all c.types most (stem_trees c ss)

pub decorated_step : (c : Content) (most : Degree) (ss : List Stem) (i : ℕ) (d : Stem) →
    i < length ss →
    all_of c most (take (i + 1) ss) ≡ all_of c most (take i ss) ++ decorated c.types most (stem_tree c (get_or ss i d))
decorated_step c most ss i d h =
    rw (take_more ss i d h, map-append (stem_tree c) (take i ss) (get_or ss i d ∷ []), flat_map-append (decorated c.types most) (stem_trees c (take i ss)) (stem_tree c (get_or ss i d) ∷ []))
    (ap (λ (us : List Plain). all_of c most (take i ss) ++ us) (append_none (decorated c.types most (stem_tree c (get_or ss i d)))))
  where
    append_none : (us : List Plain) → us ++ [] ≡ us
    append_none [] = refl
    append_none (u ∷ us) = ap (λ (vs : List Plain). u ∷ vs) (append_none us)

pub decorated_split : (c : Content) (most : Degree) (ss : List Stem) (i : ℕ) (d : Stem) →
    i < length ss →
    all_of c most ss ≡ (all_of c most (take i ss) ++ decorated c.types most (stem_tree c (get_or ss i d))) ++ all_of c most (drop (i + 1) ss)
decorated_split c most ss i d h =
    ap (all_of c most) (split_at ss i d h) ∙ ap (flat_map (decorated c.types most)) (map-append (stem_tree c) (take i ss ++ get_or ss i d ∷ []) (drop (i + 1) ss))
    ∙ flat_map-append (decorated c.types most) (stem_trees c (take i ss ++ get_or ss i d ∷ [])) (stem_trees c (drop (i + 1) ss))
    ∙ ap (λ (us : List Plain). us ++ all_of c most (drop (i + 1) ss)) (ap (all_of c most) (sym (take_more ss i d h)) ∙ decorated_step c most ss i d h)

pub many_in : (c d : Content) (h : Gathered) (s : ℕ) (n : Multi) → IsGrown c d →
    s < length c.trees → 4000 < length (with_tree d.types h (with_root_of (tree_at d s) n)).listed →
    4000 < length (with_tree c.types h (with_root_of (tree_at c s) n)).listed
many_in c d h s n g k m =
    subst (λ (ty : Types). 4000 < length (with_tree ty h (with_root_of (tree_at c s) n)).listed) g.types
    (subst (λ (t : Plain). 4000 < length (with_tree d.types h (with_root_of t n)).listed) (grown_at c d s g k) m)

pub roots_same : (ty u : Types) (room r : Room) → ty ≡ u → room ≡ r → roots_to ty room ty.dims ≡ roots_to u r u.dims
roots_same ty u room r e f = rw (e, f) refl

-- the wholes of one stem, in the terms of the content at the start
pub taken : (c d : Content) (most : Degree) (ss : List Stem) (i : ℕ) (e : Stem) (ns : List Multi) →
    IsGrown c d → (get_or ss i e).id.0 < length c.trees →
    ns ≡ roots_to d.types (room_of d.types most (tree_at d (get_or ss i e).id.0)) d.types.dims →
    map (with_root_of (tree_at d (get_or ss i e).id.0)) ns ≡ decorated c.types most (stem_tree c (get_or ss i e))
taken c d most ss i e ns g h is = ap (map (with_root_of (tree_at d (get_or ss i e).id.0))) is ∙ decorated-at c d most (get_or ss i e) g h

pub stems_overfull : (c d : Content) (g h : Gathered) (most : Degree) (ss : List Stem) (i : ℕ) (e : Stem) (ts : List Plain) →
    i < length ss → IsGrown c d → h ≡ with_trees c.types g (all_of c most (take i ss)) →
    ts ≡ decorated c.types most (stem_tree c (get_or ss i e)) →
    IsOverfull d.types h ts → IsOverfull c.types g (all_of c most ss)
stems_overfull c d g h most ss i e ts l w is taken over =
    overfull_after c.types g (all_of c most (take i ss)) (decorated c.types most (stem_tree c (get_or ss i e))) (all_of c most (drop (i + 1) ss)) (all_of c most ss) (decorated_split c most ss i e l)
    (subst (λ (us : List Plain). IsOverfull c.types (with_trees c.types g (all_of c most (take i ss))) us) taken
    (subst (λ (x : Gathered). IsOverfull c.types x ts) is (subst (λ (ty : Types). IsOverfull ty h ts) w.types over)))

pub stems_trees : (c : Content) (most : Degree) (ss : List Stem) (i : ℕ) (e : Stem) (before after ts : List Plain) →
    i < length ss → before ≡ all_of c most (take i ss) →
    ts ≡ decorated c.types most (stem_tree c (get_or ss i e)) → after ≡ before ++ ts →
    after ≡ all_of c most (take (i + 1) ss)
stems_trees c most ss i e before after ts l is taken new = rw (new, is, taken) (sym (decorated_step c most ss i e l))

pub stems_gathered : (c d : Content) (most : Degree) (ss : List Stem) (i : ℕ) (e : Stem) (g before after : Gathered) (ts : List Plain) →
    i < length ss → IsGrown c d → before ≡ with_trees c.types g (all_of c most (take i ss)) →
    ts ≡ decorated c.types most (stem_tree c (get_or ss i e)) → after ≡ with_trees d.types before ts → after ≡ with_trees c.types g (all_of c most (take (i + 1) ss))
stems_gathered c d most ss i e g before after ts l w is taken new =
    new ∙ rw (w.types, is, taken) (sym (ap (with_trees c.types g) (decorated_step c most ss i e l) ∙ with_trees-append c.types g (all_of c most (take i ss)) (decorated c.types most (stem_tree c (get_or ss i e)))))
