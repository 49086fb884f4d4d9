-- The lists in which one edge type is raised by one.
use Rattle.std.proofs.Common.{◌≡◌, ℕ, zero, suc, ◌+◌, ◌<◌, List, [], ◌∷◌, ◌++◌, length, map, get_or, refl, sym, ap, ◌∙◌, subst, arith, slice_set}
use Rattle.std.specs.List.{range_with_len}
use Rattle.normal_rule.specs.declared.rule.EdgeType.{EdgeType}
use Rattle.normal_rule.specs.declared.rule.NodeType.{NodeType}
use Rattle.conforming_trees.specs.Conforming.{EdgeLabel, label, labels}
use Rattle.rule_stages.specs.Stages.{join}
use Rattle.rule_steps.specs.Units.{bump_label, bumped_at, first_bumped}

-- an edge type written over one of a list
pub label-set : (d i : ℕ) (xs : List EdgeType) (e : EdgeType) → i < length xs →
    label e ≡ bump_label d (label (get_or xs i e)) →
    map label (slice_set xs i e) ≡ bumped_at d i (map label xs)
label-set d i [] e lt is = absurd (omega (arith, lt))
label-set d zero (x ∷ xs) e lt is = ap (λ (l : EdgeLabel). l ∷ map label xs) is
label-set d (suc i) (x ∷ xs) e lt is = ap (λ (l : List EdgeLabel). label x ∷ l) (label-set d i xs e (omega (arith, lt)) is)

pub bumped_list : (d i : ℕ) (edges items raised : List EdgeType) (e r : EdgeType) →
    i < length edges → items ≡ edges → e ≡ get_or items i e → label r ≡ bump_label d (label e) →
    raised ≡ slice_set items i r → map label raised ≡ bumped_at d i (map label edges)
bumped_list d i edges items raised e r lt same at up is =
    let place : i < length items = subst (λ (l : List EdgeType). i < length l) (sym same) lt in
    let there : label r ≡ bump_label d (label (get_or items i r)) = up ∙ ap (λ (x : EdgeType). bump_label d (label x)) (at ∙ found items i e r place) in
    ap (map label) is ∙ label-set d i items r place there ∙ ap (λ (l : List EdgeType). bumped_at d i (map label l)) same
  where
    found : (xs : List EdgeType) (i : ℕ) (x y : EdgeType) → i < length xs → get_or xs i x ≡ get_or xs i y
    found [] i x y h = absurd (omega (arith, h))
    found (z ∷ xs) zero x y h = refl
    found (z ∷ xs) (suc i) x y h = found xs i x y (omega (arith, h))

-- one more of them
range_more : (a n : ℕ) → range_with_len a (n + 1) ≡ range_with_len a n ++ (a + n) ∷ []
range_more a zero = ap (λ (x : ℕ). x ∷ []) (omega arith)
range_more a (suc n) =
    let s : suc n + 1 ≡ suc (n + 1) = omega arith in
    let e : a + 1 + n ≡ a + suc n = omega arith in
    ap (range_with_len a) s ∙ ap (λ (l : List ℕ). a ∷ l) (range_more (a + 1) n) ∙ ap (λ (x : ℕ). a ∷ (range_with_len (a + 1) n ++ x ∷ [])) e

map-app : {X Y : Type 0} (f : X → Y) (xs ys : List X) → map f (xs ++ ys) ≡ map f xs ++ map f ys
map-app f [] ys = refl
map-app f (x ∷ xs) ys = ap (λ l. f x ∷ l) (map-app f xs ys)

assoc : {X : Type 0} (xs ys zs : List X) → (xs ++ ys) ++ zs ≡ xs ++ (ys ++ zs)
assoc [] ys zs = refl
assoc (x ∷ xs) ys zs = ap (λ l. x ∷ l) (assoc xs ys zs)

pub bumped_step : (d i : ℕ) (es : List EdgeLabel) (old now next : List NodeType) (n : NodeType) →
    map labels now ≡ map labels old ++ first_bumped d i es → labels n ≡ join (bumped_at d i es) [] →
    next ≡ now ++ n ∷ [] →
    map labels next ≡ map labels old ++ first_bumped d (i + 1) es
bumped_step d i es old now next n before made is =
    let one : ℕ → List EdgeLabel = λ j. join (bumped_at d j es) [] in
    let more : first_bumped d (i + 1) es ≡ first_bumped d i es ++ one (0 + i) ∷ [] = ap (map one) (range_more 0 i) ∙ map-app one (range_with_len 0 i) ((0 + i) ∷ []) in
    let zero_i : 0 + i ≡ i = omega arith in
    ap (map labels) is ∙ map-app labels now (n ∷ []) ∙ ap (λ (l : List (List EdgeLabel)). l ++ labels n ∷ []) before ∙ assoc (map labels old) (first_bumped d i es) (labels n ∷ [])
    ∙ ap (λ (x : List EdgeLabel). map labels old ++ (first_bumped d i es ++ x ∷ [])) (made ∙ ap one (sym zero_i)) ∙ ap (λ (l : List (List EdgeLabel)). map labels old ++ l) (sym more)
