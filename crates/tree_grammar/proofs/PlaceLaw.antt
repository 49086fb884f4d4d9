-- The place is where the text stops being the beginning of a tree text.
use Rattle.std.proofs.Common.{◌≡◌, ℕ, suc, ◌+◌, ◌<◌, ◌≤◌, List, [], ◌∷◌, ◌++◌, length, take, Option, Some, None, refl, sym, ap, ◌∙◌, arith}
use Rattle.tree_grammar.specs.Step.{step_by, place_from, place_in, or_place, end_place, start}
use Rattle.tree_grammar.specs.Places.{IsPlace, IsTreeText}
use Rattle.degree_numbers.specs.declared.types.Types.{Types}
use Rattle.tree_grammar.specs.declared.state.State.{State}
use Rattle.tree_grammar.specs.declared.state.At.{At}
use Rattle.tree_grammar.specs.declared.state.At.TheVariants.{Done}
use Rattle.tree_grammar.proofs.Accepts.{written_taken}
use Rattle.tree_grammar.proofs.Sound.{taken_written}
use Rattle.tree_grammar.proofs.Live.{IsLive, IsKept, live-kept, kept}

end_is : (a : At) (i p : ℕ) → end_place a i ≡ Some p → p ≡ i
end_is Done i p h = absurd cc
end_is _ i p h = cc

module _ (ty : Types) where
  record Cut (s : State) (text : List ℕ) (k : ℕ) : Type 0 where
    pub within : k ≤ length text
    pub before : (more : List ℕ) × ((j : ℕ) → place_from ty j s (take k text ++ more) ≡ None)
    pub here : k < length text → (more : List ℕ) (j : ℕ) → place_from ty j s (take (k + 1) text ++ more) ≡ None → ⊥

  live : (s : State) → IsKept ty s.at s → IsLive ty s
  live s h = live-kept ty s.at s.first s.name s.ends s.opens s.left s.depth h

  -- a step in the function
  stepped : (s : State) (b : ℕ) (o : Option State) → step_by s.at ty s b ≡ o →
      (j : ℕ) (bs : List ℕ) →
      place_from ty j s (b ∷ bs) ≡ or_place o j (λ u. place_from ty (j + 1) u bs)
  stepped s b o h j bs = ap (λ (x : Option State). or_place x j (λ u. place_from ty (j + 1) u bs)) h

  none_is_some : (j : ℕ) → Some j ≡ None → ⊥
  none_is_some j h = absurd cc

  cut-stop : (s : State) (b : ℕ) (bs : List ℕ) → IsKept ty s.at s → step_by s.at ty s b ≡ None → Cut s (b ∷ bs) 0
  cut-stop s b bs h stop = record {
    within = omega arith;
    before = live s h;
    here = λ lt more j w. none_is_some j (sym (stepped s b None stop j more) ∙ w);
  }

  cut-go : (s : State) (b : ℕ) (bs : List ℕ) (t : State) (k : ℕ) → step_by s.at ty s b ≡ Some t → Cut t bs k → Cut s (b ∷ bs) (suc k)
  cut-go s b bs t k go c =
      let one : suc k + 1 ≡ suc (k + 1) = omega arith in
      record {
        within = omega (arith, c.within);
        before = (c.before.0, λ j. stepped s b (Some t) go j (take k bs ++ c.before.0) ∙ c.before.1 (j + 1));
        here = λ lt more j w. c.here (omega arith) more (j + 1) (sym (stepped s b (Some t) go j (take (k + 1) bs ++ more)) ∙ (rw one at w));
      }

  cut-at : (s : State) (b : ℕ) (bs : List ℕ) (i p : ℕ) (o : Option State) → step_by s.at ty s b ≡ o → IsKept ty s.at s →
      or_place o i (λ u. place_from ty (i + 1) u bs) ≡ Some p →
      ((t : State) → IsKept ty t.at t → place_from ty (i + 1) t bs ≡ Some p → (k : ℕ) × (p ≡ (i + 1) + k) × Cut t bs k) →
      (k : ℕ) × (p ≡ i + k) × Cut s (b ∷ bs) k
  cut-at s b bs i p None stop h w ih = let same : i ≡ p = cc in (0, omega arith, cut-stop s b bs h stop)
  cut-at s b bs i p (Some t) go h w ih =
      let keeps = kept ty s.at s.first s.name s.ends s.opens s.left s.depth b h in
      let rest = ih t (rw go at keeps) w in
      (suc rest.0, omega (arith, rest.1), cut-go s b bs t rest.0 go rest.2)

  cut : (text : List ℕ) (s : State) (i p : ℕ) → IsKept ty s.at s → place_from ty i s text ≡ Some p → (k : ℕ) × (p ≡ i + k) × Cut s text k
  cut [] s i p h w = (0, omega (arith, end_is s.at i p w), record { within = omega arith; before = live s h; here = λ lt more j v. absurd (omega arith) })
  cut (b ∷ bs) s i p h w =
      cut-at s b bs i p (step_by s.at ty s b) refl h w (λ t k v. cut bs t (i + 1) p k v)

  taken : (text : List ℕ) → 0 < ty.dims → IsTreeText ty text → place_in ty text ≡ None
  taken text w t = rw t.2 (written_taken ty t.0 w t.1)

  pub place_is : (text : List ℕ) (p : ℕ) → 0 < ty.dims → place_in ty text ≡ Some p → IsPlace ty text p
  place_is text p d h =
      let found = cut text start 0 p refl h in
      let same : p ≡ found.0 = omega (arith, found.1) in
      let c = found.2 in
      record {
        none = λ t. none_is_some p (sym h ∙ taken text d t);
        within = omega (arith, c.within);
        before = rw same (c.before.0, taken_written ty (take found.0 text ++ c.before.0) d (c.before.1 0));
        here = λ lt front. let w = taken (take (p + 1) text ++ front.0) d front.1 in c.here (omega arith) front.0 0 (rw same at w);
      }
