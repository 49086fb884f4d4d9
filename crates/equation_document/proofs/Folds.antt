-- One more step of a fold.
use Rattle.std.proofs.Common.{◌≡◌, ℕ, ◌+◌, ◌<◌, List, length, get_or, take, fold, sym, ap, ◌∙◌}
use Rattle.std.proofs.lemmas.List.Sums.{fold_more}

pub fold_step : {A B : Type 0} (f : B → A → B) (b : B) (xs : List A) (i : ℕ) (x : A) (now next : B) →
    i < length xs → x ≡ get_or xs i x → now ≡ fold f b (take i xs) → next ≡ f now x →
    next ≡ fold f b (take (i + 1) xs)
fold_step f b xs i x now next lt is so step = step ∙ ap (λ n. f n x) so ∙ ap (f (fold f b (take i xs))) is ∙ sym (fold_more f b xs i x lt)
