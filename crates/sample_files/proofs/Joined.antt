-- Texts that are joined one after the other.
use Rattle.std.proofs.Common.{◌≡◌, ℕ, suc, ◌+◌, List, ◌++◌, sym, ap, ◌∙◌, subst, append_assoc, add-one}
use Rattle.sample_files.specs.Sample.{joined_to}

-- one more
pub joined_next : (text : ℕ → List ℕ) (m : ℕ) (start now new : List ℕ) →
    now ≡ start ++ joined_to m text → new ≡ now ++ text (m + 1) →
    new ≡ start ++ joined_to (m + 1) text
joined_next text m start now new before last =
    let piece : new ≡ now ++ text (suc m) = subst (λ k. new ≡ now ++ text k) (add-one m) last in
    let whole : new ≡ start ++ joined_to (suc m) text = piece ∙ ap (λ l. l ++ text (suc m)) before ∙ append_assoc start (joined_to m text) (text (suc m)) in
    subst (λ k. new ≡ start ++ joined_to k text) (sym (add-one m)) whole
