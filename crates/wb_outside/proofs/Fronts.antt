-- Fronts of a list of bytes.
use Rattle.std.proofs.Common.{◌≡◌, ◌≤◌, ◌+◌, ◌++◌, ℕ, List, [], ◌∷◌, length, take, drop, true, false, Some, None, refl, sym, ap, ◌∙◌, arith}
use Rattle.std.proofs.Math.Seq.{take-append-add}
use Rattle.std.proofs.lemmas.List.{length-take-le, take-append-drop, length-append}
use Rattle.std.proofs.lemmas.Slice.Eq.{bytes_eq-Decides}
use Rattle.std.specs.Str.{bytes_eq}
use Rattle.wb_outside.specs.Quiet.{begins, told_after}

-- a longer front is a front and what follows it
pub take-add : (room : List ℕ) (at n : ℕ) → at ≤ length room → take (at + n) room ≡ take at room ++ take n (drop at room)
take-add room at n h =
    ap (take (at + n)) (sym (take-append-drop at room))
    ∙ ap (λ k. take (k + n) (take at room ++ drop at room)) (sym (length-take-le at room h))
    ∙ take-append-add (take at room) (drop at room) n

pub bytes_eq-append : (front xs ys : List ℕ) → bytes_eq (front ++ xs) (front ++ ys) ≡ bytes_eq xs ys
bytes_eq-append [] xs ys = refl
bytes_eq-append (c ∷ front) xs ys = grind (arith, bytes_eq-append front xs ys)

-- what is written begins the room where the piece begins the rest of it
pub begins-append : (room piece : List ℕ) (at : ℕ) → at ≤ length room → begins room (take at room ++ piece) ≡ begins (drop at room) piece
begins-append room piece at h =
    ap (λ n. bytes_eq (take n room) (take at room ++ piece)) (length-append (take at room) piece ∙ ap (λ n. n + length piece) (length-take-le at room h))
    ∙ ap (λ l. bytes_eq l (take at room ++ piece)) (take-add room at (length piece) h)
    ∙ bytes_eq-append (take at room) (take (length piece) (drop at room)) piece

-- a piece that fits: the sink goes on telling
pub told_after-same : (room piece : List ℕ) (at : ℕ) → at ≤ length room →
    begins room (take at room ++ piece) ≡ true →
    Some (take (at + length piece) room) ≡ told_after room (Some (take at room)) piece
told_after-same room piece at h same =
    let fits : take (length piece) (drop at room) ≡ piece = (bytes_eq-Decides (take (length piece) (drop at room)) piece).0 (sym (begins-append room piece at h) ∙ same) in
    rw same (ap Some (take-add room at (length piece) h ∙ ap (λ l. take at room ++ l) fits))

-- a piece that doesn't: it falls silent
pub told_after-other : (room piece : List ℕ) (at : ℕ) → begins room (take at room ++ piece) ≡ false → None ≡ told_after room (Some (take at room)) piece
told_after-other room piece at other = rw other refl
