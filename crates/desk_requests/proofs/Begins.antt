-- Where nothing has come, nothing is decided.
use Rattle.std.proofs.Common.{◌≡◌, ℕ, ◌<◌, List, [], ◌++◌, length, codes, refl, ap, ◌∙◌, inl, arith}
use Rattle.std.proofs.lemmas.List.{length-append}
use Rattle.std.proofs.lemmas.List.Elements.{All-cons, All-nil}
use Rattle.std.proofs.lemmas.Str.{IsUtf8-from_ascii}
use Rattle.std.proofs.lemmas.Str.Ascii.{IsAscii-from_all}
use Rattle.std.specs.Prelude.{IsTrue}
use Rattle.httparse.specs.Grammar.{RequestHead, IsRequestHead, IsField, print_request, print_blank, crlf, is_token_byte, is_uri_byte}
use Rattle.httparse.proofs.GrammarLemmas.{print_request-append}
use Rattle.desk_requests.specs.Heads.{IsHeadless}
use Rattle.desk_requests.specs.Decisions.{Decides, not_yet}
use Rattle.desk_requests.specs.declared.decision.Decision.TheVariants.{Open}

some_bytes : (a b c : List ℕ) → 0 < length b → [] ≡ a ++ (b ++ c) → ⊥
some_bytes a b c h e = absurd (omega (arith, ap length e, length-append a (b ++ c), length-append b c, h))

no_head : IsHeadless []
no_head head rest begins =
    some_bytes (print_blank head.blank) head.method _ begins.reads.0.method.0 (begins.reads.1 ∙ print_request-append head rest)

one_head : RequestHead
one_head = record { blank = []; method = codes "G"; target = codes "/"; minor = 1; line_end = crlf; fields = []; last = crlf }

is_head : IsRequestHead one_head
unfolding one_head is_token_byte
is_head = record {
  method = (omega arith, All-cons (λ b. IsTrue (is_token_byte b)) 71 [] refl (All-nil _));
  target = (omega arith, All-cons (λ b. IsTrue (is_uri_byte b)) 47 [] refl (All-nil _));
  target_text = IsUtf8-from_ascii (codes "/") (IsAscii-from_all (codes "/") (All-cons (λ b. b < 128) 47 [] (omega arith) (All-nil _)));
  minor = omega arith;
  fields = All-nil IsField;
}

pub nothing_decides : Decides [] Open
nothing_decides = not_yet no_head (omega arith) (inl (print_request one_head ++ [], one_head, (is_head, refl))) refl
