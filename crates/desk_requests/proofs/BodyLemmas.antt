-- `only_text` and `body_text` at each of their branches.
use Rattle.std.proofs.Common.{◌≡◌, ℕ, List, length, true, false, ◌==◌, arith, refl, None, option_and_then}
use Rattle.std.proofs.lemmas.Str.{is_utf8-from_IsUtf8, IsUtf8-from_is_utf8}
use Rattle.std.proofs.lemmas.Bool.Decides.{nat_tests}
use Rattle.std.specs.Prelude.{IsUtf8}
use Rattle.std.specs.Str.{is_utf8}
use Rattle.serde_json.specs.View.{members_view}
use Rattle.serde_json.specs.Find.{as_str, get_member}
use Rattle.serde_json.specs.Read.{read}
use Rattle.serde_json.proofs.Views.{Entry, members_len-members_view}
use Rattle.desk_requests.specs.Body.{only_text, text_of, body_text}

differs : (n m : ℕ) → (n ≡ m → ⊥) → (n == m) ≡ false
differs n m h = grind (arith, nat_tests)

agrees : (n m : ℕ) → n ≡ m → (n == m) ≡ true
agrees n m h = grind (arith, nat_tests)

pub only_text-other : (key : List ℕ) (es : List Entry) → (length es ≡ 1 → ⊥) → only_text key (members_view es) ≡ None
only_text-other key es h = rw (members_len-members_view es, differs (length es) 1 h)

pub only_text-one : (key : List ℕ) (es : List Entry) → length es ≡ 1 →
    only_text key (members_view es) ≡ option_and_then as_str (get_member key (members_view es))
only_text-one key es h = rw (members_len-members_view es, agrees (length es) 1 h)

not_utf8 : (bs : List ℕ) → ¬ (IsUtf8 bs) → is_utf8 bs ≡ false
not_utf8 bs h = elim (is_utf8 bs) as (λ b. is_utf8 bs ≡ b → b ≡ false) [ true ↦ λ e. absurd (h (IsUtf8-from_is_utf8 bs e)) | false ↦ λ e. refl ] refl

pub body_text-wrong : (key bs : List ℕ) → ¬ (IsUtf8 bs) → body_text key bs ≡ None
body_text-wrong key bs h = rw (not_utf8 bs h)

pub body_text-utf8 : (key bs : List ℕ) → IsUtf8 bs → body_text key bs ≡ option_and_then (text_of key) (read bs)
body_text-utf8 key bs h = rw (is_utf8-from_IsUtf8 bs h)
