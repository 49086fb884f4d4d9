-- The grammar of tree texts, one byte after the other.
-- Working notions of the code and of proofs, which no contract of a public call names:
--   opened s, closed s == the state after `[`, and after `]`
--   follow_by s b == after a factor: its subtree, the end of the tree, or the next factor
--   step_factor s b == where a factor begins: its first letter, or the end of the tree
--   step_named ty s b == after a name: a derivative, or what follows a factor
--   step_name ty s b == in a name: its next byte, or its end
--   step_digits s b == in a number: its next digit, or its end
--   step_by at ty s b == the state after the byte b, where some tree text goes on so
--   start == the state before the first byte
--   end_place at i == the place i of the end of a text that stops too early; none where its tree is
--       closed
--   or_place s i f == the place i where there is no next state, else what f gives for it
--   place_from ty i s text == the place of the first byte that no step takes, from the state s,
--       where the first byte has place i
--   place_in ty text == the place of the first byte with no step, or the length of a text that
--       stops too early; none where text is in the grammar
use Rattle.std.specs.Prelude.{ℕ, ◌+◌, ◌-◌, true, false, ◌&&◌, ◌==◌, List, [], ◌∷◌, ◌++◌, length, Option, Some, None, if◌then◌else◌, nat_lt}
use Rattle.std.specs.Char.{is_ascii_digit, is_ascii_alphabetic}
use Rattle.std.specs.Str.{bytes_eq}
use Rattle.degree_numbers.specs.Name.{is_name_byte, is_reserved}
use Rattle.degree_numbers.specs.declared.types.Types.{Types}
use Rattle.tree_grammar.specs.Grammar.{kind_named, may_end, may_open}
use Rattle.tree_grammar.specs.declared.state.State.{State}
use Rattle.tree_grammar.specs.declared.state.At.{At}
use Rattle.tree_grammar.specs.declared.state.At.TheVariants.{Start, Factor, Name, Quote, Entry, Digits, After, Done}

abbrev pub opened : State → State
opened s = record s { at = Factor; first = true; depth = s.depth + 1 }

abbrev pub closed : State → State
closed s =
    if nat_lt 1 s.depth then
    record s { at = After; ends = true; opens = false; depth = s.depth - 1 }
    else record s { at = Done; depth = 0 }

-- after a factor: its subtree, the end of the tree, or the next factor
abbrev pub follow_by : State → ℕ → Option State
follow_by s b =
    if b == 91 && s.opens then Some (opened s)
    else if b == 93 && s.ends then Some (closed s)
    else if b == 42 && s.ends then Some record s { at = Factor; first = false }
    else None

abbrev pub step_factor : State → ℕ → Option State
step_factor s b =
    if b == 93 && s.first then Some (closed s)
    else if is_ascii_alphabetic b then Some record s { at = Name; name = b ∷ [] }
    else None

abbrev pub step_named : Types → State → ℕ → Option State
step_named ty s b =
    let kind = kind_named ty s.name in
    let t = record s { ends = may_end kind; opens = may_open kind } in
    if b == 39 then Some record t { at = Quote } else follow_by t b

abbrev pub step_name : Types → State → ℕ → Option State
step_name ty s b =
    if is_name_byte b then (if nat_lt (length s.name) 16 then
    Some record s { name = s.name ++ b ∷ [] } else None)
    else if is_reserved s.name then
    (if b == 40 && s.first
    && bytes_eq s.name (88 ∷ []) then
    Some record s { at = Entry; ends = true; opens = false; left = ty.dims - 1 } else None)
    else step_named ty s b

abbrev pub step_digits : State → ℕ → Option State
step_digits s b =
    if is_ascii_digit b then Some s
    else if b == 44 && nat_lt 0 s.left then Some record s { at = Entry; left = s.left - 1 }
    else if b == 41 && s.left == 0 then Some record s { at = After }
    else None

abbrev pub step_by : At → Types → State → ℕ → Option State
step_by Start ty s b = if b == 91 then Some (opened s) else None
step_by Factor ty s b = step_factor s b
step_by Name ty s b = step_name ty s b
step_by Quote ty s b = if b == 40 then Some record s { at = Entry; left = ty.dims - 1 } else None
step_by Entry ty s b = if is_ascii_digit b then Some record s { at = Digits } else None
step_by Digits ty s b = step_digits s b
step_by After ty s b = follow_by s b
step_by Done ty s b = None

abbrev pub start : State
start = record {
  at = Start;
  first = false;
  name = [];
  ends = false;
  opens = false;
  left = 0;
  depth = 0;
}

abbrev pub end_place : At → ℕ → Option ℕ
end_place Done i = None
end_place _ i = Some i

abbrev pub or_place : Option State → ℕ → (State → Option ℕ) → Option ℕ
or_place None i f = Some i
or_place (Some s) i f = f s

-- the place of the first byte that no step takes, or the end where more is wanted; the first byte
-- here has place i
abbrev pub place_from : Types → ℕ → State → List ℕ → Option ℕ
place_from ty i s [] = end_place s.at i
place_from ty i s (b ∷ bs) = or_place (step_by s.at ty s b) i (λ t. place_from ty (i + 1) t bs)

abbrev pub place_in : Types → List ℕ → Option ℕ
place_in ty text = place_from ty 0 start text
