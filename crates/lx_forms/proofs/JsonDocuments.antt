-- An object of members is read as that object.
use Rattle.std.proofs.Common.{◌≡◌, ℕ, zero, suc, ◌<◌, Bool, true, false, List, [], ◌∷◌, ◌++◌, Option, Some, length, refl, sym, ap, ◌∙◌, subst, arith, append_assoc, decimal}
use Rattle.std.specs.Prelude.{codes}
use Rattle.std.specs.List.{flat_map}
use Rattle.std.specs.Option.{option_and_then}
use Rattle.json.specs.Json.{Json, Members, document, if_last, member, members, object, parse_map, value}
use Rattle.json.specs.Lex.{Lexeme, after_value, begins_colon, between, colon, comma, fresh, in_string, lex, place_token, punctuate, string_token, token, tokens}
use Rattle.json.specs.Text.{content, plain}
use Rattle.json.specs.Token.{Token, begin_object, boolean, end_object, key, number, string}
use Rattle.lx_forms.specs.JsonLines.{string_escaped, string_of}
use Rattle.lx_forms.specs.JsonValues.{AreSmall, IsSmall, Member, Said, count, members_of, text, truth, value_of}
use Rattle.lx_forms.proofs.JsonNumbers.{decimal_lexed, mark, truth_lexed}
use Rattle.lx_forms.proofs.JsonStrings.{content_is, lexed_over}

-- ---- the text of an object

abbrev pub said_text : Said → List ℕ
said_text (text bytes) = string_of bytes
said_text (count n) = decimal n
said_text truth = codes "true"

abbrev pub named_text : Member → List ℕ
named_text m = string_of m.0 ++ codes ":" ++ said_text m.1

-- further members, with a comma before each
abbrev pub more_text : List Member → List ℕ
more_text ms = flat_map (λ m. codes "," ++ named_text m) ms

-- an object of these members, and the end of the line
abbrev pub object_text : Member → List Member → List ℕ
object_text m ms = codes "{" ++ named_text m ++ more_text ms ++ codes "}\n"

abbrev token_of : Said → Token
token_of (text bytes) = string bytes
token_of (count n) = number (decimal n)
token_of truth = boolean true

-- ---- lexemes

abbrev named_lexemes : Member → List Lexeme
named_lexemes m = token (string m.0) ∷ colon ∷ token (token_of m.1) ∷ []

abbrev more_lexemes : List Member → List Lexeme
more_lexemes ms = flat_map (λ m. comma ∷ named_lexemes m) ms

abbrev last_lexemes : List Lexeme
last_lexemes = token end_object ∷ []

abbrev end_text : List ℕ
end_text = codes "}\n"

-- a text that begins with the end of a value
abbrev EndsValue : List ℕ → Type 0
EndsValue rest = (b : Bool) × (r : List ℕ) × (rest ≡ mark b ∷ r)

string_lexed : (bytes rest : List ℕ) → lex between (string_of bytes ++ rest) ≡ token (string bytes) ∷ lex between rest
unfolding lex
string_lexed bytes rest =
    let inner : (flat_map string_escaped bytes ++ 34 ∷ []) ++ rest ≡ flat_map string_escaped bytes ++ 34 ∷ rest = append_assoc (flat_map string_escaped bytes) (34 ∷ []) rest in
    ap (λ (xs : List ℕ). token (string_token (content plain xs)) ∷ lex in_string xs) inner
    ∙ ap (λ o. token (string_token o) ∷ lex in_string (flat_map string_escaped bytes ++ 34 ∷ rest)) (content_is bytes rest)
    ∙ ap (λ ls. token (string bytes) ∷ ls) (lexed_over bytes rest)

said_lexed : (s : Said) (rest : List ℕ) → IsSmall s → EndsValue rest → lex between (said_text s ++ rest) ≡ token (token_of s) ∷ lex between rest
said_lexed (text bytes) rest small ends = string_lexed bytes rest
said_lexed (count n) rest small ends = subst (λ (xs : List ℕ). lex between (decimal n ++ xs) ≡ token (number (decimal n)) ∷ lex between xs) (sym ends.2) (decimal_lexed n ends.0 ends.1 small)
said_lexed truth rest small ends = subst (λ (xs : List ℕ). lex between (codes "true" ++ xs) ≡ token (boolean true) ∷ lex between xs) (sym ends.2) (truth_lexed ends.0 ends.1)

colon_lexed : (rest : List ℕ) → lex between (58 ∷ rest) ≡ colon ∷ lex between rest
unfolding lex
colon_lexed rest = refl

comma_lexed : (rest : List ℕ) → lex between (44 ∷ rest) ≡ comma ∷ lex between rest
unfolding lex
comma_lexed rest = refl

brace_lexed : (rest : List ℕ) → lex between (123 ∷ rest) ≡ token begin_object ∷ lex between rest
unfolding lex
brace_lexed rest = refl

end_lexed : lex between end_text ≡ last_lexemes
unfolding lex
end_lexed = refl

named_lexed : (m : Member) (rest : List ℕ) → IsSmall m.1 → EndsValue rest → lex between (named_text m ++ rest) ≡ named_lexemes m ++ lex between rest
named_lexed m rest small ends =
    let parts : ((string_of m.0 ++ codes ":") ++ said_text m.1) ++ rest ≡ string_of m.0 ++ (58 ∷ (said_text m.1 ++ rest)) =
    append_assoc (string_of m.0 ++ codes ":") (said_text m.1) rest ∙ append_assoc (string_of m.0) (codes ":") (said_text m.1 ++ rest) in
    ap (lex between) parts
    ∙ string_lexed m.0 (58 ∷ (said_text m.1 ++ rest))
    ∙ ap (λ ls. token (string m.0) ∷ ls) (colon_lexed (said_text m.1 ++ rest))
    ∙ ap (λ ls. token (string m.0) ∷ colon ∷ ls) (said_lexed m.1 rest small ends)

more_ends : (ms : List Member) → EndsValue (more_text ms ++ end_text)
more_ends [] = (true, 10 ∷ [], refl)
more_ends (m ∷ ms) = (false, _, refl)

more_lexed : (ms : List Member) → AreSmall ms → lex between (more_text ms ++ end_text) ≡ more_lexemes ms ++ last_lexemes
more_lexed [] small = end_lexed
more_lexed (m ∷ ms) small =
    let rest = more_text ms ++ end_text in
    let parts : ((codes "," ++ named_text m) ++ more_text ms) ++ end_text ≡ 44 ∷ (named_text m ++ rest) =
    append_assoc (codes "," ++ named_text m) (more_text ms) end_text ∙ append_assoc (codes ",") (named_text m) rest in
    ap (lex between) parts
    ∙ comma_lexed (named_text m ++ rest)
    ∙ ap (λ ls. comma ∷ ls) (named_lexed m rest small.0 (more_ends ms))
    ∙ ap (λ ls. comma ∷ named_lexemes m ++ ls) (more_lexed ms small.1)

object_lexed : (m : Member) (ms : List Member) → IsSmall m.1 → AreSmall ms → lex between (object_text m ms) ≡ token begin_object ∷ named_lexemes m ++ (more_lexemes ms ++ last_lexemes)
object_lexed m ms first small =
    let rest = more_text ms ++ end_text in
    let parts : ((codes "{" ++ named_text m) ++ more_text ms) ++ end_text ≡ 123 ∷ (named_text m ++ rest) =
    append_assoc (codes "{" ++ named_text m) (more_text ms) end_text ∙ append_assoc (codes "{") (named_text m) rest in
    ap (lex between) parts
    ∙ brace_lexed (named_text m ++ rest)
    ∙ ap (λ ls. token begin_object ∷ ls) (named_lexed m rest first (more_ends ms))
    ∙ ap (λ ls. token begin_object ∷ named_lexemes m ++ ls) (more_lexed ms small)

-- ---- tokens

abbrev named_tokens : Member → List Token
named_tokens m = key m.0 ∷ token_of m.1 ∷ []

abbrev tokens_of : List Member → List Token
tokens_of ms = flat_map named_tokens ms

abbrev last_tokens : List Token
last_tokens = end_object ∷ []

no_colon : (ms : List Member) → begins_colon (more_lexemes ms ++ last_lexemes) ≡ false
no_colon [] = refl
no_colon (m ∷ ms) = refl

said_placed : (s : Said) (ls : List Lexeme) → begins_colon ls ≡ false → punctuate fresh (token (token_of s) ∷ ls) ≡ token_of s ∷ punctuate after_value ls
unfolding punctuate
said_placed (text bytes) ls h = ap (λ b. place_token fresh (string bytes) b (λ next. punctuate next ls)) h
said_placed (count n) ls h = refl
said_placed truth ls h = refl

comma_placed : (m : Member) (ls : List Lexeme) → punctuate after_value (comma ∷ named_lexemes m ++ ls) ≡ key m.0 ∷ punctuate fresh (token (token_of m.1) ∷ ls)
unfolding punctuate
comma_placed m ls = refl

first_placed : (m : Member) (ls : List Lexeme) → punctuate fresh (token begin_object ∷ named_lexemes m ++ ls) ≡ begin_object ∷ key m.0 ∷ punctuate fresh (token (token_of m.1) ∷ ls)
unfolding punctuate
first_placed m ls = refl

last_placed : punctuate after_value last_lexemes ≡ last_tokens
unfolding punctuate
last_placed = refl

more_placed : (ms : List Member) → punctuate after_value (more_lexemes ms ++ last_lexemes) ≡ tokens_of ms ++ last_tokens
more_placed [] = last_placed
more_placed (m ∷ ms) =
    let rest = more_lexemes ms ++ last_lexemes in
    comma_placed m rest
    ∙ ap (λ ts. key m.0 ∷ ts) (said_placed m.1 rest (no_colon ms))
    ∙ ap (λ ts. key m.0 ∷ token_of m.1 ∷ ts) (more_placed ms)

object_placed : (m : Member) (ms : List Member) → punctuate fresh (token begin_object ∷ named_lexemes m ++ (more_lexemes ms ++ last_lexemes)) ≡ begin_object ∷ (tokens_of (m ∷ ms) ++ last_tokens)
object_placed m ms =
    let rest = more_lexemes ms ++ last_lexemes in
    first_placed m rest
    ∙ ap (λ ts. begin_object ∷ key m.0 ∷ ts) (said_placed m.1 rest (no_colon ms))
    ∙ ap (λ ts. begin_object ∷ key m.0 ∷ token_of m.1 ∷ ts) (more_placed ms)

-- ---- the value

said_value : (depth : ℕ) (s : Said) (ts : List Token) → value depth (token_of s ∷ ts) ≡ Some (value_of s, ts)
unfolding value
said_value zero (text bytes) ts = refl
said_value zero (count n) ts = refl
said_value zero truth ts = refl
said_value (suc depth) (text bytes) ts = refl
said_value (suc depth) (count n) ts = refl
said_value (suc depth) truth ts = refl

members_value : (depth : ℕ) (ms : List Member) (turns : ℕ) → length ms < turns → members (value depth) turns (tokens_of ms ++ last_tokens) ≡ Some (members_of ms, [])
unfolding members
members_value depth ms zero l = absurd (omega arith)
members_value depth [] (suc turns) l = refl
members_value depth (m ∷ ms) (suc turns) l =
    ap (λ (o : Option (Json × List Token)). option_and_then (λ p. parse_map (member m.0 p.0) (members (value depth) turns p.1)) o) (said_value depth m.1 (tokens_of ms ++ last_tokens))
    ∙ ap (λ (o : Option (Members × List Token)). parse_map (member m.0 (value_of m.1)) o) (members_value depth ms turns (omega arith))

enough : (ms : List Member) → length ms < length (tokens_of ms ++ last_tokens)
enough [] = omega arith
enough (m ∷ ms) = let rest = enough ms in omega arith

object_value : (depth : ℕ) (ms : List Member) → value (suc depth) (begin_object ∷ (tokens_of ms ++ last_tokens)) ≡ Some (object (members_of ms), [])
unfolding value
object_value depth ms = ap (λ (o : Option (Members × List Token)). parse_map object o) (members_value depth ms (length (tokens_of ms ++ last_tokens)) (enough ms))

pub object_read : (m : Member) (ms : List Member) → IsSmall m.1 → AreSmall ms → document (object_text m ms) ≡ Some (object (members_of (m ∷ ms)))
object_read m ms first small =
    let read : tokens (object_text m ms) ≡ begin_object ∷ (tokens_of (m ∷ ms) ++ last_tokens) = ap (punctuate fresh) (object_lexed m ms first small) ∙ object_placed m ms in
    ap (λ (ts : List Token). option_and_then (λ p. if_last p.0 p.1) (value 128 ts)) read
    ∙ ap (λ (o : Option (Json × List Token)). option_and_then (λ p. if_last p.0 p.1) o) (object_value 127 (m ∷ ms))
