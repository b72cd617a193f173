-- The lexemes of a quoted string, byte by byte.
use Rattle.std.proofs.Common.{◌≡◌, ℕ, ◌+◌, ◌<◌, ◌≤◌, Bool, List, [], ◌∷◌, ◌++◌, map, take, get_or, length, sym, ap, ◌∙◌, arith}
use Rattle.std.proofs.lemmas.List.{map-append, take_more, take_all}
use Rattle.std.specs.FinSet as set
use Rattle.std.specs.Ordering.{nat_cmp}
use Rattle.lx_ere.specs.Grammar.{Lexeme, set_of, open_group, close_group}
use Rattle.lx_flex_pattern.specs.Lexing.{string_lexemes}
use Rattle.lx_flex_pattern.specs.Sets.{byte_set}

-- the lexemes of the bytes, after the opening one
abbrev pub opened : Bool → List ℕ → List Lexeme
opened fold bytes = open_group ∷ map (λ c. set_of (byte_set fold c)) bytes

pub string_more : (fold : Bool) (bytes : List ℕ) (i d : ℕ) (done next : List Lexeme) (s : set.FinSet nat_cmp) → i < length bytes → done ≡ opened fold (take i bytes) →
    s ≡ byte_set fold (get_or bytes i d) → next ≡ done ++ set_of s ∷ [] → next ≡ opened fold (take (i + 1) bytes)
string_more fold bytes i d done next s h e f g =
    g ∙ (ap (λ xs. xs ++ set_of s ∷ []) e ∙ (ap (λ t. opened fold (take i bytes) ++ set_of t ∷ []) f
    ∙ ap (λ xs. open_group ∷ xs) (sym (ap (map (λ c. set_of (byte_set fold c))) (take_more bytes i d h) ∙ map-append (λ c. set_of (byte_set fold c)) (take i bytes) (get_or bytes i d ∷ [])))))

pub string_end : (fold : Bool) (bytes : List ℕ) (i : ℕ) (done next : List Lexeme) → length bytes ≤ i → 0 < length bytes → done ≡ opened fold (take i bytes) → next ≡ done ++ close_group ∷ [] →
    next ≡ string_lexemes fold bytes
string_end fold [] i done next h some e g = absurd (omega (arith, some))
string_end fold (b ∷ bytes) i done next h some e g = g ∙ ap (λ xs. xs ++ close_group ∷ []) (e ∙ ap (opened fold) (take_all i (b ∷ bytes) h))
