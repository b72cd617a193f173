-- The text after an escape is no longer than the text that it was read from.
use Rattle.std.proofs.Common.{◌≡◌, ℕ, ◌≤◌, Bool, true, false, nat_eq, cond, Option, Some, None, List, [], ◌∷◌, length, drop, sym, subst, arith, length-drop}
use Rattle.std.specs.Prelude.{IfSome, take}
use Rattle.std.specs.Option.{option_map}
use Rattle.lx_ere.specs.Escapes.{is_digit, letter_byte}
use Rattle.lx_ere.specs.Lexing.{run_len, byte_of, number_at, hexadecimal_at, other_at, letter_or_other, escape_at}

-- the result leaves at most n bytes
abbrev pub LeavesAtMost : ℕ → Option (ℕ × List ℕ) → Type 0
LeavesAtMost n found = IfSome found (λ f. length f.1 ≤ n)

pub either : (n : ℕ) (b : Bool) (x y : Option (ℕ × List ℕ)) → LeavesAtMost n x → LeavesAtMost n y → LeavesAtMost n (cond b x y)
either n true x y h g = h
either n false x y h g = g

behind-byte : (n k : ℕ) (text : List ℕ) (byte : Option ℕ) → length text ≤ n → LeavesAtMost n (option_map (λ b. (b, drop k text)) byte)
behind-byte n k text None le = tt
behind-byte n k text (Some b) le = omega (arith, le, length-drop k text)

behind-number : (n base k : ℕ) (text : List ℕ) → length text ≤ n → LeavesAtMost n (number_at base k text)
behind-number n base k text le = behind-byte n k text (byte_of base (take k text)) le

behind-hexadecimal : (n k : ℕ) (text : List ℕ) → length text ≤ n → LeavesAtMost n (hexadecimal_at k text)
behind-hexadecimal n k text le = either n (nat_eq k 0) (Some (120, text)) (number_at 16 k text) le (behind-number n 16 k text le)

behind-other : (n c : ℕ) (text : List ℕ) → length (c ∷ text) ≤ n → LeavesAtMost n (other_at c text)
behind-other n c text le =
    let less : length text ≤ n = omega (arith, le) in
    either n (is_digit 8 c) _ _ (behind-number n 8 (run_len (is_digit 8) 3 (c ∷ text)) (c ∷ text) le)
    (either n (nat_eq c 120) _ _ (behind-hexadecimal n (run_len (is_digit 16) (length text) text) text less)
    (either n (nat_eq c 10) None (Some (c, text)) tt less))

behind-letter : (n c : ℕ) (text : List ℕ) (letter : Option ℕ) → length (c ∷ text) ≤ n → LeavesAtMost n (letter_or_other letter c text)
behind-letter n c text (Some byte) le = omega (arith, le)
behind-letter n c text None le = behind-other n c text le

pub behind-escape : (n : ℕ) (text : List ℕ) → length text ≤ n → LeavesAtMost n (escape_at text)
behind-escape n [] le = tt
behind-escape n (c ∷ text) le = behind-letter n c text (letter_byte c) le

behind-viewed : {F : Type 0} (view : F → ℕ × List ℕ) (n : ℕ) (found : Option F) → LeavesAtMost n (option_map view found) → IfSome found (λ f. length (view f).1 ≤ n)
behind-viewed view n None h = tt
behind-viewed view n (Some f) h = h

-- the same for the result of the code, seen by view
pub escape-leaves : {F : Type 0} (view : F → ℕ × List ℕ) (n : ℕ) (text : List ℕ) (found : Option F) → option_map view found ≡ escape_at text → length text ≤ n → IfSome found (λ f. length (view f).1 ≤ n)
escape-leaves view n text found e le = behind-viewed view n found (subst (LeavesAtMost n) (sym e) (behind-escape n text le))
