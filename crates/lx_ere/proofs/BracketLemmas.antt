-- `bracket_at` finds exactly the spellings at the start of the text.
use Rattle.std.proofs.Common.{◌≡◌, ◌≢◌, ℕ, ◌<◌, ◌⊎◌, inl, inr, Bool, true, false, ◌&&◌, ◌||◌, not, nat_eq, nat_le, cond, List, [], ◌∷◌, ◌++◌, length, take, drop, Option, Some, None, refl, sym, ap, subst, ◌∙◌, arith, append_assoc, length-append, codes}
use Rattle.std.specs.Str.{bytes_eq}
use Rattle.std.specs.List.{list_all}
use Rattle.std.specs.Option.{option_map, option_and_then}
use Rattle.std.specs.Ordering.{nat_cmp}
use Rattle.std.specs.FinSet as set
use Rattle.std.proofs.lemmas.Bool.{eqb-true, eqb-false, leb-true, le-leb, false≢true, and_parts}
use Rattle.std.proofs.lemmas.Slice.Eq.{bytes_eq-Decides}
use Rattle.lx_ere.specs.Bytes.{bytes_where}
use Rattle.lx_ere.specs.Sequences.{Opened}
use Rattle.lx_ere.specs.Brackets.{BracketPosition, opening, behind_caret, inside, is_inside, is_opening, begins_with, opens_inner, stands_alone, range_follows, Point, plain_point, escaped, first_bracket, outer_dash, collating, RangeEnd, end_point, end_dash, class_ranges, Member, point, range, equivalence, class, in_members, Bracket, matching, excluding}
use Rattle.lx_ere.specs.Spelling.{is_name_byte}
use Rattle.lx_ere.specs.Lexing.{run_len, behind_byte, escape_at, marked_byte_at, bare_point_at, point_at, range_end_at, range_from, member_from, class_of, class_at, begins_pair, member_at, members_at, bracket_at}
use Rattle.lx_ere.specs.ChoiceLaws.{pick_first, pick_second, cases_of, no_none, same_some, map_is, then_is, eq_other, begins_is, behind_byte_is, behind_byte_at, IsSpelledPrefix}
use Rattle.lx_ere.proofs.RunLemmas.{run_whole, take_prefix, drop_prefix, rejoin}
use Rattle.lx_ere.proofs.EscapeLemmas.{escape_complete, escape_sound}
use Rattle.lx_ere.proofs.SequenceLemmas.{opened_complete, opened_sound}

abbrev Point1 : Type 0
Point1 = ℕ × List ℕ

not_or : (a b : Bool) → not (a || b) ≡ true → (a ≡ false) × (not b ≡ true)
not_or true b h = absurd (false≢true h)
not_or false b h = (refl, h)

not_is_false : (a : Bool) → not a ≡ true → a ≡ false
not_is_false true h = absurd (false≢true h)
not_is_false false h = refl

-- the values that a byte which represents itself doesn't have
pub record Alone (position : BracketPosition) (c : ℕ) (behind : List ℕ) : Type 0 where
  pub no_close : nat_eq c 93 ≡ false
  pub no_slash : nat_eq c 92 ≡ false
  pub no_dash : nat_eq c 45 ≡ false
  pub no_period : (nat_eq c 91 && begins_with 46 behind) ≡ false
  pub no_colon : (nat_eq c 91 && begins_with 58 behind) ≡ false
  pub no_equals : (nat_eq c 91 && begins_with 61 behind) ≡ false
  pub no_inner : opens_inner c behind ≡ false

pub alone_is : (position : BracketPosition) (c : ℕ) (behind : List ℕ) → stands_alone position c behind ≡ true → Alone position c behind
alone_is position c behind h =
    let a = not_or (nat_eq c 93) (nat_eq c 92 || (nat_eq c 45 || (nat_eq c 10 || ((is_opening position && nat_eq c 94) || opens_inner c behind)))) h in
    let b = not_or (nat_eq c 92) (nat_eq c 45 || (nat_eq c 10 || ((is_opening position && nat_eq c 94) || opens_inner c behind))) a.1 in
    let d = not_or (nat_eq c 45) (nat_eq c 10 || ((is_opening position && nat_eq c 94) || opens_inner c behind)) b.1 in
    let f = not_or (nat_eq c 10) ((is_opening position && nat_eq c 94) || opens_inner c behind) d.1 in
    let g = not_or (is_opening position && nat_eq c 94) (opens_inner c behind) f.1 in
    let inner : opens_inner c behind ≡ false = not_is_false (opens_inner c behind) g.1 in
    let parts = three (nat_eq c 91) (begins_with 58 behind) (begins_with 46 behind) (begins_with 61 behind) inner in
    record { no_close = a.0; no_slash = b.0; no_dash = d.0; no_period = parts.1; no_colon = parts.0; no_equals = parts.2; no_inner = inner }
  where
    three : (n x y z : Bool) → (n && (x || (y || z))) ≡ false → ((n && x) ≡ false) × ((n && y) ≡ false) × ((n && z) ≡ false)
    three false x y z h = (refl, refl, refl)
    three true false false false h = (refl, refl, refl)
    three true false false true h = absurd (false≢true (sym h))
    three true false true z h = absurd (false≢true (sym h))
    three true true y z h = absurd (false≢true (sym h))

marked_complete : (mark c : ℕ) (behind : List ℕ) → c ≢ 10 → marked_byte_at mark (c ∷ mark ∷ 93 ∷ behind) ≡ Some (c, behind)
marked_complete mark c behind h =
    pick_second (nat_eq c 10) _ _ (eq_other c 10 h) ∙ ap (λ o. option_map {U = Point1} (λ rest. (c, rest)) (option_and_then (behind_byte 93) o)) (behind_byte_at mark (93 ∷ behind))

marked_sound : (mark : ℕ) (text : List ℕ) (c : ℕ) (behind : List ℕ) → marked_byte_at mark text ≡ Some (c, behind) → (c ≢ 10) × (text ≡ c ∷ mark ∷ 93 ∷ behind)
marked_sound mark [] c behind e = absurd (no_none (c, behind) e)
marked_sound mark (d ∷ text) c behind e = go (cases_of (nat_eq d 10) None (option_map {U = Point1} (λ rest. (d, rest)) (option_and_then (behind_byte 93) (behind_byte mark text))) (Some (c, behind)) e)
  where
    go : ((nat_eq d 10 ≡ true) × ◌≡◌ {A = Option Point1} None (Some (c, behind))) ⊎ ((nat_eq d 10 ≡ false) × (option_map {U = Point1} (λ rest. (d, rest)) (option_and_then (behind_byte 93) (behind_byte mark text)) ≡ Some (c, behind))) → (c ≢ 10) × (d ∷ text ≡ c ∷ mark ∷ 93 ∷ behind)
    go (inl (b, f)) = absurd (no_none (c, behind) f)
    go (inr (b, f)) =
        let (rest, found, pair) = map_is {B = Point1} (λ rest. (d, rest)) (option_and_then (behind_byte 93) (behind_byte mark text)) (c, behind) f in
        let (after, at_mark, at_close) = then_is (behind_byte 93) (behind_byte mark text) rest found in
        let byte : d ≡ c = ap (λ p. p.0) pair in
        let last : rest ≡ behind = ap (λ p. p.1) pair in
        let joins : text ≡ mark ∷ 93 ∷ rest = behind_byte_is mark text after at_mark ∙ ap (λ t. mark ∷ t) (behind_byte_is 93 after rest at_close) in
        (λ ten. eqb-false d 10 b (byte ∙ ten), ap (λ x. x ∷ text) byte ∙ ap (λ t. c ∷ t) (joins ∙ ap (λ t. mark ∷ 93 ∷ t) last))

pub point_complete : (position : BracketPosition) (text : List ℕ) (c : ℕ) (behind : List ℕ) → Point position text c behind → point_at position (text ++ behind) ≡ Some (c, behind)
point_complete _ _ _ _ (plain_point position c behind h) =
    let a = alone_is position c behind h in
    pick_second (nat_eq c 92) _ _ a.no_slash ∙ (pick_second (nat_eq c 93) _ _ a.no_close ∙ (pick_second (nat_eq c 45) _ _ a.no_dash ∙ (pick_second (nat_eq c 91 && begins_with 46 behind) _ _ a.no_period ∙ pick_first (stands_alone position c behind) _ _ h)))
point_complete _ _ _ _ (escaped position text c behind d) = let at = escape_complete text c behind d in ap (λ t. point_at position (t ++ behind)) at.slash ∙ at.found
point_complete _ _ _ _ (first_bracket position behind h) = pick_second (is_inside position) _ _ h
point_complete _ _ _ _ (outer_dash position behind h) = pick_first (not (is_inside position) || begins_with 93 behind) _ _ h
point_complete _ _ _ _ (collating position c behind h) = marked_complete 46 c behind h

pub point_sound : (position : BracketPosition) (text : List ℕ) (c : ℕ) (behind : List ℕ) → point_at position text ≡ Some (c, behind) → IsSpelledPrefix (Point position) text c behind
point_sound position [] c behind e = absurd (no_none (c, behind) e)
point_sound position (d ∷ text) c behind e = by_slash (cases_of (nat_eq d 92) (escape_at text) (bare_point_at position d text) (Some (c, behind)) e)
  where
    Found : Type 0
    Found = IsSpelledPrefix (Point position) (d ∷ text) c behind

    by_alone : (stands_alone position d text ≡ true) × ◌≡◌ {A = Option Point1} (Some (d, text)) (Some (c, behind)) ⊎ ((stands_alone position d text ≡ false) × ◌≡◌ {A = Option Point1} None (Some (c, behind))) → IsSpelledPrefix (Point position) (d ∷ text) c behind
    by_alone (inl (b, f)) =
        let pair : ◌≡◌ {A = Point1} (d, text) (c, behind) = same_some (d, text) (c, behind) f in
        let byte : d ≡ c = ap (λ p. p.0) pair in
        let last : text ≡ behind = ap (λ p. p.1) pair in
        record { prefix = d ∷ []; spelled = subst (λ x. Point position (d ∷ []) x behind) byte (subst (λ v. Point position (d ∷ []) d v) last (plain_point position d text b)); joins = ap (λ t. d ∷ t) last }
    by_alone (inr (b, f)) = absurd (no_none (c, behind) f)

    by_period : ((nat_eq d 91 && begins_with 46 text) ≡ true) × (marked_byte_at 46 (drop 1 text) ≡ Some (c, behind)) ⊎ (((nat_eq d 91 && begins_with 46 text) ≡ false) × (cond {A = Option Point1} (stands_alone position d text) (Some (d, text)) None ≡ Some (c, behind))) → IsSpelledPrefix (Point position) (d ∷ text) c behind
    by_period (inl (b, f)) =
        let both = and_parts (nat_eq d 91) (begins_with 46 text) b in
        let m = marked_sound 46 (drop 1 text) c behind f in
        let is : d ≡ 91 = eqb-true d 91 both.0 in
        record {
          prefix = 91 ∷ 46 ∷ c ∷ 46 ∷ 93 ∷ [];
          spelled = collating position c behind m.0;
          joins = ap (λ x. x ∷ text) is ∙ ap (λ t. 91 ∷ t) (begins_is 46 text both.1 ∙ ap (λ t. 46 ∷ t) m.1);
        }
    by_period (inr (b, f)) = by_alone (cases_of (stands_alone position d text) (Some (d, text)) None (Some (c, behind)) f)

    after_dash : ((not (is_inside position) || begins_with 93 text) ≡ true) × ◌≡◌ {A = Option Point1} (Some (45, text)) (Some (c, behind)) ⊎ (((not (is_inside position) || begins_with 93 text) ≡ false) × ◌≡◌ {A = Option Point1} None (Some (c, behind))) → d ≡ 45 → IsSpelledPrefix (Point position) (d ∷ text) c behind
    after_dash (inl (b, f)) is =
        let pair : ◌≡◌ {A = Point1} (45, text) (c, behind) = same_some (45, text) (c, behind) f in
        let byte : 45 ≡ c = ap (λ p. p.0) pair in
        let last : text ≡ behind = ap (λ p. p.1) pair in
        record { prefix = 45 ∷ []; spelled = subst (λ x. Point position (45 ∷ []) x behind) byte (subst (λ v. Point position (45 ∷ []) 45 v) last (outer_dash position text b)); joins = ap (λ x. x ∷ text) is ∙ ap (λ t. 45 ∷ t) last }
    after_dash (inr (b, f)) is = absurd (no_none (c, behind) f)

    by_dash : (nat_eq d 45 ≡ true) × (cond {A = Option Point1} (not (is_inside position) || begins_with 93 text) (Some (45, text)) None ≡ Some (c, behind)) ⊎ ((nat_eq d 45 ≡ false) × (cond {A = Option Point1} (nat_eq d 91 && begins_with 46 text) (marked_byte_at 46 (drop 1 text)) (cond {A = Option Point1} (stands_alone position d text) (Some (d, text)) None) ≡ Some (c, behind))) → IsSpelledPrefix (Point position) (d ∷ text) c behind
    by_dash (inl (b, f)) = after_dash (cases_of (not (is_inside position) || begins_with 93 text) (Some (45, text)) None (Some (c, behind)) f) (eqb-true d 45 b)
    by_dash (inr (b, f)) = by_period (cases_of (nat_eq d 91 && begins_with 46 text) (marked_byte_at 46 (drop 1 text)) (cond {A = Option Point1} (stands_alone position d text) (Some (d, text)) None) (Some (c, behind)) f)

    after_close : (is_inside position ≡ true) × ◌≡◌ {A = Option Point1} None (Some (c, behind)) ⊎ ((is_inside position ≡ false) × ◌≡◌ {A = Option Point1} (Some (93, text)) (Some (c, behind))) → d ≡ 93 → IsSpelledPrefix (Point position) (d ∷ text) c behind
    after_close (inl (b, f)) is = absurd (no_none (c, behind) f)
    after_close (inr (b, f)) is =
        let pair : ◌≡◌ {A = Point1} (93, text) (c, behind) = same_some (93, text) (c, behind) f in
        let byte : 93 ≡ c = ap (λ p. p.0) pair in
        let last : text ≡ behind = ap (λ p. p.1) pair in
        record { prefix = 93 ∷ []; spelled = subst (λ x. Point position (93 ∷ []) x behind) byte (subst (λ v. Point position (93 ∷ []) 93 v) last (first_bracket position text b)); joins = ap (λ x. x ∷ text) is ∙ ap (λ t. 93 ∷ t) last }

    by_close : (nat_eq d 93 ≡ true) × (cond {A = Option Point1} (is_inside position) None (Some (93, text)) ≡ Some (c, behind)) ⊎ ((nat_eq d 93 ≡ false) × (cond {A = Option Point1} (nat_eq d 45) (cond {A = Option Point1} (not (is_inside position) || begins_with 93 text) (Some (45, text)) None) (cond {A = Option Point1} (nat_eq d 91 && begins_with 46 text) (marked_byte_at 46 (drop 1 text)) (cond {A = Option Point1} (stands_alone position d text) (Some (d, text)) None)) ≡ Some (c, behind))) → IsSpelledPrefix (Point position) (d ∷ text) c behind
    by_close (inl (b, f)) = after_close (cases_of (is_inside position) None (Some (93, text)) (Some (c, behind)) f) (eqb-true d 93 b)
    by_close (inr (b, f)) = by_dash (cases_of (nat_eq d 45) (cond {A = Option Point1} (not (is_inside position) || begins_with 93 text) (Some (45, text)) None) (cond {A = Option Point1} (nat_eq d 91 && begins_with 46 text) (marked_byte_at 46 (drop 1 text)) (cond {A = Option Point1} (stands_alone position d text) (Some (d, text)) None)) (Some (c, behind)) f)

    by_slash : (nat_eq d 92 ≡ true) × (escape_at text ≡ Some (c, behind)) ⊎ ((nat_eq d 92 ≡ false) × (bare_point_at position d text ≡ Some (c, behind))) → IsSpelledPrefix (Point position) (d ∷ text) c behind
    by_slash (inl (b, f)) =
        let i = escape_sound text c behind f in
        record { prefix = 92 ∷ i.rest; spelled = escaped position (92 ∷ i.rest) c behind i.spelled; joins = ap (λ x. x ∷ text) (eqb-true d 92 b) ∙ ap (λ t. 92 ∷ t) i.joins }
    by_slash (inr (b, f)) = by_close (cases_of (nat_eq d 93) (cond {A = Option Point1} (is_inside position) None (Some (93, text))) (cond {A = Option Point1} (nat_eq d 45) (cond {A = Option Point1} (not (is_inside position) || begins_with 93 text) (Some (45, text)) None) (cond {A = Option Point1} (nat_eq d 91 && begins_with 46 text) (marked_byte_at 46 (drop 1 text)) (cond {A = Option Point1} (stands_alone position d text) (Some (d, text)) None))) (Some (c, behind)) f)

point_some : (position : BracketPosition) (text : List ℕ) (c : ℕ) (behind : List ℕ) → Point position text c behind → 0 < length text
point_some _ _ _ _ (plain_point position c behind h) = omega arith
point_some _ _ _ _ (escaped position text c behind d) = let at = escape_complete text c behind d in omega (arith, ap length at.slash)
point_some _ _ _ _ (first_bracket position behind h) = omega arith
point_some _ _ _ _ (outer_dash position behind h) = omega arith
point_some _ _ _ _ (collating position c behind h) = omega arith

-- a point begins neither a class nor `[=`
point_no_pair : (position : BracketPosition) (text : List ℕ) (c : ℕ) (behind : List ℕ) → Point position text c behind → (begins_pair 91 58 (text ++ behind) ≡ false) × (begins_pair 91 61 (text ++ behind) ≡ false)
point_no_pair _ _ _ _ (plain_point position c behind h) = let a = alone_is position c behind h in (a.no_colon, a.no_equals)
point_no_pair _ _ _ _ (escaped position text c behind d) =
    let at = escape_complete text c behind d in
    (ap (λ t. begins_pair 91 58 (t ++ behind)) at.slash, ap (λ t. begins_pair 91 61 (t ++ behind)) at.slash)
point_no_pair _ _ _ _ (first_bracket position behind h) = (refl, refl)
point_no_pair _ _ _ _ (outer_dash position behind h) = (refl, refl)
point_no_pair _ _ _ _ (collating position c behind h) = (refl, refl)

range_end_complete : (text : List ℕ) (c : ℕ) (behind : List ℕ) → RangeEnd text c behind → range_end_at (text ++ behind) ≡ Some (c, behind)
range_end_complete _ _ _ (end_dash behind) = refl
range_end_complete _ _ _ (end_point text c behind p) = go (begins_with 45 (text ++ behind)) refl
  where
    at_dash : (x : List ℕ) → point_at inside (45 ∷ x) ≡ Some (c, behind) → ◌≡◌ {A = Option Point1} (Some (45, x)) (Some (c, behind))
    at_dash x e = pick (cases_of (begins_with 93 x) (Some (45, x)) None (Some (c, behind)) e)
      where
        pick : (begins_with 93 x ≡ true) × ◌≡◌ {A = Option Point1} (Some (45, x)) (Some (c, behind)) ⊎ ((begins_with 93 x ≡ false) × ◌≡◌ {A = Option Point1} None (Some (c, behind))) → ◌≡◌ {A = Option Point1} (Some (45, x)) (Some (c, behind))
        pick (inl (b, f)) = f
        pick (inr (b, f)) = absurd (no_none (c, behind) f)

    go : (b : Bool) → begins_with 45 (text ++ behind) ≡ b → range_end_at (text ++ behind) ≡ Some (c, behind)
    go false eb = pick_second (begins_with 45 (text ++ behind)) _ _ eb ∙ point_complete inside text c behind p
    go true eb = pick_first (begins_with 45 (text ++ behind)) _ _ eb ∙ at_dash (drop 1 (text ++ behind)) (ap (point_at inside) (sym (begins_is 45 (text ++ behind) eb)) ∙ point_complete inside text c behind p)

range_end_sound : (text : List ℕ) (c : ℕ) (behind : List ℕ) → range_end_at text ≡ Some (c, behind) → IsSpelledPrefix RangeEnd text c behind
range_end_sound text c behind e = go (cases_of (begins_with 45 text) (Some (45, drop 1 text)) (point_at inside text) (Some (c, behind)) e)
  where
    go : (begins_with 45 text ≡ true) × ◌≡◌ {A = Option Point1} (Some (45, drop 1 text)) (Some (c, behind)) ⊎ ((begins_with 45 text ≡ false) × (point_at inside text ≡ Some (c, behind))) → IsSpelledPrefix RangeEnd text c behind
    go (inl (b, f)) =
        let pair : ◌≡◌ {A = Point1} (45, drop 1 text) (c, behind) = same_some (45, drop 1 text) (c, behind) f in
        let byte : 45 ≡ c = ap (λ p. p.0) pair in
        let last : drop 1 text ≡ behind = ap (λ p. p.1) pair in
        record { prefix = 45 ∷ []; spelled = subst (λ x. RangeEnd (45 ∷ []) x behind) byte (end_dash behind); joins = begins_is 45 text b ∙ ap (λ t. 45 ∷ t) last }
    go (inr (b, f)) = let i = point_sound inside text c behind f in record { prefix = i.prefix; spelled = end_point (i.prefix) c behind i.spelled; joins = i.joins }

-- the names of classes are runs of name bytes
pub class_name : (name : List ℕ) (ranges : List (ℕ × ℕ)) → class_ranges name ≡ Some ranges → list_all is_name_byte name ≡ true
class_name name ranges e =
    by (codes "upper") refl _ _ (by (codes "lower") refl _ _ (by (codes "alpha") refl _ _ (by (codes "digit") refl _ _ (by (codes "alnum") refl _ _ (by (codes "xdigit") refl _ _
    (by (codes "space") refl _ _ (by (codes "blank") refl _ _ (by (codes "punct") refl _ _ (by (codes "print") refl _ _ (by (codes "graph") refl _ _ (by (codes "cntrl") refl _ _ (λ none. absurd (no_none ranges none))))))))))))) e
  where
    by : (word : List ℕ) → list_all is_name_byte word ≡ true → (x rest : Option (List (ℕ × ℕ))) → (rest ≡ Some ranges → list_all is_name_byte name ≡ true) → cond (bytes_eq name word) x rest ≡ Some ranges → list_all is_name_byte name ≡ true
    by word all x rest more e = go (cases_of (bytes_eq name word) x rest (Some ranges) e)
      where
        go : (bytes_eq name word ≡ true) × (x ≡ Some ranges) ⊎ ((bytes_eq name word ≡ false) × (rest ≡ Some ranges)) → list_all is_name_byte name ≡ true
        go (inl (b, f)) = let decides = bytes_eq-Decides name word in subst (λ n. list_all is_name_byte n ≡ true) (sym (decides.0 b)) all
        go (inr (b, f)) = more f

abbrev Ranges1 : Type 0
Ranges1 = List (ℕ × ℕ) × List ℕ

class_complete : (name : List ℕ) (ranges : List (ℕ × ℕ)) (behind : List ℕ) → class_ranges name ≡ Some ranges → class_at (name ++ (58 ∷ 93 ∷ behind)) ≡ Some (ranges, behind)
class_complete name ranges behind e =
    let run = run_whole is_name_byte name (58 ∷ 93 ∷ behind) (class_name name ranges e) refl in
    let prefix : take (length name) (name ++ (58 ∷ 93 ∷ behind)) ≡ name = take_prefix name (58 ∷ 93 ∷ behind) in
    let rest : drop (length name) (name ++ (58 ∷ 93 ∷ behind)) ≡ 58 ∷ 93 ∷ behind = drop_prefix name (58 ∷ 93 ∷ behind) in
    ap (λ n. class_of n (name ++ (58 ∷ 93 ∷ behind))) run ∙ found (take (length name) (name ++ (58 ∷ 93 ∷ behind))) (drop (length name) (name ++ (58 ∷ 93 ∷ behind))) prefix rest
  where
    found : (n t : List ℕ) → n ≡ name → t ≡ 58 ∷ 93 ∷ behind → option_and_then (λ rs. option_map {U = Ranges1} (λ r. (rs, r)) (option_and_then (behind_byte 93) (behind_byte 58 t))) (class_ranges n) ≡ Some (ranges, behind)
    found n t en et = rw et (rw en (rw e refl))

class_sound : (n : ℕ) (text : List ℕ) (ranges : List (ℕ × ℕ)) (behind : List ℕ) → class_of n text ≡ Some (ranges, behind) → (class_ranges (take n text) ≡ Some ranges) × (text ≡ take n text ++ (58 ∷ 93 ∷ behind))
class_sound n text ranges behind e =
    let (rs, known, more) = then_is (λ rs. option_map {U = Ranges1} (λ r. (rs, r)) (option_and_then (behind_byte 93) (behind_byte 58 (drop n text)))) (class_ranges (take n text)) (ranges, behind) e in
    let (rest, found, pair) = map_is {B = Ranges1} (λ r. (rs, r)) (option_and_then (behind_byte 93) (behind_byte 58 (drop n text))) (ranges, behind) more in
    let (after, at_colon, at_close) = then_is (behind_byte 93) (behind_byte 58 (drop n text)) rest found in
    let same : rs ≡ ranges = ap (λ p. p.0) pair in
    let last : rest ≡ behind = ap (λ p. p.1) pair in
    (known ∙ ap (λ x. Some x) same, rejoin n text ∙ ap (λ t. take n text ++ t) (behind_byte_is 58 (drop n text) after at_colon ∙ ap (λ t. 58 ∷ t) (behind_byte_is 93 after rest at_close ∙ ap (λ t. 93 ∷ t) last)))

pub member_complete : (position : BracketPosition) (text : List ℕ) (ranges : List (ℕ × ℕ)) (behind : List ℕ) → Member position text ranges behind → member_at position (text ++ behind) ≡ Some (ranges, behind)
member_complete _ _ _ _ (point position text c behind p no_range) =
    let no = point_no_pair position text c behind p in
    pick_second (begins_pair 91 58 (text ++ behind)) _ _ no.0 ∙ (pick_second (begins_pair 91 61 (text ++ behind)) _ _ no.1 ∙ (ap (option_and_then member_from) (point_complete position text c behind p) ∙ pick_second (range_follows behind) _ _ no_range))
member_complete _ _ _ _ (range position text low text' high behind p follows end le) =
    let e : (text ++ (45 ∷ text')) ++ behind ≡ text ++ (45 ∷ (text' ++ behind)) = append_assoc text (45 ∷ text') behind in
    let no = point_no_pair position text low (45 ∷ (text' ++ behind)) p in
    let at_end : option_and_then (range_from low) (range_end_at (text' ++ behind)) ≡ Some ((low, high) ∷ [], behind) = ap (option_and_then (range_from low)) (range_end_complete text' high behind end) ∙ pick_first (nat_le low high) _ _ (le-leb low high le) in
    ap (member_at position) e ∙ (pick_second (begins_pair 91 58 (text ++ (45 ∷ (text' ++ behind)))) _ _ no.0 ∙ (pick_second (begins_pair 91 61 (text ++ (45 ∷ (text' ++ behind)))) _ _ no.1 ∙
    (ap (option_and_then member_from) (point_complete position text low (45 ∷ (text' ++ behind)) p) ∙ (pick_first (range_follows (45 ∷ (text' ++ behind))) _ _ follows ∙ at_end))))
member_complete _ _ _ _ (equivalence position c behind h) = ap (option_map {U = Ranges1} (λ f. ((f.0, f.0) ∷ [], f.1))) (marked_complete 61 c behind h)
member_complete _ _ _ _ (class position name ranges behind known) =
    let e : (name ++ (58 ∷ 93 ∷ [])) ++ behind ≡ name ++ (58 ∷ 93 ∷ behind) = append_assoc name (58 ∷ 93 ∷ []) behind in
    ap class_at e ∙ class_complete name ranges behind known

pair_is : (c d : ℕ) (text : List ℕ) → begins_pair c d text ≡ true → text ≡ c ∷ d ∷ drop 2 text
pair_is c d [] e = absurd (false≢true e)
pair_is c d (x ∷ text) e =
    let both = and_parts (nat_eq x c) (begins_with d text) e in
    ap (λ y. y ∷ text) (eqb-true x c both.0) ∙ ap (λ t. c ∷ t) (second text both.1)
  where
    second : (text : List ℕ) → begins_with d text ≡ true → text ≡ d ∷ drop 1 text
    second text e = begins_is d text e

range_follows_is : (text : List ℕ) → range_follows text ≡ true → text ≡ 45 ∷ drop 1 text
range_follows_is [] e = absurd (false≢true e)
range_follows_is (c ∷ text) e = let both = and_parts (nat_eq c 45) (not (begins_with 93 text)) e in ap (λ x. x ∷ text) (eqb-true c 45 both.0)

member_from_sound : (position : BracketPosition) (text : List ℕ) (low : ℕ) (rest : List ℕ) (ranges : List (ℕ × ℕ)) (behind : List ℕ) → IsSpelledPrefix (Point position) text low rest → member_from (low, rest) ≡ Some (ranges, behind) → IsSpelledPrefix (Member position) text ranges behind
member_from_sound position text low rest ranges behind i e = go (cases_of (range_follows rest) (option_and_then (range_from low) (range_end_at (drop 1 rest))) (Some ((low, low) ∷ [], rest)) (Some (ranges, behind)) e)
  where
    ranged : (high : ℕ) (after : List ℕ) → range_follows rest ≡ true → range_end_at (drop 1 rest) ≡ Some (high, after) →
        (nat_le low high ≡ true) × ◌≡◌ {A = Option Ranges1} (Some ((low, high) ∷ [], after)) (Some (ranges, behind)) ⊎ ((nat_le low high ≡ false) × ◌≡◌ {A = Option Ranges1} None (Some (ranges, behind))) → IsSpelledPrefix (Member position) text ranges behind
    ranged high after follows at (inl (b, f)) =
        let pair : ◌≡◌ {A = Ranges1} ((low, high) ∷ [], after) (ranges, behind) = same_some ((low, high) ∷ [], after) (ranges, behind) f in
        let same : (low, high) ∷ [] ≡ ranges = ap (λ p. p.0) pair in
        let last : after ≡ behind = ap (λ p. p.1) pair in
        let k = range_end_sound (drop 1 rest) high after at in
        let whole : rest ≡ 45 ∷ (k.prefix ++ after) = range_follows_is rest follows ∙ ap (λ t. 45 ∷ t) k.joins in
        let p : Point position (i.prefix) low (45 ∷ (k.prefix ++ after)) = subst (Point position (i.prefix) low) whole i.spelled in
        let m : Member position (i.prefix ++ (45 ∷ k.prefix)) ((low, high) ∷ []) after = range position (i.prefix) low (k.prefix) high after p (subst (λ t. range_follows t ≡ true) whole follows) k.spelled (leb-true low high b) in
        record {
          prefix = i.prefix ++ (45 ∷ k.prefix);
          spelled = subst (λ v. Member position (i.prefix ++ (45 ∷ k.prefix)) ranges v) last (subst (λ r. Member position (i.prefix ++ (45 ∷ k.prefix)) r after) same m);
          joins = i.joins ∙ (ap (λ t. i.prefix ++ t) (whole ∙ ap (λ v. 45 ∷ (k.prefix ++ v)) last) ∙ sym (append_assoc (i.prefix) (45 ∷ k.prefix) behind));
        }
    ranged high after follows at (inr (b, f)) = absurd (no_none (ranges, behind) f)

    go : (range_follows rest ≡ true) × (option_and_then (range_from low) (range_end_at (drop 1 rest)) ≡ Some (ranges, behind)) ⊎ ((range_follows rest ≡ false) × ◌≡◌ {A = Option Ranges1} (Some ((low, low) ∷ [], rest)) (Some (ranges, behind))) → IsSpelledPrefix (Member position) text ranges behind
    go (inl (b, f)) =
        let (end, at, more) = then_is (range_from low) (range_end_at (drop 1 rest)) (ranges, behind) f in
        ranged (end.0) (end.1) b at (cases_of (nat_le low (end.0)) (Some ((low, end.0) ∷ [], end.1)) None (Some (ranges, behind)) more)
    go (inr (b, f)) =
        let pair : ◌≡◌ {A = Ranges1} ((low, low) ∷ [], rest) (ranges, behind) = same_some ((low, low) ∷ [], rest) (ranges, behind) f in
        let same : (low, low) ∷ [] ≡ ranges = ap (λ p. p.0) pair in
        let last : rest ≡ behind = ap (λ p. p.1) pair in
        let m : Member position (i.prefix) ((low, low) ∷ []) rest = point position (i.prefix) low rest i.spelled b in
        record { prefix = i.prefix; spelled = subst (λ v. Member position (i.prefix) ranges v) last (subst (λ r. Member position (i.prefix) r rest) same m); joins = i.joins ∙ ap (λ v. i.prefix ++ v) last }

pub member_sound : (position : BracketPosition) (text : List ℕ) (ranges : List (ℕ × ℕ)) (behind : List ℕ) → member_at position text ≡ Some (ranges, behind) → IsSpelledPrefix (Member position) text ranges behind
member_sound position text ranges behind e =
    by_colon (cases_of (begins_pair 91 58 text) (class_at (drop 2 text)) (cond {A = Option Ranges1} (begins_pair 91 61 text) (option_map {U = Ranges1} (λ f. ((f.0, f.0) ∷ [], f.1)) (marked_byte_at 61 (drop 2 text))) (option_and_then member_from (point_at position text))) (Some (ranges, behind)) e)
  where
    by_equals : (begins_pair 91 61 text ≡ true) × (option_map {U = Ranges1} (λ f. ((f.0, f.0) ∷ [], f.1)) (marked_byte_at 61 (drop 2 text)) ≡ Some (ranges, behind)) ⊎ ((begins_pair 91 61 text ≡ false) × (option_and_then member_from (point_at position text) ≡ Some (ranges, behind))) → IsSpelledPrefix (Member position) text ranges behind
    by_equals (inl (b, f)) =
        let (found, at, pair) = map_is {B = Ranges1} (λ f. ((f.0, f.0) ∷ [], f.1)) (marked_byte_at 61 (drop 2 text)) (ranges, behind) f in
        let m = marked_sound 61 (drop 2 text) (found.0) (found.1) at in
        let same : (found.0, found.0) ∷ [] ≡ ranges = ap (λ p. p.0) pair in
        let last : found.1 ≡ behind = ap (λ p. p.1) pair in
        let whole : Member position (91 ∷ 61 ∷ found.0 ∷ 61 ∷ 93 ∷ []) ((found.0, found.0) ∷ []) behind = equivalence position (found.0) behind m.0 in
        record {
          prefix = 91 ∷ 61 ∷ found.0 ∷ 61 ∷ 93 ∷ [];
          spelled = subst (λ r. Member position (91 ∷ 61 ∷ found.0 ∷ 61 ∷ 93 ∷ []) r behind) same whole;
          joins = pair_is 91 61 text b ∙ ap (λ t. 91 ∷ 61 ∷ t) (m.1 ∙ ap (λ v. found.0 ∷ 61 ∷ 93 ∷ v) last);
        }
    by_equals (inr (b, f)) =
        let (found, at, more) = then_is member_from (point_at position text) (ranges, behind) f in
        member_from_sound position text (found.0) (found.1) ranges behind (point_sound position text (found.0) (found.1) at) more

    by_colon : (begins_pair 91 58 text ≡ true) × (class_at (drop 2 text) ≡ Some (ranges, behind)) ⊎ ((begins_pair 91 58 text ≡ false) × (cond {A = Option Ranges1} (begins_pair 91 61 text) (option_map {U = Ranges1} (λ f. ((f.0, f.0) ∷ [], f.1)) (marked_byte_at 61 (drop 2 text))) (option_and_then member_from (point_at position text)) ≡ Some (ranges, behind))) → IsSpelledPrefix (Member position) text ranges behind
    by_colon (inl (b, f)) =
        let n : ℕ = run_len is_name_byte (length (drop 2 text)) (drop 2 text) in
        let k = class_sound n (drop 2 text) ranges behind f in
        record {
          prefix = 91 ∷ 58 ∷ (take n (drop 2 text) ++ (58 ∷ 93 ∷ []));
          spelled = class position (take n (drop 2 text)) ranges behind k.0;
          joins = pair_is 91 58 text b ∙ ap (λ t. 91 ∷ 58 ∷ t) (k.1 ∙ sym (append_assoc (take n (drop 2 text)) (58 ∷ 93 ∷ []) behind));
        }
    by_colon (inr (b, f)) = by_equals (cases_of (begins_pair 91 61 text) (option_map {U = Ranges1} (λ f. ((f.0, f.0) ∷ [], f.1)) (marked_byte_at 61 (drop 2 text))) (option_and_then member_from (point_at position text)) (Some (ranges, behind)) f)

pub member_some : (position : BracketPosition) (text : List ℕ) (ranges : List (ℕ × ℕ)) (behind : List ℕ) → Member position text ranges behind → 0 < length text
member_some _ _ _ _ (point position text c behind p no_range) = point_some position text c behind p
member_some _ _ _ _ (range position text low text' high behind p follows end le) = omega (arith, length-append text (45 ∷ text'))
member_some _ _ _ _ (equivalence position c behind h) = omega arith
member_some _ _ _ _ (class position name ranges behind known) = omega arith

pub member_closes : (text : List ℕ) → member_at inside (93 ∷ text) ≡ None
member_closes text = refl

-- the text after the opening bracket of a bracket expression
pub record BracketAt (text : List ℕ) (s : set.FinSet nat_cmp) (behind : List ℕ) : Type 0 where
  pub rest : List ℕ
  pub opens : text ≡ 91 ∷ rest
  pub found : bracket_at (rest ++ behind) ≡ Some (s, behind)

abbrev Members1 : Type 0
Members1 = List (ℕ × ℕ) × List (List (ℕ × ℕ)) × List ℕ

abbrev Set1 : Type 0
Set1 = set.FinSet nat_cmp × List ℕ

members_complete : (position : BracketPosition) (text : List ℕ) (m : List (ℕ × ℕ)) (ms : List (List (ℕ × ℕ))) (behind : List ℕ) → Opened (Member position) (Member inside) 93 text m ms behind → members_at position (text ++ behind) ≡ Some (m, ms, behind)
members_complete position text m ms behind o =
    opened_complete (Member inside) (member_at inside) 93 (member_complete inside) (member_sound inside) (member_some inside) member_closes (Member position) (member_at position) (member_complete position) text m ms behind o

members_sound : (position : BracketPosition) (text : List ℕ) (m : List (ℕ × ℕ)) (ms : List (List (ℕ × ℕ))) (behind : List ℕ) → members_at position text ≡ Some (m, ms, behind) → (prefix : List ℕ) × Opened (Member position) (Member inside) 93 prefix m ms behind × (text ≡ prefix ++ behind)
members_sound position text m ms behind e =
    opened_sound (Member inside) (member_at inside) 93 (member_complete inside) (member_sound inside) (member_some inside) member_closes (Member position) (member_at position) (member_sound position) text m ms behind e

-- members directly after `[` don't begin with `^`
pub opening_no_caret : (text : List ℕ) (m : List (ℕ × ℕ)) (ms : List (List (ℕ × ℕ))) (behind : List ℕ) → Opened (Member opening) (Member inside) 93 text m ms behind → begins_with 94 (text ++ behind) ≡ false
opening_no_caret text m ms behind o = go (begins_with 94 (text ++ behind)) refl
  where
    go : (b : Bool) → begins_with 94 (text ++ behind) ≡ b → b ≡ false
    go false eb = refl
    go true eb =
        let none : members_at opening (94 ∷ drop 1 (text ++ behind)) ≡ None = refl in
        absurd (no_none (m, ms, behind) (sym none ∙ (ap (members_at opening) (sym (begins_is 94 (text ++ behind) eb)) ∙ members_complete opening text m ms behind o)))

pub bracket_complete : (text : List ℕ) (s : set.FinSet nat_cmp) (behind : List ℕ) → Bracket text s behind → BracketAt text s behind
bracket_complete _ _ _ (matching text m ms behind o) = record {
  rest = text;
  opens = refl;
  found = pick_second (begins_with 94 (text ++ behind)) _ _ (opening_no_caret text m ms behind o) ∙ ap (option_map {U = Set1} (λ f. (bytes_where (in_members (f.0 ∷ f.1)), f.2))) (members_complete opening text m ms behind o);
}
bracket_complete _ _ _ (excluding text m ms behind o) = record {
  rest = 94 ∷ text;
  opens = refl;
  found = ap (option_map {U = Set1} (λ f. (bytes_where (λ b. not (in_members (f.0 ∷ f.1) b)), f.2))) (members_complete behind_caret text m ms behind o);
}

-- the text after the opening bracket, for a text that `bracket_at` reads
pub bracket_sound : (text : List ℕ) (s : set.FinSet nat_cmp) (behind : List ℕ) → bracket_at text ≡ Some (s, behind) → (prefix : List ℕ) × Bracket (91 ∷ prefix) s behind × (text ≡ prefix ++ behind)
bracket_sound text s behind e =
    go (cases_of (begins_with 94 text) (option_map {U = Set1} (λ f. (bytes_where (λ b. not (in_members (f.0 ∷ f.1) b)), f.2)) (members_at behind_caret (drop 1 text))) (option_map {U = Set1} (λ f. (bytes_where (in_members (f.0 ∷ f.1)), f.2)) (members_at opening text)) (Some (s, behind)) e)
  where
    go : (begins_with 94 text ≡ true) × (option_map {U = Set1} (λ f. (bytes_where (λ b. not (in_members (f.0 ∷ f.1) b)), f.2)) (members_at behind_caret (drop 1 text)) ≡ Some (s, behind)) ⊎
        ((begins_with 94 text ≡ false) × (option_map {U = Set1} (λ f. (bytes_where (in_members (f.0 ∷ f.1)), f.2)) (members_at opening text) ≡ Some (s, behind))) → (prefix : List ℕ) × Bracket (91 ∷ prefix) s behind × (text ≡ prefix ++ behind)
    go (inl (b, f)) =
        let (found, at, pair) = map_is {B = Set1} (λ f. (bytes_where (λ b. not (in_members (f.0 ∷ f.1) b)), f.2)) (members_at behind_caret (drop 1 text)) (s, behind) f in
        let k = members_sound behind_caret (drop 1 text) (found.0) (found.1) (found.2) at in
        let same : bytes_where (λ b. not (in_members (found.0 ∷ found.1) b)) ≡ s = ap (λ p. p.0) pair in
        let last : found.2 ≡ behind = ap (λ p. p.1) pair in (
          94 ∷ k.0,
          subst (λ v. Bracket (91 ∷ 94 ∷ k.0) s v) last (subst (λ x. Bracket (91 ∷ 94 ∷ k.0) x (found.2)) same (excluding (k.0) (found.0) (found.1) (found.2) k.1)),
          begins_is 94 text b ∙ ap (λ t. 94 ∷ t) (k.2 ∙ ap (λ v. k.0 ++ v) last),
        )
    go (inr (b, f)) =
        let (found, at, pair) = map_is {B = Set1} (λ f. (bytes_where (in_members (f.0 ∷ f.1)), f.2)) (members_at opening text) (s, behind) f in
        let k = members_sound opening text (found.0) (found.1) (found.2) at in
        let same : bytes_where (in_members (found.0 ∷ found.1)) ≡ s = ap (λ p. p.0) pair in
        let last : found.2 ≡ behind = ap (λ p. p.1) pair in (
          k.0,
          subst (λ v. Bracket (91 ∷ k.0) s v) last (subst (λ x. Bracket (91 ∷ k.0) x (found.2)) same (matching (k.0) (found.0) (found.1) (found.2) k.1)),
          k.2 ∙ ap (λ v. k.0 ++ v) last,
        )
