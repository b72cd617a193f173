-- The walk over the arrays for the ends of tokens finds a rule exactly where a part matches.
use Rattle.std.proofs.Common.{ℕ, zero, suc, ◌≡◌, ◌<◌, ◌+◌, ◌↔◌, false, List, [], ◌∷◌, Option, Some, None, inl, inr, length, take, refl, sym, ◌∙◌, ap, subst, arith}
use Rattle.std.specs.Prelude.{IsTrue, is_some, slice_get, slice_index, Contains}
use Rattle.std.proofs.Math.Seq.{take-length}
use Rattle.lx_automaton.specs.Automata.{IsMachine, answer, start_of, state_after, state_count}
use Rattle.lx_automaton.specs.Meaning.{IsAnswer, ReachesWhole}
use Rattle.lx_ere.specs.Matching.{Matches, Repeats, no_names}
use Rattle.lx_ere.specs.Regex.{Regex, nil, one_of, then, or, times, named}
use Rattle.lx_lex.proofs.Walking.{IsState, after_is, rule_at, walk_is}
use Rattle.lx_lex.specs.Arrays.{row_of}
use Rattle.lx_lex.specs.Cuts.{IsCutSpec, Part, part_rule, part_rules, parts_of}
use Rattle.lx_lex.specs.Translation.{FileRule}
use Rattle.lx_lex.specs.Walking.{FindParts, numbered_rule, numbers_of, rule_from}
use Rattle.lx_rules.specs.Choice.{IsActive, SpecNames, reach}
use Rattle.lx_rules.specs.Limits.{max_name_depth}
use Rattle.lx_rules.specs.Names.{NameMatches}
use Rattle.lx_rules.specs.Plain.{PlainDefinition, PlainRule, PlainSpec}
use Rattle.lx_tables.specs.Model.{AreTablesOf, IsTable, Table}

-- ---- without definitions, no name has a text

nothing-defined : (n : ℕ) (name w : List ℕ) → NameMatches [] n name w → ⊥
nothing-defined zero name w h = h
nothing-defined (suc n) name w (d, defines, matches) = absurd (let none : None ≡ Some d = defines.at in cc)

repeats-by : (L M : List ℕ → Type 0) → ((w : List ℕ) → L w → M w) → (k : ℕ) (w : List ℕ) → Repeats L k w → Repeats M k w
repeats-by L M f zero w h = h
repeats-by L M f (suc k) w (u, v, hu, hv, is) = (u, v, f u hu, repeats-by L M f k v hv, is)

-- an expression matches more if names do
by-names : (N M : List ℕ → List ℕ → Type 0) → ((name w : List ℕ) → N name w → M name w) → (tree : Regex) (w : List ℕ) → Matches N tree w → Matches M tree w
by-names N M f nil w h = h
by-names N M f (one_of s) w h = h
by-names N M f (then a b) w (u, v, hu, hv, is) = (u, v, by-names N M f a u hu, by-names N M f b v hv, is)
by-names N M f (or a b) w (inl h) = inl (by-names N M f a w h)
by-names N M f (or a b) w (inr h) = inr (by-names N M f b w h)
by-names N M f (times body low high) w (k, least, most, h) = (k, least, most, repeats-by (Matches N body) (Matches M body) (λ v g. by-names N M f body v g) k w h)
by-names N M f (named name) w h = f name w h

to-none : (definitions : List PlainDefinition) → definitions ≡ [] → (tree : Regex) (w : List ℕ) → Matches (NameMatches definitions max_name_depth) tree w → Matches no_names tree w
to-none definitions none tree w h =
    by-names (NameMatches [] max_name_depth) no_names (λ name v g. nothing-defined max_name_depth name v g) tree w
    (subst (λ ds. Matches (NameMatches ds max_name_depth) tree w) none h)

from-none : (definitions : List PlainDefinition) (tree : Regex) (w : List ℕ) → Matches no_names tree w → Matches (NameMatches definitions max_name_depth) tree w
from-none definitions tree w h = by-names no_names (NameMatches definitions max_name_depth) (λ name v g. absurd g) tree w h

-- ---- the rule of a part

rule-of-part : (n i : ℕ) (ps : List Part) (p : Part) → slice_get ps i ≡ Some p → slice_get (part_rules n ps) i ≡ Some (part_rule (n + i) p)
rule-of-part n i [] p h = absurd (cc)
rule-of-part n zero (q ∷ ps) p h =
    let here : n ≡ n + 0 = omega arith in
    let same : q ≡ p = cc in
    ap (λ (k : ℕ). Some (part_rule k q)) here ∙ ap (λ r. Some (part_rule (n + 0) r)) same
rule-of-part n (suc i) (q ∷ ps) p h =
    let there : (n + 1) + i ≡ n + suc i = omega arith in
    rule-of-part (n + 1) i ps p h ∙ ap (λ (k : ℕ). Some (part_rule k p)) there

-- a rule is that of a part
part-of-rule : (n i : ℕ) (ps : List Part) (rule : PlainRule) → slice_get (part_rules n ps) i ≡ Some rule → (p : Part) × (slice_get ps i ≡ Some p) × (rule ≡ part_rule (n + i) p)
part-of-rule n i [] rule h = absurd (cc)
part-of-rule n zero (q ∷ ps) rule h =
    let here : n ≡ n + 0 = omega arith in
    let same : rule ≡ part_rule n q = cc in
    (q, refl, same ∙ ap (λ (k : ℕ). part_rule k q) here)
part-of-rule n (suc i) (q ∷ ps) rule h =
    let (p, at, is) = part-of-rule (n + 1) i ps rule h in
    let there : (n + 1) + i ≡ n + suc i = omega arith in
    (p, at, is ∙ ap (λ (k : ℕ). part_rule k p) there)

only : (n c : ℕ) → Contains (n ∷ []) c → n ≡ c
only n c (zero, below, is) = is
only n c (suc k, below, is) = absurd (omega (arith, below))

-- ---- the rules that reach the whole text

module _ (rules : List FileRule) (spec : PlainSpec) (of : IsCutSpec rules spec) (i : ℕ) (part : Part) (text : List ℕ) (at : slice_get (parts_of rules) i ≡ Some part) where
  own-rule : slice_get spec.rules i ≡ Some (part_rule (1 + i) part)
  own-rule = ap (λ rs. slice_get rs i) of.rules_are ∙ rule-of-part 1 i (parts_of rules) part at

  reaches : 0 < length text → Matches no_names part.tree text → ReachesWhole spec (i + 1) false text i
  unfolding SpecNames
  reaches some h =
      let next : 1 + i ≡ i + 1 = omega arith in
      record {
        rule = part_rule (1 + i) part;
        at = own-rule;
        bytes = length text;
        fits = record {
          active = (0, omega arith, next);
          line_begin = λ never. absurd (cc);
          not_empty = some;
          within = omega arith;
          matches = subst (λ w. Matches (NameMatches spec.definitions max_name_depth) part.tree w) (sym (take-length text)) (from-none spec.definitions part.tree text h);
          line_end = λ never. absurd (cc);
        };
        whole = refl;
      }

  -- only the part's own rule does, and the part matches then
  matched : (j : ℕ) → ReachesWhole spec (i + 1) false text j → Matches no_names part.tree text
  unfolding SpecNames
  matched j r =
      let (p, there, is) = part-of-rule 1 j (parts_of rules) r.rule (ap (λ rs. slice_get rs j) (sym of.rules_are) ∙ r.at) in
      let active : Contains ((1 + j) ∷ []) (i + 1) = subst (λ q. IsActive spec q (i + 1)) is r.fits.active in
      let same : j ≡ i = omega (arith, only (1 + j) (i + 1) active) in
      let own : part ≡ p = (let one : Some part ≡ Some p = sym at ∙ (ap (λ (k : ℕ). slice_get (parts_of rules) k) (sym same) ∙ there) in cc) in
      let all : r.bytes ≡ length text = subst (λ q. reach q r.bytes ≡ length text) is r.whole in
      let text-is : take r.bytes text ≡ text = ap (λ (n : ℕ). take n text) all ∙ take-length text in
      let tree-is : r.rule.reading.tree ≡ part.tree = ap (λ q. q.reading.tree) is ∙ ap (λ q. q.tree) (sym own) in
      to-none spec.definitions of.no_definitions part.tree text
      (subst (λ w. Matches (NameMatches spec.definitions max_name_depth) part.tree w) text-is
      (subst (λ t. Matches (NameMatches spec.definitions max_name_depth) t (take r.bytes text)) tree-is r.fits.matches))

  decided : (found : Option ℕ) → 0 < length text → IsAnswer spec (i + 1) false text found → IsTrue (is_some found) ↔ Matches no_names part.tree text
  decided None some none = (λ never. absurd (cc), λ h. absurd (none i (reaches some h)))
  decided (Some j) some (r, first) = (λ yes. matched j r, λ h. refl)

pub find_parts : (rules : List FileRule) (spec : PlainSpec) (table : Table) → IsTable table → IsCutSpec rules spec → AreTablesOf spec table → FindParts rules table
find_parts rules spec table is_table of-rules of i part text at some bytes =
    let m = table.machine in
    let h : IsMachine m = is_table.machine in
    let there : i + 1 < length spec.conditions = omega (arith, of-rules.conditions, place-below (parts_of rules) i part at) in
    let start = start_of m (i + 1) false in
    let states : IsState m h (Some start) = λ s e. subst (λ (t : ℕ). t < state_count m) (cc) (h.starts (i + 1) false (omega (arith, there, of.automaton.conditions))) in
    let walked : rule_from (numbers_of m) (row_of m start) text ≡ answer m (i + 1) false text =
    ap (λ (place : ℕ). numbered_rule (slice_index (numbers_of m).rows (place + m.width))) (walk_is m h (Some start) text states bytes)
    ∙ rule_at m h (state_after m (Some start) text) (after_is m h (Some start) text states bytes) in
    subst (λ (found : Option ℕ). IsTrue (is_some found) ↔ Matches no_names part.tree text) (sym walked)
    (decided rules spec of-rules i part text at (answer m (i + 1) false text) some (of.automaton.answers (i + 1) false text there bytes)) where
      place-below : (ps : List Part) (k : ℕ) (p : Part) → slice_get ps k ≡ Some p → k < length ps
      place-below [] k p e = absurd (cc)
      place-below (q ∷ ps) zero p e = omega arith
      place-below (q ∷ ps) (suc k) p e = omega (arith, place-below ps k p e)
