-- A text that is read, tested, classed and compared is a table's. If one of these fails, it is no table's.
use Rattle.std.proofs.Common.{ℕ, ◌≡◌, ◌≢◌, Bool, true, false, List, Option, None, length, inl, inr, sym, ◌∙◌, ap, subst}
use Rattle.std.specs.Prelude.{IsTrue, ◌==◌, if◌then◌else◌, slice_index, slice_index_or}
use Rattle.std.specs.List.{list_all}
use Rattle.lx_rules.specs.Invariant.{are_steps}
use Rattle.lx_automaton.specs.Automata.{Machine, IsMachine, HasByteClasses, HasSameSteps}
use Rattle.lx_tables.specs.Model.{TableRule, Table, IsTable}
use Rattle.lx_tables.specs.Limits.{HasLimits}
use Rattle.lx_tables.specs.Reading.{IsTextOf, IsNoText, own_text, IsClassed}
use Rattle.lx_tables.specs.Readers.{by_bytes, read_text}
use Rattle.lx_tables.specs.Texts.{text_1, text_2}
use Rattle.lx_automaton.proofs.EncodedLists.{different}
use Rattle.lx_tables.proofs.FirstRead.{first_again}
use Rattle.lx_tables.proofs.WholeRead.{second_again}
use Rattle.lx_tables.proofs.ByBytes.{limits, limits_by_bytes, same_machine, same_by_bytes}

abbrev table_with : Machine → List (List ℕ) → List TableRule → Table
table_with machine kinds rules = record { machine = machine; kinds = kinds; rules = rules }

pub classed : (raw : Table) (a : Machine) (kinds : List (List ℕ)) (rules : List TableRule) → HasLimits raw → IsMachine a → HasByteClasses a → HasSameSteps raw.machine a →
    kinds ≡ raw.kinds → rules ≡ raw.rules → IsTable (table_with a kinds rules)
classed raw a kinds rules has ia ha alike e f = rw (e, f) (record {
  machine = ia;
  classes = ha;
  few_kinds = has.kinds.few;
  identifiers = has.kinds.identifiers;
  distinct = has.kinds.distinct;
  few_rules = has.few_rules;
  steps = subst (λ n. IsTrue (list_all (λ rule. are_steps n (length raw.kinds) rule.steps) raw.rules)) (sym (ap length alike.starts)) has.steps;
  accepted = λ s r h. has.machine.accepted s r (sym (ap (λ (xs : List (Option ℕ)). slice_index_or xs s None) alike.accepted) ∙ h);
})

same_parts : (s t : Table) → s.machine ≡ t.machine → s.kinds ≡ t.kinds → s.rules ≡ t.rules → s ≡ t
same_parts s t e f g =
    ap (λ m. table_with m s.kinds s.rules) e ∙ ap (λ kinds. table_with t.machine kinds s.rules) f ∙ ap (λ rules. table_with t.machine t.kinds rules) g

same_table : (t : Table) → IsTable t → (s : Table) → IsClassed t s → s ≡ t
same_table t is s classed = same_parts s t (same_machine t is s.machine classed.is_table.machine classed.is_table.classes classed.steps) classed.kinds classed.rules

same_table_by_bytes : (t : Table) → IsTable t → (s : Table) → IsClassed (by_bytes t) s → s ≡ t
same_table_by_bytes t is s classed = same_parts s t (same_by_bytes t is s.machine classed.is_table.machine classed.is_table.classes classed.steps) classed.kinds classed.rules

pub own_first : (text : List ℕ) (t : Table) → slice_index text 10 ≢ 50 → own_text text t ≡ text_1 t
own_first text t other = ap (λ (second : Bool). if second then text_2 t else text_1 t) (different (slice_index text 10) 50 other)

pub is_text_of : (text : List ℕ) (t : Table) → text ≡ own_text text t → IsTextOf t text
is_text_of text t e = by (slice_index text 10 == 50) e
  where
    by : (second : Bool) → text ≡ (if second then text_2 t else text_1 t) → IsTextOf t text
    by true e = inr e
    by false e = inl e

pub refused_by_limits : (text : List ℕ) → (HasLimits (read_text text) → ⊥) → IsNoText text
refused_by_limits text none = record {
  none = λ t is of. elim of [
    | inl e ↦ none (subst HasLimits (sym (ap read_text e ∙ first_again t is)) (limits_by_bytes t is))
    | inr e ↦ none (subst HasLimits (sym (ap read_text e ∙ second_again t is)) (limits t is))
  ];
}

pub refused_by_text : (text : List ℕ) (s : Table) → IsClassed (read_text text) s → (text ≡ own_text text s → ⊥) → IsNoText text
refused_by_text text s classed other = record {
  none = λ t is of. elim of [
    | inl e ↦
        let same : s ≡ t = same_table_by_bytes t is s (subst (λ raw. IsClassed raw s) (ap read_text e ∙ first_again t is) classed) in
        other (e ∙ ap (λ bs. own_text bs t) (sym e) ∙ ap (λ u. own_text text u) (sym same))
    | inr e ↦
        let same : s ≡ t = same_table t is s (subst (λ raw. IsClassed raw s) (ap read_text e ∙ second_again t is) classed) in
        other (e ∙ ap (λ bs. own_text bs t) (sym e) ∙ ap (λ u. own_text text u) (sym same))
  ];
}
