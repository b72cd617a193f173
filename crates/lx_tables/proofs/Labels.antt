-- The labels of kinds are those of no other.
use Rattle.std.proofs.Common.{◌≡◌, ℕ, ◌+◌, ◌-◌, ◌*◌, ◌/◌, ◌%◌, ◌<◌, Bool, true, false, nat_eq, if◌then◌else◌, Option, Some, None, ◌∙◌, ap, arith}
use Rattle.std.proofs.lemmas.Bool.{eq-eqb, lt-leb, ne_eqb}
use Rattle.lx_rules.specs.declared.rule.Kind.{Kind}
use Rattle.lx_rules.specs.declared.rule.Kind.TheVariants.{Name, Number}
use Rattle.lx_tables.specs.Labels.{kind_of_label, step_of_kind, step_of_label}

-- a label by its parts
kind_of_parts : (label number : ℕ) (even : Bool) → 1 < label → nat_eq (label % 2) 0 ≡ even → (label / 2 - 1) % 4294967296 ≡ number → kind_of_label label ≡ Some (if even then Number number else Name number)
kind_of_parts label number even some parity is =
    ap (λ (b : Bool). if b then None else Some (if nat_eq (label % 2) 0 then Number ((label / 2 - 1) % 4294967296) else Name ((label / 2 - 1) % 4294967296))) (lt-leb label 1 some)
    ∙ ap (λ (b : Bool). Some (if b then Number ((label / 2 - 1) % 4294967296) else Name ((label / 2 - 1) % 4294967296))) parity
    ∙ ap (λ (n : ℕ). Some (if even then Number n else Name n)) is

pub label_of_number : (number : ℕ) → number < 4294967296 → kind_of_label (number * 2 + 2) ≡ Some (Number number)
label_of_number number small = kind_of_parts (number * 2 + 2) number true (omega arith) (eq-eqb ((number * 2 + 2) % 2) 0 (omega arith)) (omega arith)

pub label_of_name : (place : ℕ) → place < 4294967296 → kind_of_label (place * 2 + 3) ≡ Some (Name place)
label_of_name place small =
    kind_of_parts (place * 2 + 3) place false (omega arith) (ne_eqb ((place * 2 + 3) % 2) 0 (λ e. let odd : (place * 2 + 3) % 2 ≡ 1 = omega arith in absurd (omega (arith, odd, e)))) (omega arith)

-- the step of a label that isn't 0
pub step_of_some : (label : ℕ) (kind : Option Kind) → 0 < label → kind_of_label label ≡ kind → step_of_label label ≡ Some (step_of_kind kind)
step_of_some label kind some is =
    ap (λ (b : Bool). if b then None else Some (step_of_kind (kind_of_label label))) (ne_eqb label 0 (λ e. absurd (omega (arith, some, e)))) ∙ ap (λ (k : Option Kind). Some (step_of_kind k)) is
