-- The reading of a line, put together from its parts.
use Rattle.std.proofs.Common.{ℕ, ◌≡◌, Bool, true, false, List, [], length, drop, refl, sym, subst, ◌∙◌, ap, ap₂}
use Rattle.std.specs.Prelude.{if◌then◌else◌}
use Rattle.lx_ere.specs.Brackets.{begins_with}
use Rattle.lx_flex.specs.ConditionLists.{IsList}
use Rattle.lx_flex.specs.RulesSections.{IsFurther, IsListed, Follows, code, plain, opening, closing, code_line, closing_line, plain_line, listed_line, opening_line, begins_list, is_code, opens_scope, unblanked}
use Rattle.lx_flex.specs.States.{State, HasRead, IsClosed, IsListRead, begun, with_rule, with_scope}
use Rattle.lx_flex.proofs.Advancing.{further_after, later_by}

chosen : (b : Bool) (x y : State) → b ≡ true → (if b then x else y) ≡ x
chosen b x y h = rw h refl

not_chosen : (b : Bool) (x y : State) → b ≡ false → (if b then x else y) ≡ y
not_chosen b x y h = rw h refl

pub scope_read : (declared : List (List ℕ)) (text list own after next rest : List ℕ) (old middle new : State) → list ≡ drop 1 text → IsList declared list own after → Follows after next →
    opens_scope next ≡ true → IsFurther next rest → middle ≡ old → new ≡ with_scope (length declared) own middle → IsListRead declared text rest old new
scope_read declared text list own after next rest old middle new at is follows opens further same does = record {
  own = own;
  after = after;
  next = next;
  list = subst (λ (t : List ℕ). IsList declared t own after) at is;
  follows = follows;
  further = further;
  does = does ∙ (ap (λ (s : State). with_scope (length declared) own s) same ∙ sym (chosen (opens_scope next) (with_scope (length declared) own old) (with_rule (length declared) own old) opens));
}

pub rule_read : (declared : List (List ℕ)) (text list own after next rest : List ℕ) (old middle new : State) → list ≡ drop 1 text → IsList declared list own after → Follows after next →
    opens_scope next ≡ false → IsFurther next rest → middle ≡ old → new ≡ with_rule (length declared) own middle → IsListRead declared text rest old new
rule_read declared text list own after next rest old middle new at is follows opens further same does = record {
  own = own;
  after = after;
  next = next;
  list = subst (λ (t : List ℕ). IsList declared t own after) at is;
  follows = follows;
  further = further;
  does = does ∙ (ap (λ (s : State). with_rule (length declared) own s) same ∙ sym (not_chosen (opens_scope next) (with_scope (length declared) own old) (with_rule (length declared) own old) opens));
}

pub code_read : (declared : List (List ℕ)) (text rest : List ℕ) (old new : State) → is_code old.first text ≡ true → IsFurther text rest → new ≡ old → HasRead declared text rest old new
code_read declared text rest old new is further same = record { line = code; is_line = code_line is further; does = same }

-- the text after the blanks of a line that isn't code
unblanked_is : (text same inner : List ℕ) → same ≡ text → inner ≡ unblanked same → inner ≡ unblanked text
unblanked_is text same inner is h = h ∙ ap (λ (t : List ℕ). unblanked t) is

further_of : (text inner rest : List ℕ) → inner ≡ unblanked text → IsFurther inner rest → IsFurther text rest
further_of text inner rest is further = further_after text inner rest (later_by _ text inner is) further

module _ (declared : List (List ℕ)) (text same inner rest : List ℕ) (old middle new : State) (no_code : is_code old.first text ≡ false) (same_is : same ≡ text) (middle_is : middle ≡ begun old)
    (inner_is : inner ≡ unblanked same) where
  at_inner : inner ≡ unblanked text
  at_inner = unblanked_is text same inner same_is inner_is

  pub closing_read : begins_with 125 inner ≡ true → IsFurther inner rest → IsClosed middle new → HasRead declared text rest old new
  closing_read begins further closed = record {
    line = closing;
    is_line = closing_line no_code (subst (λ (t : List ℕ). begins_with 125 t ≡ true) at_inner begins) (further_of text inner rest at_inner further);
    does = subst (λ (s : State). IsClosed s new) middle_is closed;
  }

  pub plain_read : (own : List ℕ) → own ≡ [] → begins_with 125 inner ≡ false → begins_list inner ≡ false → IsFurther inner rest → new ≡ with_rule (length declared) own middle →
      HasRead declared text rest old new
  plain_read own none no_end no_list further does = record {
    line = plain [];
    is_line = plain_line no_code (subst (λ (t : List ℕ). begins_with 125 t ≡ false) at_inner no_end) (subst (λ (t : List ℕ). begins_list t ≡ false) at_inner no_list)
        (further_of text inner rest at_inner further);
    does = does ∙ ap₂ (λ (xs : List ℕ) (s : State). with_rule (length declared) xs s) none middle_is;
  }

  pub listed_read : begins_list inner ≡ true → IsListRead declared inner rest middle new → HasRead declared text rest old new
  listed_read begins read = go (opens_scope read.next) refl
    where
      listed : IsListed declared old.first text read.own read.next
      listed = record {
        after = read.after;
        no_code = no_code;
        begins = subst (λ (t : List ℕ). begins_list t ≡ true) at_inner begins;
        list = subst (λ (t : List ℕ). IsList declared (drop 1 t) read.own read.after) at_inner read.list;
        follows = read.follows;
      }

      go : (opens : Bool) → opens_scope read.next ≡ opens → HasRead declared text rest old new
      go true h = record {
        line = opening read.own;
        is_line = opening_line listed h read.further;
        does = read.does ∙ (chosen (opens_scope read.next) (with_scope (length declared) read.own middle) (with_rule (length declared) read.own middle) h
            ∙ ap (λ (s : State). with_scope (length declared) read.own s) middle_is);
      }
      go false h = record {
        line = plain read.own;
        is_line = listed_line listed h read.further;
        does = read.does ∙ (not_chosen (opens_scope read.next) (with_scope (length declared) read.own middle) (with_rule (length declared) read.own middle) h
            ∙ ap (λ (s : State). with_rule (length declared) read.own s) middle_is);
      }
