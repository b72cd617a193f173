-- Plans by tables, and by the rules of a specification.
use Rattle.std.proofs.Common.{◌≡◌, ℕ, ◌<◌, List, Option, inl, inr, All, refl, sym, ◌∙◌, ap, arith}
use Rattle.std.specs.Prelude.{slice_index}
use Rattle.lx_rules.specs.Plain.{PlainSpec}
use Rattle.lx_tables.specs.Model.{Table, IsTable, AreTablesOf}
use Rattle.lx_tables.specs.Reading.{IsTextOf}
use Rattle.lx_tables.specs.Texts.{text_1, text_2}
use Rattle.lx_tables.specs.Uniqueness.{IsOneToOne}
use Rattle.lx_scan.specs.ByRules.{AreItemsBy}
use Rattle.lx_scan.specs.Items as scan
use Rattle.lx_piece.specs.Plans.{PlainInput, Planned, bytes_of}
use Rattle.lx_cli.specs.CommandLine.{PlainFormWords}
use Rattle.lx_tool.specs.Planning.{AreBytes, IsPlanBy, IsPlanByRules, ListsAsked, ListsBy, ListsByRules, ListsByRulesIn, ListsPrefixBy, ListsPrefixByRules}
use Rattle.lx_tool.specs.Tabling.{AreTablesOfText}

-- the items that tables of a specification give for bytes are those by the rules
pub record GiveItems : Type 0 where
  pub by_rules : (spec : PlainSpec) (table : Table) (bytes : List ℕ) → IsTable table → AreTablesOf spec table → All (λ b. b < 256) bytes → AreItemsBy spec bytes (scan.items_of table bytes)

plan_by_rules : (spec : PlainSpec) (table : Table) (inputs : List PlainInput) (plan : Planned) → GiveItems → IsTable table → AreTablesOf spec table → AreBytes inputs → IsPlanBy table inputs plan → IsPlanByRules spec inputs plan
plan_by_rules spec table inputs plan law is of bytes by = record {
  kinds_are = ap (λ (t : Table). t.kinds) by.table_is ∙ of.kinds;
  inputs_are = by.inputs_are;
  items = λ file h.
      let are_bytes : All (λ b. b < 256) (bytes_of plan file) = rw by.inputs_are (bytes file _ h) in
      law.by_rules spec plan.table (bytes_of plan file) (rw by.table_is is) (rw by.table_is of) are_bytes;
}

pub by_rules : (text : List ℕ) (table : Table) (inputs : List PlainInput) (old new : Option (List ℕ)) → GiveItems →
    IsTable table → AreTablesOfText text table → AreBytes inputs → ListsBy table inputs old new → ListsByRules text inputs old new
by_rules text table inputs old new law is of bytes lists = record {
  spec = of.spec;
  read = of.read;
  plan = lists.plan;
  by_rules = plan_by_rules of.spec table inputs lists.plan law is of.of_spec bytes lists.by_tables;
  wrote = lists.wrote;
}

pub prefix_by_rules : (text : List ℕ) (table : Table) (inputs : List PlainInput) (old new : Option (List ℕ)) → GiveItems →
    IsTable table → AreTablesOfText text table → AreBytes inputs → ListsPrefixBy table inputs old new → ListsPrefixByRules text inputs old new
prefix_by_rules text table inputs old new law is of bytes lists = record {
  spec = of.spec;
  read = of.read;
  plan = lists.plan;
  by_rules = plan_by_rules of.spec table inputs lists.plan law is of.of_spec bytes lists.by_tables;
  wrote = lists.wrote;
}

-- a listing by tables of a specification, in the form of the arguments, is one by its rules
pub asked_by_rules : (words : PlainFormWords) (text : List ℕ) (table : Table) (names : List (List ℕ)) (inputs : List PlainInput) (old new : Option (List ℕ)) → GiveItems →
    IsTable table → AreTablesOfText text table → AreBytes inputs → ListsAsked words table names inputs old new → ListsByRulesIn words text names inputs old new
asked_by_rules words text table names inputs old new law is of bytes lists =
    let plan = lists.listed.plan in
    let by = lists.listed.by_tables in
    record {
      spec = of.spec;
      read = of.read;
      plan = plan;
      by_rules = plan_by_rules of.spec table inputs plan law is of.of_spec bytes by;
      of_spec = rw by.table_is of.of_spec;
      form = lists.form;
      asked = rw by.table_is lists.asked;
      wrote = lists.listed.wrote;
    }

other_digit : (a b : ℕ) → a ≡ 49 → b ≡ 50 → a ≡ b → ⊥
other_digit a b one two same = absurd (omega arith)

-- no text is of both versions
differ : (s t : Table) → text_1 s ≡ text_2 t → ⊥
differ s t e = other_digit (slice_index (text_1 s) 10) (slice_index (text_2 t) 10) refl refl (ap (λ (text : List ℕ). slice_index text 10) e)

-- a text is that of one table
pub one_table : (s t : Table) (text : List ℕ) → IsOneToOne text_1 → IsOneToOne text_2 → IsTable s → IsTable t → IsTextOf s text → IsTextOf t text → s ≡ t
one_table s t text first second hs ht (inl e) (inl f) = first.same s t hs ht (sym e ∙ f)
one_table s t text first second hs ht (inl e) (inr f) = absurd (differ s t (sym e ∙ f))
one_table s t text first second hs ht (inr e) (inl f) = absurd (differ t s (sym f ∙ e))
one_table s t text first second hs ht (inr e) (inr f) = second.same s t hs ht (sym e ∙ f)
