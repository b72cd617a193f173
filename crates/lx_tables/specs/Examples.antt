-- Four tables and their eight texts, as the definitions of the texts compute them.
use Rattle.std.specs.Prelude.{ℕ, ◌≡◌, [], ◌∷◌, ◌++◌, Some, None, Bool, true, false, codes, replicate}
use Rattle.lx_rules.specs.declared.rule.Kind.TheVariants.{Name}
use Rattle.lx_rules.specs.declared.rule.Step.TheVariants.{Return}
use Rattle.lx_automaton.specs.Automata.{Machine}
use Rattle.lx_tables.specs.Model.{TableRule, Table}
use Rattle.lx_tables.specs.Texts.{text_1, text_2}

-- a rule that returns this kind
abbrev pub returns : Bool → ℕ → TableRule
returns line_end kind = record { line_end = line_end; steps = Return (Name kind) ∷ [] }

abbrev pub three_rules_machine : Machine
three_rules_machine = record {
  starts = (0, 0) ∷ [];
  classes = replicate 10 0 ++ replicate 1 1 ++ replicate 21 0 ++ replicate 1 1 ++ replicate 15 0 ++ replicate 10 2 ++ replicate 39 0 ++ replicate 26 3 ++ replicate 133 0;
  width = 4;
  accepted = None ∷ Some 2 ∷ Some 1 ∷ Some 0 ∷ [];
  targets = None ∷ Some 1 ∷ Some 2 ∷ Some 3 ∷ None ∷ Some 1 ∷ None ∷ None ∷ None ∷ None ∷ Some 2 ∷ None ∷ None ∷ None ∷ None ∷ Some 3 ∷ [];
}

-- `[a-z]+ return ID;`, `[0-9]+ return NUM;` and `[ \n]+ ;`
abbrev pub three_rules : Table
three_rules = record {
  machine = three_rules_machine;
  kinds = codes "ID" ∷ codes "NUM" ∷ [];
  rules = returns false 0 ∷ returns false 1 ∷ record { line_end = false; steps = [] } ∷ [];
}

abbrev pub line_end_machine : Machine
line_end_machine = record {
  starts = (0, 0) ∷ [];
  classes = replicate 10 0 ++ replicate 1 1 ++ replicate 86 0 ++ replicate 1 2 ++ replicate 158 0;
  width = 3;
  accepted = None ∷ None ∷ Some 0 ∷ [];
  targets = None ∷ None ∷ Some 1 ∷ None ∷ Some 2 ∷ None ∷ None ∷ None ∷ None ∷ [];
}

-- `a$ return E;`
abbrev pub line_end : Table
line_end = record { machine = line_end_machine; kinds = codes "E" ∷ []; rules = returns true 0 ∷ [] }

abbrev pub line_begin_machine : Machine
line_begin_machine = record {
  starts = (0, 1) ∷ [];
  classes = replicate 35 0 ++ replicate 1 1 ++ replicate 220 0;
  width = 2;
  accepted = None ∷ None ∷ Some 1 ∷ Some 0 ∷ [];
  targets = None ∷ Some 2 ∷ None ∷ Some 3 ∷ None ∷ None ∷ None ∷ None ∷ [];
}

-- `^# return H;` and `# return S;`
abbrev pub line_begin : Table
line_begin = record { machine = line_begin_machine; kinds = codes "H" ∷ codes "S" ∷ []; rules = returns false 0 ∷ returns false 1 ∷ [] }

-- no rules: `%%` alone
abbrev pub no_rules : Table
no_rules = record {
  machine = record { starts = (0, 0) ∷ []; classes = replicate 256 0; width = 1; accepted = None ∷ []; targets = None ∷ [] };
  kinds = [];
  rules = [];
}

-- each of these tables has these texts
pub record HaveTheirTexts : Type 0 where
  pub three_rules_1 : text_1 three_rules ≡ codes "lx-tables 1\nconditions 1\nstart 0 0\nkinds 2\nkind ID\nkind NUM\nrules 3\nrule 0 k0\nrule 0 k1\nrule 0\nstates 4\nstate - 10-10:1 32-32:1 48-57:2 97-122:3\nstate 2 10-10:1 32-32:1\nstate 1 48-57:2\nstate 0 97-122:3\nend\n"
  pub three_rules_2 : text_2 three_rules ≡ codes "lx-tables 2\nconditions 1\nstart 0 0\nkinds 2\nkind ID\nkind NUM\nrules 3\nrule 0 k0\nrule 0 k1\nrule 0\nclasses 4\nclass 0-9:0 10-10:1 11-31:0 32-32:1 33-47:0 48-57:2 58-96:0 97-122:3 123-255:0\nstates 4\nstate - 1:1 2:2 3:3\nstate 2 1:1\nstate 1 2:2\nstate 0 3:3\nend\n"
  pub line_end_1 : text_1 line_end ≡ codes "lx-tables 1\nconditions 1\nstart 0 0\nkinds 1\nkind E\nrules 1\nrule 1 k0\nstates 3\nstate - 97-97:1\nstate - 10-10:2\nstate 0\nend\n"
  pub line_end_2 : text_2 line_end ≡ codes "lx-tables 2\nconditions 1\nstart 0 0\nkinds 1\nkind E\nrules 1\nrule 1 k0\nclasses 3\nclass 0-9:0 10-10:1 11-96:0 97-97:2 98-255:0\nstates 3\nstate - 2:1\nstate - 1:2\nstate 0\nend\n"
  pub line_begin_1 : text_1 line_begin ≡ codes "lx-tables 1\nconditions 1\nstart 0 1\nkinds 2\nkind H\nkind S\nrules 2\nrule 0 k0\nrule 0 k1\nstates 4\nstate - 35-35:2\nstate - 35-35:3\nstate 1\nstate 0\nend\n"
  pub line_begin_2 : text_2 line_begin ≡ codes "lx-tables 2\nconditions 1\nstart 0 1\nkinds 2\nkind H\nkind S\nrules 2\nrule 0 k0\nrule 0 k1\nclasses 2\nclass 0-34:0 35-35:1 36-255:0\nstates 4\nstate - 1:2\nstate - 1:3\nstate 1\nstate 0\nend\n"
  pub no_rules_1 : text_1 no_rules ≡ codes "lx-tables 1\nconditions 1\nstart 0 0\nkinds 0\nrules 0\nstates 1\nstate -\nend\n"
  pub no_rules_2 : text_2 no_rules ≡ codes "lx-tables 2\nconditions 1\nstart 0 0\nkinds 0\nrules 0\nclasses 1\nclass 0-255:0\nstates 1\nstate -\nend\n"
