-- The items that `--only` selects: those whose kind the listing shows by one of its words.
use Rattle.std.specs.Prelude.{◌≡◌, ◌≢◌, ℕ, ◌||◌, Bool, true, false, ⊤, ◌⊎◌, List, [], ◌∷◌, All, Contains, codes, decimal, map}
use Rattle.std.specs.List.{filter, flat_map, list_any}
use Rattle.std.specs.Str.{bytes_eq}
use Rattle.lx_rules.specs.declared.rule.Kind.TheVariants.{Name, Number}
use Rattle.lx_rules.specs.declared.rule.Step.{Step}
use Rattle.lx_rules.specs.declared.rule.Step.TheVariants.{Echo, Begin, Return}
use Rattle.lx_tables.specs.Model.{Table, TableRule}
use Rattle.lx_scan.specs.ItemParts.{NamesKindAmong}
use Rattle.lx_scan.specs.declared.item.Item.{Item}
use Rattle.lx_scan.specs.declared.item.Item.TheVariants.{Token, Echo as Echoed}
use Rattle.lx_piece.specs.Plans.{Planned}
use Rattle.lx_line.specs.Lines.{kind_text}
use Rattle.lx_forms.specs.Forms.{Selected}
use Rattle.lx_forms.specs.NameLists.{IsListOf, IsNoName}
use Rattle.lx_forms.specs.declared.choosing.ChoiceFault.{ChoiceFault}
use Rattle.lx_forms.specs.declared.choosing.ChoiceFault.TheVariants.{NoKind, NoName as NoWord, Memory}

-- a text is one of these
abbrev pub is_one_of : List (List ℕ) → List ℕ → Bool
is_one_of texts text = list_any (λ t. bytes_eq t text) texts

-- the number that a step returns, if it returns one
abbrev pub number_of_step : Step → List ℕ
number_of_step Echo = []
number_of_step (Begin condition) = []
number_of_step (Return (Name place)) = []
number_of_step (Return (Number number)) = number ∷ []

abbrev pub numbers_of_rule : TableRule → List ℕ
numbers_of_rule rule = flat_map number_of_step rule.steps

-- the numbers that actions of the tables return as kinds
abbrev pub numbers_of : Table → List ℕ
numbers_of table = flat_map numbers_of_rule table.rules

-- the word of an echo, a kind's name, or the number of a kind
abbrev pub is_kind_word : Table → List ℕ → Bool
is_kind_word table word = bytes_eq (codes "-") word || (is_one_of table.kinds word || is_one_of (map decimal (numbers_of table)) word)

-- the kinds that the listing shows by one of these words, and echoes if `-` is one
abbrev pub selected_by : Table → List (List ℕ) → Selected
selected_by table words = record {
  names = map (is_one_of words) table.kinds;
  numbers = filter (λ n. is_one_of words (decimal n)) (numbers_of table);
  echoes = is_one_of words (codes "-");
}

-- the text is a list of words with commas, each of a kind or of echoes, and they select this
pub record IsChosen (table : Table) (text : List ℕ) (selected : Selected) : Type 0 where
  pub words : List (List ℕ)
  pub some : words ≢ []
  pub list : IsListOf 44 text words
  pub known : All (λ word. is_kind_word table word ≡ true) words
  pub selected_is : selected ≡ selected_by table words

-- a word of the list is no kind's
pub record IsUnknown (table : Table) (text : List ℕ) (word : List ℕ) : Type 0 where
  pub words : List (List ℕ)
  pub list : IsListOf 44 text words
  pub among : Contains words word
  pub unknown : is_kind_word table word ≡ false

-- the text lists nothing, or an empty word
abbrev pub IsNoChoice : List ℕ → Type 0
IsNoChoice text = (text ≡ []) ⊎ ((number : ℕ) × IsNoName 44 text number)

-- one of these words is no kind's
abbrev pub IsUnknownAmong : Table → List (List ℕ) → ChoiceFault → Type 0
IsUnknownAmong table words (NoKind word) = Contains words word.now × (is_kind_word table word.now ≡ false)
IsUnknownAmong table words NoWord = ⊥
IsUnknownAmong table words Memory = ⊥

-- the reason why a text lists no words, or a failed allocation
abbrev pub IsNoWords : List ℕ → ChoiceFault → Type 0
IsNoWords text (NoKind word) = ⊥
IsNoWords text NoWord = IsNoChoice text
IsNoWords text Memory = ⊤

-- the reason why a text chooses nothing, or a failed allocation
abbrev pub IsRefusedChoice : Table → List ℕ → ChoiceFault → Type 0
IsRefusedChoice table text (NoKind word) = IsUnknown table text word.now
IsRefusedChoice table text NoWord = IsNoChoice text
IsRefusedChoice table text Memory = ⊤

-- the number of a kind, if an item has one, is returned by an action
abbrev pub HasReturnedNumber : Table → Item → Type 0
HasReturnedNumber table (Token line start len (Name place)) = Unit {0}
HasReturnedNumber table (Token line start len (Number number)) = Contains (numbers_of table) number
HasReturnedNumber table (Echoed line start len) = Unit {0}

-- the kind of an item, if it has one, is among the tables': the name of a kind, or a number that an action returns
pub record HasKindOf (table : Table) (item : Item) : Type 0 where
  pub named : NamesKindAmong table.kinds item
  pub returned : HasReturnedNumber table item

-- the listing shows the kind of an item by one of these words
abbrev pub stands_by_one_of : Planned → List (List ℕ) → Item → Bool
stands_by_one_of plan words item = is_one_of words (kind_text plan item)
