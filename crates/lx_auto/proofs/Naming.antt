-- The definition that a name means.
use Rattle.std.proofs.Common.{◌≡◌, ◌∙◌, ℕ, zero, suc, ◌<◌, Bool, true, false, cond, nat_eq, List, [], ◌∷◌, length, map, take, get_or, Option, Some, None, refl, ap, arith}
use Rattle.std.specs.Cmp.Lexicographic.{pointwise}
use Rattle.std.specs.Option.{option_or, option_map}
use Rattle.lx_ere.specs.Regex.{regex_of}
use Rattle.lx_rules.specs.Nesting.{tree_named}
use Rattle.lx_rules.specs.views.Rules.{definition_view}
use Rattle.lx_rules.specs.declared.definition.Definition.{Definition}
use Rattle.lx_auto.specs.NameViews.{place_of, tree_at}

-- The first place among one definition more.
more-behind : (o : Option ℕ) (b : Bool) (i : ℕ) → option_map suc (option_or o (cond b (Some i) None)) ≡ option_or (option_map suc o) (cond b (Some (suc i)) None)
more-behind None true i = refl
more-behind None false i = refl
more-behind (Some k) b i = refl

alone : (b : Bool) → cond {A = Option ℕ} b (Some zero) None ≡ option_or None (cond {A = Option ℕ} b (Some zero) None)
alone true = refl
alone false = refl

pub place-more : (definitions : List Definition) (i : ℕ) (name : List ℕ) (d : Definition) → i < length definitions
    → place_of (take (suc i) definitions) name ≡ option_or (place_of (take i definitions) name) (cond (pointwise nat_eq (get_or definitions i d).name.items name) (Some i) None)
place-more [] i name d less = absurd (omega arith)
place-more (x ∷ xs) zero name d less = alone (pointwise nat_eq x.name.items name)
place-more (x ∷ xs) (suc i) name d less = by (pointwise nat_eq x.name.items name) (place-more xs i name d (omega arith)) where
  by : (b : Bool) → place_of (take (suc i) xs) name ≡ option_or (place_of (take i xs) name) (cond (pointwise nat_eq (get_or xs i d).name.items name) (Some i) None)
      → cond {A = Option ℕ} b (Some zero) (option_map suc (place_of (take (suc i) xs) name)) ≡ option_or (cond {A = Option ℕ} b (Some zero) (option_map suc (place_of (take i xs) name))) (cond (pointwise nat_eq (get_or xs i d).name.items name) (Some (suc i)) None)
  by true e = refl
  by false e = ap (option_map suc) e ∙ more-behind (place_of (take i xs) name) (pointwise nat_eq (get_or xs i d).name.items name) i

-- a name means the definition at its place
pub place-tree : (definitions : List Definition) (name : List ℕ) → tree_named (map definition_view definitions) name ≡ tree_at definitions (place_of definitions name)
place-tree [] name = refl
place-tree (x ∷ xs) name = by (pointwise nat_eq x.name.items name) (place_of xs name) (place-tree xs name) where
  by : (b : Bool) (o : Option ℕ) → tree_named (map definition_view xs) name ≡ tree_at xs o
      → cond b (Some (regex_of x.expr)) (tree_named (map definition_view xs) name) ≡ tree_at (x ∷ xs) (cond {A = Option ℕ} b (Some zero) (option_map suc o))
  by true o e = refl
  by false None e = e
  by false (Some k) e = e
