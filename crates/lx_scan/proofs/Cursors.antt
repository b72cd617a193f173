-- The items after a cursor.
use Rattle.std.proofs.Common.{◌≡◌, ℕ, zero, suc, ◌+◌, ◌<◌, List, [], ◌∷◌, ◌++◌, length, drop, get_or, refl, sym, ap, ◌∙◌, add-one, arith}
use Rattle.lx_rules.specs.declared.rule.Step.{Step}
use Rattle.lx_rules.specs.declared.rule.Step.TheVariants.{Echo, Begin, Return}
use Rattle.lx_tables.specs.Model.{Table}
use Rattle.lx_scan.specs.declared.place.Place.{Place}
use Rattle.lx_scan.specs.Cursors.{item_of_step, listed}
use Rattle.lx_scan.specs.Items.{first_place, items_after, items_from, items_of}
use Rattle.lx_scan.specs.Steps.{items_of_steps}

pub begins : (table : Table) (text : List ℕ) → items_after table text first_place ≡ items_of table text
unfolding items_of
begins table text = refl

-- after the end there is none
pub none_at_end : (table : Table) (text : List ℕ) (place : Place) → place.offset ≡ length text → items_after table text place ≡ []
none_at_end table text place e = ap (λ (rest : List ℕ). items_from table rest 0 place) (all_dropped text place.offset e)
  where
    all_dropped : (xs : List ℕ) (n : ℕ) → n ≡ length xs → drop n xs ≡ []
    all_dropped [] zero e = refl
    all_dropped [] (suc n) e = absurd (omega arith)
    all_dropped (x ∷ xs) zero e = absurd (omega arith)
    all_dropped (x ∷ xs) (suc n) e = all_dropped xs n (omega arith)

step_here : (steps : List Step) (done : ℕ) (d : Step) (line start len : ℕ) → done < length steps →
    items_of_steps (drop done steps) line start len ≡ listed (item_of_step (get_or steps done d) line start len) ++ items_of_steps (drop (suc done) steps) line start len
step_here [] done d line start len l = absurd (omega arith)
step_here (Echo ∷ steps) zero d line start len l = refl
step_here (Begin next ∷ steps) zero d line start len l = refl
step_here (Return kind ∷ steps) zero d line start len l = refl
step_here (step ∷ steps) (suc done) d line start len l = step_here steps done d line start len (omega arith)

-- one step more
pub one_step : (steps : List Step) (done : ℕ) (d : Step) (line start len : ℕ) → done < length steps →
    items_of_steps (drop done steps) line start len ≡ listed (item_of_step (get_or steps done d) line start len) ++ items_of_steps (drop (done + 1) steps) line start len
one_step steps done d line start len l =
    step_here steps done d line start len l ∙ ap (λ (n : ℕ). listed (item_of_step (get_or steps done d) line start len) ++ items_of_steps (drop n steps) line start len) (sym (add-one done))
