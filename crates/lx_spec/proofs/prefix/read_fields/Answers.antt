use Rattle.std.proofs.Common.{◌≡◌, ◌∙◌, ◌++◌, ◌∷◌, [], List, ℕ, ap, sym, append_assoc}
use Rattle.std.proofs.lemmas.List.{map_push}
use denote.Ref.{Bor}
use Rattle.lx_spec.specs.Verdict as plain
use Rattle.lx_spec.specs.views.Fields.{texts_of}
use Rattle.lx_spec.proofs.prefix.read_fields.Goals as goal

pub fields-preserved : goal.fields-preserved
fields-preserved c =
    let h = rw c.in-Some.is at c.next_field.ensures in
    let grown : texts_of c.push.new.self.items ≡ texts_of c.fields.fields.items ++ c.next_field.result.0.now ∷ [] = ap texts_of c.in_ok-push.ensures.items ∙ map_push (λ (f : Bor (List ℕ)). f.now) c.fields.fields.items c.next_field.result.0 in
    ap (λ (l : List (List ℕ)). l ++ plain.fields_of c.in-Some.behind.now) grown ∙ append_assoc (texts_of c.fields.fields.items) (c.next_field.result.0.now ∷ []) (plain.fields_of c.in-Some.behind.now) ∙ ap (λ (l : List (List ℕ)). texts_of c.fields.fields.items ++ l) (sym h.0) ∙ c.fields.invariant

pub returns-in-None : goal.returns-in-None
returns-in-None c =
    let h = rw c.in-None.is at c.next_field.ensures in
    ap texts_of c.in_ok-push.ensures.items ∙ map_push (λ (f : Bor (List ℕ)). f.now) c.fields.fields.items c.next_field.result.0 ∙ ap (λ (l : List (List ℕ)). texts_of c.fields.fields.items ++ l) (sym h) ∙ c.fields.invariant
