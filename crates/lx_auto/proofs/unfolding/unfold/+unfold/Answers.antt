use Rattle.std.proofs.Common.{◌≡◌, ◌∙◌, ℕ, ◌<◌, ◌≤◌, ◌++◌, true, nat_lt, List, Option, Some, None, Result, Ok, Err, length, get_or, map, refl, ap, arith, rules}
use Rattle.std.specs.Prelude.{slice_get, IfOk, OnOk}
use Rattle.std.specs.declared.alloc.AllocError.{AllocError}
use Rattle.std.proofs.lemmas.Bool.Decides.{nat_tests}
use Rattle.std.proofs.lemmas.List.{map-append}
use Rattle.std.proofs.lemmas.Option.{slice_get_read}
use Rattle.std.specs.Option.{option_map}
use Rattle.std.proofs.lemmas.Result.{IfOk-weaker}
use Rattle.lx_ere.specs.Regex.{Regex, then, or, times, named, regex_of}
use Rattle.lx_rules.specs.Plain.{PlainDefinition}
use Rattle.lx_rules.specs.views.Rules.{definition_view}
use Rattle.lx_rules.specs.declared.definition.Definition.{Definition}
use Rattle.lx_auto.specs.Nodes.{PlainNode}
use Rattle.lx_auto.specs.NameViews.{place_of, tree_at}
use Rattle.lx_auto.specs.NodeViews.{node_view, nodes_view}
use Rattle.lx_auto.specs.Unfolding.{Unfolds, UnfoldsName}
use Rattle.lx_auto.specs.declared.unfolding.fragment.Fragment.{Fragment}
use Rattle.lx_auto.specs.declared.unfolding.part.Part.{Part}
use Rattle.lx_auto.proofs.Appending.{unfolds-then, unfolds-or, unfolds-times, unfolds-named, unfolds-undefined, unfolds-deeper, unfolds-copied}
use Rattle.lx_auto.proofs.UnfoldingMeasure.{tree_size, all_sizes, size_le, name_falls}
use Rattle.lx_auto.proofs.unfolding.unfold.+unfold.Goals as goal

read_at : {X : Type 0} (xs : List X) (i : ℕ) (x : X) → true ≡ nat_lt i (length xs) → x ≡ get_or xs i x → slice_get xs i ≡ Some x
read_at xs i x less e = slice_get_read xs (length xs) i x refl (grind (arith, nat_tests)) e

copied : (r : Result Part AllocError) (q : Part) (E : Type 0) (P : Part → Type 0) → ((p : Part) → E → p ≡ q → P p) → OnOk r E → IfOk r (λ p. p ≡ q) → IfOk r P
copied (Ok p) q E P f e g = f p e g
copied (Err x) q E P f e g = tt

pub unfold-returns-in_ok-right-in-Then : goal.unfold-returns-in_ok-right-in-Then
unfold-returns-in_ok-right-in-Then t c =
    let plain : List PlainDefinition = map definition_view c.args.names.now.definitions.now in
    let a : Regex = regex_of c.in-Then.first.value in
    let b : Regex = regex_of c.in-Then.second.value in
    let old : List PlainNode = nodes_view c.args.nodes.now.items in
    let mid : List PlainNode = nodes_view c.unfold.new.nodes.items in
    let new : List PlainNode = nodes_view c.unfold-in-Then.new.nodes.items in
    rw c.in-Then.is (IfOk-weaker c.join.result _ (Unfolds plain c.args.depth (then a b) old (nodes_view c.join.new.nodes.items))
    (λ part j. unfolds-then plain c.args.depth a b old mid new (nodes_view c.join.new.nodes.items) c.in_ok-left-in-Then.left c.in_ok-right-in-Then.right part
    (rw c.deref.ensures at c.in_ok-left-in-Then.ensures) (rw c.deref-in-Then.ensures at c.in_ok-right-in-Then.ensures) j) c.join.ensures)

pub unfold-returns-in_ok-right-in-Or : goal.unfold-returns-in_ok-right-in-Or
unfold-returns-in_ok-right-in-Or t c =
    let plain : List PlainDefinition = map definition_view c.args.names.now.definitions.now in
    let a : Regex = regex_of c.in-Or.one.value in
    let b : Regex = regex_of c.in-Or.other.value in
    let old : List PlainNode = nodes_view c.args.nodes.now.items in
    let mid : List PlainNode = nodes_view c.unfold-in-Or.new.nodes.items in
    let new : List PlainNode = nodes_view c.unfold-in-Or-2.new.nodes.items in
    rw c.in-Or.is (IfOk-weaker c.choose.result _ (Unfolds plain c.args.depth (or a b) old (nodes_view c.choose.new.nodes.items))
    (λ part j. unfolds-or plain c.args.depth a b old mid new (nodes_view c.choose.new.nodes.items) c.in_ok-left-in-Or.left c.in_ok-right-in-Or.right part
    (rw c.deref-in-Or.ensures at c.in_ok-left-in-Or.ensures) (rw c.deref-in-Or-2.ensures at c.in_ok-right-in-Or.ensures) j) c.choose.ensures)

pub unfold-returns-in_ok-part-in-Times : goal.unfold-returns-in_ok-part-in-Times
unfold-returns-in_ok-part-in-Times t c =
    let plain : List PlainDefinition = map definition_view c.args.names.now.definitions.now in
    let body : Regex = regex_of c.in-Times.body.value in
    let old : List PlainNode = nodes_view c.args.nodes.now.items in
    let new : List PlainNode = nodes_view c.unfold-in-Times.new.nodes.items in
    rw c.in-Times.is (IfOk-weaker c.repeat.result _ (Unfolds plain c.args.depth (times body c.in-Times.low c.in-Times.high) old (nodes_view c.repeat.new.nodes.items))
    (λ part j. unfolds-times plain c.args.depth body c.in-Times.low c.in-Times.high old new (nodes_view c.repeat.new.nodes.items) c.in_ok-part-in-Times.part part
    (rw c.deref-in-Times.ensures at c.in_ok-part-in-Times.ensures) j) c.repeat.ensures)

pub unfold-returns-in-Some : goal.unfold-returns-in-Some
unfold-returns-in-Some t c =
    let definitions : List Definition = c.args.names.now.definitions.now in
    let old : List PlainNode = nodes_view c.args.nodes.now.items in
    let new : List PlainNode = nodes_view c.unfold_definition.new.nodes.items in
    let at : place_of definitions c.in-Name.name.items ≡ Some c.in-Some.number = search rules in
    rw c.in-Name.is (IfOk-weaker c.unfold_definition.result _ (Unfolds (map definition_view definitions) c.args.depth (named c.in-Name.name.items) old new)
    (λ part h. unfolds-named definitions c.args.depth c.in-Name.name.items (Some c.in-Some.number) old new part at h) c.unfold_definition.ensures)

pub unfold-returns-in-None : goal.unfold-returns-in-None
unfold-returns-in-None t c =
    let definitions : List Definition = c.args.names.now.definitions.now in
    let old : List PlainNode = nodes_view c.args.nodes.now.items in
    let at : place_of definitions c.in-Name.name.items ≡ None = search rules in
    rw c.in-Name.is (unfolds-named definitions c.args.depth c.in-Name.name.items None old old _ at (unfolds-undefined (map definition_view definitions) c.args.depth None old old _ refl))

pub unfold_definition-unfold-requires : goal.unfold_definition-unfold-requires
unfold_definition-unfold-requires t c =
    let definitions : List Definition = c.args.names.now.definitions.now in
    let at : slice_get definitions c.args.number ≡ Some c.in-Some.definition.now = read_at definitions c.args.number c.in-Some.definition.now c.in-Some.ensures.lookup.0 c.in-Some.ensures.lookup.1 in
    let le : tree_size c.in-Some.definition.now.expr ≤ all_sizes definitions = size_le definitions c.args.number c.in-Some.definition.now at in
    let deep : 0 < c.args.depth = (let h = c.if-depth-eq0.false in omega arith) in
    let less = name_falls definitions (tree_size c.in-Some.definition.now.expr) c.args.depth deep le in
    (search (rules, less), (omega arith, c.requires.fragments))

pub unfold_definition-returns-in-Some-Some : goal.unfold_definition-returns-in-Some-Some
unfold_definition-returns-in-Some-Some t c =
    let definitions : List Definition = c.args.names.now.definitions.now in
    let plain : List PlainDefinition = map definition_view definitions in
    let here : Definition = c.in-Some.definition.now in
    let old : List PlainNode = nodes_view c.args.nodes.now.items in
    let new : List PlainNode = nodes_view c.append_fragment.new.nodes.items in
    let at : slice_get definitions c.args.number ≡ Some here = read_at definitions c.args.number here c.in-Some.ensures.lookup.0 c.in-Some.ensures.lookup.1 in
    let is : tree_at definitions (Some c.args.number) ≡ Some (regex_of here.expr) = ap (option_map (λ (d : Definition). regex_of d.expr)) at in
    let filled : slice_get c.args.fragments.now c.args.number ≡ Some (Some c.in-Some-Some.fragment)
    = read_at c.args.fragments.now c.args.number c.in-Some-Some.field-0.now c.in-Some-Some.ensures.lookup.0 c.in-Some-Some.ensures.lookup.1 ∙ ap (λ (o : Option Fragment). Some o) c.in-Some-Some.field-0-is in
    let right = c.requires.fragments.at c.args.number c.in-Some-Some.fragment here filled at in
    copied c.append_fragment.result c.in-Some-Some.fragment.part (c.append_fragment.new.nodes.items ≡ c.args.nodes.now.items ++ c.in-Some-Some.fragment.nodes.items) (UnfoldsName plain c.args.depth (tree_at definitions (Some c.args.number)) old new)
    (λ part e f. unfolds-copied plain c.args.depth (tree_at definitions (Some c.args.number)) (regex_of here.expr) old new (nodes_view c.in-Some-Some.fragment.nodes.items) part c.in-Some-Some.fragment.part is c.requires.shallow right
    (ap nodes_view e ∙ map-append node_view c.args.nodes.now.items c.in-Some-Some.fragment.nodes.items) f) c.append_fragment.ensures.nodes c.append_fragment.ensures.part

pub unfold_definition-returns-in_default-get : goal.unfold_definition-returns-in_default-get
unfold_definition-returns-in_default-get t c =
    let definitions : List Definition = c.args.names.now.definitions.now in
    let plain : List PlainDefinition = map definition_view definitions in
    let here : Definition = c.in-Some.definition.now in
    let old : List PlainNode = nodes_view c.args.nodes.now.items in
    let new : List PlainNode = nodes_view c.unfold.new.nodes.items in
    let at : slice_get definitions c.args.number ≡ Some here = read_at definitions c.args.number here c.in-Some.ensures.lookup.0 c.in-Some.ensures.lookup.1 in
    let is : tree_at definitions (Some c.args.number) ≡ Some (regex_of here.expr) = ap (option_map (λ (d : Definition). regex_of d.expr)) at in
    let deep : 0 < c.args.depth = (let h = c.if-depth-eq0.false in omega arith) in
    IfOk-weaker c.unfold.result _ (UnfoldsName plain c.args.depth (tree_at definitions (Some c.args.number)) old new)
    (λ part h. unfolds-deeper plain c.args.depth (tree_at definitions (Some c.args.number)) (regex_of here.expr) old new part is deep h) c.unfold.ensures
