use Rattle.std.proofs.Common.{◌≡◌, ◌∙◌, ◌<◌, ◌↔◌, ℕ, List, length, map, vec_len, ap, sym, subst, arith}
use Rattle.std.specs.Prelude.{IsTrue, Contains, slice_index}
use Rattle.std.specs.List.{flat_map}
use Rattle.std.proofs.lemmas.List.{length-map}
use Rattle.std.proofs.lemmas.Result.{IfOk-weaker}
use Rattle.lx_spec.specs.Dictionary.{row_of, mentions_of}
use Rattle.lx_spec.specs.views.Dictionaries.{dictionary_view}
use Rattle.lx_spec.specs.Graph.{AreBelow, Leads, is_marked}
use Rattle.lx_spec.specs.Outcome.{IsReached, patterns_in}
use Rattle.lx_spec.specs.views.ResolvedRules.{resolved_view}
use Rattle.lx_spec.specs.views.Sections.{raw_definition_view}
use Rattle.lx_spec.specs.declared.graph.Mention.{Mention}
use Rattle.lx_spec.proofs.Below.{trees-length, dictionary-below}
use Rattle.lx_spec.proofs.Reached.{turned, turned-below, rows-within, led-is_reached}
use Rattle.lx_spec.proofs.reach.reached_of.Goals as goal

pub marks_at-requires : goal.marks_at-requires
marks_at-requires c = λ k less.
    let raw_definitions = map raw_definition_view c.args.index.now.definitions.now in
    let row : c.deref-2.result.now ≡ flat_map (row_of raw_definitions) (patterns_in (map resolved_view c.args.resolved.now)) = c.deref-2.ensures.value ∙ c.in_ok-row.ensures in
    let within = rows-within raw_definitions (patterns_in (map resolved_view c.args.resolved.now)) k (subst (λ (l : List ℕ). k < length l) row less) in
    let at : slice_index c.deref-2.result.now k ≡ slice_index (flat_map (row_of raw_definitions) (patterns_in (map resolved_view c.args.resolved.now))) k = ap (λ (l : List ℕ). slice_index l k) row in
    omega (arith, within, at, length-map c.args.index.now.definitions.now raw_definition_view)

pub spread-requires : goal.spread-requires
spread-requires c =
    let raw_definitions = map raw_definition_view c.args.index.now.definitions.now in
    let known = dictionary_view c.args.dictionary.now in
    let ms : c.deref-3.result.now ≡ map turned c.args.dictionary.now.mentions.items = c.deref-3.ensures.value ∙ c.in_ok-turned.ensures ∙ ap (map turned) c.deref.ensures.value in
    let count : length known.trees ≡ vec_len c.in_ok-marks.marks = trees-length raw_definitions known.trees c.requires.trees ∙ length-map c.args.index.now.definitions.now raw_definition_view ∙ sym c.in_ok-marks.ensures.len in
    subst (λ (l : List Mention). AreBelow l (vec_len c.in_ok-marks.marks)) (sym ms) (subst (λ (n : ℕ). AreBelow (map turned c.args.dictionary.now.mentions.items) n) count (turned-below c.args.dictionary.now.mentions.items (length known.trees) (dictionary-below raw_definitions known c.requires)))

pub returns-clause-reached : goal.returns-clause-reached
returns-clause-reached c =
    let raw_definitions = map raw_definition_view c.args.index.now.definitions.now in
    let known = dictionary_view c.args.dictionary.now in
    let from = patterns_in (map resolved_view c.args.resolved.now) in
    let row : c.deref-2.result.now ≡ flat_map (row_of raw_definitions) from = c.deref-2.ensures.value ∙ c.in_ok-row.ensures in
    let ms : c.deref-3.result.now ≡ map turned (mentions_of raw_definitions known.trees) = c.deref-3.ensures.value ∙ c.in_ok-turned.ensures ∙ ap (map turned) (c.deref.ensures.value ∙ c.requires.mentions) in
    let set : (i : ℕ) → IsTrue (is_marked c.in_ok-marks.marks.items i) ↔ Contains (flat_map (row_of raw_definitions) from) i = subst (λ (l : List ℕ). (i : ℕ) → IsTrue (is_marked c.in_ok-marks.marks.items i) ↔ Contains l i) row c.in_ok-marks.ensures.set in
    IfOk-weaker c.spread.result
    (λ v. (i : ℕ) → IsTrue (is_marked v.items i) ↔ Leads c.deref-3.result.now c.in_ok-marks.marks.items i)
    (λ v. (i : ℕ) → IsTrue (is_marked v.items i) ↔ IsReached raw_definitions known.trees from i)
    (λ v. led-is_reached raw_definitions known.trees from c.in_ok-marks.marks.items set c.deref-3.result.now ms v.items) c.spread.ensures.led
