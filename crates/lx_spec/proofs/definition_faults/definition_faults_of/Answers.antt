use Rattle.std.proofs.Common.{◌≡◌, ◌∙◌, ◌↔◌, ◌≤◌, ℕ, Bool, List, length, map, nat_le, ap, sym, subst, arith, get_or, false, true}
use Rattle.std.specs.Prelude.{IsTrue, slice_index}
use Rattle.std.proofs.lemmas.Bool.Decides.{nat_tests}
use Rattle.std.proofs.lemmas.List.{length-map}
use Rattle.lx_rules.specs.Limits.{max_name_depth}
use Rattle.lx_spec.specs.declared.graph.Mention.{Mention}
use Rattle.lx_spec.specs.Dictionary.{unreadable_marks, is_unreadable}
use Rattle.lx_spec.specs.views.Trees.{tree_view, trees_view}
use Rattle.lx_spec.specs.Graph.{IsMention, Leads, Follow, is_marked}
use Rattle.lx_spec.proofs.Marks.{deep_marks}
use Rattle.lx_spec.proofs.definition_faults.definition_faults_of.Goals as goal

moved : (new : List Bool) (ms ms' : List Mention) (marks marks' : List Bool) → ms ≡ ms' → marks ≡ marks' → ((i : ℕ) → IsTrue (is_marked new i) ↔ Leads ms marks i) → (i : ℕ) → IsTrue (is_marked new i) ↔ Leads ms' marks' i
moved new ms ms' marks marks' e f led = subst (λ (m : List Bool). (i : ℕ) → IsTrue (is_marked new i) ↔ Leads ms' m i) f (subst (λ (l : List Mention). (i : ℕ) → IsTrue (is_marked new i) ↔ Leads l marks i) e led)

deep_is : (too_deep : List Bool) (ds : List ℕ) (ms ms' : List Mention) → ms ≡ ms' → too_deep ≡ map (λ d. nat_le max_name_depth d) ds → ((i n : ℕ) → n ≤ max_name_depth → ((n ≤ slice_index ds i) ↔ Follow (IsMention ms) n i)) → (i : ℕ) → IsTrue (is_marked too_deep i) ↔ Follow (IsMention ms') max_name_depth i
deep_is too_deep ds ms ms' e f depths i =
    let at : is_marked too_deep i ≡ nat_le max_name_depth (slice_index ds i) = ap (λ (l : List Bool). get_or l i false) f ∙ deep_marks ds i in
    let d = depths i max_name_depth (omega arith) in (
      λ h. subst (λ (l : List Mention). Follow (IsMention l) max_name_depth i) e (d.0 (let t : nat_le max_name_depth (slice_index ds i) ≡ true = sym at ∙ h in let le : max_name_depth ≤ slice_index ds i = grind (arith, nat_tests) in le)),
      λ g. let le = d.1 (subst (λ (l : List Mention). Follow (IsMention l) max_name_depth i) (sym e) g) in at ∙ (let t : nat_le max_name_depth (slice_index ds i) ≡ true = grind (arith, nat_tests) in t),
    )

pub returns : goal.returns
returns c =
    let trees = ap trees_view c.deref.ensures.value in
    let no_reading : c.in_ok-no_reading.no_reading.items ≡ unreadable_marks (trees_view c.args.dictionary.now.trees.items) = c.in_ok-no_reading.ensures ∙ ap unreadable_marks trees in
    let incomplete : c.in_ok-incomplete.incomplete.items ≡ c.args.dictionary.now.incomplete.items = c.in_ok-incomplete.ensures.items ∙ c.deref-2.ensures.value in
    let count : length (trees_view c.args.dictionary.now.trees.items) ≡ length c.args.dictionary.now.trees.items = length-map c.args.dictionary.now.trees.items tree_view in
    let marked : length c.in_ok-no_reading.no_reading.items ≡ length (trees_view c.args.dictionary.now.trees.items) = ap length no_reading ∙ length-map (trees_view c.args.dictionary.now.trees.items) is_unreadable in
    let too_deep : c.in_ok-too_deep.too_deep.items ≡ map (λ d. nat_le max_name_depth d) c.in_ok-depths.depths.items = c.in_ok-too_deep.ensures ∙ ap (map (λ d. nat_le max_name_depth d)) c.deref-4.ensures.value in
    record {
      unreadable = moved c.in_ok-unreadable.unreadable.items c.deref-5.result.now c.args.dictionary.now.mentions.items c.in_ok-no_reading.no_reading.items (unreadable_marks (trees_view c.args.dictionary.now.trees.items)) c.deref-5.ensures.value no_reading c.in_ok-unreadable.ensures.led;
      undefined = moved c.in_ok-undefined.undefined.items c.deref-6.result.now c.args.dictionary.now.mentions.items c.in_ok-incomplete.incomplete.items c.args.dictionary.now.incomplete.items c.deref-6.ensures.value incomplete c.in_ok-undefined.ensures.led;
      too_deep = deep_is c.in_ok-too_deep.too_deep.items c.in_ok-depths.depths.items c.deref-3.result.now c.args.dictionary.now.mentions.items c.deref-3.ensures.value too_deep c.in_ok-depths.ensures.depths;
      unreadable_len = let h = c.in_ok-unreadable.ensures.len in omega (arith, h, marked);
      undefined_len = let h = c.in_ok-undefined.ensures.len in omega (arith, h, ap length incomplete, count, c.requires.same);
      too_deep_len = ap length too_deep ∙ length-map c.in_ok-depths.depths.items (λ d. nat_le max_name_depth d) ∙ (let h = c.in_ok-depths.ensures.len in omega (arith, h, count));
    }
