use Rattle.std.proofs.Common.{append_assoc, arith, length, subst, ◌<◌, ◌≡◌, ◌∙◌}
use Rattle.std.specs.List.{flat_map, range_with_len}
use Rattle.std.specs.Prelude.{codes}
use Rattle.lx_c.proofs.Texts.{text_end}
use Rattle.lx_lex.specs.Arrays.{entry_text}
use Rattle.lx_lex.specs.Lists.{place_of}
use Rattle.lx_lex.proofs.list_arrays.push_places.Goals as goal

pub returns-clause-places : goal.returns-clause-places
returns-clause-places c =
    let lists = c.args.all.now in
    text_end _ _ _ (length lists) _ c.loop-number.invariant.0 (omega arith)
    ∙ append_assoc c.args.text.now.items (codes "0,") (flat_map (λ k. entry_text (place_of lists k)) (range_with_len 0 (length lists)))

pub returns-clause-small : goal.returns-clause-small
returns-clause-small c =
    let lists = c.args.all.now in
    let last : c.loop-number.number ≡ length lists = omega arith in
    subst (λ n. place_of lists n < 4294967296) last (subst (λ p. p < 4294967296) c.loop-number.invariant.1 c.loop-number.invariant.2)
