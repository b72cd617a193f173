use Rattle.std.proofs.Common.{◌<◌, length, map, refl, ap, ◌∙◌, arith}
use Rattle.std.proofs.lemmas.Grind.{common_steps}
use Rattle.std.proofs.lemmas.List.{map-append}
use Rattle.lx_ere.specs.Lexemes.{lexeme_of}
use Rattle.lx_flex_pattern.proofs.StringLemmas.{string_more, string_end}
use Rattle.lx_flex_pattern.proofs.lexing.string_lexemes.Goals as goal

pub loop-byte-init : goal.loop-byte-init
loop-byte-init c = rw (c.in_ok-push-2.ensures.items, c.new-lexemes.ensures.items) refl

pub loop-byte-preserved : goal.loop-byte-preserved
loop-byte-preserved c =
    string_more c.args.fold c.args.bytes.now c.loop-byte.byte-index _ _ _ _ c.loop-byte-test.true c.loop-byte.invariant c.byte_set.ensures
    (ap (map lexeme_of) c.in_ok-push-3.ensures.items ∙ map-append lexeme_of _ _)

pub returns : goal.returns
returns c =
    let e = c.is_empty.ensures in
    let f = c.if-is_empty.false in
    let some : 0 < length c.args.bytes.now = grind (arith, common_steps) in
    string_end c.args.fold c.args.bytes.now c.loop-byte.byte-index _ _ (omega arith) some c.loop-byte.invariant
    (ap (map lexeme_of) c.in_ok-push-4.ensures.items ∙ map-append lexeme_of _ _)
