use Rattle.std.proofs.Common.{◌≡◌, ℕ, ◌+◌, ◌-◌, List, ◌++◌, length, take, drop, sym, ◌∙◌, ap, arith}
use Rattle.std.specs.List.{flat_map}
use Rattle.std.proofs.Math.Seq.{take-add}
use Rattle.std.proofs.lemmas.Grind.{flat_map-append}
use Rattle.std.proofs.lemmas.List.{take_all}
use Rattle.lx_line.proofs.Places.{Placed-is, Placed-then}
use Rattle.lx_line.proofs.texts.place_any_text.Goals as goal

-- a text in two parts
text_whole : (escape : ℕ → List ℕ) (text : List ℕ) (front rest : ℕ) → front + rest ≡ length text → flat_map escape (take front text) ++ flat_map escape (take rest (drop front text)) ≡ flat_map escape text
text_whole escape text front rest e =
    sym (flat_map-append escape (take front text) (take rest (drop front text)))
    ∙ ap (flat_map escape) (sym (take-add front rest text) ∙ take_all (front + rest) text (omega arith))

pub returns-clause-placed : goal.returns-clause-placed
returns-clause-placed g c =
    let text = c.args.text.now in
    let front = length text - 16 in
    Placed-is (Placed-then c.place_text-end.ensures.placed c.place_copied-2.ensures.placed) (text_whole g.E.Escape.shown text front (length text - front) (let long = c.if-text-le16.false in omega arith))
