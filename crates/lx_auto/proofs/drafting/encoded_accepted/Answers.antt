use Rattle.std.proofs.Common.{◌≡◌, ℕ, None, map, replicate, rules, ◌∙◌, ap, sym}
use Rattle.std.proofs.lemmas.List.{append-nil}
use Rattle.lx_auto.proofs.DraftLists.{none_encoded}
use Rattle.lx_automaton.specs.EncodedOptions.{decoded_option}
use Rattle.lx_auto.proofs.drafting.encoded_accepted.Goals as goal

pub loop-rule-init : goal.loop-rule-init
loop-rule-init c =
    let zeros : c.in_ok-encoded.encoded.items ≡ replicate {A = ℕ} c.args.starts 0 = search rules in
    ap (map decoded_option) zeros ∙ none_encoded c.args.starts ∙ sym (append-nil (replicate c.args.starts None))
