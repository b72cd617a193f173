use Rattle.std.proofs.Common.{◌≡◌, ℕ, List, ◌++◌, ◌+◌, ◌-◌, refl, sym, ◌∙◌, ap, subst, drop, take, length, arith, append-nil, length-drop}
use Rattle.std.proofs.lemmas.List.{drop_all, take_all}
use Rattle.lx_tool.specs.Names.{bytes_after, carried_byte, carries_byte, name_bytes}
use Rattle.lx_tool.proofs.NameBytes.{next_carried, next_passed, next_plain, none_after}
use Rattle.lx_tool.proofs.names.name_bytes.Goals as goal
use Rattle.lx_tool.proofs.names.name_bytes.Goals.{then-passed-gt0, else-passed-gt0+then-carries_byte+in_ok-push, else-passed-gt0+else-carries_byte+in_ok-push-2}

pub loop-i-preserved : goal.loop-i-preserved
loop-i-preserved c =
    let text = c.as_bytes-text.result.now in
    let bytes = c.loop-i.bytes.items in
    let i = c.loop-i.i in
    let l = c.loop-i-test.true in
    let rest : take (length text - i) (drop i text) ≡ drop i text = take_all (length text - i) (drop i text) (omega (arith, length-drop i text)) in
    let none_passed : c.loop-i.passed ≡ 0 → bytes ++ bytes_after 0 (drop i text) ≡ name_bytes text =
    λ z. subst (λ (n : ℕ). bytes ++ bytes_after n (drop i text) ≡ name_bytes text) z c.loop-i.invariant in
    elim c.if-passed-gt0.branch [
      | then-passed-gt0 w ↦ rw (w.bytes-is, w.passed-is) (next_passed text i l bytes (name_bytes text) c.loop-i.passed w.if-passed-gt0.true c.loop-i.invariant)
      | else-passed-gt0+then-carries_byte+in_ok-push w ↦
          rw (w.bytes-is, w.passed-is) (next_carried text i l bytes (name_bytes text) w.carried_byte.result w.push.new.self.items (sym (ap carries_byte rest) ∙ sym w.carries_byte.ensures ∙ w.if-carries_byte.true) (w.carried_byte.ensures ∙ ap carried_byte rest) w.in_ok-push.ensures.items
          (none_passed (let p = w.if-passed-gt0.false in omega (arith, p))))
      | else-passed-gt0+else-carries_byte+in_ok-push-2 w ↦
          let none : c.loop-i.passed ≡ 0 = let p = w.if-passed-gt0.false in omega (arith, p) in
          rw (w.bytes-is, w.passed-is) (subst (λ (n : ℕ). w.push-else-carries_byte.new.self.items ++ bytes_after n (drop (i + 1) text) ≡ name_bytes text) (sym none)
          (next_plain text i l bytes (name_bytes text) _ w.push-else-carries_byte.new.self.items (sym (ap carries_byte rest) ∙ sym w.carries_byte.ensures ∙ w.if-carries_byte.false) refl w.in_ok-push-2.ensures.items (none_passed none)))
    ]

pub returns : goal.returns
returns c =
    let text = c.as_bytes-text.result.now in
    let bytes = c.loop-i.bytes.items in
    sym (append-nil bytes) ∙ ap (λ (bs : List ℕ). bytes ++ bs) (sym (ap (bytes_after c.loop-i.passed) (drop_all c.loop-i.i text (let e = c.loop-i-test.false in omega (arith, e))) ∙ none_after c.loop-i.passed))
    ∙ c.loop-i.invariant ∙ ap name_bytes c.as_bytes-text.ensures.value
