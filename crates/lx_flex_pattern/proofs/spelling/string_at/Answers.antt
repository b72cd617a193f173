use Rattle.std.proofs.Common.{◌≡◌, ℕ, suc, ◌+◌, ◌-◌, [], ◌∷◌, ◌++◌, sym, subst, ◌∙◌, arith, length}
use Rattle.lx_ere.specs.ScanLaws.{Fueled, fuel_start, fuel_end, fuel_none, fuel_step, fuel_out}
use Rattle.lx_flex_pattern.specs.Spelling.{point_at}
use Rattle.lx_flex_pattern.proofs.spelling.string_at.Goals as goal

pub loop-byte-init : goal.loop-byte-init
loop-byte-init c =
    let e : length c.args.text.now ≡ length c.args.text.now - 0 = omega arith in
    rw c.new-bytes.ensures.items (subst (λ n. Fueled point_at 34 c.args.text.now [] (suc n) c.args.text.now) e (fuel_start point_at 34 c.args.text.now))

pub returns-then-begins_with : goal.returns-then-begins_with
returns-then-begins_with c =
    rw c.skip.ensures (sym (fuel_end point_at 34 c.args.text.now c.loop-byte.bytes.items (length c.args.text.now - c.loop-byte._byte-index) c.loop-byte.rest.now (sym c.begins_with.ensures ∙ c.if-begins_with.true) c.loop-byte.invariant))

pub returns-in_default : goal.returns-in_default
returns-in_default c =
    sym (fuel_none point_at 34 c.args.text.now c.loop-byte.bytes.items (length c.args.text.now - c.loop-byte._byte-index) c.loop-byte.rest.now (sym c.begins_with.ensures ∙ c.if-begins_with.false) (sym c.in_default.ensures) c.loop-byte.invariant)

pub loop-byte-preserved : goal.loop-byte-preserved
loop-byte-preserved c =
    let at : ℕ = c.loop-byte._byte-index in
    let e : length c.args.text.now - at ≡ suc (length c.args.text.now - (at + 1)) = omega arith in
    rw c.in_ok-push.ensures.items
    (subst (λ n. Fueled point_at 34 c.args.text.now (c.loop-byte.bytes.items ++ c.in-Some.byte ∷ []) n c.in-Some.behind.now) e
    (fuel_step point_at 34 c.args.text.now c.loop-byte.bytes.items (length c.args.text.now - at) c.loop-byte.rest.now c.in-Some.byte c.in-Some.behind.now (sym c.begins_with.ensures ∙ c.if-begins_with.false) (sym c.in-Some.ensures) c.loop-byte.invariant))

pub returns-then-begins_with-2 : goal.returns-then-begins_with-2
returns-then-begins_with-2 c =
    rw c.skip-then-begins_with-2.ensures (sym (fuel_end point_at 34 c.args.text.now c.loop-byte.bytes.items (length c.args.text.now - c.loop-byte._byte-index) c.loop-byte.rest.now (sym c.begins_with-2.ensures ∙ c.if-begins_with-2.true) c.loop-byte.invariant))

pub returns : goal.returns
returns c =
    let e : length c.args.text.now - c.loop-byte._byte-index ≡ 0 = omega arith in
    sym (fuel_out point_at 34 c.args.text.now c.loop-byte.bytes.items c.loop-byte.rest.now (sym c.begins_with-2.ensures ∙ c.if-begins_with-2.false)
    (subst (λ n. Fueled point_at 34 c.args.text.now c.loop-byte.bytes.items (suc n) c.loop-byte.rest.now) e c.loop-byte.invariant))
