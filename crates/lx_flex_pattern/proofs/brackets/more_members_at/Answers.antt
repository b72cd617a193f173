use Rattle.std.proofs.Common.{◌≡◌, ℕ, false, suc, ◌+◌, ◌-◌, [], ◌∷◌, ◌++◌, Some, map, sym, ap, subst, ◌∙◌, arith, drop, length, append-nil, append_assoc}
use Rattle.std.proofs.lemmas.List.{map-append}
use Rattle.std.specs.Option.{option_map}
use Rattle.lx_ere.specs.ScanLaws.{Fueled, fuel_start, fuel_end, fuel_none, fuel_step, fuel_out}
use Rattle.lx_flex_pattern.specs.Members.{member_of}
use Rattle.lx_flex_pattern.specs.Spelling.{member_at}
use Rattle.lx_flex_pattern.proofs.brackets.more_members_at.Goals as goal

pub loop-byte-init : goal.loop-byte-init
loop-byte-init c =
    let e : length c.args.text.now ≡ length c.args.text.now - 0 = omega arith in
    ([], sym (append-nil (map member_of c.args.members.items)), subst (λ n. Fueled (member_at false c.args.fold) 93 c.args.text.now [] (suc n) c.args.text.now) e (fuel_start (member_at false c.args.fold) 93 c.args.text.now))

pub returns-then-begins_with : goal.returns-then-begins_with
returns-then-begins_with c =
    let i = c.loop-byte.invariant in
    rw c.skip.ensures (ap (λ ms. Some (ms, drop 1 c.loop-byte.rest.now)) i.1 ∙ sym (ap (option_map (λ g. (map member_of c.args.members.items ++ g.0, g.1)))
    (fuel_end (member_at false c.args.fold) 93 c.args.text.now i.0 (length c.args.text.now - c.loop-byte._byte-index) c.loop-byte.rest.now (sym c.begins_with.ensures ∙ c.if-begins_with.true) i.2)))

pub returns-in_default : goal.returns-in_default
returns-in_default c =
    let i = c.loop-byte.invariant in
    sym (ap (option_map (λ g. (map member_of c.args.members.items ++ g.0, g.1)))
    (fuel_none (member_at false c.args.fold) 93 c.args.text.now i.0 (length c.args.text.now - c.loop-byte._byte-index) c.loop-byte.rest.now (sym c.begins_with.ensures ∙ c.if-begins_with.false) (sym c.in_default.ensures) i.2))

pub loop-byte-preserved : goal.loop-byte-preserved
loop-byte-preserved c =
    let i = c.loop-byte.invariant in
    let at : ℕ = c.loop-byte._byte-index in
    let e : length c.args.text.now - at ≡ suc (length c.args.text.now - (at + 1)) = omega arith in (
      i.0 ++ member_of c.in-Some.member ∷ [],
      ap (map member_of) c.in_ok-push.ensures.items ∙ (map-append member_of c.loop-byte.members.items (c.in-Some.member ∷ []) ∙ (ap (λ ms. ms ++ member_of c.in-Some.member ∷ []) i.1 ∙ append_assoc (map member_of c.args.members.items) i.0 (member_of c.in-Some.member ∷ []))),
      subst (λ n. Fueled (member_at false c.args.fold) 93 c.args.text.now (i.0 ++ member_of c.in-Some.member ∷ []) n c.in-Some.behind.now) e
          (fuel_step (member_at false c.args.fold) 93 c.args.text.now i.0 (length c.args.text.now - at) c.loop-byte.rest.now (member_of c.in-Some.member) c.in-Some.behind.now (sym c.begins_with.ensures ∙ c.if-begins_with.false) (sym c.in-Some.ensures) i.2),
    )

pub returns-then-begins_with-2 : goal.returns-then-begins_with-2
returns-then-begins_with-2 c =
    let i = c.loop-byte.invariant in
    rw c.skip-then-begins_with-2.ensures (ap (λ ms. Some (ms, drop 1 c.loop-byte.rest.now)) i.1 ∙ sym (ap (option_map (λ g. (map member_of c.args.members.items ++ g.0, g.1)))
    (fuel_end (member_at false c.args.fold) 93 c.args.text.now i.0 (length c.args.text.now - c.loop-byte._byte-index) c.loop-byte.rest.now (sym c.begins_with-2.ensures ∙ c.if-begins_with-2.true) i.2)))

pub returns : goal.returns
returns c =
    let i = c.loop-byte.invariant in
    let e : length c.args.text.now - c.loop-byte._byte-index ≡ 0 = omega arith in
    sym (ap (option_map (λ g. (map member_of c.args.members.items ++ g.0, g.1)))
    (fuel_out (member_at false c.args.fold) 93 c.args.text.now i.0 c.loop-byte.rest.now (sym c.begins_with-2.ensures ∙ c.if-begins_with-2.false)
    (subst (λ n. Fueled (member_at false c.args.fold) 93 c.args.text.now i.0 (suc n) c.loop-byte.rest.now) e i.2)))
