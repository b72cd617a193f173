use Rattle.std.proofs.Common.{◌≡◌, ◌-◌, inr, refl, ap, subst, vec_len}
use Rattle.lx_forms.specs.NameLists.{IsNoList, IsNoName}
use Rattle.lx_piece.specs.Plans.{max_files}
use Rattle.lx_cli.specs.CommandLine.{plain_list}
use Rattle.lx_tool.specs.Sources.{texts_of}
use Rattle.lx_tool.proofs.NameListLemmas.{list_says, names_of_list}
use Rattle.lx_tool.proofs.asked.push_listed.Goals as goal

pub returns-in-Ok-clause-ok : goal.returns-in-Ok-clause-ok
returns-in-Ok-clause-ok g c =
    let front = c.in_ok-text.field-0.items in
    let same : max_files - c.len-most.result ≡ max_files - vec_len c.args.names.now = ap (λ k. max_files - k) c.len-most.ensures in
    let said = rw c.deref.ensures.value at c.in-Ok.ensures in
    names_of_list g.S.Sources.gives (plain_list c.args.list) c.args.sources.now c.read_name_list.new.sources front (max_files - c.len-most.result) (max_files - vec_len c.args.names.now) same c.in_ok-text.ensures.ok
    (texts_of c.args.names.now.items) (texts_of c.push_names.new.names.items) said.ok (λ text is_front. said.ok_of_front text c.requires is_front)

pub returns-in-Err-NoName-clause-err : goal.returns-in-Err-NoName-clause-err
returns-in-Err-NoName-clause-err g c =
    let front = c.in_ok-text.field-0.items in
    let same : max_files - c.len-most.result ≡ max_files - vec_len c.args.names.now = ap (λ k. max_files - k) c.len-most.ensures in
    let said = rw c.deref.ensures.value at c.in-Err-NoName.ensures in
    inr
    (inr
    (inr (
      c.in-Err-NoName.line,
      c.args.list.name,
      refl,
      refl,
      list_says g.S.Sources.gives (plain_list c.args.list) c.args.sources.now c.read_name_list.new.sources front (max_files - c.len-most.result) (max_files - vec_len c.args.names.now) same
          c.in_ok-text.ensures.ok (λ text. IsNoName c.args.list.separator text c.in-Err-NoName.line) (λ text is_front. (subst (IsNoList c.args.list.separator text (max_files - vec_len c.args.names.now)) c.in-Err-NoName.field-0-is (said.err_of_front text is_front)).0),
    )))
