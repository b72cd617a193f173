use Rattle.std.proofs.Common.{◌≤◌, arith, drop, length, length-drop, length-take-le, take}
use Rattle.lx_line.proofs.Unescaped.{count_few, count_plain, mask_counted, mask_small}
use Rattle.lx_forms.specs.JsonLines.{string_escaped}
use Rattle.lx_forms.proofs.PlainStrings.{as_it_is, is_escaped, mask_of}
use Rattle.lx_forms.proofs.strings.StringEscapeEscape.plain_16.Goals as goal

pub overflow_add-result : goal.overflow_add-result
overflow_add-result c =
    let rest = drop c.args.from c.args.src.now in
    let long : 16 ≤ length rest = omega (arith, length-drop c.args.from c.args.src.now) in
    let small = mask_small is_escaped rest _ long (mask_of (take 16 rest) (length-take-le 16 rest long)) in
    omega (arith, small)

pub returns-clause-few : goal.returns-clause-few
returns-clause-few c =
    let rest = drop c.args.from c.args.src.now in
    let long : 16 ≤ length rest = omega (arith, length-drop c.args.from c.args.src.now) in
    count_few is_escaped rest _ long (mask_counted is_escaped rest _ long (mask_of (take 16 rest) (length-take-le 16 rest long)))

pub returns-clause-plain : goal.returns-clause-plain
returns-clause-plain c = λ n few.
    let rest = drop c.args.from c.args.src.now in
    let long : 16 ≤ length rest = omega (arith, length-drop c.args.from c.args.src.now) in
    count_plain is_escaped string_escaped as_it_is rest _ n long (mask_counted is_escaped rest _ long (mask_of (take 16 rest) (length-take-le 16 rest long))) few
