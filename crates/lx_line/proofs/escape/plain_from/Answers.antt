use Rattle.std.proofs.Common.{◌≤◌, arith, drop, length, length-drop, length-take-le, take}
use Rattle.lx_line.proofs.Unescaped.{as_it_is, count_few, count_plain, is_escaped, mask_counted, mask_of, mask_small}
use Rattle.lx_line.proofs.escape.plain_from.Goals as goal

pub overflow_add-result : goal.overflow_add-result
overflow_add-result c =
    let rest = drop c.args.from c.args.src.now in
    let long : 16 ≤ length rest = omega (arith, length-drop c.args.from c.args.src.now) in
    let small = mask_small (is_escaped c.args.least) rest _ long (mask_of c.args.least (take 16 rest) (length-take-le 16 rest long)) in
    omega (arith, small)

pub returns-clause-few : goal.returns-clause-few
returns-clause-few c =
    let rest = drop c.args.from c.args.src.now in
    let long : 16 ≤ length rest = omega (arith, length-drop c.args.from c.args.src.now) in
    count_few (is_escaped c.args.least) rest _ long (mask_counted (is_escaped c.args.least) rest _ long (mask_of c.args.least (take 16 rest) (length-take-le 16 rest long)))

pub returns-clause-plain : goal.returns-clause-plain
returns-clause-plain c = λ shown plain n few.
    let rest = drop c.args.from c.args.src.now in
    let long : 16 ≤ length rest = omega (arith, length-drop c.args.from c.args.src.now) in
    count_plain (is_escaped c.args.least) shown (λ x e. as_it_is c.args.least x shown plain e) rest _ n long (mask_counted (is_escaped c.args.least) rest _ long (mask_of c.args.least (take 16 rest) (length-take-le 16 rest long))) few
