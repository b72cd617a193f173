use Rattle.std.proofs.Common.{◌-◌, ◌≤◌, length, arith}
use Rattle.std.proofs.lemmas.Fmt.{length-decimal-le}
use Rattle.lx_tables.specs.Texts.{number}
use Rattle.lx_tables.proofs.lines.place_entry.Goals as goal

pub place_number-target-requires : goal.place_number-target-requires
place_number-target-requires c =
    let fits = c.ranges.encoded_option.fits in
    let room = c.requires.room in
    let few : length (number (c.args.encoded_option - 1)) ≤ 5 = length-decimal-le 5 (c.args.encoded_option - 1) (omega arith) (omega arith) (omega arith) in
    record { room = omega arith; within = c.requires.within }

pub place_number-requires-clause-room : goal.place_number-requires-clause-room
place_number-requires-clause-room c =
    let fits = c.ranges.encoded_option.fits in
    let room = c.requires.room in
    let first = c.place_number-target.ensures.begin in
    let few : length (number (c.args.encoded_option - 1)) ≤ 5 = length-decimal-le 5 (c.args.encoded_option - 1) (omega arith) (omega arith) (omega arith) in
    let small : length (number c.args.class) ≤ 3 = length-decimal-le 3 c.args.class (omega arith) (let below = c.requires.class in omega arith) (let below = c.requires.class in omega arith) in
    omega arith

pub returns-clause-short : goal.returns-clause-short
returns-clause-short c =
    let fits = c.ranges.encoded_option.fits in
    let first = c.place_number-target.ensures.begin in
    let second = c.place_number.ensures.begin in
    let few : length (number (c.args.encoded_option - 1)) ≤ 5 = length-decimal-le 5 (c.args.encoded_option - 1) (omega arith) (omega arith) (omega arith) in
    let small : length (number c.args.class) ≤ 3 = length-decimal-le 3 c.args.class (omega arith) (let below = c.requires.class in omega arith) (let below = c.requires.class in omega arith) in
    omega arith
