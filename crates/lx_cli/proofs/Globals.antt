-- Commands without global arguments.
use Rattle.std.proofs.Common.{◌≡◌, ◌||◌, Bool, true, false}

pub or_false : (a b : Bool) → a ≡ false → b ≡ false → (a || b) ≡ false
or_false false b first second = second
or_false true b first second = first
