-- The form in which an interval with a large bound is kept.
use Rattle.std.proofs.Common.{◌≡◌, ℕ, ◌+◌, ◌-◌, ◌*◌, ◌/◌, ◌%◌, ◌<◌, ◌≤◌, Some, None, arith}
use Rattle.lx_ere.specs.Regex.{Regex, then, times}
use Rattle.lx_flex_pattern.specs.Intervals.{IsKeptAs, block, as_blocks, as_blocks_before, as_some_blocks_before, as_blocks_at_least}

pub exact_blocks : (t r q : Regex) (n : ℕ) → 255 < n → n % 64 ≡ 0 → q ≡ times (block r) (n / 64) (Some (n / 64)) → IsKeptAs t r → IsKeptAs (times t n (Some n)) q
exact_blocks t r q n large none is m = rw is (as_blocks t r n (n / 64) m large (omega (arith, none)))

pub exact_before : (t r q : Regex) (n : ℕ) → 255 < n → q ≡ then (times (block r) (n / 64) (Some (n / 64))) (times r (n % 64) (Some (n % 64))) → IsKeptAs t r → IsKeptAs (times t n (Some n)) q
exact_before t r q n large is m = rw is (as_blocks_before t r n n (n / 64) (n % 64) (n % 64) m large (omega arith) (omega arith))

pub near_before : (t r q : Regex) (n h : ℕ) → n ≤ h → 255 < h → q ≡ then (times (block r) (n / 64) (Some (n / 64))) (times r (n % 64) (Some (h - n / 64 * 64))) → IsKeptAs t r → IsKeptAs (times t n (Some h)) q
near_before t r q n h ordered large is m = rw is (as_blocks_before t r n h (n / 64) (n % 64) (h - n / 64 * 64) m large (omega arith) (omega (arith, ordered)))

pub far_before : (t r q : Regex) (n h : ℕ) → n ≤ h → 255 < h → 255 < h - n / 64 * 64 →
    q ≡ then (times (block r) (n / 64) (Some (n / 64 + (h - n / 64 * 64 - n % 64 - 63) / 64))) (times r (n % 64) (Some (n % 64 + 63 + (h - n / 64 * 64 - n % 64 - 63) % 64))) →
    IsKeptAs t r → IsKeptAs (times t n (Some h)) q
far_before t r q n h ordered large far is m =
    rw is (as_some_blocks_before t r n h (n / 64) (n / 64 + (h - n / 64 * 64 - n % 64 - 63) / 64) (n % 64) (n % 64 + 63 + (h - n / 64 * 64 - n % 64 - 63) % 64) m large
    (omega arith) (omega (arith, ordered, far)) (omega arith) (omega arith))

pub least_before : (t r q : Regex) (n : ℕ) → 255 < n → q ≡ then (times (block r) (n / 64) (Some (n / 64))) (times r (n % 64) None) → IsKeptAs t r → IsKeptAs (times t n None) q
least_before t r q n large is m = rw is (as_blocks_at_least t r n (n / 64) (n % 64) m large (omega arith))
