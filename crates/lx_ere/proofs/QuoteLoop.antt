-- The state of the loop over the bytes of a quoted string.
use Rattle.std.proofs.Common.{ℕ, ◌<◌, List, length, Some, ◌≡◌}
use Rattle.lx_ere.specs.Spelling.{QuotedByte}
use Rattle.lx_ere.specs.Lexing.{quoted_byte_at}
use Rattle.lx_ere.proofs.SpellingLemmas.{quoted_byte_complete, quoted_byte_sound, quoted_byte_some, quoted_byte_closes}
use Rattle.lx_ere.proofs.SequenceLemmas.{item_shorter}

pub quoted_shorter : (text : List ℕ) (c : ℕ) (behind : List ℕ) → quoted_byte_at text ≡ Some (c, behind) → length behind < length text
quoted_shorter text c behind e = item_shorter QuotedByte quoted_byte_at 34 quoted_byte_complete quoted_byte_sound quoted_byte_some quoted_byte_closes text c behind e
