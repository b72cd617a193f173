-- The meaning of the code's members of brackets.
use Rattle.std.specs.Prelude.{[]}
use Rattle.lx_flex_pattern.specs.declared.brackets.BracketMember.{BracketMember}
use Rattle.lx_flex_pattern.specs.declared.brackets.BracketMember.TheVariants as code
use Rattle.lx_flex_pattern.specs.Sets.{Member, range, among, outside}

abbrev pub member_of : BracketMember → Member
member_of (code.Range low high) = range low high
member_of (code.Among ranges) = among ranges.now
member_of (code.Outside ranges) = outside ranges.now
member_of code.Ambiguous = among []
