-- The meaning of the code's open groups.
use Rattle.std.specs.Prelude.{map, reverse}
use Rattle.std.specs.Option.{option_map}
use Rattle.lx_ere.specs.Regex.{regex_of}
use Rattle.lx_ere.specs.declared.groups.Frame as code
use Rattle.lx_ere.specs.declared.groups.Groups.{Groups}
use Rattle.lx_ere.specs.Stacks.{Frame, frame, Stack, stack}

abbrev pub frame_of : code.Frame → Frame
frame_of f = frame (option_map regex_of f.before) (option_map regex_of f.branch) (option_map regex_of f.unit)

abbrev pub groups_of : Groups → Stack
groups_of g = stack (frame_of g.top) (map frame_of (reverse g.below.items))
