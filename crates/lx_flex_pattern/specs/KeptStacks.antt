-- The stack of open groups, as it is written and as it is kept.
use Rattle.std.specs.Prelude.{List, [], ◌∷◌, Option, Some, None}
use Rattle.lx_ere.specs.Stacks.{Frame, Stack}
use Rattle.lx_flex_pattern.specs.Intervals.{AreKeptAs}

pub record IsKeptFrame (written kept : Frame) : Type 0 where
  pub before : AreKeptAs written.before kept.before
  pub branch : AreKeptAs written.branch kept.branch
  pub unit : AreKeptAs written.unit kept.unit

pub data AreKeptFrames : (written kept : List Frame) → Type 0 where
  no_frames : AreKeptFrames [] []
  one_frame_more : (f g : Frame) (fs gs : List Frame) → IsKeptFrame f g → AreKeptFrames fs gs → AreKeptFrames (f ∷ fs) (g ∷ gs)

pub record IsKeptStack (written kept : Stack) : Type 0 where
  pub top : IsKeptFrame written.top kept.top
  pub below : AreKeptFrames written.below kept.below

-- A stack, or none since a lexeme isn't allowed.
pub data AreKeptStacks : (written kept : Option Stack) → Type 0 where
  no_stack : AreKeptStacks None None
  a_stack : (w k : Stack) → IsKeptStack w k → AreKeptStacks (Some w) (Some k)
