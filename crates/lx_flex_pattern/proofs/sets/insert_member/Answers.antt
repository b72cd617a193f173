use Rattle.lx_flex_pattern.proofs.sets.insert_member.Goals as goal

pub returns-in-Range : goal.returns-in-Range
returns-in-Range c = λ test e. rw c.in-Range.is (c.insert_range.ensures test e)

pub returns-in-Among : goal.returns-in-Among
returns-in-Among c = λ test e. rw c.in-Among.is (c.insert_ranges.ensures test e)
