-- What one line of a text leaves in the edited text. Words of the code's contracts, between a loop over lines and `edited_lines`.
use Rattle.std.specs.Prelude.{ℕ, ◌++◌, ◌&&◌, not, List, [], Option, None, Some, is_some, if◌then◌else◌}
use Rattle.std.specs.List.{flat_map}
use Rattle.pf_maincf.specs.Edit.{Blocks, Line, begins_logical, edited_block, counts_for_nothing, assignment_at, assignment_line, standing}
use Rattle.pf_maincf.specs.declared.setting.Setting.{Setting}

-- the assignment at the logical line of a line, that of the line before being this one
abbrev pub assignment_from : List Setting → Option Setting → ℕ → List ℕ → Option Setting
assignment_from assignments assignment number line = if begins_logical line then assignment_at assignments number else assignment

-- what the first line of a logical line leaves, and one after it
abbrev pub first_left : Option Setting → Line → List ℕ
first_left None line = standing line
first_left (Some assignment) line = assignment_line assignment

abbrev pub behind_left : Option Setting → Line → List ℕ
behind_left assignment line = if is_some assignment && not (counts_for_nothing line.text) then [] else standing line

abbrev pub line_left : Option Setting → Line → List ℕ
line_left assignment line = if begins_logical line.text then first_left assignment line else behind_left assignment line

-- what lines leave that are after one with this assignment
abbrev pub blocks_left : List Setting → Option Setting → Blocks → List ℕ
blocks_left assignments assignment b = flat_map (behind_left assignment) b.prefix ++ flat_map (edited_block assignments) b.blocks
