-- What one line more leaves in the edited text.
use Rattle.std.proofs.Common.{◌≡◌, ℕ, ◌++◌, true, not, List, [], ◌∷◌, Option, Some, None, refl, ap, ◌∙◌, append_assoc, append-nil}
use Rattle.std.specs.Prelude.{filter}
use Rattle.std.specs.List.{flat_map}
use Rattle.pf_base.specs.Text.Lines.{without_return}
use Rattle.pf_base.specs.Text.Logical.{is_ignored, starts_with_space}
use Rattle.pf_maincf.proofs.Ends.{either_way}
use Rattle.pf_maincf.proofs.AssignmentLines.{and_left, not_true}
use Rattle.pf_maincf.specs.Edit.{Blocks, Line, before_blocks, begins_logical, counts_for_nothing, edited_block, edited_by, assignment_at, assignment_line, standing}
use Rattle.pf_maincf.specs.Clauses.Editing.{behind_left, blocks_left, first_left, line_left, assignment_from}
use Rattle.pf_maincf.specs.declared.setting.Setting.{Setting}

-- after the line of an assignment the ignored lines are left
ignored_left : (assignment : Setting) (lines : List Line)
    → flat_map standing (filter (λ line. counts_for_nothing line.text) lines) ≡ flat_map (behind_left (Some assignment)) lines
ignored_left assignment [] = refl
ignored_left assignment (line ∷ lines) =
    either_way (counts_for_nothing line.text)
    (λ h. rw h (ap (λ more. standing line ++ more) (ignored_left assignment lines)))
    (λ h. rw h (ignored_left assignment lines))

begun_left : (line : Line) (prefix : List Line) (number : ℕ) (assignment : Option Setting) → begins_logical line.text ≡ true
    → edited_by (record { line = number; lines = line ∷ prefix }) assignment ≡ first_left assignment line ++ flat_map (behind_left assignment) prefix
begun_left line prefix number None h = refl
begun_left line prefix number (Some assignment) h =
    let counts = not_true (counts_for_nothing line.text) (and_left (not (is_ignored (without_return line.text))) (not (starts_with_space (without_return line.text))) h) in
    rw counts (ap (λ more. assignment_line assignment ++ more) (ignored_left assignment prefix))

pub left_more : (assignments : List Setting) (assignment : Option Setting) (number : ℕ) (line : Line) (b : Blocks)
    → blocks_left assignments assignment (before_blocks number line b) ≡ line_left (assignment_from assignments assignment number line.text) line ++ blocks_left assignments (assignment_from assignments assignment number line.text) b
left_more assignments assignment number line b =
    let behind = λ (s : Option Setting). flat_map (behind_left s) b.prefix in
    let more = flat_map (edited_block assignments) b.blocks in
    either_way (begins_logical line.text)
    (λ h. rw h (ap (λ (bytes : List ℕ). bytes ++ more) (begun_left line b.prefix number (assignment_at assignments number) h)
    ∙ append_assoc (first_left (assignment_at assignments number) line) (behind (assignment_at assignments number)) more))
    (λ h. rw h (append_assoc (behind_left assignment line) (behind assignment) more))

-- the last line
pub left_last : (assignments : List Setting) (assignment : Option Setting) (number : ℕ) (line : Line)
    → blocks_left assignments assignment (before_blocks number line (record { prefix = []; blocks = [] })) ≡ line_left (assignment_from assignments assignment number line.text) line
left_last assignments assignment number line =
    left_more assignments assignment number line (record { prefix = []; blocks = [] }) ∙ append-nil (line_left (assignment_from assignments assignment number line.text) line)
