use Rattle.std.proofs.Common.{◌≡◌, ◌+◌, drop}
use Rattle.pf_expand.specs.Forms.{plain_length}
use Rattle.pf_expand.proofs.form.plain_length.Given as goal

abbrev pub invariant-loop-i : goal.invariant-loop-i
invariant-loop-i l = l.i + plain_length (drop l.i l.text) ≡ plain_length l.text
