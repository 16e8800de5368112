use Rattle.std.specs.Prelude.{◌==◌}
use Rattle.std.proofs.lemmas.List.{take_rest}
use Rattle.pf_base.proofs.CutLemmas.{split_first, split_none}
use Rattle.pf_base.proofs.text.cuts.cut_at.Goals as goal

pub returns-then-place-text-clause-parts : goal.returns-then-place-text-clause-parts
returns-then-place-text-clause-parts c =
    rw (take_rest, c.place_of-place.ensures.place) (split_first (λ b. b == c.args.byte) c.args.text.now (rw c.place_of-place.ensures.place at c.if-place-text.true))

pub returns-else-place-text-clause-none : goal.returns-else-place-text-clause-none
returns-else-place-text-clause-none c =
    split_none (λ b. b == c.args.byte) c.args.text.now (rw c.place_of-place.ensures.place at c.if-place-text.false)
