use Rattle.std.proofs.Common.{◌∙◌}
use Rattle.pf_expand.proofs.RoundLaws.{text_size}
use Rattle.pf_expand.proofs.rounds.text_size.Goals as goal

pub returns-in-Some : goal.returns-in-Some
returns-in-Some c = rw (c.in-Some.is, ← c.as_slice.ensures) (c.pieces_size.ensures ∙ text_size c.args.names.now c.args.sizes.now c.as_slice.result.now c.requires)
