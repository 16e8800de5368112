use Rattle.std.proofs.Common.{◌∙◌}
use Rattle.pf_cdb.proofs.WordLemmas.{word_of_bytes}
use Rattle.pf_cdb.proofs.layout.word.Goals as goal

pub returns : goal.returns
returns c = c.from_le_bytes.ensures ∙ word_of_bytes c.args.file.now c.args.at c.requires
