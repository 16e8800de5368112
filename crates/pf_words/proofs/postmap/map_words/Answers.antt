use Rattle.std.proofs.Common.{◌∙◌, ap}
use Rattle.clap.specs.Words.{is_simple_and_free}
use Rattle.pf_words.proofs.SimpleCommands.{postmap_is_simple}
use Rattle.pf_words.proofs.postmap.map_words.Goals as goal

pub matches_in-requires : goal.matches_in-requires
matches_in-requires c = ap is_simple_and_free c.in_ok-command.ensures ∙ postmap_is_simple
