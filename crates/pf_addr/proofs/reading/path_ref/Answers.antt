use Rattle.std.proofs.Common.{◌∙◌}
use Rattle.pf_addr.proofs.SpelledLemmas.{path_of_reads, read_is_spelled}
use Rattle.pf_addr.proofs.reading.path_ref.Goals as goal

pub returns : goal.returns
returns c =
    let is = c.read.ensures ∙ read_is_spelled c.args.text.now in
    record { is = is; reads = rw is (path_of_reads c.args.text.now) }
