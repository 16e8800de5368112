use Rattle.pf_maincf.proofs.FileLaws.{goes_through}
use Rattle.pf_maincf.specs.File.{bytes_in, conf_text}
use Rattle.pf_tools.specs.Said.{text_said}
use Rattle.pf_tools.proofs.file.file_said.Goals as goal

pub returns-in-Ok-clause-known : goal.returns-in-Ok-clause-known
returns-in-Ok-clause-known g c = λ all known.
    let said = rw c.as_slice.ensures at c.read_said.ensures.said in
    rw (c.in-Ok.ensures.known all known) said

pub returns-in-Err-clause-known : goal.returns-in-Err-clause-known
returns-in-Err-clause-known g c = λ all known.
    goes_through (conf_text c.args.file.now (bytes_in all c.args.file.now)) (text_said c.args.file.now c.args.words.now) c.in-Err.fault (c.in-Err.ensures.known all known)
