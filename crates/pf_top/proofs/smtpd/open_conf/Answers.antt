use Rattle.pf_maincf.proofs.FileLaws.{goes_through}
use Rattle.pf_maincf.specs.File.{bytes_in, conf_text}
use Rattle.pf_top.specs.Refusals.{text_opened}
use Rattle.pf_top.proofs.smtpd.open_conf.Goals as goal

pub returns-in-Ok-clause-known : goal.returns-in-Ok-clause-known
returns-in-Ok-clause-known g c = λ all known.
    let opened = rw c.as_slice.ensures at c.read_opened.ensures.known in
    rw (c.in-Ok.ensures.known all known) opened

pub returns-in-Err-clause-known : goal.returns-in-Err-clause-known
returns-in-Err-clause-known g c = λ all known.
    goes_through (conf_text c.args.file.now (bytes_in all c.args.file.now)) (text_opened c.args.file.now) c.in-Err.fault (c.in-Err.ensures.known all known)
