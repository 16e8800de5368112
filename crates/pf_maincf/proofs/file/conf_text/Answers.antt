use Rattle.std.proofs.Common.{Err, ap, ◌∙◌}
use Rattle.pf_base.specs.Outside.FileList.{whole_file}
use Rattle.pf_maincf.proofs.FileLaws.{found, no_name}
use Rattle.pf_maincf.specs.File.{text_read}
use Rattle.pf_maincf.proofs.file.conf_text.Goals as goal

pub returns-in_default-clause-known : goal.returns-in_default-clause-known
returns-in_default-clause-known g c = λ all known. rw (no_name c.args.file.now all c.in_default.ensures.cases.0) c.file_refused.ensures.said

pub returns-in-Ok-Some-clause-known : goal.returns-in-Ok-Some-clause-known
returns-in-Ok-Some-clause-known g c = λ all known.
    let read = rw (c.in-Ok.ensures.cases.0, c.in-Ok-Some.field-0-is) at (c.in-Ok-Some.ensures.known all known) in
    ap (text_read c.args.file.now) (ap whole_file (found c.args.file.now all c.in-Ok.ensures.cases.1) ∙ read)

pub returns-in-Err-TooLarge-clause-known : goal.returns-in-Err-TooLarge-clause-known
returns-in-Err-TooLarge-clause-known g c = λ all known.
    let read = rw c.in-Ok.ensures.cases.0 at (c.in-Err-TooLarge.ensures.large all known (ap Err c.in-Err-TooLarge.field-0-is)) in
    rw (found c.args.file.now all c.in-Ok.ensures.cases.1, read) c.file_refused-in-Err-TooLarge.ensures.said
