use Rattle.std.proofs.lemmas.Result.{err_from_is_err_and}
use Rattle.pf_maps.proofs.PatternLaws.{opens_no_file, opens_no_pattern}
use Rattle.pf_maps.proofs.opening.open_pcre.Goals as goal

pub returns : goal.returns
returns g c =
    rw c.of.ensures (opens_no_pattern (g.F.Files.known c.args.files.now) (g.F.Files.known c.table_text.new.files) c.args.patterns.now c.read.new.patterns c.args.place.now c.args.name.now
    c.in_ok-text.text c.in-Err.fault c.in_ok-text.ensures.opens (rw c.as_slice.ensures at c.in-Err.ensures.is) c.in-Err.ensures.counts (rw c.as_slice.ensures at c.read.ensures.once))

pub returns-in_err-text : goal.returns-in_err-text
returns-in_err-text g c =
    let p = err_from_is_err_and c.from_residual.result c.from_residual.ensures.1 in
    rw (p.1, p.2) (opens_no_file (g.F.Files.known c.args.files.now) (g.F.Files.known c.table_text.new.files) c.args.patterns.now c.args.place.now c.args.name.now _
    c.in_err-text.ensures.opens c.in_err-text.ensures.small)
