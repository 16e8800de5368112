use Rattle.std.proofs.Common.{sym, ◌∙◌}
use Rattle.pf_pcre.proofs.SieveLemmas.{value_by}
use Rattle.pf_pcre.proofs.pattern.seen_value.Goals as goal

pub returns-in_ok-expand_by-in-Match : goal.returns-in_ok-expand_by-in-Match
returns-in_ok-expand_by-in-Match c =
    value_by c.args.text.now _ c.in-Match.from c.in-Match.to c.args.cells.now (rw c.in-Match.is at c.requires) c.args.pieces.now (sym c.have_cells.ensures ∙ c.if-not-have_cells.false) _
    (rw (c.new-value.ensures, c.as_bytes.ensures.value) at c.in_ok-expand_by-in-Match.ensures)
