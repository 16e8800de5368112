use Rattle.std.proofs.Common.{sym, ap, ◌∙◌}
use Rattle.pf_catalogue.specs.Catalogue.{Row}
use Rattle.pf_tools.proofs.DefaultLaws.{no_default_value, default_value_there}
use Rattle.pf_tools.proofs.values.default_value_of.Goals as goal

pub returns-in-None : goal.returns-in-None
returns-in-None c = sym (no_default_value c.args.name.now c.in-None.ensures)

pub returns-in-Some : goal.returns-in-Some
returns-in-Some c = ap (λ (r : Row). r.default_value) c.row.ensures ∙ sym (default_value_there c.args.name.now c.in-Some.p c.in-Some.ensures)
