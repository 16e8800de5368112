-- What the rows of the code stand for. A word of the code's contracts.
use Rattle.pf_base.specs.Clauses.Meant.{meant}
use Rattle.pf_catalogue.specs.Catalogue as catalogue
use Rattle.pf_catalogue.specs.declared.catalogue.Row.{Row}

-- its texts
abbrev pub row_meant : Row → catalogue.Row
row_meant r = record { name = r.0.now; kind = r.1; default_value = meant r.2 }
