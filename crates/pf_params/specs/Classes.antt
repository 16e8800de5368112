-- The classes of restrictions that are set (postconf(5), smtpd_restriction_classes): each is read as a parameter whose values are restrictions.
use Rattle.std.specs.Prelude.{ℕ, List, [], Option, None, Some, Result, Ok, Err, codes, filter, map}
use Rattle.std.specs.List.{filter_map, find}
use Rattle.std.specs.Option.{option_map}
use Rattle.std.specs.Result.{result_ok}
use Rattle.std.specs.Str.{bytes_eq}
use Rattle.pf_base.specs.declared.meaning.Meaning.TheVariants.{Is}
use Rattle.pf_base.specs.declared.refused.Cause.{Cause}
use Rattle.pf_catalogue.specs.Catalogue.{Row, place_of, row, row_at}
use Rattle.pf_catalogue.specs.Values.{items_in}
use Rattle.pf_catalogue.specs.declared.kind.Kind.TheVariants.{Restrictions}
use Rattle.pf_maincf.specs.Settings.{Conf, is_set}
use Rattle.pf_params.specs.Parameters.{reading_of}
use Rattle.pf_params.specs.declared.classes.Class.{Class}
use Rattle.pf_params.specs.declared.readings.Reading.{Reading}

-- the names of the classes; none where the parameter that lists them is refused
abbrev pub names_read : Result Reading Cause → List (List ℕ)
names_read (Ok reading) = items_in reading.value
names_read (Err cause) = []

abbrev pub names_at : Conf → Option ℕ → List (List ℕ)
names_at settled None = []
names_at settled (Some place) = names_read (reading_of settled (row_at place))

abbrev pub class_names : Conf → List (List ℕ)
class_names settled = names_at settled (place_of (codes "smtpd_restriction_classes"))

-- the rows of the classes of these names that are set; one that is listed and not set has no items
abbrev pub class_row : List ℕ → Row
class_row name = row name Restrictions (Is [])

abbrev pub class_rows : Conf → List (List ℕ) → List Row
class_rows settled names = map class_row (filter (is_set settled) names)

-- a class by what is read of it
abbrev pub class_of : List ℕ → Reading → Class
class_of name reading = record { name = name; line = reading.line; items = items_in reading.value }

abbrev pub class_read : Conf → Row → Option Class
class_read settled row = option_map (class_of row.name) (result_ok (reading_of settled row))

-- the classes of rows, in order
abbrev pub classes_of : Conf → List Row → List Class
classes_of settled rows = filter_map (class_read settled) rows

-- the class of a name
abbrev pub class_named : List Class → List ℕ → Option Class
class_named classes name = find (λ class. bytes_eq class.name name) classes
