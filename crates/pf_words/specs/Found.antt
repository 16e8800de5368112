-- What clap finds in the words of a command.
use Rattle.std.specs.Prelude.{Bool, List, [], ◌∷◌, Option, Some, None, codes, unwrap_or}
use Rattle.std.specs.Str.{bytes_eq}
use Rattle.clap.specs.Words.{App, Kinds, Row, Text, all_of, fault_of, first_of, found_of, matches_of, rows_of}
use Rattle.clap.specs.declared.parser.matches.ArgMatches.{ArgMatches}

-- the rows of what clap found
unfoldable pub rows_found : ArgMatches → List Row
rows_found matches = rows_of (found_of matches)

-- the rows, where there is no fault
abbrev pub unless_fault : Kinds → List Row → Option (List Row)
unless_fault [] rows = Some rows
unless_fault (fault ∷ faults) rows = None

-- the rows of a command's words, the first of which is passed over; none where clap finds a fault in the words
unfoldable pub rows_in : App → List Text → Option (List Row)
rows_in app words = unless_fault (fault_of app words) (matches_of app words)

-- the value of an option, where it was given
abbrev pub value_in : Text → List Row → Option Text
value_in id rows = first_of id rows

-- a flag was given: clap then gives it the value true
abbrev pub has_flag : Text → List Row → Bool
has_flag id rows = bytes_eq (unwrap_or (first_of id rows) []) (codes "true")

-- the words that are no options
abbrev pub rest_in : List Row → List Text
rest_in rows = unwrap_or (all_of (codes "rest") rows) []
