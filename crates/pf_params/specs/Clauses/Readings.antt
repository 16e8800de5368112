-- What is read of parameters in turn, up to the first that is refused. Words of the code's contracts.
use Rattle.std.specs.Prelude.{◌++◌, List, [], ◌∷◌, Result, Ok}
use Rattle.std.specs.Result.{result_unwrap_or}
use Rattle.pf_base.specs.Results.{◌>>=◌}
use Rattle.pf_base.specs.declared.refused.Refused.{Refused}
use Rattle.pf_catalogue.specs.Catalogue.{Row}
use Rattle.pf_maincf.specs.Settings.{Conf}
use Rattle.pf_params.specs.Parameters.{row_read}
use Rattle.pf_params.specs.declared.readings.Reading.{Reading}

-- readings before others
abbrev pub before : List Reading → Result (List Reading) Refused → Result (List Reading) Refused
before prefix answer = do
  readings ← answer
  Ok (prefix ++ readings)

-- what is read of these parameters in order, or the first refusal
abbrev pub readings_of : Conf → List Row → Result (List Reading) Refused
readings_of settled [] = Ok []
readings_of settled (row ∷ rows) = do
  reading ← row_read settled row
  before (reading ∷ []) (readings_of settled rows)

-- those that are there
abbrev pub held_readings : Result (List Reading) Refused → List Reading
held_readings readings = result_unwrap_or readings []
