-- The flags of a pattern (pcre_table(5)): each toggles a switch. That E changes nothing is postgate's own.
use Rattle.std.specs.Prelude.{ℕ, ◌==◌, true, false, not, List, [], ◌∷◌, Option, Some, None, if◌then◌else◌}
use Rattle.pf_base.specs.Options.{◌>>=◌}
use Rattle.pf_pcre.specs.declared.switches.Switches.{Switches}

-- without flags case is ignored and a dot matches a line feed
abbrev pub plain : Switches
plain = record { case = true; lines = false; dot = true; free = false; greed = false }

-- one flag more: i, m, s, x, U or E
abbrev pub toggled : Switches → ℕ → Option Switches
toggled switches flag =
    if flag == 105 then Some (record switches { case = not switches.case })
    else if flag == 109 then Some (record switches { lines = not switches.lines })
    else if flag == 115 then Some (record switches { dot = not switches.dot })
    else if flag == 120 then Some (record switches { free = not switches.free })
    else if flag == 85 then Some (record switches { greed = not switches.greed })
    else if flag == 69 then Some switches
    else None

-- all flags in turn, if each byte is one
abbrev pub with_flags : Switches → List ℕ → Option Switches
with_flags switches [] = Some switches
with_flags switches (flag ∷ flags) = toggled switches flag >>= λ next. with_flags next flags

abbrev pub switches_of : List ℕ → Option Switches
switches_of flags = with_flags plain flags
