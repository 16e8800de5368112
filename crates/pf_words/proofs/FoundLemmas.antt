-- What clap's answer says of the rows of the words.
use Rattle.std.proofs.Common.{◌≡◌, true, List, [], ◌∷◌, None, Some, refl, ap, ◌∙◌, inl, inr}
use Rattle.std.proofs.lemmas.Bool.{and_parts}
use Rattle.clap.specs.Words.{app_of, HasKind, HasMatchesOf, IsAmong, Kinds, Row, Text, fault_of, is_simple, is_simple_and_free, matches_of, all_of, first_value, found_of, matched_of, raw_values}
use Rattle.std.specs.Prelude.{option_map}
use Rattle.clap.proofs.WalkLemmas.{first_value-rows, raw_values-rows}
use Rattle.clap.specs.Faults.{is_free_app}
use Rattle.clap.specs.Simple.{built}
use Rattle.clap.specs.Values.{kind_of}
use Rattle.clap.specs.declared.error.Error.{Error}
use Rattle.clap.specs.declared.error.kind.ErrorKind.{ErrorKind}
use Rattle.clap.specs.declared.error.kind.ErrorKind.TheVariants.{OutOfMemory}
use Rattle.clap.specs.declared.parser.matches.ArgMatches.{ArgMatches}
use Rattle.clap.specs.declared.builder.command.Command.{Command}
use Rattle.pf_words.specs.Commands.{app_in}
use Rattle.pf_words.specs.Found.{rows_found, rows_in, unless_fault, value_in}

without_fault : (faults : Kinds) (read rows : List Row) → faults ≡ [] → read ≡ rows → Some read ≡ unless_fault faults rows
without_fault [] read rows none same = ap Some same
without_fault (fault ∷ faults) read rows none same = cc

with_fault : (faults : Kinds) (rows : List Row) (fault : ErrorKind) → IsAmong fault faults → None ≡ unless_fault faults rows
with_fault [] rows fault among = absurd among
with_fault (first ∷ others) rows fault among = refl

-- where clap answers matches, they have the rows of the words
pub rows_taken : (command : Command) (words : List Text) (matches : ArgMatches) → is_simple_and_free (app_in command) ≡ true
    → (is_simple_and_free (app_of command) ≡ true → fault_of (app_of command) words ≡ []) → HasMatchesOf (app_of command) words matches
    → Some (rows_found matches) ≡ rows_in (app_in command) words
unfolding app_in rows_found rows_in
rows_taken command words matches free none has =
    let app = app_of command in
    without_fault (fault_of app words) _ (matches_of app words) (none free) (has (and_parts (is_simple app) (is_free_app (built app)) free).0).0

-- where clap finds a fault in the words, they have none
pub rows_refused : (command : Command) (words : List Text) (error : Error) (k : ErrorKind) → is_simple_and_free (app_in command) ≡ true → k ≡ kind_of error
    → (k ≡ OutOfMemory → ⊥) → (is_simple_and_free (app_of command) ≡ true → HasKind (fault_of (app_of command) words) error)
    → None ≡ rows_in (app_in command) words
unfolding app_in rows_in
rows_refused command words error k free is other fault =
    elim (fault free) [
      | inl memory ↦ absurd (other (is ∙ memory))
      | inr among ↦ with_fault (fault_of (app_of command) words) (matches_of (app_of command) words) (kind_of error) among
    ]

-- what clap's getters answer, by the rows
pub value_found : (matches : ArgMatches) (id : Text) → first_value (found_of matches) id ≡ value_in id (rows_found matches)
unfolding rows_found
value_found matches id = first_value-rows (found_of matches) id

pub rest_found : (matches : ArgMatches) (id : Text) → option_map raw_values (matched_of (found_of matches) id) ≡ all_of id (rows_found matches)
unfolding rows_found
rest_found matches id = raw_values-rows (found_of matches) id
