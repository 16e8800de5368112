-- The clients whose headers are rewritten (postconf(5), local_header_rewrite_clients).
use Rattle.std.specs.Prelude.{ℕ, ◌||◌, ◌&&◌, Bool, true, false, not, List, [], ◌∷◌, codes, if◌then◌else◌}
use Rattle.pf_base.specs.Text.Names.{same_in_any_case}
use Rattle.pf_catalogue.specs.Arguments.{argument_of}
use Rattle.pf_catalogue.specs.Lists.{is_file}
use Rattle.pf_catalogue.specs.declared.arguments.Argument.{Argument}
use Rattle.pf_catalogue.specs.declared.arguments.Argument.TheVariants.{Nothing, Table, Text}
use Rattle.pf_catalogue.specs.declared.kind.Kind.TheVariants.{RewriteClients}

-- a test that takes no argument
abbrev pub is_client_test : List ℕ → Bool
is_client_test word =
    same_in_any_case word (codes "permit_inet_interfaces") || same_in_any_case word (codes "permit_mynetworks")
    || same_in_any_case word (codes "permit_sasl_authenticated")

abbrev pub is_table_argument : Argument → Bool
is_table_argument Table = true
is_table_argument Nothing = false
is_table_argument Text = false

-- a test that takes a table after it
abbrev pub wants_table : List ℕ → Bool
wants_table word = is_table_argument (argument_of RewriteClients word)

-- an item can be where it does: a table, which is no file, where one is wanted, and else a test
abbrev pub fits : Bool → List ℕ → Bool
fits wanted item = if wanted then not (is_file item) else wants_table item || is_client_test item

-- tests, each with its table where it wants one; before them a table is wanted or not
abbrev pub are_rewrite_clients : Bool → List (List ℕ) → Bool
are_rewrite_clients wanted [] = not wanted
are_rewrite_clients wanted (item ∷ items) = fits wanted item && are_rewrite_clients (not wanted && wants_table item) items
