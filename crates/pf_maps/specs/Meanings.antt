-- What tables mean that are opened (DATABASE_README; cidr_table(5)), a definition for each kind. How a union joins values, what a member
-- that fails does, and which of these tables have partial keys, is postgate's own.
use Rattle.std.specs.Prelude.{ℕ, zero, suc, ◌++◌, Bool, false, List, [], ◌∷◌, Option, Some, codes, drop, slice_get}
use Rattle.std.specs.List.{list_all}
use Rattle.pf_base.specs.Options.{◌>>=◌}
use Rattle.pf_asks.specs.Looking.{Meaning}
use Rattle.pf_asks.specs.declared.lookup.Found.{Found}
use Rattle.pf_asks.specs.declared.lookup.Found.TheVariants.{Value, Absent}
use Rattle.pf_asks.specs.declared.lookup.Results.{Results}
use Rattle.pf_asks.specs.declared.lookup.Results.TheVariants.{Listed, Anything}
use Rattle.pf_cidr.specs.Addresses.{address_of}
use Rattle.pf_cidr.specs.Tables.{Table, first_rule}
use Rattle.pf_cidr.specs.declared.address.Addr.{Addr}
use Rattle.pf_listfile.specs.ListFile.{list_meaning}
use Rattle.pf_pcre.specs.Tables.{pcre_meaning}
use Rattle.pf_table.specs.Tables.{fail_meaning, keyed_meaning, static_meaning}
use Rattle.pf_maps.specs.Cdb.{cdb_meaning, found_as}
use Rattle.pf_maps.specs.declared.node.Node.{Node}
use Rattle.pf_maps.specs.declared.node.Node.TheVariants as node

-- cidr: the result of the first rule that applies to an address; a key that is none has nothing
abbrev pub address_found : Table → Option Addr → Found
address_found table addr = found_as (do
  one ← addr
  rule ← first_rule table.entries one
  slice_get table.results rule)

abbrev pub cidr_meaning : Table → Meaning
cidr_meaning table = record {
  value = λ key. Some (address_found table (address_of key));
  partial_keys = false;
  results = Listed table.results;
}

-- two values are joined by a comma
abbrev pub joined : Found → Found → Found
joined Absent found = found
joined (Value value) Absent = Value value
joined (Value value) (Value other) = Value (value ++ codes "," ++ other)

-- a union: the values that its members have, joined; where one fails it fails
abbrev pub union_value : List Meaning → List ℕ → Option Found
union_value [] key = Some Absent
union_value (member ∷ members) key = do
  found ← member.value key
  more ← union_value members key
  Some (joined found more)

-- one member alone has its results; of more no list is kept
abbrev pub union_results : List Meaning → Results
union_results [] = Listed []
union_results (member ∷ []) = member.results
union_results (member ∷ other ∷ members) = Anything

-- whether all have partial keys
abbrev pub all_partial : List Meaning → Bool
all_partial members = list_all (λ member. member.partial_keys) members

abbrev pub union_meaning : List Meaning → Meaning
union_meaning members = record { value = union_value members; partial_keys = all_partial members; results = union_results members }

-- a pipe: each member is asked for the value of the one before; where one fails that is reached it fails
abbrev pub pipe_on : (List ℕ → Option Found) → Found → Option Found
pipe_on next Absent = Some Absent
pipe_on next (Value value) = next value

abbrev pub pipe_value : List Meaning → List ℕ → Option Found
pipe_value [] key = Some (Value key)
pipe_value (member ∷ members) key = member.value key >>= pipe_on (pipe_value members)

-- the results of the last member
abbrev pub pipe_results : List Meaning → Results
pipe_results [] = Anything
pipe_results (member ∷ []) = member.results
pipe_results (member ∷ other ∷ members) = pipe_results (other ∷ members)

abbrev pub pipe_meaning : List Meaning → Meaning
pipe_meaning members = record { value = pipe_value members; partial_keys = all_partial members; results = pipe_results members }

-- the first of tables; where there is none it fails
abbrev pub first_meaning : List Meaning → Meaning
first_meaning [] = fail_meaning
first_meaning (meaning ∷ meanings) = meaning

-- the first ones of tables, so many
abbrev pub firsts : ℕ → List Meaning → List Meaning
firsts zero meanings = []
firsts (suc count) meanings = first_meaning meanings ∷ firsts count (drop 1 meanings)

-- what a node means before others, of which a union or a pipe has the first ones as its members
abbrev pub onto : Node → List Meaning → List Meaning
onto (node.Text table) behind = keyed_meaning table ∷ behind
onto (node.Cdb table) behind = cdb_meaning table ∷ behind
onto (node.Cidr table) behind = cidr_meaning table ∷ behind
onto (node.Pcre table) behind = pcre_meaning table ∷ behind
onto (node.Inline table) behind = keyed_meaning table ∷ behind
onto (node.Fixed value) behind = static_meaning value ∷ behind
onto node.Fail behind = fail_meaning ∷ behind
onto (node.ListFile items) behind = list_meaning items ∷ behind
onto (node.Union count) behind = union_meaning (firsts count behind) ∷ drop count behind
onto (node.Pipe count) behind = pipe_meaning (firsts count behind) ∷ drop count behind

-- what tables mean whose nodes are in turn, each before its members
abbrev pub meanings_of : List Node → List Meaning
meanings_of [] = []
meanings_of (one ∷ nodes) = onto one (meanings_of nodes)

-- what a table means whose nodes these are
abbrev pub meaning_of : List Node → Meaning
meaning_of nodes = first_meaning (meanings_of nodes)
