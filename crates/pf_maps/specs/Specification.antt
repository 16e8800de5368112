-- What the text of a table or a list file names (DATABASE_README; postconf(5), mydestination and mynetworks). How unions and pipes are
-- written and how deep they may be nested, that no list file is in one, and that what is in the braces of `static:` is trimmed, is
-- postgate's own.
use Rattle.std.specs.Prelude.{ℕ, zero, suc, ◌+◌, ◌++◌, ◌==◌, Bool, false, List, [], ◌∷◌, Option, None, Some, Result, Ok, Err, codes, length, take, drop, if◌then◌else◌}
use Rattle.std.specs.List.{position}
use Rattle.std.specs.Option.{option_map, is_some}
use Rattle.std.specs.Str.{bytes_eq, is_utf8}
use Rattle.pf_base.specs.Text.Ascii as ascii
use Rattle.pf_base.specs.Options.{◌>>=◌}
use Rattle.pf_base.specs.Text.Space.{trimmed}
use Rattle.pf_base.specs.Text.Words.{words_of}
use Rattle.pf_base.specs.declared.refused.Cause.TheVariants.{C9}
use Rattle.pf_base.specs.declared.refused.Refused.{Refused}
use Rattle.pf_base.specs.declared.text.words.WordsFault.{WordsFault}
use Rattle.pf_table.specs.Inline.{in_brace, inline_pairs}
use Rattle.pf_base.specs.Refusal.{refused}
use Rattle.pf_maps.specs.declared.specification.Group.{Group}
use Rattle.pf_maps.specs.declared.specification.Group.TheVariants as group
use Rattle.pf_maps.specs.declared.specification.SpecNode.{SpecNode}
use Rattle.pf_maps.specs.declared.specification.SpecNode.TheVariants as node

-- what is in the brace that a text begins with, where nothing is after its partner
abbrev pub braced : List ℕ → Option (List ℕ)
braced [] = None
braced (b ∷ text) = if b == ascii.left_brace then in_brace text else None

-- `texthash:FILE`, `cdb:FILE`, `cidr:FILE` and `pcre:FILE`: the name of the file is UTF-8
abbrev pub file_name : List ℕ → Option (List ℕ)
file_name name = if is_utf8 name then Some name else None

abbrev pub text_node : List ℕ → Option SpecNode
text_node name = option_map node.Text (file_name name)

abbrev pub cdb_node : List ℕ → Option SpecNode
cdb_node name = option_map node.Cdb (file_name name)

abbrev pub cidr_node : List ℕ → Option SpecNode
cidr_node name = option_map node.Cidr (file_name name)

abbrev pub pcre_node : List ℕ → Option SpecNode
pcre_node name = option_map node.Pcre (file_name name)

-- `inline:{ITEMS}`: what is in the brace is the text of a table
abbrev pub is_inline : List ℕ → Bool
is_inline text = is_some (inline_pairs false text)

abbrev pub inline_node : List ℕ → Option SpecNode
inline_node name = do
  text ← braced name
  if is_inline text then Some (node.Inline text) else None

-- `static:VALUE` or `static:{VALUE}`
abbrev pub fixed_value : List ℕ → Option (List ℕ)
fixed_value [] = Some []
fixed_value (b ∷ name) = if b == ascii.left_brace then option_map trimmed (in_brace name) else Some (b ∷ name)

abbrev pub fixed_node : List ℕ → Option SpecNode
fixed_node name = option_map node.Fixed (fixed_value name)

-- the node of a table that holds no other, by what is before and after the colon
unfoldable pub leaf : List ℕ → List ℕ → Option SpecNode
leaf kind name =
    if bytes_eq kind (codes "texthash") then text_node name
    else if bytes_eq kind (codes "cdb") then cdb_node name
    else if bytes_eq kind (codes "cidr") then cidr_node name
    else if bytes_eq kind (codes "pcre") then pcre_node name
    else if bytes_eq kind (codes "inline") then inline_node name
    else if bytes_eq kind (codes "static") then fixed_node name
    else if bytes_eq kind (codes "fail") then Some node.Fail
    else None

abbrev pub leaf_nodes : List ℕ → List ℕ → Option (List SpecNode)
leaf_nodes kind name = option_map (λ one. one ∷ []) (leaf kind name)

-- `unionmap:` and `pipemap:` make one table of others
unfoldable pub group_named : List ℕ → Option Group
group_named kind =
    if bytes_eq kind (codes "unionmap") then Some group.Union else if bytes_eq kind (codes "pipemap") then Some group.Pipe else None

abbrev pub group_node : Group → ℕ → SpecNode
group_node group.Union count = node.Union count
group_node group.Pipe count = node.Pipe count

-- words, if there is one
abbrev pub some_words : Result (List (List ℕ)) WordsFault → Option (List (List ℕ))
some_words (Ok words) = if length words == 0 then None else Some words
some_words (Err fault) = None

-- the texts of the members of a union or a pipe
abbrev pub members : List ℕ → Option (List (List ℕ))
members name = do
  text ← braced name
  some_words (words_of text)

-- the nodes of texts in turn, if each has some
abbrev pub members_nodes : (List ℕ → Option (List SpecNode)) → List (List ℕ) → Option (List SpecNode)
members_nodes nodes [] = Some []
members_nodes nodes (text ∷ texts) = do
  first ← nodes text
  more ← members_nodes nodes texts
  Some (first ++ more)

-- a union or a pipe, and its members after it
abbrev pub group_of : (List ℕ → Option (List SpecNode)) → Group → List ℕ → Option (List SpecNode)
group_of nodes group name = do
  texts ← members name
  more ← members_nodes nodes texts
  Some (group_node group (length texts) ∷ more)

abbrev pub of_kind : (Group → List ℕ → Option (List SpecNode)) → Option Group → List ℕ → List ℕ → Option (List SpecNode)
of_kind groups (Some group) kind name = groups group name
of_kind groups None kind name = leaf_nodes kind name

-- the nodes of a text that is parted at its first colon, where unions and pipes have these
abbrev pub parted : (Group → List ℕ → Option (List SpecNode)) → List ℕ → Option (List SpecNode)
parted groups text = do
  place ← position (λ b. b == ascii.colon) text
  of_kind groups (group_named (take place text)) (take place text) (drop (place + 1) text)

-- the nodes of a text in which unions and pipes may be nested so deep
unfoldable pub nodes_of : ℕ → List ℕ → Option (List SpecNode)
nodes_of zero text = parted (λ group name. None) text
nodes_of (suc levels) text = parted (group_of (nodes_of levels)) text

-- the nodes of a union or a pipe that may be nested so deep
unfoldable pub groups_at : ℕ → Group → List ℕ → Option (List SpecNode)
groups_at zero group name = None
groups_at (suc levels) group name = group_of (nodes_of levels) group name

-- a text that begins with a slash is the name of a list file
abbrev pub is_list_file : List ℕ → Bool
is_list_file [] = false
is_list_file (b ∷ text) = b == ascii.slash

abbrev pub list_node : List ℕ → Option SpecNode
list_node name = option_map node.ListFile (file_name name)

abbrev pub list_nodes : List ℕ → Option (List SpecNode)
list_nodes name = option_map (λ one. one ∷ []) (list_node name)

-- how deep unions and pipes may be nested
abbrev pub most_levels : ℕ
most_levels = 20

-- a list file, or tables
abbrev pub named : List ℕ → Option (List SpecNode)
named text = if is_list_file text then list_nodes text else nodes_of most_levels text

-- nodes, or the refusal of the text that has none
abbrev pub or_refused : List ℕ → ℕ → List ℕ → Option (List SpecNode) → Result (List SpecNode) Refused
or_refused file line text None = Err (refused file line C9 text)
or_refused file line text (Some nodes) = Ok nodes

-- what a text names
abbrev pub spec_of : List ℕ → ℕ → List ℕ → Result (List SpecNode) Refused
spec_of file line text = or_refused file line text (named text)
