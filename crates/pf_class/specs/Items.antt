-- The items of lists of domains and of networks, as settings write them (postconf(5), mydestination, relay_domains, mynetworks;
-- DATABASE_README for tables).
use Rattle.std.specs.Prelude.{ℕ, ◌==◌, Bool, false, List, [], ◌∷◌, Option, Some, if◌then◌else◌}
use Rattle.std.specs.List.{filter_map}
use Rattle.std.specs.Option.{option_map, option_map_or}
use Rattle.std.specs.Result.{result_ok}
use Rattle.pf_base.specs.TableTexts.{place_of}
use Rattle.pf_base.specs.Text.Ascii as ascii
use Rattle.pf_base.specs.Text.Names.{folded}
use Rattle.pf_base.specs.declared.table_texts.TableText.{TableText}
use Rattle.pf_catalogue.specs.Lists.{is_file, table_in, without_not}
use Rattle.pf_cidr.specs.Nets.{net_of}
use Rattle.pf_class.specs.declared.item.Item.{Item}
use Rattle.pf_class.specs.declared.item.Pattern.{Pattern}
use Rattle.pf_class.specs.declared.item.Pattern.TheVariants.{Names, Net, Table, File}

-- an item after an exclamation mark
abbrev pub is_excluded : List ℕ → Bool
is_excluded [] = false
is_excluded (b ∷ word) = b == ascii.exclamation_mark

-- the table at a place among the table texts; a list file's name begins with a slash
abbrev pub table_at : List ℕ → ℕ → Pattern
table_at text place = if is_file text then File (record { 0 = place }) else Table (record { 0 = place })

abbrev pub table_pattern : List TableText → List ℕ → Option Pattern
table_pattern texts text = option_map (table_at text) (place_of texts text)

-- what an item of a list of domains is matched by: a table, a list file, or a name
abbrev pub domain_pattern : List TableText → List ℕ → Option Pattern
domain_pattern texts word = option_map_or (table_pattern texts) (table_in word) (Some (Names (folded (without_not word) ∷ [])))

-- and one of a list of networks: a table, a list file, or an address or a net
abbrev pub network_pattern : List TableText → List ℕ → Option Pattern
network_pattern texts word = option_map_or (table_pattern texts) (table_in word) (option_map Net (result_ok (net_of (without_not word))))

-- an item with what it is matched by
abbrev pub item_by : Option Pattern → List ℕ → Option Item
item_by pattern word = option_map (λ one. record { pattern = one; excludes = is_excluded word }) pattern

abbrev pub domain_item : List TableText → List ℕ → Option Item
domain_item texts word = item_by (domain_pattern texts word) word

abbrev pub network_item : List TableText → List ℕ → Option Item
network_item texts word = item_by (network_pattern texts word) word

-- the items of a list in their order
abbrev pub domain_items : List TableText → List (List ℕ) → List Item
domain_items texts words = filter_map (domain_item texts) words

abbrev pub network_items : List TableText → List (List ℕ) → List Item
network_items texts words = filter_map (network_item texts) words
