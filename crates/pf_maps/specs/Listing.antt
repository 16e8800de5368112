-- The pairs of opened tables (postmap(1), -s).
use Rattle.std.specs.Prelude.{List, [], ◌∷◌, map}
use Rattle.pf_base.specs.declared.pair.Pair.{Pair}
use Rattle.pf_cdb.specs.Asked.{listed_pair}
use Rattle.pf_cdb.specs.Held.{elements_of}
use Rattle.pf_maps.specs.declared.node.Node.{Node}
use Rattle.pf_maps.specs.declared.node.Node.TheVariants as node

-- a text table and an inline table have pairs in their order, the keys as they are compared; of a cdb they are in the order of their records, without
-- the null bytes after a key and its value, where both have one; the other tables have none
abbrev pub node_pairs : Node → List Pair
node_pairs (node.Text table) = table.pairs
node_pairs (node.Inline table) = table.pairs
node_pairs (node.Cdb table) = map listed_pair (elements_of table.file)
node_pairs other = []

-- the pairs of the first table
abbrev pub pairs_of : List Node → List Pair
pairs_of [] = []
pairs_of (one ∷ nodes) = node_pairs one
