-- Worked examples of the definitions, each by computation.
use Rattle.std.proofs.Common.{◌≡◌, ℕ, List, [], ◌∷◌, ◌++◌, true, false, None, Some, length, map, take, set, replicate, refl, codes}
use Rattle.std.specs.List.{flat_map}
use Rattle.pf_base.specs.declared.pair.Pair.{Pair}
use Rattle.pf_cdb.specs.Asked.{answer_of, ends_in_null, listed_pair, without_null}
use Rattle.pf_cdb.specs.Damaged.{first_below, first_damage, first_in_slots, first_in_tables, is_hash_wrong, is_record_out, is_slot_out, is_table_out, slot_damage, table_damage}
use Rattle.pf_cdb.specs.Hash.{hash_of}
use Rattle.pf_cdb.specs.Held.{held, is_held, tried, value_span}
use Rattle.pf_cdb.specs.Layout.{pair_at, table_of, word}
use Rattle.pf_cdb.specs.Written.{by_table, filled, firsts, put, written}
use Rattle.pf_cdb.specs.declared.damage.Damage.TheVariants.{Header, TableRange, SlotRange, RecordRange, WrongHash}

-- hashes
hashes : map hash_of ([] ∷ codes "aa" ∷ codes "ii" ∷ codes "qq" ∷ codes "g'" ∷ []) ≡ 5381 ∷ 5860901 ∷ 5861157 ∷ 5861413 ∷ 5860901 ∷ []
unfolding hash_of
hashes = refl

-- the file of the pairs aa 1, ii 2 and qq 3, whose keys are all of table 37
abbrev records : List ℕ
records =
    (2 ∷ 0 ∷ 0 ∷ 0 ∷ 1 ∷ 0 ∷ 0 ∷ 0 ∷ codes "aa1") ++ (2 ∷ 0 ∷ 0 ∷ 0 ∷ 1 ∷ 0 ∷ 0 ∷ 0 ∷ codes "ii2") ++ (2 ∷ 0 ∷ 0 ∷ 0 ∷ 1 ∷ 0 ∷ 0 ∷ 0 ∷ codes "qq3")

abbrev slots : List ℕ
slots =
    (37 ∷ 112 ∷ 89 ∷ 0 ∷ 22 ∷ 8 ∷ 0 ∷ 0 ∷ []) ++ replicate 24 0
    ++ (37 ∷ 110 ∷ 89 ∷ 0 ∷ 0 ∷ 8 ∷ 0 ∷ 0 ∷ []) ++ (37 ∷ 111 ∷ 89 ∷ 0 ∷ 11 ∷ 8 ∷ 0 ∷ 0 ∷ [])

-- an empty table that would be at 2081, and one at 2129
abbrev before_table : List ℕ
before_table = 33 ∷ 8 ∷ 0 ∷ 0 ∷ 0 ∷ 0 ∷ 0 ∷ 0 ∷ []

abbrev behind_table : List ℕ
behind_table = 81 ∷ 8 ∷ 0 ∷ 0 ∷ 0 ∷ 0 ∷ 0 ∷ 0 ∷ []

abbrev file : List ℕ
file =
    flat_map (λ table. table) (replicate 37 before_table) ++ (33 ∷ 8 ∷ 0 ∷ 0 ∷ 6 ∷ 0 ∷ 0 ∷ 0 ∷ [])
    ++ flat_map (λ table. table) (replicate 218 behind_table) ++ records ++ slots

file_size : length file ≡ 2129
file_size = refl

-- it is what is written for the pairs
abbrev pair : List ℕ → List ℕ → Pair
pair key value = record { key = key; value = value }

abbrev entries : List Pair
entries = pair (codes "aa") (codes "1") ∷ pair (codes "ii") (codes "2") ∷ pair (codes "qq") (codes "3") ∷ []

-- of two pairs with one key the first counts
first_of_aa : firsts (entries ++ pair (codes "aa") (codes "9") ∷ []) ≡ entries
first_of_aa = refl

three_pairs : written entries ≡ file
unfolding by_table filled hash_of put tried written
three_pairs = refl

-- what is held
held_places : map (held file) (codes "aa" ∷ codes "ii" ∷ codes "qq" ∷ codes "g'" ∷ codes "a" ∷ []) ≡ Some 2048 ∷ Some 2059 ∷ Some 2070 ∷ None ∷ None ∷ []
unfolding hash_of held table_of tried word
held_places = refl

value_place : value_span file 2059 ≡ record { start = 2069; end = 2070 }
unfolding word
value_place = refl

second_pair : pair_at file 2059 ≡ record { key = codes "ii"; value = codes "2" }
unfolding word
second_pair = refl

each_is_held : map (is_held file) (2048 ∷ 2049 ∷ 2059 ∷ 2070 ∷ []) ≡ true ∷ false ∷ true ∷ true ∷ []
unfolding hash_of held is_held table_of tried word
each_is_held = refl

-- a key is asked for with a null byte after it where it is not there without
with_null_bytes : map (answer_of (pair (codes "aa" ++ 0 ∷ []) (codes "1" ++ 0 ∷ []) ∷ pair (codes "ii") (codes "2" ++ 0 ∷ []) ∷ pair (codes "ii" ++ 0 ∷ []) (codes "3") ∷ []))
    (codes "aa" ∷ codes "ii" ∷ codes "qq" ∷ []) ≡ Some (codes "1") ∷ Some (codes "2" ++ 0 ∷ []) ∷ None ∷ []
unfolding answer_of ends_in_null without_null
with_null_bytes = refl

-- and the null bytes of a pair are not listed
listed_pairs : map listed_pair (pair (codes "aa" ++ 0 ∷ []) (codes "1" ++ 0 ∷ []) ∷ pair (codes "ii") (codes "2" ++ 0 ∷ []) ∷ pair [] [] ∷ [])
    ≡ pair (codes "aa") (codes "1") ∷ pair (codes "ii") (codes "2" ++ 0 ∷ []) ∷ pair [] [] ∷ []
unfolding ends_in_null listed_pair without_null
listed_pairs = refl

-- damage: none, a file that is cut off, a slot after the file, a key that is too long, another hash
no_damage : first_damage file ≡ None
unfolding first_below first_in_slots first_in_tables hash_of is_hash_wrong is_record_out is_slot_out is_table_out slot_damage table_damage word
no_damage = refl

short_file : first_damage (take 2000 file) ≡ Some Header
short_file = refl

table_is_out : first_damage (take 2128 file) ≡ Some (TableRange 37)
unfolding first_below first_in_tables is_table_out table_damage word
table_is_out = refl

slot_is_out : first_damage (set file 2119 255) ≡ Some (SlotRange 37 4)
unfolding first_below first_in_slots first_in_tables is_slot_out is_table_out slot_damage table_damage word
slot_is_out = refl

record_is_out : first_damage (set file 2048 255) ≡ Some (RecordRange 2048)
unfolding first_below first_in_slots first_in_tables is_record_out is_slot_out is_table_out slot_damage table_damage word
record_is_out = refl

hash_is_wrong : first_damage (set file 2113 36) ≡ Some (WrongHash 37 4)
unfolding first_below first_in_slots first_in_tables hash_of is_hash_wrong is_record_out is_slot_out is_table_out slot_damage table_damage word
hash_is_wrong = refl
