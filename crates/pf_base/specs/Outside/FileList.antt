-- Files as a list of names with their bytes: what is read of them and what a replacement leaves. By no standard.
use Rattle.std.specs.Prelude.{◌≡◌, ◌<◌, ◌≤◌, ℕ, List, [], ◌∷◌, Option, None, Some, Result, Ok, Err, nat_lt, length, take, drop, if◌then◌else◌}
use Rattle.std.specs.Option.{option_map}
use Rattle.std.specs.List.{find}
use Rattle.std.specs.Str.{bytes_eq}
use Rattle.pf_base.specs.declared.pair.Pair.{Pair}
use Rattle.pf_base.specs.declared.outside.reading.ReadFault.{ReadFault}
use Rattle.pf_base.specs.declared.outside.reading.ReadFault.TheVariants.{TooLarge}

-- the bytes of the file of this name, if there is one
abbrev pub file_of : List Pair → List ℕ → Option (List ℕ)
file_of files name = option_map (λ pair. pair.value) (find (λ pair. bytes_eq pair.key name) files)

-- the files with these bytes under this name, in the place of those that it had
abbrev pub with_file : List Pair → List ℕ → List ℕ → List Pair
with_file [] name bytes = record { key = name; value = bytes } ∷ []
with_file (pair ∷ pairs) name bytes =
    if bytes_eq pair.key name then record { key = name; value = bytes } ∷ pairs else pair ∷ with_file pairs name bytes

-- n bytes of the file from a place on: at least one where there is one and the buffer has room
pub record ReadsFrom (bytes : List ℕ) (at n : ℕ) (buf : List ℕ) : Type 0 where
  pub within : n ≤ length (drop at bytes)
  pub same : take n buf ≡ take n (drop at bytes)
  pub some : n ≡ 0 → 0 < length buf → drop at bytes ≡ []

-- the most bytes of a file that is read whole: 64 MiB, which is postgate's own limit
abbrev pub file_limit : ℕ
file_limit = 67108864

-- a whole file as it is read: None where there is no file; one above the limit is a fault
abbrev pub whole_file : Option (List ℕ) → Result (Option (List ℕ)) ReadFault
whole_file None = Ok None
whole_file (Some bytes) = if nat_lt file_limit (length bytes) then Err TooLarge else Ok (Some bytes)
