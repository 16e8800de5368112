-- What a search for a key comes to at a slot: words of the code's contracts.
use Rattle.std.specs.Prelude.{◌≡◌, ◌+◌, ◌≤◌, ℕ, List, length, if◌then◌else◌}
use Rattle.pf_cdb.specs.Hash.{hash_of}
use Rattle.pf_cdb.specs.Held.{has_key, is_used}
use Rattle.pf_cdb.specs.Layout.{key_at, key_length}
use Rattle.pf_cdb.specs.declared.layout.Slot.{Slot}
use Rattle.pf_cdb.specs.declared.search.Look.{Look}
use Rattle.pf_cdb.specs.declared.search.Look.TheVariants.{Empty, Found, Other}

unfoldable pub look_at : List ℕ → List ℕ → Slot → Look
look_at file key slot = if is_used slot then (if has_key file key slot then Found else Other) else Empty

-- a slot names a record whose key lies in the file, and has the hash of that key
pub record NamesRecord (file : List ℕ) (slot : Slot) : Type 0 where
  pub within : slot.at + 8 + key_length file slot.at ≤ length file
  pub hash : slot.hash ≡ hash_of (key_at file slot.at)
