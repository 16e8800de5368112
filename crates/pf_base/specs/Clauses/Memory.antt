-- The objects in memory, as contracts see them: each knows which of its calls fail, and how many there were. They are postgate's own.
use Rattle.std.specs.Prelude.{◌≡◌, ◌≤◌, ℕ, ◌-◌, ◌^◌, ◌==◌, Bool, true, false, List, [], ◌∷◌, Some, max, min, length, slice_index}
use Rattle.std.specs.List.{list_any}
use Rattle.pf_base.specs.Outside.Counts.{counted}
use Rattle.pf_base.specs.Outside.Known.{Input, Output, Tree}
use Rattle.pf_base.specs.declared.pair.Pair.{Pair}

-- the numbers, from 1, of the calls that fail, how many calls were made, and how many of them failed
pub record Calls : Type 0 where
  pub failing : List ℕ
  pub made : ℕ
  pub faults : ℕ

-- no call was made yet
abbrev pub none_made : List ℕ → Calls
none_made failing = record { failing = failing; made = 0; faults = 0 }

-- the next call is one of those that fail
abbrev pub fails_next : Calls → Bool
fails_next calls = list_any (λ n. n == counted calls.made) calls.failing

-- a call was counted; where it fails its fault was counted too, else the count of faults stayed
pub record CountsCall (old new : Calls) (fails : Bool) : Type 0 where
  pub fails_is : fails ≡ fails_next old
  pub failing : new.failing ≡ old.failing
  pub made : new.made ≡ counted old.made
  pub later : old.faults ≤ new.faults
  pub risen : fails ≡ true → new.faults ≡ counted old.faults
  pub kept : fails ≡ false → new.faults ≡ old.faults

-- the next call was made, and failed or not as the numbers say
abbrev pub MakesCall : Calls → Calls → Type 0
MakesCall old new = CountsCall old new (fails_next old)

-- a source: the bytes that are left, how many were given, how often a read found the end, how many had been given then, the greatest sizes of
-- reads in turn, and the calls
pub record MemorySource : Type 0 where
  pub left : List ℕ
  pub given : ℕ
  pub ends : ℕ
  pub ended : ℕ
  pub cuts : List ℕ
  pub calls : Calls

-- a sink: the bytes that were written, and the calls
pub record MemorySink : Type 0 where
  pub written : List ℕ
  pub calls : Calls

-- files, how often one was read from, and the calls
pub record MemoryFiles : Type 0 where
  pub files : List Pair
  pub reads : ℕ
  pub calls : Calls

-- what is known of them
abbrev pub source_known : MemorySource → Input
source_known source = record { left = Some source.left; given = source.given; ends = source.ends; ended = source.ended; faults = source.calls.faults }

abbrev pub sink_known : MemorySink → Output
sink_known sink = record { written = Some sink.written; faults = sink.calls.faults }

abbrev pub files_known : MemoryFiles → Tree
files_known files = record { content = Some files.files; reads = files.reads; faults = files.calls.faults }

-- the most bytes of the read of this number: the sizes in turn, the last one repeated, none below 1; with no size no limit
abbrev pub greatest_read : List ℕ → ℕ → ℕ
greatest_read [] call = 2 ^ 64 - 1
greatest_read (cut ∷ cuts) call = max 1 (slice_index (cut ∷ cuts) (min (call - 1) (length cuts)))

-- how many bytes the next read gives, where the buffer has so much room
abbrev pub bytes_read : MemorySource → ℕ → ℕ
bytes_read source room = min (min (length source.left) room) (greatest_read source.cuts (counted source.calls.made))
