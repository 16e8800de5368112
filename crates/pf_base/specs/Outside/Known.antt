-- What each object outside makes known to contracts, and what a call on it changes of that. An object that has an unknown content has None there;
-- its counts are known always. Words of contracts, by no standard.
use Rattle.std.specs.Prelude.{◌≡◌, ◌<◌, ◌≤◌, ◌⊎◌, ℕ, List, Option, Result, OnOk, OnErr, IsErrOf, MatchResult, length, take}
use Rattle.std.specs.Io.KnownBytes.{prepend_known, append_known, IsAtEnd}
use Rattle.std.specs.Option.{option_map}
use Rattle.pf_base.specs.Outside.Counts.{counted, counted_by}
use Rattle.pf_base.specs.Outside.FileList.{with_file}
use Rattle.pf_base.specs.declared.fault.OuterFault.{OuterFault}
use Rattle.pf_base.specs.declared.fault.OuterFault.TheVariants.{Failed, NoMemory}
use Rattle.pf_base.specs.declared.pair.Pair.{Pair}
use Rattle.pf_base.specs.declared.outside.reading.ReadFault.{ReadFault}
use Rattle.pf_base.specs.declared.outside.reading.ReadFault.TheVariants.{Failed as ReadFailed, TooLarge, NoMemory as ReadNoMemory}

-- where bytes come from: those that are left, how many were given, how often a read found the end, how many had been given when one did so last,
-- and how often one failed
pub record Input : Type 0 where
  pub left : Option (List ℕ)
  pub given : ℕ
  pub ends : ℕ
  pub ended : ℕ
  pub faults : ℕ

-- where bytes go: those that were written, and how often a write failed
pub record Output : Type 0 where
  pub written : Option (List ℕ)
  pub faults : ℕ

-- files: their names with their bytes, how often a file was read from, and how often a call failed
pub record Tree : Type 0 where
  pub content : Option (List Pair)
  pub reads : ℕ
  pub faults : ℕ

-- a call failed, and was counted
abbrev pub failed_input : Input → Input
failed_input old = record old { faults = counted old.faults }

abbrev pub failed_output : Output → Output
failed_output old = record old { faults = counted old.faults }

abbrev pub failed_tree : Tree → Tree
failed_tree old = record old { faults = counted old.faults }

-- a read found the end, and was counted
abbrev pub found_end : Input → Input
found_end old = record old { ends = counted old.ends; ended = old.given }

-- these bytes were taken, and counted; no read found the end
pub record Takes (old new : Input) (bytes : List ℕ) : Type 0 where
  pub left : old.left ≡ prepend_known bytes new.left
  pub given : new.given ≡ counted_by (length bytes) old.given
  pub ends : new.ends ≡ old.ends
  pub ended : new.ended ≡ old.ended
  pub faults : new.faults ≡ old.faults

-- a read took the n bytes that it put into the buffer; one of none found the end, or the buffer has no room for any and nothing changed
pub record Fills (old new : Input) (n : ℕ) (buf : List ℕ) : Type 0 where
  pub some : 0 < n → Takes old new (take n buf)
  pub end : n ≡ 0 → 0 < length buf → IsAtEnd old.left × (new ≡ found_end old)
  pub none : length buf ≡ 0 → new ≡ old

-- a read filled the buffer so far; a failed one took nothing
abbrev pub Reads : {E : Type 0} → Input → Input → Result ℕ E → List ℕ → Type 0
Reads old new result buf = MatchResult result (λ n. Fills old new n buf) (λ _. new ≡ failed_input old)

-- a text was written
abbrev pub wrote : Output → List ℕ → Output
wrote old text = record old { written = append_known old.written text }

-- a prefix of a text was written
abbrev pub HoldsPrefix : Output → Output → List ℕ → Type 0
HoldsPrefix old new text = (n : ℕ) × (n ≤ length text) × (new ≡ wrote old (take n text))

-- a write added the whole piece; a refused one added a prefix of it, and one that failed was counted
pub record Writes {T : Type 0} (old new : Output) (result : Result T OuterFault) (piece : List ℕ) : Type 0 where
  pub whole : OnOk result (new ≡ wrote old piece)
  pub failed : IsErrOf result Failed → HoldsPrefix (failed_output old) new piece
  pub memory : IsErrOf result NoMemory → HoldsPrefix old new piece

-- a call that changes no file
pub record Looks {T E : Type 0} (old new : Tree) (result : Result T E) : Type 0 where
  pub kept : OnOk result (new ≡ old)
  pub failed : OnErr result (new ≡ failed_tree old)

-- a file was read from once more
abbrev pub read_once : Tree → Tree
read_once old = record old { reads = counted old.reads }

-- a file has these bytes
abbrev pub replaced : List ℕ → List ℕ → Tree → Tree
replaced name bytes old = record old { content = option_map (λ files. with_file files name bytes) old.content }

-- a replacement put the bytes in the place of the file; a refused one left the files as before or as after it, and one that failed was counted
pub record Replaces {T : Type 0} (old new : Tree) (result : Result T OuterFault) (name bytes : List ℕ) : Type 0 where
  pub done : OnOk result (new ≡ replaced name bytes old)
  pub failed : IsErrOf result Failed → (new ≡ failed_tree old) ⊎ (new ≡ failed_tree (replaced name bytes old))
  pub memory : IsErrOf result NoMemory → (new ≡ old) ⊎ (new ≡ replaced name bytes old)

-- a file was read whole, by any number of reads, of which the last may have failed
pub record ReadsWhole {T : Type 0} (old new : Tree) (result : Result T ReadFault) : Type 0 where
  pub same : new.content ≡ old.content
  pub failed : IsErrOf result ReadFailed → new.faults ≡ counted old.faults
  pub large : IsErrOf result TooLarge → new.faults ≡ old.faults
  pub memory : IsErrOf result ReadNoMemory → new.faults ≡ old.faults
  pub kept : OnOk result (new.faults ≡ old.faults)
