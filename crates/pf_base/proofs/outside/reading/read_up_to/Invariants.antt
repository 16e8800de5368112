use Rattle.std.proofs.Common.{◌≡◌, ◌-◌, ◌≤◌, List, length, take, Some, [], unwrap_or}
use Rattle.pf_base.specs.Outside.FileList.{file_of}
use Rattle.pf_base.specs.declared.pair.Pair.{Pair}
use Rattle.pf_base.proofs.outside.reading.read_up_to.Given as goal

abbrev pub invariant-parts : goal.invariant-parts
invariant-parts g l =
    ((all : List Pair) → (g.F.Files.known l.initial.files).content ≡ Some all →
    l.bytes ≡ take (length l.bytes) (unwrap_or (file_of all l.name) []))
    × (length l.bytes ≤ l.size)
    × ((g.F.Files.known l.files).content ≡ (g.F.Files.known l.initial.files).content)
    × ((g.F.Files.known l.files).faults ≡ (g.F.Files.known l.initial.files).faults)

abbrev pub decreases-parts : goal.decreases-parts
decreases-parts g l = l.size - length l.bytes
