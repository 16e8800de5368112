use Rattle.std.proofs.Common.{◌≡◌, ◌++◌, drop}
use Rattle.regex.specs.Strings.{captures_haystack, captures_span}
use Rattle.pf_pcre.specs.Patterns.{expanded}
use Rattle.pf_pcre.proofs.expand.expand.Given as goal

abbrev pub invariant-loop-piece : goal.invariant-loop-piece
invariant-loop-piece l =
    l.initial.value ++ expanded (captures_haystack l.captures) (captures_span l.captures) l.pieces
    ≡ l.value ++ expanded (captures_haystack l.captures) (captures_span l.captures) (drop l.piece-index l.pieces)
