-- A line of the log is one line.
use Rattle.std.proofs.Common.{◌≡◌, ◌≢◌, ℕ, Bool, true, false, List, [], ◌∷◌, refl, arith, zero, suc, if◌then◌else◌}
use Rattle.std.proofs.lemmas.Bool.{ltb-false}
use Rattle.std.specs.Prelude.{◌||◌, nat_lt, ◌==◌}
use Rattle.pf_base.proofs.LineEnds.{HasNoFeed, lines_of_line}
use Rattle.pf_base.specs.Text.Lines.{lines}
use Rattle.pf_base.specs.Text.Printing.{printable, printed, printed_line}

-- no byte prints as a line feed
no_feed : (b : ℕ) → printable b ≢ 10
no_feed b = by_test (nat_lt b 32) refl where
  by_test : (t : Bool) → nat_lt b 32 ≡ t → (if t || b == 127 then 63 else b) ≢ 10
  by_test true is = λ e. cc
  by_test false is = by_last (b == 127) where
    by_last : (u : Bool) → (if u then 63 else b) ≢ 10
    by_last true = λ e. cc
    by_last false = λ e. let least = ltb-false b 32 is in omega (arith, least, e)

printed_no_feed : (text : List ℕ) → HasNoFeed (printed text)
printed_no_feed [] k lt = absurd (omega (arith, lt))
printed_no_feed (b ∷ text) zero lt = no_feed b
printed_no_feed (b ∷ text) (suc k) lt = printed_no_feed text k (omega (arith, lt))

-- no line of the log holds a line feed before its end
pub one_line : (text : List ℕ) → lines (printed_line text) ≡ printed text ∷ []
unfolding printed_line
one_line text = lines_of_line (printed text) (printed_no_feed text)
