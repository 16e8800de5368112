-- The lines of names, one after the other.
use Rattle.std.proofs.Common.{◌≡◌, ℕ, ◌+◌, ◌<◌, ◌++◌, drop, length, get_or, List, ◌∷◌, Ok, Err, Result, sym, ap, refl, ◌∙◌, append_assoc}
use Rattle.std.proofs.lemmas.List.{drop_more}
use Rattle.pf_base.specs.Results.{◌>>=◌}
use Rattle.pf_base.specs.declared.refused.Refused.{Refused}
use Rattle.pf_maincf.specs.Settings.{Conf}
use Rattle.pf_tools.specs.Printed.{line_of, lines_of}
use Rattle.pf_words.specs.declared.postconf.ConfWords.{ConfWords}

-- after a line that is there
pub line_more : (words : ConfWords) (s : Conf) (names : List (List ℕ)) (i : ℕ) (name line lines : List ℕ)
    → i < length names → name ≡ get_or names i name → line_of words s name ≡ Ok line
    → (lines_of words s (drop (i + 1) names) >>= (λ behind. Ok ((lines ++ line) ++ behind))) ≡ (lines_of words s (drop i names) >>= (λ behind. Ok (lines ++ behind)))
line_more words s names i name line lines within is there =
    by_rest (lines_of words s (drop (i + 1) names))
    ∙ ap (λ first. (first >>= (λ line. lines_of words s (drop (i + 1) names) >>= (λ behind. Ok (line ++ behind)))) >>= (λ behind. Ok (lines ++ behind))) (sym there)
    ∙ ap (λ names. lines_of words s names >>= (λ behind. Ok (lines ++ behind))) (sym (drop_more names i name within ∙ ap (λ first. first ∷ drop (i + 1) names) (sym is)))
  where
    by_rest : (r : Result (List ℕ) Refused) → (r >>= (λ behind. Ok ((lines ++ line) ++ behind))) ≡ ((r >>= (λ behind. Ok (line ++ behind))) >>= (λ behind. Ok (lines ++ behind)))
    by_rest (Ok behind) = ap Ok (append_assoc lines line behind)
    by_rest (Err refusal) = refl
