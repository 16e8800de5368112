use Rattle.std.proofs.Common.{◌≡◌, None, Err, refl, ◌∙◌, subst, arith}
use Rattle.std.specs.Prelude.{IfOk}
use Rattle.std.specs.List.{find}
use Rattle.std.specs.Str.{bytes_eq}
use Rattle.pf_base.specs.Clauses.Unless.{Unless}
use Rattle.pf_cdb.proofs.DamageLaws.{none_from_sound}
use Rattle.pf_cdb.proofs.ElementLaws.{elements_written, firsts_all}
use Rattle.pf_cdb.proofs.OutcomeLaws.{if_written, unless_written}
use Rattle.pf_cdb.proofs.WrittenSoundLaws.{found_written, sound_written}
use Rattle.pf_cdb.specs.Damaged.{first_damage}
use Rattle.pf_cdb.specs.Held.{elements_of}
use Rattle.pf_cdb.specs.Sound.{IsSound}
use Rattle.pf_cdb.specs.Written.{HasDistinctKeys, firsts, written, written_file}
use Rattle.pf_cdb.specs.declared.fault.WriteFault.TheVariants.{NoMemory, TooLarge}
use Rattle.pf_cdb.proofs.writing.write.Goals as goal

pub returns-then-not-fits : goal.returns-then-not-fits
returns-then-not-fits c = record {
  file = unless_written c.args.entries.now (Err TooLarge) tt tt (λ e. c.fits.ensures.no c.if-not-fits.true);
  large = λ over. refl;
  sound = tt;
  undamaged = tt;
  stands_for = tt;
  distinct = λ distinct. tt;
  finds = λ key. tt;
}

pub returns : goal.returns
returns c =
    let pairs = c.as_slice.result.now in
    let r = c.file_of.result in
    let bytes = c.file_of.ensures.bytes in
    let fits = c.file_of.ensures.fits in
    record {
      file =
          subst (λ entries. Unless r NoMemory (λ answer. answer ≡ written_file entries)) c.as_slice.ensures
          (unless_written pairs r bytes fits c.file_of.ensures.large);
      large = λ over. absurd (omega (arith, over, c.fits.ensures.yes c.if-not-fits.false));
      sound = if_written pairs IsSound r bytes fits (sound_written pairs);
      undamaged = if_written pairs (λ file. first_damage file ≡ None) r bytes fits (λ f. none_from_sound (written pairs) (sound_written pairs f));
      stands_for =
          subst (λ entries. IfOk r (λ file. elements_of file ≡ firsts entries)) c.as_slice.ensures
          (if_written pairs (λ file. elements_of file ≡ firsts pairs) r bytes fits (elements_written pairs));
      distinct =
          subst (λ entries. HasDistinctKeys entries → IfOk r (λ file. elements_of file ≡ entries)) c.as_slice.ensures
          (λ distinct. if_written pairs (λ file. elements_of file ≡ pairs) r bytes fits (λ f. elements_written pairs f ∙ firsts_all pairs distinct));
      finds = λ key.
          subst (λ entries. IfOk r (λ file. find (λ pair. bytes_eq pair.key key) (elements_of file) ≡ find (λ pair. bytes_eq pair.key key) entries)) c.as_slice.ensures
          (if_written pairs (λ file. find (λ pair. bytes_eq pair.key key) (elements_of file) ≡ find (λ pair. bytes_eq pair.key key) pairs) r bytes fits
          (found_written pairs key));
    }
