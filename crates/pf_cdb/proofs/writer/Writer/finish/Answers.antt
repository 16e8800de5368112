use Rattle.std.proofs.Common.{◌≡◌, ◌≤◌, None, length, ap, ◌∙◌, sym, subst, arith}
use Rattle.std.specs.List.{find}
use Rattle.std.specs.Str.{bytes_eq}
use Rattle.pf_cdb.proofs.AddingLaws.{size_prefix}
use Rattle.pf_cdb.proofs.DamageLaws.{none_from_sound}
use Rattle.pf_cdb.proofs.ElementLaws.{elements_written, firsts_all}
use Rattle.pf_cdb.proofs.RepeatLaws.{from_not, not_from, says_repeated, tables_named}
use Rattle.pf_cdb.proofs.WrittenSoundLaws.{found_written, sound_written}
use Rattle.pf_cdb.specs.Clauses.Gathered.{slot_lists}
use Rattle.pf_cdb.specs.Damaged.{first_damage}
use Rattle.pf_cdb.specs.Held.{elements_of}
use Rattle.pf_cdb.specs.Sound.{IsSound}
use Rattle.pf_cdb.specs.Written.{firsts, placed, written}
use Rattle.pf_cdb.proofs.writer.Writer.finish.Goals as goal

pub returns-in_err-bytes-clause-fits : goal.returns-in_err-bytes-clause-fits
returns-in_err-bytes-clause-fits c =
    omega (arith, size_prefix c.self.inside.file c.self.inside.slots.items c.self.invariant, ap (λ p. length (written p)) c.self.view_is, c.self.invariant.fits)

pub all_held-repeats-requires-clause-sound : goal.all_held-repeats-requires-clause-sound
all_held-repeats-requires-clause-sound c =
    let fits : length (written c.args.self) ≤ 67108864 =
    omega (arith, size_prefix c.self.inside.file c.self.inside.slots.items c.self.invariant, ap (λ p. length (written p)) c.self.view_is, c.self.invariant.fits) in
    subst IsSound (sym (c.as_slice.ensures ∙ c.in_ok-bytes.ensures.whole ∙ ap written c.self.view_is)) (sound_written c.args.self fits)

pub all_held-repeats-requires-clause-named : goal.all_held-repeats-requires-clause-named
all_held-repeats-requires-clause-named c =
    let fits : length (written c.args.self) ≤ 67108864 =
    omega (arith, size_prefix c.self.inside.file c.self.inside.slots.items c.self.invariant, ap (λ p. length (written p)) c.self.view_is, c.self.invariant.fits) in
    tables_named c.args.self c.as_slice.result.now c.self.inside.slots.items (slot_lists c.as_slice-2.result.now) fits
    (c.as_slice.ensures ∙ c.in_ok-bytes.ensures.whole ∙ ap written c.self.view_is)
    (c.self.invariant.all ∙ ap (placed 2048) c.self.view_is)
    (ap slot_lists c.as_slice-2.ensures.value ∙ c.in_ok-bytes.ensures.buckets)

pub returns : goal.returns
returns c =
    let pairs = c.args.self in
    let fits : length (written pairs) ≤ 67108864 =
    omega (arith, size_prefix c.self.inside.file c.self.inside.slots.items c.self.invariant, ap (λ p. length (written p)) c.self.view_is, c.self.invariant.fits) in
    let is : c.in_ok-bytes.bytes ≡ written pairs = c.in_ok-bytes.ensures.whole ∙ ap written c.self.view_is in
    let sound = sound_written pairs fits in
    let says = says_repeated pairs c.as_slice.result.now c.self.inside.slots.items (slot_lists c.as_slice-2.result.now) c.all_held-repeats.result fits
    (c.as_slice.ensures ∙ is) (c.self.invariant.all ∙ ap (placed 2048) c.self.view_is)
    (ap slot_lists c.as_slice-2.ensures.value ∙ c.in_ok-bytes.ensures.buckets) c.all_held-repeats.ensures in
    record {
      file = is;
      repeated = λ e distinct. not_from c.all_held-repeats.result e (says.1 distinct);
      single = λ e. says.0 (from_not c.all_held-repeats.result e);
      fits = fits;
      sound = subst IsSound (sym is) sound;
      undamaged = subst (λ file. first_damage file ≡ None) (sym is) (none_from_sound (written pairs) sound);
      stands_for = subst (λ file. elements_of file ≡ firsts pairs) (sym is) (elements_written pairs fits);
      distinct = λ distinct. subst (λ file. elements_of file ≡ pairs) (sym is) (elements_written pairs fits ∙ firsts_all pairs distinct);
      finds = λ key.
          subst (λ file. find (λ pair. bytes_eq pair.key key) (elements_of file) ≡ find (λ pair. bytes_eq pair.key key) pairs) (sym is)
          (found_written pairs key fits);
    }
