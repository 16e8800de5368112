-- What an object told, over several calls.
use Rattle.std.proofs.Common.{◌≡◌, List, [], ◌++◌, ℕ, Option, Some, None, refl, sym, ap, ◌∙◌, arith, inl, append_assoc, append-nil, length-append}
use Rattle.pf_base.specs.Outside.Objects.{Sinks, StopsBy, appended, joined}
use Rattle.pf_base.specs.Outside.Known.{HoldsPrefix, Input, Output, Takes, wrote}
use Rattle.pf_base.specs.declared.outside.texts.SinkFault.TheVariants as fault
use Rattle.pf_base.specs.declared.outside.texts.Texts.{Texts}
use Rattle.std.specs.Io.KnownBytes.{append_known, prepend_known}

pub append_known-nil : (k : Option (List ℕ)) → append_known k [] ≡ k
append_known-nil None = refl
append_known-nil (Some xs) = ap Some (append-nil xs)

pub append_known-append : (k : Option (List ℕ)) (a b : List ℕ) → append_known (append_known k a) b ≡ append_known k (a ++ b)
append_known-append None a b = refl
append_known-append (Some xs) a b = ap Some (append_assoc xs a b)

pub prepend_known-nil : (k : Option (List ℕ)) → prepend_known [] k ≡ k
prepend_known-nil None = refl
prepend_known-nil (Some xs) = refl

pub prepend_known-append : (a b : List ℕ) (k : Option (List ℕ)) → prepend_known a (prepend_known b k) ≡ prepend_known (a ++ b) k
prepend_known-append a b None = refl
prepend_known-append a b (Some xs) = ap Some (sym (append_assoc a b xs))

-- a text without bytes changes nothing
pub wrote_none : (old : Output) → wrote old [] ≡ old
wrote_none old = ap (λ k. record old { written = k }) (append_known-nil old.written)

pub wrote_more : (old : Output) (a b : List ℕ) → wrote (wrote old a) b ≡ wrote old (a ++ b)
wrote_more old a b = ap (λ k. record old { written = k }) (append_known-append old.written a b)

-- nothing of a text was written
pub prefix_none : (old : Output) (text : List ℕ) → HoldsPrefix old old text
prefix_none old text = (0, omega arith, sym (wrote_none old))

-- the same of all sinks
pub appended_none : (old : Sinks) → appended old (record { out = []; mail = []; log = [] }) ≡ old
appended_none old = rw (wrote_none old.out, wrote_none old.mail, wrote_none old.log) refl

pub appended_more : (old : Sinks) (a b : Texts) → appended (appended old a) b ≡ appended old (joined a b)
appended_more old a b = rw (wrote_more old.out a.out b.out, wrote_more old.mail a.mail b.mail, wrote_more old.log a.log b.log) refl

-- nothing was written, since it was out of memory before
pub stops_first : (old : Sinks) (texts : Texts) → StopsBy fault.NoMemory old old texts
stops_first old texts = inl (record { mail = prefix_none old.mail texts.mail; rest = refl })

-- bytes were taken, and then others
pub takes_more : {a b c : Input} {xs ys : List ℕ} → Takes a b xs → Takes b c ys → Takes a c (xs ++ ys)
takes_more {a} {b} {c} {xs} {ys} first second = record {
  left = first.left ∙ ap (prepend_known xs) second.left ∙ prepend_known-append xs ys c.left;
  given = omega (arith, first.given, second.given, length-append xs ys);
  ends = second.ends ∙ first.ends;
  ended = second.ended ∙ first.ended;
  faults = second.faults ∙ first.faults;
}

pub takes_none : (old : Input) → Takes old old []
takes_none old = record { left = sym (prepend_known-nil old.left); given = omega arith; ends = refl; ended = refl; faults = refl }
